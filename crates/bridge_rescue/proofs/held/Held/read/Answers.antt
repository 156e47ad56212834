use Rattle.std.proofs.Common.{rules, ◌≡◌, ◌++◌, ◌∙◌, ◌-◌, ℕ, List, drop, ap}
use Rattle.std.specs.Prelude.{replicate}
use Rattle.std.proofs.lemmas.List.{with_items_is, drop-replicate, places}
use Rattle.foundation.specs.Bytes.{part}
use Rattle.bridge_rescue.specs.Held.{held_size}
use Rattle.bridge_rescue.proofs.held.Held.read.Goals as goal

pub returns-clause-bytes : goal.returns-clause-bytes
returns-clause-bytes g c = λ tells.
    let front = part c.args.at c.args.n (g.D.Disk.moment c.args.disk.now).reads in
    let size = c.max-size.result in
    let zeros : c.in_ok-bytes.bytes.items ≡ replicate size 0 = search rules in
    let rest : replicate (size - c.args.n) 0 ≡ replicate (held_size c.args.n - c.args.n) 0 = ap (λ (m : ℕ). replicate (m - c.args.n) 0) c.max-size.ensures in
    with_items_is c.in_ok-bytes.bytes c.read_front.new.bytes (search (rules, places))
    ∙ c.in_ok-read_front.ensures.read tells
    ∙ ap (λ (l : List ℕ). front ++ drop c.args.n l) (c.deref_mut.ensures.value ∙ zeros)
    ∙ ap (λ (l : List ℕ). front ++ l) (drop-replicate c.args.n size 0 ∙ rest)
