use Rattle.std.proofs.Common.{◌∙◌, ◌++◌, List, ℕ, ap, length, append_assoc}
use Rattle.std.specs.Prelude.{codes}
use Rattle.hec_sender.specs.Texts.{post_head}
use Rattle.load_run.specs.Stream.{terms}
use Rattle.load_run.proofs.stream.write_request.Goals as goal

pub returns : goal.returns
returns c =
    let out = c.args.out.now.items in
    let head = post_head terms (codes "/services/collector/event") (length c.args.body.now) in
    c.in_ok-extend_from_slice-2.ensures.items
    ∙ ap (λ (l : List ℕ). l ++ c.args.body.now) (c.in_ok-extend_from_slice.ensures.items ∙ ap (λ (l : List ℕ). out ++ l) (c.deref.ensures.value ∙ c.in_ok-head.ensures))
    ∙ append_assoc out head c.args.body.now
