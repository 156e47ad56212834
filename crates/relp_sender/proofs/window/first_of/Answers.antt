use Rattle.std.proofs.Common.{ℕ, ◌≤◌, length, subst, arith}
use Rattle.std.specs.Prelude.{All, ◌≢◌}
use Rattle.std.proofs.lemmas.List.{take_all}
use Rattle.relp_sender.specs.Texts.{txnr_of}
use Rattle.relp_sender.proofs.window.first_of.Goals as goal

pub returns-clause-none : goal.returns-clause-none
returns-clause-none c =
    let places = c.args.places.now in
    let all : length places.items ≤ c.loop-index.index = omega (arith, c.loop-index-test.false, c.len-index-end.ensures, places.ok.0) in
    subst (All (λ (p : ℕ). txnr_of p ≢ c.args.txnr)) (take_all c.loop-index.index places.items all) c.loop-index.invariant.none
