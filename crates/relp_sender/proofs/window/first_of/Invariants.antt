use Rattle.std.proofs.Common.{ℕ, take}
use Rattle.std.specs.Prelude.{All, ◌≢◌}
use Rattle.relp_sender.specs.Texts.{txnr_of}
use Rattle.relp_sender.proofs.window.first_of.Given as goal

abbrev pub invariant-loop-index : goal.invariant-loop-index
invariant-loop-index l = record {
  none : All (λ (p : ℕ). txnr_of p ≢ l.txnr) (take l.index l.places.items);
}
