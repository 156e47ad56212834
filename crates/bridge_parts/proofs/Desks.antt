-- A desk over a spool that was opened.
use Rattle.std.proofs.Common.{◌≡◌, ℕ, [], refl, sym, ◌∙◌, ap, subst, arith}
use Rattle.std.proofs.lemmas.List.Elements.{All-nil}
use Rattle.spool_state.specs.SpoolState.{SpoolState, IsSound}
use Rattle.hec_ids.proofs.CallLaws.{opened_is_sound}
use Rattle.hec_ids.specs.Table.{Table}
use Rattle.hec_ids.specs.Rows as Ids
use Rattle.spool_desk.specs.Alone.{AloneView, IsAt}
use Rattle.desk_access.specs.Desk.{desk_of}
use Rattle.desk_access.specs.History.{IsDesk, IsLater}
use Rattle.bridge_parts.specs.Opened.{desk_in}

-- a desk whose ids are those of the spool's run, none issued
pub desk_at : (s : SpoolState) (ids : Table) (run : ℕ) (v : AloneView) → ids ≡ Ids.opened run 0 → run ≡ s.run
    → IsAt (desk_of s [] ids) v → IsAt (desk_in s) v
desk_at s ids run v none same at = subst (λ (t : Table). IsAt (desk_of s [] t) v) (none ∙ ap (λ (n : ℕ). Ids.opened n 0) same) at

-- the desk of a spool that was opened keeps the rules
pub desk_rules : (s : SpoolState) → IsSound s → IsDesk (desk_in s)
desk_rules s sound = record {
  sound = sound;
  later = All-nil (IsLater s);
  told = λ m n one other same. one ∙ sym other;
  ids = opened_is_sound s.run 0 (omega (arith, sound.run)) (omega arith);
  run = refl;
}
