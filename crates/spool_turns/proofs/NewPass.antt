-- A new pass of a desk that nobody called.
use Rattle.std.proofs.Common.{◌≡◌, ℕ, ◌<◌, [], refl, sym, subst}
use Rattle.std.specs.Prelude.{None}
use Rattle.atomic_table.specs.Table.{Me}
use Rattle.desk_access.specs.Desk.{DeskState}
use Rattle.spool_desk.specs.Alone.{AloneView, IsAt}
use Rattle.spool_turns.specs.Rules.{View, facts, new_pass}
use Rattle.spool_turns.specs.Passes.{IsPass, Sound, pass_of, pass_in}
use Rattle.spool_turns.specs.Stands.{IsTold}
use Rattle.spool_turns.proofs.Kept.{exact_of}

pub new_pass_is : (tells : Type 0) (start : DeskState → Type 0) (number seats : ℕ) (v : AloneView) (me : Me ℕ View) → me ≡ pass_of (new_pass (facts number [] v.end_known v.cursor_known)) → number < seats → IsTold v
    → ((x : DeskState) → start x → tells × IsAt x v)
    → IsPass me × Sound start (pass_in me.0) × ((pass_in me.0).number ≡ number) × (number < seats) × ((pass_in me.0).out ≡ None)
new_pass_is tells start number seats v me is less told at =
    subst (λ (x : Me ℕ View). IsPass x × Sound start (pass_in x.0) × ((pass_in x.0).number ≡ number) × (number < seats) × ((pass_in x.0).out ≡ None)) (sym is)
    (refl, record { also = refl; own = refl; lawful = λ x s. let h = at x s in let e = exact_of tells v told x h.0 h.1 in (x, refl, e.0, e.1) }, refl, less, refl)
