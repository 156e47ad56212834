-- Open slots at the end of a list.
use Rattle.std.proofs.Common.{List, [], ◌∷◌, ◌++◌, length, subst, arith, length-append}
use Rattle.std.specs.Prelude.{All}
use Rattle.std.proofs.lemmas.List.{get_or_append_left}
use Rattle.std.proofs.Math.Seq.{get_or-append_seam}
use Rattle.spool_state.specs.SpoolState.{OpenSlot}

pub all_front : (P : OpenSlot → Type 0) (xs : List OpenSlot) (x : OpenSlot) → All P (xs ++ x ∷ []) → All P xs
all_front P xs x h = λ k d lt. subst P (get_or_append_left xs (x ∷ []) d k lt) (h k d (omega (arith, length-append xs (x ∷ []))))

pub all_last : (P : OpenSlot → Type 0) (xs : List OpenSlot) (x : OpenSlot) → All P (xs ++ x ∷ []) → P x
all_last P xs x h = subst P (get_or-append_seam xs x [] x) (h (length xs) x (omega (arith, length-append xs (x ∷ []))))
