-- Turns of two disks, one after another.
use Rattle.std.proofs.Common.{◌⊎◌, inl, inr, ⊎_elim, ℕ, List, [], ◌∷◌, ◌++◌, refl, sym, subst}
use Rattle.edge_disk.specs.Disk.{Moment, LeavesOnly}
use Rattle.spool_move.specs.Turns.{Turn, OfSource, OfTarget, AreTurns, WasLeft, LeavesBoth}

are_then : {D E : Type 0} (a mid last : D) (b mid' last' : E) (xs ys : List (Turn D E)) → AreTurns a b xs mid mid' → AreTurns mid mid' ys last last' → AreTurns a b (xs ++ ys) last last'
are_then {D} {E} a mid last b mid' last' [] ys first next =
    subst (λ (x : D). AreTurns x b ys last last') first.0 (subst (λ (y : E). AreTurns mid y ys last last') first.1 next)
are_then a mid last b mid' last' (OfSource x ∷ xs) ys first next = are_then x mid last b mid' last' xs ys first next
are_then a mid last b mid' last' (OfTarget y ∷ xs) ys first next = are_then a mid last y mid' last' xs ys first next

was_then : {D E : Type 0} (on : D → Moment) (onto : E → Moment) (a mid : D) (b mid' : E) (xs ys : List (Turn D E)) (c d : List ℕ) → AreTurns a b xs mid mid' → WasLeft on onto a b (xs ++ ys) c d
    → WasLeft on onto a b xs c d ⊎ WasLeft on onto mid mid' ys c d
was_then {D} {E} on onto a mid b mid' [] ys c d first was =
    inr (subst (λ (x : D). WasLeft on onto x mid' ys c d) (sym first.0) (subst (λ (y : E). WasLeft on onto a y ys c d) (sym first.1) was))
was_then on onto a mid b mid' (OfSource x ∷ xs) ys c d first (inl here) = inl (inl here)
was_then on onto a mid b mid' (OfSource x ∷ xs) ys c d first (inr rest) = elim (was_then on onto x mid b mid' xs ys c d first rest) [ inl p ↦ inl (inr p) | inr q ↦ inr q ]
was_then on onto a mid b mid' (OfTarget y ∷ xs) ys c d first (inl here) = inl (inl here)
was_then on onto a mid b mid' (OfTarget y ∷ xs) ys c d first (inr rest) = elim (was_then on onto a mid y mid' xs ys c d first rest) [ inl p ↦ inl (inr p) | inr q ↦ inr q ]

module _ {D E : Type 0} (on : D → Moment) (onto : E → Moment) where
  -- some turns, and then others
  pub both_then : (P Q R : List ℕ → List ℕ → Type 0) (a mid last : D) (b mid' last' : E) → LeavesBoth on onto P a b mid mid' → LeavesBoth on onto Q mid mid' last last'
      → ((c d : List ℕ) → P c d → R c d) → ((c d : List ℕ) → Q c d → R c d) → LeavesBoth on onto R a b last last'
  both_then P Q R a mid last b mid' last' first next p q = record {
    turns = first.turns ++ next.turns;
    are = are_then a mid last b mid' last' first.turns next.turns first.are next.are;
    each = λ c d was. ⊎_elim (λ h. p c d (first.each c d h)) (λ h. q c d (next.each c d h)) (was_then on onto a mid b mid' first.turns next.turns c d first.are was);
  }

  -- no turn
  pub both_still : (P : List ℕ → List ℕ → Type 0) (a : D) (b : E) → ((c d : List ℕ) → (on a).image c → (onto b).image d → P c d) → LeavesBoth on onto P a b a b
  both_still P a b now = record { turns = []; are = (refl, refl); each = λ c d was. now c d was.0 was.1 }

  -- a turn of the one, and of the other
  pub source_turn : (P : List ℕ → List ℕ → Type 0) (Q : List ℕ → Type 0) (a a' : D) (b : E) → LeavesOnly Q (on a) (on a') → ((c d : List ℕ) → Q c → (onto b).image d → P c d) → LeavesBoth on onto P a b a' b
  source_turn P Q a a' b run pairs = record {
    turns = OfSource a' ∷ [];
    are = (refl, refl);
    each = λ c d was. elim was [ inl here ↦ pairs c d (run.each c here.0) here.1 | inr now ↦ pairs c d (run.now c now.0) now.1 ];
  }

  pub target_turn : (P : List ℕ → List ℕ → Type 0) (Q : List ℕ → Type 0) (a : D) (b b' : E) → LeavesOnly Q (onto b) (onto b') → ((c d : List ℕ) → (on a).image c → Q d → P c d) → LeavesBoth on onto P a b a b'
  target_turn P Q a b b' run pairs = record {
    turns = OfTarget b' ∷ [];
    are = (refl, refl);
    each = λ c d was. elim was [ inl here ↦ pairs c d here.0 (run.each d here.1) | inr now ↦ pairs c d now.0 (run.now d now.1) ];
  }

  pub both_as : (P Q : List ℕ → List ℕ → Type 0) (a a' : D) (b b' : E) → LeavesBoth on onto P a b a' b' → ((c d : List ℕ) → P c d → Q c d) → LeavesBoth on onto Q a b a' b'
  both_as P Q a a' b b' run p = record { turns = run.turns; are = run.are; each = λ c d was. p c d (run.each c d was) }
