-- A source and a target in the midst of a move. As it began they were the states `m` and `u`.
use Rattle.std.specs.Prelude.{◌≡◌, ◌⊎◌, ℕ, ◌+◌, ◌*◌, ◌<◌, ◌≤◌, false, List, [], ◌∷◌, ◌++◌, length, take, drop, Err}
use Rattle.event_form.specs.declared.event.Entry.{Entry}
use Rattle.spool_state.specs.SpoolState.{SpoolState, list, base, end, numbers_of, Follows}
use Rattle.spool_state.specs.Left.{NumberedEntry, left, numbered}
use Rattle.spool_state.specs.Image.{StandsFor}
use Rattle.spool_faults.specs.declared.fault.TakeFault.{TakeFault}
use Rattle.spool_answers.specs.Take.{IsRefusal, Takes}
use Rattle.spool_move.specs.Moved.{all_moved, is_present, missing, moved}
use Rattle.spool_move.specs.Strange.{NoneIsStrange}

-- The source has given up the first so many entries that it had left: they are known as confirmed. Nothing else changed.
pub record HasGivenUp (m : SpoolState) (given : ℕ) (s : SpoolState) : Type 0 where
  pub base_same : base s ≡ base m
  pub list_same : list s ≡ list m
  pub run_same : s.run ≡ m.run
  pub follows : Follows m s
  pub left_is : left s ≡ drop given (left m)

-- Behind all that the spool had these entries were taken. Nothing else changed.
pub record HasTaken (u : SpoolState) (more : List Entry) (t : SpoolState) : Type 0 where
  pub known_same : numbers_of t ≡ numbers_of u
  pub run_same : t.run ≡ u.run
  pub follows : Follows u t
  pub ends : end t ≡ end u + length more
  pub left_is : left t ≡ left u ++ numbered (end u) more

-- so many of the entries that the source had left are whole pages of 128, or all
abbrev pub ArePages : SpoolState → ℕ → Type 0
ArePages m n = ((pages : ℕ) × (n ≡ pages * 128)) ⊎ (n ≡ length (left m))

-- The target, in its state now, refuses the entry after so many, which it didn't have, for want of room or of numbers.
pub record RefusesNext (tag : ℕ) (m u : SpoolState) (walked : ℕ) (t : SpoolState) : Type 0 where
  pub one : NumberedEntry
  pub rest : List NumberedEntry
  pub next : drop walked (left m) ≡ one ∷ rest
  pub absent : is_present tag (left u) one.number ≡ false
  pub fault : TakeFault
  pub wants : IsRefusal fault
  pub refused : Takes t (moved tag one ∷ []) (Err fault)

-- What is given up are whole pages, or all entries; or all that are walked, where the target refuses the next one.
abbrev pub AreGivenUp : (tag : ℕ) (m u : SpoolState) (walked given : ℕ) (t : SpoolState) → Type 0
AreGivenUp tag m u walked given t = ArePages m given ⊎ ((given ≡ walked) × RefusesNext tag m u walked t)

-- Of the entries that the source had left so many are walked, and the first ones of these given up: after every 128, at the end, and where
-- the target refuses the next one, and before another is walked. The target has taken those of the walked ones that it didn't have, and
-- none is walked where one of its entries was strange.
pub record Stands (tag : ℕ) (m u : SpoolState) (walked given : ℕ) (s t : SpoolState) : Type 0 where
  pub within : walked ≤ length (left m)
  pub behind : given ≤ walked
  pub soon : walked ≤ given + 128
  pub paged : AreGivenUp tag m u walked given t
  pub sure : 0 < walked → NoneIsStrange tag m (left u)
  pub source : HasGivenUp m given s
  pub target : HasTaken u (all_moved tag (missing tag (left u) (take walked (left m)))) t

-- The bytes of both devices stand for that.
abbrev pub IsMoving : ℕ → SpoolState → SpoolState → List ℕ → List ℕ → Type 0
IsMoving tag m u c d = (walked : ℕ) × (given : ℕ) × (s : SpoolState) × (t : SpoolState) × StandsFor s c × StandsFor t d × Stands tag m u walked given s t
