-- Runs of a move, one after another, over disks that nobody else changes meanwhile.
use Rattle.std.specs.Prelude.{◌≡◌, ◌⊎◌, ◌≢◌, ℕ, ◌≤◌, ◌==◌, List, [], ◌∷◌, length, map, take, drop, All, AllPairs, Result, Ok}
use Rattle.std.specs.List.{filter, Contains}
use Rattle.edge_disk.specs.Disk.{Moment}
use Rattle.event_form.specs.declared.event.Entry.{Entry}
use Rattle.spool_state.specs.SpoolState.{SpoolState}
use Rattle.spool_state.specs.Left.{NumberedEntry, left}
use Rattle.spool_state.specs.Image.{StandsFor}
use Rattle.spool_move.specs.declared.fault.MoveFault.{MoveFault}
use Rattle.spool_move.specs.Moved.{connection_of, moved, all_moved}
use Rattle.spool_move.specs.Stands.{Stands, IsMoving}
use Rattle.spool_move.specs.Turns.{Turn, AreTurns, WasLeft}

-- ---- one run

-- the bytes of both devices stand for a move that is done
abbrev pub IsMoved : ℕ → SpoolState → SpoolState → List ℕ → List ℕ → Type 0
IsMoved tag m u c d = (s : SpoolState) × (t : SpoolState) × StandsFor s c × StandsFor t d × Stands tag m u (length (left m)) (length (left m)) s t

-- One run led by these turns from two disks to two: both stood for spools, which were opened as they are. Whatever a crash left meanwhile is
-- what it could leave before, or the midst of the move; and where all was moved, what is left at the end is that.
pub record IsRun {D E : Type 0} (on : D → Moment) (onto : E → Moment) (tag : ℕ) (result : Result ℕ MoveFault) (a : D) (b : E) (turns : List (Turn D E)) (a' : D) (b' : E) : Type 0 where
  pub s : SpoolState
  pub t : SpoolState
  pub source : StandsFor s (on a).reads
  pub target : StandsFor t (onto b).reads
  pub are : AreTurns a b turns a' b'
  pub each : (c d : List ℕ) → WasLeft on onto a b turns c d → ((on a).image c × (onto b).image d) ⊎ IsMoving tag s t c d
  pub done : (count : ℕ) → result ≡ Ok count → (c d : List ℕ) → (on a').image c → (onto b').image d → IsMoved tag s t c d

-- The next disks are those after a run; or a crash came, now or at some moment of a run, and each of the two has what it left of it.
abbrev pub IsNextPair : {D E : Type 0} → (D → Moment) → (E → Moment) → ℕ → D → E → D → E → Type 0
IsNextPair {D} {E} on onto tag a b a' b' =
    ((result : Result ℕ MoveFault) × (turns : List (Turn D E)) × IsRun on onto tag result a b turns a' b')
    ⊎ (((c d : List ℕ) → (on a').image c → (onto b').image d → (on a).image c × (onto b).image d)
    ⊎ ((result : Result ℕ MoveFault) × (turns : List (Turn D E)) × (x : D) × (y : E) × IsRun on onto tag result a b turns x y × ((c d : List ℕ) → (on a').image c → (onto b').image d → WasLeft on onto a b turns c d)))

-- each of these is the next after the one before
abbrev pub AreNextPairs : {D E : Type 0} → (D → Moment) → (E → Moment) → ℕ → D → E → List (D × E) → Type 0
AreNextPairs on onto tag a b [] = Unit {0}
AreNextPairs on onto tag a b (next ∷ later) = IsNextPair on onto tag a b next.0 next.1 × AreNextPairs on onto tag next.0 next.1 later

-- ---- what the two hold

-- the entries of this tag among them
abbrev pub tagged : ℕ → List NumberedEntry → List Entry
tagged tag there = filter (λ e. e.conn == connection_of tag) (map (λ one. one.entry) there)

-- the source has these entries left, and the target none of the tag
abbrev pub IsFirst : ℕ → List NumberedEntry → List ℕ → List ℕ → Type 0
IsFirst tag first c d = (s : SpoolState) × (t : SpoolState) × StandsFor s c × StandsFor t d × (left s ≡ first) × (tagged tag (left t) ≡ [])

-- So many of the first entries were moved into the target, in order, and of these the source has given up the first ones.
pub record HasMoved (tag : ℕ) (first : List NumberedEntry) (walked given : ℕ) (s t : SpoolState) : Type 0 where
  pub within : walked ≤ length first
  pub behind : given ≤ walked
  pub source : left s ≡ drop given first
  pub target : tagged tag (left t) ≡ all_moved tag (take walked first)

-- The bytes of both devices stand for that.
abbrev pub AreMoved : ℕ → List NumberedEntry → List ℕ → List ℕ → Type 0
AreMoved tag first c d = (walked : ℕ) × (given : ℕ) × (s : SpoolState) × (t : SpoolState) × StandsFor s c × StandsFor t d × HasMoved tag first walked given s t

-- Each of the first entries is left in the source or in the target, and never twice in one of them.
pub record StandOnce (tag : ℕ) (first : List NumberedEntry) (s t : SpoolState) : Type 0 where
  pub somewhere : All (λ one. Contains (left s) one ⊎ Contains (tagged tag (left t)) (moved tag one)) first
  pub once_in_source : AllPairs (λ one other. one.number ≢ other.number) (left s)
  pub once_in_target : AllPairs (λ e other. e.index ≢ other.index) (tagged tag (left t))

-- all of them are in the target alone, in order
abbrev pub AllMoved : ℕ → List NumberedEntry → List ℕ → List ℕ → Type 0
AllMoved tag first c d = (s : SpoolState) × (t : SpoolState) × StandsFor s c × StandsFor t d × (left s ≡ []) × (tagged tag (left t) ≡ all_moved tag first)

-- ---- the laws

-- Whatever number of runs there was, each ended by an answer or by a crash: in every pair of what a crash leaves of both disks the first
-- entries are moved, in order, up to one, and given up at most up to that.
abbrev pub RunsLoseNothing : {D E : Type 0} → Type 0 → (D → Moment) → Type 0 → (E → Moment) → Type 0
RunsLoseNothing {D} {E} tells on tells' onto =
    (tag : ℕ) (first : List NumberedEntry) (a : D) (b : E) (later : List (D × E)) → tells → tells'
    → ((c d : List ℕ) → (on a).image c → (onto b).image d → IsFirst tag first c d) → AreNextPairs on onto tag a b later
    → All (λ pair. (c d : List ℕ) → (on pair.0).image c → (onto pair.1).image d → AreMoved tag first c d) ((a, b) ∷ later)

-- so each of them stands in the source or in the target, and never twice in one
abbrev pub MovedStandOnce : Type 0
MovedStandOnce = (tag : ℕ) (m : SpoolState) (walked given : ℕ) (s t : SpoolState) → HasMoved tag (left m) walked given s t → StandOnce tag (left m) s t

-- the last of these
abbrev pub last_pair : {D E : Type 0} → D → E → List (D × E) → D × E
last_pair a b [] = (a, b)
last_pair a b (next ∷ later) = last_pair next.0 next.1 later

-- Where a run after those answers Ok, all of them stand in the target alone, in the source's order.
abbrev pub RunsMoveAll : {D E : Type 0} → Type 0 → (D → Moment) → Type 0 → (E → Moment) → Type 0
RunsMoveAll {D} {E} tells on tells' onto =
    (tag : ℕ) (first : List NumberedEntry) (a a' : D) (b b' : E) (later : List (D × E)) (count : ℕ) (turns : List (Turn D E)) → tells → tells'
    → ((c d : List ℕ) → (on a).image c → (onto b).image d → IsFirst tag first c d) → AreNextPairs on onto tag a b later
    → IsRun on onto tag (Ok count) (last_pair a b later).0 (last_pair a b later).1 turns a' b' → (c d : List ℕ) → (on a').image c → (onto b').image d → AllMoved tag first c d
