-- Which entries the peer has acknowledged: a mark for each, in the entries' order. Those without a mark are not.
use Rattle.std.specs.Prelude.{◌≡◌, ◌<◌, ℕ, zero, suc, ◌+◌, ◌-◌, min, Bool, true, false, List, [], ◌∷◌, ◌++◌, length, replicate, slice_index_or}
use Rattle.relp_sender.specs.Texts.{txnr_of}

-- how many are acknowledged
abbrev pub count_known : List Bool → ℕ
count_known [] = 0
count_known (true ∷ marks) = count_known marks + 1
count_known (false ∷ marks) = count_known marks

-- how many are acknowledged before the first that isn't
abbrev pub known_front : List Bool → ℕ
known_front [] = 0
known_front (true ∷ marks) = known_front marks + 1
known_front (false ∷ marks) = 0

-- with the entry at this place acknowledged
abbrev pub marked_at : ℕ → List Bool → List Bool
marked_at zero [] = true ∷ []
marked_at zero (mark ∷ marks) = true ∷ marks
marked_at (suc place) [] = false ∷ marked_at place []
marked_at (suc place) (mark ∷ marks) = mark ∷ marked_at place marks

-- the places of those that are not, the first mark's place given
abbrev pub open_from : ℕ → List Bool → List ℕ
open_from place [] = []
open_from place (true ∷ marks) = open_from (place + 1) marks
open_from place (false ∷ marks) = place ∷ open_from (place + 1) marks

-- with no mark for the frames written since, up to so many
abbrev pub grown : ℕ → List Bool → List Bool
grown written marks = marks ++ replicate (written - length marks) false

-- Of so many entries, of which the frames may be written, that at this place awaits a reply with this transaction number:
-- it isn't acknowledged, and the number is its frame's.
pub record Awaits (written : ℕ) (marks : List Bool) (txnr place : ℕ) : Type 0 where
  pub within : place < written
  pub unanswered : slice_index_or marks place false ≡ false
  pub number : txnr_of place ≡ txnr

-- none of so many entries does
abbrev pub NoneAwaits : ℕ → List Bool → ℕ → Type 0
NoneAwaits written marks txnr = (place : ℕ) → Awaits written marks txnr place → ⊥

-- that at this place is the first that does
pub record IsEarliest (written : ℕ) (marks : List Bool) (txnr place : ℕ) : Type 0 where
  pub awaits : Awaits written marks txnr place
  pub earlier : NoneAwaits place marks txnr

-- how many frames of n entries may be written
abbrev pub allowed : ℕ → List Bool → ℕ
allowed n marks = min n (1024 + count_known marks)
