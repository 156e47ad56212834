-- The walk through the source's entries, page by page.
use Rattle.std.specs.Prelude.{◌≡◌, ◌⊎◌, ℕ, ◌+◌, ◌≤◌, not, true, false, List, [], ◌∷◌, length, take, drop, Bool, Result, Ok, Err}
use Rattle.std.specs.List.{filter}
use Rattle.std.specs.BTreeSet.{BTreeSet, contains}
use Rattle.std.specs.Ordering.{nat_cmp}
use Rattle.event_form.specs.declared.event.Entry.{Entry}
use Rattle.edge_disk.specs.Disk.{LeavesOnly}
use Rattle.spool_state.specs.Layout.{most_number}
use Rattle.spool_state.specs.SpoolState.{SpoolState, list, base, Follows}
use Rattle.spool_state.specs.Left.{NumberedEntry, left, left_from}
use Rattle.spool_state.specs.Image.{StandsFor}
use Rattle.spool_faults.specs.declared.fault.TakeFault.{TakeFault}
use Rattle.spool_faults.specs.declared.fault.TakeFault.TheVariants as Take
use Rattle.spool_answers.specs.Take.{Takes}
use Rattle.spool_log.specs.State.{View, IsIn}
use Rattle.spool_move.specs.declared.fault.MoveFault.{MoveFault}
use Rattle.spool_move.specs.declared.fault.MoveFault.TheVariants.{Strange, TooLarge, Spent, Full, Worn, NotSpool, SourceFault, TargetFault, NoMemory}
use Rattle.spool_move.specs.declared.walking.course.Course.{Course}
use Rattle.spool_move.specs.Moved.{all_moved, missing, moved}
use Rattle.spool_move.specs.Stands.{ArePages, HasTaken}
use Rattle.spool_move.specs.Moves.{Reaches, IsDone, Moves}
use Rattle.spool_move.specs.Reading.{IsSearched}

-- the number behind the last of these, or this one where there is none
abbrev pub after_last : ℕ → List NumberedEntry → ℕ
after_last from [] = from
after_last from (one ∷ more) = after_last (one.number + 1) more

-- those of the entries whose numbers the set hasn't
abbrev pub absent : BTreeSet ℕ → List NumberedEntry → List NumberedEntry
absent present entries = filter (λ one. not (contains nat_cmp present one.number)) entries

-- ---- one entry taken by the target

-- what is left of the device meanwhile: the target as it was, or with these entries behind
abbrev pub IsTaking : SpoolState → List Entry → List ℕ → Type 0
IsTaking t more d = (t' : SpoolState) × StandsFor t' d × (HasTaken t [] t' ⊎ HasTaken t more t')

-- after a refusal the target is as it was, after a fault of the disk in doubt
abbrev pub AfterRefusal : SpoolState → TakeFault → View → Type 0
AfterRefusal t (Take.TooLarge need most) new = IsIn t [] new
AfterRefusal t (Take.Spent at) new = IsIn t [] new
AfterRefusal t (Take.Full need free) new = IsIn t [] new
AfterRefusal t (Take.NotSpool at) new = ⊥
AfterRefusal t Take.NoMemory new = ⊥
AfterRefusal t Take.DiskFault new = (doubt : List SpoolState) × IsIn t doubt new

abbrev pub IsTaken : SpoolState → Entry → Result Unit TakeFault → View → Type 0
IsTaken t e (Ok done) new = (t' : SpoolState) × IsIn t' [] new × HasTaken t (e ∷ []) t'
IsTaken t e (Err fault) new = Takes t (e ∷ []) (Err fault) × AfterRefusal t fault new

pub record TakesOne (t : SpoolState) (e : Entry) (result : Result Unit TakeFault) (old new : View) : Type 0 where
  pub taken : IsTaken t e result new
  pub any_moment : LeavesOnly (IsTaking t (e ∷ [])) old.moment new.moment

-- ---- a page of entries

-- Of the page so many entries are walked.
pub record HasWalked (tag : ℕ) (present : BTreeSet ℕ) (page : List NumberedEntry) (t : SpoolState) (walked : ℕ) (t' : SpoolState) : Type 0 where
  pub within : walked ≤ length page
  pub taken : HasTaken t (all_moved tag (absent present (take walked page))) t'

-- what is left of the target's device meanwhile
abbrev pub IsWalking : ℕ → BTreeSet ℕ → List NumberedEntry → SpoolState → List ℕ → Type 0
IsWalking tag present page t d = (walked : ℕ) × (t' : SpoolState) × StandsFor t' d × HasWalked tag present page t walked t'

-- one entry walked
abbrev pub IsWalked : ℕ → BTreeSet ℕ → NumberedEntry → SpoolState → Result Unit TakeFault → View → Type 0
IsWalked tag present one t (Ok done) new = (t' : SpoolState) × IsIn t' [] new × HasTaken t (all_moved tag (absent present (one ∷ []))) t'
IsWalked tag present one t (Err fault) new = (contains nat_cmp present one.number ≡ false) × Takes t (moved tag one ∷ []) (Err fault) × AfterRefusal t fault new

pub record WalksOne (tag : ℕ) (present : BTreeSet ℕ) (one : NumberedEntry) (t : SpoolState) (result : Result Unit TakeFault) (old new : View) : Type 0 where
  pub walked : IsWalked tag present one t result new
  pub any_moment : LeavesOnly (IsWalking tag present (one ∷ []) t) old.moment new.moment

-- what the program keeps of it
pub record IsCounted (present : BTreeSet ℕ) (page : List NumberedEntry) (walked : ℕ) (old new : Course) : Type 0 where
  pub upto_is : new.upto ≡ after_last old.upto (take walked page)
  pub taken_is : new.taken ≡ old.taken + length (absent present (take walked page))

-- the next entry of the page, which the set hasn't, is refused
pub record IsRefused (tag : ℕ) (present : BTreeSet ℕ) (page : List NumberedEntry) (walked : ℕ) (t' : SpoolState) (fault : TakeFault) (new : View) : Type 0 where
  pub one : NumberedEntry
  pub rest : List NumberedEntry
  pub next : drop walked page ≡ one ∷ rest
  pub absent_is : contains nat_cmp present one.number ≡ false
  pub refused : Takes t' (moved tag one ∷ []) (Err fault)
  pub reached : AfterRefusal t' fault new

abbrev pub PageEnds : ℕ → BTreeSet ℕ → List NumberedEntry → ℕ → SpoolState → Result Unit TakeFault → View → Type 0
PageEnds tag present page walked t' (Ok done) new = IsIn t' [] new × (walked ≡ length page)
PageEnds tag present page walked t' (Err fault) new = IsRefused tag present page walked t' fault new

pub record TakesPage (tag : ℕ) (present : BTreeSet ℕ) (page : List NumberedEntry) (t : SpoolState) (result : Result Unit TakeFault) (before after : Course) (old new : View) : Type 0 where
  pub walked : ℕ
  pub t' : SpoolState
  pub has : HasWalked tag present page t walked t'
  pub counted : IsCounted present page walked before after
  pub ends : PageEnds tag present page walked t' result new
  pub any_moment : LeavesOnly (IsWalking tag present page t) old.moment new.moment

-- ---- numbers given up

-- All numbers below this one are known. Of what was left those from it on are.
pub record HasGivenTo (s : SpoolState) (upto : ℕ) (s' : SpoolState) : Type 0 where
  pub base_same : base s' ≡ base s
  pub list_same : list s' ≡ list s
  pub run_same : s'.run ≡ s.run
  pub follows : Follows s s'
  pub left_is : left s' ≡ left_from s upto
  pub known : upto ≤ s'.cursor

abbrev pub IsGiving : SpoolState → ℕ → List ℕ → Type 0
IsGiving s upto c = (s' : SpoolState) × StandsFor s' c × ((s' ≡ s) ⊎ HasGivenTo s upto s')

-- the register was written as often as it can be, and a number below this one isn't known
pub record IsWornAt (s : SpoolState) (upto ordinal : ℕ) (new : View) : Type 0 where
  pub reached : IsIn s [] new
  pub more : upto ≤ s.cursor → ⊥
  pub ordinal_is : ordinal ≡ s.ordinal
  pub worn : s.ordinal ≡ most_number

abbrev pub IsGiven : SpoolState → ℕ → Result Unit MoveFault → View → Type 0
IsGiven s upto (Ok done) new = (s' : SpoolState) × IsIn s' [] new × HasGivenTo s upto s'
IsGiven s upto (Err (Strange number)) new = ⊥
IsGiven s upto (Err (TooLarge need most)) new = ⊥
IsGiven s upto (Err (Spent at)) new = ⊥
IsGiven s upto (Err (Full need free)) new = ⊥
IsGiven s upto (Err (Worn ordinal)) new = IsWornAt s upto ordinal new
IsGiven s upto (Err (NotSpool at)) new = ⊥
IsGiven s upto (Err SourceFault) new = (doubt : List SpoolState) × IsIn s doubt new
IsGiven s upto (Err TargetFault) new = ⊥
IsGiven s upto (Err NoMemory) new = ⊥

pub record GivesUp (s : SpoolState) (upto : ℕ) (result : Result Unit MoveFault) (old new : View) : Type 0 where
  pub given : IsGiven s upto result new
  pub any_moment : LeavesOnly (IsGiving s upto) old.moment new.moment

-- a refusal for want of room or of numbers
abbrev pub IsWanting : MoveFault → Type 0
IsWanting (Strange number) = ⊥
IsWanting (TooLarge need most) = Unit {0}
IsWanting (Spent at) = Unit {0}
IsWanting (Full need free) = Unit {0}
IsWanting (Worn ordinal) = ⊥
IsWanting (NotSpool at) = ⊥
IsWanting SourceFault = ⊥
IsWanting TargetFault = ⊥
IsWanting NoMemory = ⊥

-- the answer once that was given up, or the fault of the giving up
abbrev pub answer_after : MoveFault → Result Unit MoveFault → MoveFault
answer_after answer (Ok done) = answer
answer_after answer (Err failed) = failed

pub record GivesFirst (s : SpoolState) (upto : ℕ) (answer result : MoveFault) (old new : View) : Type 0 where
  pub given : Result Unit MoveFault
  pub gives : GivesUp s upto given old new
  pub result_is : result ≡ answer_after answer given

-- After a refusal for want of room or of numbers what was walked is given up, after another fault nothing is done.
abbrev pub AnswersFault : SpoolState → ℕ → TakeFault → MoveFault → View → View → Type 0
AnswersFault s upto (Take.TooLarge need most) result old new = GivesFirst s upto (TooLarge need most) result old new
AnswersFault s upto (Take.Spent at) result old new = GivesFirst s upto (Spent at) result old new
AnswersFault s upto (Take.Full need free) result old new = GivesFirst s upto (Full need free) result old new
AnswersFault s upto (Take.NotSpool at) result old new = result ≡ NotSpool at
AnswersFault s upto Take.NoMemory result old new = result ≡ NoMemory
AnswersFault s upto Take.DiskFault result old new = result ≡ TargetFault

-- ---- the walk

-- Between two pages: so many entries are walked, whole pages or all, and all of them given up.
pub record IsOnCourse (tag : ℕ) (m u : SpoolState) (present : BTreeSet ℕ) (course : Course) (from onto : View) : Type 0 where
  pub walked : ℕ
  pub pages : ArePages m walked
  pub reaches : Reaches tag m u walked walked from onto
  pub searched : IsSearched tag m (left u) present
  pub known : course.upto ≤ reaches.s.cursor
  pub taken_is : course.taken ≡ length (missing tag (left u) (take walked (left m)))

-- some states are so
abbrev pub IsUnderWay : ℕ → BTreeSet ℕ → Course → View → View → Type 0
IsUnderWay tag present course from onto = ∥ ((m : SpoolState) × (u : SpoolState) × IsOnCourse tag m u present course from onto) ∥₁

-- after a page, or where there is none
abbrev pub WalksPage : ℕ → SpoolState → SpoolState → BTreeSet ℕ → Course → Result Bool MoveFault → View → View → Type 0
WalksPage tag m u present course (Ok true) from onto = IsOnCourse tag m u present course from onto
WalksPage tag m u present course (Ok false) from onto = IsDone tag m u course.taken from onto
WalksPage tag m u present course (Err fault) from onto = Moves tag m u (Err fault) from onto
