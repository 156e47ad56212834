-- What one run of a move answers, and what comes of it.
use Rattle.std.specs.Prelude.{◌≡◌, ◌⊎◌, ℕ, ◌<◌, false, List, [], ◌∷◌, length, drop, Result, Ok, Err}
use Rattle.edge_disk.specs.Disk.{Moment}
use Rattle.spool_state.specs.Layout.{most_number}
use Rattle.spool_state.specs.SpoolState.{SpoolState, Follows}
use Rattle.spool_state.specs.Left.{NumberedEntry, left}
use Rattle.spool_faults.specs.declared.fault.PendFault.{PendFault}
use Rattle.spool_faults.specs.declared.fault.TakeFault.{TakeFault}
use Rattle.spool_faults.specs.declared.fault.TakeFault.TheVariants as Take
use Rattle.spool_answers.specs.Stages.{IsOneOf}
use Rattle.spool_answers.specs.Take.{Takes}
use Rattle.spool_log.specs.State.{View, IsIn}
use Rattle.spool_log.specs.Outcome.{StaysInDoubt, IsMended}
use Rattle.spool_move.specs.declared.fault.MoveFault.{MoveFault}
use Rattle.spool_move.specs.declared.fault.MoveFault.TheVariants.{Strange, TooLarge, Spent, Full, Worn, NotSpool, SourceFault, TargetFault, NoMemory}
use Rattle.spool_move.specs.Fault.{of_source, of_target}
use Rattle.spool_move.specs.Moved.{is_present, missing, moved}
use Rattle.spool_move.specs.Strange.{NoneIsStrange, IsFirstStrange}
use Rattle.spool_move.specs.Stands.{Stands, IsMoving}

-- Both spools are outside doubt, with so many entries walked and so many given up.
pub record Reaches (tag : ℕ) (m u : SpoolState) (walked given : ℕ) (from onto : View) : Type 0 where
  pub s : SpoolState
  pub t : SpoolState
  pub source : IsIn s [] from
  pub target : IsIn t [] onto
  pub stands : Stands tag m u walked given s t

-- The run was cut off by a fault: the spools are in the midst of the move, each in a state and a doubt.
pub record Stops (tag : ℕ) (m u : SpoolState) (from onto : View) : Type 0 where
  pub s : SpoolState
  pub t : SpoolState
  pub source_doubt : List SpoolState
  pub target_doubt : List SpoolState
  pub walked : ℕ
  pub given : ℕ
  pub source : IsIn s source_doubt from
  pub target : IsIn t target_doubt onto
  pub stands : Stands tag m u walked given s t

-- The target refused the next entry, which it didn't have, for want of room or of numbers. All that were walked are given up.
pub record Refuses (tag : ℕ) (m u : SpoolState) (fault : TakeFault) (from onto : View) : Type 0 where
  pub s : SpoolState
  pub t : SpoolState
  pub walked : ℕ
  pub one : NumberedEntry
  pub rest : List NumberedEntry
  pub next : drop walked (left m) ≡ one ∷ rest
  pub absent : is_present tag (left u) one.number ≡ false
  pub none_strange : NoneIsStrange tag m (left u)
  pub source : IsIn s [] from
  pub target : IsIn t [] onto
  pub stands : Stands tag m u walked walked s t
  pub refused : Takes t (moved tag one ∷ []) (Err fault)

-- Some entries are walked that can't be given up: the source's register was written as often as it can be.
pub record IsWorn (tag : ℕ) (m u : SpoolState) (ordinal : ℕ) (from onto : View) : Type 0 where
  pub walked : ℕ
  pub given : ℕ
  pub more : given < walked
  pub reaches : Reaches tag m u walked given from onto
  pub ordinal_is : ordinal ≡ reaches.s.ordinal
  pub worn : reaches.s.ordinal ≡ most_number

-- All that the source had left is given up, and the target took what it didn't have.
pub record IsDone (tag : ℕ) (m u : SpoolState) (count : ℕ) (from onto : View) : Type 0 where
  pub none_strange : NoneIsStrange tag m (left u)
  pub count_is : count ≡ length (missing tag (left u) (left m))
  pub reaches : Reaches tag m u (length (left m)) (length (left m)) from onto

-- The first strange entry was found, and nothing changed.
pub record FindsStrange (tag : ℕ) (m u : SpoolState) (number : ℕ) (from onto : View) : Type 0 where
  pub first : IsFirstStrange tag m (left u) number
  pub source : IsIn m [] from
  pub target : IsIn u [] onto

-- This is the answer, and what both spools are after it.
abbrev pub Moves : ℕ → SpoolState → SpoolState → Result ℕ MoveFault → View → View → Type 0
Moves tag m u (Ok count) from onto = IsDone tag m u count from onto
Moves tag m u (Err (Strange number)) from onto = FindsStrange tag m u number from onto
Moves tag m u (Err (TooLarge need most)) from onto = Refuses tag m u (Take.TooLarge need most) from onto
Moves tag m u (Err (Spent at)) from onto = Refuses tag m u (Take.Spent at) from onto
Moves tag m u (Err (Full need free)) from onto = Refuses tag m u (Take.Full need free) from onto
Moves tag m u (Err (Worn ordinal)) from onto = IsWorn tag m u ordinal from onto
Moves tag m u (Err (NotSpool at)) from onto = ⊥
Moves tag m u (Err SourceFault) from onto = Stops tag m u from onto
Moves tag m u (Err TargetFault) from onto = Stops tag m u from onto
Moves tag m u (Err NoMemory) from onto = Stops tag m u from onto

-- Mending reached a state of the source and one of the target, and from there the run went on.
pub record GoesFrom (tag : ℕ) (s : SpoolState) (source_doubt : List SpoolState) (t : SpoolState) (target_doubt : List SpoolState) (result : Result ℕ MoveFault) (from onto : View) : Type 0 where
  pub m : SpoolState
  pub u : SpoolState
  pub one : IsOneOf s source_doubt m
  pub other : IsOneOf t target_doubt u
  pub source_follows : Follows s m
  pub target_follows : Follows t u
  pub moves : Moves tag m u result from onto

-- The source was mended, and mending the target failed.
pub record StopsMending (s : SpoolState) (source_doubt : List SpoolState) (t : SpoolState) (target_doubt : List SpoolState) (result : Result ℕ MoveFault) (from from' onto onto' : View) : Type 0 where
  pub m : SpoolState
  pub mended : IsMended s source_doubt m from from'
  pub fault : PendFault
  pub result_is : result ≡ Err (of_target fault)
  pub stays : StaysInDoubt t target_doubt fault onto onto'

-- A run over spools in these states and doubts: first the source is mended, then the target, and then it goes on.
abbrev pub MovesFrom : ℕ → SpoolState → List SpoolState → SpoolState → List SpoolState → Result ℕ MoveFault → View → View → View → View → Type 0
MovesFrom tag s source_doubt t target_doubt result from from' onto onto' =
    ((fault : PendFault) × (result ≡ Err (of_source fault)) × StaysInDoubt s source_doubt fault from from' × IsIn t target_doubt onto')
    ⊎ (StopsMending s source_doubt t target_doubt result from from' onto onto' ⊎ GoesFrom tag s source_doubt t target_doubt result from' onto')

-- What a crash at some moment of the run leaves of both: what it could leave before, or both in the midst of the move, from where mending
-- found them.
abbrev pub IsAnyMoment : ℕ → SpoolState → List SpoolState → SpoolState → List SpoolState → Moment → Moment → List ℕ → List ℕ → Type 0
IsAnyMoment tag s source_doubt t target_doubt from onto c d =
    (from.image c × onto.image d) ⊎ ((m : SpoolState) × (u : SpoolState) × IsOneOf s source_doubt m × IsOneOf t target_doubt u × IsMoving tag m u c d)
