-- A device opened.
use Rattle.std.specs.Prelude.{◌≡◌, ◌⊎◌, ℕ, ◌+◌, ◌<◌, List, [], ◌∷◌}
use Rattle.spool_state.specs.Layout.{most_run, most_number}
use Rattle.spool_state.specs.SpoolState.{SpoolState, Follows}
use Rattle.spool_state.specs.Change.{registered}
use Rattle.spool_state.specs.Image.{StandsFor}
use Rattle.spool_state.specs.Rules.{Breaks}
use Rattle.edge_disk.specs.Disk.{Moment}
use Rattle.spool_log.specs.declared.opening.Opening.{Opening}
use Rattle.spool_log.specs.declared.opening.Opening.TheVariants.{Keep, Raise}
use Rattle.spool_log.specs.declared.fault.RecoverFault.{RecoverFault}
use Rattle.spool_log.specs.declared.fault.RecoverFault.TheVariants.{NotSpool, RunsSpent, Worn, DiskFault, NoMemory}
use Rattle.spool_answers.specs.Stages.{last_of, StandsForOne}
use Rattle.spool_log.specs.State.{View, IsIn}

-- the stage by which the run is raised
abbrev pub raise_stages : Opening → SpoolState → List SpoolState
raise_stages Keep s = []
raise_stages Raise s = registered s (s.run + 1) s.cursor s.known ∷ []

-- the state after it
abbrev pub opened : Opening → SpoolState → SpoolState
opened opening s = last_of s (raise_stages opening s)

-- a run and an ordinal are left where one is needed
abbrev pub CanOpen : Opening → SpoolState → Type 0
CanOpen Keep s = Unit {0}
CanOpen Raise s = (s.run < most_run) × (s.ordinal < most_number)

-- Of a device that stands for this state the opening is refused so.
abbrev pub Refuses : Opening → SpoolState → RecoverFault → Type 0
Refuses opening s (NotSpool at) = ⊥
Refuses opening s (RunsSpent run) = (opening ≡ Raise) × (run ≡ s.run) × (s.run ≡ most_run)
Refuses opening s (Worn ordinal) = (opening ≡ Raise) × (s.run < most_run) × (ordinal ≡ s.ordinal) × (s.ordinal ≡ most_number)
Refuses opening s DiskFault = Unit {0}
Refuses opening s NoMemory = Unit {0}

-- Why a device with these bytes is refused: it breaks a rule, the first one at that place; or it stands for a state
-- whose run or register can't be raised.
abbrev pub IsRefusedAs : Opening → List ℕ → RecoverFault → Type 0
IsRefusedAs opening c (NotSpool at) = Breaks at c
IsRefusedAs opening c (RunsSpent run) = (s : SpoolState) × StandsFor s c × Refuses opening s (RunsSpent run)
IsRefusedAs opening c (Worn ordinal) = (s : SpoolState) × StandsFor s c × Refuses opening s (Worn ordinal)
IsRefusedAs opening c DiskFault = Unit {0}
IsRefusedAs opening c NoMemory = Unit {0}

-- What a crash leaves of a device while it is opened: what it could leave before, and nothing else where the device
-- is kept as it is. While the run is raised it may be what stands for the state that the device stood for, with the
-- run raised or not: the register's other cell is written.
abbrev pub IsOpening : Opening → Moment → List ℕ → Type 0
IsOpening Keep m c = m.image c
IsOpening Raise m c = m.image c ⊎ ((s : SpoolState) × StandsFor s m.reads × StandsForOne s (raise_stages Raise s) c)

-- What it leaves where the opening is refused so: what it could leave before, unless a call of the disk failed.
abbrev pub IsRefusing : Opening → RecoverFault → Moment → List ℕ → Type 0
IsRefusing opening (NotSpool at) m c = m.image c
IsRefusing opening (RunsSpent run) m c = m.image c
IsRefusing opening (Worn ordinal) m c = m.image c
IsRefusing opening DiskFault m c = IsOpening opening m c
IsRefusing opening NoMemory m c = m.image c

-- The spool is opened from a device that stood for this state.
pub record Opens (opening : Opening) (s : SpoolState) (device : List ℕ) (new : View) : Type 0 where
  pub stood : StandsFor s device
  pub left : CanOpen opening s
  pub follows : Follows s (opened opening s)
  pub reached : IsIn (opened opening s) [] new
