-- A device from the call that made it a spool on: calls of `bridge`, skips and moves one after another, and crashes between them and within
-- them.
use Rattle.std.specs.Prelude.{◌≡◌, ◌⊎◌, List, [], ◌∷◌, ℕ, All, map, Result}
use Rattle.edge_disk.specs.Disk.{Moment}
use Rattle.spool_move.specs.declared.fault.MoveFault.{MoveFault}
use Rattle.spool_move.specs.Runs.{IsRun}
use Rattle.spool_move.specs.Turns.{Turn, WasLeft}
use Rattle.notes.specs.declared.note.Note.{Note}
use Rattle.notes.specs.declared.note.Note.TheVariants.{Fine}
use Rattle.bridge_words.specs.Words.{IsMove}
use Rattle.bridge_parts.specs.Run.{OutputRun, run_of}
use Rattle.bridge_move.specs.MoveRun.{IsMoveRun, two_disks}
use Rattle.bridge_skip.specs.SkipRun.{IsSkipRun}
use Rattle.bridge_core.specs.RunOf.{IsRunOf}
use Rattle.bridge_laws.specs.InOrder.{IsUnmoved, Holds, HoldsInOrder, HoldsNoDisorder, HoldsNoOther}
use Rattle.bridge_laws.specs.KeepsOrder.{AsksFormat}
use Rattle.bridge_laws.specs.Told.{DiskKind, Telling, disk_told}

-- One call of `bridge` with words such as these led from the one disk to the other: over some input, output, net and doors, as its
-- contract says.
pub record IsCalled {D S K N P : Type 0} (Such : List (List ℕ) → Type 0) (tell : Telling D S K N P) (old new : D) : Type 0 where
  pub words : List (List ℕ)
  pub such : Such words
  pub note : Note
  pub input : S
  pub input' : S
  pub output : K
  pub output' : K
  pub net : N
  pub net' : N
  pub doors' : List P
  pub is : IsRunOf words (run_of (disk_told tell.disk old new) (tell.input input input') (tell.output output output') (tell.net net net')
      (map tell.door doors')) note
  pub told : tell.disk.tells

-- One call of `bridge_skip` for this number led from the one disk to the other, over some output, as its contract says.
pub record IsSkip {D S K N P : Type 0} (tell : Telling D S K N P) (old new : D) : Type 0 where
  pub number : ℕ
  pub note : Note
  pub output : K
  pub output' : K
  pub is : IsSkipRun number (disk_told tell.disk old new) (tell.output output output') note
  pub told : tell.disk.tells

-- one call of either of them
abbrev pub IsOneCall : {D S K N P : Type 0} (Such : List (List ℕ) → Type 0) (tell : Telling D S K N P) → D → D → Type 0
IsOneCall Such tell old new = IsCalled Such tell old new ⊎ IsSkip tell old new

-- ---- moves

-- One call of `bridge_move` with the words of a move led from this source and this target to those, over some output, as its contract
-- says. Both disks tell what they read.
pub record IsMoveCall {D E K : Type 0} (on : DiskKind D) (onto : DiskKind E) (printed : K → K → OutputRun)
    (before after : D × E) : Type 0 where
  pub words : List (List ℕ)
  pub path : List ℕ
  pub tag : ℕ
  pub asks : IsMove path tag words
  pub note : Note
  pub output : K
  pub output' : K
  pub is : IsMoveRun (two_disks on.tells onto.tells on.moment onto.moment) words before after (printed output output') note
  pub told : on.tells
  pub told' : onto.tells

-- At some moment of a run of a move over these two disks a crash left this of the source's and that of the target's.
pub record WasCutOff {D E : Type 0} (on : D → Moment) (onto : E → Moment) (source : D) (target : E) (c d : List ℕ) : Type 0 where
  pub tag : ℕ
  pub result : Result ℕ MoveFault
  pub source' : D
  pub target' : E
  pub turns : List (Turn D E)
  pub is : IsRun on onto tag result source target turns source' target'
  pub left : WasLeft on onto source target turns c d

-- The device was the source of a move: of a whole call, or of a run of which a crash came in the midst. The target is any disk of that
-- kind, be its spool in order or not.
abbrev pub IsMovedOut : {D E S K N P : Type 0} (tell : Telling D S K N P) (other : DiskKind E) → D → D → Type 0
IsMovedOut {E = E} tell other old new =
    ((target : E) × (target' : E) × IsMoveCall tell.disk other tell.output (old, target) (new, target'))
    ⊎ ((target : E) × tell.disk.tells
    × ((c : List ℕ) → (tell.disk.moment new).image c → (d : List ℕ) × WasCutOff tell.disk.moment other.moment old target c d))

-- It was the target of one. The source is any disk of that kind.
abbrev pub IsMovedInto : {D E S K N P : Type 0} (tell : Telling D S K N P) (other : DiskKind E) → D → D → Type 0
IsMovedInto {E = E} tell other old new =
    ((source : E) × (source' : E) × IsMoveCall other tell.disk tell.output (source, old) (source', new))
    ⊎ ((source : E) × tell.disk.tells
    × ((d : List ℕ) → (tell.disk.moment new).image d → (c : List ℕ) × WasCutOff other.moment tell.disk.moment source old c d))

-- ---- one after another

-- What may come: calls of `bridge` with words such as these, skips, moves out of the device, and, where that is so, moves into it.
pub record Coming : Type 1 where
  pub words : List (List ℕ) → Type 0
  pub into : Type 0

-- anything; all but words that make the device an empty spool; and no move into it either
abbrev pub anything : Coming
anything = record { words = λ words. Unit {0}; into = Unit {0} }

abbrev pub no_format : Coming
no_format = record { words = λ words. AsksFormat words → ⊥; into = Unit {0} }

abbrev pub no_move_into : Coming
no_move_into = record { words = λ words. Unit {0}; into = ⊥ }

abbrev pub no_format_nor_move_into : Coming
no_format_nor_move_into = record { words = λ words. AsksFormat words → ⊥; into = ⊥ }

-- The next disk is that after such a call, a skip or such a move; or its device has what a crash left of the one before, now, or within a
-- call, a skip or a move.
abbrev pub IsNext : {D E S K N P : Type 0} (coming : Coming) (tell : Telling D S K N P) (other : DiskKind E) → D → D → Type 0
IsNext {D = D} coming tell other old new =
    IsOneCall coming.words tell old new
    ⊎ (((c : List ℕ) → (tell.disk.moment new).image c → (tell.disk.moment old).image c)
    ⊎ (((mid : D) × IsOneCall coming.words tell old mid
    × ((c : List ℕ) → (tell.disk.moment new).image c → (tell.disk.moment mid).image_since (tell.disk.moment old).clock c))
    ⊎ (IsMovedOut tell other old new
    ⊎ (coming.into × IsMovedInto tell other old new))))

-- each of these is the next after the one before
abbrev pub AreNext : {D E S K N P : Type 0} (coming : Coming) (tell : Telling D S K N P) (other : DiskKind E) → D → List D → Type 0
AreNext coming tell other disk [] = Unit {0}
AreNext coming tell other disk (next ∷ more) = IsNext coming tell other disk next × AreNext coming tell other next more

-- From a call of `format` that ended well on, whatever a crash leaves of each next disk is so, where no more than this comes.
abbrev pub FromFormat : {D E S K N P : Type 0} (tell : Telling D S K N P) (other : DiskKind E) (coming : Coming) (Is : List ℕ → Type 0)
    → Type 0
FromFormat {D = D} tell other coming Is =
    (before made : D) (later : List D) (format : IsCalled (λ words. Unit {0}) tell before made)
    → AsksFormat format.words → format.note ≡ Fine → AreNext coming tell other made later
    → All (λ disk. (c : List ℕ) → (tell.disk.moment disk).image c → Is c) (made ∷ later)

-- No spool is out of order then, and there is one where no call makes the device an empty spool again. Where nothing is moved into the
-- device, that is so of the numbers of all entries.
pub record OrderHolds {D E S K N P : Type 0} (tell : Telling D S K N P) (other : DiskKind E) : Type 0 where
  pub none : FromFormat tell other anything HoldsNoDisorder
  pub some : FromFormat tell other no_format HoldsInOrder
  pub none_unmoved : FromFormat tell other no_move_into (HoldsNoOther IsUnmoved)
  pub some_unmoved : FromFormat tell other no_format_nor_move_into (Holds IsUnmoved)
