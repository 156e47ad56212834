-- Spools whose entries are in order, from one run to the next.
use Rattle.std.specs.Prelude.{ℕ, ◌+◌, ◌*◌, ◌^◌, ◌<◌, List, All}
use Rattle.edge_disk.specs.Disk.{Moment}
use Rattle.spool_state.specs.SpoolState.{SpoolState, list}
use Rattle.spool_state.specs.Image.{StandsFor}
use Rattle.spool_state.specs.Empty.{empty_state}
use Rattle.spool_log.specs.declared.opening.Opening.{Opening}
use Rattle.spool_log.specs.Opening.{opened}
use Rattle.desk_access.specs.Batch.{AreNext}
use Rattle.desk_access.specs.Desk.{DeskState}
use Rattle.desk_access.specs.Legal.{of_conn}
use Rattle.spool_turns.specs.Whole.{AreLegal, AreEarlier, OpensLegal}
use Rattle.bridge_serve.specs.Opened.{IsOpenedDesk}

-- Each connection's indexes rise by one, and the entries of an id stand together. Connections and ids are of the runs that the
-- spool has had so far. Entries that were moved into the spool have numbers of their own in place of a connection's, and no id.
pub record IsInOrder (s : SpoolState) : Type 0 where
  pub legal : AreLegal (list s)
  pub earlier : AreEarlier (s.run + 1) (list s)

-- It is so, and nothing was moved into the spool: all its connections are of the runs that it has had so far.
pub record IsUnmoved (s : SpoolState) : Type 0 where
  pub order : IsInOrder s
  pub conns : All (λ entry. entry.conn < (s.run + 1) * 2 ^ 32) (list s)

-- the bytes stand for a spool of that kind
abbrev pub Holds : (SpoolState → Type 0) → List ℕ → Type 0
Holds Is c = (s : SpoolState) × StandsFor s c × Is s

-- Where the bytes stand for a spool, that is of that kind. It is so of bytes that stand for no spool.
abbrev pub HoldsNoOther : (SpoolState → Type 0) → List ℕ → Type 0
HoldsNoOther Is c = (s : SpoolState) → StandsFor s c → Is s

-- they stand for a spool in order
abbrev pub HoldsInOrder : List ℕ → Type 0
HoldsInOrder c = Holds IsInOrder c

-- where they stand for a spool, that is in order
abbrev pub HoldsNoDisorder : List ℕ → Type 0
HoldsNoDisorder c = HoldsNoOther IsInOrder c

-- whatever a crash leaves of the device now holds no disorder
abbrev pub IsDeviceInOrder : Moment → Type 0
IsDeviceInOrder m = (c : List ℕ) → m.image c → HoldsNoDisorder c

-- ---- laws

-- The spool that has no entry is in order.
abbrev pub EmptyIsInOrder : Type 0
EmptyIsInOrder = (slots size : ℕ) → IsInOrder (empty_state slots size)

-- A spool in order is so once it was opened, be it that its run is raised or not.
abbrev pub OpeningKeepsOrder : Type 0
OpeningKeepsOrder = (opening : Opening) (s : SpoolState) → IsInOrder s → IsInOrder (opened opening s)

-- Where nothing was moved into a spool in order, the indexes of each number rise by one, be it a connection's or not.
abbrev pub UnmovedIsWhole : Type 0
UnmovedIsWhole =
    (s : SpoolState) (c : List ℕ) → StandsFor s c → IsUnmoved s → (conn : ℕ) → (first : ℕ) × AreNext conn first (of_conn conn (list s))

-- The desk of a spool in order that was opened for storing begins with a legal list of entries of earlier runs.
abbrev pub DeskOpensLegal : Type 0 → Moment → Type 0
DeskOpensLegal tells m = IsDeviceInOrder m → (x : DeskState) → IsOpenedDesk tells m.reads x → OpensLegal x
