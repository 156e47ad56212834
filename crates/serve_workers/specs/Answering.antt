-- What the links of a door may be answered.
use Rattle.std.specs.Prelude.{ℕ, ◌+◌, ◌<◌, List, length}
use Rattle.desk_access.specs.Call.{Call, Record}
use Rattle.desk_access.specs.Desk.{DeskState}
use Rattle.desk_access.specs.Division.{DividedRun, each_of, first_conn}
use Rattle.conn_serve.specs.declared.rules.Rules.{Rules}
use Rattle.conn_serve.specs.Serves.{CarriedBy}
use Rattle.conn_serve.specs.Says.{HasCarried}
use Rattle.desk_seats.specs.Passes.{Known}
use Rattle.desk_seats.specs.Ran.{Ran}

-- A text may be written to the link that the door of that caller gives after `k` others, of which these bytes were read, once a pass of the
-- desk made the calls that go with it: those of the connection whose number is `k` above the caller's first one in the run, by these
-- rules. What the pass has seen then is a journal that was really made.
abbrev pub MayAnswer : (List Record → Type 0) → (DeskState → Type 0) → DividedRun → ℕ → (ℕ → List ℕ → List ℕ → Type 0) → Rules → Type 0
MayAnswer IsReal start run caller Permits rules =
    (k : ℕ) (pass pass' : Known) (bytes : List ℕ) (calls : List Call) (text : List ℕ)
    → k < each_of run.division → Ran start pass calls pass' → (0 < length calls → IsReal pass'.seen)
    → HasCarried (CarriedBy rules (first_conn run caller + k)) bytes calls text → Permits k bytes text
