-- The parts of the workers in the journal of a run.
use Rattle.std.proofs.Common.{◌≡◌, ℕ, suc, ◌+◌, List, [], ◌∷◌, ◌++◌, length, refl, sym, ap, ◌∙◌, subst, arith}
use Rattle.std.specs.Prelude.{All, map}
use Rattle.std.proofs.lemmas.List.Elements.{All-head, All-tail}
use Rattle.edge_io.specs.Door.{DoorState}
use Rattle.desk_access.specs.Division.{DividedRun}
use Rattle.desk_access.specs.Call.{Call, Record, own_of}
use Rattle.desk_access.specs.Desk.{DeskState}
use Rattle.conn_serve.specs.declared.rules.Rules.{Rules}
use Rattle.desk_seats.specs.Passes.{Known, Stands}
use Rattle.desk_seats.specs.Ran.{Ran}
use Rattle.serve_workers.specs.declared.worker.WorkerReport.{WorkerReport}
use Rattle.serve_workers.specs.Works.{Dismissed, Posted, Worked, dismissed_as, posted_as}
use Rattle.serve_workers.specs.Crews.{AreNew, HaveWorked, returned_as, roster_as}
use Rattle.serve_workers.specs.Served.{Links}
use Rattle.serve_laws.specs.Parts.{EachPart, IsPart, Part, worker_door}

-- the calls of a pass that was new are all that the journal has of its number
pub own_calls : (start : DeskState → Type 0) (log : List Record) (pass pass' : Known) (calls : List Call) → pass.own ≡ [] → Ran start pass calls pass' → Stands log pass' → own_of pass.number log ≡ calls
own_calls start log pass pass' calls new ran stands = ap (λ (n : ℕ). own_of n log) (sym ran.number) ∙ stands.1 ∙ ran.own ∙ ap (λ (l : List Call). l ++ calls) new

abbrev part_as : Links → WorkerReport → Part
part_as links report = record { links = links; report = report }

part_of : (start : DeskState → Type 0) (run : DividedRun) (talks : ℕ) (log : List Record) (number : ℕ) (posted : Posted) (dismissed : Dismissed) → posted.pass.number ≡ number → posted.pass.own ≡ [] → Stands log dismissed.pass
    → (worked : Worked start run talks posted dismissed) → IsPart run talks log (worker_door number posted.rules posted.door dismissed.door) (part_as worked.links dismissed.report)
part_of start run talks log number posted dismissed is fresh stands worked =
    let door = worked.at_door in
    subst (λ (n : ℕ). IsPart run talks log (worker_door n posted.rules posted.door dismissed.door) (part_as worked.links dismissed.report)) is (record {
      at_door = record {
        calls = own_calls start log posted.pass dismissed.pass _ fresh door.calls stands;
        served = door.served;
        talks = door.talks;
        place = door.place;
        waiting = door.waiting;
        accepted = door.accepted;
        reads = door.reads;
        writes = door.writes;
      };
      many = worked.many;
      ends = worked.ends;
      accept_faults = worked.accept_faults;
      finished = worked.count;
    })

-- lists as long as that of the rules
pub record AsLong (many : ℕ) (doors : List DoorState) (passes : List Known) (doors' : List DoorState) (passes' : List Known) (reports : List WorkerReport) : Type 0 where
  pub doors_are : length doors ≡ many
  pub passes_are : length passes ≡ many
  pub doors'_are : length doors' ≡ many
  pub passes'_are : length passes' ≡ many
  pub reports_are : length reports ≡ many

pub parts_of : (start : DeskState → Type 0) (run : DividedRun) (talks : ℕ) (log : List Record) (number : ℕ) (rules : List Rules) (doors : List DoorState) (passes : List Known) (doors' : List DoorState) (passes' more : List Known) (reports : List WorkerReport)
    → AsLong (length rules) doors passes doors' passes' reports → AreNew number (passes ++ more) → All (Stands log) passes' → HaveWorked start run talks (roster_as rules doors passes) (returned_as doors' passes' reports)
    → (parts : List Part) × EachPart (IsPart run talks log) number rules doors doors' parts × (reports ≡ map (λ (part : Part). part.report) parts)
parts_of start run talks log number [] [] [] [] [] more [] long new stands worked = ([], tt, refl)
parts_of start run talks log number (by ∷ rules) (old ∷ doors) (pass ∷ passes) (new ∷ doors') (pass' ∷ passes') more (report ∷ reports) long fresh stands worked =
    let done = worked 0 (posted_as by old pass) (dismissed_as new pass' report) (refl, refl, refl) (refl, refl, refl) in
    let here = part_of start run talks log number (posted_as by old pass) (dismissed_as new pass' report) fresh.0 fresh.1 (All-head (Stands log) pass' passes' stands) done in
    let rest = parts_of start run talks log (number + 1) rules doors passes doors' passes' more reports
    (record { doors_are = omega (arith, long.doors_are); passes_are = omega (arith, long.passes_are); doors'_are = omega (arith, long.doors'_are); passes'_are = omega (arith, long.passes'_are); reports_are = omega (arith, long.reports_are) })
    fresh.2 (All-tail (Stands log) pass' passes' stands) (λ k. worked (suc k)) in
    (part_as done.links report ∷ rest.0, (here, rest.1), ap (λ (l : List WorkerReport). report ∷ l) rest.2)
parts_of start run talks log number rules doors passes doors' passes' more reports long fresh stands worked =
    absurd (omega (arith, long.doors_are, long.passes_are, long.doors'_are, long.passes'_are, long.reports_are))
