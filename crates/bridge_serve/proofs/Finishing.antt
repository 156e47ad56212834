-- A worker that ended well, at its door.
use Rattle.std.proofs.Common.{◌≡◌, ◌⊎◌, inl, inr, ℕ, ◌+◌, Bool, true, false, List, [], ◌∷◌, ◌++◌, length, refl, ◌∙◌, ap, subst, arith}
use Rattle.std.specs.Prelude.{Option, None, Some, map, if◌then◌else◌, ◌||◌}
use Rattle.std.specs.List.{AllZip, list_any}
use Rattle.std.proofs.lemmas.List.{append-nil}
use Rattle.foundation.specs.Faults.{Rose}
use Rattle.edge_io.specs.Door.{DoorState, Talked}
use Rattle.edge_io.specs.Told.{IsToldAs}
use Rattle.desk_access.specs.Division.{DividedRun}
use Rattle.desk_access.specs.Call.{Record}
use Rattle.conn_serve.specs.declared.rules.Rules.{Rules}
use Rattle.serve_workers.specs.Served.{Served, RisesBy, Tells, TellsMore}
use Rattle.serve_workers.specs.Works.{EndsBy}
use Rattle.serve_workers.specs.declared.worker.WorkerEnd.{WorkerEnd}
use Rattle.serve_workers.specs.declared.worker.WorkerEnd.TheVariants as worker
use Rattle.serve_workers.specs.declared.worker.WorkerReport.{WorkerReport}
use Rattle.serve_run.specs.Running.{Given, Left}
use Rattle.serve_laws.specs.Parts.{Part, WorkerDoor, worker_door, IsPart, AreParts, EachPart}
use Rattle.serve_laws.proofs.Behind.{no_length}
use Rattle.notes.specs.declared.note.Note.{Note}
use Rattle.bridge_serve.specs.Noted.{is_starved, is_refused, note_of_workers}
use Rattle.bridge_serve.specs.Promised.{GivesBack, IsServedOut}

-- ---- of each worker

zip_length : {X Y : Type 0} (R : X → Y → Type 0) (xs : List X) (ys : List Y) → AllZip R xs ys → length ys ≡ length xs
zip_length R [] [] all = refl
zip_length R [] (y ∷ ys) all = absurd all
zip_length R (x ∷ xs) [] all = absurd all
zip_length R (x ∷ xs) (y ∷ ys) all = omega (arith, zip_length R xs ys all.1)

gives_back : (rules : Rules) (links : List Served) (old new : Option (List Talked)) → TellsMore rules links old new → GivesBack (length links) old new
gives_back rules links None new tells = tells
gives_back rules links (Some before) new tells = (tells.0, zip_length (Tells rules) links tells.0 tells.1, tells.2)

-- why it ended, where it found memory
ended_well : (enough : Type 0) (door : DoorState) (late before now : ℕ) (end : WorkerEnd) → is_starved end ≡ false → EndsBy enough door late end → (end ≡ worker.AcceptFault → Rose 1 before now)
    → (late ≡ 0) × (IsToldAs door.waiting 0 ⊎ (enough ⊎ Rose 1 before now))
ended_well enough door late before now worker.Shut well ends cause = (ends.0, inl ends.1)
ended_well enough door late before now worker.Enough well ends cause = (ends.0, inr (inl ends.1))
ended_well enough door late before now worker.AcceptFault well ends cause = (ends, inr (inr (cause refl)))
ended_well enough door late before now worker.NoMemory well ends cause = absurd (cc)

one_served_out : (run : DividedRun) (talks : ℕ) (log : List Record) (at : WorkerDoor) (part : Part) → IsPart run talks log at part → is_starved part.report.end ≡ false
    → IsServedOut talks at part
one_served_out run talks log at part is well =
    let finished = part.links.finished in
    let late = part.links.late in
    let ended = ended_well (length finished ≡ talks) at.new (length late) at.old.accept_faults at.new.accept_faults part.report.end well is.ends is.accept_faults.cause in
    let none : late ≡ [] = no_length late ended.0 in
    let all : length (finished ++ late) ≡ length finished = ap (λ (l : List Served). length (finished ++ l)) none ∙ ap (λ (l : List Served). length l) (append-nil finished) in
    record {
      place = is.at_door.place;
      none_late = none;
      accepted = subst (λ (n : ℕ). RisesBy n at.old.accepted at.new.accepted) all is.at_door.accepted;
      given_back = gives_back at.rules finished at.old.talks at.new.talks is.at_door.talks;
      why = ended.1;
    }

-- ---- of all

none_starved : (report : WorkerReport) (reports : List WorkerReport) → list_any (λ (r : WorkerReport). is_starved r.end) (report ∷ reports) ≡ false
    → (is_starved report.end ≡ false) × (list_any (λ (r : WorkerReport). is_starved r.end) reports ≡ false)
none_starved report reports = by (is_starved report.end) where
  by : (b : Bool) → (b || list_any (λ (r : WorkerReport). is_starved r.end) reports) ≡ false → (b ≡ false) × (list_any (λ (r : WorkerReport). is_starved r.end) reports ≡ false)
  by true none = absurd (cc)
  by false none = (refl, none)

all_served_out : (run : DividedRun) (talks : ℕ) (log : List Record) (number : ℕ) (rules : List Rules) (doors doors' : List DoorState) (parts : List Part)
    → EachPart (IsPart run talks log) number rules doors doors' parts
    → list_any (λ (report : WorkerReport). is_starved report.end) (map (λ (part : Part). part.report) parts) ≡ false → EachPart (IsServedOut talks) number rules doors doors' parts
all_served_out run talks log number [] [] [] [] each well = tt
all_served_out run talks log number (by ∷ rules) (old ∷ doors) (new ∷ doors') (part ∷ parts) each well =
    let none = none_starved part.report (map (λ (one : Part). one.report) parts) well in
    (one_served_out run talks log (worker_door number by old new) part each.0 none.0, all_served_out run talks log (number + 1) rules doors doors' parts each.1 none.1)
all_served_out run talks log number rules doors doors' parts each well = absurd each

-- the note of the workers is want of memory where one of them found none
starved_note : (reports : List WorkerReport) → (note_of_workers reports ≡ Note.NoMemory → ⊥) → list_any (λ (report : WorkerReport). is_starved report.end) reports ≡ false
starved_note reports = by (list_any (λ (report : WorkerReport). is_starved report.end) reports) (list_any (λ (report : WorkerReport). is_refused report.end) reports) where
  by : (starved refused : Bool) → ((if starved then Note.NoMemory else (if refused then Note.NetFault else Note.Fine)) ≡ Note.NoMemory → ⊥) → starved ≡ false
  by true refused none = absurd (none refl)
  by false refused none = refl

pub served_out : (run : DividedRun) (log : List Record) (given : Given) (left : Left) (parts : List Part) → AreParts run log given left parts
    → (note_of_workers left.reports ≡ Note.NoMemory → ⊥) → EachPart (IsServedOut given.talks) 0 given.rules given.doors left.doors parts
served_out run log given left parts are well =
    all_served_out run given.talks log 0 given.rules given.doors left.doors parts are.each
    (subst (λ (reports : List WorkerReport). list_any (λ (report : WorkerReport). is_starved report.end) reports ≡ false) are.reports (starved_note left.reports well))
