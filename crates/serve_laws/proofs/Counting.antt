-- How many calls of a journal were answered that the disk failed, by their callers.
use Rattle.std.proofs.Common.{◌≡◌, inl, inr, ℕ, zero, suc, ◌+◌, ◌<◌, ◌≤◌, ◌==◌, Bool, true, false, cond, List, [], ◌∷◌, length, refl, ap, ◌∙◌, arith, ne_eqb}
use Rattle.std.specs.Prelude.{map}
use Rattle.std.specs.List.{All, sum_by}
use Rattle.std.proofs.lemmas.Bool.{cases_eq, cond-false, eqb-true}
use Rattle.std.proofs.lemmas.List.Elements.{All-nil, All-cons}
use Rattle.std.proofs.lemmas.List.Sums.{sum_by-cons}
use Rattle.foundation.specs.Faults.{Rose}
use Rattle.event_form.specs.declared.talk.Talk.{Talk}
use Rattle.event_form.specs.declared.talk.Talk.TheVariants.{DiskFault}
use Rattle.edge_io.specs.Door.{DoorState}
use Rattle.edge_io.specs.declared.proto.Proto.{Proto}
use Rattle.desk_access.specs.Division.{DividedRun}
use Rattle.desk_access.specs.Call.{Record, own_of, calls_of, failures_in, failures_of, failed_of, NoneJoins}
use Rattle.desk_access.specs.Journal.{failures_split, failures_then, none_joined}
use Rattle.conn_serve.specs.declared.rules.Rules.{Rules}
use Rattle.conn_serve.specs.DiskFaults.{TellsFailures}
use Rattle.conn_serve.specs.Terms.{terms_of}
use Rattle.conn_serve.proofs.Failing.{disk_fault_is_told}
use Rattle.serve_workers.specs.declared.worker.WorkerReport.{WorkerReport}
use Rattle.serve_workers.specs.Served.{Served, AreServed, by_disk, calls_in, how_many}
use Rattle.serve_run.specs.Running.{Given, Left}
use Rattle.serve_laws.specs.Parts.{AreParts, EachPart, IsPart, Part, links_of}
use Rattle.serve_laws.specs.Faults.{ended_by_disk, CountsEnded}

-- ---- of so many callers, from a number on

failures_from : ℕ → ℕ → List Record → ℕ
failures_from zero number log = 0
failures_from (suc many) number log = failures_of (own_of number log) + failures_from many (number + 1) log

failures_from-none : (many number : ℕ) → failures_from many number [] ≡ 0
unfolding failures_from
failures_from-none zero number = refl
failures_from-none (suc many) number = omega (arith, failures_from-none many (number + 1))

-- a record of a caller below them counts for none of them
failures_from-below : (many number : ℕ) (one : Record) (log : List Record) → one.by < number → failures_from many number (one ∷ log) ≡ failures_from many number log
unfolding failures_from
failures_from-below zero number one log less = refl
failures_from-below (suc many) number one log less =
    let other : own_of number (one ∷ log) ≡ own_of number log = cond-false (one.by == number) (one.call ∷ own_of number log) (own_of number log) (elim (cases_eq one.by number) [ inl same ↦ absurd (omega (arith, same, less)) | inr differ ↦ ne_eqb one.by number differ ]) in
    (λ i. failures_of (other i) + failures_from-below many (number + 1) one log (omega (arith, less)) i)

-- and each record for one of them at most
failures_from-one : (many number : ℕ) (one : Record) (log : List Record) → failures_from many number (one ∷ log) ≤ failures_in one.call + failures_from many number log
unfolding failures_from
failures_from-one zero number one log = omega arith
failures_from-one (suc many) number one log = by (failures_from-one many (number + 1) one log) (one.by == number) refl where
  by : failures_from many (number + 1) (one ∷ log) ≤ failures_in one.call + failures_from many (number + 1) log → (b : Bool) → (one.by == number) ≡ b
      → failures_of (cond b (one.call ∷ own_of number log) (own_of number log)) + failures_from many (number + 1) (one ∷ log) ≤ failures_in one.call + (failures_of (own_of number log) + failures_from many (number + 1) log)
  by rest true is = omega (arith, failures_from-below many (number + 1) one log (omega (arith, eqb-true one.by number is)))
  by rest false is = omega (arith, rest)

failures_from-all : (many number : ℕ) (log : List Record) → failures_from many number log ≤ failures_of (calls_of log)
unfolding failures_from
failures_from-all many number [] = omega (arith, failures_from-none many number)
failures_from-all many number (one ∷ log) = omega (arith, failures_from-one many number one log, failures_from-all many number log)

-- ---- of links

one_by_disk : (proto : Proto) (talk : Talk) (failures : ℕ) → TellsFailures proto failures talk → by_disk talk ≤ failures
one_by_disk proto DiskFault failures tells = omega (arith, tells.cause refl)
one_by_disk proto talk failures tells = omega arith

-- no more links ended since the disk failed than their calls were answered so
links_by_disk : (rules : Rules) (conn : ℕ) (links : List Served) → AreServed rules conn links → how_many by_disk links ≤ failures_of (calls_in links)
links_by_disk rules conn [] served = omega arith
links_by_disk rules conn (one ∷ links) served =
    let tells = disk_fault_is_told rules.proto (terms_of rules) one.conn one.left one.bytes one.calls one.text one.talk served.1 in
    omega (arith, sum_by-cons (λ (s : Served). by_disk s.talk) one links, failures_then one.calls (calls_in links), one_by_disk rules.proto one.talk (failures_of one.calls) tells, links_by_disk rules (conn + 1) links served.2)

parts_by_disk : (run : DividedRun) (talks : ℕ) (log : List Record) (number : ℕ) (rules : List Rules) (doors doors' : List DoorState) (parts : List Part) → EachPart (IsPart run talks log) number rules doors doors' parts
    → sum_by ended_by_disk parts ≤ failures_from (length parts) number log
unfolding failures_from
parts_by_disk run talks log number [] [] [] [] are = omega arith
parts_by_disk run talks log number (by ∷ rules) (old ∷ doors) (new ∷ doors') (part ∷ parts) (one, are) =
    let own : failures_of (own_of number log) ≡ failures_of (calls_in (links_of part)) = ap failures_of one.at_door.calls in
    omega (arith, sum_by-cons ended_by_disk part parts, own, links_by_disk by _ (links_of part) one.at_door.served, parts_by_disk run talks log (number + 1) rules doors doors' parts are)
parts_by_disk run talks log number rules doors doors' parts are = absurd are

rose_less : (n k before now : ℕ) → Rose n before now → k ≤ n → Rose k before now
rose_less n k before now rose less = omega (arith, rose, less)

-- of each part by itself, where no caller was answered so more often than changes failed
each_by_disk : (run : DividedRun) (talks : ℕ) (log : List Record) (number : ℕ) (rules : List Rules) (doors doors' : List DoorState) (parts : List Part) (before now : ℕ) → EachPart (IsPart run talks log) number rules doors doors' parts
    → Rose (failed_of log) before now → ((n : ℕ) → failures_of (own_of n log) ≤ failed_of log) → All (λ (part : Part). Rose (ended_by_disk part) before now) parts
each_by_disk run talks log number [] [] [] [] before now are rose each = All-nil (λ (part : Part). Rose (ended_by_disk part) before now)
each_by_disk run talks log number (by ∷ rules) (old ∷ doors) (new ∷ doors') (part ∷ parts) before now (one, are) rose each =
    let own : failures_of (own_of number log) ≡ failures_of (calls_in (links_of part)) = ap failures_of one.at_door.calls in
    All-cons (λ (part : Part). Rose (ended_by_disk part) before now) part parts
    (rose_less (failed_of log) (ended_by_disk part) before now rose (omega (arith, own, links_by_disk by _ (links_of part) one.at_door.served, each number)))
    (each_by_disk run talks log (number + 1) rules doors doors' parts before now are rose each)
each_by_disk run talks log number rules doors doors' parts before now are rose each = absurd are

pub disk_faults_counted : (grouped : Bool) (run : DividedRun) (log : List Record) (given : Given) (left : Left) (parts : List Part) (before now : ℕ) → AreParts run log given left parts
    → Rose (failed_of log) before now → (grouped ≡ false → NoneJoins log) → ((n : ℕ) → failures_of (own_of n log) ≤ failed_of log) → CountsEnded grouped parts before now
disk_faults_counted false run log given left parts before now are rose alone each =
    rose_less (failed_of log) (sum_by ended_by_disk parts) before now rose
    (omega (arith, parts_by_disk run given.talks log 0 given.rules given.doors left.doors parts are.each, failures_from-all (length parts) 0 log, failures_split log, none_joined log (alone refl)))
disk_faults_counted true run log given left parts before now are rose alone each =
    each_by_disk run given.talks log 0 given.rules given.doors left.doors parts before now are.each rose each

-- ---- reports

each_counted : (run : DividedRun) (talks : ℕ) (log : List Record) (number : ℕ) (rules : List Rules) (doors doors' : List DoorState) (parts : List Part) → EachPart (IsPart run talks log) number rules doors doors' parts
    → sum_by (λ (report : WorkerReport). report.finished) (map (λ (part : Part). part.report) parts) ≡ sum_by (λ (part : Part). length part.links.finished) parts
each_counted run talks log number [] [] [] [] are = refl
each_counted run talks log number (by ∷ rules) (old ∷ doors) (new ∷ doors') (part ∷ parts) (one, are) =
    let more = map (λ (part : Part). part.report) parts in
    omega (arith, sum_by-cons (λ (r : WorkerReport). r.finished) part.report more, sum_by-cons (λ (p : Part). length p.links.finished) part parts, one.finished, each_counted run talks log (number + 1) rules doors doors' parts are)
each_counted run talks log number rules doors doors' parts are = absurd are

pub reports_counted : (run : DividedRun) (log : List Record) (given : Given) (left : Left) (parts : List Part) → AreParts run log given left parts
    → sum_by (λ (report : WorkerReport). report.finished) left.reports ≡ sum_by (λ (part : Part). length part.links.finished) parts
reports_counted run log given left parts are =
    ap (sum_by (λ (report : WorkerReport). report.finished)) are.reports ∙ each_counted run given.talks log 0 given.rules given.doors left.doors parts are.each
