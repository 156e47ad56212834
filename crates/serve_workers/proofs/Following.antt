-- One link after another.
use Rattle.std.proofs.Common.{◌≡◌, ℕ, ◌+◌, ◌≤◌, ◌<◌, ◌∙◌, arith, List, [], ◌∷◌, ◌++◌, length, length-append, refl, sym, ap, subst}
use Rattle.std.specs.Prelude.{All, Ok, Err}
use Rattle.std.proofs.lemmas.List.{append-nil}
use Rattle.std.proofs.lemmas.List.Sums.{sum_by-append}
use Rattle.std.proofs.lemmas.List.Elements.{All-nil, All-cons}
use Rattle.event_form.specs.declared.event.Entry.{Entry}
use Rattle.event_form.specs.declared.talk.Talk.{Talk}
use Rattle.event_form.specs.declared.talk.Talk.TheVariants.{DiskFault}
use Rattle.edge_io.specs.Door.{DoorState}
use Rattle.spool_faults.specs.declared.fault.TakeFault.TheVariants as Take
use Rattle.desk_access.specs.Batch.{AreNext, Belongs}
use Rattle.desk_access.specs.Call.{Call, takes, taken_by, failures_of}
use Rattle.desk_access.specs.Desk.{DeskState}
use Rattle.desk_access.specs.Division.{DividedRun, each_of, first_conn}
use Rattle.desk_access.specs.History.{written_by}
use Rattle.desk_access.specs.Journal.{failures_then}
use Rattle.desk_access.specs.Legal.{IsNext}
use Rattle.desk_access.proofs.Nexts.{AreEarlier, next_first}
use Rattle.conn_serve.specs.declared.rules.Rules.{Rules}
use Rattle.conn_serve.specs.Endings.{CountsFaults}
use Rattle.conn_serve.specs.Numbering.{IsOfConn, AreOfConn}
use Rattle.conn_serve.specs.Terms.{terms_of}
use Rattle.conn_serve.proofs.Indexing.{calls_are_of_conn}
use Rattle.conn_serve.proofs.Failing.{disk_fault_is_told}
use Rattle.desk_seats.specs.Passes.{Known}
use Rattle.desk_seats.specs.Ran.{Ran, ran_none, ran_more}
use Rattle.serve_workers.specs.declared.worker.WorkerEnd.{WorkerEnd}
use Rattle.serve_workers.specs.declared.worker.WorkerEnd.TheVariants.{Shut, Enough, AcceptFault, NoMemory}
use Rattle.serve_workers.specs.declared.worker.WorkerReport.{WorkerReport}
use Rattle.serve_workers.specs.Served.{Served, Links, AtDoor, links_as, links_in, AreServed, calls_in, how_many, by_disk}
use Rattle.serve_workers.specs.Works.{ServesLink, EndsBy, Stops, Worked, posted_as, dismissed_as}
use Rattle.serve_workers.specs.Crews.{IsReady}
use Rattle.serve_workers.proofs.Joining.{Done, at_door_of, done_of, done_none, done_then}

-- ---- what was taken is of earlier connections

abbrev Before : ℕ → Entry → Type 0
Before later e = e.conn < later

group_earlier : (conn index later : ℕ) (group : List Entry) → conn < later → AreNext conn index group → All (Before later) group
group_earlier conn index later [] lt next = All-nil (Before later)
group_earlier conn index later (e ∷ es) lt next = All-cons (Before later) e es (omega (arith, lt, next.0)) (group_earlier conn (index + 1) later es lt next.2)

call_earlier : (conn index later : ℕ) (call : Call) → conn < later → IsOfConn conn index call → All (Before later) (written_by call)
call_earlier conn index later (takes group (Ok receipt)) lt is = group_earlier conn index later group lt is
call_earlier conn index later (takes group (Err Take.DiskFault)) lt is = group_earlier conn index later group lt is
call_earlier conn index later call lt is = All-nil (Before later)

calls_earlier : (conn index later : ℕ) (calls : List Call) → conn < later → AreOfConn conn index calls → AreEarlier later calls
calls_earlier conn index later [] lt are = tt
calls_earlier conn index later (call ∷ calls) lt are = (call_earlier conn index later call lt are.0, calls_earlier conn (index + length (taken_by call)) later calls lt are.1)

earlier_then : (later : ℕ) (xs ys : List Call) → AreEarlier later xs → AreEarlier later ys → AreEarlier later (xs ++ ys)
earlier_then later [] ys p q = q
earlier_then later (x ∷ xs) ys p q = (p.0, earlier_then later xs ys p.1 q)

links_earlier : (rules : Rules) (first later : ℕ) (served : List Served) → first + length served ≤ later → AreServed rules first served → AreEarlier later (calls_in served)
links_earlier rules first later [] le are = tt
links_earlier rules first later (one ∷ more) le are =
    let of_conn = calls_are_of_conn rules.proto (terms_of rules) one.conn one.left one.bytes one.calls one.text one.talk are.1 in
    earlier_then later one.calls (calls_in more) (calls_earlier one.conn 0 later one.calls (omega (arith, are.0, le)) of_conn) (links_earlier rules (first + 1) later more (omega (arith, le)) are.2)

-- ---- no more connections ended since the disk failed than calls were answered so

disk_least : (talk : Talk) (n : ℕ) → (talk ≡ DiskFault → n ≡ 1) → by_disk talk ≤ n
disk_least DiskFault n h = omega (arith, h refl)
disk_least talk n h = omega arith

pub disk_faults : (rules : Rules) (first : ℕ) (served : List Served) → AreServed rules first served → how_many by_disk served ≤ failures_of (calls_in served)
disk_faults rules first [] are = omega arith
disk_faults rules first (one ∷ more) are =
    let told = disk_fault_is_told rules.proto (terms_of rules) one.conn one.left one.bytes one.calls one.text one.talk are.1 in
    let single : how_many by_disk (one ∷ []) ≡ by_disk one.talk = omega arith in
    let both : how_many by_disk (one ∷ more) ≡ by_disk one.talk + how_many by_disk more = sum_by-append (λ (s : Served). by_disk s.talk) (one ∷ []) more ∙ ap (λ (n : ℕ). n + how_many by_disk more) single in
    omega (arith, both, disk_least one.talk (failures_of one.calls) told.cause, failures_then one.calls (calls_in more), disk_faults rules (first + 1) more are.2)

-- ---- the worker

-- What a worker has done that goes on: it gave back each link, and no accept failed.
pub record Works (start : DeskState → Type 0) (run : DividedRun) (rules : Rules) (many : ℕ) (old new : DoorState) (pass pass' : Known) : Type 0 where
  pub finished : List Served
  pub count : length finished ≡ many
  pub done : Done rules (first_conn run pass.number) old new (λ calls. Ran start pass calls pass') finished finished
  pub accept_faults : new.accept_faults ≡ old.accept_faults

pub works_none : (start : DeskState → Type 0) (run : DividedRun) (rules : Rules) (old : DoorState) (pass : Known) → Works start run rules 0 old old pass pass
works_none start run rules old pass = record {
  finished = [];
  count = refl;
  done = done_none rules (first_conn run pass.number) old (λ calls. Ran start pass calls pass) (ran_none start pass);
  accept_faults = refl;
}

late_few : (end : WorkerEnd) (late : ℕ) (door : DoorState) → EndsBy ⊥ door late end → late ≤ 1
late_few Shut late door e = omega (arith, e.0)
late_few Enough late door e = absurd e.1
late_few AcceptFault late door e = omega (arith, e)
late_few NoMemory late door e = omega (arith, e)

-- what a worker reports
abbrev pub report : WorkerEnd → ℕ → WorkerReport
report end finished = record { end = end; finished = finished }

ends_so : (enough : Type 0) (end : WorkerEnd) (late : ℕ) (door : DoorState) → EndsBy ⊥ door late end → EndsBy enough door late end
ends_so enough Shut late door e = e
ends_so enough Enough late door e = absurd e.1
ends_so enough AcceptFault late door e = e
ends_so enough NoMemory late door e = e

module _ (start : DeskState → Type 0) (run : DividedRun) (rules : Rules) (many first n : ℕ) (old between : DoorState) (pass pass1 : Known) (first_is : first ≡ first_conn run pass.number) (same : n ≡ many) (w : Works start run rules many old between pass pass1) where
  -- the next connection begins
  pub works_may : IsReady run pass.number pass → n < each_of run.division → IsNext run pass1.number pass1.own (first + n) 0
  works_may ready few =
      let conn : first + n ≡ first_conn run pass.number + length w.finished = omega (arith, first_is, same, w.count) in
      let number : pass1.number ≡ pass.number = w.done.calls.number in
      let belongs : Belongs run pass.number (first + n) = record { few = ready.1; from = omega (arith, first_is); below = omega (arith, first_is, few) } in
      let own : calls_in w.finished ≡ pass1.own = sym (w.done.calls.own ∙ ap (λ (l : List Call). l ++ calls_in w.finished) ready.2) in
      let earlier : AreEarlier (first + n) (calls_in w.finished) = links_earlier rules (first_conn run pass.number) (first + n) w.finished (omega (arith, conn)) w.done.served in
      next_first run pass1.number pass1.own (first + n) (subst (λ (k : ℕ). Belongs run k (first + n)) (sym number) belongs) (subst (AreEarlier (first + n)) own earlier)

  -- a link more
  pub works_more : (new : DoorState) (pass2 : Known) → ServesLink rules (first + n) between new (λ calls. Ran start pass1 calls pass2) → Works start run rules (many + 1) old new pass pass2
  works_more new pass2 (one, at_door, faults) = record {
    finished = w.finished ++ one ∷ [];
    count = length-append w.finished (one ∷ []) ∙ ap (λ (k : ℕ). k + 1) w.count;
    done = done_then rules (first_conn run pass.number) (first + n) old between new (λ calls. Ran start pass calls pass1) (λ calls. Ran start pass1 calls pass2) (λ calls. Ran start pass calls pass2) w.finished (one ∷ []) (one ∷ [])
        (omega (arith, first_is, same, w.count)) (λ calls more p q. ran_more start pass pass1 pass2 calls more p q) w.done (done_of rules (first + n) between new (λ calls. Ran start pass1 calls pass2) (links_as (one ∷ []) []) at_door);
    accept_faults = faults ∙ w.accept_faults;
  }

  -- the worker has ended, before it served as many links as it was to
  pub works_ends : (talks : ℕ) (new : DoorState) (pass2 : Known) (end : WorkerEnd) → many < talks → Stops rules (first + n) between new (λ calls. Ran start pass1 calls pass2) end → Worked start run talks (posted_as rules old pass) (dismissed_as new pass2 (report end many))
  works_ends talks new pass2 end less o =
      let made = λ (calls : List Call). Ran start pass calls pass2 in
      let last = done_of rules (first + n) between new (λ calls. Ran start pass1 calls pass2) (links_as [] o.late) o.at_door in
      let done : Done rules (first_conn run pass.number) old new made (w.finished ++ o.late) (w.finished ++ []) =
      done_then rules (first_conn run pass.number) (first + n) old between new (λ calls. Ran start pass calls pass1) (λ calls. Ran start pass1 calls pass2) made w.finished o.late []
      (omega (arith, first_is, same, w.count)) (λ calls more p q. ran_more start pass pass1 pass2 calls more p q) w.done last in
      record {
        links = links_as w.finished o.late;
        count = sym w.count;
        at_door = at_door_of rules (first_conn run pass.number) old new made (links_as w.finished o.late) (subst (Done rules (first_conn run pass.number) old new made (w.finished ++ o.late)) (append-nil w.finished) done);
        many = omega (arith, length-append w.finished o.late, w.count, late_few end (length o.late) new o.ends, less);
        ends = ends_so (length w.finished ≡ talks) end (length o.late) new o.ends;
        accept_faults = subst (λ (k : ℕ). CountsFaults (end ≡ AcceptFault) k new.accept_faults) w.accept_faults o.accept_faults;
        disk_faults = disk_faults rules (first_conn run pass.number) (w.finished ++ o.late) done.served;
      }

-- it served as many links as it was to
pub works_enough : (start : DeskState → Type 0) (run : DividedRun) (rules : Rules) (many talks : ℕ) (old new : DoorState) (pass pass' : Known) → many ≡ talks → Works start run rules many old new pass pass' → Worked start run talks (posted_as rules old pass) (dismissed_as new pass' (report Enough talks))
works_enough start run rules many talks old new pass pass' all w =
    let made = λ (calls : List Call). Ran start pass calls pass' in
    let done = subst (λ (l : List Served). Done rules (first_conn run pass.number) old new made l w.finished) (sym (append-nil w.finished)) w.done in
    record {
      links = links_as w.finished [];
      count = sym (w.count ∙ all);
      at_door = at_door_of rules (first_conn run pass.number) old new made (links_as w.finished []) done;
      many = omega (arith, length-append w.finished [], w.count, all);
      ends = (refl, w.count ∙ all);
      accept_faults = record { later = omega (arith, w.accept_faults); cause = λ (is : Enough ≡ AcceptFault). absurd (cc); quiet = λ none. w.accept_faults };
      disk_faults = disk_faults rules (first_conn run pass.number) (w.finished ++ []) done.served;
    }

-- ---- calls of which more, or other things, are known

door_by : (rules : Rules) (first : ℕ) (old new : DoorState) (made known : List Call → Type 0) (links : Links) → ((calls : List Call) → made calls → known calls) → AtDoor rules first old new made links → AtDoor rules first old new known links
door_by rules first old new made known links by d = record {
  calls = by (calls_in (links_in links)) d.calls;
  served = d.served;
  talks = d.talks;
  place = d.place;
  waiting = d.waiting;
  accepted = d.accepted;
  reads = d.reads;
  writes = d.writes;
}

pub serves_by : (rules : Rules) (conn : ℕ) (old new : DoorState) (made known : List Call → Type 0) → ((calls : List Call) → made calls → known calls) → ServesLink rules conn old new made → ServesLink rules conn old new known
serves_by rules conn old new made known by s = (s.0, door_by rules conn old new made known _ by s.1, s.2)

pub stops_by : (rules : Rules) (conn : ℕ) (old new : DoorState) (made known : List Call → Type 0) (end : WorkerEnd) → ((calls : List Call) → made calls → known calls) → Stops rules conn old new made end → Stops rules conn old new known end
stops_by rules conn old new made known end by s = record { late = s.late; at_door = door_by rules conn old new made known _ by s.at_door; ends = s.ends; accept_faults = s.accept_faults }
