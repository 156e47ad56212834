-- From what the words let be written at their places to what is asked of each worker.
use Rattle.std.proofs.Common.{◌≡◌, ◌⊎◌, inl, ℕ, ◌+◌, ◌≤◌, List, [], ◌∷◌, ◌++◌, refl, sym, ◌∙◌, ap, subst, arith}
use Rattle.std.specs.Prelude.{Bool}
use Rattle.edge_disk.specs.declared.disk.Disk.{Ghosts}
use Rattle.edge_disk.specs.Disk.{Moment}
use Rattle.edge_disk.proofs.Moments.{weaker}
use Rattle.spool_log.specs.declared.memory.Memory.{Memory}
use Rattle.spool_log.specs.declared.opening.Opening.TheVariants.{Raise}
use Rattle.spool_log.specs.Opening.{opened, IsOpening}
use Rattle.spool_log.specs.State.{view}
use Rattle.spool_desk.specs.Alone.{alone_at}
use Rattle.desk_access.specs.Division.{DividedRun, divided, first_conn}
use Rattle.desk_access.specs.Call.{Call, own_of}
use Rattle.desk_access.specs.Desk.{DeskState, Stood}
use Rattle.desk_access.specs.Journal.{own_then}
use Rattle.conn_serve.specs.declared.rules.Rules.{Rules}
use Rattle.conn_serve.specs.Says.{HasCarried}
use Rattle.conn_serve.specs.Serves.{CarriedBy}
use Rattle.desk_seats.specs.Passes.{Known}
use Rattle.spool_turns.specs.Passes.{Beginning, begun}
use Rattle.desk_seats.specs.Ran.{Ran}
use Rattle.spool_turns.specs.Replays.{IsReal}
use Rattle.serve_workers.specs.Answering.{MayAnswer as WorkerMay}
use Rattle.serve_workers.specs.Served.{Served}
use Rattle.serve_laws.specs.Durable.{IsLinkDurable}
use Rattle.serve_laws.proofs.Durable.{none_durable}
use Rattle.serve_laws.proofs.Saying.{says_durable}
use Rattle.bridge_words.specs.declared.command.Server.{Server}
use Rattle.bridge_serve.specs.Answered.{IsDurable, first_link, WorkerMayAnswer, MayAnswer, StandsAt}
use Rattle.bridge_serve.specs.Opened.{IsOpenedDesk, opened_at, IsOpenedFrom}
use Rattle.bridge_serve.proofs.Opening.{opened_desk, any_moment}

-- what a server may answer, the worker may that serves at one of its doors
pub stands_may : {D : Type 0} (tells : Type 0) (moment : D → Moment) (given : D) (server : Server) (Permits : List ℕ → ℕ → ℕ → List ℕ → List ℕ → Type 0)
    (number : ℕ) (rules : Rules) (DoorPermits : ℕ → List ℕ → List ℕ → Type 0)
    → MayAnswer tells moment given server Permits → StandsAt server Permits number rules DoorPermits
    → WorkerMayAnswer tells moment given (first_link server.division number rules) DoorPermits
stands_may tells moment given server Permits number rules DoorPermits may at k few disk bytes text is =
    at.permits k bytes text (may at.proto at.place at.named at.door at.few k few disk bytes text
    (subst (λ (w : ℕ × Rules). IsDurable tells (moment given) (moment disk) (record { rules = w.1; division = server.division; worker = w.0; before = k }) bytes text)
    (λ i. (at.number_is i, at.rules_are i)) is))

-- of a spool that was opened for storing, and of the desk over it
module _ {D : Type 0} (disks : Ghosts D) (given now : D) (memory : Memory) (in_doubt : Bool) (clock : ℕ) (grouped : Bool) (run : DividedRun) (seats : ℕ)
    (from : IsOpenedFrom disks.tells (disks.moment given) (view memory in_doubt (disks.moment now))) (later : disks.tells → (disks.moment given).clock ≤ clock)
    (of_run : (x : DeskState) → IsOpenedDesk disks.tells (disks.moment given).reads x → x.spool.run ≡ run.number) where
  abbrev start : DeskState → Type 0
  start = IsOpenedDesk disks.tells (disks.moment given).reads

  abbrev began : Beginning
  began = begun (opened_at disks.tells (disks.moment given) clock) grouped

  -- the link that was served so far, with the calls that promise nothing
  abbrev link : (rules : Rules) (conn : ℕ) (bytes : List ℕ) (calls : List Call) (text : List ℕ) → HasCarried (CarriedBy rules conn) bytes calls text → Served
  link rules conn bytes calls text c = record { conn = conn; calls = calls ++ c.late; bytes = bytes; left = c.left; text = text; talk = c.talk }

  numbered : (number k : ℕ) (x : DeskState) → start x → first_conn run number + k ≡ first_conn (divided run.division x.spool.run) number + k
  numbered number k x is = ap (λ (r : ℕ). first_conn (divided run.division r) number + k) (sym (of_run x is))

  -- the state in which it was opened
  began_in : disks.tells → (x : DeskState) × start x
  began_in = opened_desk disks.tells (disks.moment given).reads (view memory in_doubt (disks.moment now)) from.opens

  -- no call was made yet
  with_none : (number k : ℕ) (rules : Rules) (bytes text : List ℕ) → HasCarried (CarriedBy rules (first_conn run number + k)) bytes [] text
      → IsDurable disks.tells (disks.moment given) (disks.moment now) (record { rules = rules; division = run.division; worker = number; before = k }) bytes text
  with_none number k rules bytes text c =
      let durable : disks.tells → IsLinkDurable [] 0 (disks.moment now) rules (link rules (first_conn run number + k) bytes [] text c) =
      λ told. none_durable [] 0 (disks.moment now) rules (link rules (first_conn run number + k) bytes [] text c) c.carried c.nothing
      (λ image left. let s = from.opens told in (opened Raise s.0, s.1.reached.each image left)) in
      record {
        one = link rules (first_conn run number + k) bytes [] text c;
        bytes_are = refl;
        text_is = refl;
        log = [];
        led = λ told. let x = began_in told in record {
          start = x.0;
          opened = x.1;
          after = x.0;
          goes = refl;
          any_moment = weaker (IsOpening Raise (disks.moment given)) (λ c. IsOpening Raise (disks.moment given) c ⊎ Stood x.0 [] c)
              (disks.moment given) (disks.moment now) (from.any_moment told) (λ c left. inl left);
        };
        conn_is = λ told. let x = began_in told in numbered number k x.0 x.1;
        caller = 0;
        earlier = [];
        made = [];
        own = refl;
        late = c.late;
        calls_are = refl;
        nothing_late = c.nothing;
        served = c.carried;
        acked = λ told. (durable told).acked;
        answers = λ told. (durable told).answers c.carried;
      }

  -- calls were made, and their journal is real
  with_real : (number k : ℕ) (rules : Rules) (pass pass' : Known) (bytes : List ℕ) (calls : List Call) (text : List ℕ)
      → Ran start pass calls pass' → (real : IsReal disks start run seats began pass'.seen) → HasCarried (CarriedBy rules (first_conn run number + k)) bytes calls text
      → IsDurable disks.tells (disks.moment given) (disks.moment real.0.desk.spool.disk) (record { rules = rules; division = run.division; worker = number; before = k }) bytes text
  with_real number k rules pass pass' bytes calls text ran real c =
      let own : own_of pass.number pass'.seen ≡ own_of pass.number pass.seen ++ calls =
      ap (own_of pass.number) ran.seen ∙ own_then pass.number pass.seen ran.between ∙ ap (λ (l : List Call). own_of pass.number pass.seen ++ l) ran.own_between in
      let durable : disks.tells → IsLinkDurable pass'.seen pass.number (disks.moment real.0.desk.spool.disk) rules (link rules (first_conn run number + k) bytes calls text c) =
      λ told. let x = began_in told in
      says_durable disks.tells start run seats began pass'.seen (alone_at real.0) real.1 real.2 x.0 x.1 pass.number (own_of pass.number pass.seen) calls c.late rules
      (link rules (first_conn run number + k) bytes calls text c) c.carried own refl c.nothing in
      record {
        one = link rules (first_conn run number + k) bytes calls text c;
        bytes_are = refl;
        text_is = refl;
        log = pass'.seen;
        led = λ told.
            let x = began_in told in
            let lead = real.1.leads x.0 x.1 in record {
              start = x.0;
              opened = x.1;
              after = lead.after;
              goes = lead.goes;
              any_moment = any_moment disks.tells (disks.moment given) (disks.moment real.0.desk.spool.disk) clock (Stood x.0 pass'.seen) told (later told)
                  lead.any_moment;
            };
        conn_is = λ told. let x = began_in told in numbered number k x.0 x.1;
        caller = pass.number;
        earlier = own_of pass.number pass.seen;
        made = calls;
        own = own;
        late = c.late;
        calls_are = refl;
        nothing_late = c.nothing;
        served = c.carried;
        acked = λ told. (durable told).acked;
        answers = λ told. (durable told).answers c.carried;
      }

  -- what the worker of that number may answer, a pass may that made the calls
  pub worker_may : (number : ℕ) (rules : Rules) (Permits : ℕ → List ℕ → List ℕ → Type 0)
      → WorkerMayAnswer disks.tells (λ (d : D). disks.moment d) given (first_link run.division number rules) Permits
      → WorkerMay (IsReal disks start run seats began) start run number Permits rules
  worker_may number rules Permits may k pass pass' bytes [] text few ran real c =
      may k few now bytes text (with_none number k rules bytes text c)
  worker_may number rules Permits may k pass pass' bytes (call ∷ calls) text few ran real c =
      let is = real (omega arith) in
      may k few is.0.desk.spool.disk bytes text (with_real number k rules pass pass' bytes (call ∷ calls) text ran is c)
