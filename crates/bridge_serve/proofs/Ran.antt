-- A run over an opened spool, and what its note and its line tell.
use Rattle.std.proofs.Common.{◌≡◌, ◌⊎◌, inl, inr, ℕ, ◌+◌, ◌-◌, ◌≤◌, List, [], length, sym, ◌∙◌, ap, subst, arith}
use Rattle.std.specs.Prelude.{Option, map}
use Rattle.std.specs.Global.{Vec}
use Rattle.foundation.specs.Faults.{Rose}
use Rattle.edge_disk.specs.declared.disk.Disk.{Ghosts as Disks}
use Rattle.edge_io.specs.Door.{DoorState}
use Rattle.edge_io.specs.Net.{Bound, NetState}
use Rattle.conn_serve.specs.declared.rules.Rules.{Rules}
use Rattle.spool_state.specs.SpoolState.{SpoolState, end}
use Rattle.spool_state.specs.Left.{left as left_in}
use Rattle.spool_log.specs.declared.opening.Opening.TheVariants.{Raise}
use Rattle.spool_log.specs.Memory.{end_of}
use Rattle.spool_log.specs.Opening.{opened}
use Rattle.spool_log.specs.State.{View, IsIn}
use Rattle.desk_access.specs.declared.division.Division.{Division}
use Rattle.desk_access.specs.Division.{callers_of, each_of}
use Rattle.desk_access.specs.Call.{failures_of}
use Rattle.desk_access.specs.Desk.{DeskState}
use Rattle.desk_seats.specs.Passes.{Stands}
use Rattle.spool_turns.specs.Passes.{begun}
use Rattle.serve_workers.specs.Crews.{roster_as, returned_as}
use Rattle.serve_forwarder.specs.declared.destination.Destination.{Destination}
use Rattle.serve_forwarder.specs.Looks.{Forwarder, forwarder_at}
use Rattle.serve_run.specs.Running.{Given, Left, given_as}
use Rattle.serve_desk.specs.Serving.{seating_as}
use Rattle.notes.specs.declared.note.Note.{Note}
use Rattle.bridge_words.specs.Lines.{serve_line}
use Rattle.bridge_parts.specs.Opened.{desk_in}
use Rattle.bridge_parts.specs.Counted.{RoseBy, DiskRoseBy, WroteAfter, WritesOfBoth}
use Rattle.bridge_parts.specs.Pending.{pending_in}
use Rattle.bridge_parts.specs.Run.{DiskRun, OutputRun, disk_run}
use Rattle.bridge_parts.specs.Written.{first_of}
use Rattle.bridge_parts.proofs.Numbers.{end_seen, pending_seen}
use Rattle.bridge_serve.specs.declared.ended.Over.{Over}
use Rattle.bridge_serve.specs.Doors.{with_bound, SomeRose}
use Rattle.bridge_serve.specs.Noted.{IsNoteOf, note_of_workers, note_of_look, note_of_run, talks_of, PrintsLast}
use Rattle.bridge_serve.specs.Opened.{IsOpenedDesk, IsOpenedFrom, opened_at, desk_over}
use Rattle.bridge_serve.specs.Served.{Setup, DeskLeft, Back, back_as, IsUnserved, RunsOver, IsRunAt}
use Rattle.bridge_serve.proofs.Opening.{desk_is}
use Rattle.bridge_serve.proofs.Lines.{memory_last}
use Rattle.bridge_serve.proofs.Promises.{promises}
use Rattle.bridge_serve.proofs.Causes.{IsTold, not_usage, not_length, workers_tell, not_workers, forwarded_later, forwarded_binds_none, run_told, last_read, last_write, last_dial, last_disk, last_of_all, door_rose}

none_in_doubt : (x : DeskState) (s : SpoolState) → x ≡ desk_in (opened Raise s) → x.doubt ≡ []
none_in_doubt x s is = ap (λ (d : DeskState). d.doubt) is

module _ (disk : DiskRun) (setup : Setup) (given : Given) (left : Left) (desk : DeskLeft) (over : RunsOver disk setup given left desk)
    (note : Note) (is : IsNoteOf (note_of_run left.reports left.last) note) where
  -- in which state the desk began, and its forwarder before and after
  abbrev start : DeskState → Type 0
  start = IsOpenedDesk disk.tells disk.old.reads

  abbrev old : Forwarder
  old = forwarder_at over.served.forwarder given.net

  abbrev new : Forwarder
  new = forwarder_at over.served.forwarder' left.net

  told : IsTold note
  told = elim is [
    | inl same ↦ subst IsTold (sym same) (run_told start given.destination over.served.workers' old new left.last over.served.forwarded left.reports)
    | inr (inl write) ↦ subst IsTold (sym write) tt
    | inr (inr memory) ↦ subst IsTold (sym memory) tt
  ]

  pub known : (note ≡ Note.Usage → ⊥) × ((have want : ℕ) → note ≡ Note.WrongLength have want → ⊥)
  known = (not_usage note told, not_length note told)

  -- a note that no print has, and no worker, is that of the last look
  of_look : (n : Note) → (n ≡ Note.WriteFault → ⊥) → (n ≡ Note.NoMemory → ⊥) → (n ≡ Note.NetFault → ⊥) → note ≡ n → note_of_look left.last ≡ n
  of_look n write starved dial by = elim is [
    | inl same ↦ elim (not_workers (note_of_workers left.reports) (note_of_look left.last) (workers_tell left.reports)) [
      | inl memory ↦ absurd (starved (sym by ∙ same ∙ memory))
      | inr (inl net) ↦ absurd (dial (sym by ∙ same ∙ net.0))
      | inr (inr look) ↦ sym look ∙ sym same ∙ by
    ]
    | inr (inl print) ↦ absurd (write (sym by ∙ print))
    | inr (inr print) ↦ absurd (starved (sym by ∙ print))
  ]

  pub disk_rose : DiskRoseBy (note ≡ Note.DiskFault) disk.old disk.new
  disk_rose =
      let closes = over.served.closes in record {
        size = closes.replays.size;
        faults = record {
          later = closes.replays.later;
          cause = λ by.
              let one = last_disk start given.destination over.served.workers' old new left.last over.served.forwarded (of_look Note.DiskFault (λ e. cc) (λ e. cc) (λ e. cc) by) in
              let stands = last_of_all (Stands over.served.log) over.served.workers' over.served.forwarder' closes.pass in
              omega (arith, closes.replays.cause, one, closes.replays.each over.served.forwarder'.number, ap failures_of stands.1);
        };
      }

  pub read_rose : RoseBy (note ≡ Note.ReadFault) given.net.read_faults left.net.read_faults
  read_rose = record {
    later = (forwarded_later start given.destination over.served.workers' old new left.last over.served.forwarded).reads;
    cause = λ by. last_read start given.destination over.served.workers' old new left.last over.served.forwarded (of_look Note.ReadFault (λ e. cc) (λ e. cc) (λ e. cc) by);
  }

  pub dials : given.net.net_faults ≤ left.net.net_faults
  dials = (forwarded_later start given.destination over.served.workers' old new left.last over.served.forwarded).faults

  pub writes_rose : (before now : ℕ) → WroteAfter (note_of_run left.reports left.last) note before now
      → WritesOfBoth note before now given.net.write_faults left.net.write_faults
  writes_rose before now wrote = record {
    later = wrote.later;
    hung_later = (forwarded_later start given.destination over.served.workers' old new left.last over.served.forwarded).writes;
    cause = λ by. elim (wrote.cause by) [
      | inl ended ↦ inr (last_write start given.destination over.served.workers' old new left.last over.served.forwarded
          (elim (not_workers (note_of_workers left.reports) (note_of_look left.last) (workers_tell left.reports)) [
            | inl memory ↦ absurd (let e = sym ended ∙ memory in cc)
            | inr (inl net) ↦ absurd (let e = sym ended ∙ net.0 in cc)
            | inr (inr look) ↦ sym look ∙ ended
          ]))
      | inr print ↦ inl print
    ];
    quiet = wrote.quiet;
  }

  pub dial_cause : length given.rules ≡ length left.reports → length given.doors ≡ length left.reports → length left.doors ≡ length left.reports
      → note ≡ Note.NetFault → Rose 1 given.net.net_faults left.net.net_faults ⊎ SomeRose given.doors left.doors
  dial_cause r d d' by = elim is [
    | inl same ↦ elim (not_workers (note_of_workers left.reports) (note_of_look left.last) (workers_tell left.reports)) [
      | inl memory ↦ absurd (let e = sym by ∙ same ∙ memory in cc)
      | inr (inl net) ↦ inr (door_rose start over.run given.talks (roster_as given.rules given.doors over.served.workers)
          (returned_as left.doors over.served.workers' left.reports) over.served.worked r d (over.served.count.0 ∙ r) d' (over.served.count.1 ∙ r) net.1)
      | inr (inr look) ↦ inl (last_dial start given.destination over.served.workers' old new left.last over.served.forwarded (sym look ∙ sym same ∙ by))
    ]
    | inr (inl print) ↦ absurd (let e = sym by ∙ print in cc)
    | inr (inr print) ↦ absurd (let e = sym by ∙ print in cc)
  ]

  pub ran_at : (v : View) (had_end had_left : ℕ) (output : OutputRun) → IsOpenedFrom disk.tells disk.old v
      → had_end ≡ end_of v.memory → had_left ≡ pending_in v.memory → length given.rules ≡ length left.reports → length given.doors ≡ length left.reports
      → length left.doors ≡ length left.reports → length given.rules ≤ callers_of setup.division → given.talks ≤ each_of setup.division
      → PrintsLast (note_of_run left.reports left.last)
      (serve_line (talks_of left.reports) (end_of desk.memory - had_end) (had_left + (end_of desk.memory - had_end) - pending_in desk.memory) (pending_in desk.memory))
      note output
      → IsRunAt setup given disk output (back_as left.doors left.net) note
  ran_at v had_end had_left output from end_is left_is r d d' few most printed = record {
    reports = left.reports;
    last = left.last;
    note_is = is;
    desk = desk;
    over = over;
    promises = promises disk.tells start (seating_as over.run (length given.doors + 1) (begun (opened_at disk.tells disk.old over.clock) setup.grouped))
        (desk_over desk.memory desk.in_doubt disk.new over.ids)
        (record {
          given = given;
          left = left;
          served = over.served;
          doors_are = d ∙ sym r;
          doors'_are = d' ∙ sym r;
          reports_are = sym r;
          seats_are = omega (arith, d, r);
        })
        (subst (λ (d : Division). length given.rules ≤ callers_of d) (sym over.divided_by) few)
        (subst (λ (d : Division). given.talks ≤ each_of d) (sym over.divided_by) most) (λ x is. none_in_doubt x is.1 is.4) note (of_look Note.Fine (λ e. cc) (λ e. cc) (λ e. cc))
        (λ starved. memory_last (note_of_run left.reports left.last) _ note output (ap (λ (n : Note). first_of n (note_of_look left.last)) starved) printed);
    stored = end_of desk.memory - had_end;
    confirmed = had_left + (end_of desk.memory - had_end) - pending_in desk.memory;
    remaining = pending_in desk.memory;
    numbers = λ x opened.
        let begun_in = desk_is disk.tells disk.old.reads v x from.opens opened in
        let held : IsIn x.spool [] v = subst (λ (y : DeskState). IsIn y.spool [] v) (sym begun_in.desk) begun_in.held in
        let lead = over.served.closes.replays.leads x opened in
        let after = lead.reached.spool in
        let ends : end_of desk.memory ≡ end lead.after.spool = end_seen lead.after.spool lead.after.doubt _ after in
        let lefts : pending_in desk.memory ≡ length (left_in lead.after.spool) = pending_seen lead.after.spool lead.after.doubt _ after in
        let before : had_end ≡ end x.spool = end_is ∙ end_seen x.spool [] v held in
        let had : had_left ≡ length (left_in x.spool) = left_is ∙ pending_seen x.spool [] v held in record {
          stored_is = λ i. ends i - before i;
          confirmed_is = λ i. had i + (end_of desk.memory - had_end) - lefts i;
          remaining_is = lefts;
        };
    printed = printed;
    cause = dial_cause r d d';
  }

-- what is handed on is what the run left
pub handed_on : {D P : Type 0} (disks : Disks D) (told : P → DoorState) (before : D) (over : Over D P) (disk : D) (doors : Vec P)
    (setup : Setup) (given : Given) (output : OutputRun) (net : NetState) (note : Note) → over.disk ≡ disk → over.doors ≡ doors
    → IsRunAt setup given (disk_run disks.tells disks.moment before disk) output (back_as (map told doors.items) net) note
    → IsRunAt setup given (disk_run disks.tells disks.moment before over.disk) output (back_as (map told over.doors.items) net) note
handed_on {D} {P} disks told before over disk doors setup given output net note is are =
    subst (λ (t : D × Vec P). IsRunAt setup given (disk_run disks.tells disks.moment before t.0) output (back_as (map told t.1.items) net) note)
    (λ i. (sym is i, sym are i))

-- ---- what was bound

-- a run binds no door
pub run_binds_none : (setup : Setup) (given : Given) (disk : DiskRun) (output : OutputRun) (back : Back) (note : Note)
    → IsRunAt setup given disk output back note → back.net.bound ≡ given.net.bound
run_binds_none setup given disk output back note run =
    let served = run.over.served in
    forwarded_binds_none (IsOpenedDesk disk.tells disk.old.reads) given.destination served.workers' (forwarder_at served.forwarder given.net)
    (forwarder_at served.forwarder' back.net) run.last served.forwarded

-- nor does it matter how it is said what the net told before
pub run_with : (setup : Setup) (talks : ℕ) (rules : List Rules) (doors : List DoorState) (destination : Option Destination) (mid net : NetState)
    (disk : DiskRun) (output : OutputRun) (back : Back) (note : Note) → mid ≡ net
    → IsRunAt setup (given_as talks rules doors destination mid) disk output back note → IsRunAt setup (given_as talks rules doors destination net) disk output back note
run_with setup talks rules doors destination mid net disk output back note =
    subst (λ (n : NetState). IsRunAt setup (given_as talks rules doors destination n) disk output back note)

-- where no worker began it makes no difference that doors were bound before
pub unserved_with : (disk : DiskRun) (output : OutputRun) (old mid new : NetState) (bound : Option (List Bound)) (same same' : Type 0) (note : Note)
    → mid ≡ with_bound old bound → IsUnserved disk output (record { old = mid; new = new; same = same }) note
    → IsUnserved disk output (record { old = old; new = new; same = same' }) note
unserved_with disk output old mid new bound same same' note is unserved =
    let un = subst (λ (n : NetState). IsUnserved disk output (record { old = n; new = new; same = same }) note) is unserved in record {
      why = un.why;
      opened = un.opened;
      calls = un.calls;
      hung = record { hung = un.hung.hung; read_faults = un.hung.read_faults; write_faults = un.hung.write_faults };
      binds = un.binds;
      silent = un.silent;
    }
