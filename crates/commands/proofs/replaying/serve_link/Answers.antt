use Rattle.std.proofs.Common.{◌≡◌, ℕ, ◌*◌, ◌^◌, [], sym, ◌∙◌, ap, subst, arith}
use Rattle.std.specs.Prelude.{Bool}
use Rattle.edge_io.specs.declared.proto.Proto.TheVariants.{Hec}
use Rattle.hec_ids.specs.Rows.{opened}
use Rattle.spool_log.specs.Memory.{run_of}
use Rattle.spool_log.specs.State.{view, IsIn}
use Rattle.notes.specs.Notes.{note_of_talk}
use Rattle.conn_serve.specs.Says.{HasCarried}
use Rattle.conn_serve.specs.Serves.{CarriedAs, CarriedBy}
use Rattle.conn_serve.specs.Terms.{terms_of}
use Rattle.conn_serve.proofs.Faults.{counts_as}
use Rattle.commands.specs.Failed.{TellsDiskFault}
use Rattle.commands.specs.Replayed.{Keeps}
use Rattle.commands.proofs.Failing.{disk_calls, talk_by_read, talk_by_write}
use Rattle.bridge_parts.proofs.Desks.{desk_at}
use Rattle.commands.proofs.Replays.{ran_keeps}
use Rattle.commands.proofs.replaying.serve_link.Goals as goal

pub attend-attended-requires-clause-says : goal.attend-attended-requires-clause-says
attend-attended-requires-clause-says g c = λ read bytes same given now calls text made goes.
    let before : c.new-access.result.desk.spool.disk ≡ c.args.spool.disk = ap (λ d. d.spool.disk) c.new-access.ensures.desk in
    let run : c.from-conn.result * 2 ^ 32 ≡ run_of c.args.spool.memory * 2 ^ 32 = ap (λ (n : ℕ). n * 2 ^ 32) (c.from-conn.ensures ∙ c.run-run.ensures) in
    c.requires.answers now.desk.spool.disk bytes calls text (read, same, given)
    (λ s tells was.
    let held = subst (λ (b : Bool). IsIn s [] (view c.args.spool.memory b (g.D.Disk.moment c.args.spool.disk))) (sym c.requires.sure) was in
    let at = desk_at s c.new-ids.result c.run-run.result _ c.new-ids.ensures (c.run-run.ensures ∙ held.knows.run) (c.new-access.ensures.at s held) in
    subst (λ (d : _). Keeps s (g.D.Disk.moment d) (g.D.Disk.moment now.desk.spool.disk) calls) before (ran_keeps s _ _ _ calls tells at made))
    (subst (λ (n : ℕ). HasCarried (CarriedBy c.args.rules n) bytes calls text) run goes) read same

pub new-access-requires-clause-ids : goal.new-access-requires-clause-ids
new-access-requires-clause-ids g c = (0, omega arith, c.new-ids.ensures ∙ ap (λ (n : ℕ). opened n 0) c.run-run.ensures)

pub returns-clause-calls : goal.returns-clause-calls
returns-clause-calls g c =
    let run = c.attend-attended.ensures.carried in
    let before : c.new-access.result.desk.spool.disk ≡ c.args.spool.disk = ap (λ d. d.spool.disk) c.new-access.ensures.desk in
    let after : c.of.result.disk ≡ c.attend-attended.new.access.desk.spool.disk = c.of.ensures.disk ∙ c.into_disk.ensures ∙ ap (λ d. d.spool.disk) c.into_desk-desk.ensures in
    subst (λ (d : _). TellsDiskFault (c.args.rules.proto ≡ Hec) c.of.result.note (g.D.Disk.moment d) (g.D.Disk.moment c.of.result.disk)) before
    (subst (λ (d : _). TellsDiskFault (c.args.rules.proto ≡ Hec) c.of.result.note (g.D.Disk.moment c.new-access.result.desk.spool.disk) (g.D.Disk.moment d)) (sym after)
    (disk_calls c.args.rules.proto (terms_of c.args.rules) _ _ run.bytes run.calls run.text c.attend-attended.result.talk c.of.result.note g.D.Disk.tells _ _ (c.of.ensures.note ∙ c.of_talk.ensures) run.carried run.made))

pub returns-clause-reads : goal.returns-clause-reads
returns-clause-reads g c =
    let is : c.of.result.note ≡ note_of_talk c.attend-attended.result.talk = c.of.ensures.note ∙ c.of_talk.ensures in
    counts_as _ _ _ _ (λ by. talk_by_read c.attend-attended.result.talk (sym is ∙ by)) (λ by. is ∙ ap note_of_talk by) c.attend-attended.ensures.reads

pub returns-clause-writes : goal.returns-clause-writes
returns-clause-writes g c =
    let is : c.of.result.note ≡ note_of_talk c.attend-attended.result.talk = c.of.ensures.note ∙ c.of_talk.ensures in
    counts_as _ _ _ _ (λ by. talk_by_write c.attend-attended.result.talk (sym is ∙ by)) (λ by. is ∙ ap note_of_talk by) c.attend-attended.ensures.writes

pub returns-clause-served : goal.returns-clause-served
returns-clause-served g c =
    let run = c.attend-attended.ensures.carried in
    let before : c.new-access.result.desk.spool.disk ≡ c.args.spool.disk = ap (λ d. d.spool.disk) c.new-access.ensures.desk in
    let after : c.of.result.disk ≡ c.attend-attended.new.access.desk.spool.disk = c.of.ensures.disk ∙ c.into_disk.ensures ∙ ap (λ d. d.spool.disk) c.into_desk-desk.ensures in
    let number : c.from-conn.result * 2 ^ 32 ≡ c.run-run.result * 2 ^ 32 = ap (λ (n : ℕ). n * 2 ^ 32) c.from-conn.ensures in
    record {
      attended = c.attend-attended.result;
      note_is = c.of.ensures.note ∙ c.of_talk.ensures;
      serves = record {
        bytes = run.bytes;
        calls = run.calls;
        text = run.text;
        read = run.read;
        consumed = run.consumed;
        are_bytes = run.are_bytes;
        wrote = run.wrote;
        made = λ s tells was.
            let held = subst (λ (b : Bool). IsIn s [] (view c.args.spool.memory b (g.D.Disk.moment c.args.spool.disk))) (sym c.requires.sure) was in
            let at = desk_at s c.new-ids.result c.run-run.result _ c.new-ids.ensures (c.run-run.ensures ∙ held.knows.run) (c.new-access.ensures.at s held) in
            subst (λ (d : _). Keeps s (g.D.Disk.moment d) (g.D.Disk.moment c.of.result.disk) run.calls) before
            (subst (λ (d : _). Keeps s (g.D.Disk.moment c.new-access.result.desk.spool.disk) (g.D.Disk.moment d) run.calls) (sym after)
            (ran_keeps s _ _ _ run.calls tells at run.made));
        counted = run.counted;
        carried = subst (λ (n : ℕ). CarriedAs c.args.rules.proto (terms_of c.args.rules) n (g.L.Source.left c.attend-attended.new.link) run.bytes
            run.calls run.text c.attend-attended.result.talk) (number ∙ ap (λ (n : ℕ). n * 2 ^ 32) c.run-run.ensures) run.carried;
      };
    }
