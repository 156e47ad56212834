use Rattle.std.proofs.Common.{◌≡◌, ◌-◌, ◌∙◌, List, ℕ, sym, ap, subst}
use Rattle.edge_io.specs.Net.{NetState}
use Rattle.edge_io.specs.Counts.{Gains}
use Rattle.notes.specs.declared.note.Note.{Note}
use Rattle.bridge_words.specs.Lines.{drain_line}
use Rattle.commands.specs.Drained.{PrintsOf}
use Rattle.bridge_parts.specs.Pending.{pending_in}
use Rattle.bridge_parts.specs.Run.{disk_run, output_run}
use Rattle.commands.specs.Sending.{Sends}
use Rattle.bridge_parts.specs.Counted.{WritesOfBoth, RoseBy}
use Rattle.commands.proofs.Forwarding.{no_dial_after, session_as}
use Rattle.commands.proofs.Hanging.{hung_up, link_reads, link_writes}
use Rattle.commands.proofs.placing.send_over.Goals as goal

pub send-sent-requires-clause-free : goal.send-sent-requires-clause-free
send-sent-requires-clause-free g c = g.met.N.Net.dialed_is_free

pub returns-clause-dials : goal.returns-clause-dials
returns-clause-dials g c =
    let same = g.met.N.Net.pauses_keep _ _ c.send-sent.ensures.paused in (
      λ by. no_dial_after c.send-sent.result.sent c.print_after-note.result c.print_after-note.ensures.note (sym c.of.ensures.note ∙ by),
      c.hang_up.ensures.quiet ∙ ap (λ (t : NetState). t.net_faults) same,
    )

pub returns-clause-reads : goal.returns-clause-reads
returns-clause-reads g c =
    let same = g.met.N.Net.pauses_keep _ _ c.send-sent.ensures.paused in
    subst (λ (n : Note). RoseBy (n ≡ Note.ReadFault) (g.N.Net.told c.args.net.now).read_faults (g.N.Net.told c.hang_up.new.self).read_faults)
    (sym c.of.ensures.note)
    (link_reads c.send-sent.result.sent c.print_after-note.result c.print_after-note.ensures.note _ _ _ _ c.send-sent.ensures.reads
    (subst (λ (t : NetState). Gains (g.N.L.Source.read_faults c.send-sent.new.link) t.read_faults (g.N.Net.told c.hang_up.new.self).read_faults)
    same c.hang_up.ensures.reads))

pub returns-clause-writes : goal.returns-clause-writes
returns-clause-writes g c =
    let same = g.met.N.Net.pauses_keep _ _ c.send-sent.ensures.paused in
    subst (λ (n : Note). WritesOfBoth n (g.K.Sink.write_faults c.args.output.now) (g.K.Sink.write_faults c.print_after-note.new.output)
    (g.N.Net.told c.args.net.now).write_faults (g.N.Net.told c.hang_up.new.self).write_faults) (sym c.of.ensures.note)
    (link_writes c.send-sent.result.sent c.print_after-note.result _ _ _ _ _ _ c.send-sent.ensures.writes
    (subst (λ (t : NetState). Gains (g.N.L.Sink.write_faults c.send-sent.new.link) t.write_faults (g.N.Net.told c.hang_up.new.self).write_faults)
    same c.hang_up.ensures.writes) c.print_after-note.ensures.writes)

pub returns-clause-bound : goal.returns-clause-bound
returns-clause-bound g c = c.hang_up.ensures.bound ∙ ap (λ (t : NetState). t.bound) (g.met.N.Net.pauses_keep _ _ c.send-sent.ensures.paused)

pub returns-clause-sent : goal.returns-clause-sent
returns-clause-sent g c =
    let spool = c.send-sent.result.spool in
    let sent = c.send-sent.result.sent in
    let disk = sym (c.of.ensures.disk ∙ c.into_disk.ensures) in
    let same = g.met.N.Net.pauses_keep _ _ c.send-sent.ensures.paused in
    let room = g.met.N.Net.pauses_keep_room _ _ c.send-sent.ensures.paused c.requires.room in
    let confirmed = c.saturating_sub-confirmed.ensures in
    let left = c.pending_count-left.ensures in
    let before = c.pending_count-before.ensures in
    let line : drain_line c.saturating_sub-confirmed.result c.pending_count-left.result
    ≡ drain_line (pending_in c.args.spool.memory - pending_in spool.memory) (pending_in spool.memory) = cc in record {
      sent = sent;
      remaining = pending_in spool.memory;
      given = g.N.L.Source.given c.send-sent.new.link;
      left_there = g.N.L.Source.left c.send-sent.new.link;
      taken = g.N.L.Sink.taken c.send-sent.new.link;
      session = session_as c.args.outward.now _ _ _ sent (λ start until calls made s tells held.
          subst (λ (d : _). Sends s (disk_run g.D.Disk.tells g.D.Disk.moment c.args.spool.disk d) (pending_in spool.memory) start until calls)
          disk (made s tells held)) c.send-sent.ensures.session;
      hung = hung_up _ _ _ _ _ _ _ _ _ (ap (λ (t : NetState). t.hung) same) c.send-sent.ensures.dialed room c.hang_up.ensures.adds;
      printed =
          let output = output_run g.K.Sink.taken g.K.Sink.write_faults c.args.output.now c.print_after-note.new.output in
          subst (λ (n : Note). PrintsOf sent (drain_line (pending_in c.args.spool.memory - pending_in spool.memory) (pending_in spool.memory)) n output)
          (sym c.of.ensures.note) (subst (λ (l : List ℕ). PrintsOf sent l c.print_after-note.result output) line c.print_after-note.ensures.printed);
    }
