use Rattle.std.proofs.Common.{◌∙◌, sym, subst, arith}
use Rattle.spool_log.specs.Memory.{cursor_of, end_of}
use Rattle.bridge_parts.specs.Pending.{pending_in}
use Rattle.bridge_parts.specs.Run.{disk_run}
use Rattle.commands.specs.Sending.{Sends}
use Rattle.commands.proofs.Forwarding.{session_as, not_idle}
use Rattle.commands.proofs.draining.send_out.Goals as goal

pub returns-clause-idle : goal.returns-clause-idle
returns-clause-idle g c = λ none.
    let more = not_idle c.is_idle.result (end_of c.args.spool.memory) (cursor_of c.args.spool.memory) c.is_idle.ensures c.if-is_idle.false in
    absurd (omega (arith, none, more))

pub returns-clause-sent : goal.returns-clause-sent
returns-clause-sent g c = λ more.
    let spool = c.send_both-sent.result.spool in
    let disk = sym (c.of-2.ensures.disk ∙ c.into_disk-2.ensures) in
    record {
      sent = c.send_both-sent.result.sent;
      note_is = c.of-2.ensures.note ∙ c.sent_note.ensures;
      remaining = pending_in spool.memory;
      session = session_as c.args.outward.now _ _ _ c.send_both-sent.result.sent (λ start until calls made s tells held.
          subst (λ (d : _). Sends s (disk_run g.D.Disk.tells g.D.Disk.moment c.args.spool.disk d) (pending_in spool.memory) start until calls) disk
          (made s tells held)) c.send_both-sent.ensures.session;
    }
