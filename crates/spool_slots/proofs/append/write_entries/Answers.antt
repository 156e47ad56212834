use Rattle.std.proofs.Common.{◌≡◌, ◌+◌, ◌++◌, ℕ, List, length, take, ◌∙◌, ap, subst, arith}
use Rattle.event_form.proofs.Fields.{length-head_text}
use Rattle.spool_state.specs.Segment.{entries_text}
use Rattle.spool_state.proofs.Entries.{entries_within, length-entries_more, parts_more}
use Rattle.spool_slots.specs.Pen.{HasWritten}
use Rattle.spool_slots.proofs.Faults.{calls_passed}
use Rattle.spool_slots.proofs.Pens.{run_then, lets_more}
use Rattle.spool_slots.proofs.append.write_entries.Goals as goal

pub write-requires-clause-room : goal.write-requires-clause-room
write-requires-clause-room g c =
    let i = c.loop-entry.entry-index in
    let e = c.entry-item.result in
    omega (arith, c.requires.room, c.loop-entry.invariant.calls.size, c.loop-entry.invariant.took, ap length c.entry_head.ensures, length-head_text e, length-entries_more c.args.entries.now i e c.loop-entry-test.true c.entry-item.is, entries_within c.args.entries.now (i + 1))

pub returns-in_err-write-clause-any_moment : goal.returns-in_err-write-clause-any_moment
returns-in_err-write-clause-any_moment g c = λ tells.
    let i = c.loop-entry.entry-index in
    let e = c.entry-item.result in
    run_then _ _ _ _ _ _ _ c.loop-entry.invariant.goes_on (omega (arith, c.loop-entry.invariant.took, ap length c.entry_head.ensures, length-head_text e, length-entries_more c.args.entries.now i e c.loop-entry-test.true c.entry-item.is, entries_within c.args.entries.now (i + 1))) (c.loop-entry.invariant.run tells) (c.write.ensures.any_moment tells)

pub write-requires-in-loop-entry-clause-room : goal.write-requires-in-loop-entry-clause-room
write-requires-in-loop-entry-clause-room g c =
    let i = c.loop-entry.entry-index in
    let e = c.entry-item.result in
    omega (arith, c.requires.room, c.write.ensures.calls.size, c.in_ok-write.ensures.took, c.loop-entry.invariant.calls.size, c.loop-entry.invariant.took, ap length c.entry_head.ensures, ap length c.bytes.ensures, length-head_text e, length-entries_more c.args.entries.now i e c.loop-entry-test.true c.entry-item.is, entries_within c.args.entries.now (i + 1))

pub returns-in_err-write-2-clause-any_moment : goal.returns-in_err-write-2-clause-any_moment
returns-in_err-write-2-clause-any_moment g c = λ tells.
    let i = c.loop-entry.entry-index in
    let e = c.entry-item.result in
    let more = length-entries_more c.args.entries.now i e c.loop-entry-test.true c.entry-item.is in
    let within = entries_within c.args.entries.now (i + 1) in
    let first = run_then _ _ _ _ _ _ _ c.loop-entry.invariant.goes_on (omega (arith, c.loop-entry.invariant.took, ap length c.entry_head.ensures, length-head_text e, more, within)) (c.loop-entry.invariant.run tells) (c.write.ensures.any_moment tells) in
    run_then _ _ _ _ _ _ _ (omega (arith, c.loop-entry.invariant.goes_on, c.write.ensures.goes_on)) (omega (arith, c.loop-entry.invariant.took, c.in_ok-write.ensures.took, ap length c.entry_head.ensures, ap length c.bytes.ensures, length-head_text e, more, within)) first (c.write-in-loop-entry.ensures.any_moment tells)

pub loop-entry-preserved : goal.loop-entry-preserved
loop-entry-preserved g c =
    let i = c.loop-entry.entry-index in
    let e = c.entry-item.result in
    let more = length-entries_more c.args.entries.now i e c.loop-entry-test.true c.entry-item.is in
    let within = entries_within c.args.entries.now (i + 1) in
    let head : length c.entry_head.result ≡ 29 = ap length c.entry_head.ensures ∙ length-head_text e in
    let pen = c.write-in-loop-entry.new.self in
    let done = entries_text (take i c.args.entries.now) in
    record {
      calls = calls_passed _ _ _ _ (calls_passed _ _ _ _ c.loop-entry.invariant.calls c.in_ok-write.ensures.calls (λ f. cc)) c.in_ok-write-2.ensures.calls (λ f. cc);
      goes_on = omega (arith, c.loop-entry.invariant.goes_on, c.write.ensures.goes_on, c.write-in-loop-entry.ensures.goes_on);
      took = omega (arith, c.loop-entry.invariant.took, c.in_ok-write.ensures.took, c.in_ok-write-2.ensures.took, head, ap length c.bytes.ensures, more);
      run = λ tells.
          let first = run_then _ _ _ _ _ _ _ c.loop-entry.invariant.goes_on (omega (arith, c.loop-entry.invariant.took, head, more, within)) (c.loop-entry.invariant.run tells) (c.write.ensures.any_moment tells) in
          run_then _ _ _ _ _ _ _ (omega (arith, c.loop-entry.invariant.goes_on, c.write.ensures.goes_on)) (omega (arith, c.loop-entry.invariant.took, c.in_ok-write.ensures.took, head, ap length c.bytes.ensures, more, within)) first (c.write-in-loop-entry.ensures.any_moment tells);
      written = λ start base before tells has.
          let first = c.in_ok-write.ensures.written start base (before ++ done) tells (c.loop-entry.invariant.written start base before tells has) in
          let second = c.in_ok-write-2.ensures.written start base ((before ++ done) ++ c.entry_head.result) tells first in
          subst (λ (l : List ℕ). HasWritten start base l pen.at pen.filled c.write-in-loop-entry.new.buffer (g.D.Disk.moment c.write-in-loop-entry.new.disk).reads)
          (ap (λ (l : List ℕ). ((before ++ done) ++ c.entry_head.result) ++ l) c.bytes.ensures ∙ ap (λ (l : List ℕ). ((before ++ done) ++ l) ++ e.event.text) c.entry_head.ensures ∙ parts_more before c.args.entries.now i e c.loop-entry-test.true c.entry-item.is)
          second;
    }

pub write-requires-clause-leave : goal.write-requires-clause-leave
write-requires-clause-leave g c =
    let i = c.loop-entry.entry-index in
    let e = c.entry-item.result in
    lets_more g.D.Disk.tells g.D.Disk.moment g.D.Disk.may_tear c.args.pen.now.at (c.args.pen.now.filled + length (entries_text c.args.entries.now)) _ _ _ _ c.loop-entry.invariant.goes_on
    (omega (arith, c.loop-entry.invariant.took, ap length c.entry_head.ensures, length-head_text e, length-entries_more c.args.entries.now i e c.loop-entry-test.true c.entry-item.is, entries_within c.args.entries.now (i + 1))) c.loop-entry.invariant.run c.requires.leave

pub write-requires-in-loop-entry-clause-leave : goal.write-requires-in-loop-entry-clause-leave
write-requires-in-loop-entry-clause-leave g c =
    let i = c.loop-entry.entry-index in
    let e = c.entry-item.result in
    let more = length-entries_more c.args.entries.now i e c.loop-entry-test.true c.entry-item.is in
    let within = entries_within c.args.entries.now (i + 1) in
    lets_more g.D.Disk.tells g.D.Disk.moment g.D.Disk.may_tear c.args.pen.now.at (c.args.pen.now.filled + length (entries_text c.args.entries.now)) _ _ _ _ (omega (arith, c.loop-entry.invariant.goes_on, c.write.ensures.goes_on))
    (omega (arith, c.loop-entry.invariant.took, c.in_ok-write.ensures.took, ap length c.entry_head.ensures, ap length c.bytes.ensures, length-head_text e, more, within))
    (λ tells. run_then _ _ _ _ _ _ _ c.loop-entry.invariant.goes_on (omega (arith, c.loop-entry.invariant.took, ap length c.entry_head.ensures, length-head_text e, more, within)) (c.loop-entry.invariant.run tells) (c.write.ensures.any_moment tells)) c.requires.leave
