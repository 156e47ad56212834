use Rattle.std.proofs.Common.{◌+◌, ◌++◌, ◌∷◌, [], ℕ, List, length, ◌∙◌, ap, arith}
use Rattle.foundation.specs.Bytes.{put}
use Rattle.spool_state.specs.Segment.{entries_text}
use Rattle.spool_state.proofs.Segments.{group_parts}
use Rattle.spool_slots.proofs.Pens.{none_written, run_then, none_run, lets_more}
use Rattle.spool_slots.proofs.append.write_group.Goals as goal

pub returns-in_err-write-2-clause-any_moment : goal.returns-in_err-write-2-clause-any_moment
returns-in_err-write-2-clause-any_moment g c = λ tells.
    let lawful = g.met.D.Disk.lawful c.args.disk.now tells in
    let none = none_run c.args.at (9 + length (entries_text c.args.entries.now)) _ lawful in
    let one = run_then _ _ _ _ _ _ _ (omega arith) (omega arith) none (c.write.ensures.any_moment tells) in
    let two = run_then _ _ _ _ _ _ _ (omega (arith, c.write.ensures.goes_on)) (omega (arith, c.in_ok-write.ensures.took, ap length c.group_head.ensures)) one (c.write_entries.ensures.any_moment tells) in
    run_then _ _ _ _ _ _ _ (omega (arith, c.write.ensures.goes_on, c.write_entries.ensures.goes_on)) (omega (arith, c.in_ok-write.ensures.took, c.in_ok-write_entries.ensures.took, ap length c.group_head.ensures)) two (c.write-2.ensures.any_moment tells)

pub returns-in_err-finish-clause-any_moment : goal.returns-in_err-finish-clause-any_moment
returns-in_err-finish-clause-any_moment g c = λ tells.
    let lawful = g.met.D.Disk.lawful c.args.disk.now tells in
    let none = none_run c.args.at (9 + length (entries_text c.args.entries.now)) _ lawful in
    let one = run_then _ _ _ _ _ _ _ (omega arith) (omega arith) none (c.write.ensures.any_moment tells) in
    let two = run_then _ _ _ _ _ _ _ (omega (arith, c.write.ensures.goes_on)) (omega (arith, c.in_ok-write.ensures.took, ap length c.group_head.ensures)) one (c.write_entries.ensures.any_moment tells) in
    let three = run_then _ _ _ _ _ _ _ (omega (arith, c.write.ensures.goes_on, c.write_entries.ensures.goes_on)) (omega (arith, c.in_ok-write.ensures.took, c.in_ok-write_entries.ensures.took, ap length c.group_head.ensures)) two (c.write-2.ensures.any_moment tells) in
    run_then _ _ _ _ _ _ _ (omega (arith, c.write.ensures.goes_on, c.write_entries.ensures.goes_on, c.write-2.ensures.goes_on)) (omega (arith, c.in_ok-write.ensures.took, c.in_ok-write_entries.ensures.took, c.in_ok-write-2.ensures.took, ap length c.group_head.ensures)) three (c.finish.ensures.any_moment tells)

pub returns-clause-any_moment : goal.returns-clause-any_moment
returns-clause-any_moment g c = λ tells.
    let lawful = g.met.D.Disk.lawful c.args.disk.now tells in
    let none = none_run c.args.at (9 + length (entries_text c.args.entries.now)) _ lawful in
    let one = run_then _ _ _ _ _ _ _ (omega arith) (omega arith) none (c.write.ensures.any_moment tells) in
    let two = run_then _ _ _ _ _ _ _ (omega (arith, c.write.ensures.goes_on)) (omega (arith, c.in_ok-write.ensures.took, ap length c.group_head.ensures)) one (c.write_entries.ensures.any_moment tells) in
    let three = run_then _ _ _ _ _ _ _ (omega (arith, c.write.ensures.goes_on, c.write_entries.ensures.goes_on)) (omega (arith, c.in_ok-write.ensures.took, c.in_ok-write_entries.ensures.took, ap length c.group_head.ensures)) two (c.write-2.ensures.any_moment tells) in
    run_then _ _ _ _ _ _ _ (omega (arith, c.write.ensures.goes_on, c.write_entries.ensures.goes_on, c.write-2.ensures.goes_on)) (omega (arith, c.in_ok-write.ensures.took, c.in_ok-write_entries.ensures.took, c.in_ok-write-2.ensures.took, ap length c.group_head.ensures)) three (c.finish.ensures.any_moment tells)

pub returns-clause-written : goal.returns-clause-written
returns-clause-written g c = λ tells.
    let lawful = g.met.D.Disk.lawful c.args.disk.now tells in
    let start = c.args.at in
    let base = (g.D.Disk.moment c.args.disk.now).reads in
    let entries = c.args.entries.now in
    let none = none_written start base c.args.buffer.now (omega (arith, c.requires.room, lawful.reads_size)) in
    let one = c.in_ok-write.ensures.written start base [] tells none in
    let two = c.in_ok-write_entries.ensures.written start base c.group_head.result tells one in
    let three = c.in_ok-write-2.ensures.written start base (c.group_head.result ++ entries_text entries) tells two in
    c.in_ok-finish.ensures.written start base ((c.group_head.result ++ entries_text entries) ++ 0 ∷ []) tells three
    ∙ ap (λ (l : List ℕ). put start (l ++ 0 ∷ []) base) (group_parts entries c.args.size c.group_head.result c.group_head.ensures c.requires.size)

pub write-requires-clause-leave : goal.write-requires-clause-leave
write-requires-clause-leave g c =
    lets_more g.D.Disk.tells g.D.Disk.moment g.D.Disk.may_tear c.args.at (9 + length (entries_text c.args.entries.now)) _ _ _ _ (omega arith) (omega (arith, ap length c.group_head.ensures)) (λ tells. none_run c.args.at (9 + length (entries_text c.args.entries.now)) _ (g.met.D.Disk.lawful c.args.disk.now tells)) c.requires.leave

pub write_entries-requires-clause-leave : goal.write_entries-requires-clause-leave
write_entries-requires-clause-leave g c =
    lets_more g.D.Disk.tells g.D.Disk.moment g.D.Disk.may_tear c.args.at (9 + length (entries_text c.args.entries.now)) _ _ _ _ (omega (arith, c.write.ensures.goes_on)) (omega (arith, c.in_ok-write.ensures.took, ap length c.group_head.ensures)) (λ tells.
    let none = none_run c.args.at (9 + length (entries_text c.args.entries.now)) _ (g.met.D.Disk.lawful c.args.disk.now tells) in
    run_then _ _ _ _ _ _ _ (omega arith) (omega arith) none (c.write.ensures.any_moment tells)) c.requires.leave

pub write-requires-2-clause-leave : goal.write-requires-2-clause-leave
write-requires-2-clause-leave g c =
    lets_more g.D.Disk.tells g.D.Disk.moment g.D.Disk.may_tear c.args.at (9 + length (entries_text c.args.entries.now)) _ _ _ _ (omega (arith, c.write.ensures.goes_on, c.write_entries.ensures.goes_on)) (omega (arith, c.in_ok-write.ensures.took, c.in_ok-write_entries.ensures.took, ap length c.group_head.ensures)) (λ tells.
    let none = none_run c.args.at (9 + length (entries_text c.args.entries.now)) _ (g.met.D.Disk.lawful c.args.disk.now tells) in
    let one = run_then _ _ _ _ _ _ _ (omega arith) (omega arith) none (c.write.ensures.any_moment tells) in
    run_then _ _ _ _ _ _ _ (omega (arith, c.write.ensures.goes_on)) (omega (arith, c.in_ok-write.ensures.took, ap length c.group_head.ensures)) one (c.write_entries.ensures.any_moment tells)) c.requires.leave

pub finish-requires-clause-leave : goal.finish-requires-clause-leave
finish-requires-clause-leave g c =
    lets_more g.D.Disk.tells g.D.Disk.moment g.D.Disk.may_tear c.args.at (9 + length (entries_text c.args.entries.now)) _ _ _ _ (omega (arith, c.write.ensures.goes_on, c.write_entries.ensures.goes_on, c.write-2.ensures.goes_on)) (omega (arith, c.in_ok-write.ensures.took, c.in_ok-write_entries.ensures.took, c.in_ok-write-2.ensures.took, ap length c.group_head.ensures)) (λ tells.
    let none = none_run c.args.at (9 + length (entries_text c.args.entries.now)) _ (g.met.D.Disk.lawful c.args.disk.now tells) in
    let one = run_then _ _ _ _ _ _ _ (omega arith) (omega arith) none (c.write.ensures.any_moment tells) in
    let two = run_then _ _ _ _ _ _ _ (omega (arith, c.write.ensures.goes_on)) (omega (arith, c.in_ok-write.ensures.took, ap length c.group_head.ensures)) one (c.write_entries.ensures.any_moment tells) in
    run_then _ _ _ _ _ _ _ (omega (arith, c.write.ensures.goes_on, c.write_entries.ensures.goes_on)) (omega (arith, c.in_ok-write.ensures.took, c.in_ok-write_entries.ensures.took, ap length c.group_head.ensures)) two (c.write-2.ensures.any_moment tells)) c.requires.leave
