use Rattle.std.proofs.Common.{◌≡◌, ℕ, ◌+◌, ◌*◌, List, ap, sym, subst, arith}
use Rattle.edge_disk.proofs.Calls.{calls_as, calls_on}
use Rattle.edge_disk.proofs.Moments.{untouched_then}
use Rattle.spool_state.specs.Broken.{BreaksAt}
use Rattle.spool_state.specs.Image.{slot_at}
use Rattle.bridge_rescue.specs.Looking.{IsReadable, IsSeen}
use Rattle.bridge_rescue.proofs.Seeing.{seen_cut, seen_unread, seen_closed, seen_read, readable_read, readable_unread, read_is_read, unread_is_unread}
use Rattle.bridge_rescue.proofs.looking.look.Goals as goal

pub returns-then-len-end-clause-seen : goal.returns-then-len-end-clause-seen
returns-then-len-end-clause-seen g c = λ tells.
    let lawful = g.met.D.Disk.lawful c.args.disk.now tells in
    let begin_is : 12288 + c.from.result * c.args.layout.size ≡ slot_at c.args.layout.size c.args.place = ap (λ (n : ℕ). 12288 + n * c.args.layout.size) c.from.ensures in
    seen_cut c.args.layout.size c.args.place (12288 + c.from.result * c.args.layout.size) (g.D.Disk.moment c.args.disk.now).reads begin_is c.len-len.result
    (omega (arith, c.len-len.ensures, lawful.reads_size)) c.if-len-end.true

pub returns-in-Ok-None-clause-seen : goal.returns-in-Ok-None-clause-seen
returns-in-Ok-None-clause-seen g c = λ tells.
    let lawful = g.met.D.Disk.lawful c.args.disk.now tells in
    let begin_is : 12288 + c.from.result * c.args.layout.size ≡ slot_at c.args.layout.size c.args.place = ap (λ (n : ℕ). 12288 + n * c.args.layout.size) c.from.ensures in
    let found = rw c.in-Ok-None.field-0-is at c.in-Ok-None.ensures.found in
    seen_closed c.args.layout.size c.args.place (12288 + c.from.result * c.args.layout.size) (g.D.Disk.moment c.args.disk.now).reads begin_is
    (omega (arith, c.if-len-end.false, c.len-len.ensures, lawful.reads_size)) (found tells)

pub returns-in-Ok-Some-clause-seen : goal.returns-in-Ok-Some-clause-seen
returns-in-Ok-Some-clause-seen g c = λ tells.
    let lawful = g.met.D.Disk.lawful c.args.disk.now tells in
    let begin_is : 12288 + c.from.result * c.args.layout.size ≡ slot_at c.args.layout.size c.args.place = ap (λ (n : ℕ). 12288 + n * c.args.layout.size) c.from.ensures in
    let found = rw c.in-Ok-Some.field-0-is at c.in-Ok-Some.ensures.found in
    let at = rw c.in-Ok-Some.field-0-is at c.in-Ok-Some.ensures.slot in
    seen_read c.args.layout.size c.args.place (12288 + c.from.result * c.args.layout.size) (g.D.Disk.moment c.args.disk.now).reads begin_is
    (omega (arith, c.if-len-end.false, c.len-len.ensures, lawful.reads_size)) c.in-Ok-Some.slot c.by_numbers.result at.0 at.1 (found tells) (rw c.in-Ok-Some.field-0-is at c.by_numbers.ensures)

pub returns-in-Ok-Some-clause-readable : goal.returns-in-Ok-Some-clause-readable
returns-in-Ok-Some-clause-readable g c =
    let at = rw c.in-Ok-Some.field-0-is at c.in-Ok-Some.ensures.slot in
    readable_read _ c.args.place c.in-Ok-Some.slot c.by_numbers.result (omega (arith, at.0, at.1, c.if-len-end.false, c.len-len.ensures))
    (rw c.in-Ok-Some.field-0-is at c.by_numbers.ensures)

pub returns-in-Ok-Some-clause-calls : goal.returns-in-Ok-Some-clause-calls
returns-in-Ok-Some-clause-calls g c =
    calls_as _ _ _ _ c.in-Ok-Some.ensures.calls (λ un. absurd (read_is_read c.in-Ok-Some.slot c.args.place c.by_numbers.result (rw c.in-Ok-Some.field-0-is at c.by_numbers.ensures) un)) (λ is. absurd (cc))

-- a gate is at fault

pub returns-in-Err-NotSpool-clause-seen : goal.returns-in-Err-NotSpool-clause-seen
returns-in-Err-NotSpool-clause-seen g c = λ tells.
    let size = c.args.layout.size in
    let at = c.in-Err-NotSpool.at in
    let same = (c.in-Err-NotSpool.ensures.told tells).same in
    let broken = rw c.in-Err-NotSpool.field-0-is at c.in-Err-NotSpool.ensures.broken in
    let before = c.look_before.ensures.seen in
    subst (λ (l : List ℕ). IsSeen size c.args.place l c.look_before.result) same
    (before tells (subst (λ (l : List ℕ). BreaksAt (12288 + c.from.result * size) size at l) (sym same) (broken tells)))

pub returns-in-Err-NotSpool-clause-readable : goal.returns-in-Err-NotSpool-clause-readable
returns-in-Err-NotSpool-clause-readable g c = subst (λ (n : ℕ). IsReadable n c.look_before.result) c.in-Err-NotSpool.ensures.calls.size c.look_before.ensures.readable

pub returns-in-Err-NotSpool-clause-calls : goal.returns-in-Err-NotSpool-clause-calls
returns-in-Err-NotSpool-clause-calls g c = calls_on _ _ _ _ _ c.in-Err-NotSpool.ensures.calls (λ is. absurd (cc)) c.look_before.ensures.calls

pub returns-in-Err-NotSpool-clause-told : goal.returns-in-Err-NotSpool-clause-told
returns-in-Err-NotSpool-clause-told g c = λ tells.
    untouched_then _ _ _ (g.met.D.Disk.lawful c.args.disk.now tells) (c.in-Err-NotSpool.ensures.told tells) (c.look_before.ensures.told tells)

-- it was not read

pub returns-in-Err-DiskFault-clause-seen : goal.returns-in-Err-DiskFault-clause-seen
returns-in-Err-DiskFault-clause-seen g c = λ tells.
    let begin_is : 12288 + c.from.result * c.args.layout.size ≡ slot_at c.args.layout.size c.args.place = ap (λ (n : ℕ). 12288 + n * c.args.layout.size) c.from.ensures in
    seen_unread c.args.layout.size c.args.place (12288 + c.from.result * c.args.layout.size) (g.D.Disk.moment c.args.disk.now).reads begin_is c.unread.result c.unread.ensures

pub returns-in-Err-DiskFault-clause-readable : goal.returns-in-Err-DiskFault-clause-readable
returns-in-Err-DiskFault-clause-readable g c = readable_unread _ c.args.place (12288 + c.from.result * c.args.layout.size) c.unread.result c.unread.ensures

pub returns-in-Err-DiskFault-clause-calls : goal.returns-in-Err-DiskFault-clause-calls
returns-in-Err-DiskFault-clause-calls g c =
    calls_as _ _ _ _ c.in-Err-DiskFault.ensures.calls (λ un. cc)
    (λ is. unread_is_unread c.args.place (12288 + c.from.result * c.args.layout.size) c.unread.result c.unread.ensures)
