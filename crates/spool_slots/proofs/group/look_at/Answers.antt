use Rattle.std.proofs.Common.{◌≡◌, ◌+◌, ◌-◌, ℕ, List, length, get_or, sym, ◌∙◌, ap, subst, arith}
use Rattle.foundation.specs.Bytes.{part}
use Rattle.foundation.proofs.Bytes.{length-part}
use Rattle.edge_disk.proofs.Moments.{untouched_then}
use Rattle.spool_slots.specs.Groups.{AreEntries, BeginsNoGroup, HasHead}
use Rattle.spool_slots.proofs.Found.{group_found, group_none}
use Rattle.spool_slots.proofs.Windows.{part-part, same_gate}
use Rattle.spool_slots.proofs.group.look_at.Goals as goal

pub returns-in_err-head-clause-told : goal.returns-in_err-head-clause-told
returns-in_err-head-clause-told g c = λ tells. untouched_then _ _ _ (g.met.D.Disk.lawful c.args.disk.now tells) (c.cover.ensures.told tells) (c.head_at.ensures.told tells)

pub returns-in_default-clause-told : goal.returns-in_default-clause-told
returns-in_default-clause-told g c = λ tells. untouched_then _ _ _ (g.met.D.Disk.lawful c.args.disk.now tells) (c.cover.ensures.told tells) (c.head_at.ensures.told tells)

pub returns-in_err-are_entries-clause-told : goal.returns-in_err-are_entries-clause-told
returns-in_err-are_entries-clause-told g c = λ tells.
    let lawful = g.met.D.Disk.lawful c.args.disk.now tells in
    untouched_then _ _ _ lawful (untouched_then _ _ _ lawful (c.cover.ensures.told tells) (c.head_at.ensures.told tells)) (c.are_entries.ensures.told tells)

pub returns-then-branch-clause-told : goal.returns-then-branch-clause-told
returns-then-branch-clause-told g c = λ tells.
    let lawful = g.met.D.Disk.lawful c.args.disk.now tells in
    untouched_then _ _ _ lawful (untouched_then _ _ _ lawful (c.cover.ensures.told tells) (c.head_at.ensures.told tells)) (c.are_entries.ensures.told tells)

pub returns-else-branch-clause-told : goal.returns-else-branch-clause-told
returns-else-branch-clause-told g c = λ tells.
    let lawful = g.met.D.Disk.lawful c.args.disk.now tells in
    untouched_then _ _ _ lawful (untouched_then _ _ _ lawful (c.cover.ensures.told tells) (c.head_at.ensures.told tells)) (c.are_entries.ensures.told tells)

pub returns-in_default-clause-seen : goal.returns-in_default-clause-seen
returns-in_default-clause-seen g c = λ tells.
    let reads = (g.D.Disk.moment c.args.disk.now).reads in
    let p = c.args.at + c.args.gate in
    let k = c.args.size - c.args.gate in
    let same = (c.cover.ensures.told tells).same in
    let byte_is = c.bytes.ensures.value c.args.at _ (c.in_ok-cover.ensures.window tells) ∙ ap (part p 1) same in
    let none = rw c.in_default.is at (c.in_ok-head.ensures.found tells) in (
      sym (ap (λ (l : List ℕ). get_or l 0 0) byte_is ∙ same_gate p 1 k reads (omega arith) (omega (arith, c.requires.gate))) ∙ c.if-bytes-ne1.false,
      subst (λ (l : List ℕ). BeginsNoGroup (part p k l)) same none,
    )

pub returns-then-branch-clause-seen : goal.returns-then-branch-clause-seen
returns-then-branch-clause-seen g c = λ tells.
    let lawful = g.met.D.Disk.lawful c.args.disk.now tells in
    let reads = (g.D.Disk.moment c.args.disk.now).reads in
    let p = c.args.at + c.args.gate in
    let k = c.args.size - c.args.gate in
    let head = c.in-Some.head in
    let same = (c.cover.ensures.told tells).same in
    let same_2 = (c.head_at.ensures.told tells).same ∙ same in
    let long : length (part p k reads) ≡ k = length-part p k reads (omega (arith, c.requires.place, c.requires.gate, lawful.reads_size)) in
    let has = subst (λ (l : List ℕ). HasHead (part p k l) head) same (rw c.in-Some.is at (c.in_ok-head.ensures.found tells)) in
    let are = subst (λ (l : List ℕ). AreEntries head.count (part (c.args.at + (c.args.gate + 9)) (c.args.gate + 9 + c.from.result - (c.args.gate + 9)) l)) same_2 ((c.in_ok-are_entries.ensures.exact tells).0 c.if-branch.true) in
    let there : part (c.args.at + (c.args.gate + 9)) (c.args.gate + 9 + c.from.result - (c.args.gate + 9)) reads ≡ part 9 head.size (part p k reads) =
    ap (λ (n : ℕ). part (c.args.at + (c.args.gate + 9)) n reads) (omega (arith, c.from.ensures)) ∙ ap (λ (q : ℕ). part q head.size reads) (omega arith) ∙ sym (part-part p k 9 head.size reads (omega (arith, has.room, long))) in
    group_found (part p k reads) head (omega (arith, long, c.requires.small)) has (subst (AreEntries head.count) there are)

pub returns-else-branch-clause-seen : goal.returns-else-branch-clause-seen
returns-else-branch-clause-seen g c = λ tells.
    let lawful = g.met.D.Disk.lawful c.args.disk.now tells in
    let reads = (g.D.Disk.moment c.args.disk.now).reads in
    let p = c.args.at + c.args.gate in
    let k = c.args.size - c.args.gate in
    let head = c.in-Some.head in
    let same = (c.cover.ensures.told tells).same in
    let same_2 = (c.head_at.ensures.told tells).same ∙ same in
    let long : length (part p k reads) ≡ k = length-part p k reads (omega (arith, c.requires.place, c.requires.gate, lawful.reads_size)) in
    let has = subst (λ (l : List ℕ). HasHead (part p k l) head) same (rw c.in-Some.is at (c.in_ok-head.ensures.found tells)) in
    let there : part (c.args.at + (c.args.gate + 9)) (c.args.gate + 9 + c.from.result - (c.args.gate + 9)) (g.D.Disk.moment c.head_at.new.disk).reads ≡ part 9 head.size (part p k reads) =
    ap (part (c.args.at + (c.args.gate + 9)) (c.args.gate + 9 + c.from.result - (c.args.gate + 9))) same_2 ∙ ap (λ (n : ℕ). part (c.args.at + (c.args.gate + 9)) n reads) (omega (arith, c.from.ensures)) ∙ ap (λ (q : ℕ). part q head.size reads) (omega arith) ∙ sym (part-part p k 9 head.size reads (omega (arith, has.room, long))) in
    let none = λ (are : AreEntries head.count (part 9 head.size (part p k reads))). (c.in_ok-are_entries.ensures.exact tells).1 (subst (AreEntries head.count) (sym there) are) in
    (has.opens, group_none (part p k reads) head (omega (arith, long, c.requires.small)) has (λ are. let t = none are in let f = c.if-branch.false in cc))
