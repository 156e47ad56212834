use Rattle.std.proofs.Common.{◌+◌, ◌-◌, [], ℕ, List, sym, ◌∙◌, ap, subst, arith}
use Rattle.foundation.specs.Bytes.{part}
use Rattle.event_form.specs.Reading.{Begins, BeginsNoEntry, IsRead}
use Rattle.edge_disk.proofs.Moments.{untouched_then}
use Rattle.spool_slots.specs.Fault.{IsPartFault}
use Rattle.spool_slots.proofs.Peeks.{exact, none_wider, no_entry_at, used_within}
use Rattle.spool_slots.proofs.next.read_from.Goals as goal

pub returns-in_default-clause-broken : goal.returns-in_default-clause-broken
returns-in_default-clause-broken g c = λ tells.
    let reads = (g.D.Disk.moment c.args.disk.now).reads in
    let none = rw c.in_default.is at (c.in_ok-length.ensures.found tells) in
    subst (IsPartFault (c.args.at + c.args.size) reads) (sym c.missing_at.ensures) (no_entry_at c.args.at c.args.size c.args.from reads none)

pub returns-in_default-clause-read : goal.returns-in_default-clause-read
returns-in_default-clause-read g c = λ e rest tells begins.
    let none = rw c.in_default.is at (c.in_ok-length.ensures.found tells) in
    absurd (none e rest begins)

pub returns-in_err-cover-clause-told : goal.returns-in_err-cover-clause-told
returns-in_err-cover-clause-told g c = λ tells. untouched_then _ _ _ (g.met.D.Disk.lawful c.args.disk.now tells) (c.length_at.ensures.told tells) (c.cover.ensures.told tells)

pub returns-in-Ok-clause-told : goal.returns-in-Ok-clause-told
returns-in-Ok-clause-told g c = λ tells. untouched_then _ _ _ (g.met.D.Disk.lawful c.args.disk.now tells) (c.length_at.ensures.told tells) (c.cover.ensures.told tells)

pub returns-in-Err-BadEntry-clause-told : goal.returns-in-Err-BadEntry-clause-told
returns-in-Err-BadEntry-clause-told g c = λ tells. untouched_then _ _ _ (g.met.D.Disk.lawful c.args.disk.now tells) (c.length_at.ensures.told tells) (c.cover.ensures.told tells)

pub returns-in-Err-NoMemory-clause-told : goal.returns-in-Err-NoMemory-clause-told
returns-in-Err-NoMemory-clause-told g c = λ tells. untouched_then _ _ _ (g.met.D.Disk.lawful c.args.disk.now tells) (c.length_at.ensures.told tells) (c.cover.ensures.told tells)

pub returns-in-Ok-clause-inside : goal.returns-in-Ok-clause-inside
returns-in-Ok-clause-inside g c =
    let inside = rw c.in-Some.is at c.in_ok-length.ensures.inside in
    let used = used_within c.in-Ok.took.used c.bytes.result.now c.in-Ok.took.entry c.in-Ok.ensures.found.1 c.in-Ok.ensures.used in
    omega (arith, inside.2, used, c.bytes.ensures.len)

pub returns-in-Ok-clause-read : goal.returns-in-Ok-clause-read
returns-in-Ok-clause-read g c = λ e rest tells begins.
    let reads = (g.D.Disk.moment c.args.disk.now).reads in
    let p = c.args.at + c.args.from in
    let n = c.in-Some.length in
    let inside = rw c.in-Some.is at c.in_ok-length.ensures.inside in
    let has = rw c.in-Some.is at (c.in_ok-length.ensures.found tells) in
    let same = (c.cover.ensures.told tells).same ∙ (c.length_at.ensures.told tells).same in
    let here = c.bytes.ensures.value c.args.at _ (c.in_ok-cover.ensures.window tells) ∙ ap (part p n) same in
    let own = exact p n (c.args.size - c.args.from) reads e rest (omega (arith, inside.2)) begins (has e rest begins) in
    let again = c.read_entry.ensures.again e [] (subst (λ (l : List ℕ). Begins e l []) (sym here) own) in
    subst (IsRead e) c.in-Ok.is again

pub returns-in-Err-BadEntry-clause-broken : goal.returns-in-Err-BadEntry-clause-broken
returns-in-Err-BadEntry-clause-broken g c = λ tells.
    let reads = (g.D.Disk.moment c.args.disk.now).reads in
    let p = c.args.at + c.args.from in
    let n = c.in-Some.length in
    let inside = rw c.in-Some.is at c.in_ok-length.ensures.inside in
    let has = rw c.in-Some.is at (c.in_ok-length.ensures.found tells) in
    let same = (c.cover.ensures.told tells).same ∙ (c.length_at.ensures.told tells).same in
    let here = c.bytes.ensures.value c.args.at _ (c.in_ok-cover.ensures.window tells) ∙ ap (part p n) same in
    let none = none_wider p n (c.args.size - c.args.from) reads (omega (arith, inside.2)) has (subst BeginsNoEntry here (rw c.in-Err-BadEntry.field-0-is at c.in-Err-BadEntry.ensures.fault).none) in
    subst (IsPartFault (c.args.at + c.args.size) reads) (sym c.missing_at-in-Err-BadEntry.ensures) (no_entry_at c.args.at c.args.size c.args.from reads none)

pub returns-in-Err-BadEntry-clause-read : goal.returns-in-Err-BadEntry-clause-read
returns-in-Err-BadEntry-clause-read g c = λ e rest tells begins.
    let reads = (g.D.Disk.moment c.args.disk.now).reads in
    let p = c.args.at + c.args.from in
    let n = c.in-Some.length in
    let inside = rw c.in-Some.is at c.in_ok-length.ensures.inside in
    let has = rw c.in-Some.is at (c.in_ok-length.ensures.found tells) in
    let same = (c.cover.ensures.told tells).same ∙ (c.length_at.ensures.told tells).same in
    let here = c.bytes.ensures.value c.args.at _ (c.in_ok-cover.ensures.window tells) ∙ ap (part p n) same in
    absurd (none_wider p n (c.args.size - c.args.from) reads (omega (arith, inside.2)) has (subst BeginsNoEntry here (rw c.in-Err-BadEntry.field-0-is at c.in-Err-BadEntry.ensures.fault).none) e rest begins)
