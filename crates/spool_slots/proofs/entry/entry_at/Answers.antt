use Rattle.std.proofs.Common.{◌+◌, ◌-◌, ◌++◌, ℕ, List, drop, ◌∙◌, ap, subst, arith}
use Rattle.foundation.specs.Bytes.{part}
use Rattle.event_form.specs.Reading.{Begins, BeginsNoEntry}
use Rattle.edge_disk.proofs.Moments.{untouched_then}
use Rattle.spool_slots.proofs.Peeks.{begins_wider, none_wider}
use Rattle.spool_slots.proofs.entry.entry_at.Goals as goal

pub returns-in_err-cover-clause-told : goal.returns-in_err-cover-clause-told
returns-in_err-cover-clause-told g c = λ tells. untouched_then _ _ _ (g.met.D.Disk.lawful c.args.disk.now tells) (c.length_at.ensures.told tells) (c.cover.ensures.told tells)

pub returns-in-Some-peek_entry-clause-told : goal.returns-in-Some-peek_entry-clause-told
returns-in-Some-peek_entry-clause-told g c = λ tells. untouched_then _ _ _ (g.met.D.Disk.lawful c.args.disk.now tells) (c.length_at.ensures.told tells) (c.cover.ensures.told tells)

pub returns-in-None-clause-told : goal.returns-in-None-clause-told
returns-in-None-clause-told g c = λ tells. untouched_then _ _ _ (g.met.D.Disk.lawful c.args.disk.now tells) (c.length_at.ensures.told tells) (c.cover.ensures.told tells)

pub returns-in-Some-peek_entry-clause-found : goal.returns-in-Some-peek_entry-clause-found
returns-in-Some-peek_entry-clause-found g c = λ tells.
    let p = c.args.at + c.args.from in
    let k = c.args.end - c.args.from in
    let n = c.in-Some.n in
    let reads = (g.D.Disk.moment c.args.disk.now).reads in
    let inside = rw c.in-Some.is at c.in_ok-n.ensures.inside in
    let has = rw c.in-Some.is at (c.in_ok-n.ensures.found tells) in
    let same = (c.cover.ensures.told tells).same ∙ (c.length_at.ensures.told tells).same in
    let here = c.bytes.ensures.value c.args.at _ (c.in_ok-cover.ensures.window tells) ∙ ap (part p n) same in
    let found = c.in-Some-peek_entry.ensures.some in
    let begins = begins_wider p n k reads found.0 found.1 (omega (arith, inside.2)) (subst (λ (l : List ℕ). Begins found.0 l found.1) here found.2) in
    (found.0, found.1 ++ drop n (part p k reads), begins, has found.0 (found.1 ++ drop n (part p k reads)) begins)

pub returns-in-None-clause-found : goal.returns-in-None-clause-found
returns-in-None-clause-found g c = λ tells.
    let p = c.args.at + c.args.from in
    let k = c.args.end - c.args.from in
    let n = c.in-Some.n in
    let inside = rw c.in-Some.is at c.in_ok-n.ensures.inside in
    let has = rw c.in-Some.is at (c.in_ok-n.ensures.found tells) in
    let same = (c.cover.ensures.told tells).same ∙ (c.length_at.ensures.told tells).same in
    let here = c.bytes.ensures.value c.args.at _ (c.in_ok-cover.ensures.window tells) ∙ ap (part p n) same in
    none_wider p n k (g.D.Disk.moment c.args.disk.now).reads (omega (arith, inside.2)) has (subst BeginsNoEntry here c.in-None.ensures.none)
