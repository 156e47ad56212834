use Rattle.std.proofs.Common.{◌≡◌, ℕ, true, refl}
use Rattle.json_span.specs.Spans.{Stretch}
use Rattle.json_span.specs.Walk.{MembersLeft}
use Rattle.json_span.proofs.MemberLaws.{member_parts}
use Rattle.json_span.proofs.NamedLaws.{none_anyhow, after_name, value_after, member_is, first_itself}
use Rattle.json_span.proofs.named.member_from.Goals as goal

pub returns-in_err-end-clause-none : goal.returns-in_err-end-clause-none
returns-in_err-end-clause-none c = none_anyhow c.from_residual.result ((end : ℕ) → Stretch MembersLeft c.args.bytes.now c.args.at end → ⊥) (λ end s.
    let p = member_parts c.args.bytes.now c.args.at end s in
    c.in_err-end.ensures.none p.name_end p.name)

pub returns-then-not-stands_at-clause-none : goal.returns-then-not-stands_at-clause-none
returns-then-not-stands_at-clause-none c = λ end s.
    let k = c.after_space-colon in
    let a = after_name c.args.bytes.now c.args.at c.in_ok-end.end k.result end c.in_ok-end.ensures.some k.ensures.spaces k.ensures.stops s in
    let t : c.stands_at.result ≡ true = c.stands_at.ensures.1 (a.inside, a.is) in
    absurd cc

pub returns-in-Ok-clause-some : goal.returns-in-Ok-clause-some
returns-in-Ok-clause-some c =
    let k = c.after_space-colon in
    let p = c.stands_at.ensures.0 c.if-not-stands_at.false in
    let v = c.after_space-place in
    member_is c.args.bytes.now c.args.at c.in_ok-end.end k.result v.result c.in-Ok.value c.in_ok-end.ensures.some k.ensures.spaces p.1 v.ensures.spaces ((c.in-Ok.ensures.ok c.in-Ok.value).0 refl)

pub returns-in-Ok-clause-longest : goal.returns-in-Ok-clause-longest
returns-in-Ok-clause-longest c = first_itself 126 c.args.bytes.now c.after_space-place.result c.in-Ok.value ((c.in-Ok.ensures.ok c.in-Ok.value).0 refl)

pub returns-in-Err-clause-none : goal.returns-in-Err-clause-none
returns-in-Err-clause-none c = λ end s.
    let k = c.after_space-colon in
    let a = after_name c.args.bytes.now c.args.at c.in_ok-end.end k.result end c.in_ok-end.ensures.some k.ensures.spaces k.ensures.stops s in
    let e = (c.in-Err.ensures.ok a.value).1 (value_after c.args.bytes.now k.result c.after_space-place.result a c.after_space-place.ensures.spaces c.after_space-place.ensures.stops) in
    cc
