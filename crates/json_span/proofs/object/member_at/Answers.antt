use Rattle.std.proofs.Common.{◌≡◌, arith, ap}
use Rattle.json_span.proofs.MemberLaws.{member_parts, name_found, colon_found, value_found, member_here}
use Rattle.json_span.proofs.object.member_at.Goals as goal

pub value_at-name-requires : goal.value_at-name-requires
value_at-name-requires c = let s = c.requires.1 in omega (arith, s.order, s.bound)

pub after_space-colon-requires : goal.after_space-colon-requires
after_space-colon-requires c =
    let m = member_parts c.args.bytes.now c.args.at c.requires.0 c.requires.1 in
    let e : c.value_at-name.result.end ≡ m.name_end = ap (λ s. s.end) (name_found c.args.bytes.now c.args.at c.requires.0 c.value_at-name.result m c.value_at-name.ensures) in
    omega (arith, e, m.name.bound)

pub value_at-value-requires : goal.value_at-value-requires
value_at-value-requires c =
    let m = member_parts c.args.bytes.now c.args.at c.requires.0 c.requires.1 in
    let k = c.after_space-colon in
    let e : k.result ≡ m.colon = colon_found c.args.bytes.now c.args.at c.requires.0 k.result c.value_at-name.result m c.value_at-name.ensures k.ensures.spaces k.ensures.stops in
    omega (arith, e, m.after.order, m.after.bound)

pub returns : goal.returns
returns c = λ end s.
    let b = c.args.bytes.now in
    let m = member_parts b c.args.at end s in
    let k = c.after_space-colon in
    let e = colon_found b c.args.at end k.result c.value_at-name.result m c.value_at-name.ensures k.ensures.spaces k.ensures.stops in
    member_here b c.args.at end m (record { name = c.value_at-name.result; value = c.value_at-value.result }) (name_found b c.args.at end c.value_at-name.result m c.value_at-name.ensures) (value_found b c.args.at end k.result c.value_at-value.result m e c.value_at-value.ensures)
