use Rattle.std.proofs.Common.{◌≡◌, ◌+◌, ◌≤◌, length, take, drop, sym, ◌∙◌, ap, subst, arith}
use Rattle.std.proofs.lemmas.Bool.{both_ways}
use Rattle.event_form.specs.Event.{ArePairs}
use Rattle.event_form.specs.Reading.{told_length}
use Rattle.event_form.proofs.Faults.{bad_text, bad_pairs}
use Rattle.event_form.proofs.Found.{found}
use Rattle.event_form.proofs.reading.read_parts.Goals as goal

pub returns-then-rest-head-clause-err : goal.returns-then-rest-head-clause-err
returns-then-rest-head-clause-err c =
    let tells = c.in_ok-head.ensures.ok in
    bad_text c.in_ok-head.head.origin c.args.bytes.now tells.origin tells.there (omega (arith, tells.length, tells.short)) (omega (arith, tells.length, c.split_at.ensures.back_len, c.if-rest-head.true))

pub returns-then-not-may_have-clause-err : goal.returns-then-not-may_have-clause-err
returns-then-not-may_have-clause-err c =
    let tells = c.in_ok-head.ensures.ok in
    let told : c.split_at-2.result.0.now ≡ take (told_length c.args.bytes.now) (drop 29 c.args.bytes.now) =
    c.split_at-2.ensures.front ∙ ap (take c.in_ok-head.head.length) c.split_at.ensures.back ∙ ap (λ n. take n (drop 29 c.args.bytes.now)) tells.length in
    bad_pairs c.in_ok-head.head.origin c.args.bytes.now tells.origin tells.there (omega (arith, tells.length, tells.short)) (omega (arith, tells.length, c.split_at.ensures.back_len, c.if-rest-head.false))
    (λ pairs. both_ways c.may_have.result c.if-not-may_have.true (c.may_have.ensures.1 (λ lumber. subst ArePairs (sym told) (pairs lumber))))

pub returns-clause-ok : goal.returns-clause-ok
returns-clause-ok c =
    let tells = c.in_ok-head.ensures.ok in
    let head = c.in_ok-head.head in
    let text : c.split_at-2.result.0.now ≡ take head.length (drop 29 c.args.bytes.now) = c.split_at-2.ensures.front ∙ ap (take head.length) c.split_at.ensures.back in
    let room : 29 + head.length ≤ length c.args.bytes.now = omega (arith, c.split_at.ensures.back_len, c.if-rest-head.false) in (
      drop head.length (drop 29 c.args.bytes.now),
      found c.args.bytes.now head c.split_at-2.result.0.now (λ i. omega (arith, c.type_inv.bytes i)) tells room text (c.may_have.ensures.0 c.if-not-may_have.false),
    )
