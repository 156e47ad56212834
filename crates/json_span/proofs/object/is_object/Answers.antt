use Rattle.std.proofs.Common.{length, refl}
use Rattle.std.proofs.lemmas.Bool.{eqb-true, eq-eqb}
use Rattle.json_span.proofs.ObjectLaws.{object_text, object_first, object_span, object_end}
use Rattle.json_span.proofs.object.is_object.Goals as goal

pub returns-then-bytes-span-eq123 : goal.returns-then-bytes-span-eq123
returns-then-bytes-span-eq123 c =
    let s = c.in-Ok.span in
    let b = c.args.bytes.now in
    let r = c.after_space in
    let f = (c.in-Ok.ensures.ok s).0 refl in (
      λ t. object_text b s r.result f c.if-bytes-span-eq123.true r.ensures.spaces (eqb-true r.result (length b) t),
      λ t. eq-eqb r.result (length b) (object_end b s r.result f t r.ensures.spaces r.ensures.stops),
    )

pub returns-else-bytes-span-eq123 : goal.returns-else-bytes-span-eq123
returns-else-bytes-span-eq123 c =
    let s = c.in-Ok.span in
    let b = c.args.bytes.now in
    let f = (c.in-Ok.ensures.ok s).0 refl in (
      λ t. absurd (c.if-bytes-span-eq123.false (eqb-true _ 123 t)),
      λ t. absurd (c.if-bytes-span-eq123.false (object_span b s f t)),
    )

pub returns-in-Err : goal.returns-in-Err
returns-in-Err c = (λ t. cc, λ t. let o = object_first c.args.bytes.now t in let e = (c.in-Err.ensures.ok o.span).1 o.first in cc)
