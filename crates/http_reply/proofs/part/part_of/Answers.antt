-- From a head's first byte on.
use Rattle.std.proofs.Common.{◌∙◌, [], subst, take, take_all, refl, ap, arith}
use Rattle.http_reply.specs.Parts.{IsPart}
use Rattle.http_reply.proofs.part.part_of.Goals as goal

pub returns-then-ran-buf : goal.returns-then-ran-buf
returns-then-ran-buf c = subst (IsPart c.run-ran.result.part) (ap (λ n. take n c.args.buf.now) c.if-ran-buf.true ∙ take_all _ _ (omega arith)) (c.run-ran.ensures.part [] ([], refl))

pub after_blank-requires-clause-blank : goal.after_blank-requires-clause-blank
after_blank-requires-clause-blank c = subst (λ p. IsPart p (take c.run-ran.result.used c.args.buf.now)) c.in-Blank.is (c.run-ran.ensures.part [] ([], refl))
