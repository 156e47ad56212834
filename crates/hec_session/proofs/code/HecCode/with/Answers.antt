use Rattle.std.proofs.Common.{◌<◌, sym, ◌∙◌, ap, arith}
use Rattle.hec_session.specs.Codes.{number_of}
use Rattle.hec_session.proofs.CodeLaws.{code_stands}
use Rattle.hec_session.proofs.code.HecCode.with.Goals as goal

pub returns : goal.returns
returns c = λ code is.
    let place = code_stands code in
    let within : place.0 < c.loop-code.code-index = omega (arith, place.1, c.loop-code-test.false) in
    absurd (c.loop-code.invariant place.0 within (ap number_of place.2 ∙ sym is))
