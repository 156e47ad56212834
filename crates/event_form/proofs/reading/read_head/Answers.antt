use Rattle.std.proofs.Common.{◌<◌, sym, ◌∙◌, arith}
use Rattle.std.proofs.lemmas.Bool.{eqb-true}
use Rattle.event_form.specs.declared.limits.TheConstants.{MOST_TEXT}
use Rattle.event_form.specs.Reading.{told_length}
use Rattle.event_form.proofs.Faults.{bad_empty, bad_origin, bad_head, bad_length}
use Rattle.event_form.proofs.reading.read_head.Goals as goal

pub returns-then-is_empty-clause-err : goal.returns-then-is_empty-clause-err
returns-then-is_empty-clause-err c = bad_empty c.args.bytes.now (eqb-true _ _ (sym c.is_empty.ensures ∙ c.if-is_empty.true))

pub returns-in_default-clause-err : goal.returns-in_default-clause-err
returns-in_default-clause-err c = bad_origin c.args.bytes.now c.in_default.ensures.none

pub returns-then-bytes-lt-HEAD_BYTES-clause-err : goal.returns-then-bytes-lt-HEAD_BYTES-clause-err
returns-then-bytes-lt-HEAD_BYTES-clause-err c = bad_head c.in-Some.origin c.args.bytes.now c.in-Some.ensures.some c.if-bytes-lt-HEAD_BYTES.true

pub returns-then-length-gt-MOST_TEXT-clause-err : goal.returns-then-length-gt-MOST_TEXT-clause-err
returns-then-length-gt-MOST_TEXT-clause-err c =
    let long : MOST_TEXT < told_length c.args.bytes.now = omega (arith, c.text_length-length.ensures, c.if-length-gt-MOST_TEXT.true) in
    bad_length c.in-Some.origin c.args.bytes.now c.in-Some.ensures.some c.if-bytes-lt-HEAD_BYTES.false long
