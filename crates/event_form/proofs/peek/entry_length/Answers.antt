use Rattle.std.proofs.Common.{refl, arith}
use Rattle.event_form.proofs.Strings.{IfNone_always}
use Rattle.event_form.proofs.Heads.{by_head, none_of_origin, none_of_length}
use Rattle.event_form.proofs.peek.entry_length.Goals as goal

pub returns-in_err-origin_of-clause-none : goal.returns-in_err-origin_of-clause-none
returns-in_err-origin_of-clause-none c = IfNone_always c.from_residual.result (none_of_origin c.args.head.now c.in_err-origin_of.ensures.none)

pub returns-then-length-gt-MOST_TEXT-clause-none : goal.returns-then-length-gt-MOST_TEXT-clause-none
returns-then-length-gt-MOST_TEXT-clause-none c = none_of_length c.args.head.now (omega (arith, c.text_length-length.ensures, c.if-length-gt-MOST_TEXT.true))

pub returns-clause-some : goal.returns-clause-some
returns-clause-some c = by_head c.args.head.now c.in_ok-origin_of.field-0 c.text_length-length.result _ c.in_ok-origin_of.ensures.some c.text_length-length.ensures c.if-length-gt-MOST_TEXT.false refl
