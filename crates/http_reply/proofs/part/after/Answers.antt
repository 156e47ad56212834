-- Each byte brings the head on.
use Rattle.std.proofs.Common.{◌++◌, ◌∷◌, [], ◌∙◌, sym, subst}
use Rattle.http_edge.specs.declared.line_part.LinePart.TheVariants.{Begin}
use Rattle.http_edge.specs.LineParts.{at_field}
use Rattle.http_reply.specs.declared.part.HeadPart.TheVariants.{Blank, Reason, Fields}
use Rattle.http_reply.specs.Parts.{IsPart}
use Rattle.http_reply.proofs.PartLaws.{blank_more, return_blank, code_reason, code_line, reason_more, reason_line, end_line, fields_more}
use Rattle.http_reply.proofs.part.after.Goals as goal

pub returns-then-byte-eq10 : goal.returns-then-byte-eq10
returns-then-byte-eq10 c = λ b x. subst (λ v. IsPart Blank (b ++ v ∷ [])) (sym c.if-byte-eq10.true) (blank_more b (subst (λ p. IsPart p b) c.in-Blank.is x))

pub returns-then-byte-eq10-2 : goal.returns-then-byte-eq10-2
returns-then-byte-eq10-2 c = λ b x. subst (λ v. IsPart Blank (b ++ v ∷ [])) (sym c.if-byte-eq10-2.true) (return_blank b (subst (λ p. IsPart p b) c.in-Return.is x))

pub returns-then-byte-eq32 : goal.returns-then-byte-eq32
returns-then-byte-eq32 c = λ b x. subst (λ v. IsPart Reason (b ++ v ∷ [])) (sym c.if-byte-eq32.true) (code_reason b (subst (λ p. IsPart p b) c.in-Code.is x))

pub returns-then-byte-eq10-3 : goal.returns-then-byte-eq10-3
returns-then-byte-eq10-3 c = λ b x. subst (λ v. IsPart (Fields (at_field 0 Begin)) (b ++ v ∷ [])) (sym c.if-byte-eq10-3.true) (code_line b (subst (λ p. IsPart p b) c.in-Code.is x))

pub returns-then-is_header_value_token : goal.returns-then-is_header_value_token
returns-then-is_header_value_token c = λ b x. reason_more c.args.byte (sym c.is_header_value_token.ensures ∙ c.if-is_header_value_token.true) b (subst (λ p. IsPart p b) c.in-Reason.is x)

pub returns-then-byte-eq10-4 : goal.returns-then-byte-eq10-4
returns-then-byte-eq10-4 c = λ b x. subst (λ v. IsPart (Fields (at_field 0 Begin)) (b ++ v ∷ [])) (sym c.if-byte-eq10-4.true) (reason_line b (subst (λ p. IsPart p b) c.in-Reason.is x))

pub returns-then-byte-eq10-5 : goal.returns-then-byte-eq10-5
returns-then-byte-eq10-5 c = λ b x. subst (λ v. IsPart (Fields (at_field 0 Begin)) (b ++ v ∷ [])) (sym c.if-byte-eq10-5.true) (end_line b (subst (λ p. IsPart p b) c.in-End.is x))

pub returns-then-count-le-MOST_FIELDS : goal.returns-then-count-le-MOST_FIELDS
returns-then-count-le-MOST_FIELDS c = λ b x.
    let w = c.in-Fields in
    let l = c.in_ok-lines-in-Fields in
    fields_more w.field-0 l.lines c.args.byte l.ensures b (subst (λ p. IsPart p b) w.is x)
