-- Each byte brings the head on.
use Rattle.std.proofs.Common.{◌++◌, ◌∷◌, [], ◌∙◌, sym, subst}
use Rattle.http_edge.specs.declared.part.HeadPart.TheVariants.{Blank}
use Rattle.http_edge.specs.Parts.{IsPart}
use Rattle.http_edge.proofs.PartLaws.{blank_more, fields_more, return_blank, method_more, target_more}
use Rattle.http_edge.proofs.part.after.Goals as goal

pub returns-then-byte-eq10 : goal.returns-then-byte-eq10
returns-then-byte-eq10 c = λ b long x. subst (λ v. IsPart Blank (b ++ v ∷ [])) (sym c.if-byte-eq10.true) (blank_more b (subst (λ p. IsPart p b) c.in-Blank.is x))

pub returns-then-byte-eq10-2 : goal.returns-then-byte-eq10-2
returns-then-byte-eq10-2 c = λ b long x. subst (λ v. IsPart Blank (b ++ v ∷ [])) (sym c.if-byte-eq10-2.true) (return_blank b (subst (λ p. IsPart p b) c.in-Return.is x))

pub returns-then-is_method_token-2 : goal.returns-then-is_method_token-2
returns-then-is_method_token-2 c = λ b long x. method_more c.args.byte (sym c.is_method_token-in-Method.ensures ∙ c.if-is_method_token-2.true) b (subst (λ p. IsPart p b) c.in-Method.is x)

pub returns-then-is_uri_token : goal.returns-then-is_uri_token
returns-then-is_uri_token c = λ b long x. target_more c.in-Target.from c.args.byte (sym c.is_uri_token.ensures ∙ c.if-is_uri_token.true) b (subst (λ p. IsPart p b) c.in-Target.is x)

pub returns-then-count-le-MOST_FIELDS : goal.returns-then-count-le-MOST_FIELDS
returns-then-count-le-MOST_FIELDS c = λ b long x.
    let w = c.in-Fields in
    let l = c.in_ok-lines-in-Fields in
    let y = subst (λ p. IsPart p b) w.is x in
    fields_more w.field-0 l.lines c.args.byte l.ensures b y
