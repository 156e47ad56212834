-- Each byte brings the line on.
use Rattle.std.proofs.Common.{◌+◌, ◌++◌, ◌∷◌, [], ◌∙◌, sym, subst, arith}
use Rattle.http_edge.specs.declared.line_part.LinePart.TheVariants.{Begin, Value, End}
use Rattle.http_edge.specs.LineParts.{AreLines, at_field}
use Rattle.http_edge.proofs.LinePartLaws.{begin_name, name_more, name_value, value_more, value_end, value_line, end_line}
use Rattle.http_edge.proofs.line_part.after_line.Goals as goal

pub returns-then-is_header_name_token : goal.returns-then-is_header_name_token
returns-then-is_header_name_token c = λ s x.
    let room = c.if-count-lt-MOST_FIELDS.true in
    begin_name c.args.count c.args.byte (omega (arith, room)) (sym c.is_header_name_token.ensures ∙ c.if-is_header_name_token.true) s (subst (λ l. AreLines (at_field c.args.count l) s) c.in-Begin.is x)

pub returns-then-is_header_name_token-2 : goal.returns-then-is_header_name_token-2
returns-then-is_header_name_token-2 c = λ s x.
    let y = subst (λ l. AreLines (at_field c.args.count l) s) c.in-Name.is x in
    subst (λ l. AreLines (at_field c.args.count l) (s ++ c.args.byte ∷ [])) (sym c.in-Name.is) (name_more c.args.count c.args.byte (sym c.is_header_name_token-in-Name.ensures ∙ c.if-is_header_name_token-2.true) s y)

pub returns-then-byte-eq58 : goal.returns-then-byte-eq58
returns-then-byte-eq58 c = λ s x.
    let y = subst (λ l. AreLines (at_field c.args.count l) s) c.in-Name.is x in
    subst (λ v. AreLines (at_field c.args.count Value) (s ++ v ∷ [])) (sym c.if-byte-eq58.true) (name_value c.args.count s y)

pub returns-then-is_header_value_token : goal.returns-then-is_header_value_token
returns-then-is_header_value_token c = λ s x.
    let y = subst (λ l. AreLines (at_field c.args.count l) s) c.in-Value.is x in
    subst (λ l. AreLines (at_field c.args.count l) (s ++ c.args.byte ∷ [])) (sym c.in-Value.is) (value_more c.args.count c.args.byte (sym c.is_header_value_token.ensures ∙ c.if-is_header_value_token.true) s y)

pub returns-then-byte-eq13-2 : goal.returns-then-byte-eq13-2
returns-then-byte-eq13-2 c = λ s x.
    let y = subst (λ l. AreLines (at_field c.args.count l) s) c.in-Value.is x in
    subst (λ v. AreLines (at_field c.args.count End) (s ++ v ∷ [])) (sym c.if-byte-eq13-2.true) (value_end c.args.count s y)

pub returns-then-count-lt-MOST_FIELDS-2 : goal.returns-then-count-lt-MOST_FIELDS-2
returns-then-count-lt-MOST_FIELDS-2 c = λ s x.
    let room = c.if-count-lt-MOST_FIELDS-2.true in
    let y = subst (λ l. AreLines (at_field c.args.count l) s) c.in-Value.is x in
    subst (λ v. AreLines (at_field (c.args.count + 1) Begin) (s ++ v ∷ [])) (sym c.if-byte-eq10.true) (value_line c.args.count (omega (arith, room)) s y)

pub returns-then-count-lt-MOST_FIELDS-3 : goal.returns-then-count-lt-MOST_FIELDS-3
returns-then-count-lt-MOST_FIELDS-3 c = λ s x.
    let room = c.if-count-lt-MOST_FIELDS-3.true in
    let y = subst (λ l. AreLines (at_field c.args.count l) s) c.in-End.is x in
    subst (λ v. AreLines (at_field (c.args.count + 1) Begin) (s ++ v ∷ [])) (sym c.if-byte-eq10-2.true) (end_line c.args.count (omega (arith, room)) s y)
