-- What is written is one reply by the grammar of replies.
use Rattle.std.proofs.Common.{ℕ, ◌≤◌, Bool, IsTrue, List, length, refl, sym, ◌∙◌, ap, subst, arith}
use Rattle.std.specs.Prelude.{codes}
use Rattle.std.specs.Fmt.{decimal}
use Rattle.std.specs.List.{list_any}
use Rattle.std.proofs.lemmas.Fmt.{decimal_is_IsNumeral, length-decimal-le}
use Rattle.http_edge.specs.declared.field.Field as edge
use Rattle.http_edge.specs.Bodies.{IsBody}
use Rattle.http_edge.specs.Fields.{field_value, is_close}
use Rattle.http_edge.specs.Lengths.{BodySize}
use Rattle.http_edge.specs.Reply.{is_status, reason_of, reply_text}
use Rattle.http_reply.specs.Sizes.{is_interim}
use Rattle.reply_laws.specs.Written.{IsSpelled, WrittenSpells}
use Rattle.reply_laws.proofs.Heads.{closing_told, few_fields, fields_are, head_is, head_put, head_short, size_told, the_head, type_told}
use Rattle.reply_laws.proofs.Statuses.{not_interim, reason_passes, reason_short, status_small, three_digits}

text_spelled : (status : ℕ) (closing : Bool) (body : List ℕ) (at : ℕ) → IsTrue (is_status status) → length body ≤ 1048576 → IsSpelled status closing body at (reply_text status closing body)
text_spelled status closing body at known few =
    let reason = reason_of status in
    let code = decimal status in
    let size = decimal (length body) in
    let status_is = decimal_is_IsNumeral status (omega (arith, status_small status known)) in
    let size_is = decimal_is_IsNumeral (length body) (omega (arith, few)) in
    let fields = fields_are code reason size closing size_is.0.1 in
    let three = three_digits status known in
    record {
      is = record {
        head = the_head code reason closing size;
        text = body;
        begins = record {
          holds = record {
            reads = (head_is code reason size closing three status_is.0.1 (reason_passes status known) size_is.0.1, head_put code reason size body closing);
            few = few_fields code reason size closing;
          };
          short = head_short code reason size closing (omega (arith, three)) (reason_short status known) (length-decimal-le 20 (length body) (omega arith) (omega (arith, few)) (omega (arith, few)));
        };
        reply_is = λ i. record { status = sym status_is.1 i; body = body; at = at };
        body =
            let sized = size_told code reason size closing (length body) (ap is_interim status_is.1 ∙ not_interim status known) size_is.0.1 size_is.0.0 size_is.1 in
            subst (λ (z : BodySize). IsBody z body body) (sym sized) (refl, refl, omega (arith, few));
      };
      ends_is = ap (λ (fields : List edge.Field). list_any is_close fields) fields ∙ closing_told closing size;
      type_is = ap (λ (fields : List edge.Field). field_value (codes "content-type") fields) fields ∙ type_told closing size;
    }

pub written_spells : WrittenSpells
written_spells status closing body at text w = subst (λ (x : List ℕ). IsSpelled status closing body at x) (sym w.text_is) (text_spelled status closing body at w.known w.fits)
