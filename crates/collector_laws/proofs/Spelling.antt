-- What is posted is one request by the grammar of requests.
use Rattle.std.proofs.Common.{ℕ, ◌≤◌, List, length, refl, sym, ap, subst, arith}
use Rattle.std.specs.Prelude.{codes, ◌++◌}
use Rattle.std.specs.Fmt.{decimal}
use Rattle.std.proofs.lemmas.Fmt.{decimal_is_IsNumeral, length-decimal-le}
use Rattle.http_edge.specs.declared.field.Field as edge
use Rattle.http_edge.specs.declared.request.HttpRequest.{HttpRequest}
use Rattle.http_edge.specs.Bodies.{IsBody}
use Rattle.http_edge.specs.Lengths.{BodySize}
use Rattle.hec_sender.specs.declared.terms.Terms.{Terms}
use Rattle.hec_sender.specs.Texts.{guid_text, post_text}
use Rattle.collector_laws.specs.Posts.{IsPath, post_at}
use Rattle.collector_laws.specs.Sent.{IsSpelled, PostedSpells}
use Rattle.collector_laws.proofs.Guids.{guid_length, guid_trimmed, guid_value, token_trimmed}
use Rattle.collector_laws.proofs.Heads.{fields_are, head_is, head_put, head_short, size_told, the_head}

text_spelled : (path : List ℕ) (terms : Terms) (body : List ℕ) → IsPath path → length body ≤ 1048576 → IsSpelled (post_at path terms body) (post_text terms path body)
text_spelled path terms body known few =
    let token = guid_text terms.token in
    let channel = guid_text terms.channel in
    let size = decimal (length body) in
    let numeral = decimal_is_IsNumeral (length body) (omega (arith, few)) in
    let fields = fields_are path token channel size (token_trimmed terms.token) (guid_trimmed terms.channel) numeral.0.1 in
    let head = the_head path token channel size in
    let short = head_short path token channel size known (guid_length terms.token) (guid_length terms.channel) (length-decimal-le 20 (length body) (omega arith) (omega (arith, few)) (omega (arith, few))) in
    record {
      is = record {
        head = head;
        text = body;
        begins = record {
          holds = record {
            reads = (head_is path token channel size known (guid_value terms.token) (guid_value terms.channel) numeral.0.1, head_put path token channel size body);
            few = omega arith;
          };
          short = omega (arith, short);
        };
        request_is = ap (λ (fs : List edge.Field). let r : HttpRequest = record { method = codes "POST"; target = path; minor = 1; fields = fs; body = body } in r) (sym fields);
        body =
            let sized = size_told head (codes "Splunk " ++ token) channel size (length body) refl fields numeral.0.1 numeral.0.0 numeral.1 in
            subst (λ (z : BodySize). IsBody z body body) (sym sized) (refl, refl, omega (arith, few));
      };
      items_are = refl;
      goes_on = refl;
    }

pub posted_spells : PostedSpells
posted_spells path terms body text p = subst (λ (x : List ℕ). IsSpelled (post_at path terms body) x) (sym p.text_is) (text_spelled path terms body p.known p.fits)
