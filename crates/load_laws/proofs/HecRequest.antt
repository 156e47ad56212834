-- A load's request: its bytes are one request, which doesn't close the connection, and whose act stores its event.
use Rattle.std.proofs.Common.{◌≡◌, ℕ, ◌+◌, ◌<◌, ◌≤◌, true, false, List, [], ◌∷◌, ◌++◌, length, refl, sym, ◌∙◌, ap, subst, arith, length-append, ◌==◌, not}
use Rattle.std.specs.Prelude.{codes, Some, None, Result, Ok}
use Rattle.std.specs.Char.{is_ascii_digit}
use Rattle.std.specs.Fmt.{decimal}
use Rattle.std.specs.List.{list_all}
use Rattle.std.specs.Str.Parse.{AllDigits, digits_value}
use Rattle.std.proofs.lemmas.Bool.{and_from, cond-true, ne_eqb, not_from_false}
use Rattle.std.proofs.lemmas.Fmt.{decimal_is_IsNumeral}
use Rattle.uuid.proofs.OnLiterals.{uuid_on_literals}
use Rattle.http_edge.specs.declared.field.Field as edge
use Rattle.http_edge.specs.declared.request.HttpRequest.{HttpRequest}
use Rattle.http_edge.specs.Bodies.{IsBody}
use Rattle.http_edge.specs.Fields.{closes}
use Rattle.http_edge.specs.HttpStream.{IsRequest}
use Rattle.http_edge.specs.Lengths.{BadSize, BodySize, Sized, body_size, is_number, size_of}
use Rattle.hec_sender.specs.Texts.{post_head, post_text}
use Rattle.hec_body.specs.Events.{IsCut}
use Rattle.hec_session.specs.declared.act.HecAct.{HecAct}
use Rattle.hec_session.specs.declared.code.HecCode.{HecCode}
use Rattle.hec_session.specs.declared.endpoint.Endpoint.TheVariants.{Events}
use Rattle.hec_session.specs.declared.endpoint.Form.TheVariants.{Objects}
use Rattle.hec_session.specs.declared.task.Task.{Task}
use Rattle.hec_session.specs.declared.task.Task.TheVariants.{Store}
use Rattle.hec_session.specs.declared.tokens.Grant.{Grant}
use Rattle.hec_session.specs.declared.tokens.Grant.TheVariants.{WithoutAcks}
use Rattle.hec_session.specs.declared.tokens.Tokens.{Tokens}
use Rattle.hec_session.specs.Acts.{IsAct, IsActFor}
use Rattle.hec_session.specs.Checks.{and_then, endpoint_of, grant_of, granted, guid, in_plain_coding, task_for, task_of}
use Rattle.load_laws.proofs.HecHead.{all_digits, fields_are, head_is, head_printed, head_short, target, the_fields, the_head, the_terms}
use Rattle.load_laws.proofs.HecObject.{StoresOne, stores_one}
use Rattle.load_laws.proofs.HecText.{decimal_clear}

-- the request of a body
abbrev pub the_request : List ℕ → HttpRequest
the_request body = record { method = codes "POST"; target = target; minor = 1; fields = the_fields (decimal (length body)); body = body }

abbrev pub the_tokens : Tokens
the_tokens = record { token = Some 1; ack_token = None; listed = [] }

-- ---- its bytes

number_is : (digits : List ℕ) → AllDigits 10 digits → 0 < length digits → is_number digits ≡ true
number_is digits all some =
    and_from (not (length digits == 0)) (list_all is_ascii_digit digits) (not_from_false (length digits == 0) (ne_eqb (length digits) 0 (λ is. omega (arith, is, some)))) (all_digits digits all)

size_is : (digits : List ℕ) (n : ℕ) → AllDigits 10 digits → 0 < length digits → digits_value 10 digits ≡ n → body_size 1 (the_fields digits) ≡ Sized n
size_is digits n all some value = cond-true (is_number digits) (Sized (digits_value 10 digits)) BadSize (number_is digits all some) ∙ ap Sized value

sized : (size : BodySize) (body : List ℕ) → size ≡ Sized (length body) → length body ≤ 1048576 → IsBody size body body
sized size body is few = subst (λ (s : BodySize). IsBody s body body) (sym is) (refl, refl, omega (arith, few))

pub request_spelled : (body : List ℕ) → length body ≤ 1048576 → IsRequest (the_request body) (post_text the_terms target body)
request_spelled body few =
    let size = length body in
    let digits = decimal size in
    let numeral = decimal_is_IsNumeral size (omega (arith, few)) in
    let are = fields_are digits numeral.0.1 in
    record {
      head = the_head digits;
      text = body;
      begins = record {
        holds = record { reads = (head_is digits (decimal_clear size (omega (arith, few))), ap (λ (l : List ℕ). l ++ body) (head_printed size)); few = omega arith };
        short = omega (arith, head_short size (omega (arith, few)));
      };
      request_is = ap (λ (fields : List edge.Field). let r : HttpRequest = record { method = codes "POST"; target = target; minor = 1; fields = fields; body = body } in r) (sym are);
      body = sized (size_of (the_head digits)) body (ap (body_size 1) are ∙ size_is digits size numeral.0.1 numeral.0.0 numeral.1) few;
    }

pub post_size : (body : List ℕ) → length body ≤ 1048576 → length (post_text the_terms target body) ≤ 500 + length body
post_size body few = omega (arith, ap length (head_printed (length body)), head_short (length body) (omega (arith, few)), length-append (post_head the_terms target (length body)) body)

pub stays_open : (body : List ℕ) → closes (the_request body) ≡ false
stays_open body = refl

-- ---- its act

guid_first : guid (codes "00000000-0000-0000-0000-000000000001") ≡ Some 1
unfolding uuid_on_literals
guid_first = refl

grant_is : (body : List ℕ) → grant_of the_tokens (the_request body) ≡ Ok WithoutAcks
grant_is body = ap (granted the_tokens) guid_first

endpoint_is : (body : List ℕ) → endpoint_of (the_request body) ≡ Ok (Events Objects)
endpoint_is body = refl

task_is : (body : List ℕ) → task_of the_tokens (the_request body) ≡ Ok (Store Objects)
task_is body =
    ap (λ (g : Result Grant HecCode). and_then g (λ grant. and_then (task_for (the_request body) (Events Objects) grant) (in_plain_coding (the_request body)))) (grant_is body)

pub act_is : (body : List ℕ) (act : HecAct) → IsCut body (Ok (body ∷ [])) → IsAct the_tokens (the_request body) act → StoresOne body act
act_is body act cut is = stores_one body act cut (subst (λ (t : Result Task HecCode). IsActFor body t act) (task_is body) is)
