-- The reply by which the collector of a load confirms a request: Success without an id.
use Rattle.std.proofs.Common.{◌≡◌, ℕ, ◌<◌, ◌≤◌, false, List, [], ◌∷◌, ◌++◌, length, refl, sym, ◌∙◌, ap, subst, arith, length-append}
use Rattle.std.specs.Prelude.{Some, None, codes, IsUtf8}
use Rattle.std.specs.Char.{encode_utf8, is_ascii_digit}
use Rattle.std.specs.Fmt.{digits}
use Rattle.std.specs.Str.{is_utf8, chars}
use Rattle.std.proofs.lemmas.List.Elements.{All-nil, All-cons}
use Rattle.std.proofs.lemmas.List.Sums.{AllPass-from_list_all}
use Rattle.std.proofs.lemmas.Str.{IsUtf8-from_is_utf8}
use Rattle.httparse.specs.Grammar.{Field, IsField, ResponseHead, IsResponseHead, ReadsResponse, crlf, print_response, is_value_byte, is_token_byte, status_code}
use Rattle.httparse.proofs.GrammarLemmas.{ReadsResponse-append, response_unique}
use Rattle.httparse.proofs.OnLiterals.{httparse_on_literals}
use Rattle.serde_json.specs.Data.{Data, object, member, no_members, number, string, unsigned}
use Rattle.serde_json.specs.Read.{read}
use Rattle.serde_json.proofs.OnLiterals.{serde_json_on_literals}
use Rattle.http_edge.specs.Bodies.{IsBody}
use Rattle.http_edge.specs.Lengths.{BodySize, Sized}
use Rattle.http_edge.specs.Reply.{reply_text}
use Rattle.http_edge.proofs.OnceLaws.{body_once}
use Rattle.http_reply.specs.declared.reply.HttpReply.{HttpReply}
use Rattle.http_reply.specs.ReplyStream.{IsReply}
use Rattle.http_reply.specs.Sizes.{size_of}
use Rattle.http_reply.proofs.OpeningLaws.{some_head}
use Rattle.hec_session.specs.Codes.{success_of}
use Rattle.hec_sender.specs.Replies.{Says, by_id, verdict_of}

-- ---- its head

abbrev type_field : Field
type_field = record { name = codes "Content-Type"; raw = codes " application/json"; end = crlf }

abbrev length_field : Field
length_field = record { name = codes "Content-Length"; raw = codes " 27"; end = crlf }

success_head : ResponseHead
success_head = record { blank = []; minor = 1; digits = codes "200"; reason = Some (codes "OK"); line_end = crlf; fields = type_field ∷ length_field ∷ []; last = crlf }

type_is : IsField type_field
unfolding is_token_byte
type_is = record { name = (omega arith, AllPass-from_list_all is_token_byte (codes "Content-Type") refl); raw = AllPass-from_list_all is_value_byte (codes " application/json") refl }

length_is : IsField length_field
unfolding is_token_byte
length_is = record { name = (omega arith, AllPass-from_list_all is_token_byte (codes "Content-Length") refl); raw = AllPass-from_list_all is_value_byte (codes " 27") refl }

head_is : IsResponseHead success_head
unfolding success_head
head_is = record {
  minor = omega arith;
  digits = (refl, AllPass-from_list_all is_ascii_digit (codes "200") refl);
  reason = AllPass-from_list_all is_value_byte (codes "OK") refl;
  fields = All-cons IsField type_field (length_field ∷ []) type_is (All-cons IsField length_field [] length_is (All-nil IsField));
}

few_fields : length success_head.fields ≤ 64
unfolding success_head
few_fields = omega arith

short_head : length (print_response success_head) ≤ 16384
unfolding success_head httparse_on_literals
short_head = omega arith

status_is : status_code success_head ≡ 200
unfolding success_head
status_is = refl

size_is : size_of success_head ≡ Sized 27
unfolding success_head httparse_on_literals
size_is = refl

-- ---- its bytes

-- {"text":"Success","code":0}
pub success_body : List ℕ
success_body = success_of None

body_length : length success_body ≡ 27
unfolding success_body digits
body_length = refl

pub success_text : List ℕ
success_text = reply_text 200 false (success_of None)

text_is : success_text ≡ print_response success_head ++ success_body
unfolding success_text success_head success_body digits httparse_on_literals
text_is = refl

pub success_text_is : reply_text 200 false (success_of None) ≡ success_text
unfolding success_text
success_text_is = refl

pub success_length : length success_text ≤ 200
unfolding success_text digits
success_length = omega arith

-- the reply, at an offset
abbrev pub success : ℕ → HttpReply
success at = record { status = 200; body = success_body; at = at }

pub success_is : (at : ℕ) → IsReply (success at) success_text
success_is at = record {
  head = success_head;
  text = success_body;
  begins = record { holds = record { reads = (head_is, text_is); few = few_fields }; short = short_head };
  reply_is = λ i. record { status = sym status_is i; body = success_body; at = at };
  body = subst (λ (size : BodySize). IsBody size success_body success_body) (sym size_is) (refl, body_length, omega arith);
}

-- a reply at the front of bytes that begin with it is it
pub success_first : (r : HttpReply) (x a b : List ℕ) → IsReply r x → x ++ a ≡ success_text ++ b → (r ≡ success r.at) × (x ≡ success_text) × (a ≡ b)
success_first r x a b is e =
    let s = success_is r.at in
    let there = subst (λ (w : List ℕ). ReadsResponse w s.head (s.text ++ b)) (sym e) (ReadsResponse-append success_text s.head s.text b s.begins.holds.reads) in
    let q = response_unique (x ++ a) is.head s.head (is.text ++ a) (s.text ++ b) (ReadsResponse-append x is.head is.text a is.begins.holds.reads) there in
    let same = subst (λ (h : ResponseHead). IsBody (size_of h) (success r.at).body s.text) (sym q.0) s.body in
    let p = body_once (size_of is.head) r.body (success r.at).body is.text s.text a b is.body same q.1 in (
      is.reply_is ∙ (λ i. record { status = status_code (q.0 i); body = p.0 i; at = r.at }) ∙ sym s.reply_is,
      is.begins.holds.reads.1 ∙ (λ i. print_response (q.0 i) ++ p.1 i) ∙ sym s.begins.holds.reads.1,
      p.2,
    )

pub reply_some : (r : HttpReply) (x : List ℕ) → IsReply r x → 0 < length x
reply_some r x is = omega (arith, some_head is.head, ap length is.begins.holds.reads.1, length-append (print_response is.head) is.text)

-- ---- what it says

value : Data
value = object (member (codes "code") (number (unsigned 0)) (member (codes "text") (string (codes "Success")) no_members))

body_text : IsUtf8 success_body
unfolding success_body digits is_utf8 chars encode_utf8
body_text = IsUtf8-from_is_utf8 success_body refl

value_is : read success_body ≡ Some value
unfolding value success_body digits serde_json_on_literals
value_is = refl

says_so : by_id None ≡ verdict_of None 200 (Some value)
unfolding value
says_so = refl

-- it confirms
pub success_says : (at : ℕ) → Says None (success at) (by_id None)
success_says at = (Some value, (body_text, value_is), says_so)
