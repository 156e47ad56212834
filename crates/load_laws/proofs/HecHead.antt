-- The head of a load's request: its bytes are one head by HTTP's grammar, with these fields.
use Rattle.std.proofs.Common.{◌≡◌, ℕ, ◌<◌, ◌≤◌, ◌^◌, Bool, true, false, IsTrue, List, [], ◌∷◌, ◌++◌, length, reverse, refl, sym, ◌∙◌, ap, arith, append_assoc, length-append, ◌&&◌, ◌==◌, not}
use Rattle.std.specs.Prelude.{codes, nat_le, All}
use Rattle.std.specs.Char.{is_ascii_digit}
use Rattle.std.specs.Fmt.{decimal}
use Rattle.std.specs.List.{list_all}
use Rattle.std.specs.Str.Parse.{AllDigits}
use Rattle.std.proofs.lemmas.Bool.{and_from, le-leb, ne_eqb, not_from_false, or_from, or_right}
use Rattle.std.proofs.lemmas.Fmt.{length-decimal-le}
use Rattle.std.proofs.lemmas.List.{append-nil}
use Rattle.std.proofs.lemmas.List.Elements.{All-cons, All-head, All-nil}
use Rattle.std.proofs.lemmas.List.Sums.{AllPass-from_list_all}
use Rattle.std.proofs.lemmas.Str.Parse.{digit_from_value}
use Rattle.json.proofs.Printed.Utf8.{IsUtf8-are_ascii}
use Rattle.uuid.proofs.OnLiterals.{uuid_on_literals}
use Rattle.httparse.specs.Grammar.{AllPass, Field, IsField, IsRequestHead, IsToken, RequestHead, crlf, is_ows, is_token_byte, is_uri_byte, is_value_byte, print_request, skip_ows, trim_ows}
use Rattle.httparse.proofs.TrimLemmas.{AllPass-reverse, trim_ows_space}
use Rattle.http_edge.specs.declared.field.Field as edge
use Rattle.http_edge.specs.Heads.{head_fields}
use Rattle.http_edge.specs.Reply.{crlf as break}
use Rattle.hec_sender.specs.Texts.{guid_text, post_head}
use Rattle.hec_sender.specs.declared.terms.Terms.{Terms}
use Rattle.load_laws.proofs.HecText.{AreClear, IsClear}

-- ---- the parts

-- the token and the channel
abbrev pub the_terms : Terms
the_terms = record { token = 1; channel = 2; polls = 1 }

abbrev pub target : List ℕ
target = codes "/services/collector/event"

abbrev first : List ℕ
first = codes "00000000-0000-0000-0000-000000000001"

abbrev second : List ℕ
second = codes "00000000-0000-0000-0000-000000000002"

first_is : guid_text 1 ≡ first
unfolding uuid_on_literals
first_is = refl

second_is : guid_text 2 ≡ second
unfolding uuid_on_literals
second_is = refl

abbrev line : List ℕ → List ℕ → Field
line name raw = record { name = name; raw = 32 ∷ raw; end = crlf }

-- the lines of the fields, of which the last says the size
abbrev lines : List ℕ → List Field
lines digits =
    line (codes "Host") (codes "collector") ∷ line (codes "Authorization") (codes "Splunk 00000000-0000-0000-0000-000000000001")
    ∷ line (codes "X-Splunk-Request-Channel") second ∷ line (codes "Content-Type") (codes "application/json") ∷ line (codes "Content-Length") digits ∷ []

abbrev pub the_head : List ℕ → RequestHead
the_head digits = record { blank = []; method = codes "POST"; target = target; minor = 1; line_end = crlf; fields = lines digits; last = crlf }

-- the fields, each with its value
abbrev field : List ℕ → List ℕ → edge.Field
field name value = record { name = name; value = value }

abbrev pub the_fields : List ℕ → List edge.Field
the_fields digits =
    field (codes "Host") (codes "collector") ∷ field (codes "Authorization") (codes "Splunk 00000000-0000-0000-0000-000000000001")
    ∷ field (codes "X-Splunk-Request-Channel") second ∷ field (codes "Content-Type") (codes "application/json") ∷ field (codes "Content-Length") digits ∷ []

-- ---- the bytes

-- all before the digits
front : List ℕ
front =
    codes "POST /services/collector/event HTTP/1.1" ++ (break ++ (codes "Host: collector" ++ (break
    ++ (codes "Authorization: Splunk 00000000-0000-0000-0000-000000000001" ++ (break
    ++ (codes "X-Splunk-Request-Channel: 00000000-0000-0000-0000-000000000002" ++ (break
    ++ (codes "Content-Type: application/json" ++ (break ++ codes "Content-Length: ")))))))))

abbrev ending : List ℕ
ending = 13 ∷ 10 ∷ 13 ∷ 10 ∷ []

ends : (digits : List ℕ) → ((digits ++ 13 ∷ 10 ∷ []) ++ []) ++ 13 ∷ 10 ∷ [] ≡ digits ++ ending
ends digits = ap (λ (l : List ℕ). l ++ 13 ∷ 10 ∷ []) (append-nil (digits ++ 13 ∷ 10 ∷ [])) ∙ append_assoc digits (13 ∷ 10 ∷ []) (13 ∷ 10 ∷ [])

printed : (digits : List ℕ) → print_request (the_head digits) ≡ front ++ (digits ++ ending)
unfolding print_request front
printed digits = ap (λ (l : List ℕ). front ++ l) (ends digits)

-- the head with these two texts and these digits
abbrev head_with : List ℕ → List ℕ → List ℕ → List ℕ
head_with token channel digits =
    codes "POST " ++ target ++ codes " HTTP/1.1" ++ break
    ++ codes "Host: collector" ++ break
    ++ codes "Authorization: Splunk " ++ token ++ break
    ++ codes "X-Splunk-Request-Channel: " ++ channel ++ break
    ++ codes "Content-Type: application/json" ++ break
    ++ codes "Content-Length: " ++ digits ++ break
    ++ break

joined : (digits : List ℕ) → head_with first second digits ≡ front ++ (digits ++ ending)
unfolding front
joined digits = ap (λ (l : List ℕ). front ++ l) (append_assoc digits break break)

written : (size : ℕ) → post_head the_terms target size ≡ front ++ (decimal size ++ ending)
written size =
    ap (λ (g : List ℕ). head_with g (guid_text 2) (decimal size)) first_is ∙ ap (λ (g : List ℕ). head_with first g (decimal size)) second_is ∙ joined (decimal size)

front_size : length front ≤ 400
unfolding front
front_size = omega arith

pub head_printed : (size : ℕ) → post_head the_terms target size ≡ print_request (the_head (decimal size))
head_printed size = written size ∙ sym (printed (decimal size))

pub head_short : (size : ℕ) → size < 2 ^ 60 → length (print_request (the_head (decimal size))) ≤ 500
head_short size few =
    omega (
      arith,
      ap length (printed (decimal size)),
      front_size,
      length-append front (decimal size ++ ending),
      length-append (decimal size) ending,
      length-decimal-le 20 size (omega arith) (omega (arith, few)) (omega (arith, few)),
    )

-- ---- each part is of its class

passes : (test : ℕ → Bool) (xs : List ℕ) → list_all test xs ≡ true → AllPass test xs
passes test xs all = AllPass-from_list_all test xs all

clear_value : (c : ℕ) → IsClear c → is_value_byte c ≡ true
clear_value c clear =
    let visible : not (c == 127) ≡ true = not_from_false (c == 127) (ne_eqb c 127 (λ is. omega (arith, is, clear.high))) in
    or_right (c == 9) (nat_le 32 c && not (c == 127)) (and_from (nat_le 32 c) (not (c == 127)) (le-leb 32 c clear.low) visible)

clear_values : (cs : List ℕ) → AreClear cs → AllPass is_value_byte cs
clear_values [] clear = All-nil (λ (b : ℕ). IsTrue (is_value_byte b))
clear_values (c ∷ cs) clear = All-cons (λ (b : ℕ). IsTrue (is_value_byte b)) c cs (clear_value c clear.0) (clear_values cs clear.1)

host_field : IsField (line (codes "Host") (codes "collector"))
unfolding is_token_byte
host_field = record { name = (omega arith, passes is_token_byte (codes "Host") refl); raw = passes is_value_byte (codes " collector") refl }

token_field : IsField (line (codes "Authorization") (codes "Splunk 00000000-0000-0000-0000-000000000001"))
unfolding is_token_byte
token_field = record { name = (omega arith, passes is_token_byte (codes "Authorization") refl); raw = passes is_value_byte (codes " Splunk 00000000-0000-0000-0000-000000000001") refl }

channel_field : IsField (line (codes "X-Splunk-Request-Channel") second)
unfolding is_token_byte
channel_field = record { name = (omega arith, passes is_token_byte (codes "X-Splunk-Request-Channel") refl); raw = passes is_value_byte (32 ∷ second) refl }

type_field : IsField (line (codes "Content-Type") (codes "application/json"))
unfolding is_token_byte
type_field = record { name = (omega arith, passes is_token_byte (codes "Content-Type") refl); raw = passes is_value_byte (codes " application/json") refl }

size_field : (digits : List ℕ) → AreClear digits → IsField (line (codes "Content-Length") digits)
unfolding is_token_byte
size_field digits clear = record {
  name = (omega arith, passes is_token_byte (codes "Content-Length") refl);
  raw = All-cons (λ (b : ℕ). IsTrue (is_value_byte b)) 32 digits refl (clear_values digits clear);
}

all_fields : (digits : List ℕ) → AreClear digits → All IsField (lines digits)
all_fields digits clear =
    let last : List Field = line (codes "Content-Length") digits ∷ [] in
    let types : List Field = line (codes "Content-Type") (codes "application/json") ∷ last in
    let channels : List Field = line (codes "X-Splunk-Request-Channel") second ∷ types in
    let tokens : List Field = line (codes "Authorization") (codes "Splunk 00000000-0000-0000-0000-000000000001") ∷ channels in
    All-cons IsField (line (codes "Host") (codes "collector")) tokens host_field
    (All-cons IsField (line (codes "Authorization") (codes "Splunk 00000000-0000-0000-0000-000000000001")) channels token_field
    (All-cons IsField (line (codes "X-Splunk-Request-Channel") second) types channel_field
    (All-cons IsField (line (codes "Content-Type") (codes "application/json")) last type_field
    (All-cons IsField (line (codes "Content-Length") digits) [] (size_field digits clear) (All-nil IsField)))))

method_token : IsToken (codes "POST")
unfolding is_token_byte
method_token = (omega arith, passes is_token_byte (codes "POST") refl)

pub head_is : (digits : List ℕ) → AreClear digits → IsRequestHead (the_head digits)
head_is digits clear = record {
  method = method_token;
  target = (omega arith, passes is_uri_byte target refl);
  target_text = IsUtf8-are_ascii target refl;
  minor = omega arith;
  fields = all_fields digits clear;
}

-- ---- the values

digit_solid : (c : ℕ) → 48 ≤ c → is_ows c ≡ false
digit_solid c low = or_from (c == 32) (c == 9) (ne_eqb c 32 (λ is. omega (arith, is, low))) (ne_eqb c 9 (λ is. omega (arith, is, low)))

abbrev is_solid : ℕ → Bool
is_solid c = not (is_ows c)

digits_solid : (ds : List ℕ) → AllDigits 10 ds → AllPass is_solid ds
digits_solid [] all = All-nil (λ (b : ℕ). IsTrue (is_solid b))
digits_solid (d ∷ ds) all = All-cons (λ (b : ℕ). IsTrue (is_solid b)) d ds (not_from_false (is_ows d) (digit_solid d (digit_from_value d all.0).0)) (digits_solid ds all.1)

solid_stays : (cs : List ℕ) → AllPass is_solid cs → skip_ows cs ≡ cs
solid_stays [] solid = refl
solid_stays (c ∷ cs) solid = by (is_ows c) refl (All-head (λ (b : ℕ). IsTrue (is_solid b)) c cs solid)
  where
    by : (b : Bool) → is_ows c ≡ b → IsTrue (not (is_ows c)) → skip_ows (c ∷ cs) ≡ c ∷ cs
    by true is solid = absurd (let never : not (is_ows c) ≡ false = ap not is in cc)
    by false is solid = rw is refl

trimmed : (ds : List ℕ) → AllDigits 10 ds → trim_ows (32 ∷ ds) ≡ ds
trimmed ds all = trim_ows_space ds (solid_stays ds (digits_solid ds all)) (solid_stays (reverse ds) (AllPass-reverse is_solid ds (digits_solid ds all)))

other_values : (digits v : List ℕ) → trim_ows (32 ∷ digits) ≡ v → head_fields (the_head digits) ≡ the_fields v
unfolding trim_ows
other_values digits v is = ap (λ (l : List ℕ). field (codes "Host") (codes "collector") ∷ field (codes "Authorization") (codes "Splunk 00000000-0000-0000-0000-000000000001")
    ∷ field (codes "X-Splunk-Request-Channel") second ∷ field (codes "Content-Type") (codes "application/json") ∷ field (codes "Content-Length") l ∷ []) is

pub fields_are : (digits : List ℕ) → AllDigits 10 digits → head_fields (the_head digits) ≡ the_fields digits
fields_are digits all = other_values digits digits (trimmed digits all)

-- ---- the number

digit_is : (c : ℕ) → 48 ≤ c → c ≤ 57 → is_ascii_digit c ≡ true
digit_is c low high = and_from (nat_le 48 c) (nat_le c 57) (le-leb 48 c low) (le-leb c 57 high)

pub all_digits : (ds : List ℕ) → AllDigits 10 ds → list_all is_ascii_digit ds ≡ true
all_digits [] all = refl
all_digits (d ∷ ds) all = let k = digit_from_value d all.0 in and_from (is_ascii_digit d) (list_all is_ascii_digit ds) (digit_is d k.0 k.1) (all_digits ds all.1)
