-- The head of a written reply: its bytes are one head by HTTP's grammar, with these fields.
use Rattle.std.proofs.Common.{◌≡◌, ℕ, ◌<◌, ◌≤◌, Bool, true, false, IsTrue, List, [], ◌∷◌, ◌++◌, length, refl, sym, ◌∙◌, ap, arith, append_assoc, append-nil, length-append, if◌then◌else◌}
use Rattle.std.specs.Prelude.{All, Some, codes, flat_map}
use Rattle.std.specs.Char.{is_ascii_digit}
use Rattle.std.specs.List.{list_any}
use Rattle.std.specs.Str.Parse.{AllDigits, digits_value}
use Rattle.std.proofs.lemmas.Bool.{cond-false, cond-true}
use Rattle.std.proofs.lemmas.List.Elements.{All-cons, All-nil}
use Rattle.std.proofs.lemmas.List.Sums.{AllPass-from_list_all}
use Rattle.httparse.specs.Grammar.{AllPass, Field, IsField, IsResponseHead, ResponseHead, crlf, is_token_byte, is_value_byte, print_field, print_response, trim_ows}
use Rattle.httparse.proofs.GrammarLemmas.{print_response-append}
use Rattle.http_edge.specs.declared.field.Field as edge
use Rattle.http_edge.specs.Fields.{field_value, is_close}
use Rattle.http_edge.specs.Lengths.{BadSize, Sized, body_size, is_number}
use Rattle.http_edge.specs.Reply.{connection, crlf as break}
use Rattle.http_reply.specs.Heads.{head_fields}
use Rattle.http_reply.specs.Sizes.{has_length, is_interim, reply_size, size_of}
use Rattle.reply_laws.proofs.Digits.{digits_pass, in_value, is_digit, number_is, trimmed}

-- ---- its parts

abbrev line : List ℕ → List ℕ → Field
line name raw = record { name = name; raw = 32 ∷ raw; end = crlf }

abbrev type_line : Field
type_line = line (codes "Content-Type") (codes "application/json")

abbrev size_line : List ℕ → Field
size_line size = line (codes "Content-Length") size

abbrev close_line : Field
close_line = line (codes "Connection") (codes "close")

abbrev closing_lines : Bool → List Field
closing_lines true = close_line ∷ []
closing_lines false = []

-- the head with these digits as its status, this reason, and these digits as the body's length
abbrev pub the_head : List ℕ → List ℕ → Bool → List ℕ → ResponseHead
the_head code reason closing size = record { blank = []; minor = 1; digits = code; reason = Some reason; line_end = crlf; fields = type_line ∷ size_line size ∷ closing_lines closing; last = crlf }

-- the fields, each with its value
abbrev field : List ℕ → List ℕ → edge.Field
field name value = record { name = name; value = value }

abbrev pub the_fields : Bool → List ℕ → List edge.Field
the_fields true size = field (codes "Content-Type") (codes "application/json") ∷ field (codes "Content-Length") size ∷ field (codes "Connection") (codes "close") ∷ []
the_fields false size = field (codes "Content-Type") (codes "application/json") ∷ field (codes "Content-Length") size ∷ []

-- ---- its bytes

-- what stands between the reason and the length
abbrev middle : List ℕ
middle = break ++ (codes "Content-Type: application/json" ++ (break ++ codes "Content-Length: "))

-- the status line and the fields up to the length, and then these bytes
abbrev begun : List ℕ → List ℕ → List ℕ → List ℕ
begun code reason rest = codes "HTTP/1.1 " ++ (code ++ (codes " " ++ (reason ++ (middle ++ rest))))

-- the length, the rest of the head, and then these bytes
abbrev ended : Bool → List ℕ → List ℕ → List ℕ
ended closing size rest = size ++ (break ++ (connection closing ++ (break ++ rest)))

regroup : (a b c d e f g h i j k l m : List ℕ) → ((((((((((((a ++ b) ++ c) ++ d) ++ e) ++ f) ++ g) ++ h) ++ i) ++ j) ++ k) ++ l) ++ m) ≡ a ++ (b ++ (c ++ (d ++ (e ++ (f ++ (g ++ (h ++ (i ++ (j ++ (k ++ (l ++ m)))))))))))
regroup a b c d e f g h i j k l m = simp append_assoc

regroup_end : (a b c d e : List ℕ) → (((a ++ b) ++ c) ++ d) ++ e ≡ a ++ (b ++ (c ++ (d ++ e)))
regroup_end a b c d e = simp append_assoc

-- what a writer puts together of these parts
abbrev put : List ℕ → List ℕ → Bool → List ℕ → List ℕ
put code reason closing size =
    codes "HTTP/1.1 " ++ code ++ codes " " ++ reason ++ break
    ++ codes "Content-Type: application/json" ++ break
    ++ codes "Content-Length: " ++ size ++ break
    ++ connection closing ++ break

put_is : (code reason size rest : List ℕ) (closing : Bool) → put code reason closing size ++ rest ≡ begun code reason (ended closing size rest)
put_is code reason size rest closing =
    regroup (codes "HTTP/1.1 ") code (codes " ") reason break (codes "Content-Type: application/json") break (codes "Content-Length: ") size break (connection closing) break rest

closing_printed : (closing : Bool) → flat_map print_field (closing_lines closing) ≡ connection closing
closing_printed true = refl
closing_printed false = refl

printed : (code reason size rest : List ℕ) (closing : Bool) → print_response (the_head code reason closing size) ++ rest ≡ begun code reason (ended closing size rest)
printed code reason size rest closing =
    print_response-append (the_head code reason closing size) rest
    ∙ ap (λ (l : List ℕ). begun code reason l)
    (regroup_end size break (flat_map print_field (closing_lines closing)) break rest ∙ ap (λ (l : List ℕ). size ++ (break ++ (l ++ (break ++ rest)))) (closing_printed closing))

pub head_put : (code reason size rest : List ℕ) (closing : Bool) → put code reason closing size ++ rest ≡ print_response (the_head code reason closing size) ++ rest
head_put code reason size rest closing = put_is code reason size rest closing ∙ sym (printed code reason size rest closing)

-- ---- its length

short : (whole a b c d e f g : List ℕ) → whole ≡ a ++ (b ++ (c ++ (d ++ (e ++ (f ++ g))))) → length a ≤ 9 → length b ≤ 3 → length c ≤ 1 → length d ≤ 50 → length e ≤ 50 → length f ≤ 20 → length g ≤ 30 → length whole ≤ 16384
short whole a b c d e f g is la lb lc ld le lf lg =
    omega (
      arith,
      ap length is,
      length-append a (b ++ (c ++ (d ++ (e ++ (f ++ g))))),
      length-append b (c ++ (d ++ (e ++ (f ++ g)))),
      length-append c (d ++ (e ++ (f ++ g))),
      length-append d (e ++ (f ++ g)),
      length-append e (f ++ g),
      length-append f g,
    )

end_short : (closing : Bool) → length (break ++ (connection closing ++ (break ++ []))) ≤ 30
end_short true = omega arith
end_short false = omega arith

pub head_short : (code reason size : List ℕ) (closing : Bool) → length code ≤ 3 → length reason ≤ 50 → length size ≤ 20 → length (print_response (the_head code reason closing size)) ≤ 16384
head_short code reason size closing three few digits =
    let whole = print_response (the_head code reason closing size) in
    short whole (codes "HTTP/1.1 ") code (codes " ") reason middle size (break ++ (connection closing ++ (break ++ [])))
    (sym (append-nil whole) ∙ printed code reason size [] closing) (omega arith) three (omega arith) few (omega arith) digits (end_short closing)

-- ---- each part is of its class

type_valid : IsField type_line
unfolding is_token_byte
type_valid = record {
  name = (omega arith, AllPass-from_list_all is_token_byte (codes "Content-Type") refl);
  raw = AllPass-from_list_all is_value_byte (codes " application/json") refl;
}

close_valid : IsField close_line
unfolding is_token_byte
close_valid = record {
  name = (omega arith, AllPass-from_list_all is_token_byte (codes "Connection") refl);
  raw = AllPass-from_list_all is_value_byte (codes " close") refl;
}

size_valid : (size : List ℕ) → AllDigits 10 size → IsField (size_line size)
unfolding is_token_byte
size_valid size all = record {
  name = (omega arith, AllPass-from_list_all is_token_byte (codes "Content-Length") refl);
  raw = All-cons (λ (b : ℕ). IsTrue (is_value_byte b)) 32 size refl (digits_pass is_value_byte in_value size all);
}

closing_valid : (closing : Bool) → All IsField (closing_lines closing)
closing_valid true = All-cons IsField close_line [] close_valid (All-nil IsField)
closing_valid false = All-nil IsField

pub head_is : (code reason size : List ℕ) (closing : Bool) → length code ≡ 3 → AllDigits 10 code → AllPass is_value_byte reason → AllDigits 10 size → IsResponseHead (the_head code reason closing size)
head_is code reason size closing three all passes digits = record {
  minor = omega arith;
  digits = (three, digits_pass is_ascii_digit is_digit code all);
  reason = passes;
  fields = All-cons IsField type_line (size_line size ∷ closing_lines closing) type_valid (All-cons IsField (size_line size) (closing_lines closing) (size_valid size digits) (closing_valid closing));
}

pub few_fields : (code reason size : List ℕ) (closing : Bool) → length (the_head code reason closing size).fields ≤ 64
few_fields code reason size true = omega arith
few_fields code reason size false = omega arith

-- ---- its fields

values_are : (code reason size value : List ℕ) (closing : Bool) → trim_ows (32 ∷ size) ≡ value → head_fields (the_head code reason closing size) ≡ the_fields closing value
unfolding trim_ows
values_are code reason size value true is = ap (λ (l : List ℕ). the_fields true l) is
values_are code reason size value false is = ap (λ (l : List ℕ). the_fields false l) is

pub fields_are : (code reason size : List ℕ) (closing : Bool) → AllDigits 10 size → head_fields (the_head code reason closing size) ≡ the_fields closing size
fields_are code reason size closing all = values_are code reason size size closing (trimmed size all)

pub closing_told : (closing : Bool) (size : List ℕ) → list_any is_close (the_fields closing size) ≡ closing
unfolding trim_ows
closing_told true size = refl
closing_told false size = refl

pub type_told : (closing : Bool) (size : List ℕ) → field_value (codes "content-type") (the_fields closing size) ≡ Some (codes "application/json")
type_told true size = refl
type_told false size = refl

sized : (closing : Bool) (size : List ℕ) (n : ℕ) → is_number size ≡ true → digits_value 10 size ≡ n → (if has_length (the_fields closing size) then body_size 1 (the_fields closing size) else BadSize) ≡ Sized n
sized true size n number value = cond-true (is_number size) (Sized (digits_value 10 size)) BadSize number ∙ ap Sized value
sized false size n number value = cond-true (is_number size) (Sized (digits_value 10 size)) BadSize number ∙ ap Sized value

pub size_told : (code reason size : List ℕ) (closing : Bool) (n : ℕ) → is_interim (digits_value 10 code) ≡ false → AllDigits 10 size → 0 < length size → digits_value 10 size ≡ n → size_of (the_head code reason closing size) ≡ Sized n
size_told code reason size closing n final all some value =
    ap (λ (fields : List edge.Field). reply_size (digits_value 10 code) 1 fields) (fields_are code reason size closing all)
    ∙ cond-false (is_interim (digits_value 10 code)) (Sized 0) (if has_length (the_fields closing size) then body_size 1 (the_fields closing size) else BadSize) final
    ∙ sized closing size n (number_is size all some) value
