-- The body of a query asks for its id.
use Rattle.std.proofs.Common.{◌≡◌, ℕ, ◌<◌, ◌^◌, List, [], ◌∷◌, ◌++◌, refl, sym, ◌∙◌, ap, arith, append-nil, append_assoc}
use Rattle.std.specs.Prelude.{IsUtf8, Option, Some, codes, option_and_then, option_map}
use Rattle.std.specs.Fmt.{decimal}
use Rattle.std.proofs.lemmas.Fmt.{IsAscii-decimal}
use Rattle.std.proofs.lemmas.Str.{IsUtf8-append, IsUtf8-from_ascii}
use Rattle.json.specs.Json as json
use Rattle.json.specs.Lex.{tokens}
use Rattle.json.specs.Print.{escape_byte, print}
use Rattle.json.specs.Token.{Token}
use Rattle.json.specs.Tree.{json_tokens}
use Rattle.json.proofs.Printed.Decimals.{IsNumber-decimal}
use Rattle.json.proofs.Printed.Tokens.{tokens-print}
use Rattle.json.proofs.Printed.Trees.{ArePrintable-json_tokens, value-json_tokens}
use Rattle.json.proofs.Printed.Utf8.{IsUtf8-are_ascii}
use Rattle.serde_json.specs.Data.{Data, Num, array, item, member, no_items, no_members, number, object}
use Rattle.serde_json.specs.Read.{of_json, read}
use Rattle.serde_json.specs.Written.{compact_text, outline}
use Rattle.serde_json.proofs.Numbers.{number_of-decimal}
use Rattle.serde_json.proofs.Texts.{print-outline}
use Rattle.hec_body.specs.Acks.{numbers}
use Rattle.hec_sender.specs.Texts.{acks_text}
use Rattle.collector_laws.specs.Asked.{QueryAsksForOne}

-- {"acks":[N]}
abbrev value : ℕ → Data
value id = object (member (codes "acks") (array (numbers (id ∷ []))) no_members)

ends : (digits : List ℕ) → (codes "{\"acks\":[" ++ digits) ++ codes "]}" ≡ codes "{\"acks\":[" ++ (digits ++ codes "]}")
ends digits = append_assoc (codes "{\"acks\":[") digits (codes "]}")

brackets : (digits : List ℕ) → codes "{\"acks\":[" ++ ((digits ++ 93 ∷ []) ++ 125 ∷ []) ≡ codes "{\"acks\":[" ++ (digits ++ codes "]}")
brackets digits = ap (λ (l : List ℕ). codes "{\"acks\":[" ++ l) (append_assoc digits (93 ∷ []) (125 ∷ []))

compact_is : (id : ℕ) → compact_text (value id) ≡ codes "{\"acks\":[" ++ ((decimal id ++ 93 ∷ []) ++ 125 ∷ [])
unfolding escape_byte
compact_is id = refl

text_is : (id : ℕ) → acks_text id ≡ print (json_tokens (outline (value id)))
text_is id = ends (decimal id) ∙ sym (brackets (decimal id)) ∙ sym (compact_is id) ∙ sym (print-outline (value id))

-- the value, with what its number is read as
abbrev with_number : Option Num → Option Data
with_number n =
    option_map object (option_and_then (λ d. Some (member (codes "acks") d no_members))
    (option_map array (option_and_then (λ d. option_map (item d) (Some no_items)) (option_map number n))))

of_value : (id : ℕ) → id < 2 ^ 64 → of_json (outline (value id)) ≡ Some (value id)
of_value id few = ap (λ (n : Option Num). with_number n) (number_of-decimal id few)

value_is : (id : ℕ) → id < 2 ^ 64 → read (acks_text id) ≡ Some (value id)
value_is id few =
    let j = outline (value id) in
    let ts = json_tokens j in
    let printed : tokens (print ts) ≡ ts = tokens-print ts (ArePrintable-json_tokens j ((IsNumber-decimal id few, tt), tt)) in
    ap read (text_is id)
    ∙ ap (λ (l : List Token). option_and_then of_json (option_and_then (λ p. json.if_last p.0 p.1) (json.value 127 l))) (printed ∙ sym (append-nil ts))
    ∙ ap (λ (o : Option (json.Json × List Token)). option_and_then of_json (option_and_then (λ p. json.if_last p.0 p.1) o)) (value-json_tokens j 127 [] (omega arith))
    ∙ of_value id few

text_utf8 : (id : ℕ) → id < 2 ^ 64 → IsUtf8 (acks_text id)
text_utf8 id few =
    IsUtf8-append (codes "{\"acks\":[" ++ decimal id) (codes "]}")
    (IsUtf8-append (codes "{\"acks\":[") (decimal id) (IsUtf8-are_ascii (codes "{\"acks\":[") refl) (IsUtf8-from_ascii (decimal id) (IsAscii-decimal id few)))
    (IsUtf8-are_ascii (codes "]}") refl)

pub query_asks : QueryAsksForOne
query_asks id few = (
  id ∷ [],
  record { value = value id; utf8 = text_utf8 id few; value_is = value_is id few; acks = refl; few = omega arith },
  refl,
)
