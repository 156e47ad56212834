-- What the replies of a receiver say to the collector's sender.
use Rattle.std.proofs.Common.{◌≡◌, ℕ, ◌<◌, ◌≤◌, ◌^◌, Bool, true, false, List, [], ◌∷◌, ◌++◌, Equal, Ordering, refl, sym, ◌∙◌, ap, subst, arith, append-nil, append_assoc, if◌then◌else◌}
use Rattle.std.specs.Prelude.{IsUtf8, Option, Some, None, codes, flat_map, option_and_then, option_map}
use Rattle.std.specs.Fmt.{decimal}
use Rattle.std.specs.Ordering.{match_ordering, nat_cmp}
use Rattle.std.specs.Cmp.Lexicographic.{slice_cmp}
use Rattle.std.specs.Str.Parse.{AllDigits}
use Rattle.std.proofs.lemmas.Bool.{eq-eqb, le-ltb}
use Rattle.std.proofs.lemmas.Fmt.{IsAscii-decimal, decimal_is_IsNumeral}
use Rattle.std.proofs.lemmas.Str.{IsUtf8-append, IsUtf8-from_ascii}
use Rattle.std.proofs.lemmas.Str.Parse.{digit_from_value}
use Rattle.json.specs.Json as json
use Rattle.json.specs.Lex.{tokens}
use Rattle.json.specs.Print.{escape_byte, print, print_from}
use Rattle.json.specs.Token.{Token}
use Rattle.json.specs.Tree.{HasNumbers, depth, json_tokens}
use Rattle.json.proofs.Printed.Decimals.{IsNumber-decimal}
use Rattle.json.proofs.Printed.Strings.{escape_byte_plain}
use Rattle.json.proofs.Printed.Tokens.{tokens-print}
use Rattle.json.proofs.Printed.Trees.{ArePrintable-json_tokens, value-json_tokens}
use Rattle.json.proofs.Printed.Utf8.{IsUtf8-are_ascii}
use Rattle.serde_json.specs.Data.{Data, Num, boolean, member, no_members, number, object, string, unsigned}
use Rattle.serde_json.specs.Find.{as_bool}
use Rattle.serde_json.specs.Read.{of_json, read}
use Rattle.serde_json.proofs.Numbers.{number_of-decimal}
use Rattle.hec_body.specs.Acks.{answer_of}
use Rattle.hec_sender.specs.Replies.{by_ack, by_number, verdict_of}
use Rattle.hec_session.specs.Codes.{success_of}
use Rattle.collector_laws.specs.Replied.{AnswerDecides, SuccessAsks, SuccessConfirms}

-- a text that is printed for a tree reads as what the tree is
pub read_tree : (j : json.Json) (text : List ℕ) (value : Option Data) → text ≡ print (json_tokens j) → HasNumbers j → depth j ≤ 127 → of_json j ≡ value → read text ≡ value
read_tree j text value is numbers few of =
    let ts = json_tokens j in
    let printed : tokens (print ts) ≡ ts = tokens-print ts (ArePrintable-json_tokens j numbers) in
    ap read is
    ∙ ap (λ (l : List Token). option_and_then of_json (option_and_then (λ p. json.if_last p.0 p.1) (json.value 127 l))) (printed ∙ sym (append-nil ts))
    ∙ ap (λ (o : Option (json.Json × List Token)). option_and_then of_json (option_and_then (λ p. json.if_last p.0 p.1) o)) (value-json_tokens j 127 [] few)
    ∙ of

pub ascii_utf8 : (n : ℕ) → n < 2 ^ 64 → IsUtf8 (decimal n)
ascii_utf8 n few = IsUtf8-from_ascii (decimal n) (IsAscii-decimal n few)

-- ---- a success

-- the tree with further members
abbrev success_tree : json.Members → json.Json
success_tree more = json.object (json.member (codes "text") (json.string (codes "Success")) (json.member (codes "code") (json.number (decimal 0)) more))

abbrev id_tree : ℕ → json.Json
id_tree id = success_tree (json.member (codes "ackId") (json.number (decimal id)) json.no_members)

abbrev plain_value : Data
plain_value = object (member (codes "code") (number (unsigned 0)) (member (codes "text") (string (codes "Success")) no_members))

abbrev id_value : ℕ → Data
id_value id = object (member (codes "ackId") (number (unsigned id)) (member (codes "code") (number (unsigned 0)) (member (codes "text") (string (codes "Success")) no_members)))

abbrev front : List ℕ
front = codes "{\"text\":\"Success\",\"code\":"

abbrev middle : List ℕ
middle = codes ",\"ackId\":"

plain_printed : print (json_tokens (success_tree json.no_members)) ≡ front ++ (decimal 0 ++ codes "}")
unfolding print_from escape_byte
plain_printed = refl

id_printed : (id : ℕ) → print (json_tokens (id_tree id)) ≡ front ++ (decimal 0 ++ (middle ++ (decimal id ++ codes "}")))
unfolding print_from escape_byte
id_printed id = refl

plain_text : (d : List ℕ) → (front ++ d ++ []) ++ codes "}" ≡ front ++ (d ++ codes "}")
plain_text d = ap (λ (l : List ℕ). front ++ (l ++ codes "}")) (append-nil d)

id_text : (d e : List ℕ) → (front ++ d ++ (middle ++ e)) ++ codes "}" ≡ front ++ (d ++ (middle ++ (e ++ codes "}")))
id_text d e = ap (λ (l : List ℕ). front ++ l) (append_assoc d (middle ++ e) (codes "}") ∙ ap (λ (l : List ℕ). d ++ (middle ++ l)) refl)

-- what its numbers are read as
abbrev plain_with : Option Num → Option Data
plain_with n = option_map object (option_and_then (λ d. Some (member (codes "code") d (member (codes "text") (string (codes "Success")) no_members))) (option_map number n))

abbrev id_with : Option Num → Option Num → Option Data
id_with n m =
    option_map object (option_and_then (λ d. option_and_then (λ e. Some (member (codes "ackId") e (member (codes "code") d (member (codes "text") (string (codes "Success")) no_members)))) (option_map number m)) (option_map number n))

plain_of : of_json (success_tree json.no_members) ≡ Some plain_value
plain_of = ap plain_with (number_of-decimal 0 (omega arith))

id_of : (id : ℕ) → id < 2 ^ 64 → of_json (id_tree id) ≡ Some (id_value id)
id_of id few =
    ap (λ (n : Option Num). option_map object (option_and_then (λ d. option_and_then (λ e. Some (member (codes "ackId") e (member (codes "code") d (member (codes "text") (string (codes "Success")) no_members)))) (of_json (json.number (decimal id)))) (option_map number n))) (number_of-decimal 0 (omega arith))
    ∙ ap (λ (m : Option Num). id_with (Some (unsigned 0)) m) (number_of-decimal id few)

plain_reads : read (success_of None) ≡ Some plain_value
plain_reads = read_tree (success_tree json.no_members) (success_of None) (Some plain_value) (plain_text (decimal 0) ∙ sym plain_printed) (tt, (IsNumber-decimal 0 (omega arith), tt)) (omega arith) plain_of

id_reads : (id : ℕ) → id < 2 ^ 64 → read (success_of (Some id)) ≡ Some (id_value id)
id_reads id few = read_tree (id_tree id) (success_of (Some id)) (Some (id_value id)) (id_text (decimal 0) (decimal id) ∙ sym (id_printed id)) (tt, (IsNumber-decimal 0 (omega arith), (IsNumber-decimal id few, tt))) (omega arith) (id_of id few)

front_utf8 : IsUtf8 (front ++ decimal 0)
front_utf8 = IsUtf8-append front (decimal 0) (IsUtf8-are_ascii front refl) (ascii_utf8 0 (omega arith))

plain_utf8 : IsUtf8 (success_of None)
plain_utf8 = subst IsUtf8 (append_assoc front (decimal 0) (codes "}") ∙ sym (plain_text (decimal 0))) (IsUtf8-append (front ++ decimal 0) (codes "}") front_utf8 (IsUtf8-are_ascii (codes "}") refl))

id_utf8 : (id : ℕ) → id < 2 ^ 64 → IsUtf8 (success_of (Some id))
id_utf8 id few =
    IsUtf8-append (front ++ decimal 0 ++ (middle ++ decimal id)) (codes "}")
    (IsUtf8-append (front ++ decimal 0) (middle ++ decimal id) front_utf8 (IsUtf8-append middle (decimal id) (IsUtf8-are_ascii middle refl) (ascii_utf8 id few)))
    (IsUtf8-are_ascii (codes "}") refl)

pub success_confirms : SuccessConfirms
success_confirms at = (Some plain_value, (plain_utf8, plain_reads), refl)

pub success_asks : SuccessAsks
success_asks id at few = (Some (id_value id), (id_utf8 id few, id_reads id few), refl)

-- ---- the answer to a query

-- digits stand for themselves in a string
same_digits : (ds : List ℕ) → AllDigits 10 ds → flat_map escape_byte ds ≡ ds
same_digits [] all = refl
same_digits (d ∷ ds) all =
    let k = digit_from_value d all.0 in
    λ i. escape_byte_plain d (λ e. omega (arith, e, k.0)) (λ e. omega (arith, e, k.1)) (omega (arith, k.0)) i ++ same_digits ds all.1 i

abbrev answer_tree : ℕ → Bool → json.Json
answer_tree id known = json.object (json.member (codes "acks") (json.object (json.member (decimal id) (json.boolean known) json.no_members)) json.no_members)

abbrev answer_value : ℕ → Bool → Data
answer_value id known = object (member (codes "acks") (object (member (decimal id) (boolean known) no_members)) no_members)

abbrev told : Bool → List ℕ
told known = if known then codes "true" else codes "false"

answer_printed : (id : ℕ) (known : Bool) → print (json_tokens (answer_tree id known)) ≡ codes "{\"acks\":{\"" ++ (((flat_map escape_byte (decimal id) ++ codes "\"") ++ codes ":") ++ (told known ++ codes "}}"))
unfolding print_from escape_byte
answer_printed id true = refl
answer_printed id false = refl

answer_text : (d : List ℕ) (known : Bool) → codes "{\"acks\":{\"" ++ ((d ++ (codes "\":" ++ told known)) ++ codes "}}") ≡ codes "{\"acks\":{\"" ++ (((d ++ codes "\"") ++ codes ":") ++ (told known ++ codes "}}"))
answer_text d known =
    ap (λ (l : List ℕ). codes "{\"acks\":{\"" ++ l) (
    append_assoc d (codes "\":" ++ told known) (codes "}}")
    ∙ sym (append_assoc (d ++ codes "\"") (codes ":") (told known ++ codes "}}") ∙ append_assoc d (codes "\"") (codes ":" ++ (told known ++ codes "}}")))
    )

answer_is : (id : ℕ) (known : Bool) → id < 2 ^ 64 → answer_of (id ∷ []) (known ∷ []) ≡ print (json_tokens (answer_tree id known))
answer_is id known few =
    answer_text (decimal id) known
    ∙ ap (λ (l : List ℕ). codes "{\"acks\":{\"" ++ (((l ++ codes "\"") ++ codes ":") ++ (told known ++ codes "}}"))) (sym (same_digits (decimal id) (decimal_is_IsNumeral id few).0.1))
    ∙ sym (answer_printed id known)

answer_reads : (id : ℕ) (known : Bool) → id < 2 ^ 64 → read (answer_of (id ∷ []) (known ∷ [])) ≡ Some (answer_value id known)
answer_reads id known few = read_tree (answer_tree id known) (answer_of (id ∷ []) (known ∷ [])) (Some (answer_value id known)) (answer_is id known few) ((tt, tt), tt) (omega arith) refl

told_utf8 : (known : Bool) → IsUtf8 (told known ++ codes "}}")
told_utf8 true = IsUtf8-are_ascii (codes "true}}") refl
told_utf8 false = IsUtf8-are_ascii (codes "false}}") refl

answer_utf8 : (id : ℕ) (known : Bool) → id < 2 ^ 64 → IsUtf8 (answer_of (id ∷ []) (known ∷ []))
answer_utf8 id known few =
    let parts : (codes "{\"acks\":{\"" ++ decimal id) ++ (codes "\":" ++ (told known ++ codes "}}")) ≡ answer_of (id ∷ []) (known ∷ []) =
    ap (λ (l : List ℕ). codes "{\"acks\":{\"" ++ l) (sym (append_assoc (decimal id) (codes "\":" ++ told known) (codes "}}"))) in
    subst IsUtf8 parts
    (IsUtf8-append (codes "{\"acks\":{\"" ++ decimal id) (codes "\":" ++ (told known ++ codes "}}"))
    (IsUtf8-append (codes "{\"acks\":{\"") (decimal id) (IsUtf8-are_ascii (codes "{\"acks\":{\"") refl) (ascii_utf8 id few))
    (IsUtf8-append (codes "\":") (told known ++ codes "}}") (IsUtf8-are_ascii (codes "\":") refl) (told_utf8 known)))

same_cmp : (xs : List ℕ) → slice_cmp nat_cmp xs xs ≡ Equal
same_cmp [] = refl
same_cmp (x ∷ xs) = rw (le-ltb x x (omega arith), eq-eqb x x refl) (same_cmp xs)

-- the id finds itself
found : (id times : ℕ) (known : Bool) → by_ack (by_number None) (Some known) ≡ verdict_of (Some (record { id = id; times = times })) 200 (Some (answer_value id known))
found id times known = ap (λ (o : Ordering). by_ack (by_number None) (option_and_then as_bool (match_ordering o None (Some (boolean known)) None))) (sym (same_cmp (decimal id)))

pub answer_decides : AnswerDecides
answer_decides id times at known few = (Some (answer_value id known), (answer_utf8 id known few, answer_reads id known few), found id times known)
