-- A reply with another code than that of a success refuses.
use Rattle.std.proofs.Common.{◌≡◌, ℕ, ◌<◌, ◌^◌, true, List, [], ◌∷◌, ◌++◌, refl, sym, ◌∙◌, ap, subst, arith, append_assoc}
use Rattle.std.specs.Prelude.{◌≢◌, IsUtf8, Option, Some, None, codes, flat_map, option_and_then, option_map}
use Rattle.std.specs.Fmt.{decimal}
use Rattle.std.proofs.lemmas.Str.{IsUtf8-append}
use Rattle.json.specs.Json as json
use Rattle.json.specs.Print.{escape_byte, print, print_from}
use Rattle.json.specs.Tree.{json_tokens}
use Rattle.json.proofs.Printed.Decimals.{IsNumber-decimal}
use Rattle.json.proofs.Printed.Utf8.{IsUtf8-are_ascii, are_ascii}
use Rattle.serde_json.specs.Data.{Data, Num, member, no_members, number, object, string, unsigned}
use Rattle.serde_json.specs.Read.{of_json, read}
use Rattle.serde_json.proofs.Numbers.{number_of-decimal}
use Rattle.hec_sender.specs.declared.query.Query.{Query}
use Rattle.hec_sender.specs.Replies.{by_code, by_number, verdict_of}
use Rattle.hec_session.specs.declared.code.HecCode.{HecCode}
use Rattle.hec_session.specs.declared.code.HecCode.TheVariants.{Success, TokenRequired, InvalidAuthorization, InvalidToken, EmptyBody, InvalidFormat, ServerError, ServerBusy, ChannelMissing, InvalidChannel, EventRequired, EventBlank, AckDisabled, QueryAuthorization, Healthy, NotFound, MethodNotAllowed}
use Rattle.hec_session.specs.Codes.{body_of, number_of, status_of, text_of}
use Rattle.collector_laws.specs.Replied.{IsEventNumber, OthersRefuse}
use Rattle.collector_laws.proofs.Replies.{ascii_utf8, read_tree}

-- what holds of each code
each_code : (P : HecCode → Type 0) → P Success → P TokenRequired → P InvalidAuthorization → P InvalidToken → P EmptyBody → P InvalidFormat → P ServerError → P ServerBusy
    → P ChannelMissing → P InvalidChannel → P EventRequired → P EventBlank → P AckDisabled → P QueryAuthorization → P Healthy → P NotFound → P MethodNotAllowed → (code : HecCode) → P code
each_code P a b c d e f g h i j k l m n o p q Success = a
each_code P a b c d e f g h i j k l m n o p q TokenRequired = b
each_code P a b c d e f g h i j k l m n o p q InvalidAuthorization = c
each_code P a b c d e f g h i j k l m n o p q InvalidToken = d
each_code P a b c d e f g h i j k l m n o p q EmptyBody = e
each_code P a b c d e f g h i j k l m n o p q InvalidFormat = f
each_code P a b c d e f g h i j k l m n o p q ServerError = g
each_code P a b c d e f g h i j k l m n o p q ServerBusy = h
each_code P a b c d e f g h i j k l m n o p q ChannelMissing = i
each_code P a b c d e f g h i j k l m n o p q InvalidChannel = j
each_code P a b c d e f g h i j k l m n o p q EventRequired = k
each_code P a b c d e f g h i j k l m n o p q EventBlank = l
each_code P a b c d e f g h i j k l m n o p q AckDisabled = m
each_code P a b c d e f g h i j k l m n o p q QueryAuthorization = n
each_code P a b c d e f g h i j k l m n o p q Healthy = o
each_code P a b c d e f g h i j k l m n o p q NotFound = p
each_code P a b c d e f g h i j k l m n o p q MethodNotAllowed = q

same_text : (code : HecCode) → flat_map escape_byte (text_of code) ≡ text_of code
unfolding escape_byte
same_text = each_code (λ code. flat_map escape_byte (text_of code) ≡ text_of code) refl refl refl refl refl refl refl refl refl refl refl refl refl refl refl refl refl

text_utf8 : (code : HecCode) → IsUtf8 (text_of code)
text_utf8 code = IsUtf8-are_ascii (text_of code) (each_code (λ code. are_ascii (text_of code) ≡ true) refl refl refl refl refl refl refl refl refl refl refl refl refl refl refl refl refl code)

small : (code : HecCode) → number_of code < 2 ^ 32
small = each_code (λ code. number_of code < 2 ^ 32) (omega arith) (omega arith) (omega arith) (omega arith) (omega arith) (omega arith) (omega arith) (omega arith) (omega arith) (omega arith) (omega arith) (omega arith) (omega arith) (omega arith) (omega arith) (omega arith) (omega arith)

-- ---- its tree

abbrev event_name : List ℕ
event_name = codes "invalid-event-number"

abbrev more_of : Option ℕ → json.Members
more_of None = json.no_members
more_of (Some n) = json.member event_name (json.number (decimal n)) json.no_members

abbrev tree_of : List ℕ → ℕ → Option ℕ → json.Json
tree_of text n event = json.object (json.member (codes "text") (json.string text) (json.member (codes "code") (json.number (decimal n)) (more_of event)))

abbrev last_text : Option ℕ → List ℕ
last_text None = []
last_text (Some n) = codes ",\"invalid-event-number\":" ++ decimal n

abbrev value_of : List ℕ → ℕ → Option ℕ → Data
value_of text n None = object (member (codes "code") (number (unsigned n)) (member (codes "text") (string text) no_members))
value_of text n (Some e) = object (member (codes "code") (number (unsigned n)) (member event_name (number (unsigned e)) (member (codes "text") (string text) no_members)))

abbrev opening : List ℕ
opening = codes "{\"text\":\""

abbrev between : List ℕ
between = codes "\",\"code\":"

body_joined : (text digits last : List ℕ) → ((((opening ++ text) ++ between) ++ digits) ++ last) ++ codes "}" ≡ opening ++ (text ++ (between ++ (digits ++ (last ++ codes "}"))))
body_joined text digits last = simp append_assoc

printed : (text : List ℕ) (n : ℕ) (event : Option ℕ) → print (json_tokens (tree_of text n event)) ≡ opening ++ (flat_map escape_byte text ++ (between ++ (decimal n ++ (last_text event ++ codes "}"))))
unfolding print_from escape_byte
printed text n None = ap (λ (l : List ℕ). opening ++ l) (append_assoc (flat_map escape_byte text) (34 ∷ []) (codes ",\"code\":" ++ (decimal n ++ codes "}")))
printed text n (Some e) = ap (λ (l : List ℕ). opening ++ l) (append_assoc (flat_map escape_byte text) (34 ∷ []) (codes ",\"code\":" ++ (decimal n ++ (codes ",\"invalid-event-number\":" ++ (decimal e ++ codes "}")))))

body_is : (code : HecCode) (event : Option ℕ) → body_of code event ≡ opening ++ (text_of code ++ (between ++ (decimal (number_of code) ++ (last_text event ++ codes "}"))))
body_is code None = body_joined (text_of code) (decimal (number_of code)) []
body_is code (Some n) = body_joined (text_of code) (decimal (number_of code)) (codes ",\"invalid-event-number\":" ++ decimal n)

tree_is : (code : HecCode) (event : Option ℕ) → body_of code event ≡ print (json_tokens (tree_of (text_of code) (number_of code) event))
tree_is code event =
    body_is code event
    ∙ ap (λ (l : List ℕ). opening ++ (l ++ (between ++ (decimal (number_of code) ++ (last_text event ++ codes "}"))))) (sym (same_text code))
    ∙ sym (printed (text_of code) (number_of code) event)

-- ---- its value

of_tree : (text : List ℕ) (n : ℕ) (event : Option ℕ) → n < 2 ^ 64 → IsEventNumber event → of_json (tree_of text n event) ≡ Some (value_of text n event)
of_tree text n None few low =
    ap (λ (m : Option Num). option_map object (option_and_then (λ d. Some (member (codes "code") d (member (codes "text") (string text) no_members))) (option_map number m))) (number_of-decimal n few)
of_tree text n (Some e) few low =
    ap (λ (m : Option Num). option_map object (option_and_then (λ d. option_and_then (λ c. Some (member (codes "code") d (member event_name c (member (codes "text") (string text) no_members)))) (of_json (json.number (decimal e)))) (option_map number m))) (number_of-decimal n few)
    ∙ ap (λ (m : Option Num). option_map object (option_and_then (λ c. Some (member (codes "code") (number (unsigned n)) (member event_name c (member (codes "text") (string text) no_members)))) (option_map number m))) (number_of-decimal e low)

reads : (code : HecCode) (event : Option ℕ) → IsEventNumber event → read (body_of code event) ≡ Some (value_of (text_of code) (number_of code) event)
reads code None low =
    let n = number_of code in
    let few = small code in
    read_tree (tree_of (text_of code) n None) (body_of code None) (Some (value_of (text_of code) n None)) (tree_is code None) (tt, (IsNumber-decimal n (omega (arith, few)), tt)) (omega arith) (of_tree (text_of code) n None (omega (arith, few)) low)
reads code (Some e) low =
    let n = number_of code in
    let few = small code in
    read_tree (tree_of (text_of code) n (Some e)) (body_of code (Some e)) (Some (value_of (text_of code) n (Some e))) (tree_is code (Some e)) (tt, (IsNumber-decimal n (omega (arith, few)), (IsNumber-decimal e low, tt))) (omega arith) (of_tree (text_of code) n (Some e) (omega (arith, few)) low)

last_utf8 : (event : Option ℕ) → IsEventNumber event → IsUtf8 (last_text event ++ codes "}")
last_utf8 None low = IsUtf8-are_ascii (codes "}") refl
last_utf8 (Some n) low = IsUtf8-append (codes ",\"invalid-event-number\":" ++ decimal n) (codes "}") (IsUtf8-append (codes ",\"invalid-event-number\":") (decimal n) (IsUtf8-are_ascii (codes ",\"invalid-event-number\":") refl) (ascii_utf8 n low)) (IsUtf8-are_ascii (codes "}") refl)

body_utf8 : (code : HecCode) (event : Option ℕ) → IsEventNumber event → IsUtf8 (body_of code event)
body_utf8 code event low =
    let n = number_of code in
    let few = small code in
    subst IsUtf8 (sym (body_is code event))
    (IsUtf8-append opening (text_of code ++ (between ++ (decimal n ++ (last_text event ++ codes "}")))) (IsUtf8-are_ascii opening refl)
    (IsUtf8-append (text_of code) (between ++ (decimal n ++ (last_text event ++ codes "}"))) (text_utf8 code)
    (IsUtf8-append between (decimal n ++ (last_text event ++ codes "}")) (IsUtf8-are_ascii between refl)
    (IsUtf8-append (decimal n) (last_text event ++ codes "}") (ascii_utf8 n (omega (arith, few))) (last_utf8 event low)))))

-- ---- what it says

abbrev SaysCode : Option Query → Option ℕ → HecCode → Type 0
SaysCode asked event code = code ≢ Success → by_code (status_of code) (by_number None) (Some (number_of code)) ≡ verdict_of asked (status_of code) (Some (value_of (text_of code) (number_of code) event))

says_code : (asked : Option Query) (event : Option ℕ) (code : HecCode) → SaysCode asked event code
says_code None None = each_code (SaysCode None None) (λ other. absurd (other refl)) (λ other. refl) (λ other. refl) (λ other. refl) (λ other. refl) (λ other. refl) (λ other. refl) (λ other. refl) (λ other. refl) (λ other. refl) (λ other. refl) (λ other. refl) (λ other. refl) (λ other. refl) (λ other. refl) (λ other. refl) (λ other. refl)
says_code None (Some e) = each_code (SaysCode None (Some e)) (λ other. absurd (other refl)) (λ other. refl) (λ other. refl) (λ other. refl) (λ other. refl) (λ other. refl) (λ other. refl) (λ other. refl) (λ other. refl) (λ other. refl) (λ other. refl) (λ other. refl) (λ other. refl) (λ other. refl) (λ other. refl) (λ other. refl) (λ other. refl)
says_code (Some q) None = each_code (SaysCode (Some q) None) (λ other. absurd (other refl)) (λ other. refl) (λ other. refl) (λ other. refl) (λ other. refl) (λ other. refl) (λ other. refl) (λ other. refl) (λ other. refl) (λ other. refl) (λ other. refl) (λ other. refl) (λ other. refl) (λ other. refl) (λ other. refl) (λ other. refl) (λ other. refl)
says_code (Some q) (Some e) = each_code (SaysCode (Some q) (Some e)) (λ other. absurd (other refl)) (λ other. refl) (λ other. refl) (λ other. refl) (λ other. refl) (λ other. refl) (λ other. refl) (λ other. refl) (λ other. refl) (λ other. refl) (λ other. refl) (λ other. refl) (λ other. refl) (λ other. refl) (λ other. refl) (λ other. refl) (λ other. refl)

pub others_refuse : OthersRefuse
others_refuse asked code event at other low = (Some (value_of (text_of code) (number_of code) event), (body_utf8 code event low, reads code event low), says_code asked event code other)
