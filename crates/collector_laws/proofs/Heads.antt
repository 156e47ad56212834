-- The head of a post: its bytes are one head by HTTP's grammar, with these fields.
use Rattle.std.proofs.Common.{◌≡◌, inl, inr, ℕ, ◌<◌, ◌≤◌, Bool, true, IsTrue, List, [], ◌∷◌, ◌++◌, length, refl, sym, ◌∙◌, ap, subst, arith, append_assoc, length-append}
use Rattle.std.specs.Prelude.{All, IsUtf8, codes}
use Rattle.std.specs.List.{list_all}
use Rattle.std.specs.Str.Parse.{AllDigits, digits_value}
use Rattle.std.proofs.lemmas.Bool.{cond-true}
use Rattle.std.proofs.lemmas.List.{append-nil}
use Rattle.std.proofs.lemmas.List.Elements.{All-append, All-cons, All-nil}
use Rattle.std.proofs.lemmas.List.Sums.{AllPass-from_list_all}
use Rattle.json.proofs.Printed.Utf8.{IsUtf8-are_ascii}
use Rattle.httparse.specs.Grammar.{AllPass, Field, IsField, IsRequestHead, IsToken, RequestHead, crlf, is_token_byte, is_uri_byte, is_value_byte, print_request, trim_ows}
use Rattle.httparse.proofs.GrammarLemmas.{print_request-append}
use Rattle.http_edge.specs.declared.field.Field as edge
use Rattle.http_edge.specs.Heads.{head_fields}
use Rattle.http_edge.specs.Lengths.{BadSize, Sized, body_size, is_number, size_of}
use Rattle.http_edge.specs.Reply.{crlf as break}
use Rattle.reply_laws.proofs.Digits.{digits_pass, in_value, number_is, trimmed}
use Rattle.collector_laws.specs.Posts.{IsPath, events_path, query_path}

-- ---- its parts

abbrev line : List ℕ → List ℕ → Field
line name raw = record { name = name; raw = 32 ∷ raw; end = crlf }

abbrev host_line : Field
host_line = line (codes "Host") (codes "collector")

abbrev token_line : List ℕ → Field
token_line token = line (codes "Authorization") (codes "Splunk " ++ token)

abbrev channel_line : List ℕ → Field
channel_line channel = line (codes "X-Splunk-Request-Channel") channel

abbrev type_line : Field
type_line = line (codes "Content-Type") (codes "application/json")

abbrev size_line : List ℕ → Field
size_line size = line (codes "Content-Length") size

abbrev lines : List ℕ → List ℕ → List ℕ → List Field
lines token channel size = host_line ∷ token_line token ∷ channel_line channel ∷ type_line ∷ size_line size ∷ []

-- the head of a post to a path, with these texts as its token and its channel, and these digits as the body's length
abbrev pub the_head : List ℕ → List ℕ → List ℕ → List ℕ → RequestHead
the_head path token channel size = record { blank = []; method = codes "POST"; target = path; minor = 1; line_end = crlf; fields = lines token channel size; last = crlf }

-- the fields, each with its value
abbrev field : List ℕ → List ℕ → edge.Field
field name value = record { name = name; value = value }

abbrev pub the_fields : List ℕ → List ℕ → List ℕ → List edge.Field
the_fields credentials channel size =
    field (codes "Host") (codes "collector") ∷ field (codes "Authorization") credentials ∷ field (codes "X-Splunk-Request-Channel") channel
    ∷ field (codes "Content-Type") (codes "application/json") ∷ field (codes "Content-Length") size ∷ []

-- ---- its bytes

-- what stands between the path and the token, the token and the channel, and the channel and the length
abbrev to_token : List ℕ
to_token = codes " HTTP/1.1" ++ (break ++ (codes "Host: collector" ++ (break ++ codes "Authorization: Splunk ")))

abbrev to_channel : List ℕ
to_channel = break ++ codes "X-Splunk-Request-Channel: "

abbrev to_size : List ℕ
to_size = break ++ (codes "Content-Type: application/json" ++ (break ++ codes "Content-Length: "))

abbrev ending : List ℕ
ending = break ++ break

-- all of it, and then these bytes
abbrev begun : List ℕ → List ℕ → List ℕ → List ℕ → List ℕ → List ℕ
begun path token channel size rest = codes "POST " ++ (path ++ (to_token ++ (token ++ (to_channel ++ (channel ++ (to_size ++ (size ++ (ending ++ rest))))))))

-- what a writer puts together of these parts
abbrev put : List ℕ → List ℕ → List ℕ → List ℕ → List ℕ
put path token channel size =
    codes "POST " ++ path ++ codes " HTTP/1.1" ++ break
    ++ codes "Host: collector" ++ break
    ++ codes "Authorization: Splunk " ++ token ++ break
    ++ codes "X-Splunk-Request-Channel: " ++ channel ++ break
    ++ codes "Content-Type: application/json" ++ break
    ++ codes "Content-Length: " ++ size ++ break
    ++ break

regroup : (a b c d e f g h i j k l m n o p q r s : List ℕ)
    → (((((((((((((((((a ++ b) ++ c) ++ d) ++ e) ++ f) ++ g) ++ h) ++ i) ++ j) ++ k) ++ l) ++ m) ++ n) ++ o) ++ p) ++ q) ++ r) ++ s
    ≡ a ++ (b ++ (c ++ (d ++ (e ++ (f ++ (g ++ (h ++ (i ++ (j ++ (k ++ (l ++ (m ++ (n ++ (o ++ (p ++ (q ++ (r ++ s)))))))))))))))))
regroup a b c d e f g h i j k l m n o p q r s = simp append_assoc

put_is : (path token channel size rest : List ℕ) → put path token channel size ++ rest ≡ begun path token channel size rest
put_is path token channel size rest =
    regroup (codes "POST ") path (codes " HTTP/1.1") break (codes "Host: collector") break (codes "Authorization: Splunk ") token break (codes "X-Splunk-Request-Channel: ") channel break
    (codes "Content-Type: application/json") break (codes "Content-Length: ") size break break rest

regroup_fields : (a b c d e f rest : List ℕ) → ((((a ++ f) ++ (b ++ ((c ++ f) ++ (d ++ ((e ++ f) ++ []))))) ++ f) ++ rest) ≡ a ++ (f ++ (b ++ (c ++ (f ++ (d ++ (e ++ (f ++ (f ++ rest))))))))
regroup_fields a b c d e f rest = simp (append_assoc, append-nil)

printed : (path token channel size rest : List ℕ) → print_request (the_head path token channel size) ++ rest ≡ begun path token channel size rest
printed path token channel size rest =
    print_request-append (the_head path token channel size) rest
    ∙ ap (λ (l : List ℕ). codes "POST " ++ (path ++ (to_token ++ l)))
    (regroup_fields token (codes "X-Splunk-Request-Channel: ") channel (codes "Content-Type: application/json" ++ (break ++ codes "Content-Length: ")) size break rest)

pub head_put : (path token channel size rest : List ℕ) → put path token channel size ++ rest ≡ print_request (the_head path token channel size) ++ rest
head_put path token channel size rest = put_is path token channel size rest ∙ sym (printed path token channel size rest)

-- ---- its length

sum_of : (whole a b c d e f g h i : List ℕ) → whole ≡ a ++ (b ++ (c ++ (d ++ (e ++ (f ++ (g ++ (h ++ i)))))))
    → length a ≤ 9 → length b ≤ 100 → length c ≤ 100 → length d ≤ 100 → length e ≤ 100 → length f ≤ 100 → length g ≤ 100 → length h ≤ 20 → length i ≤ 9 → length whole ≤ 1000
sum_of whole a b c d e f g h i is la lb lc ld le lf lg lh li =
    omega (
      arith,
      ap length is,
      length-append a (b ++ (c ++ (d ++ (e ++ (f ++ (g ++ (h ++ i))))))),
      length-append b (c ++ (d ++ (e ++ (f ++ (g ++ (h ++ i)))))),
      length-append c (d ++ (e ++ (f ++ (g ++ (h ++ i))))),
      length-append d (e ++ (f ++ (g ++ (h ++ i)))),
      length-append e (f ++ (g ++ (h ++ i))),
      length-append f (g ++ (h ++ i)),
      length-append g (h ++ i),
      length-append h i,
    )

path_short : (path : List ℕ) → IsPath path → length path ≤ 100
path_short path (inl is) = omega (arith, ap length is)
path_short path (inr is) = omega (arith, ap length is)

pub head_short : (path token channel size : List ℕ) → IsPath path → length token ≡ 36 → length channel ≡ 36 → length size ≤ 20 → length (print_request (the_head path token channel size)) ≤ 1000
head_short path token channel size known t c s =
    let whole = print_request (the_head path token channel size) in
    sum_of whole (codes "POST ") path to_token token to_channel channel to_size size (ending ++ [])
    (sym (append-nil whole) ∙ printed path token channel size []) (omega arith) (path_short path known) (omega arith) (omega (arith, t)) (omega arith) (omega (arith, c)) (omega arith) s (omega arith)

-- ---- each part is of its class

passes : (test : ℕ → Bool) (xs : List ℕ) → list_all test xs ≡ true → AllPass test xs
passes test xs all = AllPass-from_list_all test xs all

host_valid : IsField host_line
unfolding is_token_byte
host_valid = record { name = (omega arith, passes is_token_byte (codes "Host") refl); raw = passes is_value_byte (codes " collector") refl }

type_valid : IsField type_line
unfolding is_token_byte
type_valid = record { name = (omega arith, passes is_token_byte (codes "Content-Type") refl); raw = passes is_value_byte (codes " application/json") refl }

-- a value of such bytes, behind others
value_behind : (front value : List ℕ) → list_all is_value_byte front ≡ true → AllPass is_value_byte value → AllPass is_value_byte (front ++ value)
value_behind front value all pass = All-append (λ (b : ℕ). IsTrue (is_value_byte b)) front value (passes is_value_byte front all) pass

token_valid : (token : List ℕ) → AllPass is_value_byte token → IsField (token_line token)
unfolding is_token_byte
token_valid token pass = record { name = (omega arith, passes is_token_byte (codes "Authorization") refl); raw = value_behind (codes " Splunk ") token refl pass }

channel_valid : (channel : List ℕ) → AllPass is_value_byte channel → IsField (channel_line channel)
unfolding is_token_byte
channel_valid channel pass = record { name = (omega arith, passes is_token_byte (codes "X-Splunk-Request-Channel") refl); raw = value_behind (codes " ") channel refl pass }

size_valid : (size : List ℕ) → AllDigits 10 size → IsField (size_line size)
unfolding is_token_byte
size_valid size all = record { name = (omega arith, passes is_token_byte (codes "Content-Length") refl); raw = value_behind (codes " ") size refl (digits_pass is_value_byte in_value size all) }

all_valid : (token channel size : List ℕ) → AllPass is_value_byte token → AllPass is_value_byte channel → AllDigits 10 size → All IsField (lines token channel size)
all_valid token channel size t c s =
    let types : List Field = type_line ∷ size_line size ∷ [] in
    let channels : List Field = channel_line channel ∷ types in
    All-cons IsField host_line (token_line token ∷ channels) host_valid
    (All-cons IsField (token_line token) channels (token_valid token t)
    (All-cons IsField (channel_line channel) types (channel_valid channel c)
    (All-cons IsField type_line (size_line size ∷ []) type_valid (All-cons IsField (size_line size) [] (size_valid size s) (All-nil IsField)))))

method_token : IsToken (codes "POST")
unfolding is_token_byte
method_token = (omega arith, passes is_token_byte (codes "POST") refl)

path_valid : (path : List ℕ) → IsPath path → ((0 < length path) × AllPass is_uri_byte path) × IsUtf8 path
path_valid path (inl is) = subst (λ (p : List ℕ). ((0 < length p) × AllPass is_uri_byte p) × IsUtf8 p) (sym is) ((omega arith, passes is_uri_byte events_path refl), IsUtf8-are_ascii events_path refl)
path_valid path (inr is) = subst (λ (p : List ℕ). ((0 < length p) × AllPass is_uri_byte p) × IsUtf8 p) (sym is) ((omega arith, passes is_uri_byte query_path refl), IsUtf8-are_ascii query_path refl)

pub head_is : (path token channel size : List ℕ) → IsPath path → AllPass is_value_byte token → AllPass is_value_byte channel → AllDigits 10 size → IsRequestHead (the_head path token channel size)
head_is path token channel size known t c s =
    let p = path_valid path known in
    record { method = method_token; target = p.0; target_text = p.1; minor = omega arith; fields = all_valid token channel size t c s }

-- ---- its fields

values_are : (path token channel size t c s : List ℕ) → trim_ows (32 ∷ (codes "Splunk " ++ token)) ≡ t → trim_ows (32 ∷ channel) ≡ c → trim_ows (32 ∷ size) ≡ s
    → head_fields (the_head path token channel size) ≡ the_fields t c s
unfolding trim_ows
values_are path token channel size t c s ist isc iss = λ i. the_fields (ist i) (isc i) (iss i)

pub fields_are : (path token channel size : List ℕ) → trim_ows (32 ∷ (codes "Splunk " ++ token)) ≡ codes "Splunk " ++ token → trim_ows (32 ∷ channel) ≡ channel → AllDigits 10 size
    → head_fields (the_head path token channel size) ≡ the_fields (codes "Splunk " ++ token) channel size
fields_are path token channel size t c all = values_are path token channel size (codes "Splunk " ++ token) channel size t c (trimmed size all)

sized : (credentials channel size : List ℕ) (n : ℕ) → is_number size ≡ true → digits_value 10 size ≡ n → body_size 1 (the_fields credentials channel size) ≡ Sized n
sized credentials channel size n number value = cond-true (is_number size) (Sized (digits_value 10 size)) BadSize number ∙ ap Sized value

pub size_told : (head : RequestHead) (credentials channel size : List ℕ) (n : ℕ) → head.minor ≡ 1 → head_fields head ≡ the_fields credentials channel size
    → AllDigits 10 size → 0 < length size → digits_value 10 size ≡ n → size_of head ≡ Sized n
size_told head credentials channel size n minor fields all some value =
    (λ i. body_size (minor i) (fields i)) ∙ sized credentials channel size n (number_is size all some) value
