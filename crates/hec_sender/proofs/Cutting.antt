-- Lists of entries as requests.
use Rattle.std.proofs.Common.{◌≡◌, inl, inr, ℕ, ◌+◌, ◌-◌, ◌<◌, ◌≤◌, ◌∙◌, List, [], ◌∷◌, ◌++◌, length, take, drop, refl, sym, ap, arith, append_assoc, length-drop}
use Rattle.std.specs.Prelude.{◌%◌, Option}
use Rattle.std.proofs.lemmas.Bool.{cases_lt}
use Rattle.std.proofs.lemmas.List.{take_all, take_at, take_min, take-append-le, drop-drop, length-take, append-nil, nil_from_length}
use Rattle.event_form.specs.declared.event.Entry.{Entry}
use Rattle.hec_sender.specs.declared.query.Query.{Query}
use Rattle.hec_sender.specs.declared.terms.Terms.{Terms}
use Rattle.hec_sender.specs.Texts.{request_text, asked_text}
use Rattle.hec_sender.specs.Requests.{request_size, run_from, request_of, known_from, confirmed_text, next_text}
use Rattle.hec_sender.proofs.Fitting.{fitting_within}

-- ---- the run under way, whatever follows it

whole_run : (place count : ℕ) → 0 < count → count ≤ 128 - place % 128 → (place + count) % 128 ≡ 0 → count ≡ 128 - place % 128
whole_run place count some few whole = omega arith

run_final : (place : ℕ) (rest more : List Entry) → 0 < length rest → length rest ≤ 128 - place % 128 → (0 < length more → (place + length rest) % 128 ≡ 0) → run_from place (rest ++ more) ≡ rest
run_final place rest more some few whole = elim (cases_lt 0 (length more)) [
  | inl follow ↦ take_at rest more (128 - place % 128) (whole_run place (length rest) some few (whole follow))
  | inr none ↦ (let e : more ≡ [] = nil_from_length more (omega (arith, none)) in ap (λ (l : List Entry). run_from place (rest ++ l)) e ∙ ap (run_from place) (append-nil rest) ∙ take_all (128 - place % 128) rest few)
]

pub run_is : (place : ℕ) (rest : List Entry) → length rest ≤ 128 - place % 128 → run_from place rest ≡ rest
run_is place rest few = take_all (128 - place % 128) rest few

size_within : (run : List Entry) → 0 < length run → request_size run ≤ length run
size_within run some = omega (arith, fitting_within 1048576 run)

-- the next request of a run is the same, whatever follows the run
pub request_final : (place : ℕ) (rest more : List Entry) → 0 < length rest → length rest ≤ 128 - place % 128 → (0 < length more → (place + length rest) % 128 ≡ 0) → request_of place (rest ++ more) ≡ request_of place rest
request_final place rest more some few whole =
    ap (λ (run : List Entry). take (request_size run) (rest ++ more)) (run_final place rest more some few whole)
    ∙ take-append-le (request_size rest) rest more (size_within rest some)
    ∙ ap (λ (run : List Entry). take (request_size run) rest) (sym (run_is place rest few))

-- ---- the size of a request

pub request_within : (place : ℕ) (entries : List Entry) → length (request_of place entries) ≤ length entries
request_within place entries = omega (arith, length-take (request_size (run_from place entries)) entries)

pub request_some : (place : ℕ) (entries : List Entry) → 0 < length entries → 0 < length (request_of place entries)
request_some place entries some = omega (arith, length-take (request_size (run_from place entries)) entries)

-- a request of so many entries
pub request_is : (place : ℕ) (rest : List Entry) (size : ℕ) → length rest ≤ 128 - place % 128 → size ≡ request_size rest → request_of place rest ≡ take size rest
request_is place rest size few is = ap (λ (run : List Entry). take (request_size run) rest) (run_is place rest few) ∙ ap (λ (n : ℕ). take n rest) (sym is)

pub size_is : (place : ℕ) (rest : List Entry) (size : ℕ) → length rest ≤ 128 - place % 128 → size ≡ request_size rest → size ≤ length rest → size ≡ length (request_of place rest)
size_is place rest size few is within = omega (arith, ap length (request_is place rest size few is), length-take size rest)

pub request_take : (place : ℕ) (entries : List Entry) → take (length (request_of place entries)) entries ≡ request_of place entries
request_take place entries =
    let n = request_size (run_from place entries) in
    ap (λ (k : ℕ). take k entries) (length-take n entries) ∙ take_min n entries

-- what is left of a run
pub run_rest : (place : ℕ) (rest : List Entry) (k : ℕ) → length rest ≤ 128 - place % 128 → k ≤ length rest → length (drop k rest) ≤ 128 - (place + k) % 128
run_rest place rest k few within = omega (arith, length-drop k rest)

-- ---- one confirmed request more

pub known_more : (place : ℕ) (confirmed : List (Option Query)) (asked : Option Query) (entries : List Entry) → 0 < length (drop (known_from place confirmed entries) entries)
    → known_from place (confirmed ++ asked ∷ []) entries ≡ known_from place confirmed entries + length (request_of (place + known_from place confirmed entries) (drop (known_from place confirmed entries) entries))
known_more place [] asked [] some = absurd (omega (arith, some))
known_more place [] asked (e ∷ es) some =
    let es' = e ∷ es in
    let at : place ≡ place + 0 = omega arith in
    let one : length (request_of place es') + 0 ≡ 0 + length (request_of place es') = omega arith in
    one ∙ ap (λ (p : ℕ). 0 + length (request_of p es')) at
known_more place (a ∷ confirmed) asked [] some = absurd (omega (arith, some))
known_more place (a ∷ confirmed) asked (e ∷ es) some =
    let es' = e ∷ es in
    let k = length (request_of place es') in
    let rest = drop k es' in
    let n = known_from (place + k) confirmed rest in
    let left : drop n rest ≡ drop (k + n) es' = drop-drop n k es' in
    let at : place + k + n ≡ place + (k + n) = omega arith in
    let ih = known_more (place + k) confirmed asked rest (omega (arith, some, ap length left)) in
    let moved : length (request_of (place + k + n) (drop n rest)) ≡ length (request_of (place + (k + n)) (drop (k + n) es')) = ap (λ (l : List Entry). length (request_of (place + k + n) l)) left ∙ ap (λ (p : ℕ). length (request_of p (drop (k + n) es'))) at in
    omega (arith, ih, moved)

pub text_more : (terms : Terms) (place : ℕ) (confirmed : List (Option Query)) (asked : Option Query) (entries : List Entry) → 0 < length (drop (known_from place confirmed entries) entries)
    → confirmed_text terms place (confirmed ++ asked ∷ []) entries ≡ confirmed_text terms place confirmed entries ++ (request_text terms (request_of (place + known_from place confirmed entries) (drop (known_from place confirmed entries) entries)) ++ asked_text terms asked)
text_more terms place [] asked [] some = absurd (omega (arith, some))
text_more terms place [] asked (e ∷ es) some =
    let es' = e ∷ es in
    let at : place ≡ place + 0 = omega arith in
    append-nil (request_text terms (request_of place es') ++ asked_text terms asked) ∙ ap (λ (p : ℕ). request_text terms (request_of p es') ++ asked_text terms asked) at
text_more terms place (a ∷ confirmed) asked [] some = absurd (omega (arith, some))
text_more terms place (a ∷ confirmed) asked (e ∷ es) some =
    let es' = e ∷ es in
    let k = length (request_of place es') in
    let rest = drop k es' in
    let n = known_from (place + k) confirmed rest in
    let left : drop n rest ≡ drop (k + n) es' = drop-drop n k es' in
    let at : place + k + n ≡ place + (k + n) = omega arith in
    let first = request_text terms (request_of place es') ++ asked_text terms a in
    let next : ℕ → List Entry → List ℕ = λ p l. request_text terms (request_of p l) ++ asked_text terms asked in
    let ih = text_more terms (place + k) confirmed asked rest (omega (arith, some, ap length left)) in
    let moved : next (place + k + n) (drop n rest) ≡ next (place + (k + n)) (drop (k + n) es') = ap (λ (l : List Entry). next (place + k + n) l) left ∙ ap (λ (p : ℕ). next p (drop (k + n) es')) at in
    ap (λ (l : List ℕ). first ++ l) (ih ∙ ap (λ (l : List ℕ). confirmed_text terms (place + k) confirmed rest ++ l) moved)
    ∙ sym (append_assoc first (confirmed_text terms (place + k) confirmed rest) (next (place + (k + n)) (drop (k + n) es')))

pub next_is : (terms : Terms) (place : ℕ) (asked : Option Query) (entries : List Entry) → 0 < length entries → next_text terms place asked entries ≡ request_text terms (request_of place entries) ++ asked_text terms asked
next_is terms place asked [] some = absurd (omega (arith, some))
next_is terms place asked (e ∷ es) some = refl
