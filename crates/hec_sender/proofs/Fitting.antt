-- How many objects fit.
use Rattle.std.proofs.Common.{◌≡◌, ◌⊎◌, inl, inr, ℕ, zero, suc, ◌+◌, ◌-◌, ◌<◌, ◌≤◌, ◌∙◌, Bool, true, false, cond, List, [], ◌∷◌, ◌++◌, length, take, get_or, refl, sym, ap, subst, arith, append_assoc, length-append}
use Rattle.std.specs.Prelude.{nat_le, max, All}
use Rattle.std.proofs.lemmas.Bool.{leb-true, leb-false}
use Rattle.std.proofs.lemmas.List.{take_more, take-take, length-take, append-nil}
use Rattle.std.proofs.lemmas.List.Elements.{All-head}
use Rattle.event_form.specs.declared.event.Entry.{Entry}
use Rattle.event_form.specs.Event.{IsEvent}
use Rattle.event_map.proofs.Exact.{hec_object_of-is}
use Rattle.event_map.proofs.Functions.{hec_object_of}
use Rattle.event_map.proofs.Sizes.{hec_object_size}
use Rattle.hec_sender.specs.Texts.{objects_text}
use Rattle.hec_sender.specs.Requests.{fitting, request_size}

-- how long an entry's object is
abbrev size : Entry → ℕ
size e = length (hec_object_of e.event)

pub fitting_within : (room : ℕ) (es : List Entry) → fitting room es ≤ length es
fitting_within room [] = omega arith
fitting_within room (e ∷ es) = by (nat_le (size e) room) (fitting_within (room - size e) es)
  where
    by : (b : Bool) → fitting (room - size e) es ≤ length es → cond b (suc (fitting (room - size e) es)) 0 ≤ length (e ∷ es)
    by true h = omega (arith, h)
    by false h = omega arith

-- entries whose objects fit are counted
fits_least : (n room : ℕ) (es : List Entry) → n ≤ length es → length (objects_text (take n es)) ≤ room → n ≤ fitting room es
fits_least zero room es few fits = omega arith
fits_least (suc n) room [] few fits = absurd (omega (arith, few))
fits_least (suc n) room (e ∷ es) few fits =
    let split : length (objects_text (take (suc n) (e ∷ es))) ≡ size e + length (objects_text (take n es)) = length-append (hec_object_of e.event) (objects_text (take n es)) in
    let rest : length (objects_text (take n es)) ≤ room - size e = omega (arith, split, fits) in
    let first : size e ≤ room = omega (arith, split, fits) in
    by (nat_le (size e) room) refl first (fits_least n (room - size e) es (omega (arith, few)) rest)
  where
    by : (b : Bool) → nat_le (size e) room ≡ b → size e ≤ room → n ≤ fitting (room - size e) es → suc n ≤ cond b (suc (fitting (room - size e) es)) 0
    by true is first h = omega (arith, h)
    by false is first h = absurd (omega (arith, first, leb-false (size e) room is))

-- entries whose objects don't fit aren't
fits_most : (n room : ℕ) (es : List Entry) → n < length es → room < length (objects_text (take (suc n) es)) → fitting room es ≤ n
fits_most n room [] few over = absurd (omega (arith, few))
fits_most zero room (e ∷ es) few over =
    let split : length (objects_text (take 1 (e ∷ es))) ≡ size e + 0 = length-append (hec_object_of e.event) [] in
    by (nat_le (size e) room) refl (omega (arith, split, over))
  where
    by : (b : Bool) → nat_le (size e) room ≡ b → room < size e → cond b (suc (fitting (room - size e) es)) 0 ≤ 0
    by true is more = absurd (omega (arith, more, leb-true (size e) room is))
    by false is more = omega arith
fits_most (suc n) room (e ∷ es) few over =
    let split : length (objects_text (take (suc (suc n)) (e ∷ es))) ≡ size e + length (objects_text (take (suc n) es)) = length-append (hec_object_of e.event) (objects_text (take (suc n) es)) in
    by (nat_le (size e) room) refl (λ first. fits_most n (room - size e) es (omega (arith, few)) (omega (arith, split, over, first)))
  where
    by : (b : Bool) → nat_le (size e) room ≡ b → (size e ≤ room → fitting (room - size e) es ≤ n) → cond b (suc (fitting (room - size e) es)) 0 ≤ suc n
    by true is h = let le = h (leb-true (size e) room is) in omega (arith, le)
    by false is h = omega arith

-- those that are counted fit
fitting_fits : (room : ℕ) (es : List Entry) → length (objects_text (take (fitting room es) es)) ≤ room
fitting_fits room [] = omega arith
fitting_fits room (e ∷ es) = by (nat_le (size e) room) refl (fitting_fits (room - size e) es)
  where
    by : (b : Bool) → nat_le (size e) room ≡ b → length (objects_text (take (fitting (room - size e) es) es)) ≤ room - size e → length (objects_text (take (cond b (suc (fitting (room - size e) es)) 0) (e ∷ es))) ≤ room
    by true is h = omega (arith, h, leb-true (size e) room is, length-append (hec_object_of e.event) (objects_text (take (fitting (room - size e) es) es)))
    by false is h = omega arith

one_fits : (es : List Entry) → All (λ (e : Entry). IsEvent e.event) es → length (objects_text (take 1 es)) ≤ 1048576
one_fits [] events = omega arith
one_fits (e ∷ es) events =
    let limits = All-head (λ (x : Entry). IsEvent x.event) e es events in
    let object = hec_object_of e.event in
    omega (arith, length-append object [], hec_object_size e.event object limits (hec_object_of-is e.event limits))

pub request_fits : (run entries : List Entry) (n : ℕ) → run ≡ take n entries → All (λ (e : Entry). IsEvent e.event) entries → length (objects_text (take (request_size run) entries)) ≤ 1048576
request_fits run entries n is events = by (fitting 1048576 run) refl
  where
    by : (k : ℕ) → fitting 1048576 run ≡ k → length (objects_text (take (max 1 k) entries)) ≤ 1048576
    by zero e = one_fits entries events
    by (suc k) e =
        let most : max 1 (suc k) ≡ suc k = omega arith in
        let within : suc k ≤ n = omega (arith, e, fitting_within 1048576 run, ap length is, length-take n entries) in
        let same : take (suc k) run ≡ take (suc k) entries = ap (take (suc k)) is ∙ take-take (suc k) n entries within in
        let fits : length (objects_text (take (suc k) run)) ≤ 1048576 = subst (λ (m : ℕ). length (objects_text (take m run)) ≤ 1048576) e (fitting_fits 1048576 run) in
        omega (arith, ap (λ (m : ℕ). length (objects_text (take m entries))) most, ap (λ (l : List Entry). length (objects_text l)) same, fits)

-- A request of so many entries, of which there is one alone, or which fit.
abbrev pub Fits : ℕ → List ℕ → Type 0
Fits n objects = (n ≡ 1) ⊎ (length objects ≤ 1048576)

-- no entry is left
pub size_all : (n : ℕ) (run : List Entry) → 0 < n → n ≡ length run → Fits n (objects_text (take n run)) → n ≡ request_size run
size_all n run some all fits = elim fits [
  | inl one ↦ omega (arith, one, all, fitting_within 1048576 run)
  | inr fit ↦ omega (arith, all, some, fitting_within 1048576 run, fits_least n 1048576 run (omega (arith, all)) fit)
]

-- the next one doesn't fit
pub size_full : (n : ℕ) (run : List Entry) → 0 < n → n < length run → Fits n (objects_text (take n run)) → 1048576 < length (objects_text (take (n + 1) run)) → n ≡ request_size run
size_full n run some few fits over =
    let one : n + 1 ≡ suc n = omega arith in
    let most : fitting 1048576 run ≤ n = fits_most n 1048576 run few (omega (arith, over, ap (λ (k : ℕ). length (objects_text (take k run))) one)) in
    elim fits [
      | inl is ↦ omega (arith, is, most)
      | inr fit ↦ omega (arith, some, most, fits_least n 1048576 run (omega (arith, few)) fit)
    ]

-- ---- objects, one after another

objects_join : (xs ys : List Entry) → objects_text (xs ++ ys) ≡ objects_text xs ++ objects_text ys
objects_join [] ys = refl
objects_join (x ∷ xs) ys = ap (λ (l : List ℕ). hec_object_of x.event ++ l) (objects_join xs ys) ∙ sym (append_assoc (hec_object_of x.event) (objects_text xs) (objects_text ys))

pub objects_more : (run : List Entry) (n : ℕ) (e : Entry) → n < length run → e ≡ get_or run n e → objects_text (take (n + 1) run) ≡ objects_text (take n run) ++ hec_object_of e.event
objects_more run n e inside at =
    let next : take (n + 1) run ≡ take n run ++ e ∷ [] = take_more run n e inside ∙ ap (λ (x : Entry). take n run ++ x ∷ []) (sym at) in
    ap objects_text next ∙ objects_join (take n run) (e ∷ []) ∙ ap (λ (l : List ℕ). objects_text (take n run) ++ l) (append-nil (hec_object_of e.event))
