-- Lists of entries as windows of 128.
use Rattle.std.proofs.Common.{◌≡◌, inl, inr, ℕ, zero, suc, ◌+◌, ◌-◌, ◌*◌, ◌<◌, ◌≤◌, ◌∙◌, List, [], ◌∷◌, ◌++◌, length, take, drop, refl, sym, ap, arith, append_assoc, length-append, length-drop}
use Rattle.std.specs.Prelude.{◌/◌, ◌%◌, min}
use Rattle.std.proofs.lemmas.Bool.{cases_lt}
use Rattle.std.proofs.lemmas.List.{take_all, take_at, take-append-le, drop-append-le, append-nil}
use Rattle.event_form.specs.declared.event.Entry.{Entry}
use Rattle.lumber_sender.specs.Windows.{batch_text, windows_text}

-- ---- numbers of entries

full : (done size : ℕ) → 0 < size → size ≤ 128 → done % 128 ≡ 0 → (done + size) % 128 ≡ 0 → size ≡ 128
full done size some few even whole = omega arith

-- the size of the window under way is final: where more entries may come it is full, and else it is all that is left
pub size_final : (n done size : ℕ) → 0 < size → size ≤ 128 → done % 128 ≡ 0 → done + size ≤ n → (done + size < n → (done + size) % 128 ≡ 0) → min 128 (n - done) ≡ size
size_final n done size some few even most whole = elim (cases_lt (done + size) n) [
  | inl more ↦ (let is : size ≡ 128 = full done size some few even (whole more) in omega (arith, is, more))
  | inr none ↦ omega (arith, none, most, few)
]

pub no_more : (more : List Entry) → length more ≡ 0 → more ≡ []
no_more [] e = refl
no_more (x ∷ more) e = absurd (omega (arith, e))

-- whatever follows it, the window under way is its batch
pub window_final : (batch more : List Entry) (done : ℕ) → 0 < length batch → length batch ≤ 128 → done % 128 ≡ 0 → (0 < length more → (done + length batch) % 128 ≡ 0) → take 128 (batch ++ more) ≡ batch
window_final batch more done some few even whole = elim (cases_lt 0 (length more)) [
  | inl follow ↦ (let is : length batch ≡ 128 = full done (length batch) some few even (whole follow) in take_at batch more 128 is)
  | inr none ↦ (let e : more ≡ [] = no_more more (omega (arith, none)) in ap (λ (l : List Entry). take 128 (batch ++ l)) e ∙ ap (take 128) (append-nil batch) ∙ take_all 128 batch few)
]

-- ---- windows

-- more windows than there are don't matter
enough : (n m : ℕ) (es : List Entry) → length es ≤ 128 * n → n ≤ m → windows_text m es ≡ windows_text n es
enough zero zero es few le = refl
enough zero (suc m) [] few le = refl
enough zero (suc m) (e ∷ es) few le = absurd (omega (arith, few))
enough (suc n) zero es few le = absurd (omega (arith, le))
enough (suc n) (suc m) [] few le = refl
enough (suc n) (suc m) (e ∷ es) few le =
    let rest = drop 128 (e ∷ es) in
    ap (λ (t : List ℕ). batch_text (take 128 (e ∷ es)) ++ t) (enough n m rest (omega (arith, few, length-drop 128 (e ∷ es))) (omega (arith, le)))

-- the windows of whole ones and of what follows
after_whole : (k j n : ℕ) (front rest : List Entry) → length front ≡ 128 * k → n ≡ k + j → windows_text n (front ++ rest) ≡ windows_text k front ++ windows_text j rest
after_whole zero j n [] rest l is = let e : n ≡ j = omega (arith, is) in ap (λ (m : ℕ). windows_text m rest) e
after_whole zero j n (e ∷ front) rest l is = absurd (omega (arith, l))
after_whole (suc k) j zero front rest l is = absurd (omega (arith, is))
after_whole (suc k) j (suc n) [] rest l is = absurd (omega (arith, l))
after_whole (suc k) j (suc n) (e ∷ front) rest l is =
    let xs = e ∷ front in
    let more : 128 ≤ length xs = omega (arith, l) in
    let left : length (drop 128 xs) ≡ 128 * k = omega (arith, l, length-drop 128 xs) in
    ap (λ (b : List Entry). batch_text b ++ windows_text n (drop 128 (xs ++ rest))) (take-append-le 128 xs rest more)
    ∙ ap (λ (d : List Entry). batch_text (take 128 xs) ++ windows_text n d) (drop-append-le 128 xs rest more)
    ∙ ap (λ (t : List ℕ). batch_text (take 128 xs) ++ t) (after_whole k j n (drop 128 xs) rest left (omega (arith, is)))
    ∙ sym (append_assoc (batch_text (take 128 xs)) (windows_text k (drop 128 xs)) (windows_text j rest))

one_window : (es : List Entry) → 0 < length es → windows_text 1 es ≡ batch_text (take 128 es)
one_window [] some = absurd (omega (arith, some))
one_window (e ∷ es) some = append-nil (batch_text (take 128 (e ∷ es)))

whole_count : (done : ℕ) → done % 128 ≡ 0 → done ≡ 128 * (done / 128)
whole_count done even = omega arith

-- after whole windows, the windows up to the next one
pub next_window : (front rest : List Entry) (done : ℕ) → length front ≡ done → done % 128 ≡ 0 → windows_text (done / 128 + 1) (front ++ rest) ≡ windows_text (done / 128 + 1) front ++ windows_text 1 rest
next_window front rest done count even =
    let k = done / 128 in
    let l : length front ≡ 128 * k = count ∙ whole_count done even in
    after_whole k 1 (k + 1) front rest l refl ∙ ap (λ (t : List ℕ). t ++ windows_text 1 rest) (sym (enough k (k + 1) front (omega (arith, l)) (omega arith)))

-- the window under way, whatever follows it
pub window_text_final : (front batch more : List Entry) (done : ℕ) → length front ≡ done → done % 128 ≡ 0 → 0 < length batch → length batch ≤ 128 → (0 < length more → (done + length batch) % 128 ≡ 0)
    → windows_text (done / 128 + 1) ((front ++ batch) ++ more) ≡ windows_text (done / 128 + 1) front ++ batch_text batch
window_text_final front batch more done count even some few whole =
    let k = done / 128 in
    let one : windows_text 1 (batch ++ more) ≡ batch_text batch = one_window (batch ++ more) (omega (arith, some, length-append batch more)) ∙ ap batch_text (window_final batch more done some few even whole) in
    ap (windows_text (k + 1)) (append_assoc front batch more) ∙ next_window front (batch ++ more) done count even ∙ ap (λ (t : List ℕ). windows_text (k + 1) front ++ t) one

-- a window more that is wholly acknowledged
pub window_more : (front batch : List Entry) (done : ℕ) → length front ≡ done → done % 128 ≡ 0 → 0 < length batch → length batch ≤ 128 → windows_text (done / 128 + 1) front ++ batch_text batch ≡ windows_text ((done + length batch) / 128 + 1) (front ++ batch)
window_more front batch done count even some few =
    let k = done / 128 in
    let one : windows_text 1 batch ≡ batch_text batch = one_window batch some ∙ ap batch_text (take_all 128 batch few) in
    let fits : length (front ++ batch) ≤ 128 * (k + 1) = omega (arith, whole_count done even, count, few, length-append front batch) in
    let rises : k + 1 ≤ (done + length batch) / 128 + 1 = omega (arith, whole_count done even) in
    sym (enough (k + 1) ((done + length batch) / 128 + 1) (front ++ batch) fits rises ∙ next_window front batch done count even ∙ ap (λ (t : List ℕ). windows_text (k + 1) front ++ t) one)
