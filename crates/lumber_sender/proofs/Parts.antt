-- Parts of a window, one after another.
use Rattle.std.proofs.Common.{◌≡◌, inl, inr, ℕ, zero, suc, ◌+◌, ◌<◌, ◌∙◌, List, [], ◌∷◌, ◌++◌, length, take, drop, get_or, refl, sym, ap, subst, arith, append_assoc, length-append}
use Rattle.std.proofs.lemmas.Bool.{cases_lt}
use Rattle.std.proofs.lemmas.List.{take_more, take_all, take-append-drop, length-take-le, append-nil}
use Rattle.event_form.specs.declared.event.Entry.{Entry}
use Rattle.event_map.proofs.Functions.{json_object_of}
use Rattle.lumber_frame.specs.Spelling.{window_text, json_text}
use Rattle.lumber_sender.specs.Windows.{frames_text, batch_text, part_text, text_before}

-- the data frames of some entries, and of those that follow
pub frames_join : (seq : ℕ) (xs ys : List Entry) → frames_text seq (xs ++ ys) ≡ frames_text seq xs ++ frames_text (seq + length xs) ys
frames_join seq [] ys = let e : seq ≡ seq + 0 = omega arith in ap (λ (n : ℕ). frames_text n ys) e
frames_join seq (x ∷ xs) ys =
    let e : seq + 1 + length xs ≡ seq + length (x ∷ xs) = omega arith in
    let one = json_text seq (json_object_of x.event) in
    ap (λ (l : List ℕ). one ++ l) (frames_join (seq + 1) xs ys ∙ ap (λ (n : ℕ). frames_text (seq + 1) xs ++ frames_text n ys) e) ∙ sym (append_assoc one (frames_text (seq + 1) xs) (frames_text (seq + length (x ∷ xs)) ys))

-- the next entry's part
pub part_more : (batch : List Entry) (n : ℕ) (e : Entry) → n < length batch → e ≡ get_or batch n e → part_text batch (n + 1) ≡ part_text batch n ++ (text_before n (length batch) ++ json_text (n + 1) (json_object_of e.event))
part_more batch zero e inside at =
    let head = window_text (length batch) in
    let first : take 1 batch ≡ e ∷ [] = take_more batch 0 e inside ∙ ap (λ (x : Entry). x ∷ []) (sym at) in
    ap (λ (l : List Entry). head ++ frames_text 1 l) first ∙ ap (λ (l : List ℕ). head ++ l) (append-nil (json_text 1 (json_object_of e.event)))
part_more batch (suc m) e inside at =
    let head = window_text (length batch) in
    let one : suc m + 1 ≡ suc (suc m) = omega arith in
    let front = take (suc m) batch in
    let next : take (suc (suc m)) batch ≡ front ++ e ∷ [] = ap (λ (k : ℕ). take k batch) (sym one) ∙ take_more batch (suc m) e inside ∙ ap (λ (x : Entry). front ++ x ∷ []) (sym at) in
    let count : length front ≡ suc m = length-take-le (suc m) batch (omega (arith, inside)) in
    let seq : 1 + length front ≡ suc m + 1 = omega (arith, count) in
    let last = json_text (suc m + 1) (json_object_of e.event) in
    let frames : frames_text 1 (front ++ e ∷ []) ≡ frames_text 1 front ++ last =
    frames_join 1 front (e ∷ []) ∙ ap (λ (k : ℕ). frames_text 1 front ++ frames_text k (e ∷ [])) seq ∙ ap (λ (l : List ℕ). frames_text 1 front ++ l) (append-nil last) in
    ap (part_text batch) one ∙ ap (λ (l : List Entry). head ++ frames_text 1 l) next ∙ ap (λ (l : List ℕ). head ++ l) frames ∙ sym (append_assoc head (frames_text 1 front) last)

none_before : (n size : ℕ) → 0 < n → text_before n size ≡ []
none_before zero size some = absurd (omega (arith, some))
none_before (suc n) size some = refl

-- a text of the window from one place on, and the next entry's data frame
pub part_on : (batch : List Entry) (before text new : List ℕ) (n : ℕ) (e : Entry) → 0 < n → n < length batch → e ≡ get_or batch n e → part_text batch n ≡ before ++ text → new ≡ text ++ json_text (n + 1) (json_object_of e.event) → part_text batch (n + 1) ≡ before ++ new
part_on batch before text new n e some inside at is wrote =
    let last = json_text (n + 1) (json_object_of e.event) in
    part_more batch n e inside at ∙ ap (λ (l : List ℕ). part_text batch n ++ (l ++ last)) (none_before n (length batch) some) ∙ ap (λ (l : List ℕ). l ++ last) is ∙ append_assoc before text last ∙ ap (λ (l : List ℕ). before ++ l) (sym wrote)

-- the first data frame of such a text, after what stands before it
pub part_first : (batch : List Entry) (head new : List ℕ) (n : ℕ) (e : Entry) → n < length batch → e ≡ get_or batch n e → head ≡ text_before n (length batch) → new ≡ head ++ json_text (n + 1) (json_object_of e.event) → part_text batch (n + 1) ≡ part_text batch n ++ new
part_first batch head new n e inside at is wrote =
    let last = json_text (n + 1) (json_object_of e.event) in
    part_more batch n e inside at ∙ ap (λ (l : List ℕ). part_text batch n ++ (l ++ last)) (sym is) ∙ ap (λ (l : List ℕ). part_text batch n ++ l) (sym wrote)

-- such a text is short before the next entry's data frame too, where it is at the place that it has come to
pub short_on : (batch : List Entry) (from upto : ℕ) (text : List ℕ) → ((k : ℕ) → from < k → k < upto → length (part_text batch k) < length (part_text batch from) + 65536) → part_text batch upto ≡ part_text batch from ++ text → length text < 65536 → (k : ℕ) → from < k → k < upto + 1 → length (part_text batch k) < length (part_text batch from) + 65536
short_on batch from upto text before is few k above below =
    let sum : length (part_text batch upto) ≡ length (part_text batch from) + length text = ap length is ∙ length-append (part_text batch from) text in
    let here : length (part_text batch upto) < length (part_text batch from) + 65536 = omega (arith, sum, few) in
    elim (cases_lt k upto) [
      | inl lt ↦ before k above lt
      | inr le ↦ (let e : upto ≡ k = omega (arith, below, le) in subst (λ (n : ℕ). length (part_text batch n) < length (part_text batch from) + 65536) e here)
    ]

-- all entries of a window
pub part_all : (batch : List Entry) (n : ℕ) → n ≡ length batch → 0 < length batch → part_text batch n ≡ batch_text batch
part_all batch zero all some = absurd (omega (arith, all, some))
part_all batch (suc n) all some = ap (λ (l : List Entry). window_text (length batch) ++ frames_text 1 l) (take_all (suc n) batch (omega (arith, all)))

-- what is left of a window
pub part_rest : (batch : List Entry) (n : ℕ) → (rest : List ℕ) × (batch_text batch ≡ part_text batch n ++ rest)
part_rest batch zero = (batch_text batch, refl)
part_rest batch (suc n) =
    let head = window_text (length batch) in
    let front = take (suc n) batch in
    let rest = frames_text (1 + length front) (drop (suc n) batch) in
    (rest, ap (λ (l : List Entry). head ++ frames_text 1 l) (sym (take-append-drop (suc n) batch)) ∙ ap (λ (l : List ℕ). head ++ l) (frames_join 1 front (drop (suc n) batch)) ∙ sym (append_assoc head (frames_text 1 front) rest))
