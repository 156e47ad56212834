-- The texts of entries, one after another.
use Rattle.std.proofs.Common.{◌≡◌, ℕ, zero, suc, ◌+◌, ◌<◌, ◌∙◌, List, [], ◌∷◌, ◌++◌, length, take, get_or, refl, sym, ap, arith, append_assoc}
use Rattle.event_form.specs.declared.event.Entry.{Entry}
use Rattle.relp_sender.specs.Texts.{event_text, frames_text}

pub append_none : {A : Type 0} (xs : List A) → xs ++ [] ≡ xs
append_none {A = A} [] = refl
append_none {A = A} (x ∷ xs) = ap (λ (l : List A). x ∷ l) (append_none xs)

pub frames_append : (place : ℕ) (es fs : List Entry) → frames_text place (es ++ fs) ≡ frames_text place es ++ frames_text (place + length es) fs
frames_append place [] fs = let e : place ≡ place + 0 = omega arith in ap (λ (n : ℕ). frames_text n fs) e
frames_append place (e ∷ es) fs =
    let n : place + 1 + length es ≡ place + length (e ∷ es) = omega arith in
    let t = event_text place e.event in
    ap (λ (l : List ℕ). t ++ l) (frames_append (place + 1) es fs ∙ ap (λ (k : ℕ). frames_text (place + 1) es ++ frames_text k fs) n) ∙ sym (append_assoc t (frames_text (place + 1) es) (frames_text (place + length (e ∷ es)) fs))

-- one entry more
pub frames_next : (es : List Entry) (place k : ℕ) (e : Entry) → k < length es → e ≡ get_or es k e → frames_text place (take (suc k) es) ≡ frames_text place (take k es) ++ event_text (place + k) e.event
frames_next [] place k e lt is = absurd (omega (arith, lt))
frames_next (d ∷ es) place zero e lt is =
    let at : place ≡ place + 0 = omega arith in
    append_none (event_text place d.event) ∙ ap (λ (n : ℕ). event_text n d.event) at ∙ ap (λ (x : Entry). event_text (place + 0) x.event) (sym is)
frames_next (d ∷ es) place (suc k) e lt is =
    let t = event_text place d.event in
    let at : place + 1 + k ≡ place + suc k = omega arith in
    ap (λ (l : List ℕ). t ++ l) (frames_next es (place + 1) k e (omega (arith, lt)) is ∙ ap (λ (n : ℕ). frames_text (place + 1) (take k es) ++ event_text n e.event) at)
    ∙ sym (append_assoc t (frames_text (place + 1) (take k es)) (event_text (place + suc k) e.event))

pub frames_then : (es : List Entry) (e : Entry) (w : ℕ) → length es ≡ w → frames_text 0 (es ++ e ∷ []) ≡ frames_text 0 es ++ event_text w e.event
frames_then es e w count =
    let n : 0 + length es ≡ w = omega (arith, count) in
    frames_append 0 es (e ∷ []) ∙ ap (λ (l : List ℕ). frames_text 0 es ++ l) (append_none (event_text (0 + length es) e.event) ∙ ap (λ (k : ℕ). event_text k e.event) n)
