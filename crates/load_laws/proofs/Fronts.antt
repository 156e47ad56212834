-- Frames at the front of bytes that are a list of frames are the first of these.
use Rattle.std.proofs.Common.{◌≡◌, ℕ, ◌<◌, List, [], ◌∷◌, ◌++◌, length, refl, sym, ◌∙◌, ap, subst, arith, append_assoc, length-append}
use Rattle.stream_grammar.specs.Framing.{AreSpelled}

-- no spelling is a front of another one, and none is empty
pub strip : {F : Type 0} (Spells : F → List ℕ → Type 0) → ((f g : F) (x y a b : List ℕ) → Spells f x → Spells g y → x ++ a ≡ y ++ b → (f ≡ g) × (x ≡ y) × (a ≡ b)) → ((f : F) (x : List ℕ) → Spells f x → 0 < length x)
    → (fs gs : List F) (x y : List ℕ) → AreSpelled Spells fs x → AreSpelled Spells gs (x ++ y) → (more : List F) × (gs ≡ fs ++ more) × AreSpelled Spells more y
strip {F} Spells once some [] gs x y none all = (gs, refl, subst (λ (l : List ℕ). AreSpelled Spells gs (l ++ y)) none all)
strip {F} Spells once some (f ∷ fs) [] x y (p, q, spells, whole, rest) all =
    absurd (omega (arith, some f p spells, ap length whole, length-append p q, ap length all, length-append x y))
strip {F} Spells once some (f ∷ fs) (g ∷ gs) x y (p, q, spells, whole, rest) (p', q', spells', whole', rest') =
    let joined : p ++ (q ++ y) ≡ p' ++ q' = sym (append_assoc p q y) ∙ ap (λ (l : List ℕ). l ++ y) (sym whole) ∙ whole' in
    let one = once f g p p' (q ++ y) q' spells spells' joined in
    let later = strip Spells once some fs gs q y rest (subst (AreSpelled Spells gs) (sym one.2) rest') in
    (later.0, (λ i. sym one.0 i ∷ gs) ∙ ap (λ (l : List F). f ∷ l) later.1, later.2)
