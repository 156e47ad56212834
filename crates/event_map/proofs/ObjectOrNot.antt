-- Whether a text is one JSON object: an answer for every list of numbers.
use Rattle.std.proofs.Common.{◌≡◌, ℕ, ◌+◌, ◌≤◌, inl, inr, Bool, true, false, ◌==◌, List, [], ◌∷◌, ◌++◌, length, take, drop, refl, sym, ◌∙◌, ap, subst, arith, append-nil, length-append, take-append-drop}
use Rattle.std.proofs.lemmas.Bool.{eqb-true, eqb-false}
use Rattle.std.proofs.lemmas.List.{take_at, drop_at}
use Rattle.json_span.specs.Json.{is_space, AreSpaces, Spaced, Json, JsonObject}
use Rattle.json_span.specs.Machine.{State, Value, Completes, accepts, Run, Going, Stopped, run}
use Rattle.json_span.specs.Members.{IsObjectText}
use Rattle.json_span.proofs.RunLaws.{runs, ran, accepted, accepting}
use Rattle.json_span.proofs.ObjectLaws.{json_object, object_json}
use Rattle.event_map.proofs.Deciding.{Decided, both, some_up_to}

spaces : (w : List ℕ) → Decided (AreSpaces w)
spaces [] = inl tt
spaces (c ∷ w) = go (is_space c) refl (spaces w)
  where
    go : (b : Bool) → is_space c ≡ b → Decided (AreSpaces w) → Decided (AreSpaces (c ∷ w))
    go true e (inl s) = inl (e, s)
    go true e (inr never) = inr (λ p. never p.1)
    go false e d = inr (λ p. absurd cc)

-- a value after white space, by the machine
value : (x : List ℕ) → Decided (Spaced (Json 127) x)
value x = go (run (Value 127 []) x) refl
  where
    there : Completes (Value 127 []) (x ++ []) → Spaced (Json 127) x
    there h = let t = h.4 in (h.0, h.1, h.2, sym (append-nil x) ∙ h.3, subst (Json 127) (sym (t.3 ∙ ap (λ (z : List ℕ). t.0 ++ z) t.4 ∙ append-nil t.0)) t.2)

    back : Spaced (Json 127) x → Completes (Value 127 []) (x ++ [])
    back h = (h.0, h.1, h.2, append-nil x ∙ h.3, (h.1, [], h.4, sym (append-nil h.1), refl))

    ends : (t : State) (b : Bool) → accepts t ≡ b → run (Value 127 []) x ≡ Going t → Decided (Spaced (Json 127) x)
    ends t true a e = inl (there (ran (Value 127 []) t x [] e (accepting t a)))
    ends t false a e = inr (λ h. let r = runs (Value 127 []) x [] (back h) in let y = accepted r.0 r.2 in absurd cc)

    go : (r : Run) → run (Value 127 []) x ≡ r → Decided (Spaced (Json 127) x)
    go (Going t) e = ends t (accepts t) refl e
    go (Stopped w) e = inr (λ h. let r = runs (Value 127 []) x [] (back h) in absurd cc)

-- no white space stands before an opening brace
braced : (w x y : List ℕ) → AreSpaces w → 123 ∷ x ≡ w ++ y → y ≡ 123 ∷ x
braced [] x y s e = sym e
braced (c ∷ w) x y s e = absurd cc

object : (x : List ℕ) → Decided (JsonObject 127 x)
object [] = inr (λ h. absurd cc)
object (c ∷ x) = go (c == 123) refl
  where
    go : (b : Bool) → (c == 123) ≡ b → Decided (JsonObject 127 (c ∷ x))
    go false e = inr (λ h. eqb-false c 123 e (let same = h.1 in cc))
    go true e = subst (λ (n : ℕ). Decided (JsonObject 127 (n ∷ x))) (sym (eqb-true c 123 e)) (brace (value (123 ∷ x)))
      where
        brace : Decided (Spaced (Json 127) (123 ∷ x)) → Decided (JsonObject 127 (123 ∷ x))
        brace (inl h) = inl (json_object 127 x (subst (Json 127) (braced h.0 x h.1 h.2 h.3) h.4))
        brace (inr never) = inr (λ h. never ([], 123 ∷ x, tt, refl, object_json 127 (123 ∷ x) h))

-- white space, an object and white space, cut at these places
abbrev Cut : List ℕ → ℕ → ℕ → Type 0
Cut b m n = AreSpaces (take m b) × (JsonObject 127 (take n (drop m b)) × AreSpaces (drop n (drop m b)))

-- a text is one JSON object, or it isn't
pub object_or_not : (b : List ℕ) → Decided (IsObjectText b)
object_or_not b = go (some_up_to (λ m. (n : ℕ) × (n ≤ length b) × Cut b m n) (λ m. some_up_to (Cut b m) (λ n. both (spaces (take m b)) (both (object (take n (drop m b))) (spaces (drop n (drop m b))))) (length b)) (length b))
  where
    Places : Type 0
    Places = (m : ℕ) × (m ≤ length b) × ((n : ℕ) × (n ≤ length b) × Cut b m n)

    there : Places → IsObjectText b
    there h = let m = h.0 in let n = h.2.0 in let c = h.2.2 in (take m b, drop m b, c.0, sym (take-append-drop m b), (take n (drop m b), drop n (drop m b), c.1.0, sym (take-append-drop n (drop m b)), c.1.1))

    back : IsObjectText b → Places
    back h =
        let w = h.0 in
        let t = h.4 in
        let m = length w in
        let n = length t.0 in
        let front : take m b ≡ w = ap (take m) h.3 ∙ take_at w h.1 m refl in
        let behind : drop m b ≡ t.0 ++ t.1 = ap (drop m) h.3 ∙ drop_at w h.1 m refl ∙ t.3 in
        let middle : take n (drop m b) ≡ t.0 = ap (take n) behind ∙ take_at t.0 t.1 n refl in
        let end : drop n (drop m b) ≡ t.1 = ap (drop n) behind ∙ drop_at t.0 t.1 n refl in
        let room : length b ≡ m + length h.1 = ap length h.3 ∙ length-append w h.1 in
        let more : length h.1 ≡ n + length t.1 = ap length t.3 ∙ length-append t.0 t.1 in
        (m, omega (arith, room), (n, omega (arith, room, more), (subst AreSpaces (sym front) h.2, (subst (JsonObject 127) (sym middle) t.2, subst AreSpaces (sym end) t.4))))

    go : Decided Places → Decided (IsObjectText b)
    go (inl h) = inl (there h)
    go (inr never) = inr (λ h. never (back h))
