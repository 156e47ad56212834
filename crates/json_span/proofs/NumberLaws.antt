-- Of two values that begin at one place both are numbers, or they are one.
use Rattle.std.proofs.Common.{◌≡◌, ℕ, ◌+◌, ◌≤◌, ◌<◌, Bool, true, false, ◌||◌, cond, eqb, List, [], ◌∷◌, ◌++◌, get_or, refl, sym, ap, ◌∙◌, suc, zero, subst, append_assoc, inl, inr, arith, ◌⊎◌, Some, None}
use Rattle.std.specs.Prelude.{slice_range, ◌==◌}
use Rattle.json_span.specs.Numbers.{between, IsUnsigned, IsNumber}
use Rattle.json_span.specs.Strings.{IsString}
use Rattle.json_span.specs.Json.{AreSpaces, IsScalar, Json, JsonObject}
use Rattle.json_span.specs.Machine.{Token, Word, Zero, Int, Chars, next, first, State, Value, First, Names, In, Bad, Step, Goes, Fails, begin, step, accepts, Going, Stopped, onward, run}
use Rattle.json_span.specs.Spans.{Stretch, IsFirst}
use Rattle.json_span.proofs.TextLaws.{spaced_now}
use Rattle.json_span.proofs.TokenForth.{forth_minus}
use Rattle.json_span.proofs.StepForth.{json_scalar, json_some}
use Rattle.json_span.proofs.RunLaws.{run_push}
use Rattle.json_span.proofs.Fronts.{top, value_run, bad_none, begins_value}
use Rattle.json_span.proofs.Stretches.{range_split, no_spaces}
use Rattle.json_span.proofs.Values.{range_head}
use Rattle.json_span.proofs.CalmLaws.{loose, to, calm_run, calm_stops}

-- the first byte tells numbers from other values
opens : ℕ → Bool
opens c = (c == 45) || ((c == 48) || between 49 57 c)

unsigned_opens : (c : ℕ) (x : List ℕ) → IsUnsigned (c ∷ x) → opens c ≡ true
unfolding opens next
unsigned_opens c x i = let u = forth_minus c x i in go (eqb c 45) (eqb c 48) (between 49 57 c) u.0 u.1
  where
    go : (p q r : Bool) (u : Token) → cond q (Some Zero) (cond r (Some Int) None) ≡ Some u → (p || (q || r)) ≡ true
    go true q r u e = refl
    go false true r u e = refl
    go false false true u e = refl
    go false false false u e = cc

number_opens : (c : ℕ) (x : List ℕ) → IsNumber (c ∷ x) → opens c ≡ true
unfolding opens
number_opens c x (inl i) = unsigned_opens c x i
number_opens c x (inr i) = let e = i.1 in let q : c ≡ 45 = cc in subst (λ z. opens z ≡ true) (sym q) refl

head : (c n : ℕ) (x y : List ℕ) → c ∷ x ≡ n ∷ y → c ≡ n
head c n x y e = cc

-- a value whose first byte is another is none
no_number : (c n : ℕ) → c ≡ n → opens n ≡ false → opens c ≡ true → ⊥
no_number c n e f o = let p : opens c ≡ false = subst (λ z. opens z ≡ false) (sym e) f in cc

scalar_number : (c : ℕ) (x : List ℕ) → IsScalar (c ∷ x) → opens c ≡ true → IsNumber (c ∷ x)
unfolding opens
scalar_number c x (inl i) o = absurd (no_number c 34 (head c 34 x i.0 i.2) refl o)
scalar_number c x (inr (inl i)) o = i
scalar_number c x (inr (inr (inl e))) o = absurd (no_number c 116 (head c 116 x (114 ∷ (117 ∷ (101 ∷ []))) e) refl o)
scalar_number c x (inr (inr (inr (inl e)))) o = absurd (no_number c 102 (head c 102 x (97 ∷ (108 ∷ (115 ∷ (101 ∷ [])))) e) refl o)
scalar_number c x (inr (inr (inr (inr e)))) o = absurd (no_number c 110 (head c 110 x (117 ∷ (108 ∷ (108 ∷ []))) e) refl o)

value_number : (d c : ℕ) (x : List ℕ) → Json d (c ∷ x) → opens c ≡ true → IsNumber (c ∷ x)
unfolding opens
value_number zero c x i o = scalar_number c x i o
value_number (suc d) c x (inl i) o = scalar_number c x i o
value_number (suc d) c x (inr (inl i)) o = absurd (no_number c 91 (head c 91 x i.0 i.1) refl o)
value_number (suc d) c x (inr (inr i)) o = absurd (no_number c 123 (head c 123 x i.0 i.1) refl o)

-- after the first byte of another value
calm_first : (d c n : ℕ) (t u : State) → c ≡ n → step (Value d []) n ≡ Goes u → loose u ≡ false → step (Value d []) c ≡ Goes t → loose t ≡ false
calm_first d c n t u q e h f = to u t h (sym e ∙ subst (λ z. step (Value d []) z ≡ Goes t) q f)

calm_scalar : (d c : ℕ) (x : List ℕ) (t : State) → IsScalar (c ∷ x) → step (Value d []) c ≡ Goes t → IsNumber (c ∷ x) ⊎ (loose t ≡ false)
unfolding step begin first
calm_scalar d c x t (inl i) f = inr (calm_first d c 34 t (In Chars d []) (head c 34 x i.0 i.2) refl refl f)
calm_scalar d c x t (inr (inl i)) f = inl i
calm_scalar d c x t (inr (inr (inl e))) f = inr (calm_first d c 116 t (In (Word 114 (117 ∷ (101 ∷ []))) d []) (head c 116 x (114 ∷ (117 ∷ (101 ∷ []))) e) refl refl f)
calm_scalar d c x t (inr (inr (inr (inl e)))) f = inr (calm_first d c 102 t (In (Word 97 (108 ∷ (115 ∷ (101 ∷ [])))) d []) (head c 102 x (97 ∷ (108 ∷ (115 ∷ (101 ∷ [])))) e) refl refl f)
calm_scalar d c x t (inr (inr (inr (inr e)))) f = inr (calm_first d c 110 t (In (Word 117 (108 ∷ (108 ∷ []))) d []) (head c 110 x (117 ∷ (108 ∷ (108 ∷ []))) e) refl refl f)

calm_value : (d c : ℕ) (x : List ℕ) (t : State) → Json d (c ∷ x) → step (Value d []) c ≡ Goes t → IsNumber (c ∷ x) ⊎ (loose t ≡ false)
unfolding step begin
calm_value zero c x t i f = calm_scalar zero c x t i f
calm_value (suc d) c x t (inl i) f = calm_scalar (suc d) c x t i f
calm_value (suc d) c x t (inr (inl i)) f = inr (calm_first (suc d) c 91 t (First d []) (head c 91 x i.0 i.1) refl refl f)
calm_value (suc d) c x t (inr (inr i)) f = inr (calm_first (suc d) c 123 t (Names d []) (head c 123 x i.0 i.1) refl refl f)

-- Only a number is the front of a longer value.
pub front_number : (d n : ℕ) (x z : List ℕ) (e : ℕ) → Json d x → Json n (x ++ e ∷ z) → IsNumber x
front_number d n [] z e i j = absurd (json_some d i)
front_number d n (c ∷ x) z e i j = let v = value_run d (c ∷ x) (spaced_now (Json d) (c ∷ x) i) in go (step (Value d []) c) refl v.0 v.1 v.2
  where
    go : (p : Step) → step (Value d []) c ≡ p → (t : State) → onward p (λ u. run u x) ≡ Going t → accepts t ≡ true → IsNumber (c ∷ x)
    go (Fails w) q t r a = cc
    go (Goes u) q t r a = elim (calm_value d c x u i q) [
      | inl k ↦ k
      | inr l ↦
          let b : step t e ≡ Fails Bad = calm_stops t e a (calm_run u t x l r) in
          let m : run (top d) (c ∷ x) ≡ Going t = ap (λ p. onward p (λ u. run u x)) q ∙ r in
          let s : run (top d) ((c ∷ x) ++ e ∷ []) ≡ Stopped Bad = run_push (top d) t (c ∷ x) e m ∙ ap (λ p. onward p (λ u. Going u)) b in
          absurd (bad_none d n ((c ∷ x) ++ e ∷ []) s (begins_value n ((c ∷ x) ++ e ∷ []) z (subst (Json n) (sym (append_assoc (c ∷ x) (e ∷ []) z)) j)))
    ]

more_number : (n : ℕ) (x z : List ℕ) (e : ℕ) → IsNumber x → Json n (x ++ e ∷ z) → IsNumber (x ++ e ∷ z)
more_number n [] z e i j = absurd (json_some 0 (inr (inl i)))
more_number n (c ∷ x) z e i j = value_number n c (x ++ e ∷ z) j (number_opens c x i)

-- one list goes on after another, or they are one
Compared : List ℕ → List ℕ → Type 0
Compared x y = (x ≡ y) ⊎ (((e : ℕ) × (z : List ℕ) × (y ≡ x ++ e ∷ z)) ⊎ ((e : ℕ) × (z : List ℕ) × (x ≡ y ++ e ∷ z)))

compare : (x y a b : List ℕ) → x ++ a ≡ y ++ b → Compared x y
unfolding Compared
compare [] [] a b q = inl refl
compare [] (c ∷ y) a b q = inr (inl (c, y, refl))
compare (c ∷ x) [] a b q = inr (inr (c, x, refl))
compare (c ∷ x) (d ∷ y) a b q = go (let e : c ≡ d = cc in e) (compare x y a b (let r : x ++ a ≡ y ++ b = cc in r))
  where
    go : c ≡ d → Compared x y → Compared (c ∷ x) (d ∷ y)
    go e (inl h) = inl cc
    go e (inr (inl h)) = inr (inl (h.0, h.1, let r = h.2 in cc))
    go e (inr (inr h)) = inr (inr (h.0, h.1, let r = h.2 in cc))

-- Two values that begin at one place are one, or both are numbers.
pub values_here : (d n : ℕ) (x y a b : List ℕ) → Json d x → Json n y → x ++ a ≡ y ++ b → (x ≡ y) ⊎ (IsNumber x × IsNumber y)
unfolding Compared
values_here d n x y a b i j q = go (compare x y a b q)
  where
    go : Compared x y → (x ≡ y) ⊎ (IsNumber x × IsNumber y)
    go (inl e) = inl e
    go (inr (inl h)) =
        let k : Json n (x ++ h.0 ∷ h.1) = subst (Json n) h.2 j in
        let f : IsNumber x = front_number d n x h.1 h.0 i k in
        inr (f, subst IsNumber (sym h.2) (more_number n x h.1 h.0 f k))
    go (inr (inr h)) =
        let k : Json d (y ++ h.0 ∷ h.1) = subst (Json d) h.2 i in
        let f : IsNumber y = front_number n d y h.1 h.0 j k in
        inr (subst IsNumber (sym h.2) (more_number d y h.1 h.0 f k), f)

-- So what is no number and stands at a place is the first value there.
pub first_there : (levels : ℕ) (bytes : List ℕ) (at start end : ℕ) → Stretch AreSpaces bytes at start → Stretch (Json levels) bytes start end → (IsNumber (slice_range bytes start end) → ⊥) → IsFirst levels bytes at (record { start = start; end = end })
first_there levels bytes at start end w v f = record { space = w; value = v; longest = longest }
  where
    longest : (d e : ℕ) → Stretch (Json d) bytes start e → e ≤ end
    longest d e s =
        let no : end < e → ⊥ = λ h.
        let p : slice_range bytes start e ≡ slice_range bytes start end ++ slice_range bytes end e = range_split bytes start end e v.order (omega (arith, h)) in
        let q : slice_range bytes end e ≡ get_or bytes end 0 ∷ slice_range bytes (end + 1) e = range_head bytes end e h s.bound in
        f (front_number levels d (slice_range bytes start end) (slice_range bytes (end + 1) e) (get_or bytes end 0) v.text (subst (Json d) (p ∙ ap (λ z. slice_range bytes start end ++ z) q) s.text)) in
        omega (arith, no)

-- and an object is
pub object_there : (bytes : List ℕ) (at start end : ℕ) → Stretch AreSpaces bytes at start → Stretch (JsonObject 127) bytes start end → IsFirst 127 bytes at (record { start = start; end = end })
unfolding opens
object_there bytes at start end w v =
    first_there 127 bytes at start end w (record { order = v.order; bound = v.bound; text = inr (inr v.text) }) (λ n.
    let e : slice_range bytes start end ≡ 123 ∷ v.text.0 = v.text.1 in
    let k : opens 123 ≡ true = number_opens 123 v.text.0 (subst IsNumber e n) in
    cc)

-- what begins with a quotation mark is no number
pub no_quote : (x : List ℕ) → IsNumber (34 ∷ x) → ⊥
unfolding opens
no_quote x n = let k : opens 34 ≡ true = number_opens 34 x n in cc

-- and a string is
pub string_there : (levels : ℕ) (bytes : List ℕ) (start end : ℕ) → Stretch IsString bytes start end → IsFirst levels bytes start (record { start = start; end = end })
string_there levels bytes start end s =
    first_there levels bytes start start end (no_spaces bytes start (omega (arith, s.order, s.bound))) (record { order = s.order; bound = s.bound; text = json_scalar levels (slice_range bytes start end) (inl s.text) }) (λ n.
    let e : slice_range bytes start end ≡ 34 ∷ s.text.0 = s.text.2 in
    no_quote s.text.0 (subst IsNumber e n))
