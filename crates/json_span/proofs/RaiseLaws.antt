-- With more levels the machine does the same, but where it is too deep.
use Rattle.std.proofs.Common.{◌≡◌, ℕ, ◌+◌, Bool, true, false, cond, eqb, List, [], ◌∷◌, refl, sym, ap, suc, zero, arith, Option, Some, None}
use Rattle.json_span.specs.Json.{is_space}
use Rattle.json_span.specs.Machine.{Array, Bad, Bracket, Chars, Closed, Deep, Fails, First, Goes, Going, In, InName, Name, Names, Object, State, Step, Stopped, Token, Value, accepts, begin, begin_array, begin_object, after_value, done, first, next, onward, or_else, run, step}

-- With more levels the machine does the same, but where it would be too deep.

unfoldable pub raise : ℕ → State → State
raise k (Value d st) = Value (d + k) st
raise k (First d st) = First (d + k) st
raise k (Names d st) = Names (d + k) st
raise k (Name d st) = Name (d + k) st
raise k (InName t d st) = InName t (d + k) st
raise k (In t d st) = In t (d + k) st

abbrev pub Raised : ℕ → Step → Step → Type 0
Raised k (Goes t) o = o ≡ Goes (raise k t)
Raised k (Fails Bad) o = o ≡ Fails Bad
Raised k (Fails Deep) o = (k ≡ 0 → ⊥) → (u : State) × (o ≡ Goes u)

plus_suc : (d k : ℕ) → suc d + k ≡ suc (d + k)
plus_suc d k = omega arith

array_deep : (n : ℕ) (st : List Bracket) → (n ≡ 0 → ⊥) → (u : State) × (begin_array n st ≡ Goes u)
array_deep zero st h = absurd (h refl)
array_deep (suc n) st h = (First n st, refl)

object_deep : (n : ℕ) (st : List Bracket) → (n ≡ 0 → ⊥) → (u : State) × (begin_object n st ≡ Goes u)
object_deep zero st h = absurd (h refl)
object_deep (suc n) st h = (Names n st, refl)

raise_array : (k d : ℕ) (st : List Bracket) → Raised k (begin_array d st) (begin_array (d + k) st)
unfolding raise
raise_array k zero st = λ n. array_deep (0 + k) st (λ q. n (omega arith))
raise_array k (suc d) st = ap (λ n. begin_array n st) (plus_suc d k)

raise_object : (k d : ℕ) (st : List Bracket) → Raised k (begin_object d st) (begin_object (d + k) st)
unfolding raise
raise_object k zero st = λ n. object_deep (0 + k) st (λ q. n (omega arith))
raise_object k (suc d) st = ap (λ n. begin_object n st) (plus_suc d k)

raise_begin : (k d : ℕ) (st : List Bracket) (c : ℕ) → Raised k (begin d st c) (begin (d + k) st c)
unfolding raise begin
raise_begin k d st c = go (eqb c 91) (eqb c 123) (first c)
  where
    go : (p q : Bool) (o : Option Token) → Raised k (cond p (begin_array d st) (cond q (begin_object d st) (or_else o (λ t. In t d st) (Fails Bad)))) (cond p (begin_array (d + k) st) (cond q (begin_object (d + k) st) (or_else o (λ t. In t (d + k) st) (Fails Bad))))
    go true q o = raise_array k d st
    go false true o = raise_object k d st
    go false false (Some t) = refl
    go false false None = refl

raise_after_value : (k : ℕ) (st : List Bracket) (d c : ℕ) → Raised k (after_value st d c) (after_value st (d + k) c)
unfolding raise after_value
raise_after_value k [] d c = refl
raise_after_value k (Array ∷ st) d c = go (is_space c) (eqb c 44) (eqb c 93)
  where
    go : (p q r : Bool) → Raised k (cond p (Goes (In Closed d (Array ∷ st))) (cond q (Goes (Value d (Array ∷ st))) (cond r (Goes (In Closed (suc d) st)) (Fails Bad)))) (cond p (Goes (In Closed (d + k) (Array ∷ st))) (cond q (Goes (Value (d + k) (Array ∷ st))) (cond r (Goes (In Closed (suc (d + k)) st)) (Fails Bad))))
    go true q r = refl
    go false true r = refl
    go false false true = ap (λ n. Goes (In Closed n st)) (sym (plus_suc d k))
    go false false false = refl
raise_after_value k (Object ∷ st) d c = go (is_space c) (eqb c 44) (eqb c 125)
  where
    go : (p q r : Bool) → Raised k (cond p (Goes (In Closed d (Object ∷ st))) (cond q (Goes (Name d st)) (cond r (Goes (In Closed (suc d) st)) (Fails Bad)))) (cond p (Goes (In Closed (d + k) (Object ∷ st))) (cond q (Goes (Name (d + k) st)) (cond r (Goes (In Closed (suc (d + k)) st)) (Fails Bad))))
    go true q r = refl
    go false true r = refl
    go false false true = ap (λ n. Goes (In Closed n st)) (sym (plus_suc d k))
    go false false false = refl

pub raise_step : (k : ℕ) (s : State) (c : ℕ) → Raised k (step s c) (step (raise k s) c)
unfolding raise step
raise_step k (Value d st) c = go (is_space c)
  where
    go : (p : Bool) → Raised k (cond p (Goes (Value d st)) (begin d st c)) (cond p (Goes (Value (d + k) st)) (begin (d + k) st c))
    go true = refl
    go false = raise_begin k d st c
raise_step k (First d st) c = go (is_space c) (eqb c 93)
  where
    go : (p q : Bool) → Raised k (cond p (Goes (First d st)) (cond q (Goes (In Closed (suc d) st)) (begin d (Array ∷ st) c))) (cond p (Goes (First (d + k) st)) (cond q (Goes (In Closed (suc (d + k)) st)) (begin (d + k) (Array ∷ st) c)))
    go true q = refl
    go false true = ap (λ n. Goes (In Closed n st)) (sym (plus_suc d k))
    go false false = raise_begin k d (Array ∷ st) c
raise_step k (Names d st) c = go (is_space c) (eqb c 125) (eqb c 34)
  where
    go : (p q r : Bool) → Raised k (cond p (Goes (Names d st)) (cond q (Goes (In Closed (suc d) st)) (cond r (Goes (InName Chars d st)) (Fails Bad)))) (cond p (Goes (Names (d + k) st)) (cond q (Goes (In Closed (suc (d + k)) st)) (cond r (Goes (InName Chars (d + k) st)) (Fails Bad))))
    go true q r = refl
    go false true r = ap (λ n. Goes (In Closed n st)) (sym (plus_suc d k))
    go false false true = refl
    go false false false = refl
raise_step k (Name d st) c = go (is_space c) (eqb c 34)
  where
    go : (p r : Bool) → Raised k (cond p (Goes (Name d st)) (cond r (Goes (InName Chars d st)) (Fails Bad))) (cond p (Goes (Name (d + k) st)) (cond r (Goes (InName Chars (d + k) st)) (Fails Bad)))
    go true r = refl
    go false true = refl
    go false false = refl
raise_step k (InName t d st) c = go (next t c) (done t) (is_space c) (eqb c 58)
  where
    go : (o : Option Token) (p q r : Bool) → Raised k (or_else o (λ u. InName u d st) (cond p (cond q (Goes (InName Closed d st)) (cond r (Goes (Value d (Object ∷ st))) (Fails Bad))) (Fails Bad))) (or_else o (λ u. InName u (d + k) st) (cond p (cond q (Goes (InName Closed (d + k) st)) (cond r (Goes (Value (d + k) (Object ∷ st))) (Fails Bad))) (Fails Bad)))
    go (Some u) p q r = refl
    go None true true r = refl
    go None true false true = refl
    go None true false false = refl
    go None false q r = refl
raise_step k (In t d st) c = go (next t c) (done t)
  where
    go : (o : Option Token) (p : Bool) → Raised k (or_else o (λ u. In u d st) (cond p (after_value st d c) (Fails Bad))) (or_else o (λ u. In u (d + k) st) (cond p (after_value st (d + k) c) (Fails Bad)))
    go (Some u) p = refl
    go None true = raise_after_value k st d c
    go None false = refl

pub raise_accepts : (k : ℕ) (s : State) → accepts (raise k s) ≡ accepts s
unfolding raise
raise_accepts k (In t d []) = refl
raise_accepts k (In t d (b ∷ st)) = refl
raise_accepts k (Value d st) = refl
raise_accepts k (First d st) = refl
raise_accepts k (Names d st) = refl
raise_accepts k (Name d st) = refl
raise_accepts k (InName t d st) = refl

pub raise_going : (k : ℕ) (s t : State) (x : List ℕ) → run s x ≡ Going t → run (raise k s) x ≡ Going (raise k t)
raise_going k s t [] e = let q : s ≡ t = cc in ap (λ z. Going (raise k z)) q
raise_going k s t (c ∷ x) e = go (step s c) (step (raise k s) c) (λ u. raise_going k u t x) (raise_step k s c) e
  where
    go : (p o : Step) → ((u : State) → run u x ≡ Going t → run (raise k u) x ≡ Going (raise k t)) → Raised k p o → onward p (λ u. run u x) ≡ Going t → onward o (λ u. run u x) ≡ Going (raise k t)
    go (Goes u) o h r e = rw r (h u e)
    go (Fails w) o h r e = cc

pub raise_bad : (k : ℕ) (s : State) (x : List ℕ) → run s x ≡ Stopped Bad → run (raise k s) x ≡ Stopped Bad
raise_bad k s [] e = cc
raise_bad k s (c ∷ x) e = go (step s c) (step (raise k s) c) (λ u. raise_bad k u x) (raise_step k s c) e
  where
    go : (p o : Step) → ((u : State) → run u x ≡ Stopped Bad → run (raise k u) x ≡ Stopped Bad) → Raised k p o → onward p (λ u. run u x) ≡ Stopped Bad → onward o (λ u. run u x) ≡ Stopped Bad
    go (Goes u) o h r e = rw r (h u e)
    go (Fails Bad) o h r e = rw r refl
    go (Fails Deep) o h r e = let q : Deep ≡ Bad = cc in cc
