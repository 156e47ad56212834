-- Once within another value than a number the machine is never in a number with no bracket open.
use Rattle.std.proofs.Common.{◌≡◌, ℕ, Bool, true, false, cond, eqb, List, [], ◌∷◌, refl, suc, zero, subst, Option, Some, None}
use Rattle.json_span.specs.Strings.{Any, within, Lead, lead, is_plain, is_escape, is_hex}
use Rattle.json_span.specs.Json.{is_space}
use Rattle.json_span.specs.Machine.{Bracket, Array, Object, Token, Closed, Word, Minus, Zero, Int, Dot, Frac, E, Sign, Exp, Chars, Escape, Hex, Tail, done, wide_token, next, first, State, Value, First, Names, Name, InName, In, Bad, Step, Goes, Fails, or_else, begin_array, begin_object, begin, after_value, step, accepts, Going, onward, run}
use Rattle.json_span.proofs.TailLaws.{pick, none}

abbrev pub numeric : Token → Bool
numeric Minus = true
numeric Zero = true
numeric Int = true
numeric Dot = true
numeric Frac = true
numeric E = true
numeric Sign = true
numeric Exp = true
numeric t = false

-- within a number, or where one may begin, with no bracket open
abbrev pub loose : State → Bool
loose (Value d []) = true
loose (In t d []) = numeric t
loose s = false

abbrev Calm : Token → Type 0
Calm t = numeric t ≡ false

calm_next : (t u : Token) (c : ℕ) → numeric t ≡ false → next t c ≡ Some u → numeric u ≡ false
unfolding next
calm_next Closed u c w n = cc
calm_next (Word a []) u c w n = pick Calm (eqb c a) Closed None refl (none Calm) u n
calm_next (Word a (b ∷ y)) u c w n = pick Calm (eqb c a) (Word b y) None refl (none Calm) u n
calm_next Minus u c w n = cc
calm_next Zero u c w n = cc
calm_next Int u c w n = cc
calm_next Dot u c w n = cc
calm_next Frac u c w n = cc
calm_next E u c w n = cc
calm_next Sign u c w n = cc
calm_next Exp u c w n = cc
calm_next Chars u c w n = pick Calm (eqb c 34) Closed (cond (eqb c 92) (Some Escape) (cond (is_plain c) (Some Chars) (wide_token (lead c)))) refl (pick Calm (eqb c 92) Escape (cond (is_plain c) (Some Chars) (wide_token (lead c))) refl (pick Calm (is_plain c) Chars (wide_token (lead c)) refl (wide (lead c)))) u n
  where
    wide : (o : Option Lead) (v : Token) → wide_token o ≡ Some v → Calm v
    wide None v e = cc
    wide (Some l) v e = let q : Tail l.bounds l.more ≡ v = cc in subst Calm q refl
calm_next Escape u c w n = pick Calm (eqb c 117) (Hex 3) (cond (is_escape c) (Some Chars) None) refl (pick Calm (is_escape c) Chars None refl (none Calm)) u n
calm_next (Hex zero) u c w n = pick Calm (is_hex c) Chars None refl (none Calm) u n
calm_next (Hex (suc k)) u c w n = pick Calm (is_hex c) (Hex k) None refl (none Calm) u n
calm_next (Tail x zero) u c w n = pick Calm (within x c) Chars None refl (none Calm) u n
calm_next (Tail x (suc k)) u c w n = pick Calm (within x c) (Tail Any k) None refl (none Calm) u n

pub to : (u t : State) → loose u ≡ false → Goes u ≡ Goes t → loose t ≡ false
to u t h e = let q : u ≡ t = cc in subst (λ z. loose z ≡ false) q h

calm_closed : (d : ℕ) (st : List Bracket) → loose (In Closed d st) ≡ false
calm_closed d [] = refl
calm_closed d (b ∷ st) = refl

calm_begin : (t : State) (d : ℕ) (b : Bracket) (st : List Bracket) (c : ℕ) → begin d (b ∷ st) c ≡ Goes t → loose t ≡ false
unfolding begin
calm_begin t d b st c e = go (eqb c 91) (eqb c 123) (first c) e
  where
    array : (d : ℕ) → begin_array d (b ∷ st) ≡ Goes t → loose t ≡ false
    array zero e = cc
    array (suc d) e = to (First d (b ∷ st)) t refl e

    object : (d : ℕ) → begin_object d (b ∷ st) ≡ Goes t → loose t ≡ false
    object zero e = cc
    object (suc d) e = to (Names d (b ∷ st)) t refl e

    go : (p q : Bool) (o : Option Token) → cond p (begin_array d (b ∷ st)) (cond q (begin_object d (b ∷ st)) (or_else o (λ t. In t d (b ∷ st)) (Fails Bad))) ≡ Goes t → loose t ≡ false
    go true q o e = array d e
    go false true o e = object d e
    go false false (Some u) e = to (In u d (b ∷ st)) t refl e
    go false false None e = cc

calm_after_value : (t : State) (st : List Bracket) (d c : ℕ) → after_value st d c ≡ Goes t → loose t ≡ false
unfolding after_value
calm_after_value t [] d c e = cc
calm_after_value t (Array ∷ st) d c e = go (is_space c) (eqb c 44) (eqb c 93) e
  where
    go : (p q r : Bool) → cond p (Goes (In Closed d (Array ∷ st))) (cond q (Goes (Value d (Array ∷ st))) (cond r (Goes (In Closed (suc d) st)) (Fails Bad))) ≡ Goes t → loose t ≡ false
    go true q r e = to (In Closed d (Array ∷ st)) t refl e
    go false true r e = to (Value d (Array ∷ st)) t refl e
    go false false true e = to (In Closed (suc d) st) t (calm_closed (suc d) st) e
    go false false false e = cc
calm_after_value t (Object ∷ st) d c e = go (is_space c) (eqb c 44) (eqb c 125) e
  where
    go : (p q r : Bool) → cond p (Goes (In Closed d (Object ∷ st))) (cond q (Goes (Name d st)) (cond r (Goes (In Closed (suc d) st)) (Fails Bad))) ≡ Goes t → loose t ≡ false
    go true q r e = to (In Closed d (Object ∷ st)) t refl e
    go false true r e = to (Name d st) t refl e
    go false false true e = to (In Closed (suc d) st) t (calm_closed (suc d) st) e
    go false false false e = cc

calm_step : (s t : State) (c : ℕ) → loose s ≡ false → step s c ≡ Goes t → loose t ≡ false
unfolding step
calm_step (Value d []) t c h e = cc
calm_step (Value d (b ∷ st)) t c h e = go (is_space c) e
  where
    go : (p : Bool) → cond p (Goes (Value d (b ∷ st))) (begin d (b ∷ st) c) ≡ Goes t → loose t ≡ false
    go true e = to (Value d (b ∷ st)) t refl e
    go false e = calm_begin t d b st c e
calm_step (First d st) t c h e = go (is_space c) (eqb c 93) e
  where
    go : (p q : Bool) → cond p (Goes (First d st)) (cond q (Goes (In Closed (suc d) st)) (begin d (Array ∷ st) c)) ≡ Goes t → loose t ≡ false
    go true q e = to (First d st) t refl e
    go false true e = to (In Closed (suc d) st) t (calm_closed (suc d) st) e
    go false false e = calm_begin t d Array st c e
calm_step (Names d st) t c h e = go (is_space c) (eqb c 125) (eqb c 34) e
  where
    go : (p q r : Bool) → cond p (Goes (Names d st)) (cond q (Goes (In Closed (suc d) st)) (cond r (Goes (InName Chars d st)) (Fails Bad))) ≡ Goes t → loose t ≡ false
    go true q r e = to (Names d st) t refl e
    go false true r e = to (In Closed (suc d) st) t (calm_closed (suc d) st) e
    go false false true e = to (InName Chars d st) t refl e
    go false false false e = cc
calm_step (Name d st) t c h e = go (is_space c) (eqb c 34) e
  where
    go : (p r : Bool) → cond p (Goes (Name d st)) (cond r (Goes (InName Chars d st)) (Fails Bad)) ≡ Goes t → loose t ≡ false
    go true r e = to (Name d st) t refl e
    go false true e = to (InName Chars d st) t refl e
    go false false e = cc
calm_step (InName k d st) t c h e = go (next k c) (done k) (is_space c) (eqb c 58) e
  where
    go : (o : Option Token) (i p q : Bool) → or_else o (λ u. InName u d st) (cond i (cond p (Goes (InName Closed d st)) (cond q (Goes (Value d (Object ∷ st))) (Fails Bad))) (Fails Bad)) ≡ Goes t → loose t ≡ false
    go (Some u) i p q e = to (InName u d st) t refl e
    go None true true q e = to (InName Closed d st) t refl e
    go None true false true e = to (Value d (Object ∷ st)) t refl e
    go None true false false e = cc
    go None false p q e = cc
calm_step (In k d []) t c h e = go (next k c) refl (done k) e
  where
    go : (o : Option Token) → next k c ≡ o → (i : Bool) → or_else o (λ u. In u d []) (cond i (after_value [] d c) (Fails Bad)) ≡ Goes t → loose t ≡ false
    go (Some u) q i e = to (In u d []) t (calm_next k u c h q) e
    go None q true e = calm_after_value t [] d c e
    go None q false e = cc
calm_step (In k d (b ∷ st)) t c h e = go (next k c) (done k) e
  where
    go : (o : Option Token) (i : Bool) → or_else o (λ u. In u d (b ∷ st)) (cond i (after_value (b ∷ st) d c) (Fails Bad)) ≡ Goes t → loose t ≡ false
    go (Some u) i e = to (In u d (b ∷ st)) t refl e
    go None true e = calm_after_value t (b ∷ st) d c e
    go None false e = cc

pub calm_run : (s t : State) (x : List ℕ) → loose s ≡ false → run s x ≡ Going t → loose t ≡ false
calm_run s t [] h e = let q : s ≡ t = cc in subst (λ z. loose z ≡ false) q h
calm_run s t (c ∷ x) h e = go (step s c) refl (λ u. calm_run u t x) e
  where
    go : (p : Step) → step s c ≡ p → ((u : State) → loose u ≡ false → run u x ≡ Going t → loose t ≡ false) → onward p (λ u. run u x) ≡ Going t → loose t ≡ false
    go (Goes u) q k f = k u (calm_step s u c h q) f
    go (Fails w) q k f = cc

-- nothing goes on after a value that is no number
pub calm_stops : (t : State) (c : ℕ) → accepts t ≡ true → loose t ≡ false → step t c ≡ Fails Bad
unfolding step after_value next
calm_stops (In Closed d []) c a l = refl
calm_stops (In Zero d []) c a l = cc
calm_stops (In Int d []) c a l = cc
calm_stops (In Frac d []) c a l = cc
calm_stops (In Exp d []) c a l = cc
calm_stops (In t d []) c a l = cc
calm_stops (In t d (b ∷ st)) c a l = cc
calm_stops (Value d st) c a l = cc
calm_stops (First d st) c a l = cc
calm_stops (Names d st) c a l = cc
calm_stops (Name d st) c a l = cc
calm_stops (InName t d st) c a l = cc
