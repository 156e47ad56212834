-- Runs of the machine, and where a value may end.
use Rattle.std.proofs.Common.{◌≡◌, ℕ, true, List, [], ◌∷◌, ◌++◌, refl, sym, ap, ◌∙◌, suc, zero, subst, inl, inr, ◌⊎◌}
use Rattle.json_span.specs.Strings.{Any, AreHex, AreTail, Bounds, From90, FromA0, To8F, To9F}
use Rattle.json_span.specs.Json.{Byte, IsMember, IsScalar, Json, Spaced, Then}
use Rattle.json_span.specs.Machine.{After, Array, Bracket, Chars, Closed, ClosesThen, Completes, Dot, E, Ends, Escape, Exp, Fails, First, Frac, Goes, Going, Hex, In, InName, InString, Int, ItemsThen, Minus, Name, Names, Object, Rest, Sign, State, Step, Tail, Token, Value, Word, Zero, accepts, done, onward, run, step}
use Rattle.json_span.proofs.TextLaws.{spaced_nil, spaced_now}
use Rattle.json_span.proofs.TokenLaws.{token_ended, token_ends}
use Rattle.json_span.proofs.StepForth.{forth, json_scalar, json_some}
use Rattle.json_span.proofs.StepBack.{back}

-- Runs of the machine.

-- every token can be completed
rest_live : (st : List Bracket) (d : ℕ) → (x : List ℕ) × Rest st d x
rest_live [] d = ([], refl)
rest_live (Array ∷ st) d = let r = rest_live st (suc d) in (93 ∷ r.0, (zero, spaced_now (Byte 93 (Rest st (suc d))) (93 ∷ r.0) (r.0, refl, r.1)))
rest_live (Object ∷ st) d = let r = rest_live st (suc d) in (125 ∷ r.0, (zero, spaced_now (Byte 125 (Rest st (suc d))) (125 ∷ r.0) (r.0, refl, r.1)))

zero_scalar : IsScalar (48 ∷ [])
zero_scalar = inr (inl (inl (record { int = 48 ∷ []; frac = []; exp = []; text = refl; int_is = inl refl; frac_is = inl refl; exp_is = inl refl })))

in_string : InString (34 ∷ [])
in_string = ([], refl)

hex_live : (n : ℕ) → (x : List ℕ) × AreHex n x
hex_live zero = ([], refl)
hex_live (suc n) = let r = hex_live n in (48 ∷ r.0, (48, r.0, refl, refl, r.1))

pub tail_live : (w : Bounds) (n : ℕ) → (x : List ℕ) × AreTail w n x
tail_live Any zero = (128 ∷ [], (128, refl, refl))
tail_live FromA0 zero = (160 ∷ [], (160, refl, refl))
tail_live To9F zero = (128 ∷ [], (128, refl, refl))
tail_live From90 zero = (144 ∷ [], (144, refl, refl))
tail_live To8F zero = (128 ∷ [], (128, refl, refl))
tail_live Any (suc n) = let r = tail_live Any n in (128 ∷ r.0, (128, r.0, refl, refl, r.1))
tail_live FromA0 (suc n) = let r = tail_live Any n in (160 ∷ r.0, (160, r.0, refl, refl, r.1))
tail_live To9F (suc n) = let r = tail_live Any n in (128 ∷ r.0, (128, r.0, refl, refl, r.1))
tail_live From90 (suc n) = let r = tail_live Any n in (144 ∷ r.0, (144, r.0, refl, refl, r.1))
tail_live To8F (suc n) = let r = tail_live Any n in (128 ∷ r.0, (128, r.0, refl, refl, r.1))

token_live : (t : Token) → (x : List ℕ) × Ends t x
token_live Closed = ([], refl)
token_live (Word a y) = (a ∷ y, refl)
token_live Minus = (48 ∷ [], record { int = 48 ∷ []; frac = []; exp = []; text = refl; int_is = inl refl; frac_is = inl refl; exp_is = inl refl })
token_live Zero = ([], ([], [], inl refl, refl, inl refl))
token_live Int = ([], ([], [], tt, refl, ([], [], inl refl, refl, inl refl)))
token_live Dot = (48 ∷ [], (48 ∷ [], [], (48, [], refl, refl, tt), refl, inl refl))
token_live Frac = ([], ([], [], tt, refl, inl refl))
token_live E = (48 ∷ [], ([], 48 ∷ [], inl refl, refl, (48, [], refl, refl, tt)))
token_live Sign = (48 ∷ [], (48, [], refl, refl, tt))
token_live Exp = ([], tt)
token_live Chars = (34 ∷ [], in_string)
token_live Escape = (110 ∷ (34 ∷ []), inl (110, refl, (34 ∷ [], refl, in_string)))
token_live (Hex n) = let r = hex_live (suc n) in (r.0 ++ 34 ∷ [], (r.0, 34 ∷ [], r.1, refl, in_string))
token_live (Tail w n) = let r = tail_live w n in (r.0 ++ 34 ∷ [], (r.0, 34 ∷ [], r.1, refl, in_string))

value_live : (d : ℕ) (st : List Bracket) → (x : List ℕ) × Spaced (Then (Json d) (Rest st d)) x
value_live d st = let r = rest_live st d in (48 ∷ r.0, spaced_now (Then (Json d) (Rest st d)) (48 ∷ r.0) (48 ∷ [], r.0, json_scalar d (48 ∷ []) zero_scalar, refl, r.1))

member_live : (d : ℕ) → IsMember (Json d) (34 ∷ (34 ∷ (58 ∷ (48 ∷ []))))
member_live d = (34 ∷ (34 ∷ []), 58 ∷ (48 ∷ []), (34 ∷ [], [], refl, refl), refl, spaced_now (Byte 58 (Spaced (Json d))) (58 ∷ (48 ∷ [])) (48 ∷ [], refl, spaced_now (Json d) (48 ∷ []) (json_scalar d (48 ∷ []) zero_scalar)))

pub live : (s : State) → (x : List ℕ) × Completes s x
live (Value d st) = value_live d st
live (First d st) = let r = rest_live st (suc d) in (93 ∷ r.0, ([], 93 ∷ r.0, tt, refl, inl (r.0, refl, r.1)))
live (Names d st) = let r = rest_live st (suc d) in (125 ∷ r.0, ([], 125 ∷ r.0, tt, refl, inl (r.0, refl, r.1)))
live (Name d st) = let r = rest_live (Object ∷ st) d in ((34 ∷ (34 ∷ (58 ∷ (48 ∷ [])))) ++ r.0, ([], (34 ∷ (34 ∷ (58 ∷ (48 ∷ [])))) ++ r.0, tt, refl, (34 ∷ (34 ∷ (58 ∷ (48 ∷ []))), r.0, member_live d, refl, r.1)))
live (InName t d st) =
    let k = token_live t in
    let v = value_live d (Object ∷ st) in
    (k.0 ++ 58 ∷ v.0, (k.0, 58 ∷ v.0, k.1, refl, ([], 58 ∷ v.0, tt, refl, (v.0, refl, v.1))))
live (In t d st) = let k = token_live t in let r = rest_live st d in (k.0 ++ r.0, (k.0, r.0, k.1, refl, r.1))

-- what completes a state, in two parts
pub runs : (s : State) (x y : List ℕ) → Completes s (x ++ y) → (t : State) × (run s x ≡ Going t) × Completes t y
runs s [] y h = (s, refl, h)
runs s (c ∷ x) y h = go (step s c) (λ t. runs t x y) (forth s c (x ++ y) h)
  where
    go : (p : Step) → ((t : State) → Completes t (x ++ y) → (u : State) × (run t x ≡ Going u) × Completes u y) → After p (x ++ y) → (t : State) × (onward p (λ u. run u x) ≡ Going t) × Completes t y
    go (Goes t) k a = k t a
    go (Fails w) k a = absurd a

pub ran : (s t : State) (x y : List ℕ) → run s x ≡ Going t → Completes t y → Completes s (x ++ y)
ran s t [] y e h = let q : s ≡ t = cc in subst (λ z. Completes z y) (sym q) h
ran s t (c ∷ x) y e h = back s c (x ++ y) (go (step s c) (λ u r. ran u t x y r h) e)
  where
    go : (p : Step) → ((u : State) → run u x ≡ Going t → Completes u (x ++ y)) → onward p (λ u. run u x) ≡ Going t → After p (x ++ y)
    go (Goes u) k q = k u q
    go (Fails w) k q = cc

-- one byte more
pub run_push : (s t : State) (x : List ℕ) (c : ℕ) → run s x ≡ Going t → run s (x ++ c ∷ []) ≡ onward (step t c) (λ u. Going u)
run_push s t [] c e = let q : s ≡ t = cc in ap (λ z. onward (step z c) (λ u. Going u)) q
run_push s t (d ∷ x) c e = go (step s d) (λ u. run_push u t x c) e
  where
    go : (p : Step) → ((u : State) → run u x ≡ Going t → run u (x ++ c ∷ []) ≡ onward (step t c) (λ u. Going u)) → onward p (λ u. run u x) ≡ Going t → onward p (λ u. run u (x ++ c ∷ [])) ≡ onward (step t c) (λ u. Going u)
    go (Goes u) k q = k u q
    go (Fails w) k q = cc

-- where a value may end
pub accepted : (s : State) → Completes s [] → accepts s ≡ true
accepted (Value d st) h = let k = spaced_nil (Then (Json d) (Rest st d)) h in absurd (go k.0 k.1 k.2 k.3)
  where
    go : (x : List ℕ) (y : List ℕ) → Json d x → [] ≡ x ++ y → ⊥
    go [] y i e = json_some d i
    go (z ∷ x) y i e = cc
accepted (First d st) h = absurd (go (spaced_nil (λ y. Byte 93 (Rest st (suc d)) y ⊎ Then (Json d) (Rest (Array ∷ st) d) y) h))
  where
    some : (x : List ℕ) (y : List ℕ) → Json d x → [] ≡ x ++ y → ⊥
    some [] y i e = json_some d i
    some (z ∷ x) y i e = cc

    go : Byte 93 (Rest st (suc d)) [] ⊎ Then (Json d) (Rest (Array ∷ st) d) [] → ⊥
    go (inl p) = let e = p.1 in cc
    go (inr p) = some p.0 p.1 p.2 p.3
accepted (Names d st) h = absurd (go (spaced_nil (λ y. Byte 125 (Rest st (suc d)) y ⊎ Then (IsMember (Json d)) (Rest (Object ∷ st) d) y) h))
  where
    some : (x : List ℕ) (y : List ℕ) → IsMember (Json d) x → [] ≡ x ++ y → ⊥
    some x y i e = let s = i.2 in let q : x ≡ (34 ∷ s.0) ++ i.1 = i.3 ∙ ap (λ z. z ++ i.1) s.2 in no x q e
      where
        no : (x : List ℕ) → x ≡ 34 ∷ (i.2.0 ++ i.1) → [] ≡ x ++ y → ⊥
        no [] q e = cc
        no (z ∷ x) q e = cc

    go : Byte 125 (Rest st (suc d)) [] ⊎ Then (IsMember (Json d)) (Rest (Object ∷ st) d) [] → ⊥
    go (inl p) = let e = p.1 in cc
    go (inr p) = some p.0 p.1 p.2 p.3
accepted (Name d st) h = absurd (go (spaced_nil (Then (IsMember (Json d)) (Rest (Object ∷ st) d)) h))
  where
    some : (x : List ℕ) (y : List ℕ) → IsMember (Json d) x → [] ≡ x ++ y → ⊥
    some x y i e = let s = i.2 in let q : x ≡ (34 ∷ s.0) ++ i.1 = i.3 ∙ ap (λ z. z ++ i.1) s.2 in no x q e
      where
        no : (x : List ℕ) → x ≡ 34 ∷ (i.2.0 ++ i.1) → [] ≡ x ++ y → ⊥
        no [] q e = cc
        no (z ∷ x) q e = cc

    go : Then (IsMember (Json d)) (Rest (Object ∷ st) d) [] → ⊥
    go p = some p.0 p.1 p.2 p.3
accepted (InName t d st) h = absurd (go h.0 h.1 h.3 h.4)
  where
    go : (x : List ℕ) (y : List ℕ) → [] ≡ x ++ y → Spaced (Byte 58 (Spaced (Then (Json d) (Rest (Object ∷ st) d)))) y → ⊥
    go [] y e k = let b = spaced_nil (Byte 58 (Spaced (Then (Json d) (Rest (Object ∷ st) d)))) (subst (Spaced (Byte 58 (Spaced (Then (Json d) (Rest (Object ∷ st) d))))) (sym e) k) in let q = b.1 in cc
    go (z ∷ x) y e k = cc
accepted (In t d []) h = go h.0 h.1 h.2 h.3
  where
    go : (x : List ℕ) (y : List ℕ) → Ends t x → [] ≡ x ++ y → done t ≡ true
    go [] y i e = token_ended t i
    go (z ∷ x) y i e = cc
accepted (In t d (k ∷ st)) h = absurd (go h.0 h.1 h.3 h.4)
  where
    go : (x : List ℕ) (y : List ℕ) → [] ≡ x ++ y → Rest (k ∷ st) d y → ⊥
    go [] y e r = never k (subst (Rest (k ∷ st) d) (sym e) r)
      where
        nothing : (I : List ℕ → Type 0) (c : ℕ) (K : List ℕ → Type 0) → ItemsThen I c K [] → ⊥
        nothing I c K i = no i.0 i.1
          where
            no : (n : ℕ) → ClosesThen I c K n [] → ⊥
            no zero j = let b = spaced_nil (Byte c K) j in let q = b.1 in cc
            no (suc n) j = let b = spaced_nil (Byte 44 (Spaced (Then I (ClosesThen I c K n)))) j in let q = b.1 in cc

        never : (k : Bracket) → Rest (k ∷ st) d [] → ⊥
        never Array r = nothing (Json d) 93 (Rest st (suc d)) r
        never Object r = nothing (IsMember (Json d)) 125 (Rest st (suc d)) r
    go (z ∷ x) y e r = cc

pub accepting : (s : State) → accepts s ≡ true → Completes s []
accepting (In t d []) e = ([], [], token_ends t e, refl, refl)
accepting (In t d (k ∷ st)) e = cc
accepting (Value d st) e = cc
accepting (First d st) e = cc
accepting (Names d st) e = cc
accepting (Name d st) e = cc
accepting (InName t d st) e = cc
