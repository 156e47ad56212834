-- A byte that takes the machine on in a string, number or literal.
use Rattle.std.proofs.Common.{◌≡◌, ℕ, Bool, true, false, ◌||◌, cond, eqb, List, [], ◌∷◌, ◌++◌, refl, sym, ap, ◌∙◌, suc, zero, subst, inl, inr, Option, Some, None}
use Rattle.std.proofs.lemmas.Bool.{eqb-true}
use Rattle.json_span.specs.Numbers.{AreDigits, AreSomeDigits, IsExp, IsFrac, IsInt, IsSign, IsUnsigned, between, is_digit}
use Rattle.json_span.specs.Strings.{Any, CharKind, IsChar, Lead, Long, Plain, Short, Wide, is_escape, is_hex, is_plain, lead, within}
use Rattle.json_span.specs.Json.{Then}
use Rattle.json_span.specs.Machine.{Chars, Closed, Dot, E, Ends, Escape, Exp, Frac, Hex, InString, Int, Minus, Sign, Tail, Token, Word, Zero, is_e, next, wide_token}
use Rattle.json_span.proofs.TokenForth.{e_of_is, exponent_back, fraction_dot, fraction_e}

-- The of strings, numbers and words, the other way.

-- one test
pub when : (p : Bool) (u v : Token) → cond p (Some u) None ≡ Some v → (p ≡ true) × (u ≡ v)
when true u v e = (refl, cc)
when false u v e = cc

pub digits_back : (K : List ℕ → Type 0) (c : ℕ) (b : List ℕ) → is_digit c ≡ true → Then AreDigits K b → Then AreDigits K (c ∷ b)
digits_back K c b d h = (c ∷ h.0, h.1, (d, h.2), ap (λ v. c ∷ v) h.3, h.4)

pub digits_now : (K : List ℕ → Type 0) (b : List ℕ) → K b → Then AreDigits K b
digits_now K b k = ([], b, tt, refl, k)

pub unsigned_of : (w x : List ℕ) → IsInt w → Then IsFrac IsExp x → IsUnsigned (w ++ x)
unsigned_of w x i h = record { int = w; frac = h.0; exp = h.1; text = ap (λ z. w ++ z) h.3; int_is = i; frac_is = h.2; exp_is = h.4 }

pub string_more : (k : CharKind) (y z : List ℕ) → IsChar k y → InString z → InString (y ++ z)
string_more k y z i h = (k ∷ h.0, (y, z, i, refl, h.1))

pub back_fraction : (c : ℕ) (b : List ℕ) (u : Token) → cond (eqb c 46) (Some Dot) (cond (is_e c) (Some E) None) ≡ Some u → Ends u b → Then IsFrac IsExp (c ∷ b)
back_fraction c b u e h = go (eqb c 46) refl (is_e c) refl e
  where
    go : (p : Bool) → eqb c 46 ≡ p → (q : Bool) → is_e c ≡ q → cond p (Some Dot) (cond q (Some E) None) ≡ Some u → Then IsFrac IsExp (c ∷ b)
    go true dp q dq e = let r : Dot ≡ u = cc in subst (λ z. Then IsFrac IsExp (z ∷ b)) (sym (eqb-true c 46 dp)) (fraction_dot b (subst (λ t. Ends t b) (sym r) h))
    go false dp true dq e = let r : E ≡ u = cc in fraction_e c b (e_of_is c dq) (subst (λ t. Ends t b) (sym r) h)
    go false dp false dq e = cc

pub back_minus : (c : ℕ) (b : List ℕ) (u : Token) → cond (eqb c 48) (Some Zero) (cond (between 49 57 c) (Some Int) None) ≡ Some u → Ends u b → IsUnsigned (c ∷ b)
back_minus c b u e h = go (eqb c 48) refl (between 49 57 c) refl e
  where
    int : between 49 57 c ≡ true → Ends Int b → IsUnsigned (c ∷ b)
    int d k = subst (λ z. IsUnsigned (c ∷ z)) (sym k.3) (unsigned_of (c ∷ k.0) k.1 (inr (c, k.0, refl, d, k.2)) k.4)

    go : (p : Bool) → eqb c 48 ≡ p → (q : Bool) → between 49 57 c ≡ q → cond p (Some Zero) (cond q (Some Int) None) ≡ Some u → IsUnsigned (c ∷ b)
    go true dp q dq e = let r : Zero ≡ u = cc in subst (λ z. IsUnsigned (z ∷ b)) (sym (eqb-true c 48 dp)) (unsigned_of (48 ∷ []) b (inl refl) (subst (λ t. Ends t b) (sym r) h))
    go false dp true dq e = let r : Int ≡ u = cc in int dq (subst (λ t. Ends t b) (sym r) h)
    go false dp false dq e = cc

pub back_chars : (c : ℕ) (b : List ℕ) (u : Token) → next Chars c ≡ Some u → Ends u b → InString (c ∷ b)
unfolding next
back_chars c b u e h = go (eqb c 34) refl (eqb c 92) refl (is_plain c) refl (lead c) refl e
  where
    escape : Ends Escape b → InString (92 ∷ b)
    escape (inl k) = let y = k.2 in subst (λ z. InString (92 ∷ z)) (sym y.1) (string_more Short (92 ∷ (k.0 ∷ [])) y.0 (k.0, refl, k.1) y.2)
    escape (inr k) = let y = k.2 in subst (λ z. InString (92 ∷ z)) (sym (k.1 ∙ ap (λ z. 117 ∷ z) y.3)) (string_more Long (92 ∷ (117 ∷ y.0)) y.1 (y.0, refl, y.2) y.4)

    wide : (l : Lead) → lead c ≡ Some l → Ends (Tail l.bounds l.more) b → InString (c ∷ b)
    wide l q k = subst (λ z. InString (c ∷ z)) (sym k.3) (string_more Wide (c ∷ k.0) k.1 (c, k.0, l, refl, q, k.2) k.4)

    go : (p : Bool) → eqb c 34 ≡ p → (q : Bool) → eqb c 92 ≡ q → (r : Bool) → is_plain c ≡ r → (o : Option Lead) → lead c ≡ o → cond p (Some Closed) (cond q (Some Escape) (cond r (Some Chars) (wide_token o))) ≡ Some u → InString (c ∷ b)
    go true dp q dq r dr o do' e = let t : Closed ≡ u = cc in let k : b ≡ [] = subst (λ t. Ends t b) (sym t) h in ([], ap (λ z. z ∷ b) (eqb-true c 34 dp) ∙ ap (λ z. 34 ∷ z) k)
    go false dp true dq r dr o do' e = let t : Escape ≡ u = cc in subst (λ z. InString (z ∷ b)) (sym (eqb-true c 92 dq)) (escape (subst (λ t. Ends t b) (sym t) h))
    go false dp false dq true dr o do' e = let t : Chars ≡ u = cc in string_more Plain (c ∷ []) b (c, refl, dr) (subst (λ t. Ends t b) (sym t) h)
    go false dp false dq false dr (Some l) do' e = let t : Tail l.bounds l.more ≡ u = cc in wide l do' (subst (λ t. Ends t b) (sym t) h)
    go false dp false dq false dr None do' e = cc

pub token_back : (t u : Token) (c : ℕ) (b : List ℕ) → next t c ≡ Some u → Ends u b → Ends t (c ∷ b)
unfolding next
token_back Closed u c b e h = cc
token_back (Word a []) u c b e h = let k = when (eqb c a) Closed u e in let x : b ≡ [] = subst (λ t. Ends t b) (sym k.1) h in ap (λ z. z ∷ b) (eqb-true c a k.0) ∙ ap (λ z. a ∷ z) x
token_back (Word a (d ∷ y)) u c b e h = let k = when (eqb c a) (Word d y) u e in let x : b ≡ d ∷ y = subst (λ t. Ends t b) (sym k.1) h in ap (λ z. z ∷ b) (eqb-true c a k.0) ∙ ap (λ z. a ∷ z) x
token_back Minus u c b e h = back_minus c b u e h
token_back Zero u c b e h = back_fraction c b u e h
token_back Int u c b e h = go (is_digit c) refl e
  where
    go : (p : Bool) → is_digit c ≡ p → cond p (Some Int) (cond (eqb c 46) (Some Dot) (cond (is_e c) (Some E) None)) ≡ Some u → Then AreDigits (Then IsFrac IsExp) (c ∷ b)
    go true d e = let t : Int ≡ u = cc in digits_back (Then IsFrac IsExp) c b d (subst (λ t. Ends t b) (sym t) h)
    go false d e = digits_now (Then IsFrac IsExp) (c ∷ b) (back_fraction c b u e h)
token_back Dot u c b e h = let k = when (is_digit c) Frac u e in let x : Ends Frac b = subst (λ t. Ends t b) (sym k.1) h in (c ∷ x.0, x.1, (c, x.0, refl, k.0, x.2), ap (λ z. c ∷ z) x.3, x.4)
token_back Frac u c b e h = go (is_digit c) refl (is_e c) refl e
  where
    go : (p : Bool) → is_digit c ≡ p → (q : Bool) → is_e c ≡ q → cond p (Some Frac) (cond q (Some E) None) ≡ Some u → Then AreDigits IsExp (c ∷ b)
    go true d q dq e = let t : Frac ≡ u = cc in digits_back IsExp c b d (subst (λ t. Ends t b) (sym t) h)
    go false d true dq e = let t : E ≡ u = cc in digits_now IsExp (c ∷ b) (exponent_back c b (e_of_is c dq) (subst (λ t. Ends t b) (sym t) h))
    go false d false dq e = cc
token_back E u c b e h = go (is_digit c) refl (eqb c 43) refl (eqb c 45) refl e
  where
    go : (p : Bool) → is_digit c ≡ p → (q : Bool) → eqb c 43 ≡ q → (r : Bool) → eqb c 45 ≡ r → cond p (Some Exp) (cond (q || r) (Some Sign) None) ≡ Some u → Then IsSign AreSomeDigits (c ∷ b)
    go true d q dq r dr e = let t : Exp ≡ u = cc in ([], c ∷ b, inl refl, refl, (c, b, refl, d, subst (λ t. Ends t b) (sym t) h))
    go false d true dq r dr e = let t : Sign ≡ u = cc in (43 ∷ [], b, inr (inl refl), ap (λ z. z ∷ b) (eqb-true c 43 dq), subst (λ t. Ends t b) (sym t) h)
    go false d false dq true dr e = let t : Sign ≡ u = cc in (45 ∷ [], b, inr (inr refl), ap (λ z. z ∷ b) (eqb-true c 45 dr), subst (λ t. Ends t b) (sym t) h)
    go false d false dq false dr e = cc
token_back Sign u c b e h = let k = when (is_digit c) Exp u e in (c, b, refl, k.0, subst (λ t. Ends t b) (sym k.1) h)
token_back Exp u c b e h = let k = when (is_digit c) Exp u e in (k.0, subst (λ t. Ends t b) (sym k.1) h)
token_back Chars u c b e h = back_chars c b u e h
token_back Escape u c b e h = go (eqb c 117) refl (is_escape c) refl e
  where
    go : (p : Bool) → eqb c 117 ≡ p → (q : Bool) → is_escape c ≡ q → cond p (Some (Hex 3)) (cond q (Some Chars) None) ≡ Some u → Ends Escape (c ∷ b)
    go true d q dq e = let t : Hex 3 ≡ u = cc in inr (b, ap (λ z. z ∷ b) (eqb-true c 117 d), subst (λ t. Ends t b) (sym t) h)
    go false d true dq e = let t : Chars ≡ u = cc in inl (c, dq, (b, refl, subst (λ t. Ends t b) (sym t) h))
    go false d false dq e = cc
token_back (Hex zero) u c b e h = let k = when (is_hex c) Chars u e in (c ∷ [], b, (c, [], refl, k.0, refl), refl, subst (λ t. Ends t b) (sym k.1) h)
token_back (Hex (suc n)) u c b e h = let k = when (is_hex c) (Hex n) u e in let x : Ends (Hex n) b = subst (λ t. Ends t b) (sym k.1) h in (c ∷ x.0, x.1, (c, x.0, refl, k.0, x.2), ap (λ z. c ∷ z) x.3, x.4)
token_back (Tail w zero) u c b e h = let k = when (within w c) Chars u e in (c ∷ [], b, (c, refl, k.0), refl, subst (λ t. Ends t b) (sym k.1) h)
token_back (Tail w (suc n)) u c b e h = let k = when (within w c) (Tail Any n) u e in let x : Ends (Tail Any n) b = subst (λ t. Ends t b) (sym k.1) h in (c ∷ x.0, x.1, (c, x.0, refl, k.0, x.2), ap (λ z. c ∷ z) x.3, x.4)
