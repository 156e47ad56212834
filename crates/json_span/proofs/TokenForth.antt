-- A byte of what completes a string, number or literal takes the machine on.
use Rattle.std.proofs.Common.{◌≡◌, ℕ, ◌≤◌, ◌<◌, Bool, true, false, ◌||◌, ◌&&◌, eqb, leb, List, [], ◌∷◌, ◌++◌, refl, sym, ap, ◌∙◌, suc, zero, subst, inl, inr, arith, ◌⊎◌, Some, None}
use Rattle.std.proofs.lemmas.Bool.{eqb-true, leb-true, eq-eqb, ne_eqb}
use Rattle.json_span.specs.Numbers.{AreDigits, AreSomeDigits, IsE, IsExp, IsFrac, IsInt, IsSign, IsUnsigned, between, is_digit}
use Rattle.json_span.specs.Strings.{Any, AreHex, CharKind, EndsString, IsChar, Lead, Long, Plain, Short, Wide, is_escape, is_hex, is_plain, lead, within}
use Rattle.json_span.specs.Json.{Then}
use Rattle.json_span.specs.Machine.{Chars, Closed, Dot, E, Ends, Escape, Exp, Frac, Hex, InString, Int, Minus, Sign, Tail, Token, Word, Zero, is_e, next}

-- The of strings, numbers and words.

-- a token goes on by one byte
Goes_on : Token → ℕ → List ℕ → Type 0
Goes_on t c b = (u : Token) × (next t c ≡ Some u) × Ends u b

-- the digit tests, on bytes that are no digit
pub not_digit : (c n : ℕ) → is_digit n ≡ false → is_digit c ≡ true → eqb c n ≡ false
not_digit c n f e = go (eqb c n) refl
  where
    go : (p : Bool) → eqb c n ≡ p → eqb c n ≡ false
    go true q = let r : c ≡ n = eqb-true c n q in let k : is_digit n ≡ true = subst (λ z. is_digit z ≡ true) r e in cc
    go false q = q

-- an exponent, after a number that may go on by other bytes too
pub exponent_forth : (c : ℕ) (b : List ℕ) → IsExp (c ∷ b) → IsE c × Ends E b
exponent_forth c b (inl e) = cc
exponent_forth c b (inr h) =
    let e = h.6 in
    let q : h.0 ≡ c = cc in
    let r : b ≡ h.1 ++ h.2 = cc in
    (subst IsE q h.3, (h.1, h.2, h.4, r, h.5))

pub exponent_back : (c : ℕ) (b : List ℕ) → IsE c → Ends E b → IsExp (c ∷ b)
exponent_back c b e h = inr (c, h.0, h.1, e, h.2, h.4, ap (λ z. c ∷ z) h.3)

pub digits_forth : (K : List ℕ → Type 0) (c : ℕ) (b : List ℕ) → Then AreDigits K (c ∷ b) → ((is_digit c ≡ true) × Then AreDigits K b) ⊎ K (c ∷ b)
digits_forth K c b h = go h.0 h.2 h.3
  where
    go : (x : List ℕ) → AreDigits x → c ∷ b ≡ x ++ h.1 → ((is_digit c ≡ true) × Then AreDigits K b) ⊎ K (c ∷ b)
    go [] d e = inr (subst K (sym e) h.4)
    go (z ∷ x) d e = let q : z ≡ c = cc in let r : b ≡ x ++ h.1 = cc in inl (subst (λ v. is_digit v ≡ true) q d.0, (x, h.1, d.1, r, h.4))

pub fraction_forth : (c : ℕ) (b : List ℕ) → Then IsFrac IsExp (c ∷ b) → ((c ≡ 46) × Ends Dot b) ⊎ (IsE c × Ends E b)
fraction_forth c b h = go h.0 h.2 h.3
  where
    go : (x : List ℕ) → IsFrac x → c ∷ b ≡ x ++ h.1 → ((c ≡ 46) × Ends Dot b) ⊎ (IsE c × Ends E b)
    go x (inl i) e = let r : c ∷ b ≡ h.1 = e ∙ ap (λ z. z ++ h.1) i in inr (exponent_forth c b (subst IsExp (sym r) h.4))
    go x (inr i) e =
        let r : c ∷ b ≡ 46 ∷ (i.0 ++ h.1) = e ∙ ap (λ z. z ++ h.1) i.2 in
        let q : c ≡ 46 = cc in
        let s : b ≡ i.0 ++ h.1 = cc in
        inl (q, (i.0, h.1, i.1, s, h.4))

pub fraction_dot : (b : List ℕ) → Ends Dot b → Then IsFrac IsExp (46 ∷ b)
fraction_dot b h = (46 ∷ h.0, h.1, inr (h.0, h.2, refl), ap (λ z. 46 ∷ z) h.3, h.4)

pub fraction_e : (c : ℕ) (b : List ℕ) → IsE c → Ends E b → Then IsFrac IsExp (c ∷ b)
fraction_e c b e h = ([], c ∷ b, inl refl, refl, exponent_back c b e h)

pub is_e_of : (c : ℕ) → IsE c → is_e c ≡ true
is_e_of c (inl e) = subst (λ z. is_e z ≡ true) (sym e) refl
is_e_of c (inr e) = subst (λ z. is_e z ≡ true) (sym e) refl

pub e_of_is : (c : ℕ) → is_e c ≡ true → IsE c
e_of_is c h = go (eqb c 101) refl (eqb c 69) refl h
  where
    go : (p : Bool) → eqb c 101 ≡ p → (q : Bool) → eqb c 69 ≡ q → (p || q) ≡ true → IsE c
    go true e q f h = inl (eqb-true c 101 e)
    go false e true f h = inr (eqb-true c 69 f)
    go false e false f h = cc

pub e_no_digit : (c : ℕ) → IsE c → (is_digit c ≡ false) × (eqb c 46 ≡ false)
e_no_digit c (inl e) = subst (λ z. (is_digit z ≡ false) × (eqb z 46 ≡ false)) (sym e) (refl, refl)
e_no_digit c (inr e) = subst (λ z. (is_digit z ≡ false) × (eqb z 46 ≡ false)) (sym e) (refl, refl)

pub on_zero : (c : ℕ) (b : List ℕ) → ((c ≡ 46) × Ends Dot b) ⊎ (IsE c × Ends E b) → (u : Token) × (next Zero c ≡ Some u) × Ends u b
unfolding next
on_zero c b (inl h) = (Dot, subst (λ z. next Zero z ≡ Some Dot) (sym h.0) refl, h.1)
on_zero c b (inr h) = let n = e_no_digit c h.0 in let f : eqb c 46 ≡ false = n.1 in let e : is_e c ≡ true = is_e_of c h.0 in (E, rw (f, e) refl, h.1)

pub on_int : (c : ℕ) (b : List ℕ) → ((is_digit c ≡ true) × Ends Int b) ⊎ (((c ≡ 46) × Ends Dot b) ⊎ (IsE c × Ends E b)) → (u : Token) × (next Int c ≡ Some u) × Ends u b
unfolding next
on_int c b (inl h) = let e : is_digit c ≡ true = h.0 in (Int, rw e refl, h.1)
on_int c b (inr (inl h)) = (Dot, subst (λ z. next Int z ≡ Some Dot) (sym h.0) refl, h.1)
on_int c b (inr (inr h)) = let n = e_no_digit c h.0 in let d : is_digit c ≡ false = n.0 in let f : eqb c 46 ≡ false = n.1 in let e : is_e c ≡ true = is_e_of c h.0 in (E, rw (d, f, e) refl, h.1)

-- bytes told apart by a test
pub apart : (p : ℕ → Bool) (c n : ℕ) → p n ≡ false → p c ≡ true → eqb c n ≡ false
apart p c n f e = go (eqb c n) refl
  where
    go : (q : Bool) → eqb c n ≡ q → eqb c n ≡ false
    go true q = let r : c ≡ n = eqb-true c n q in let k : p n ≡ true = subst (λ z. p z ≡ true) r e in cc
    go false q = q

pub leb_no : (a b : ℕ) → b < a → leb a b ≡ false
leb_no a b h = go (leb a b) refl
  where
    go : (q : Bool) → leb a b ≡ q → leb a b ≡ false
    go true q = let k : a ≤ b = leb-true a b q in absurd (omega (arith, h, k))
    go false q = q

pub lead_low : (c : ℕ) → c < 194 → lead c ≡ None
unfolding lead
lead_low c h =
    let a : leb 194 c ≡ false = leb_no 194 c h in
    let b : eqb c 224 ≡ false = ne_eqb c 224 (λ q. omega (arith, h, q)) in
    let d : eqb c 237 ≡ false = ne_eqb c 237 (λ q. omega (arith, h, q)) in
    let e : leb 225 c ≡ false = leb_no 225 c (omega (arith, h)) in
    let f : eqb c 240 ≡ false = ne_eqb c 240 (λ q. omega (arith, h, q)) in
    let g : leb 241 c ≡ false = leb_no 241 c (omega (arith, h)) in
    let i : eqb c 244 ≡ false = ne_eqb c 244 (λ q. omega (arith, h, q)) in
    rw (a, b, d, e, f, g, i) refl

pub between_high : (a b c : ℕ) → between a b c ≡ true → c ≤ b
between_high a b c e = go (leb a c) (leb b b) refl e
  where
    go : (p q : Bool) → leb b b ≡ q → (p && leb c b) ≡ true → c ≤ b
    go true q r e = leb-true c b e
    go false q r e = cc

pub plain_low : (c : ℕ) → is_plain c ≡ true → c < 194
plain_low c e = go (between 32 33 c) refl (between 35 91 c) refl (between 93 127 c) refl e
  where
    go : (p : Bool) → between 32 33 c ≡ p → (q : Bool) → between 35 91 c ≡ q → (r : Bool) → between 93 127 c ≡ r → (p || (q || r)) ≡ true → c < 194
    go true a q b r d e = omega (arith, between_high 32 33 c a)
    go false a true b r d e = omega (arith, between_high 35 91 c b)
    go false a false b true d e = omega (arith, between_high 93 127 c d)
    go false a false b false d e = cc

pub lead_not_plain : (c : ℕ) (l : Lead) → lead c ≡ Some l → is_plain c ≡ false
lead_not_plain c l e = go (is_plain c) refl
  where
    go : (q : Bool) → is_plain c ≡ q → is_plain c ≡ false
    go true q = let k : lead c ≡ None = lead_low c (plain_low c q) in cc
    go false q = q

pub lead_is_not : (c n : ℕ) (l : Lead) → n < 194 → lead c ≡ Some l → eqb c n ≡ false
lead_is_not c n l h e = ne_eqb c n (λ q. let k : lead c ≡ None = subst (λ z. lead z ≡ None) (sym q) (lead_low n h) in cc)

pub forth_minus : (c : ℕ) (b : List ℕ) → IsUnsigned (c ∷ b) → (u : Token) × (next Minus c ≡ Some u) × Ends u b
unfolding next
forth_minus c b i = go i.int i.int_is i.text
  where
    go : (w : List ℕ) → IsInt w → c ∷ b ≡ w ++ (i.frac ++ i.exp) → (u : Token) × (next Minus c ≡ Some u) × Ends u b
    go w (inl e) t =
        let r : c ∷ b ≡ 48 ∷ (i.frac ++ i.exp) = t ∙ ap (λ z. z ++ (i.frac ++ i.exp)) e in
        let q : c ≡ 48 = cc in
        let s : b ≡ i.frac ++ i.exp = cc in
        (Zero, subst (λ z. next Minus z ≡ Some Zero) (sym q) refl, (i.frac, i.exp, i.frac_is, s, i.exp_is))
    go w (inr k) t =
        let r : c ∷ b ≡ k.0 ∷ (k.1 ++ (i.frac ++ i.exp)) = t ∙ ap (λ z. z ++ (i.frac ++ i.exp)) k.2 in
        let q : k.0 ≡ c = cc in
        let s : b ≡ k.1 ++ (i.frac ++ i.exp) = cc in
        let d : between 49 57 c ≡ true = subst (λ z. between 49 57 z ≡ true) q k.3 in
        let n : eqb c 48 ≡ false = apart (between 49 57) c 48 refl d in
        (Int, rw (n, d) refl, (k.1, i.frac ++ i.exp, k.4, s, (i.frac, i.exp, i.frac_is, refl, i.exp_is)))

pub some_forth : (c : ℕ) (b : List ℕ) → AreSomeDigits (c ∷ b) → (is_digit c ≡ true) × AreDigits b
some_forth c b h = let e = h.2 in let q : h.0 ≡ c = cc in let r : b ≡ h.1 = cc in (subst (λ z. is_digit z ≡ true) q h.3, subst AreDigits (sym r) h.4)

pub forth_chars : (c : ℕ) (b : List ℕ) → InString (c ∷ b) → (u : Token) × (next Chars c ≡ Some u) × Ends u b
unfolding next
forth_chars c b h = go h.0 h.1
  where
    kind : (k : CharKind) (ks : List CharKind) (y z : List ℕ) → IsChar k y → c ∷ b ≡ y ++ z → EndsString ks z → (u : Token) × (next Chars c ≡ Some u) × Ends u b
    kind Plain ks y z i e m =
        let r : c ∷ b ≡ i.0 ∷ z = e ∙ ap (λ v. v ++ z) i.1 in
        let q : i.0 ≡ c = cc in
        let s : b ≡ z = cc in
        let p : is_plain c ≡ true = subst (λ v. is_plain v ≡ true) q i.2 in
        let n : eqb c 34 ≡ false = apart is_plain c 34 refl p in
        let o : eqb c 92 ≡ false = apart is_plain c 92 refl p in
        (Chars, rw (n, o, p) refl, (ks, subst (EndsString ks) (sym s) m))
    kind Short ks y z i e m =
        let r : c ∷ b ≡ 92 ∷ (i.0 ∷ z) = e ∙ ap (λ v. v ++ z) i.1 in
        let q : c ≡ 92 = cc in
        let s : b ≡ i.0 ∷ z = cc in
        (Escape, subst (λ v. next Chars v ≡ Some Escape) (sym q) refl, inl (i.0, i.2, (z, s, (ks, m))))
    kind Long ks y z i e m =
        let r : c ∷ b ≡ 92 ∷ (117 ∷ (i.0 ++ z)) = e ∙ ap (λ v. v ++ z) i.1 in
        let q : c ≡ 92 = cc in
        let s : b ≡ 117 ∷ (i.0 ++ z) = cc in
        (Escape, subst (λ v. next Chars v ≡ Some Escape) (sym q) refl, inr (i.0 ++ z, s, (i.0, z, i.2, refl, (ks, m))))
    kind Wide ks y z i e m =
        let r : c ∷ b ≡ i.0 ∷ (i.1 ++ z) = e ∙ ap (λ v. v ++ z) i.3 in
        let q : i.0 ≡ c = cc in
        let s : b ≡ i.1 ++ z = cc in
        let l : lead c ≡ Some i.2 = subst (λ v. lead v ≡ Some i.2) q i.4 in
        let n : eqb c 34 ≡ false = lead_is_not c 34 i.2 (omega arith) l in
        let o : eqb c 92 ≡ false = lead_is_not c 92 i.2 (omega arith) l in
        let p : is_plain c ≡ false = lead_not_plain c i.2 l in
        (Tail i.2.bounds i.2.more, rw (n, o, p, l) refl, (i.1, z, i.5, s, (ks, m)))

    go : (ks : List CharKind) → EndsString ks (c ∷ b) → (u : Token) × (next Chars c ≡ Some u) × Ends u b
    go [] e = let q : c ≡ 34 = cc in let s : b ≡ [] = cc in (Closed, subst (λ v. next Chars v ≡ Some Closed) (sym q) refl, s)
    go (k ∷ ks) e = kind k ks e.0 e.1 e.2 e.3 e.4

pub token_forth : (t : Token) (c : ℕ) (b : List ℕ) → Ends t (c ∷ b) → (u : Token) × (next t c ≡ Some u) × Ends u b
unfolding next
token_forth Closed c b h = cc
token_forth (Word a []) c b h = let q : c ≡ a = cc in let s : b ≡ [] = cc in let e : eqb c a ≡ true = eq-eqb c a q in (Closed, rw e refl, s)
token_forth (Word a (d ∷ y)) c b h = let q : c ≡ a = cc in let s : b ≡ d ∷ y = cc in let e : eqb c a ≡ true = eq-eqb c a q in (Word d y, rw e refl, s)
token_forth Minus c b h = forth_minus c b h
token_forth Zero c b h = on_zero c b (fraction_forth c b h)
token_forth Int c b h = elim (digits_forth (Then IsFrac IsExp) c b h) [ inl k ↦ on_int c b (inl k) | inr k ↦ on_int c b (inr (fraction_forth c b k)) ]
token_forth Dot c b h = go h.0 h.2 h.3
  where
    go : (x : List ℕ) → AreSomeDigits x → c ∷ b ≡ x ++ h.1 → (u : Token) × (next Dot c ≡ Some u) × Ends u b
    go x d e =
        let r : c ∷ b ≡ d.0 ∷ (d.1 ++ h.1) = e ∙ ap (λ v. v ++ h.1) d.2 in
        let q : d.0 ≡ c = cc in
        let s : b ≡ d.1 ++ h.1 = cc in
        let t : is_digit c ≡ true = subst (λ z. is_digit z ≡ true) q d.3 in
        (Frac, rw t refl, (d.1, h.1, d.4, s, h.4))
token_forth Frac c b h = elim (digits_forth IsExp c b h) [
  | inl k ↦ digit k.0 k.1
  | inr k ↦ let x = exponent_forth c b k in other x.0 x.1
]
  where
    digit : is_digit c ≡ true → Ends Frac b → (u : Token) × (next Frac c ≡ Some u) × Ends u b
    digit t k = (Frac, rw t refl, k)

    other : IsE c → Ends E b → (u : Token) × (next Frac c ≡ Some u) × Ends u b
    other e k = let d = e_no_digit c e in let f : is_digit c ≡ false = d.0 in let g : is_e c ≡ true = is_e_of c e in (E, rw (f, g) refl, k)
token_forth E c b h = go h.0 h.2 h.3
  where
    go : (x : List ℕ) → IsSign x → c ∷ b ≡ x ++ h.1 → (u : Token) × (next E c ≡ Some u) × Ends u b
    go x (inl i) e = let r : c ∷ b ≡ h.1 = e ∙ ap (λ v. v ++ h.1) i in let k = some_forth c b (subst AreSomeDigits (sym r) h.4) in let t : is_digit c ≡ true = k.0 in (Exp, rw t refl, k.1)
    go x (inr (inl i)) e = let r : c ∷ b ≡ 43 ∷ h.1 = e ∙ ap (λ v. v ++ h.1) i in let q : c ≡ 43 = cc in let s : b ≡ h.1 = cc in (Sign, subst (λ v. next E v ≡ Some Sign) (sym q) refl, subst AreSomeDigits (sym s) h.4)
    go x (inr (inr i)) e = let r : c ∷ b ≡ 45 ∷ h.1 = e ∙ ap (λ v. v ++ h.1) i in let q : c ≡ 45 = cc in let s : b ≡ h.1 = cc in (Sign, subst (λ v. next E v ≡ Some Sign) (sym q) refl, subst AreSomeDigits (sym s) h.4)
token_forth Sign c b h = let k = some_forth c b h in let t : is_digit c ≡ true = k.0 in (Exp, rw t refl, k.1)
token_forth Exp c b h = let t : is_digit c ≡ true = h.0 in (Exp, rw t refl, h.1)
token_forth Chars c b h = forth_chars c b h
token_forth Escape c b (inl h) =
    let y = h.2 in
    let w = y.1 in
    let q : h.0 ≡ c = cc in
    let s : b ≡ y.0 = cc in
    let p : is_escape c ≡ true = subst (λ v. is_escape v ≡ true) q h.1 in
    let n : eqb c 117 ≡ false = apart is_escape c 117 refl p in
    (Chars, rw (n, p) refl, subst InString (sym s) y.2)
token_forth Escape c b (inr h) = let w = h.1 in let q : c ≡ 117 = cc in let s : b ≡ h.0 = cc in (Hex 3, subst (λ v. next Escape v ≡ Some (Hex 3)) (sym q) refl, subst (Then (AreHex 4) InString) (sym s) h.2)
token_forth (Hex zero) c b h =
    let d = h.2 in
    let r : c ∷ b ≡ d.0 ∷ (d.1 ++ h.1) = h.3 ∙ ap (λ v. v ++ h.1) d.2 in
    let q : d.0 ≡ c = cc in
    let s : b ≡ h.1 = let z : b ≡ d.1 ++ h.1 = cc in z ∙ ap (λ v. v ++ h.1) d.4 in
    let t : is_hex c ≡ true = subst (λ z. is_hex z ≡ true) q d.3 in
    (Chars, rw t refl, subst InString (sym s) h.4)
token_forth (Hex (suc n)) c b h =
    let d = h.2 in
    let r : c ∷ b ≡ d.0 ∷ (d.1 ++ h.1) = h.3 ∙ ap (λ v. v ++ h.1) d.2 in
    let q : d.0 ≡ c = cc in
    let s : b ≡ d.1 ++ h.1 = cc in
    let t : is_hex c ≡ true = subst (λ z. is_hex z ≡ true) q d.3 in
    (Hex n, rw t refl, (d.1, h.1, d.4, s, h.4))
token_forth (Tail w zero) c b h =
    let d = h.2 in
    let r : c ∷ b ≡ d.0 ∷ h.1 = h.3 ∙ ap (λ v. v ++ h.1) d.1 in
    let q : d.0 ≡ c = cc in
    let s : b ≡ h.1 = cc in
    let t : within w c ≡ true = subst (λ z. within w z ≡ true) q d.2 in
    (Chars, rw t refl, subst InString (sym s) h.4)
token_forth (Tail w (suc n)) c b h =
    let d = h.2 in
    let r : c ∷ b ≡ d.0 ∷ (d.1 ++ h.1) = h.3 ∙ ap (λ v. v ++ h.1) d.2 in
    let q : d.0 ≡ c = cc in
    let s : b ≡ d.1 ++ h.1 = cc in
    let t : within w c ≡ true = subst (λ z. within w z ≡ true) q d.3 in
    (Tail Any n, rw t refl, (d.1, h.1, d.4, s, h.4))
