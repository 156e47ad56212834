-- What first and further bytes of characters of several bytes do to the machine.
use Rattle.std.proofs.Common.{◌≡◌, ℕ, ◌≤◌, ◌<◌, Bool, true, false, ◌||◌, cond, eqb, [], ◌∷◌, refl, sym, ap, suc, zero, subst, inl, inr, arith, ◌⊎◌, Option, Some, None}
use Rattle.std.specs.List.{AllByRecursion}
use Rattle.json_span.specs.Numbers.{between, is_digit}
use Rattle.json_span.specs.Strings.{Bounds, Any, FromA0, To9F, From90, To8F, within, Lead, lead, is_plain, is_escape, is_hex}
use Rattle.json_span.specs.Json.{is_space}
use Rattle.json_span.specs.Machine.{Token, Closed, Word, Minus, Zero, Int, Dot, Frac, E, Sign, Exp, Chars, Escape, Hex, Tail, is_e, wide_token, next, first}
use Rattle.json_span.proofs.TokenForth.{lead_low, lead_is_not, lead_not_plain, between_high}

-- A first byte of several is none of the bytes that the machine takes elsewhere.
lead_not : (p : ℕ → Bool) (c : ℕ) (l : Lead) → (p c ≡ true → c < 194) → lead c ≡ Some l → p c ≡ false
lead_not p c l h e = go (p c) refl
  where
    go : (q : Bool) → p c ≡ q → p c ≡ false
    go true q = let k : lead c ≡ None = lead_low c (h q) in cc
    go false q = q

lead_not_between : (low high c : ℕ) (l : Lead) → high < 194 → lead c ≡ Some l → between low high c ≡ false
lead_not_between low high c l h e = lead_not (between low high) c l (λ q. let k : c ≤ high = between_high low high c q in omega (arith, k, h)) e

lead_not_within : (w : Bounds) (c : ℕ) (l : Lead) → lead c ≡ Some l → within w c ≡ false
lead_not_within Any c l e = lead_not_between 128 191 c l (omega arith) e
lead_not_within FromA0 c l e = lead_not_between 160 191 c l (omega arith) e
lead_not_within To9F c l e = lead_not_between 128 159 c l (omega arith) e
lead_not_within From90 c l e = lead_not_between 144 191 c l (omega arith) e
lead_not_within To8F c l e = lead_not_between 128 143 c l (omega arith) e

pub lead_not_space : (c : ℕ) (l : Lead) → lead c ≡ Some l → is_space c ≡ false
lead_not_space c l e =
    let a : eqb c 32 ≡ false = lead_is_not c 32 l (omega arith) e in
    let b : eqb c 9 ≡ false = lead_is_not c 9 l (omega arith) e in
    let d : eqb c 10 ≡ false = lead_is_not c 10 l (omega arith) e in
    let f : eqb c 13 ≡ false = lead_is_not c 13 l (omega arith) e in
    rw (a, b, d, f) refl

lead_not_e : (c : ℕ) (l : Lead) → lead c ≡ Some l → is_e c ≡ false
lead_not_e c l e = let a : eqb c 101 ≡ false = lead_is_not c 101 l (omega arith) e in let b : eqb c 69 ≡ false = lead_is_not c 69 l (omega arith) e in rw (a, b) refl

lead_not_escape : (c : ℕ) (l : Lead) → lead c ≡ Some l → is_escape c ≡ false
lead_not_escape c l e =
    let a : eqb c 34 ≡ false = lead_is_not c 34 l (omega arith) e in
    let b : eqb c 92 ≡ false = lead_is_not c 92 l (omega arith) e in
    let d : eqb c 47 ≡ false = lead_is_not c 47 l (omega arith) e in
    let f : eqb c 98 ≡ false = lead_is_not c 98 l (omega arith) e in
    let g : eqb c 102 ≡ false = lead_is_not c 102 l (omega arith) e in
    let i : eqb c 110 ≡ false = lead_is_not c 110 l (omega arith) e in
    let j : eqb c 114 ≡ false = lead_is_not c 114 l (omega arith) e in
    let k : eqb c 116 ≡ false = lead_is_not c 116 l (omega arith) e in
    rw (a, b, d, f, g, i, j, k) refl

lead_not_hex : (c : ℕ) (l : Lead) → lead c ≡ Some l → is_hex c ≡ false
lead_not_hex c l e =
    let a : between 48 57 c ≡ false = lead_not_between 48 57 c l (omega arith) e in
    let b : between 65 70 c ≡ false = lead_not_between 65 70 c l (omega arith) e in
    let d : between 97 102 c ≡ false = lead_not_between 97 102 c l (omega arith) e in
    rw (a, b, d) refl

-- the words that the machine waits for are ASCII
abbrev pub LowToken : Option Token → Type 0
LowToken (Some (Word a y)) = (a < 194) × AllByRecursion (λ c. c < 194) y
LowToken t = Unit

-- only a string takes it
pub lead_next : (t u : Token) (c : ℕ) (l : Lead) → LowToken (Some t) → lead c ≡ Some l → next t c ≡ Some u → u ≡ Tail l.bounds l.more
unfolding next
lead_next Closed u c l w e n = cc
lead_next (Word a []) u c l w e n = let f : eqb c a ≡ false = lead_is_not c a l w.0 e in let m : next (Word a []) c ≡ None = rw f refl in cc
lead_next (Word a (b ∷ y)) u c l w e n = let f : eqb c a ≡ false = lead_is_not c a l w.0 e in let m : next (Word a (b ∷ y)) c ≡ None = rw f refl in cc
lead_next Minus u c l w e n =
    let a : eqb c 48 ≡ false = lead_is_not c 48 l (omega arith) e in
    let b : between 49 57 c ≡ false = lead_not_between 49 57 c l (omega arith) e in
    let m : next Minus c ≡ None = rw (a, b) refl in cc
lead_next Zero u c l w e n =
    let a : eqb c 46 ≡ false = lead_is_not c 46 l (omega arith) e in
    let b : is_e c ≡ false = lead_not_e c l e in
    let m : next Zero c ≡ None = rw (a, b) refl in cc
lead_next Int u c l w e n =
    let d : is_digit c ≡ false = lead_not_between 48 57 c l (omega arith) e in
    let a : eqb c 46 ≡ false = lead_is_not c 46 l (omega arith) e in
    let b : is_e c ≡ false = lead_not_e c l e in
    let m : next Int c ≡ None = rw (d, a, b) refl in cc
lead_next Dot u c l w e n = let d : is_digit c ≡ false = lead_not_between 48 57 c l (omega arith) e in let m : next Dot c ≡ None = rw d refl in cc
lead_next Frac u c l w e n =
    let d : is_digit c ≡ false = lead_not_between 48 57 c l (omega arith) e in
    let b : is_e c ≡ false = lead_not_e c l e in
    let m : next Frac c ≡ None = rw (d, b) refl in cc
lead_next E u c l w e n =
    let d : is_digit c ≡ false = lead_not_between 48 57 c l (omega arith) e in
    let a : eqb c 43 ≡ false = lead_is_not c 43 l (omega arith) e in
    let b : eqb c 45 ≡ false = lead_is_not c 45 l (omega arith) e in
    let m : next E c ≡ None = rw (d, a, b) refl in cc
lead_next Sign u c l w e n = let d : is_digit c ≡ false = lead_not_between 48 57 c l (omega arith) e in let m : next Sign c ≡ None = rw d refl in cc
lead_next Exp u c l w e n = let d : is_digit c ≡ false = lead_not_between 48 57 c l (omega arith) e in let m : next Exp c ≡ None = rw d refl in cc
lead_next Chars u c l w e n =
    let a : eqb c 34 ≡ false = lead_is_not c 34 l (omega arith) e in
    let b : eqb c 92 ≡ false = lead_is_not c 92 l (omega arith) e in
    let d : is_plain c ≡ false = lead_not_plain c l e in
    let m : next Chars c ≡ Some (Tail l.bounds l.more) = rw (a, b, d, e) refl in cc
lead_next Escape u c l w e n =
    let a : eqb c 117 ≡ false = lead_is_not c 117 l (omega arith) e in
    let b : is_escape c ≡ false = lead_not_escape c l e in
    let m : next Escape c ≡ None = rw (a, b) refl in cc
lead_next (Hex zero) u c l w e n = let d : is_hex c ≡ false = lead_not_hex c l e in let m : next (Hex zero) c ≡ None = rw d refl in cc
lead_next (Hex (suc k)) u c l w e n = let d : is_hex c ≡ false = lead_not_hex c l e in let m : next (Hex (suc k)) c ≡ None = rw d refl in cc
lead_next (Tail x zero) u c l w e n = let d : within x c ≡ false = lead_not_within x c l e in let m : next (Tail x zero) c ≡ None = rw d refl in cc
lead_next (Tail x (suc k)) u c l w e n = let d : within x c ≡ false = lead_not_within x c l e in let m : next (Tail x (suc k)) c ≡ None = rw d refl in cc

pub lead_first : (u : Token) (c : ℕ) (l : Lead) → lead c ≡ Some l → first c ≡ Some u → ⊥
unfolding first
lead_first u c l e n =
    let a : eqb c 34 ≡ false = lead_is_not c 34 l (omega arith) e in
    let b : eqb c 45 ≡ false = lead_is_not c 45 l (omega arith) e in
    let d : eqb c 48 ≡ false = lead_is_not c 48 l (omega arith) e in
    let f : between 49 57 c ≡ false = lead_not_between 49 57 c l (omega arith) e in
    let g : eqb c 116 ≡ false = lead_is_not c 116 l (omega arith) e in
    let i : eqb c 102 ≡ false = lead_is_not c 102 l (omega arith) e in
    let j : eqb c 110 ≡ false = lead_is_not c 110 l (omega arith) e in
    let m : first c ≡ None = rw (a, b, d, f, g, i, j) refl in cc

-- what holds of each token that a test may give
pub pick : (P : Token → Type 0) (p : Bool) (x : Token) (o : Option Token) → P x → ((v : Token) → o ≡ Some v → P v) → (v : Token) → cond p (Some x) o ≡ Some v → P v
pick P true x o a f v e = let q : x ≡ v = cc in subst P q a
pick P false x o a f v e = f v e

pub none : (P : Token → Type 0) (v : Token) → None ≡ Some v → P v
none P v e = cc

abbrev Low : Token → Type 0
Low t = LowToken (Some t)

pub next_low : (t u : Token) (c : ℕ) → LowToken (Some t) → next t c ≡ Some u → LowToken (Some u)
unfolding next
next_low Closed u c w n = cc
next_low (Word a []) u c w n = pick Low (eqb c a) Closed None tt (none Low) u n
next_low (Word a (b ∷ y)) u c w n = pick Low (eqb c a) (Word b y) None w.1 (none Low) u n
next_low Minus u c w n = pick Low (eqb c 48) Zero (cond (between 49 57 c) (Some Int) None) tt (pick Low (between 49 57 c) Int None tt (none Low)) u n
next_low Zero u c w n = pick Low (eqb c 46) Dot (cond (is_e c) (Some E) None) tt (pick Low (is_e c) E None tt (none Low)) u n
next_low Int u c w n = pick Low (is_digit c) Int (cond (eqb c 46) (Some Dot) (cond (is_e c) (Some E) None)) tt (pick Low (eqb c 46) Dot (cond (is_e c) (Some E) None) tt (pick Low (is_e c) E None tt (none Low))) u n
next_low Dot u c w n = pick Low (is_digit c) Frac None tt (none Low) u n
next_low Frac u c w n = pick Low (is_digit c) Frac (cond (is_e c) (Some E) None) tt (pick Low (is_e c) E None tt (none Low)) u n
next_low E u c w n = pick Low (is_digit c) Exp (cond (eqb c 43 || eqb c 45) (Some Sign) None) tt (pick Low (eqb c 43 || eqb c 45) Sign None tt (none Low)) u n
next_low Sign u c w n = pick Low (is_digit c) Exp None tt (none Low) u n
next_low Exp u c w n = pick Low (is_digit c) Exp None tt (none Low) u n
next_low Chars u c w n = pick Low (eqb c 34) Closed (cond (eqb c 92) (Some Escape) (cond (is_plain c) (Some Chars) (wide_token (lead c)))) tt (pick Low (eqb c 92) Escape (cond (is_plain c) (Some Chars) (wide_token (lead c))) tt (pick Low (is_plain c) Chars (wide_token (lead c)) tt (wide (lead c)))) u n
  where
    wide : (o : Option Lead) (v : Token) → wide_token o ≡ Some v → Low v
    wide None v e = cc
    wide (Some l) v e = let q : Tail l.bounds l.more ≡ v = cc in subst Low q tt
next_low Escape u c w n = pick Low (eqb c 117) (Hex 3) (cond (is_escape c) (Some Chars) None) tt (pick Low (is_escape c) Chars None tt (none Low)) u n
next_low (Hex zero) u c w n = pick Low (is_hex c) Chars None tt (none Low) u n
next_low (Hex (suc k)) u c w n = pick Low (is_hex c) (Hex k) None tt (none Low) u n
next_low (Tail x zero) u c w n = pick Low (within x c) Chars None tt (none Low) u n
next_low (Tail x (suc k)) u c w n = pick Low (within x c) (Tail Any k) None tt (none Low) u n

pub first_low : (u : Token) (c : ℕ) → first c ≡ Some u → LowToken (Some u)
unfolding first
first_low u c n =
    pick Low (eqb c 34) Chars _ tt (pick Low (eqb c 45) Minus _ tt (pick Low (eqb c 48) Zero _ tt (pick Low (between 49 57 c) Int _ tt
    (pick Low (eqb c 116) (Word 114 (117 ∷ (101 ∷ []))) _ (omega arith, (omega arith, (omega arith, tt)))
    (pick Low (eqb c 102) (Word 97 (108 ∷ (115 ∷ (101 ∷ [])))) _ (omega arith, (omega arith, (omega arith, (omega arith, tt))))
    (pick Low (eqb c 110) (Word 117 (108 ∷ (108 ∷ []))) None (omega arith, (omega arith, (omega arith, tt))) (none Low))))))) u n

-- a token in the tail of a character comes from its first byte or from one token before
abbrev pub FromTail : Token → ℕ → Token → Type 0
FromTail k c u = (w : Bounds) (n : ℕ) → u ≡ Tail w n → ((l : Lead) × (lead c ≡ Some l) × (w ≡ l.bounds) × (n ≡ l.more)) ⊎ ((v : Bounds) × (k ≡ Tail v (suc n)) × (within v c ≡ true) × (w ≡ Any))

pub next_tail : (k u : Token) (c : ℕ) → next k c ≡ Some u → FromTail k c u
unfolding next
next_tail Closed u c n = cc
next_tail (Word a []) u c n = pick (FromTail (Word a []) c) (eqb c a) Closed None (λ w m e. cc) (none (FromTail (Word a []) c)) u n
next_tail (Word a (b ∷ y)) u c n = pick (FromTail (Word a (b ∷ y)) c) (eqb c a) (Word b y) None (λ w m e. cc) (none (FromTail (Word a (b ∷ y)) c)) u n
next_tail Minus u c n = let P = FromTail Minus c in pick P (eqb c 48) Zero (cond (between 49 57 c) (Some Int) None) (λ w m e. cc) (pick P (between 49 57 c) Int None (λ w m e. cc) (none P)) u n
next_tail Zero u c n = let P = FromTail Zero c in pick P (eqb c 46) Dot (cond (is_e c) (Some E) None) (λ w m e. cc) (pick P (is_e c) E None (λ w m e. cc) (none P)) u n
next_tail Int u c n = let P = FromTail Int c in pick P (is_digit c) Int (cond (eqb c 46) (Some Dot) (cond (is_e c) (Some E) None)) (λ w m e. cc) (pick P (eqb c 46) Dot (cond (is_e c) (Some E) None) (λ w m e. cc) (pick P (is_e c) E None (λ w m e. cc) (none P))) u n
next_tail Dot u c n = let P = FromTail Dot c in pick P (is_digit c) Frac None (λ w m e. cc) (none P) u n
next_tail Frac u c n = let P = FromTail Frac c in pick P (is_digit c) Frac (cond (is_e c) (Some E) None) (λ w m e. cc) (pick P (is_e c) E None (λ w m e. cc) (none P)) u n
next_tail E u c n = let P = FromTail E c in pick P (is_digit c) Exp (cond (eqb c 43 || eqb c 45) (Some Sign) None) (λ w m e. cc) (pick P (eqb c 43 || eqb c 45) Sign None (λ w m e. cc) (none P)) u n
next_tail Sign u c n = let P = FromTail Sign c in pick P (is_digit c) Exp None (λ w m e. cc) (none P) u n
next_tail Exp u c n = let P = FromTail Exp c in pick P (is_digit c) Exp None (λ w m e. cc) (none P) u n
next_tail Chars u c n = let P = FromTail Chars c in pick P (eqb c 34) Closed (cond (eqb c 92) (Some Escape) (cond (is_plain c) (Some Chars) (wide_token (lead c)))) (λ w m e. cc) (pick P (eqb c 92) Escape (cond (is_plain c) (Some Chars) (wide_token (lead c))) (λ w m e. cc) (pick P (is_plain c) Chars (wide_token (lead c)) (λ w m e. cc) (wide (lead c) refl))) u n
  where
    wide : (o : Option Lead) → lead c ≡ o → (v : Token) → wide_token o ≡ Some v → FromTail Chars c v
    wide None d v e = cc
    wide (Some l) d v e = λ w m q. let r : Tail l.bounds l.more ≡ Tail w m = cc in inl (l, d, (let a : l.bounds ≡ w = cc in sym a), (let b : l.more ≡ m = cc in sym b))
next_tail Escape u c n = let P = FromTail Escape c in pick P (eqb c 117) (Hex 3) (cond (is_escape c) (Some Chars) None) (λ w m e. cc) (pick P (is_escape c) Chars None (λ w m e. cc) (none P)) u n
next_tail (Hex zero) u c n = let P = FromTail (Hex zero) c in pick P (is_hex c) Chars None (λ w m e. cc) (none P) u n
next_tail (Hex (suc k)) u c n = let P = FromTail (Hex (suc k)) c in pick P (is_hex c) (Hex k) None (λ w m e. cc) (none P) u n
next_tail (Tail x zero) u c n = let P = FromTail (Tail x zero) c in pick P (within x c) Chars None (λ w m e. cc) (none P) u n
next_tail (Tail x (suc k)) u c n = go (within x c) refl n
  where
    go : (p : Bool) → within x c ≡ p → cond p (Some (Tail Any k)) None ≡ Some u → FromTail (Tail x (suc k)) c u
    go true d e = λ w m q. let r : Tail Any k ≡ Tail w m = cc in let a : Any ≡ w = cc in let b : k ≡ m = cc in inr (x, ap (λ z. Tail x (suc z)) b, d, sym a)
    go false d e = cc

pub first_tail : (u : Token) (c : ℕ) → first c ≡ Some u → (w : Bounds) (n : ℕ) → u ≡ Tail w n → ⊥
unfolding first
first_tail u c n =
    let P : Token → Type 0 = λ u. (w : Bounds) (n : ℕ) → u ≡ Tail w n → ⊥ in
    pick P (eqb c 34) Chars _ (λ w m e. cc) (pick P (eqb c 45) Minus _ (λ w m e. cc) (pick P (eqb c 48) Zero _ (λ w m e. cc) (pick P (between 49 57 c) Int _ (λ w m e. cc)
    (pick P (eqb c 116) (Word 114 (117 ∷ (101 ∷ []))) _ (λ w m e. cc) (pick P (eqb c 102) (Word 97 (108 ∷ (115 ∷ (101 ∷ [])))) _ (λ w m e. cc)
    (pick P (eqb c 110) (Word 117 (108 ∷ (108 ∷ []))) None (λ w m e. cc) (none P))))))) u n
