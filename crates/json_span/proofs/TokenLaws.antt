-- Where strings, numbers and literals end, and their first bytes.
use Rattle.std.proofs.Common.{◌≡◌, ℕ, Bool, true, false, ◌||◌, cond, eqb, List, [], ◌∷◌, ◌++◌, refl, sym, ap, ◌∙◌, suc, subst, inl, inr, Option, Some, None}
use Rattle.std.proofs.lemmas.Bool.{eqb-true}
use Rattle.json_span.specs.Numbers.{AreSomeDigits, IsExp, IsInt, IsSign, IsUnsigned, between}
use Rattle.json_span.specs.Strings.{AreHex, AreTail, CharKind, EndsString, IsChar, Long, Plain, Short, Wide}
use Rattle.json_span.specs.Json.{IsScalar, Then, is_space}
use Rattle.json_span.specs.Machine.{Chars, Closed, Colon, Comma, Dot, E, EndArray, EndObject, Ends, Escape, Exp, Follows, Frac, Hex, InString, Int, Minus, Sign, Space, Tail, Token, Word, Zero, done, first, next}
use Rattle.json_span.proofs.TokenForth.{apart}
use Rattle.json_span.proofs.TokenBack.{unsigned_of}

-- All of strings, numbers and words.

then_nil : (P Q : List ℕ → Type 0) → Then P Q [] → P [] × Q []
then_nil P Q h = go h.0 h.1 h.2 h.3 h.4
  where
    go : (x y : List ℕ) → P x → [] ≡ x ++ y → Q y → P [] × Q []
    go [] y p e q = (p, subst Q (sym e) q)
    go (a ∷ x) y p e q = cc

unsigned_some : IsUnsigned [] → ⊥
unsigned_some i = go i.int i.int_is i.text
  where
    go : (w : List ℕ) → IsInt w → [] ≡ w ++ (i.frac ++ i.exp) → ⊥
    go [] (inl e) t = cc
    go [] (inr k) t = let e = k.2 in cc
    go (a ∷ w) k t = cc

char_some : (k : CharKind) → IsChar k [] → ⊥
char_some Plain i = let e = i.1 in cc
char_some Short i = let e = i.1 in cc
char_some Long i = let e = i.1 in cc
char_some Wide i = let e = i.3 in cc

string_some : InString [] → ⊥
string_some h = go h.0 h.1
  where
    go : (ks : List CharKind) → EndsString ks [] → ⊥
    go [] e = cc
    go (k ∷ ks) e = char_some k (then_nil (IsChar k) (EndsString ks) e).0

digits_some : AreSomeDigits [] → ⊥
digits_some h = let e = h.2 in cc

pub token_ended : (t : Token) → Ends t [] → done t ≡ true
token_ended Closed h = refl
token_ended (Word a y) h = cc
token_ended Minus h = absurd (unsigned_some h)
token_ended Zero h = refl
token_ended Int h = refl
token_ended Dot h = absurd (digits_some (then_nil AreSomeDigits IsExp h).0)
token_ended Frac h = refl
token_ended E h = absurd (digits_some (then_nil IsSign AreSomeDigits h).1)
token_ended Sign h = absurd (digits_some h)
token_ended Exp h = refl
token_ended Chars h = absurd (string_some h)
token_ended Escape (inl h) = let e = h.2.1 in cc
token_ended Escape (inr h) = let e = h.1 in cc
token_ended (Hex n) h = absurd (string_some (then_nil (AreHex (suc n)) InString h).1)
token_ended (Tail w n) h = absurd (string_some (then_nil (AreTail w n) InString h).1)

pub token_ends : (t : Token) → done t ≡ true → Ends t []
token_ends Closed e = refl
token_ends Zero e = ([], [], inl refl, refl, inl refl)
token_ends Int e = ([], [], tt, refl, ([], [], inl refl, refl, inl refl))
token_ends Frac e = ([], [], tt, refl, inl refl)
token_ends Exp e = tt
token_ends (Word a y) e = cc
token_ends Minus e = cc
token_ends Dot e = cc
token_ends E e = cc
token_ends Sign e = cc
token_ends Chars e = cc
token_ends Escape e = cc
token_ends (Hex n) e = cc
token_ends (Tail w n) e = cc

pub of_space : (P : ℕ → Type 0) → P 32 → P 9 → P 10 → P 13 → (c : ℕ) → is_space c ≡ true → P c
of_space P a b d e c h = go (eqb c 32) refl (eqb c 9) refl (eqb c 10) refl (eqb c 13) refl h
  where
    go : (p : Bool) → eqb c 32 ≡ p → (q : Bool) → eqb c 9 ≡ q → (r : Bool) → eqb c 10 ≡ r → (s : Bool) → eqb c 13 ≡ s → ((p || q) || (r || s)) ≡ true → P c
    go true dp q dq r dr s ds h = subst P (sym (eqb-true c 32 dp)) a
    go false dp true dq r dr s ds h = subst P (sym (eqb-true c 9 dq)) b
    go false dp false dq true dr s ds h = subst P (sym (eqb-true c 10 dr)) d
    go false dp false dq false dr true ds h = subst P (sym (eqb-true c 13 ds)) e
    go false dp false dq false dr false ds h = cc

of_follow : (P : ℕ → Type 0) → P 32 → P 9 → P 10 → P 13 → P 44 → P 93 → P 125 → P 58 → (c : ℕ) → Follows c → P c
of_follow P a b d e f g i j c (Space h) = of_space P a b d e c h
of_follow P a b d e f g i j c (Comma h) = subst P (sym h) f
of_follow P a b d e f g i j c (EndArray h) = subst P (sym h) g
of_follow P a b d e f g i j c (EndObject h) = subst P (sym h) i
of_follow P a b d e f g i j c (Colon h) = subst P (sym h) j

pub token_stops : (t : Token) (c : ℕ) → done t ≡ true → Follows c → next t c ≡ None
unfolding next
token_stops Closed c e f = refl
token_stops Zero c e f = of_follow (λ c. next Zero c ≡ None) refl refl refl refl refl refl refl refl c f
token_stops Int c e f = of_follow (λ c. next Int c ≡ None) refl refl refl refl refl refl refl refl c f
token_stops Frac c e f = of_follow (λ c. next Frac c ≡ None) refl refl refl refl refl refl refl refl c f
token_stops Exp c e f = of_follow (λ c. next Exp c ≡ None) refl refl refl refl refl refl refl refl c f
token_stops (Word a y) c e f = cc
token_stops Minus c e f = cc
token_stops Dot c e f = cc
token_stops E c e f = cc
token_stops Sign c e f = cc
token_stops Chars c e f = cc
token_stops Escape c e f = cc
token_stops (Hex n) c e f = cc
token_stops (Tail w n) c e f = cc

pub first_not : (c : ℕ) → is_space c ≡ true → first c ≡ None
unfolding first
first_not c h = of_space (λ c. first c ≡ None) refl refl refl refl c h

pub scalar_forth : (c : ℕ) (b : List ℕ) → IsScalar (c ∷ b) → (u : Token) × (first c ≡ Some u) × Ends u b
unfolding first
scalar_forth c b (inl h) = let e = h.2 in let q : c ≡ 34 = cc in let s : b ≡ h.0 = cc in (Chars, subst (λ z. first z ≡ Some Chars) (sym q) refl, subst InString (sym s) (h.1, h.3))
scalar_forth c b (inr (inl (inl i))) = go i.int i.int_is i.text
  where
    go : (w : List ℕ) → IsInt w → c ∷ b ≡ w ++ (i.frac ++ i.exp) → (u : Token) × (first c ≡ Some u) × Ends u b
    go w (inl e) t =
        let r : c ∷ b ≡ 48 ∷ (i.frac ++ i.exp) = t ∙ ap (λ z. z ++ (i.frac ++ i.exp)) e in
        let q : c ≡ 48 = cc in
        let s : b ≡ i.frac ++ i.exp = cc in
        (Zero, subst (λ z. first z ≡ Some Zero) (sym q) refl, (i.frac, i.exp, i.frac_is, s, i.exp_is))
    go w (inr k) t =
        let r : c ∷ b ≡ k.0 ∷ (k.1 ++ (i.frac ++ i.exp)) = t ∙ ap (λ z. z ++ (i.frac ++ i.exp)) k.2 in
        let q : k.0 ≡ c = cc in
        let s : b ≡ k.1 ++ (i.frac ++ i.exp) = cc in
        let d : between 49 57 c ≡ true = subst (λ z. between 49 57 z ≡ true) q k.3 in
        let l : eqb c 34 ≡ false = apart (between 49 57) c 34 refl d in
        let m : eqb c 45 ≡ false = apart (between 49 57) c 45 refl d in
        let n : eqb c 48 ≡ false = apart (between 49 57) c 48 refl d in
        (Int, rw (l, m, n, d) refl, (k.1, i.frac ++ i.exp, k.4, s, (i.frac, i.exp, i.frac_is, refl, i.exp_is)))
scalar_forth c b (inr (inl (inr h))) = let e = h.1 in let q : c ≡ 45 = cc in let s : b ≡ h.0 = cc in (Minus, subst (λ z. first z ≡ Some Minus) (sym q) refl, subst IsUnsigned (sym s) h.2)
scalar_forth c b (inr (inr (inl e))) = let q : c ≡ 116 = cc in let s : b ≡ 114 ∷ (117 ∷ (101 ∷ [])) = cc in (Word 114 (117 ∷ (101 ∷ [])), subst (λ z. first z ≡ Some (Word 114 (117 ∷ (101 ∷ [])))) (sym q) refl, s)
scalar_forth c b (inr (inr (inr (inl e)))) = let q : c ≡ 102 = cc in let s : b ≡ 97 ∷ (108 ∷ (115 ∷ (101 ∷ []))) = cc in (Word 97 (108 ∷ (115 ∷ (101 ∷ []))), subst (λ z. first z ≡ Some (Word 97 (108 ∷ (115 ∷ (101 ∷ []))))) (sym q) refl, s)
scalar_forth c b (inr (inr (inr (inr e)))) = let q : c ≡ 110 = cc in let s : b ≡ 117 ∷ (108 ∷ (108 ∷ [])) = cc in (Word 117 (108 ∷ (108 ∷ [])), subst (λ z. first z ≡ Some (Word 117 (108 ∷ (108 ∷ [])))) (sym q) refl, s)

pub scalar_some : IsScalar [] → ⊥
scalar_some (inl h) = let e = h.2 in cc
scalar_some (inr (inl (inl h))) = unsigned_some h
scalar_some (inr (inl (inr h))) = let e = h.1 in cc
scalar_some (inr (inr (inl h))) = cc
scalar_some (inr (inr (inr (inl h)))) = cc
scalar_some (inr (inr (inr (inr h)))) = cc

pub scalar_back : (u : Token) (c : ℕ) (b : List ℕ) → first c ≡ Some u → Ends u b → IsScalar (c ∷ b)
unfolding first
scalar_back u c b e h = go (eqb c 34) refl (eqb c 45) refl (eqb c 48) refl (between 49 57 c) refl (eqb c 116) refl (eqb c 102) refl (eqb c 110) refl e
  where
    at : (t : Token) → t ≡ u → Ends t b
    at t q = subst (λ v. Ends v b) (sym q) h

    int : between 49 57 c ≡ true → Ends Int b → IsUnsigned (c ∷ b)
    int d k = subst (λ z. IsUnsigned (c ∷ z)) (sym k.3) (unsigned_of (c ∷ k.0) k.1 (inr (c, k.0, refl, d, k.2)) k.4)

    move : (n : ℕ) → eqb c n ≡ true → IsScalar (n ∷ b) → IsScalar (c ∷ b)
    move n q i = subst (λ z. IsScalar (z ∷ b)) (sym (eqb-true c n q)) i

    go : (p : Bool) → eqb c 34 ≡ p → (q : Bool) → eqb c 45 ≡ q → (r : Bool) → eqb c 48 ≡ r → (s : Bool) → between 49 57 c ≡ s → (t : Bool) → eqb c 116 ≡ t → (f : Bool) → eqb c 102 ≡ f → (n : Bool) → eqb c 110 ≡ n → cond {A = Option Token} p (Some Chars) (cond q (Some Minus) (cond r (Some Zero) (cond s (Some Int) (cond t (Some (Word 114 (117 ∷ (101 ∷ [])))) (cond f (Some (Word 97 (108 ∷ (115 ∷ (101 ∷ []))))) (cond n (Some (Word 117 (108 ∷ (108 ∷ [])))) None)))))) ≡ Some u → IsScalar (c ∷ b)
    go true dp q dq r dr s ds t dt f df n dn e = let k = at Chars cc in move 34 dp (inl (b, k.0, refl, k.1))
    go false dp true dq r dr s ds t dt f df n dn e = move 45 dq (inr (inl (inr (b, refl, at Minus cc))))
    go false dp false dq true dr s ds t dt f df n dn e = move 48 dr (inr (inl (inl (unsigned_of (48 ∷ []) b (inl refl) (at Zero cc)))))
    go false dp false dq false dr true ds t dt f df n dn e = inr (inl (inl (int ds (at Int cc))))
    go false dp false dq false dr false ds true dt f df n dn e = let k : b ≡ 114 ∷ (117 ∷ (101 ∷ [])) = at (Word 114 (117 ∷ (101 ∷ []))) cc in move 116 dt (inr (inr (inl (ap (λ z. 116 ∷ z) k))))
    go false dp false dq false dr false ds false dt true df n dn e = let k : b ≡ 97 ∷ (108 ∷ (115 ∷ (101 ∷ []))) = at (Word 97 (108 ∷ (115 ∷ (101 ∷ [])))) cc in move 102 df (inr (inr (inr (inl (ap (λ z. 102 ∷ z) k)))))
    go false dp false dq false dr false ds false dt false df true dn e = let k : b ≡ 117 ∷ (108 ∷ (108 ∷ [])) = at (Word 117 (108 ∷ (108 ∷ []))) cc in move 110 dn (inr (inr (inr (inr (ap (λ z. 110 ∷ z) k)))))
    go false dp false dq false dr false ds false dt false df false dn e = cc
