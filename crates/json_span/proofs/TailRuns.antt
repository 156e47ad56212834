-- The machine is in the tail of a character of several bytes exactly where such a character is begun and not ended.
use Rattle.std.proofs.Common.{◌≡◌, ◌≢◌, ℕ, ◌<◌, Bool, true, false, cond, eqb, List, [], ◌∷◌, ◌++◌, refl, sym, ap, ◌∙◌, suc, zero, subst, inl, inr, arith, ◌⊎◌, Option, Some, None}
use Rattle.std.proofs.lemmas.Bool.{eqb-true}
use Rattle.json_span.specs.Strings.{Bounds, Any, within, Lead, lead, AreTail, Wide, IsChar, IsBegun}
use Rattle.json_span.specs.Json.{is_space}
use Rattle.json_span.specs.Machine.{Bracket, Array, Object, Token, Closed, Chars, Tail, done, next, first, State, Value, First, Names, Name, InName, In, Bad, Step, Goes, Fails, or_else, begin_array, begin_object, begin, after_value, step, Going, onward, run, token_in, is_tail}
use Rattle.json_span.proofs.TokenForth.{lead_low}
use Rattle.json_span.proofs.TokenLaws.{of_space}
use Rattle.json_span.proofs.RunLaws.{tail_live}
use Rattle.json_span.proofs.TailLaws.{LowToken, lead_next, lead_first, next_low, first_low, next_tail, first_tail}

abbrev Quiet : Option Token → Type 0
Quiet o = (o ≡ None) ⊎ ((o ≡ Some Closed) ⊎ (o ≡ Some Chars))

-- what a byte does to the token: an ASCII byte of the structure, the first byte of a scalar, or a further byte of a token
data Taken (s : State) (c : ℕ) (t : State) : Type 0 where
  Shape : c < 194 → Quiet (token_in t) → Taken s c t
  Start : (u : Token) → first c ≡ Some u → token_in t ≡ Some u → Taken s c t
  On : (k u : Token) → token_in s ≡ Some k → next k c ≡ Some u → token_in t ≡ Some u → Taken s c t

shape : (s v t : State) (c : ℕ) → c < 194 → Quiet (token_in v) → Goes v ≡ Goes t → Taken s c t
shape s v t c l q e = let r : v ≡ t = cc in Shape l (subst (λ z. Quiet (token_in z)) r q)

byte_low : (n c : ℕ) → n < 194 → eqb c n ≡ true → c < 194
byte_low n c h e = subst (λ z. z < 194) (sym (eqb-true c n e)) h

space_low : (c : ℕ) → is_space c ≡ true → c < 194
space_low c e = of_space (λ z. z < 194) (omega arith) (omega arith) (omega arith) (omega arith) c e

taken_begin : (s t : State) (d : ℕ) (st : List Bracket) (c : ℕ) → begin d st c ≡ Goes t → Taken s c t
unfolding begin
taken_begin s t d st c e = go (eqb c 91) refl (eqb c 123) refl (first c) refl e
  where
    array : (d : ℕ) → c < 194 → begin_array d st ≡ Goes t → Taken s c t
    array zero l e = cc
    array (suc d) l e = shape s (First d st) t c l (inl refl) e

    object : (d : ℕ) → c < 194 → begin_object d st ≡ Goes t → Taken s c t
    object zero l e = cc
    object (suc d) l e = shape s (Names d st) t c l (inl refl) e

    go : (p : Bool) → eqb c 91 ≡ p → (q : Bool) → eqb c 123 ≡ q → (o : Option Token) → first c ≡ o → cond p (begin_array d st) (cond q (begin_object d st) (or_else o (λ t. In t d st) (Fails Bad))) ≡ Goes t → Taken s c t
    go true dp q dq o do' e = array d (byte_low 91 c (omega arith) dp) e
    go false dp true dq o do' e = object d (byte_low 123 c (omega arith) dq) e
    go false dp false dq (Some u) do' e = Start u do' (let r : In u d st ≡ t = cc in ap token_in (sym r))
    go false dp false dq None do' e = cc

taken_after_value : (s t : State) (st : List Bracket) (d c : ℕ) → after_value st d c ≡ Goes t → Taken s c t
unfolding after_value
taken_after_value s t [] d c e = cc
taken_after_value s t (Array ∷ st) d c e = go (is_space c) refl (eqb c 44) refl (eqb c 93) refl e
  where
    go : (p : Bool) → is_space c ≡ p → (q : Bool) → eqb c 44 ≡ q → (r : Bool) → eqb c 93 ≡ r → cond p (Goes (In Closed d (Array ∷ st))) (cond q (Goes (Value d (Array ∷ st))) (cond r (Goes (In Closed (suc d) st)) (Fails Bad))) ≡ Goes t → Taken s c t
    go true dp q dq r dr e = shape s (In Closed d (Array ∷ st)) t c (space_low c dp) (inr (inl refl)) e
    go false dp true dq r dr e = shape s (Value d (Array ∷ st)) t c (byte_low 44 c (omega arith) dq) (inl refl) e
    go false dp false dq true dr e = shape s (In Closed (suc d) st) t c (byte_low 93 c (omega arith) dr) (inr (inl refl)) e
    go false dp false dq false dr e = cc
taken_after_value s t (Object ∷ st) d c e = go (is_space c) refl (eqb c 44) refl (eqb c 125) refl e
  where
    go : (p : Bool) → is_space c ≡ p → (q : Bool) → eqb c 44 ≡ q → (r : Bool) → eqb c 125 ≡ r → cond p (Goes (In Closed d (Object ∷ st))) (cond q (Goes (Name d st)) (cond r (Goes (In Closed (suc d) st)) (Fails Bad))) ≡ Goes t → Taken s c t
    go true dp q dq r dr e = shape s (In Closed d (Object ∷ st)) t c (space_low c dp) (inr (inl refl)) e
    go false dp true dq r dr e = shape s (Name d st) t c (byte_low 44 c (omega arith) dq) (inl refl) e
    go false dp false dq true dr e = shape s (In Closed (suc d) st) t c (byte_low 125 c (omega arith) dr) (inr (inl refl)) e
    go false dp false dq false dr e = cc

taken : (s t : State) (c : ℕ) → step s c ≡ Goes t → Taken s c t
unfolding step
taken (Value d st) t c e = go (is_space c) refl e
  where
    go : (p : Bool) → is_space c ≡ p → cond p (Goes (Value d st)) (begin d st c) ≡ Goes t → Taken (Value d st) c t
    go true dp e = shape (Value d st) (Value d st) t c (space_low c dp) (inl refl) e
    go false dp e = taken_begin (Value d st) t d st c e
taken (First d st) t c e = go (is_space c) refl (eqb c 93) refl e
  where
    go : (p : Bool) → is_space c ≡ p → (q : Bool) → eqb c 93 ≡ q → cond p (Goes (First d st)) (cond q (Goes (In Closed (suc d) st)) (begin d (Array ∷ st) c)) ≡ Goes t → Taken (First d st) c t
    go true dp q dq e = shape (First d st) (First d st) t c (space_low c dp) (inl refl) e
    go false dp true dq e = shape (First d st) (In Closed (suc d) st) t c (byte_low 93 c (omega arith) dq) (inr (inl refl)) e
    go false dp false dq e = taken_begin (First d st) t d (Array ∷ st) c e
taken (Names d st) t c e = go (is_space c) refl (eqb c 125) refl (eqb c 34) refl e
  where
    go : (p : Bool) → is_space c ≡ p → (q : Bool) → eqb c 125 ≡ q → (r : Bool) → eqb c 34 ≡ r → cond p (Goes (Names d st)) (cond q (Goes (In Closed (suc d) st)) (cond r (Goes (InName Chars d st)) (Fails Bad))) ≡ Goes t → Taken (Names d st) c t
    go true dp q dq r dr e = shape (Names d st) (Names d st) t c (space_low c dp) (inl refl) e
    go false dp true dq r dr e = shape (Names d st) (In Closed (suc d) st) t c (byte_low 125 c (omega arith) dq) (inr (inl refl)) e
    go false dp false dq true dr e = shape (Names d st) (InName Chars d st) t c (byte_low 34 c (omega arith) dr) (inr (inr refl)) e
    go false dp false dq false dr e = cc
taken (Name d st) t c e = go (is_space c) refl (eqb c 34) refl e
  where
    go : (p : Bool) → is_space c ≡ p → (r : Bool) → eqb c 34 ≡ r → cond p (Goes (Name d st)) (cond r (Goes (InName Chars d st)) (Fails Bad)) ≡ Goes t → Taken (Name d st) c t
    go true dp r dr e = shape (Name d st) (Name d st) t c (space_low c dp) (inl refl) e
    go false dp true dr e = shape (Name d st) (InName Chars d st) t c (byte_low 34 c (omega arith) dr) (inr (inr refl)) e
    go false dp false dr e = cc
taken (InName k d st) t c e = go (next k c) refl (done k) (is_space c) refl (eqb c 58) refl e
  where
    go : (o : Option Token) → next k c ≡ o → (i p : Bool) → is_space c ≡ p → (q : Bool) → eqb c 58 ≡ q → or_else o (λ u. InName u d st) (cond i (cond p (Goes (InName Closed d st)) (cond q (Goes (Value d (Object ∷ st))) (Fails Bad))) (Fails Bad)) ≡ Goes t → Taken (InName k d st) c t
    go (Some u) do' i p dp q dq e = On k u refl do' (let r : InName u d st ≡ t = cc in ap token_in (sym r))
    go None do' true true dp q dq e = shape (InName k d st) (InName Closed d st) t c (space_low c dp) (inr (inl refl)) e
    go None do' true false dp true dq e = shape (InName k d st) (Value d (Object ∷ st)) t c (byte_low 58 c (omega arith) dq) (inl refl) e
    go None do' true false dp false dq e = cc
    go None do' false p dp q dq e = cc
taken (In k d st) t c e = go (next k c) refl (done k) e
  where
    go : (o : Option Token) → next k c ≡ o → (i : Bool) → or_else o (λ u. In u d st) (cond i (after_value st d c) (Fails Bad)) ≡ Goes t → Taken (In k d st) c t
    go (Some u) do' i e = On k u refl do' (let r : In u d st ≡ t = cc in ap token_in (sym r))
    go None do' true e = taken_after_value (In k d st) t st d c e
    go None do' false e = cc

-- words are ASCII all along
quiet_low : (o : Option Token) → Quiet o → LowToken o
quiet_low o (inl e) = subst LowToken (sym e) tt
quiet_low o (inr (inl e)) = subst LowToken (sym e) tt
quiet_low o (inr (inr e)) = subst LowToken (sym e) tt

step_low : (s t : State) (c : ℕ) → LowToken (token_in s) → Taken s c t → LowToken (token_in t)
step_low s t c w (Shape l q) = quiet_low (token_in t) q
step_low s t c w (Start u f e) = subst LowToken (sym e) (first_low u c f)
step_low s t c w (On k u a n e) = subst LowToken (sym e) (next_low k u c (subst LowToken a w) n)

run_low : (s t : State) (x : List ℕ) → LowToken (token_in s) → run s x ≡ Going t → LowToken (token_in t)
run_low s t [] w e = let q : s ≡ t = cc in subst (λ z. LowToken (token_in z)) q w
run_low s t (c ∷ x) w e = go (step s c) refl (λ u. run_low u t x) e
  where
    go : (p : Step) → step s c ≡ p → ((u : State) → LowToken (token_in u) → run u x ≡ Going t → LowToken (token_in t)) → onward p (λ u. run u x) ≡ Going t → LowToken (token_in t)
    go (Goes u) q k f = k u (step_low s u c w (taken s u c q)) f
    go (Fails w) q k f = cc

-- the first byte of several
lead_high : (c : ℕ) (l : Lead) → lead c ≡ Some l → c < 194 → ⊥
lead_high c l e h = let k : lead c ≡ None = lead_low c h in cc

lead_step : (s t : State) (c : ℕ) (l : Lead) → LowToken (token_in s) → lead c ≡ Some l → Taken s c t → token_in t ≡ Some (Tail l.bounds l.more)
lead_step s t c l w e (Shape h q) = absurd (lead_high c l e h)
lead_step s t c l w e (Start u f q) = absurd (lead_first u c l e f)
lead_step s t c l w e (On k u a n q) = q ∙ ap (λ z. Some z) (lead_next k u c l (subst LowToken a w) e n)

tail_step : (s t : State) (w : Bounds) (m c : ℕ) → token_in s ≡ Some (Tail w (suc m)) → within w c ≡ true → step s c ≡ Goes t → token_in t ≡ Some (Tail Any m)
unfolding step next
tail_step (InName k d st) t w m c e i f =
    let q : k ≡ Tail w (suc m) = cc in
    let g : step (InName (Tail w (suc m)) d st) c ≡ Goes t = subst (λ z. step (InName z d st) c ≡ Goes t) q f in
    let h : step (InName (Tail w (suc m)) d st) c ≡ Goes (InName (Tail Any m) d st) = rw i refl in
    let r : t ≡ InName (Tail Any m) d st = let a : Goes t ≡ Goes (InName (Tail Any m) d st) = sym g ∙ h in cc in
    ap token_in r
tail_step (In k d st) t w m c e i f =
    let q : k ≡ Tail w (suc m) = cc in
    let g : step (In (Tail w (suc m)) d st) c ≡ Goes t = subst (λ z. step (In z d st) c ≡ Goes t) q f in
    let h : step (In (Tail w (suc m)) d st) c ≡ Goes (In (Tail Any m) d st) = rw i refl in
    let r : t ≡ In (Tail Any m) d st = let a : Goes t ≡ Goes (In (Tail Any m) d st) = sym g ∙ h in cc in
    ap token_in r
tail_step (Value d st) t w m c e i f = cc
tail_step (First d st) t w m c e i f = cc
tail_step (Names d st) t w m c e i f = cc
tail_step (Name d st) t w m c e i f = cc

-- After bytes that begin a character and do not end it the machine is in its tail.
run_tail : (u t : State) (w : Bounds) (n : ℕ) (y z : List ℕ) → token_in u ≡ Some (Tail w n) → run u y ≡ Going t → AreTail w n (y ++ z) → z ≢ [] → is_tail (token_in t) ≡ true
run_tail u t w n [] z a e h i = let q : u ≡ t = cc in subst (λ v. is_tail (token_in v) ≡ true) q (ap is_tail a)
run_tail u t w zero (c ∷ y) z a e h i = absurd (i (empty y z (let q = h.1 in cc)))
  where
    empty : (y z : List ℕ) → y ++ z ≡ [] → z ≡ []
    empty [] z e = e
    empty (c ∷ y) z e = cc
run_tail u t w (suc m) (c ∷ y) z a e h i = go (step u c) refl (λ v q. run_tail v t Any m y z q) e
  where
    here : within w c ≡ true
    here = let q : h.0 ≡ c = let r = h.2 in cc in subst (λ v. within w v ≡ true) q h.3

    rest : AreTail Any m (y ++ z)
    rest = let q : h.1 ≡ y ++ z = let r = h.2 in cc in subst (AreTail Any m) q h.4

    go : (p : Step) → step u c ≡ p → ((v : State) → token_in v ≡ Some (Tail Any m) → run v y ≡ Going t → AreTail Any m (y ++ z) → z ≢ [] → is_tail (token_in t) ≡ true) → onward p (λ v. run v y) ≡ Going t → is_tail (token_in t) ≡ true
    go (Goes v) q k f = k v (tail_step u v w m c a here q) f rest i
    go (Fails x) q k f = cc

begun_run : (s t : State) (x : List ℕ) → LowToken (token_in s) → run s x ≡ Going t → IsBegun x → is_tail (token_in t) ≡ true
begun_run s t [] w e b = absurd (b.2 refl)
begun_run s t (c ∷ y) w e b = go (step s c) refl e
  where
    i : IsChar Wide ((c ∷ y) ++ b.0)
    i = b.1

    same : c ≡ i.0
    same = let q = i.3 in cc

    rest : y ++ b.0 ≡ i.1
    rest = let q = i.3 in cc

    go : (p : Step) → step s c ≡ p → onward p (λ v. run v y) ≡ Going t → is_tail (token_in t) ≡ true
    go (Goes v) q f =
        let l : lead c ≡ Some i.2 = subst (λ z. lead z ≡ Some i.2) (sym same) i.4 in
        run_tail v t i.2.bounds i.2.more y b.0 (lead_step s v c i.2 w l (taken s v c q)) f (subst (AreTail i.2.bounds i.2.more) (sym rest) i.5) b.3
    go (Fails x) q f = cc

pub run_begun : (s u t : State) (x y : List ℕ) → LowToken (token_in s) → run s x ≡ Going u → run u y ≡ Going t → IsBegun y → is_tail (token_in t) ≡ true
run_begun s u t x y w e f b = begun_run u t y (run_low s u x w e) f b

-- And in a tail the machine is after such bytes.
record Tailed (x : List ℕ) (w : Bounds) (n : ℕ) : Type 0 where
  front : List ℕ
  first : ℕ
  seen : List ℕ
  kind : Lead
  text : x ≡ front ++ first ∷ seen
  lead_is : lead first ≡ Some kind
  ends : (z : List ℕ) → AreTail w n z → AreTail kind.bounds kind.more (seen ++ z)

abbrev Within : State → List ℕ → Bounds → ℕ → Type 0
Within s x w n = (v : Bounds) × (m : ℕ) × (token_in s ≡ Some (Tail v m)) × ((z : List ℕ) → AreTail w n z → AreTail v m (x ++ z))

quiet_tail : (o : Option Token) (w : Bounds) (n : ℕ) → Quiet o → o ≡ Some (Tail w n) → ⊥
quiet_tail o w n (inl e) q = cc
quiet_tail o w n (inr (inl e)) q = let r : Closed ≡ Tail w n = cc in cc
quiet_tail o w n (inr (inr e)) q = let r : Chars ≡ Tail w n = cc in cc

run_tailed : (s t : State) (x : List ℕ) (w : Bounds) (n : ℕ) → run s x ≡ Going t → token_in t ≡ Some (Tail w n) → Tailed x w n ⊎ Within s x w n
run_tailed s t [] w n e q = let r : s ≡ t = cc in inr (w, n, ap token_in r ∙ q, λ z a. a)
run_tailed s t (c ∷ x) w n e q = go (step s c) refl (λ u f. run_tailed u t x w n f q) e
  where
    begun : (u : State) → Taken s c u → (v : Bounds) (m : ℕ) → token_in u ≡ Some (Tail v m) → ((z : List ℕ) → AreTail w n z → AreTail v m (x ++ z)) → Tailed (c ∷ x) w n ⊎ Within s (c ∷ x) w n
    begun u (Shape l o) v m a k = absurd (quiet_tail (token_in u) v m o a)
    begun u (Start b f g) v m a k = let r : b ≡ Tail v m = let p : Some b ≡ Some (Tail v m) = sym g ∙ a in cc in absurd (first_tail b c f v m r)
    begun u (On b d f g h) v m a k =
        let r : d ≡ Tail v m = let p : Some d ≡ Some (Tail v m) = sym h ∙ a in cc in
        which (next_tail b d c g v m r)
      where
        which : ((l : Lead) × (lead c ≡ Some l) × (v ≡ l.bounds) × (m ≡ l.more)) ⊎ ((y : Bounds) × (b ≡ Tail y (suc m)) × (within y c ≡ true) × (v ≡ Any)) → Tailed (c ∷ x) w n ⊎ Within s (c ∷ x) w n
        which (inl j) = inl (record { front = []; first = c; seen = x; kind = j.0; text = refl; lead_is = j.1; ends = λ z y. subst (λ i. AreTail j.0.bounds i (x ++ z)) j.3 (subst (λ i. AreTail i m (x ++ z)) j.2 (k z y)) })
        which (inr j) = inr (j.0, suc m, f ∙ ap (λ z. Some z) j.1, λ z y. (c, x ++ z, refl, j.2, subst (λ i. AreTail i m (x ++ z)) j.3 (k z y)))

    go : (p : Step) → step s c ≡ p → ((u : State) → run u x ≡ Going t → Tailed x w n ⊎ Within u x w n) → onward p (λ u. run u x) ≡ Going t → Tailed (c ∷ x) w n ⊎ Within s (c ∷ x) w n
    go (Goes u) p k f = elim (k u f) [
      | inl i ↦ inl (record { front = c ∷ i.front; first = i.first; seen = i.seen; kind = i.kind; text = ap (λ z. c ∷ z) i.text; lead_is = i.lead_is; ends = i.ends })
      | inr i ↦ begun u (taken s u c p) i.0 i.1 i.2 i.3
    ]
    go (Fails y) p k f = cc

tail_of : (o : Option Token) → is_tail o ≡ true → (w : Bounds) × (n : ℕ) × (o ≡ Some (Tail w n))
tail_of (Some (Tail w n)) e = (w, n, refl)
tail_of (Some Closed) e = cc
tail_of (Some t) e = cc
tail_of None e = cc

some_tail : (w : Bounds) (n : ℕ) (z : List ℕ) → AreTail w n z → z ≢ []
some_tail w zero z h = λ q. let e = h.1 in cc
some_tail w (suc n) z h = λ q. let e = h.2 in cc

pub tail_begun : (t : State) (x : List ℕ) (d : ℕ) → run (Value d []) x ≡ Going t → is_tail (token_in t) ≡ true → (front cut : List ℕ) × (x ≡ front ++ cut) × IsBegun cut
tail_begun t x d e q =
    let o = tail_of (token_in t) q in
    elim (run_tailed (Value d []) t x o.0 o.1 e o.2) [
      | inl i ↦ let z = tail_live o.0 o.1 in (i.front, i.first ∷ i.seen, i.text, (z.0, (i.first, i.seen ++ z.0, i.kind, refl, i.lead_is, i.ends z.0 z.1), (λ q. cc), some_tail o.0 o.1 z.0 z.1))
      | inr i ↦ let r = i.2 in cc
    ]
