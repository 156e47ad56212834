-- A byte of what completes a state takes the machine on, to a state that the rest completes.
use Rattle.std.proofs.Common.{◌≡◌, ℕ, Bool, true, false, cond, eqb, List, [], ◌∷◌, ◌++◌, refl, sym, ap, ◌∙◌, suc, zero, subst, inl, inr, ◌⊎◌, Some, None}
use Rattle.std.proofs.lemmas.Bool.{eqb-true}
use Rattle.json_span.specs.Json.{Byte, IsEmpty, IsMember, IsScalar, Items, Json, Spaced, Then, is_space}
use Rattle.json_span.specs.Machine.{After, Array, Bad, Bracket, Chars, Closed, Colon, Comma, Completes, EndArray, EndObject, Ends, Fails, First, Follows, Goes, In, InName, InString, Name, Names, Object, Rest, Space, State, Step, Token, Value, begin, after_value, done, first, next, or_else, step}
use Rattle.json_span.proofs.TextLaws.{spaced_forth, spaced_join}
use Rattle.json_span.proofs.ItemLaws.{group_join, items_forth, member_flat}
use Rattle.json_span.proofs.TokenForth.{token_forth}
use Rattle.json_span.proofs.TokenLaws.{first_not, scalar_forth, scalar_some, token_ended, token_stops}

first_is_no_space : (u : Token) (c : ℕ) → first c ≡ Some u → is_space c ≡ false
first_is_no_space u c e = go (is_space c) refl
  where
    go : (p : Bool) → is_space c ≡ p → is_space c ≡ false
    go true q = let k : first c ≡ None = first_not c q in cc
    go false q = q

first_is_not : (u : Token) (n c : ℕ) → first n ≡ None → first c ≡ Some u → eqb c n ≡ false
first_is_not u n c k e = go (eqb c n) refl
  where
    go : (p : Bool) → eqb c n ≡ p → eqb c n ≡ false
    go true q = let r : c ≡ n = eqb-true c n q in let j : first n ≡ Some u = subst (λ z. first z ≡ Some u) r e in cc
    go false q = q

pub json_some : (d : ℕ) → Json d [] → ⊥
json_some zero h = scalar_some h
json_some (suc d) (inl h) = scalar_some h
json_some (suc d) (inr (inl h)) = let e = h.1 in cc
json_some (suc d) (inr (inr h)) = let e = h.1 in cc

-- a value and what follows it, by the value's first byte
begin_scalar : (d : ℕ) (st : List Bracket) (c : ℕ) (v y : List ℕ) → IsScalar (c ∷ v) → Rest st d y → After (begin d st c) (v ++ y) × (is_space c ≡ false)
unfolding begin first
begin_scalar d st c v y i r =
    let s = scalar_forth c v i in
    let q : first c ≡ Some s.0 = s.1 in
    let n : eqb c 91 ≡ false = first_is_not s.0 91 c refl q in
    let m : eqb c 123 ≡ false = first_is_not s.0 123 c refl q in
    let z = first_is_no_space s.0 c q in
    (go n m q (v, y, s.2, refl, r), z)
  where
    go : {u : Token} → eqb c 91 ≡ false → eqb c 123 ≡ false → first c ≡ Some u → Completes (In u d st) (v ++ y) → After (begin d st c) (v ++ y)
    go n m q k = rw (n, m, q) k

begin_forth : (d : ℕ) (st : List Bracket) (c : ℕ) (v y : List ℕ) → Json d (c ∷ v) → Rest st d y → After (begin d st c) (v ++ y) × (is_space c ≡ false)
unfolding begin
begin_forth zero st c v y i r = begin_scalar zero st c v y i r
begin_forth (suc d) st c v y (inl i) r = begin_scalar (suc d) st c v y i r
begin_forth (suc d) st c v y (inr (inl i)) r =
    let e = i.1 in
    let q : c ≡ 91 = cc in
    let w : v ≡ i.0 = cc in
    let k : Completes (First d st) (i.0 ++ y) = spaced_join (λ z. Byte 93 IsEmpty z ⊎ Then (Json d) (Items (Json d) 93) z) i.0 y (λ z. Byte 93 (Rest st (suc d)) z ⊎ Then (Json d) (Rest (Array ∷ st) d) z) (group_join (Json d) 93 (Rest st (suc d)) y r) i.2 in
    subst (λ z. After (begin (suc d) st z) (v ++ y) × (is_space z ≡ false)) (sym q) (subst (λ z. Completes (First d st) (z ++ y)) (sym w) k, refl)
begin_forth (suc d) st c v y (inr (inr i)) r =
    let e = i.1 in
    let q : c ≡ 123 = cc in
    let w : v ≡ i.0 = cc in
    let k : Completes (Names d st) (i.0 ++ y) = spaced_join (λ z. Byte 125 IsEmpty z ⊎ Then (IsMember (Json d)) (Items (IsMember (Json d)) 125) z) i.0 y (λ z. Byte 125 (Rest st (suc d)) z ⊎ Then (IsMember (Json d)) (Rest (Object ∷ st) d) z) (group_join (IsMember (Json d)) 125 (Rest st (suc d)) y r) i.2 in
    subst (λ z. After (begin (suc d) st z) (v ++ y) × (is_space z ≡ false)) (sym q) (subst (λ z. Completes (Names d st) (z ++ y)) (sym w) k, refl)

pub value_forth : (d : ℕ) (st : List Bracket) (c : ℕ) (b : List ℕ) → Then (Json d) (Rest st d) (c ∷ b) → After (begin d st c) b × (is_space c ≡ false)
value_forth d st c b h = go h.0 h.2 h.3
  where
    go : (v : List ℕ) → Json d v → c ∷ b ≡ v ++ h.1 → After (begin d st c) b × (is_space c ≡ false)
    go [] i e = absurd (json_some d i)
    go (x ∷ v) i e = let q : x ≡ c = cc in let r : b ≡ v ++ h.1 = cc in subst (λ z. After (begin d st c) z × (is_space c ≡ false)) (sym r) (begin_forth d st c v h.1 (subst (λ z. Json d (z ∷ v)) q i) h.4)

pub json_scalar : (d : ℕ) (x : List ℕ) → IsScalar x → Json d x
json_scalar zero x i = i
json_scalar (suc d) x i = inl i

-- after a value
closed : (d : ℕ) (st : List Bracket) (b : List ℕ) → Rest st d b → Completes (In Closed d st) b
closed d st b r = ([], b, refl, refl, r)

after_value_forth : (st : List Bracket) (d c : ℕ) (b : List ℕ) → Rest st d (c ∷ b) → After (after_value st d c) b × Follows c
unfolding after_value
after_value_forth [] d c b h = cc
after_value_forth (Array ∷ st) d c b h =
    elim (items_forth (Json d) 93 (Rest st (suc d)) c b h) [
      | inl s ↦ (go s.0 (closed d (Array ∷ st) b s.1), Space s.0)
      | inr (inl s) ↦ (subst (λ z. After (after_value (Array ∷ st) d z) b) (sym s.0) (closed (suc d) st b s.1), EndArray s.0)
      | inr (inr s) ↦ (subst (λ z. After (after_value (Array ∷ st) d z) b) (sym s.0) s.1, Comma s.0)
    ]
  where
    go : is_space c ≡ true → Completes (In Closed d (Array ∷ st)) b → After (after_value (Array ∷ st) d c) b
    go e k = rw e k
after_value_forth (Object ∷ st) d c b h =
    elim (items_forth (IsMember (Json d)) 125 (Rest st (suc d)) c b h) [
      | inl s ↦ (go s.0 (closed d (Object ∷ st) b s.1), Space s.0)
      | inr (inl s) ↦ (subst (λ z. After (after_value (Object ∷ st) d z) b) (sym s.0) (closed (suc d) st b s.1), EndObject s.0)
      | inr (inr s) ↦ (subst (λ z. After (after_value (Object ∷ st) d z) b) (sym s.0) s.1, Comma s.0)
    ]
  where
    go : is_space c ≡ true → Completes (In Closed d (Object ∷ st)) b → After (after_value (Object ∷ st) d c) b
    go e k = rw e k

-- a name
name_forth : (d : ℕ) (K : List ℕ → Type 0) (c : ℕ) (b : List ℕ) → Then (IsMember (Json d)) K (c ∷ b) → (c ≡ 34) × Then InString (Spaced (Byte 58 (Spaced (Then (Json d) K)))) b
name_forth d K c b h =
    let m = member_flat (Json d) K (c ∷ b) h in
    let s = m.2 in
    let e : c ∷ b ≡ (34 ∷ s.0) ++ m.1 = m.3 ∙ ap (λ z. z ++ m.1) s.2 in
    let q : c ≡ 34 = cc in
    let r : b ≡ s.0 ++ m.1 = cc in
    (q, (s.0, m.1, (s.1, s.3), r, m.4))

-- white space in front of P in one state
spaces : (s : State) (P : List ℕ → Type 0) (c : ℕ) (b : List ℕ) (o : Step) → ((x : List ℕ) → Spaced P x → Completes s x) → (P (c ∷ b) → After o b × (is_space c ≡ false)) → Spaced P (c ∷ b) → After (cond (is_space c) (Goes s) o) b
spaces s P c b o f g h =
    elim (spaced_forth P c b h) [
      | inl p ↦ let k = g p in no k.1 k.0
      | inr q ↦ yes q.0 (f b q.1)
    ]
  where
    no : is_space c ≡ false → After o b → After (cond (is_space c) (Goes s) o) b
    no e a = rw e a

    yes : is_space c ≡ true → Completes s b → After (cond (is_space c) (Goes s) o) b
    yes e a = rw e a

-- after a token
part_forth : (t : Token) (K : List ℕ → Type 0) (f : Token → State) (o : ℕ → Step) (c : ℕ) (b : List ℕ) → ((u : Token) → Then (Ends u) K b → Completes (f u) b) → (K (c ∷ b) → After (o c) b × Follows c) → Then (Ends t) K (c ∷ b) → After (or_else (next t c) f (cond (done t) (o c) (Fails Bad))) b
part_forth t K f o c b g k h = go h.0 h.2 h.3
  where
    stop : next t c ≡ None → done t ≡ true → After (o c) b → After (or_else (next t c) f (cond (done t) (o c) (Fails Bad))) b
    stop n d a = rw (n, d) a

    on : (u : Token) → next t c ≡ Some u → Completes (f u) b → After (or_else (next t c) f (cond (done t) (o c) (Fails Bad))) b
    on u n a = rw n a

    go : (x : List ℕ) → Ends t x → c ∷ b ≡ x ++ h.1 → After (or_else (next t c) f (cond (done t) (o c) (Fails Bad))) b
    go [] i e = let d = token_ended t i in let a = k (subst K (sym e) h.4) in stop (token_stops t c d a.1) d a.0
    go (z ∷ x) i e =
        let q : z ≡ c = cc in
        let r : b ≡ x ++ h.1 = cc in
        let s = token_forth t c x (subst (λ v. Ends t (v ∷ x)) q i) in
        on s.0 s.1 (g s.0 (x, h.1, s.2, r, h.4))

-- after a name
unfoldable pub colon : ℕ → List Bracket → ℕ → Step
unfolding step
colon d st c = cond (is_space c) (Goes (InName Closed d st)) (cond (eqb c 58) (Goes (Value d (Object ∷ st))) (Fails Bad))

pub forth : (s : State) (c : ℕ) (b : List ℕ) → Completes s (c ∷ b) → After (step s c) b
unfolding step colon begin first
forth (Value d st) c b h = spaces (Value d st) (Then (Json d) (Rest st d)) c b (begin d st c) (λ x p. p) (value_forth d st c b) h
forth (First d st) c b h = spaces (First d st) (λ y. Byte 93 (Rest st (suc d)) y ⊎ Then (Json d) (Rest (Array ∷ st) d) y) c b (cond (eqb c 93) (Goes (In Closed (suc d) st)) (begin d (Array ∷ st) c)) (λ x p. p) go h
  where
    not : After (begin d (Array ∷ st) c) b → After (cond (eqb c 93) (Goes (In Closed (suc d) st)) (begin d (Array ∷ st) c)) b
    not a = elim_bool (eqb c 93) refl
      where
        elim_bool : (p : Bool) → eqb c 93 ≡ p → After (cond (eqb c 93) (Goes (In Closed (suc d) st)) (begin d (Array ∷ st) c)) b
        elim_bool true e = absurd (no_bracket (eqb-true c 93 e) a)
          where
            no_bracket : c ≡ 93 → After (begin d (Array ∷ st) c) b → ⊥
            no_bracket q a = subst (λ z. After (begin d (Array ∷ st) z) b) q a
        elim_bool false e = rw e a

    go : Byte 93 (Rest st (suc d)) (c ∷ b) ⊎ Then (Json d) (Rest (Array ∷ st) d) (c ∷ b) → After (cond (eqb c 93) (Goes (In Closed (suc d) st)) (begin d (Array ∷ st) c)) b × (is_space c ≡ false)
    go (inl p) =
        let e = p.1 in
        let q : c ≡ 93 = cc in
        let r : b ≡ p.0 = cc in
        subst (λ z. After (cond (eqb z 93) (Goes (In Closed (suc d) st)) (begin d (Array ∷ st) z)) b × (is_space z ≡ false)) (sym q) (closed (suc d) st b (subst (Rest st (suc d)) (sym r) p.2), refl)
    go (inr v) = let k = value_forth d (Array ∷ st) c b v in (not k.0, k.1)
forth (Names d st) c b h = spaces (Names d st) (λ y. Byte 125 (Rest st (suc d)) y ⊎ Then (IsMember (Json d)) (Rest (Object ∷ st) d) y) c b (cond (eqb c 125) (Goes (In Closed (suc d) st)) (cond (eqb c 34) (Goes (InName Chars d st)) (Fails Bad))) (λ x p. p) go h
  where
    go : Byte 125 (Rest st (suc d)) (c ∷ b) ⊎ Then (IsMember (Json d)) (Rest (Object ∷ st) d) (c ∷ b) → After (cond (eqb c 125) (Goes (In Closed (suc d) st)) (cond (eqb c 34) (Goes (InName Chars d st)) (Fails Bad))) b × (is_space c ≡ false)
    go (inl p) =
        let e = p.1 in
        let q : c ≡ 125 = cc in
        let r : b ≡ p.0 = cc in
        subst (λ z. After (cond (eqb z 125) (Goes (In Closed (suc d) st)) (cond (eqb z 34) (Goes (InName Chars d st)) (Fails Bad))) b × (is_space z ≡ false)) (sym q) (closed (suc d) st b (subst (Rest st (suc d)) (sym r) p.2), refl)
    go (inr v) =
        let k = name_forth d (Rest (Object ∷ st) d) c b v in
        subst (λ z. After (cond (eqb z 125) (Goes (In Closed (suc d) st)) (cond (eqb z 34) (Goes (InName Chars d st)) (Fails Bad))) b × (is_space z ≡ false)) (sym k.0) (k.1, refl)
forth (Name d st) c b h = spaces (Name d st) (Then (IsMember (Json d)) (Rest (Object ∷ st) d)) c b (cond (eqb c 34) (Goes (InName Chars d st)) (Fails Bad)) (λ x p. p) go h
  where
    go : Then (IsMember (Json d)) (Rest (Object ∷ st) d) (c ∷ b) → After (cond (eqb c 34) (Goes (InName Chars d st)) (Fails Bad)) b × (is_space c ≡ false)
    go v =
        let k = name_forth d (Rest (Object ∷ st) d) c b v in
        subst (λ z. After (cond (eqb z 34) (Goes (InName Chars d st)) (Fails Bad)) b × (is_space z ≡ false)) (sym k.0) (k.1, refl)
forth (InName t d st) c b h = part_forth t (Spaced (Byte 58 (Spaced (Then (Json d) (Rest (Object ∷ st) d))))) (λ u. InName u d st) (colon d st) c b (λ u k. k) go h
  where
    P : List ℕ → Type 0
    P = Byte 58 (Spaced (Then (Json d) (Rest (Object ∷ st) d)))

    yes : is_space c ≡ true → Completes (InName Closed d st) b → After (colon d st c) b
    yes e a = rw e a

    go : Spaced (Byte 58 (Spaced (Then (Json d) (Rest (Object ∷ st) d)))) (c ∷ b) → After (colon d st c) b × Follows c
    go k = elim (spaced_forth (Byte 58 (Spaced (Then (Json d) (Rest (Object ∷ st) d)))) c b k) [
      | inl p ↦
          let e = p.1 in
          let q : c ≡ 58 = cc in
          let r : b ≡ p.0 = cc in
          (subst (λ z. After (colon d st z) b) (sym q) (subst (Spaced (Then (Json d) (Rest (Object ∷ st) d))) (sym r) p.2), Colon q)
      | inr s ↦ (yes s.0 ([], b, refl, refl, s.1), Space s.0)
    ]
forth (In t d st) c b h = part_forth t (Rest st d) (λ u. In u d st) (after_value st d) c b (λ u k. k) (after_value_forth st d c b) h
