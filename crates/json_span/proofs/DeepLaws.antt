-- Where a bracket is too deep: at a bracket, and never after a value.
use Rattle.std.proofs.Common.{◌≡◌, ℕ, Bool, true, false, cond, eqb, List, [], ◌∷◌, ◌++◌, refl, sym, ap, ◌∙◌, suc, subst, inl, inr, ◌⊎◌, Option, Some, None}
use Rattle.std.proofs.lemmas.Bool.{eqb-true}
use Rattle.json_span.specs.Json.{is_space, Json}
use Rattle.json_span.specs.Machine.{Bracket, Array, Object, Token, Closed, Chars, State, Value, First, Names, Name, InName, In, done, next, first, begin, begin_array, begin_object, after_value, or_else, Goes, Fails, Bad, Deep, step, accepts, Going, onward, run}
use Rattle.json_span.proofs.TextLaws.{spaced_now}
use Rattle.json_span.proofs.Fronts.{value_run, run_after}

-- After a value no bracket is opened.
stays : (k : Token) (d : ℕ) (t : State) (y : List ℕ) → run (In k d []) y ≡ Going t → (u : Token) × (t ≡ In u d [])
unfolding step after_value
stays k d t [] e = (k, let q : In k d [] ≡ t = cc in sym q)
stays k d t (c ∷ y) e = go (next k c) (done k) (λ u f. stays u d t y f) e
  where
    go : (o : Option Token) (p : Bool) → ((u : Token) → run (In u d []) y ≡ Going t → (v : Token) × (t ≡ In v d [])) → onward (or_else o (λ u. In u d []) (cond p (Fails Bad) (Fails Bad))) (λ v. run v y) ≡ Going t → (u : Token) × (t ≡ In u d [])
    go (Some u) p h f = h u f
    go None true h f = cc
    go None false h f = cc

not_deep : (k : Token) (d c : ℕ) → Fails Deep ≡ step (In k d []) c → ⊥
unfolding step after_value
not_deep k d c e = go (next k c) (done k) e
  where
    go : (o : Option Token) (p : Bool) → Fails Deep ≡ or_else o (λ u. In u d []) (cond p (Fails Bad) (Fails Bad)) → ⊥
    go (Some u) p f = cc
    go None true f = let q : Deep ≡ Bad = cc in cc
    go None false f = let q : Deep ≡ Bad = cc in cc

accepts_in : (s : State) → accepts s ≡ true → (k : Token) × (d : ℕ) × (s ≡ In k d [])
accepts_in (In k d []) e = (k, d, refl)
accepts_in (In k d (b ∷ st)) e = cc
accepts_in (Value d st) e = cc
accepts_in (First d st) e = cc
accepts_in (Names d st) e = cc
accepts_in (Name d st) e = cc
accepts_in (InName k d st) e = cc

pub deep_alone : (levels : ℕ) (x y : List ℕ) (s : State) (c : ℕ) → Json levels x → run (Value levels []) (x ++ y) ≡ Going s → Fails Deep ≡ step s c → ⊥
deep_alone levels x y s c i r f =
    let v = value_run levels x (spaced_now (Json levels) x i) in
    let a = accepts_in v.0 v.2 in
    let g : run v.0 y ≡ Going s = run_after (Value levels []) s v.0 x y v.1 r in
    let t = stays a.0 a.1 s y (subst (λ z. run z y ≡ Going s) a.2 g) in
    not_deep t.0 a.1 c (f ∙ ap (λ z. step z c) t.1)

-- only a bracket can be too deep
deep_begin : (d : ℕ) (st : List Bracket) (c : ℕ) → Fails Deep ≡ begin d st c → (c ≡ 91) ⊎ (c ≡ 123)
unfolding begin
deep_begin d st c e = go (eqb c 91) refl (eqb c 123) refl (first c) e
  where
    go : (p : Bool) → eqb c 91 ≡ p → (q : Bool) → eqb c 123 ≡ q → (o : Option Token) → Fails Deep ≡ cond p (begin_array d st) (cond q (begin_object d st) (or_else o (λ t. In t d st) (Fails Bad))) → (c ≡ 91) ⊎ (c ≡ 123)
    go true p q r o e = inl (eqb-true c 91 p)
    go false p true r o e = inr (eqb-true c 123 r)
    go false p false r (Some u) e = cc
    go false p false r None e = let k : Deep ≡ Bad = cc in cc

not_after_value : (st : List Bracket) (d c : ℕ) → Fails Deep ≡ after_value st d c → ⊥
unfolding after_value
not_after_value [] d c e = let k : Deep ≡ Bad = cc in cc
not_after_value (Array ∷ st) d c e = go (is_space c) (eqb c 44) (eqb c 93) e
  where
    go : (p q r : Bool) → Fails Deep ≡ cond p (Goes (In Closed d (Array ∷ st))) (cond q (Goes (Value d (Array ∷ st))) (cond r (Goes (In Closed (suc d) st)) (Fails Bad))) → ⊥
    go true q r e = cc
    go false true r e = cc
    go false false true e = cc
    go false false false e = let k : Deep ≡ Bad = cc in cc
not_after_value (Object ∷ st) d c e = go (is_space c) (eqb c 44) (eqb c 125) e
  where
    go : (p q r : Bool) → Fails Deep ≡ cond p (Goes (In Closed d (Object ∷ st))) (cond q (Goes (Name d st)) (cond r (Goes (In Closed (suc d) st)) (Fails Bad))) → ⊥
    go true q r e = cc
    go false true r e = cc
    go false false true e = cc
    go false false false e = let k : Deep ≡ Bad = cc in cc

pub deep_bracket : (s : State) (c : ℕ) → Fails Deep ≡ step s c → (c ≡ 91) ⊎ (c ≡ 123)
unfolding step
deep_bracket (Value d st) c e = go (is_space c) e
  where
    go : (p : Bool) → Fails Deep ≡ cond p (Goes (Value d st)) (begin d st c) → (c ≡ 91) ⊎ (c ≡ 123)
    go true e = cc
    go false e = deep_begin d st c e
deep_bracket (First d st) c e = go (is_space c) (eqb c 93) e
  where
    go : (p q : Bool) → Fails Deep ≡ cond p (Goes (First d st)) (cond q (Goes (In Closed (suc d) st)) (begin d (Array ∷ st) c)) → (c ≡ 91) ⊎ (c ≡ 123)
    go true q e = cc
    go false true e = cc
    go false false e = deep_begin d (Array ∷ st) c e
deep_bracket (Names d st) c e = go (is_space c) (eqb c 125) (eqb c 34) e
  where
    go : (p q r : Bool) → Fails Deep ≡ cond p (Goes (Names d st)) (cond q (Goes (In Closed (suc d) st)) (cond r (Goes (InName Chars d st)) (Fails Bad))) → (c ≡ 91) ⊎ (c ≡ 123)
    go true q r e = cc
    go false true r e = cc
    go false false true e = cc
    go false false false e = let k : Deep ≡ Bad = cc in cc
deep_bracket (Name d st) c e = go (is_space c) (eqb c 34) e
  where
    go : (p r : Bool) → Fails Deep ≡ cond p (Goes (Name d st)) (cond r (Goes (InName Chars d st)) (Fails Bad)) → (c ≡ 91) ⊎ (c ≡ 123)
    go true r e = cc
    go false true e = cc
    go false false e = let k : Deep ≡ Bad = cc in cc
deep_bracket (InName k d st) c e = go (next k c) (done k) (is_space c) (eqb c 58) e
  where
    go : (o : Option Token) (i p q : Bool) → Fails Deep ≡ or_else o (λ u. InName u d st) (cond i (cond p (Goes (InName Closed d st)) (cond q (Goes (Value d (Object ∷ st))) (Fails Bad))) (Fails Bad)) → (c ≡ 91) ⊎ (c ≡ 123)
    go (Some u) i p q e = cc
    go None true true q e = cc
    go None true false true e = cc
    go None true false false e = let k : Deep ≡ Bad = cc in cc
    go None false p q e = let k : Deep ≡ Bad = cc in cc
deep_bracket (In k d st) c e = go (next k c) (done k) e
  where
    go : (o : Option Token) (i : Bool) → Fails Deep ≡ or_else o (λ u. In u d st) (cond i (after_value st d c) (Fails Bad)) → (c ≡ 91) ⊎ (c ≡ 123)
    go (Some u) i e = cc
    go None true e = absurd (not_after_value st d c e)
    go None false e = let k : Deep ≡ Bad = cc in cc
