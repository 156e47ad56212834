-- What the machine says of the beginnings of values.
use Rattle.std.proofs.Common.{◌≡◌, ℕ, ◌+◌, ◌-◌, ◌≤◌, Bool, true, false, leb, List, [], ◌∷◌, ◌++◌, refl, sym, ap, ◌∙◌, subst, append_assoc, inl, inr, arith, ◌⊎◌}
use Rattle.std.proofs.lemmas.List.{append-nil}
use Rattle.std.proofs.lemmas.Bool.{leb-true, le-leb}
use Rattle.json_span.specs.Json.{is_space, AreSpaces, Spaced, Then, Json}
use Rattle.json_span.specs.Machine.{State, Value, Rest, Completes, Why, Bad, Deep, Step, Goes, Fails, step, accepts, Going, Stopped, onward, run}
use Rattle.json_span.specs.Spans.{Begins}
use Rattle.json_span.proofs.TextLaws.{spaced_forth, spaced_back, spaced_now, spaced_map}
use Rattle.json_span.proofs.StepForth.{value_forth}
use Rattle.json_span.proofs.RunLaws.{live, runs, ran, run_push, accepted, accepting}
use Rattle.json_span.proofs.RaiseLaws.{raise, Raised, raise_step, raise_accepts, raise_going, raise_bad}

abbrev pub top : ℕ → State
top d = Value d []

to_completes : (d : ℕ) (x : List ℕ) → Spaced (Json d) x → Completes (top d) x
to_completes d x h = spaced_map (Json d) (Then (Json d) (Rest [] d)) (λ v j. (v, [], j, sym (append-nil v), refl)) x h

from_completes : (d : ℕ) (x : List ℕ) → Completes (top d) x → Spaced (Json d) x
from_completes d x h = spaced_map (Then (Json d) (Rest [] d)) (Json d) (λ v j. let e : v ≡ j.0 = j.3 ∙ ap (λ z. j.0 ++ z) j.4 ∙ append-nil j.0 in subst (Json d) (sym e) j.2) x h

raise_top : (d n : ℕ) → d ≤ n → raise (n - d) (top d) ≡ top n
unfolding raise
raise_top d n h = let e : d + (n - d) ≡ n = omega arith in ap (λ k. Value k []) e

one_some : ◌≡◌ {A = ℕ} 1 0 → ⊥
one_some q = omega (arith, q)

begins_run : (d : ℕ) (x : List ℕ) → Begins d x → (t : State) × (run (top d) x ≡ Going t)
begins_run d x h = let k = runs (top d) x h.0 (to_completes d (x ++ h.0) h.1) in (k.0, k.1)

pub run_begins : (d : ℕ) (t : State) (x : List ℕ) → run (top d) x ≡ Going t → Begins d x
run_begins d t x e = let l = live t in (l.0, from_completes d (x ++ l.0) (ran (top d) t x l.0 e l.1))

pub value_run : (d : ℕ) (x : List ℕ) → Spaced (Json d) x → (t : State) × (run (top d) x ≡ Going t) × (accepts t ≡ true)
value_run d x h =
    let k = runs (top d) x [] (subst (Completes (top d)) (sym (append-nil x)) (to_completes d x h)) in
    (k.0, k.1, accepted k.0 k.2)

pub run_value : (d : ℕ) (t : State) (x : List ℕ) → run (top d) x ≡ Going t → accepts t ≡ true → Spaced (Json d) x
run_value d t x e a = from_completes d x (subst (Completes (top d)) (append-nil x) (ran (top d) t x [] e (accepting t a)))

-- at another limit
up : (d n : ℕ) (t : State) (x : List ℕ) → d ≤ n → run (top d) x ≡ Going t → run (top n) x ≡ Going (raise (n - d) t)
up d n t x h e = subst (λ s. run s x ≡ Going (raise (n - d) t)) (raise_top d n h) (raise_going (n - d) (top d) t x e)

up_bad : (d n : ℕ) (x : List ℕ) → d ≤ n → run (top d) x ≡ Stopped Bad → run (top n) x ≡ Stopped Bad
up_bad d n x h e = subst (λ s. run s x ≡ Stopped Bad) (raise_top d n h) (raise_bad (n - d) (top d) x e)

either : (d n : ℕ) → (d ≤ n) ⊎ (n ≤ d)
either d n = go (leb d n) refl
  where
    go : (p : Bool) → leb d n ≡ p → (d ≤ n) ⊎ (n ≤ d)
    go true e = inl (leb-true d n e)
    go false e = inr (let h : d ≤ n → ⊥ = λ k. no k in omega (arith, h))
      where
        no : d ≤ n → ⊥
        no k = let q : leb d n ≡ true = le-leb d n k in cc

pub going_no_value : (n d : ℕ) (t : State) (x : List ℕ) → run (top n) x ≡ Going t → accepts t ≡ false → Spaced (Json d) x → ⊥
going_no_value n d t x e a h = let v = value_run d x h in go v.0 v.1 v.2 (either d n)
  where
    go : (u : State) → run (top d) x ≡ Going u → accepts u ≡ true → (d ≤ n) ⊎ (n ≤ d) → ⊥
    go u f b (inl l) =
        let q = up d n u x l f in
        let r : raise (n - d) u ≡ t = cc in
        let s : accepts t ≡ true = ap accepts (sym r) ∙ raise_accepts (n - d) u ∙ b in
        cc
    go u f b (inr l) =
        let q = up n d t x l e in
        let r : raise (d - n) t ≡ u = cc in
        let s : accepts u ≡ false = ap accepts (sym r) ∙ raise_accepts (d - n) t ∙ a in
        cc

pub bad_none : (n d : ℕ) (x : List ℕ) → run (top n) x ≡ Stopped Bad → Begins d x → ⊥
bad_none n d x e h = let v = begins_run d x h in go v.0 v.1 (either d n)
  where
    go : (u : State) → run (top d) x ≡ Going u → (d ≤ n) ⊎ (n ≤ d) → ⊥
    go u f (inl l) = let q = up d n u x l f in cc
    go u f (inr l) = let q = up_bad n d x l e in cc

pub stopped_none : (n : ℕ) (w : Why) (x : List ℕ) → run (top n) x ≡ Stopped w → Begins n x → ⊥
stopped_none n w x e h = let v = begins_run n x h in let f : run (top n) x ≡ Going v.0 = v.1 in cc

pub deep_deeper : (n : ℕ) (t : State) (x : List ℕ) (c : ℕ) → run (top n) x ≡ Going t → step t c ≡ Fails Deep → Begins (n + 1) (x ++ c ∷ [])
deep_deeper n t x c e f =
    let k : ◌≡◌ {A = ℕ} 1 0 → ⊥ = one_some in
    let r = subst (λ p. Raised 1 p (step (raise 1 t) c)) f (raise_step 1 t c) k in
    let one : n + 1 - n ≡ 1 = omega arith in
    let le : n ≤ n + 1 = omega arith in
    let g : run (top (n + 1)) x ≡ Going (raise 1 t) = subst (λ j. run (top (n + 1)) x ≡ Going (raise j t)) one (up n (n + 1) t x le e) in
    let p : run (top (n + 1)) (x ++ c ∷ []) ≡ Going r.0 = run_push (top (n + 1)) (raise 1 t) x c g ∙ ap (λ z. onward z (λ u. Going u)) r.1 in
    run_begins (n + 1) r.0 (x ++ c ∷ []) p

-- A value's first byte is no white space.
pub value_first : (d c : ℕ) (b : List ℕ) → Json d (c ∷ b) → is_space c ≡ false
value_first d c b i = (value_forth d [] c b (c ∷ b, [], i, sym (append-nil (c ∷ b)), refl)).1

pub spaced_value : (d : ℕ) (x : List ℕ) → ((c : ℕ) (y : List ℕ) → x ≡ c ∷ y → is_space c ≡ false) → Spaced (Json d) x → Json d x
spaced_value d x f h = go h.0 h.2 h.3
  where
    go : (w : List ℕ) → AreSpaces w → x ≡ w ++ h.1 → Json d x
    go [] a e = subst (Json d) (sym e) h.4
    go (c ∷ w) a e = let q : is_space c ≡ false = f c (w ++ h.1) e in let r : is_space c ≡ true = a.0 in cc

-- White space in front of what begins a value.
pub begins_after : (d : ℕ) (w x : List ℕ) → AreSpaces w → Begins d (w ++ x) → Begins d x
begins_after d w x a h = (h.0, go w a h.1)
  where
    go : (w : List ℕ) → AreSpaces w → Spaced (Json d) ((w ++ x) ++ h.0) → Spaced (Json d) (x ++ h.0)
    go [] a k = k
    go (c ∷ w) a k = elim (spaced_forth (Json d) c ((w ++ x) ++ h.0) k) [
      | inl i ↦ let q : is_space c ≡ false = value_first d c ((w ++ x) ++ h.0) i in let r : is_space c ≡ true = a.0 in cc
      | inr s ↦ go w a.1 s.1
    ]

pub begins_spaced : (d : ℕ) (w x : List ℕ) → AreSpaces w → Begins d x → Begins d (w ++ x)
begins_spaced d w x a h = (h.0, go w a)
  where
    go : (w : List ℕ) → AreSpaces w → Spaced (Json d) ((w ++ x) ++ h.0)
    go [] a = h.1
    go (c ∷ w) a = spaced_back (Json d) c ((w ++ x) ++ h.0) a.0 (go w a.1)

pub begins_front : (d : ℕ) (x y : List ℕ) → Begins d (x ++ y) → Begins d x
begins_front d x y h = (y ++ h.0, subst (Spaced (Json d)) (append_assoc x y h.0) h.1)

pub begins_value : (d : ℕ) (x y : List ℕ) → Json d (x ++ y) → Begins d x
begins_value d x y i = (y, spaced_now (Json d) (x ++ y) i)

-- After a value the machine stays in its last token.
pub run_after : (s t u : State) (x y : List ℕ) → run s x ≡ Going u → run s (x ++ y) ≡ Going t → run u y ≡ Going t
run_after s t u [] y e f = let q : s ≡ u = cc in subst (λ z. run z y ≡ Going t) q f
run_after s t u (c ∷ x) y e f = go (step s c) (λ v. run_after v t u x y) e f
  where
    go : (p : Step) → ((v : State) → run v x ≡ Going u → run v (x ++ y) ≡ Going t → run u y ≡ Going t) → onward p (λ v. run v x) ≡ Going u → onward p (λ v. run v (x ++ y)) ≡ Going t → run u y ≡ Going t
    go (Goes v) k e f = k v e f
    go (Fails w) k e f = cc

pub run_front : (s t : State) (x y : List ℕ) → run s (x ++ y) ≡ Going t → (u : State) × (run s x ≡ Going u) × (run u y ≡ Going t)
run_front s t [] y e = (s, refl, e)
run_front s t (c ∷ x) y e = go (step s c) (λ u. run_front u t x y) e
  where
    go : (p : Step) → ((u : State) → run u (x ++ y) ≡ Going t → (v : State) × (run u x ≡ Going v) × (run v y ≡ Going t)) → onward p (λ u. run u (x ++ y)) ≡ Going t → (v : State) × (onward p (λ u. run u x) ≡ Going v) × (run v y ≡ Going t)
    go (Goes u) k f = k u f
    go (Fails w) k f = cc

-- A value of so many levels is one of more.
pub json_more : (d n : ℕ) (x : List ℕ) → d ≤ n → Json d x → Json n x
json_more d n x h i =
    let v = value_run d x (spaced_now (Json d) x i) in
    spaced_value n x (λ c y e. value_first d c y (subst (Json d) e i)) (run_value n (raise (n - d) v.0) x (up d n v.0 x h v.1) (raise_accepts (n - d) v.0 ∙ v.2))
