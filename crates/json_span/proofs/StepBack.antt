-- A byte that takes the machine on, and what completes the state after it, complete the state before it.
use Rattle.std.proofs.Common.{◌≡◌, ℕ, Bool, true, false, cond, eqb, List, [], ◌∷◌, ◌++◌, refl, sym, ap, ◌∙◌, suc, zero, subst, inl, inr, ◌⊎◌, Option, Some, None}
use Rattle.std.proofs.lemmas.Bool.{eqb-true}
use Rattle.json_span.specs.Json.{Byte, IsEmpty, IsMember, Items, Json, Spaced, Then, is_space}
use Rattle.json_span.specs.Machine.{After, Array, Bad, Bracket, Chars, Closed, Completes, Ends, Fails, First, Goes, In, InName, InString, Name, Names, Object, Rest, State, Step, Token, Value, begin, begin_array, begin_object, after_value, done, first, next, or_else, step}
use Rattle.json_span.proofs.TextLaws.{spaced_back, spaced_now, spaced_split}
use Rattle.json_span.proofs.ItemLaws.{group_split, items_close, items_comma, items_space, member_fold}
use Rattle.json_span.proofs.TokenBack.{token_back}
use Rattle.json_span.proofs.TokenLaws.{scalar_back, token_ends}
use Rattle.json_span.proofs.StepForth.{colon, json_scalar}

value_back : (d : ℕ) (st : List Bracket) (c : ℕ) (b : List ℕ) → After (begin d st c) b → Then (Json d) (Rest st d) (c ∷ b)
unfolding begin
value_back d st c b h = go (eqb c 91) refl (eqb c 123) refl (first c) refl h
  where
    array : (d : ℕ) → c ≡ 91 → After (begin_array d st) b → Then (Json d) (Rest st d) (c ∷ b)
    array zero e a = absurd a
    array (suc d) e a =
        let s = spaced_split (λ z. Byte 93 (Rest st (suc d)) z ⊎ Then (Json d) (Rest (Array ∷ st) d) z) (Rest st (suc d)) (λ y. Byte 93 IsEmpty y ⊎ Then (Json d) (Items (Json d) 93) y) b (group_split (Json d) 93 (Rest st (suc d))) a in
        (91 ∷ s.0, s.1, inr (inl (s.0, refl, s.2)), ap (λ z. z ∷ b) e ∙ ap (λ z. 91 ∷ z) s.3, s.4)

    object : (d : ℕ) → c ≡ 123 → After (begin_object d st) b → Then (Json d) (Rest st d) (c ∷ b)
    object zero e a = absurd a
    object (suc d) e a =
        let s = spaced_split (λ z. Byte 125 (Rest st (suc d)) z ⊎ Then (IsMember (Json d)) (Rest (Object ∷ st) d) z) (Rest st (suc d)) (λ y. Byte 125 IsEmpty y ⊎ Then (IsMember (Json d)) (Items (IsMember (Json d)) 125) y) b (group_split (IsMember (Json d)) 125 (Rest st (suc d))) a in
        (123 ∷ s.0, s.1, inr (inr (s.0, refl, s.2)), ap (λ z. z ∷ b) e ∙ ap (λ z. 123 ∷ z) s.3, s.4)

    go : (p : Bool) → eqb c 91 ≡ p → (q : Bool) → eqb c 123 ≡ q → (o : Option Token) → first c ≡ o → After (cond p (begin_array d st) (cond q (begin_object d st) (or_else o (λ t. In t d st) (Fails Bad)))) b → Then (Json d) (Rest st d) (c ∷ b)
    go true dp q dq o do' a = array d (eqb-true c 91 dp) a
    go false dp true dq o do' a = object d (eqb-true c 123 dq) a
    go false dp false dq (Some u) do' a = (c ∷ a.0, a.1, json_scalar d (c ∷ a.0) (scalar_back u c a.0 do' a.2), ap (λ z. c ∷ z) a.3, a.4)
    go false dp false dq None do' a = absurd a

unclosed : (d : ℕ) (st : List Bracket) (b : List ℕ) → Completes (In Closed d st) b → Rest st d b
unclosed d st b h = subst (Rest st d) (sym (h.3 ∙ ap (λ z. z ++ h.1) h.2)) h.4

after_value_back : (st : List Bracket) (d c : ℕ) (b : List ℕ) → After (after_value st d c) b → Rest st d (c ∷ b)
unfolding after_value
after_value_back [] d c b h = absurd h
after_value_back (Array ∷ st) d c b h = go (is_space c) refl (eqb c 44) refl (eqb c 93) refl h
  where
    go : (p : Bool) → is_space c ≡ p → (q : Bool) → eqb c 44 ≡ q → (r : Bool) → eqb c 93 ≡ r → After (cond p (Goes (In Closed d (Array ∷ st))) (cond q (Goes (Value d (Array ∷ st))) (cond r (Goes (In Closed (suc d) st)) (Fails Bad)))) b → Rest (Array ∷ st) d (c ∷ b)
    go true dp q dq r dr a = items_space (Json d) 93 (Rest st (suc d)) c b dp (unclosed d (Array ∷ st) b a)
    go false dp true dq r dr a = subst (λ z. Rest (Array ∷ st) d (z ∷ b)) (sym (eqb-true c 44 dq)) (items_comma (Json d) 93 (Rest st (suc d)) b a)
    go false dp false dq true dr a = subst (λ z. Rest (Array ∷ st) d (z ∷ b)) (sym (eqb-true c 93 dr)) (items_close (Json d) 93 (Rest st (suc d)) b (unclosed (suc d) st b a))
    go false dp false dq false dr a = absurd a
after_value_back (Object ∷ st) d c b h = go (is_space c) refl (eqb c 44) refl (eqb c 125) refl h
  where
    go : (p : Bool) → is_space c ≡ p → (q : Bool) → eqb c 44 ≡ q → (r : Bool) → eqb c 125 ≡ r → After (cond p (Goes (In Closed d (Object ∷ st))) (cond q (Goes (Name d st)) (cond r (Goes (In Closed (suc d) st)) (Fails Bad)))) b → Rest (Object ∷ st) d (c ∷ b)
    go true dp q dq r dr a = items_space (IsMember (Json d)) 125 (Rest st (suc d)) c b dp (unclosed d (Object ∷ st) b a)
    go false dp true dq r dr a = subst (λ z. Rest (Object ∷ st) d (z ∷ b)) (sym (eqb-true c 44 dq)) (items_comma (IsMember (Json d)) 125 (Rest st (suc d)) b a)
    go false dp false dq true dr a = subst (λ z. Rest (Object ∷ st) d (z ∷ b)) (sym (eqb-true c 125 dr)) (items_close (IsMember (Json d)) 125 (Rest st (suc d)) b (unclosed (suc d) st b a))
    go false dp false dq false dr a = absurd a

name_back : (d : ℕ) (K : List ℕ → Type 0) (b : List ℕ) → Then InString (Spaced (Byte 58 (Spaced (Then (Json d) K)))) b → Then (IsMember (Json d)) K (34 ∷ b)
name_back d K b h = member_fold (Json d) K (34 ∷ b) (34 ∷ h.0, h.1, (h.0, h.2.0, refl, h.2.1), ap (λ z. 34 ∷ z) h.3, h.4)

part_back : (t : Token) (K : List ℕ → Type 0) (f : Token → State) (o : ℕ → Step) (c : ℕ) (b : List ℕ) → ((u : Token) → Completes (f u) b → Then (Ends u) K b) → (After (o c) b → K (c ∷ b)) → After (or_else (next t c) f (cond (done t) (o c) (Fails Bad))) b → Then (Ends t) K (c ∷ b)
part_back t K f o c b g k h = go (next t c) refl (done t) refl h
  where
    go : (p : Option Token) → next t c ≡ p → (q : Bool) → done t ≡ q → After (or_else p f (cond q (o c) (Fails Bad))) b → Then (Ends t) K (c ∷ b)
    go (Some u) dp q dq a = let s = g u a in (c ∷ s.0, s.1, token_back t u c s.0 dp s.2, ap (λ z. c ∷ z) s.3, s.4)
    go None dp true dq a = ([], c ∷ b, token_ends t dq, refl, k a)
    go None dp false dq a = absurd a

pub back : (s : State) (c : ℕ) (b : List ℕ) → After (step s c) b → Completes s (c ∷ b)
unfolding step colon
back (Value d st) c b h = go (is_space c) refl h
  where
    go : (p : Bool) → is_space c ≡ p → After (cond p (Goes (Value d st)) (begin d st c)) b → Completes (Value d st) (c ∷ b)
    go true e a = spaced_back (Then (Json d) (Rest st d)) c b e a
    go false e a = spaced_now (Then (Json d) (Rest st d)) (c ∷ b) (value_back d st c b a)
back (First d st) c b h = go (is_space c) refl (eqb c 93) refl h
  where
    go : (p : Bool) → is_space c ≡ p → (q : Bool) → eqb c 93 ≡ q → After (cond p (Goes (First d st)) (cond q (Goes (In Closed (suc d) st)) (begin d (Array ∷ st) c))) b → Completes (First d st) (c ∷ b)
    go true e q f a = spaced_back (λ y. Byte 93 (Rest st (suc d)) y ⊎ Then (Json d) (Rest (Array ∷ st) d) y) c b e a
    go false e true f a = spaced_now (λ y. Byte 93 (Rest st (suc d)) y ⊎ Then (Json d) (Rest (Array ∷ st) d) y) (c ∷ b) (inl (b, ap (λ z. z ∷ b) (eqb-true c 93 f), unclosed (suc d) st b a))
    go false e false f a = spaced_now (λ y. Byte 93 (Rest st (suc d)) y ⊎ Then (Json d) (Rest (Array ∷ st) d) y) (c ∷ b) (inr (value_back d (Array ∷ st) c b a))
back (Names d st) c b h = go (is_space c) refl (eqb c 125) refl (eqb c 34) refl h
  where
    go : (p : Bool) → is_space c ≡ p → (q : Bool) → eqb c 125 ≡ q → (r : Bool) → eqb c 34 ≡ r → After (cond p (Goes (Names d st)) (cond q (Goes (In Closed (suc d) st)) (cond r (Goes (InName Chars d st)) (Fails Bad)))) b → Completes (Names d st) (c ∷ b)
    go true e q f r g a = spaced_back (λ y. Byte 125 (Rest st (suc d)) y ⊎ Then (IsMember (Json d)) (Rest (Object ∷ st) d) y) c b e a
    go false e true f r g a = spaced_now (λ y. Byte 125 (Rest st (suc d)) y ⊎ Then (IsMember (Json d)) (Rest (Object ∷ st) d) y) (c ∷ b) (inl (b, ap (λ z. z ∷ b) (eqb-true c 125 f), unclosed (suc d) st b a))
    go false e false f true g a = spaced_now (λ y. Byte 125 (Rest st (suc d)) y ⊎ Then (IsMember (Json d)) (Rest (Object ∷ st) d) y) (c ∷ b) (inr (subst (λ z. Then (IsMember (Json d)) (Rest (Object ∷ st) d) (z ∷ b)) (sym (eqb-true c 34 g)) (name_back d (Rest (Object ∷ st) d) b a)))
    go false e false f false g a = absurd a
back (Name d st) c b h = go (is_space c) refl (eqb c 34) refl h
  where
    go : (p : Bool) → is_space c ≡ p → (r : Bool) → eqb c 34 ≡ r → After (cond p (Goes (Name d st)) (cond r (Goes (InName Chars d st)) (Fails Bad))) b → Completes (Name d st) (c ∷ b)
    go true e r g a = spaced_back (Then (IsMember (Json d)) (Rest (Object ∷ st) d)) c b e a
    go false e true g a = spaced_now (Then (IsMember (Json d)) (Rest (Object ∷ st) d)) (c ∷ b) (subst (λ z. Then (IsMember (Json d)) (Rest (Object ∷ st) d) (z ∷ b)) (sym (eqb-true c 34 g)) (name_back d (Rest (Object ∷ st) d) b a))
    go false e false g a = absurd a
back (InName t d st) c b h = part_back t (Spaced (Byte 58 (Spaced (Then (Json d) (Rest (Object ∷ st) d))))) (λ u. InName u d st) (colon d st) c b (λ u k. k) (go (is_space c) refl (eqb c 58) refl) h
  where
    go : (p : Bool) → is_space c ≡ p → (q : Bool) → eqb c 58 ≡ q → After (cond p (Goes (InName Closed d st)) (cond q (Goes (Value d (Object ∷ st))) (Fails Bad))) b → Spaced (Byte 58 (Spaced (Then (Json d) (Rest (Object ∷ st) d)))) (c ∷ b)
    go true e q f a = spaced_back (Byte 58 (Spaced (Then (Json d) (Rest (Object ∷ st) d)))) c b e (subst (Spaced (Byte 58 (Spaced (Then (Json d) (Rest (Object ∷ st) d))))) (sym (a.3 ∙ ap (λ z. z ++ a.1) a.2)) a.4)
    go false e true f a = spaced_now (Byte 58 (Spaced (Then (Json d) (Rest (Object ∷ st) d)))) (c ∷ b) (b, ap (λ z. z ∷ b) (eqb-true c 58 f), a)
    go false e false f a = absurd a
back (In t d st) c b h = part_back t (Rest st d) (λ u. In u d st) (after_value st d) c b (λ u k. k) (after_value_back st d c b) h
