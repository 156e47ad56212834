-- Journals that grow, and the calls of one number in them.
use Rattle.std.proofs.Common.{◌≡◌, ◌≢◌, ℕ, Bool, List, [], ◌∷◌, ◌++◌, refl, sym, ap, ◌∙◌, append_assoc, eq-eqb, ne_eqb}
use Rattle.std.specs.Prelude.{if◌then◌else◌}
use Rattle.std.proofs.lemmas.List.{append-nil}
use mathlib.Core.List.{IsPrefix}
use Rattle.desk_access.specs.Call.{Call, Record, own_of}
use Rattle.desk_access.specs.Journal.{own_then}

pub prefix_self : {A : Type 0} (xs : List A) → IsPrefix xs xs
prefix_self xs = ([], append-nil xs)

pub prefix_more : {A : Type 0} (xs ys zs : List A) → IsPrefix xs ys → IsPrefix xs (ys ++ zs)
prefix_more xs ys zs p = (p.0 ++ zs, sym (append_assoc xs p.0 zs) ∙ ap (λ l. l ++ zs) p.1)

own_of-one : (n : ℕ) (r : Record) → r.by ≡ n → own_of n (r ∷ []) ≡ r.call ∷ []
own_of-one n r e = ap (λ (b : Bool). if b then r.call ∷ [] else []) (eq-eqb r.by n e)

own_of-none : (n : ℕ) (r : Record) → r.by ≢ n → own_of n (r ∷ []) ≡ []
own_of-none n r ne = ap (λ (b : Bool). if b then r.call ∷ [] else []) (ne_eqb r.by n ne)

pub own_of-snoc : (n : ℕ) (log : List Record) (r : Record) → r.by ≡ n → own_of n (log ++ r ∷ []) ≡ own_of n log ++ r.call ∷ []
own_of-snoc n log r e = own_then n log (r ∷ []) ∙ ap (λ (l : List Call). own_of n log ++ l) (own_of-one n r e)

pub own_of-snoc-other : (n : ℕ) (log : List Record) (r : Record) → r.by ≢ n → own_of n (log ++ r ∷ []) ≡ own_of n log
own_of-snoc-other n log r ne = own_then n log (r ∷ []) ∙ ap (λ (l : List Call). own_of n log ++ l) (own_of-none n r ne) ∙ append-nil (own_of n log)

no_more : {A : Type 0} (xs ys : List A) → xs ++ ys ≡ xs → ys ≡ []
no_more [] ys e = e
no_more (x ∷ xs) ys e = no_more xs ys (cc e)

-- between two journals that have the same own calls of a number, each has them
pub own_of-between : (n : ℕ) (xs ys zs : List Record) (own : List Call) → IsPrefix xs ys → IsPrefix ys zs → own_of n xs ≡ own → own_of n zs ≡ own
    → own_of n ys ≡ own
own_of-between n xs ys zs own p q a b =
    let first : own_of n ys ≡ own ++ own_of n p.0 = ap (own_of n) (sym p.1) ∙ own_then n xs p.0 ∙ ap (λ l. l ++ own_of n p.0) a in
    let whole : own_of n zs ≡ own_of n ys ++ own_of n q.0 = ap (own_of n) (sym q.1) ∙ own_then n ys q.0 in
    let all : own ++ (own_of n p.0 ++ own_of n q.0) ≡ own = sym (append_assoc own (own_of n p.0) (own_of n q.0))
    ∙ (ap (λ l. l ++ own_of n q.0) (sym first) ∙ (sym whole ∙ b)) in
    let none = nothing_first (own_of n p.0) (own_of n q.0) (no_more own (own_of n p.0 ++ own_of n q.0) all) in
    first ∙ ap (λ l. own ++ l) none ∙ append-nil own
  where
    nothing_first : (us vs : List Call) → us ++ vs ≡ [] → us ≡ []
    nothing_first [] vs e = refl
    nothing_first (u ∷ us) vs e = absurd (cc e)

-- what a beginning lacks of a number's calls, where it has those up to some: nothing, or what the whole has more
pub own_of-rest : (n : ℕ) (xs ys : List Record) (own more : List Call) → own_of n xs ≡ own → own_of n (xs ++ ys) ≡ own ++ more → own_of n ys ≡ more
own_of-rest n xs ys own more a b = same_rest own (own_of n ys) more (ap (λ l. l ++ own_of n ys) (sym a) ∙ sym (own_then n xs ys) ∙ b)
  where
    same_rest : (us vs ws : List Call) → us ++ vs ≡ us ++ ws → vs ≡ ws
    same_rest [] vs ws e = e
    same_rest (u ∷ us) vs ws e = same_rest us vs ws (cc e)
