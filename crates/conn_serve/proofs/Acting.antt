-- What was done for an act.
use Rattle.std.proofs.Common.{◌≡◌, ℕ, ◌<◌, List, [], ◌∷◌, Option, Some, None, length, refl, sym, subst, arith}
use Rattle.std.specs.Prelude.{Result, Ok, Err, IfErr, IfNone, OnOk, IsErrAnd}
use Rattle.edge_io.proofs.Known.{appends_none}
use Rattle.desk_access.specs.Call.{Call}
use Rattle.conn_serve.specs.Done.{Done}

-- a fact of an error follows from another
pub err_then : {T E : Type 0} (r : Result T E) (P Q : E → Type 0) → IfErr r P → ((e : E) → P e → Q e) → IfErr r Q
err_then (Ok x) P Q p f = tt
err_then (Err e) P Q p f = f e p

-- nothing was done
pub done_nothing : (ran : List Call → Type 0) (written : Option (List ℕ)) (n : ℕ) (Is : List Call → List ℕ → Type 0) → ran [] → Is [] [] → Done ran written written n n Is
done_nothing ran written n Is none is = record { calls = []; text = []; made = none; wrote = appends_none written; counted = omega arith; is = is }

pub ok_then : {T E : Type 0} (r : Result T E) (P Q : Type 0) → OnOk r P → (P → Q) → OnOk r Q
ok_then (Ok x) P Q p f = f p
ok_then (Err e) P Q p f = tt

pub err_is : {T E : Type 0} (r : Result T E) (e : E) (P : E → Type 0) → IsErrAnd r (λ x. x ≡ e) → P e → IfErr r P
err_is (Ok x) e P h p = tt
err_is (Err x) e P h p = subst P (sym h) p

-- a fact of an error follows from two others
pub err_both : {T E : Type 0} (r : Result T E) (P Q R : E → Type 0) → IfErr r P → IfErr r Q → ((e : E) → P e → Q e → R e) → IfErr r R
err_both (Ok x) P Q R p q f = tt
err_both (Err e) P Q R p q f = f e p q

pub none_by : {A : Type 0} (l : List A) → length l ≡ 0 → l ≡ []
none_by [] h = refl
none_by (x ∷ l) h = absurd (omega (arith, h))

pub some_by : {A : Type 0} (l : List A) → (l ≡ [] → ⊥) → 0 < length l
some_by [] h = absurd (h refl)
some_by (x ∷ l) h = omega arith

pub no_fault : {E : Type 0} (o : Option E) → ((e : E) → o ≡ Some e → ⊥) → o ≡ None
no_fault None h = refl
no_fault (Some e) h = absurd (h e refl)

pub if_none : {A : Type 0} (o : Option A) (P : Type 0) → P → IfNone o P
if_none None P p = p
if_none (Some x) P p = tt

-- a fact of an answer that is no error follows from two others
pub ok_both : {T E : Type 0} (r : Result T E) (P Q R : Type 0) → OnOk r P → OnOk r Q → (P → Q → R) → OnOk r R
ok_both (Ok x) P Q R p q f = f p q
ok_both (Err e) P Q R p q f = tt
