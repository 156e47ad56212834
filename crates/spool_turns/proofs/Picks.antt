-- Entries that a test picks of a list.
use Rattle.std.proofs.Common.{◌≡◌, ◌≢◌, ℕ, ◌==◌, Bool, true, false, cond, List, [], ◌∷◌, ◌++◌, refl, sym, ap, ◌∙◌, ne_eqb}
use Rattle.std.specs.Prelude.{All, filter}
use Rattle.std.proofs.lemmas.List.Elements.{All-head, All-tail}
use Rattle.event_form.specs.declared.event.Entry.{Entry}
use Rattle.desk_access.specs.Legal.{of_conn}

pub picks_both : (p : Entry → Bool) (xs ys : List Entry) → filter p (xs ++ ys) ≡ filter p xs ++ filter p ys
picks_both p [] ys = refl
picks_both p (x ∷ xs) ys = by (p x) (picks_both p xs ys) where
  by : (b : Bool) → filter p (xs ++ ys) ≡ filter p xs ++ filter p ys → cond b (x ∷ filter p (xs ++ ys)) (filter p (xs ++ ys)) ≡ cond b (x ∷ filter p xs) (filter p xs) ++ filter p ys
  by true rest = ap (λ (l : List Entry). x ∷ l) rest
  by false rest = rest

pub picks_none : (p : Entry → Bool) (xs : List Entry) → All (λ (e : Entry). p e ≡ false) xs → filter p xs ≡ []
picks_none p [] none = refl
picks_none p (x ∷ xs) none =
    ap (λ (b : Bool). cond b (x ∷ filter p xs) (filter p xs)) (All-head (λ (e : Entry). p e ≡ false) x xs none)
    ∙ picks_none p xs (All-tail (λ (e : Entry). p e ≡ false) x xs none)

-- those of a connection
pub picks_conn : (conn : ℕ) (xs : List Entry) → of_conn conn xs ≡ filter (λ (e : Entry). e.conn == conn) xs
picks_conn conn [] = refl
picks_conn conn (x ∷ xs) = ap (λ (l : List Entry). cond (x.conn == conn) (x ∷ l) l) (picks_conn conn xs)

pub conn_both : (conn : ℕ) (xs ys : List Entry) → of_conn conn (xs ++ ys) ≡ of_conn conn xs ++ of_conn conn ys
conn_both conn xs ys =
    picks_conn conn (xs ++ ys) ∙ picks_both (λ (e : Entry). e.conn == conn) xs ys
    ∙ sym (λ k. picks_conn conn xs k ++ picks_conn conn ys k)

pub conn_none : (conn : ℕ) (xs : List Entry) → All (λ (e : Entry). e.conn ≢ conn) xs → of_conn conn xs ≡ []
conn_none conn xs none = picks_conn conn xs ∙ picks_none (λ (e : Entry). e.conn == conn) xs (λ k d lt. ne_eqb _ conn (none k d lt))
