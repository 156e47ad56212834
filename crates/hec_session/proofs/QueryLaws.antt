-- Parameters of a query, and GUIDs.
use Rattle.std.proofs.Common.{◌≡◌, ℕ, true, false, cond, List, ◌∷◌, Option, Some, None, refl, ap, ◌∙◌}
use Rattle.std.specs.Option.{option_map}
use Rattle.std.specs.Str.{bytes_eq}
use Rattle.hec_session.specs.Target.{decoded, first_named}

module _ (name key value : List ℕ) (pairs rest : List (List ℕ × List ℕ)) (first : pairs ≡ (key, value) ∷ rest) where
  pub named_first : bytes_eq (decoded key) name ≡ true → first_named name pairs ≡ Some (decoded value)
  named_first is = ap (first_named name) first ∙ ap (λ b. cond b (Some (decoded value)) (first_named name rest)) is

  pub named_later : bytes_eq (decoded key) name ≡ false → first_named name pairs ≡ first_named name rest
  named_later is = ap (first_named name) first ∙ ap (λ b. cond b (Some (decoded value)) (first_named name rest)) is

-- what has no value
pub none_of : {A B : Type 0} (f : A → B) (o : Option A) → (((x : A) × (o ≡ Some x)) → false ≡ true) → None ≡ option_map f o
none_of f None h = refl
none_of f (Some x) h = let impossible = h (x, refl) in cc
