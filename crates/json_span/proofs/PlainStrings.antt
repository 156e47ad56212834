-- Strings of bytes that stand for themselves.
use Rattle.std.proofs.Common.{◌≡◌, ℕ, zero, suc, ◌+◌, ◌-◌, ◌≤◌, ◌<◌, List, [], ◌∷◌, length, get_or, refl, sym, ap, ◌∙◌, subst, arith}
use Rattle.std.specs.Prelude.{slice_range}
use Rattle.std.proofs.lemmas.List.Edits.{between_none}
use Rattle.json_span.specs.Strings.{CharKind, Plain, EndsString, IsString}
use Rattle.json_span.specs.Plain.{ArePlain}
use Rattle.json_span.specs.Spans.{Stretch}
use Rattle.json_span.proofs.Values.{range_head}

-- so many of these bytes and a quotation mark end a string
ends_plain : (bytes : List ℕ) (a n end : ℕ) → a + n ≡ end → end < length bytes → ArePlain bytes a end → get_or bytes end 0 ≡ 34 → (ks : List CharKind) × EndsString ks (slice_range bytes a (end + 1))
ends_plain bytes a zero end e l p q =
    let here : a ≡ end = omega (arith, e) in
    let head : slice_range bytes end (end + 1) ≡ get_or bytes end 0 ∷ slice_range bytes (end + 1) (end + 1) = range_head bytes end (end + 1) (omega arith) (omega (arith, l)) in
    let text : slice_range bytes end (end + 1) ≡ 34 ∷ [] = head ∙ ap (λ (z : List ℕ). get_or bytes end 0 ∷ z) (between_none bytes (end + 1)) ∙ ap (λ (c : ℕ). c ∷ []) q in
    ([], subst (λ (n : ℕ). slice_range bytes n (end + 1) ≡ 34 ∷ []) (sym here) text)
ends_plain bytes a (suc n) end e l p q =
    let r = ends_plain bytes (a + 1) n end (omega (arith, e)) l (λ k from to. p k (omega (arith, from)) to) q in
    let head : slice_range bytes a (end + 1) ≡ get_or bytes a 0 ∷ slice_range bytes (a + 1) (end + 1) = range_head bytes a (end + 1) (omega (arith, e)) (omega (arith, l)) in
    (Plain ∷ r.0, (get_or bytes a 0 ∷ [], slice_range bytes (a + 1) (end + 1), (get_or bytes a 0, refl, p a (omega arith) (omega (arith, e))), head, r.1))

pub plain_string : (bytes : List ℕ) (at end : ℕ) → get_or bytes at 0 ≡ 34 → at + 1 ≤ end → end < length bytes → ArePlain bytes (at + 1) end → get_or bytes end 0 ≡ 34 → Stretch IsString bytes at (end + 1)
plain_string bytes at end o le l p q = let r = go in record {
  order = omega (arith, le);
  bound = omega (arith, l);
  text = (slice_range bytes (at + 1) (end + 1), r.0, range_head bytes at (end + 1) (omega (arith, le)) (omega (arith, l)) ∙ ap (λ (c : ℕ). c ∷ slice_range bytes (at + 1) (end + 1)) o, r.1);
}
  where
    go : (ks : List CharKind) × EndsString ks (slice_range bytes (at + 1) (end + 1))
    go = ends_plain bytes (at + 1) (end - (at + 1)) end (omega (arith, le)) l p q
