-- A text of few bytes makes an event object that is short.
use Rattle.std.proofs.Common.{◌≡◌, inl, inr, ℕ, ◌+◌, ◌*◌, ◌≤◌, List, [], ◌∷◌, ◌++◌, length, ap, arith, length-append}
use Rattle.std.specs.Prelude.{codes, map}
use Rattle.std.specs.List.{join_with_byte}
use Rattle.event_form.specs.Event.{pairs_text}
use Rattle.event_form.specs.declared.event.Origin.{Origin}
use Rattle.event_form.specs.declared.event.Origin.TheVariants.{Relp, HecRaw, LumberJson, LumberData, HecEvent}
use Rattle.event_map.specs.Maps.{HecBy, OfPairs}
use Rattle.event_map.specs.Objects.{event_object, member_of, pairs_object}
use Rattle.event_map.specs.Strings.{event_string, string_of}
use Rattle.event_map.proofs.OneList.{length_behind}
use Rattle.event_map.proofs.StringSizes.{string_size}
use Rattle.collector_laws.specs.Taken.{FewAreShort}

object_size : (value : List ℕ) → length (event_object value) ≡ length value + 10
object_size value = omega (arith, length-append value (codes "}"))

string_small : (text : List ℕ) → length text ≤ 21843 → length (event_object (event_string text)) ≤ 131072
string_small [] few = omega arith
string_small (c ∷ text) few = omega (arith, few, string_size (c ∷ text), object_size (string_of (c ∷ text)))

member_size : (p : List ℕ × List ℕ) → length (member_of p) ≤ 6 * length p.0 + 6 * length p.1 + 5
member_size p = omega (arith, string_size p.0, string_size p.1, length-append (string_of p.0) (codes ":" ++ string_of p.1))

members_size : (ps : List (List ℕ × List ℕ)) → length (join_with_byte 44 (map member_of ps)) ≤ 6 * length (pairs_text ps)
members_size [] = omega arith
members_size (p ∷ []) = omega (arith, member_size p, length_behind p [])
members_size (p ∷ q ∷ ps) =
    let rest = join_with_byte 44 (map member_of (q ∷ ps)) in
    omega (arith, member_size p, length_behind p (q ∷ ps), members_size (q ∷ ps), length-append (member_of p) (44 ∷ rest))

pairs_small : (text bytes : List ℕ) → OfPairs (λ pairs. event_object (pairs_object pairs)) text bytes → length text ≤ 21843 → length bytes ≤ 131072
pairs_small text bytes (h, is) few =
    omega (
      arith,
      few,
      ap length h.whole,
      ap length is,
      object_size (pairs_object h.pairs),
      members_size h.pairs,
      length-append (join_with_byte 44 (map member_of h.pairs)) (codes "}"),
    )

by_origin : (o : Origin) (text bytes : List ℕ) → HecBy o text bytes → length text ≤ 21843 → length bytes ≤ 131072
by_origin Relp text bytes is few = omega (arith, string_small text few, ap length is)
by_origin HecRaw text bytes is few = omega (arith, string_small text few, ap length is)
by_origin LumberJson text bytes (inl h) few = omega (arith, few, object_size text, ap length h.1)
by_origin LumberJson text bytes (inr h) few = omega (arith, string_small text few, ap length h.1)
by_origin LumberData text bytes is few = pairs_small text bytes is few
by_origin HecEvent text bytes is few = omega (arith, few, ap length is)

pub few_short : FewAreShort
few_short e bytes is few = by_origin e.origin e.text bytes is few
