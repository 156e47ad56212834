-- How long the maps' bytes may be.
use Rattle.std.proofs.Common.{◌≡◌, ℕ, ◌+◌, ◌*◌, ◌≤◌, inl, inr, List, [], ◌∷◌, ◌++◌, length, map, codes, ap, arith, length-append}
use Rattle.std.specs.List.{join_with_byte}
use Rattle.event_form.specs.Event.{pairs_text, IsEvent}
use Rattle.event_form.specs.declared.event.Event.{Event}
use Rattle.event_form.specs.declared.event.Origin.{Origin}
use Rattle.event_form.specs.declared.event.Origin.TheVariants.{Relp, HecRaw, LumberJson, LumberData, HecEvent}
use Rattle.event_map.specs.Strings.{string_of, event_string}
use Rattle.event_map.specs.Objects.{message_object, event_object, member_of, pairs_object}
use Rattle.event_map.specs.Maps.{OfPairs, TextBy, JsonBy, HecBy, IsText, IsJsonObject, IsHecObject}
use Rattle.event_map.proofs.OneList.{length_behind}
use Rattle.event_map.proofs.StringSizes.{string_size, event_string_size}

-- ---- objects

message_object_size : (text : List ℕ) → length (message_object text) ≤ 6 * length text + 14
message_object_size text = omega (arith, string_size text, length-append (string_of text) (codes "}"))

event_object_size : (value : List ℕ) → length (event_object value) ≡ length value + 10
event_object_size value = omega (arith, length-append value (codes "}"))

member_size : (pair : List ℕ × List ℕ) → length (member_of pair) ≤ 6 * length pair.0 + 6 * length pair.1 + 5
member_size pair = omega (arith, string_size pair.0, string_size pair.1, length-append (string_of pair.0) (codes ":" ++ string_of pair.1))

members_size : (pairs : List (List ℕ × List ℕ)) → length (join_with_byte 44 (map member_of pairs)) ≤ 6 * length (pairs_text pairs)
members_size [] = omega arith
members_size (p ∷ []) = omega (arith, member_size p, length_behind p [])
members_size (p ∷ q ∷ ps) =
    let rest = join_with_byte 44 (map member_of (q ∷ ps)) in
    omega (arith, member_size p, length_behind p (q ∷ ps), members_size (q ∷ ps), length-append (member_of p) (44 ∷ rest))

pairs_object_size : (pairs : List (List ℕ × List ℕ)) → length (pairs_object pairs) ≤ 6 * length (pairs_text pairs) + 2
pairs_object_size pairs = omega (arith, members_size pairs, length-append (join_with_byte 44 (map member_of pairs)) (codes "}"))

pairs_size : (text bytes : List ℕ) → OfPairs pairs_object text bytes → length bytes ≤ 6 * length text + 2
pairs_size text bytes h = omega (arith, ap length h.0.whole, ap length h.1, pairs_object_size h.0.pairs)

pairs_event_size : (text bytes : List ℕ) → OfPairs (λ pairs. event_object (pairs_object pairs)) text bytes → length bytes ≤ 6 * length text + 12
pairs_event_size text bytes h = omega (arith, ap length h.0.whole, ap length h.1, pairs_object_size h.0.pairs, event_object_size (pairs_object h.0.pairs))

event_of_string_size : (text : List ℕ) → length text ≤ 131072 → length (event_object (event_string text)) ≤ 6 * 131072 + 12
event_of_string_size text h = omega (arith, event_object_size (event_string text), event_string_size text h)

-- ---- the maps

text_by_size : (o : Origin) (text bytes : List ℕ) → length text ≤ 131072 → TextBy o text bytes → length bytes ≤ 6 * 131072 + 2
text_by_size Relp text bytes short h = omega (arith, short, ap length h)
text_by_size HecRaw text bytes short h = omega (arith, short, ap length h)
text_by_size LumberJson text bytes short h = omega (arith, short, ap length h)
text_by_size LumberData text bytes short h = omega (arith, short, pairs_size text bytes h)
text_by_size HecEvent text bytes short h = omega (arith, short, ap length h)

json_by_size : (o : Origin) (text bytes : List ℕ) → length text ≤ 131072 → JsonBy o text bytes → length bytes ≤ 6 * 131072 + 14
json_by_size Relp text bytes short h = omega (arith, short, message_object_size text, ap length h)
json_by_size HecRaw text bytes short h = omega (arith, short, message_object_size text, ap length h)
json_by_size LumberJson text bytes short (inl h) = omega (arith, short, ap length h.1)
json_by_size LumberJson text bytes short (inr h) = omega (arith, short, message_object_size text, ap length h.1)
json_by_size LumberData text bytes short h = omega (arith, short, pairs_size text bytes h)
json_by_size HecEvent text bytes short h = omega (arith, short, ap length h)

hec_by_size : (o : Origin) (text bytes : List ℕ) → length text ≤ 131072 → HecBy o text bytes → length bytes ≤ 6 * 131072 + 12
hec_by_size Relp text bytes short h = omega (arith, event_of_string_size text short, ap length h)
hec_by_size HecRaw text bytes short h = omega (arith, event_of_string_size text short, ap length h)
hec_by_size LumberJson text bytes short (inl h) = omega (arith, short, event_object_size text, ap length h.1)
hec_by_size LumberJson text bytes short (inr h) = omega (arith, event_of_string_size text short, ap length h.1)
hec_by_size LumberData text bytes short h = omega (arith, short, pairs_event_size text bytes h)
hec_by_size HecEvent text bytes short h = omega (arith, short, ap length h)

pub text_size : (e : Event) (bytes : List ℕ) → IsEvent e → IsText e bytes → length bytes ≤ 6 * 131072 + 2
text_size e bytes limits h = text_by_size e.origin e.text bytes limits.short h

pub json_object_size : (e : Event) (bytes : List ℕ) → IsEvent e → IsJsonObject e bytes → length bytes ≤ 6 * 131072 + 14
json_object_size e bytes limits h = json_by_size e.origin e.text bytes limits.short h

pub hec_object_size : (e : Event) (bytes : List ℕ) → IsEvent e → IsHecObject e bytes → length bytes ≤ 6 * 131072 + 12
hec_object_size e bytes limits h = hec_by_size e.origin e.text bytes limits.short h
