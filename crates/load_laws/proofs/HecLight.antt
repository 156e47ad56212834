-- The event object of a small entry is short.
use Rattle.std.proofs.Common.{◌≡◌, inl, inr, ℕ, ◌+◌, ◌*◌, ◌≤◌, List, [], ◌∷◌, ◌++◌, length, map, codes, ap, arith, length-append}
use Rattle.std.specs.Prelude.{All, slice_index_or}
use Rattle.std.specs.List.{join_with_byte}
use Rattle.event_form.specs.Entry.{entry_text}
use Rattle.event_form.specs.Event.{pairs_text}
use Rattle.event_form.specs.declared.event.Entry.{Entry}
use Rattle.event_form.specs.declared.event.Origin.{Origin}
use Rattle.event_form.specs.declared.event.Origin.TheVariants.{Relp, HecRaw, LumberJson, LumberData, HecEvent}
use Rattle.event_form.proofs.Fields.{length-entry_text}
use Rattle.event_map.specs.Objects.{event_object, member_of, pairs_object}
use Rattle.event_map.specs.Strings.{event_string, string_of}
use Rattle.event_map.proofs.Deciding.{Decided, choose}
use Rattle.event_map.proofs.Functions.{hec_object_by, pairs_of}
use Rattle.event_map.proofs.ObjectOrNot.{object_or_not}
use Rattle.event_map.proofs.OneList.{length_behind}
use Rattle.event_map.proofs.PairsOrNot.{pairs_or_not}
use Rattle.event_map.proofs.StringSizes.{string_size}
use Rattle.json_span.specs.Members.{IsObjectText}
use Rattle.load_laws.proofs.HecKnown.{AreLight}

object_short : (value : List ℕ) → length (event_object value) ≡ length value + 10
object_short value = omega (arith, length-append value (codes "}"))

string_short : (text : List ℕ) → length text ≤ 200 → length (event_object (event_string text)) ≤ 8192
string_short [] short = omega arith
string_short (b ∷ text) short = omega (arith, short, string_size (b ∷ text), object_short (string_of (b ∷ text)))

-- ---- pairs

member_short : (pair : List ℕ × List ℕ) → length (member_of pair) ≤ 6 * length pair.0 + 6 * length pair.1 + 5
member_short pair = omega (arith, string_size pair.0, string_size pair.1, length-append (string_of pair.0) (codes ":" ++ string_of pair.1))

members_short : (pairs : List (List ℕ × List ℕ)) → length (join_with_byte 44 (map member_of pairs)) ≤ 6 * length (pairs_text pairs)
members_short [] = omega arith
members_short (p ∷ []) = omega (arith, member_short p, length_behind p [])
members_short (p ∷ q ∷ ps) =
    let rest = join_with_byte 44 (map member_of (q ∷ ps)) in
    omega (arith, member_short p, length_behind p (q ∷ ps), members_short (q ∷ ps), length-append (member_of p) (44 ∷ rest))

pairs_short : (pairs : List (List ℕ × List ℕ)) → length (pairs_text pairs) ≤ 200 → length (event_object (pairs_object pairs)) ≤ 8192
pairs_short pairs short = omega (arith, short, members_short pairs, length-append (join_with_byte 44 (map member_of pairs)) (codes "}"), object_short (pairs_object pairs))

-- ---- by the origin

by_short : (origin : Origin) (text : List ℕ) → length text ≤ 200 → length (hec_object_by origin text) ≤ 8192
by_short Relp text short = string_short text short
by_short HecRaw text short = string_short text short
by_short LumberJson text short = by (object_or_not text)
  where
    by : (d : Decided (IsObjectText text)) → length (choose d (event_object text) (event_object (event_string text))) ≤ 8192
    by (inl is) = omega (arith, short, object_short text)
    by (inr never) = string_short text short
by_short LumberData text short = pairs_short (pairs_of text) (few text short)
  where
    few : (text : List ℕ) → length text ≤ 200 → length (pairs_text (pairs_of text)) ≤ 200
    few text short = elim (pairs_or_not text) as (λ d. length (pairs_text (elim d [ inl h ↦ h.pairs.pairs | inr never ↦ [] ])) ≤ 200) [
      | inl h ↦ omega (arith, short, ap length h.pairs.whole)
      | inr never ↦ omega arith
    ]
by_short HecEvent text short = omega (arith, short)

-- entries of at most 200 bytes each have short objects
pub small_light : (entries : List Entry) → All (λ (e : Entry). length (entry_text e) ≤ 200) entries → AreLight entries
small_light entries small k d lt =
    let e = slice_index_or entries k d in
    let one : length (entry_text e) ≤ 200 = small k d lt in
    by_short e.event.origin e.event.text (omega (arith, one, length-entry_text e))
