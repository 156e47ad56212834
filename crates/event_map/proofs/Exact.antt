-- An event has one text, one JSON object and one HEC event object.
use Rattle.std.proofs.Common.{◌≡◌, ℕ, ◌≤◌, inl, inr, List, [], length, refl, sym, ◌∙◌, ap}
use Rattle.event_form.specs.Event.{ArePairs, pairs_text, IsEvent}
use Rattle.event_form.specs.declared.event.Event.{Event}
use Rattle.event_form.specs.declared.event.Origin.{Origin}
use Rattle.event_form.specs.declared.event.Origin.TheVariants.{Relp, HecRaw, LumberJson, LumberData, HecEvent}
use Rattle.json_span.specs.Members.{IsObjectText}
use Rattle.event_map.specs.Maps.{OfPairs, OfObject, TextBy, JsonBy, HecBy, IsText, IsJsonObject, IsHecObject}
use Rattle.event_map.specs.Objects.{event_object, pairs_object}
use Rattle.event_map.proofs.OneList.{one_list}
use Rattle.event_map.proofs.Deciding.{Decided, choose, choose_yes, choose_no}
use Rattle.event_map.proofs.ObjectOrNot.{object_or_not}
use Rattle.event_map.proofs.PairsOrNot.{IsPairsText, pairs_or_not}
use Rattle.event_map.proofs.Functions.{if_object, pairs_of, text_by, json_object_by, hec_object_by, text_of, json_object_of, hec_object_of}

-- the pairs that a text is are its pairs
pub pairs_of-is : (text : List ℕ) → length text ≤ 131072 → (h : ArePairs text) → pairs_of text ≡ h.pairs
pairs_of-is text short h = go (pairs_or_not text)
  where
    go : (d : Decided (IsPairsText text)) → elim d [ inl k ↦ k.pairs.pairs | inr never ↦ [] ] ≡ h.pairs
    go (inl k) = one_list text short k.pairs h
    go (inr never) = absurd (never (record { short = short; pairs = h }))

-- what is written of pairs is read as those pairs
pub pairs_of-pairs_text : (pairs : List (List ℕ × List ℕ)) → length pairs ≤ 1024 → length (pairs_text pairs) ≤ 131072 → pairs_of (pairs_text pairs) ≡ pairs
pairs_of-pairs_text pairs few short = pairs_of-is (pairs_text pairs) short (record { pairs = pairs; few = few; whole = refl })

-- ---- by the kinds of text

pairs_only : (f : List (List ℕ × List ℕ) → List ℕ) (text bytes : List ℕ) → length text ≤ 131072 → OfPairs f text bytes → bytes ≡ f (pairs_of text)
pairs_only f text bytes short h = h.1 ∙ ap f (sym (pairs_of-is text short h.0))

pairs_is : (f : List (List ℕ × List ℕ) → List ℕ) (text : List ℕ) → length text ≤ 131072 → ArePairs text → OfPairs f text (f (pairs_of text))
pairs_is f text short h = (h, ap f (pairs_of-is text short h))

object_only : (object other text bytes : List ℕ) → OfObject object other text bytes → bytes ≡ if_object text object other
object_only object other text bytes (inl h) = h.1 ∙ sym (choose_yes (object_or_not text) object other h.0)
object_only object other text bytes (inr h) = h.1 ∙ sym (choose_no (object_or_not text) object other h.0)

object_is : (object other text : List ℕ) → OfObject object other text (if_object text object other)
object_is object other text = go (object_or_not text)
  where
    go : (d : Decided (IsObjectText text)) → OfObject object other text (choose d object other)
    go (inl whole) = inl (whole, refl)
    go (inr never) = inr (never, refl)

-- ---- by the origins

only_text_by : (o : Origin) (text bytes : List ℕ) → length text ≤ 131072 → TextBy o text bytes → bytes ≡ text_by o text
only_text_by Relp text bytes short h = h
only_text_by HecRaw text bytes short h = h
only_text_by LumberJson text bytes short h = h
only_text_by LumberData text bytes short h = pairs_only pairs_object text bytes short h
only_text_by HecEvent text bytes short h = h

only_json_by : (o : Origin) (text bytes : List ℕ) → length text ≤ 131072 → JsonBy o text bytes → bytes ≡ json_object_by o text
only_json_by Relp text bytes short h = h
only_json_by HecRaw text bytes short h = h
only_json_by LumberJson text bytes short h = object_only _ _ text bytes h
only_json_by LumberData text bytes short h = pairs_only pairs_object text bytes short h
only_json_by HecEvent text bytes short h = h

only_hec_by : (o : Origin) (text bytes : List ℕ) → length text ≤ 131072 → HecBy o text bytes → bytes ≡ hec_object_by o text
only_hec_by Relp text bytes short h = h
only_hec_by HecRaw text bytes short h = h
only_hec_by LumberJson text bytes short h = object_only _ _ text bytes h
only_hec_by LumberData text bytes short h = pairs_only (λ pairs. event_object (pairs_object pairs)) text bytes short h
only_hec_by HecEvent text bytes short h = h

is_text_by : (o : Origin) (text : List ℕ) → length text ≤ 131072 → (o ≡ LumberData → ArePairs text) → TextBy o text (text_by o text)
is_text_by Relp text short h = refl
is_text_by HecRaw text short h = refl
is_text_by LumberJson text short h = refl
is_text_by LumberData text short h = pairs_is pairs_object text short (h refl)
is_text_by HecEvent text short h = refl

is_json_by : (o : Origin) (text : List ℕ) → length text ≤ 131072 → (o ≡ LumberData → ArePairs text) → JsonBy o text (json_object_by o text)
is_json_by Relp text short h = refl
is_json_by HecRaw text short h = refl
is_json_by LumberJson text short h = object_is _ _ text
is_json_by LumberData text short h = pairs_is pairs_object text short (h refl)
is_json_by HecEvent text short h = refl

is_hec_by : (o : Origin) (text : List ℕ) → length text ≤ 131072 → (o ≡ LumberData → ArePairs text) → HecBy o text (hec_object_by o text)
is_hec_by Relp text short h = refl
is_hec_by HecRaw text short h = refl
is_hec_by LumberJson text short h = object_is _ _ text
is_hec_by LumberData text short h = pairs_is (λ pairs. event_object (pairs_object pairs)) text short (h refl)
is_hec_by HecEvent text short h = refl

-- ---- what the relations allow is what the functions give, and nothing else

pub only_text : (e : Event) (bytes : List ℕ) → IsEvent e → IsText e bytes → bytes ≡ text_of e
only_text e bytes limits h = only_text_by e.origin e.text bytes limits.short h

pub only_json_object : (e : Event) (bytes : List ℕ) → IsEvent e → IsJsonObject e bytes → bytes ≡ json_object_of e
only_json_object e bytes limits h = only_json_by e.origin e.text bytes limits.short h

pub only_hec_object : (e : Event) (bytes : List ℕ) → IsEvent e → IsHecObject e bytes → bytes ≡ hec_object_of e
only_hec_object e bytes limits h = only_hec_by e.origin e.text bytes limits.short h

pub text_of-is : (e : Event) → IsEvent e → IsText e (text_of e)
text_of-is e limits = is_text_by e.origin e.text limits.short limits.pairs

pub json_object_of-is : (e : Event) → IsEvent e → IsJsonObject e (json_object_of e)
json_object_of-is e limits = is_json_by e.origin e.text limits.short limits.pairs

pub hec_object_of-is : (e : Event) → IsEvent e → IsHecObject e (hec_object_of e)
hec_object_of-is e limits = is_hec_by e.origin e.text limits.short limits.pairs
