-- The maps as functions, for the contracts of crates above. `Exact` ties them to the relations.
use Rattle.std.proofs.Common.{ℕ, inl, inr, List, []}
use Rattle.event_form.specs.declared.event.Event.{Event}
use Rattle.event_form.specs.declared.event.Origin.{Origin}
use Rattle.event_form.specs.declared.event.Origin.TheVariants.{Relp, HecRaw, LumberJson, LumberData, HecEvent}
use Rattle.event_map.specs.Strings.{event_string}
use Rattle.event_map.specs.Objects.{message_object, event_object, pairs_object}
use Rattle.event_map.proofs.Deciding.{choose}
use Rattle.event_map.proofs.ObjectOrNot.{object_or_not}
use Rattle.event_map.proofs.PairsOrNot.{pairs_or_not}

-- the first where the text is one JSON object, and else the second
abbrev pub if_object : List ℕ → List ℕ → List ℕ → List ℕ
if_object text object other = choose (object_or_not text) object other

-- the pairs that the text is, and none where it isn't pairs
abbrev pub pairs_of : List ℕ → List (List ℕ × List ℕ)
pairs_of text = elim (pairs_or_not text) [ inl h ↦ h.pairs.pairs | inr never ↦ [] ]

abbrev pub text_by : Origin → List ℕ → List ℕ
text_by Relp text = text
text_by HecRaw text = text
text_by LumberJson text = text
text_by LumberData text = pairs_object (pairs_of text)
text_by HecEvent text = text

abbrev pub json_object_by : Origin → List ℕ → List ℕ
json_object_by Relp text = message_object text
json_object_by HecRaw text = message_object text
json_object_by LumberJson text = if_object text text (message_object text)
json_object_by LumberData text = pairs_object (pairs_of text)
json_object_by HecEvent text = text

abbrev pub hec_object_by : Origin → List ℕ → List ℕ
hec_object_by Relp text = event_object (event_string text)
hec_object_by HecRaw text = event_object (event_string text)
hec_object_by LumberJson text = if_object text (event_object text) (event_object (event_string text))
hec_object_by LumberData text = event_object (pairs_object (pairs_of text))
hec_object_by HecEvent text = text

-- the event's text
abbrev pub text_of : Event → List ℕ
text_of event = text_by event.origin event.text

-- the event as a JSON object
abbrev pub json_object_of : Event → List ℕ
json_object_of event = json_object_by event.origin event.text

-- the event as an HEC event object
abbrev pub hec_object_of : Event → List ℕ
hec_object_of event = hec_object_by event.origin event.text
