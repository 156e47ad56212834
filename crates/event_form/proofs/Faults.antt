-- Where bytes are at fault with which no entry begins.
use Rattle.std.proofs.Common.{◌≡◌, ℕ, ◌+◌, ◌<◌, ◌≤◌, true, false, List, length, get_or, take, drop, refl, sym, ◌∙◌, ap, subst, arith, length-append}
use Rattle.std.proofs.lemmas.Bool.{both_ways, lt-ltb, le-ltb}
use Rattle.std.proofs.lemmas.List.{get_or_past}
use Rattle.event_form.specs.declared.limits.TheConstants.{HEAD_BYTES, MOST_TEXT}
use Rattle.event_form.specs.declared.event.Origin.{Origin}
use Rattle.event_form.specs.declared.event.Origin.TheVariants.{Relp, LumberData, LumberJson, HecEvent, HecRaw}
use Rattle.event_form.specs.declared.event.Entry.{Entry}
use Rattle.event_form.specs.Event.{ArePairs}
use Rattle.event_form.specs.Entry.{origin_code, entry_text, size_of}
use Rattle.event_form.specs.Reading.{Begins, is_origin, told_length, bad_place, IsBadAt}
use Rattle.event_form.proofs.Fields.{length-entry_text, origin_at, length_read, text_at}
use Rattle.event_form.proofs.Unique.{same_origin}

pub code_is_origin : (o : Origin) → is_origin (origin_code o) ≡ true
code_is_origin Relp = refl
code_is_origin LumberData = refl
code_is_origin LumberJson = refl
code_is_origin HecEvent = refl
code_is_origin HecRaw = refl

-- ---- what bytes tell with which an entry begins

pub begins_origin : (e : Entry) (b rest : List ℕ) → Begins e b rest → get_or b 0 0 ≡ origin_code e.event.origin
begins_origin e b rest h = ap (λ (l : List ℕ). get_or l 0 0) h.whole ∙ origin_at e rest

pub begins_length : (e : Entry) (b rest : List ℕ) → Begins e b rest → length b ≡ size_of e + length rest
begins_length e b rest h = ap length h.whole ∙ length-append (entry_text e) rest ∙ ap (λ n. n + length rest) (length-entry_text e)

pub begins_told : (e : Entry) (b rest : List ℕ) → Begins e b rest → told_length b ≡ length e.event.text
begins_told e b rest h = ap told_length h.whole ∙ length_read e rest h.limits.event

pub begins_text : (e : Entry) (b rest : List ℕ) → Begins e b rest → take (told_length b) (drop 29 b) ≡ e.event.text
begins_text e b rest h = ap (λ n. take n (drop 29 b)) (begins_told e b rest h) ∙ ap (λ (l : List ℕ). take (length e.event.text) (drop 29 l)) h.whole ∙ text_at e rest

-- ---- the faults in their order

pub bad_origin : (b : List ℕ) → is_origin (get_or b 0 0) ≡ false → IsBadAt b 0
unfolding bad_place
bad_origin b not_one = record {
  none = λ e rest h. both_ways (is_origin (get_or b 0 0)) not_one (ap is_origin (begins_origin e b rest h) ∙ code_is_origin e.event.origin);
  place = rw not_one refl;
}

pub bad_empty : (b : List ℕ) → length b ≡ 0 → IsBadAt b 0
bad_empty b h = bad_origin b (ap is_origin (get_or_past b 0 0 (omega arith)))

-- from here on the first byte is that of an origin
pub bad_head : (o : Origin) (b : List ℕ) → get_or b 0 0 ≡ origin_code o → length b < HEAD_BYTES → IsBadAt b (length b)
unfolding bad_place
bad_head o b is cut = record {
  none = λ e rest h. absurd (omega (arith, begins_length e b rest h));
  place = rw (ap is_origin is ∙ code_is_origin o, lt-ltb (length b) HEAD_BYTES cut) refl;
}

pub bad_length : (o : Origin) (b : List ℕ) → get_or b 0 0 ≡ origin_code o → HEAD_BYTES ≤ length b → MOST_TEXT < told_length b → IsBadAt b 25
unfolding bad_place
bad_length o b is there long = record {
  none = λ e rest h. absurd (omega (arith, begins_told e b rest h, h.limits.event.short));
  place = rw (ap is_origin is ∙ code_is_origin o, le-ltb (length b) HEAD_BYTES there, lt-ltb MOST_TEXT (told_length b) long) refl;
}

pub bad_text : (o : Origin) (b : List ℕ) → get_or b 0 0 ≡ origin_code o → HEAD_BYTES ≤ length b → told_length b ≤ MOST_TEXT → length b < HEAD_BYTES + told_length b → IsBadAt b (length b)
unfolding bad_place
bad_text o b is there short cut = record {
  none = λ e rest h. absurd (omega (arith, begins_told e b rest h, begins_length e b rest h));
  place = rw (ap is_origin is ∙ code_is_origin o, le-ltb (length b) HEAD_BYTES there, le-ltb MOST_TEXT (told_length b) short, lt-ltb (length b) (HEAD_BYTES + told_length b) cut) refl;
}

pub bad_pairs : (o : Origin) (b : List ℕ) → get_or b 0 0 ≡ origin_code o → HEAD_BYTES ≤ length b → told_length b ≤ MOST_TEXT → HEAD_BYTES + told_length b ≤ length b → ((o ≡ LumberData → ArePairs (take (told_length b) (drop 29 b))) → ⊥) → IsBadAt b HEAD_BYTES
unfolding bad_place
bad_pairs o b is there short whole not_pairs = record {
  none = λ e rest h. not_pairs (λ lumber.
      let same = same_origin o e.event.origin (sym is ∙ begins_origin e b rest h) in
      subst ArePairs (sym (begins_text e b rest h)) (h.limits.event.pairs (sym same ∙ lumber)));
  place = rw (ap is_origin is ∙ code_is_origin o, le-ltb (length b) HEAD_BYTES there, le-ltb MOST_TEXT (told_length b) short, le-ltb (length b) (HEAD_BYTES + told_length b) whole) refl;
}
