-- A slot scanned group by group.
use Rattle.std.proofs.Common.{◌≡◌, ◌≢◌, ℕ, ◌+◌, ◌-◌, ◌^◌, ◌<◌, ◌≤◌, List, ◌∷◌, ◌++◌, length, take, drop, get_or, refl, sym, ◌∙◌, ap, subst, arith, append_assoc, length-append, take-append-drop}
use Rattle.std.specs.List.{All}
use Rattle.std.specs.Int.{w64, to_be_bytes}
use Rattle.std.proofs.lemmas.List.{length-drop, drop_at, drop-drop, take_all}
use Rattle.std.proofs.lemmas.List.Elements.{All-nil, All-push}
use Rattle.foundation.specs.Bytes.{part}
use Rattle.foundation.proofs.Bytes.{length-part}
use Rattle.event_form.specs.declared.event.Entry.{Entry}
use Rattle.spool_state.specs.Segment.{IsGroup, Segment, empty_segment, entries_of, entries_text, group_text, head_text, segment_text, with_group}
use Rattle.spool_state.specs.Image.{HoldsSegment}
use Rattle.spool_state.specs.Broken.{BeginsGroup, BreaksAt}
use Rattle.spool_state.proofs.Segments.{empty_text, empty_length}
use Rattle.spool_state.proofs.Texts.{length-group_text, segment_text-with_group, length-segment_text-with_group, entries_of-with_group}
use Rattle.spool_state.proofs.Once.{one_segment}
use Rattle.spool_slots.specs.declared.slot.Slot.{Slot}
use Rattle.spool_slots.specs.Slot.{Knows}
use Rattle.spool_slots.specs.Scan.{IsScanned, KnowsSome}
use Rattle.spool_slots.proofs.Found.{first_byte}
use Rattle.spool_slots.proofs.Windows.{drop-part, part_split}

-- the gate, the ordinal and the first number, as they were read
pub head_read : (ordinal first : ℕ) (head : List ℕ) → length head ≡ 17 → get_or head 0 0 ≡ 1 → to_be_bytes w64 ordinal ≡ take 8 (drop 1 head) → to_be_bytes w64 first ≡ take 8 (drop 9 head) → head ≡ head_text ordinal first
unfolding head_text
head_read ordinal first head long opens o f =
    first_byte head 1 (omega arith) opens
    ∙ ap (λ (l : List ℕ). 1 ∷ l) (sym (take-append-drop 8 (drop 1 head)) ∙ ap (λ (l : List ℕ). l ++ drop 8 (drop 1 head)) (sym o)
    ∙ ap (λ (l : List ℕ). to_be_bytes w64 ordinal ++ l) (drop-drop 8 1 head ∙ sym (take_all 8 (drop 9 head) (omega (arith, length-drop 9 head))) ∙ sym f))

pub scan_start : (at size ordinal first : ℕ) (c : List ℕ) → 17 ≤ size → part at 17 c ≡ head_text ordinal first → IsScanned at size ordinal first 17 0 c
scan_start at size ordinal first c large is = record {
  before = empty_segment ordinal first;
  sound = All-nil IsGroup;
  ordinal_is = refl;
  first_is = refl;
  text = part_split at 17 size (at + 17) (size - 17) c refl (omega arith) ∙ ap (λ (l : List ℕ). l ++ part (at + 17) (size - 17) c) (is ∙ sym (empty_text ordinal first));
  gate_is = sym (empty_length ordinal first);
  count_is = refl;
}

pub scan_more : (at size ordinal first gate count next more : ℕ) (group : List Entry) (c : List ℕ) → at + size ≤ length c → gate < size → IsScanned at size ordinal first gate count c → BeginsGroup group (part (at + gate) (size - gate) c)
    → next ≡ gate + (9 + length (entries_text group)) → more ≡ length group → IsScanned at size ordinal first next (count + more) c
scan_more at size ordinal first gate count next more group c room lt scanned begins next_is more_is =
    let p = at + gate in
    let k = size - gate in
    let n = 9 + length (entries_text group) in
    let before = scanned.before in
    let group_long = length-group_text group in
    let fits : k ≡ n + length begins.behind = omega (arith, length-part p k c (omega (arith, room)), ap length begins.text, length-append (group_text group) begins.behind, group_long) in
    let behind : part (at + next) (size - next) c ≡ begins.behind =
    ap (λ (j : ℕ). part j (size - next) c) (omega (arith, next_is)) ∙ ap (λ (j : ℕ). part (p + n) j c) (omega (arith, next_is, fits))
    ∙ sym (drop-part p n k c (omega (arith, fits))) ∙ ap (drop n) begins.text ∙ drop_at (1 ∷ group_text group) begins.behind n (omega (arith, group_long)) in
    record {
      before = with_group before group;
      sound = All-push IsGroup before.groups group scanned.sound begins.sound;
      ordinal_is = scanned.ordinal_is;
      first_is = scanned.first_is;
      text = scanned.text ∙ ap (λ (l : List ℕ). segment_text before ++ l) begins.text
          ∙ sym (append_assoc (segment_text before) (1 ∷ group_text group) begins.behind)
          ∙ ap (λ (l : List ℕ). l ++ begins.behind) (sym (segment_text-with_group before group))
          ∙ ap (λ (l : List ℕ). segment_text (with_group before group) ++ l) (sym behind);
      gate_is = omega (arith, next_is, scanned.gate_is, length-segment_text-with_group before group);
      count_is = omega (arith, more_is, scanned.count_is, ap length (entries_of-with_group before group), length-append (entries_of before) group);
    }

pub scan_end : (at size ordinal first gate count : ℕ) (c : List ℕ) → at + size ≤ length c → gate < size → (scanned : IsScanned at size ordinal first gate count c) → get_or (part (at + gate) (size - gate) c) 0 0 ≢ 1 → HoldsSegment at size scanned.before c
scan_end at size ordinal first gate count c room lt scanned closed = record {
  rest = part (at + gate) (size - gate) c;
  text = scanned.text;
  more = omega (arith, length-part (at + gate) (size - gate) c (omega (arith, room)));
  closed = closed;
}

pub scan_broken : (at size ordinal first gate count : ℕ) (c : List ℕ) → IsScanned at size ordinal first gate count c → get_or (part (at + gate) (size - gate) c) 0 0 ≡ 1
    → ((group : List Entry) → BeginsGroup group (part (at + gate) (size - gate) c) → ⊥) → BreaksAt at size (at + gate) c
scan_broken at size ordinal first gate count c scanned opens none = record {
  before = scanned.before;
  sound = scanned.sound;
  rest = part (at + gate) (size - gate) c;
  text = scanned.text;
  here = ap (λ (n : ℕ). at + n) scanned.gate_is;
  opens = opens;
  no_group = none;
}

-- ---- the segment that a slot holds is the one that is found

-- memory knows the segment that the slot holds, if it knows any
pub known_one : (slot : Slot) (segment : Segment) (c : List ℕ) → slot.at + slot.size ≤ length c → slot.ordinal < 2 ^ 64 → slot.first < 2 ^ 64 → All IsGroup segment.groups → segment.ordinal < 2 ^ 64 → segment.first < 2 ^ 64
    → HoldsSegment slot.at slot.size segment c → KnowsSome slot c → Knows slot segment c
known_one slot segment c room so sf sound to tf holds known =
    let found = known.0 in
    let knows = known.1 in
    let same : found ≡ segment = one_segment slot.at slot.size found segment c room (omega (arith, slot.small)) (omega (arith, so, knows.ordinal)) to (omega (arith, sf, knows.first)) tf knows.sound sound knows.holds holds in
    subst (λ (s : Segment). Knows slot s c) same knows
