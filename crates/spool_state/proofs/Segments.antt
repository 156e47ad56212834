-- The bytes of a segment, and of one with a group more.
use Rattle.std.proofs.Common.{◌≡◌, ◌≢◌, ℕ, ◌+◌, ◌<◌, ◌≤◌, List, [], ◌∷◌, ◌++◌, length, take, drop, get_or, refl, sym, ◌∙◌, ap, arith, append_assoc, length-append}
use Rattle.std.specs.Int.{to_be_bytes, w32}
use Rattle.std.proofs.lemmas.List.{append-nil, take_at, get_or-append-add, take-take}
use Rattle.std.proofs.lemmas.List.Concat.{flat_map-append}
use Rattle.foundation.specs.Bytes.{part}
use Rattle.foundation.proofs.Bytes.{get_or-part, length-part}
use Rattle.event_form.specs.declared.event.Entry.{Entry}
use Rattle.spool_state.specs.Segment.{Segment, empty_segment, entries_text, group_text, groups_text, head_text, segment_text}
use Rattle.spool_state.specs.Image.{HoldsSegment}
use Rattle.spool_state.proofs.Texts.{length-head_text}

pub head_open : (ordinal first : ℕ) (rest : List ℕ) → get_or (head_text ordinal first ++ rest) 0 0 ≡ 1
unfolding head_text
head_open ordinal first rest = refl

pub empty_text : (ordinal first : ℕ) → segment_text (empty_segment ordinal first) ≡ head_text ordinal first
empty_text ordinal first = append-nil (head_text ordinal first)

pub empty_length : (ordinal first : ℕ) → length (segment_text (empty_segment ordinal first)) ≡ 17
empty_length ordinal first = ap length (empty_text ordinal first) ∙ length-head_text ordinal first

pub groups_join : (groups more : List (List Entry)) → groups_text (groups ++ more) ≡ groups_text groups ++ groups_text more
groups_join groups more = flat_map-append (λ g. 1 ∷ group_text g) groups more

-- ---- where it stands

-- it and its closed gate fit in the slot
pub holds_inside : (at size : ℕ) (segment : Segment) (c : List ℕ) → at + size ≤ length c → HoldsSegment at size segment c → length (segment_text segment) < size
holds_inside at size segment c room holds = omega (arith, ap length holds.text, length-part at size c room, length-append (segment_text segment) holds.rest, holds.more)

pub holds_open : (at size : ℕ) (segment : Segment) (c : List ℕ) → 0 < size → HoldsSegment at size segment c → get_or c at 0 ≡ 1
holds_open at size segment c large holds =
    sym (get_or-part at size c 0 at large (omega arith))
    ∙ ap (λ (l : List ℕ). get_or l 0 0) (holds.text ∙ append_assoc (head_text segment.ordinal segment.first) (groups_text segment.groups) holds.rest)
    ∙ head_open segment.ordinal segment.first (groups_text segment.groups ++ holds.rest)

-- the gate after it is closed
pub holds_closed : (at size : ℕ) (segment : Segment) (c : List ℕ) → at + size ≤ length c → HoldsSegment at size segment c → get_or c (at + length (segment_text segment)) 0 ≢ 1
holds_closed at size segment c room holds =
    let text = segment_text segment in
    let here : get_or c (at + length text) 0 ≡ get_or holds.rest 0 0 =
    sym (get_or-part at size c (length text) (at + length text) (holds_inside at size segment c room holds) refl)
    ∙ ap (λ (l : List ℕ). get_or l (length text) 0) holds.text
    ∙ ap (λ (k : ℕ). get_or (text ++ holds.rest) k 0) (omega arith)
    ∙ get_or-append-add text holds.rest 0 0 in
    λ one. holds.closed (sym here ∙ one)

-- ---- a group's text by its parts

pub group_parts : (group : List Entry) (size : ℕ) (head : List ℕ) → head ≡ to_be_bytes w32 size ++ to_be_bytes w32 (length group) → size ≡ length (entries_text group) → head ++ entries_text group ≡ group_text group
unfolding group_text
group_parts group size head is size_is =
    ap (λ (l : List ℕ). l ++ entries_text group) is ∙ ap (λ (n : ℕ). (to_be_bytes w32 n ++ to_be_bytes w32 (length group)) ++ entries_text group) size_is

-- ---- the segment with its closed gate alone

holds_front_by : (at size : ℕ) (segment : Segment) (c rest : List ℕ) → part at size c ≡ segment_text segment ++ rest → 0 < length rest → get_or rest 0 0 ≢ 1 → length (segment_text segment) + 1 ≤ size → HoldsSegment at (length (segment_text segment) + 1) segment c
holds_front_by at size segment c [] is some closed le = absurd (omega arith)
holds_front_by at size segment c (gate ∷ rest) is some closed le =
    let text = segment_text segment in
    record {
      rest = gate ∷ [];
      text = sym (take-take (length text + 1) size (drop at c) le) ∙ ap (take (length text + 1)) (is ∙ sym (append_assoc text (gate ∷ []) rest)) ∙ take_at (text ++ gate ∷ []) rest (length text + 1) (length-append text (gate ∷ []));
      more = omega arith;
      closed = closed;
    }

pub holds_front : (at size : ℕ) (segment : Segment) (c : List ℕ) → at + size ≤ length c → HoldsSegment at size segment c → HoldsSegment at (length (segment_text segment) + 1) segment c
holds_front at size segment c room holds = holds_front_by at size segment c holds.rest holds.text holds.more holds.closed (omega (arith, holds_inside at size segment c room holds))
