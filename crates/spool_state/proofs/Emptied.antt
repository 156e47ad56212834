-- The bytes of the empty spool.
use Rattle.std.proofs.Common.{◌≡◌, inl, inr, ℕ, ◌+◌, ◌≤◌, List, [], ◌∷◌, ◌++◌, length, take, drop, get_or, refl, sym, ◌∙◌, ap, subst, arith, take-append-drop, length-drop}
use Rattle.std.proofs.lemmas.List.{take_at, get_or-drop}
use Rattle.std.proofs.lemmas.List.Elements.{All-nil}
use Rattle.std.proofs.lemmas.Nat.{row_fits}
use Rattle.foundation.specs.Bytes.{part, put, SameBut}
use Rattle.foundation.proofs.Bytes.{get_or-part, length-part, put_same, same_part, part_put, length-put}
use Rattle.spool_state.specs.Layout.{first_cell, second_cell, first_slot}
use Rattle.spool_state.specs.Segment.{IsGroup, empty_segment, head_text}
use Rattle.spool_state.specs.SpoolState.{IsSound}
use Rattle.spool_state.specs.Cells.{content_text}
use Rattle.spool_state.specs.Image.{slot_at, magic, header_text, HoldsSegment, StandsFor}
use Rattle.spool_state.specs.Rules.{IsLayout}
use Rattle.spool_state.specs.Empty.{empty_state, IsBody}
use Rattle.spool_state.proofs.Places.{front_of, part_split, length-content_text}
use Rattle.spool_state.proofs.Texts.{length-head_text}
use Rattle.spool_state.proofs.Segments.{empty_text}

head_gate : (ordinal first : ℕ) → get_or (head_text ordinal first ++ 0 ∷ []) 17 0 ≡ 0
unfolding head_text
head_gate ordinal first = refl

-- a slot that begins with the head of an empty segment and a closed gate holds that segment
pub holds_empty : (at size ordinal first : ℕ) (c : List ℕ) → 18 ≤ size → at + size ≤ length c → part at 18 c ≡ head_text ordinal first ++ 0 ∷ [] → HoldsSegment at size (empty_segment ordinal first) c
holds_empty at size ordinal first c large room is =
    let head = head_text ordinal first in
    let slot = part at size c in
    let long = length-part at size c room in
    let front : take 17 slot ≡ head =
    front_of at 17 size c (omega arith) ∙ sym (front_of at 17 18 c (omega arith)) ∙ ap (take 17) is ∙ take_at head (0 ∷ []) 17 (length-head_text ordinal first) in
    let gate : get_or (drop 17 slot) 0 0 ≡ 0 =
    get_or-drop 17 slot 0 0 ∙ get_or-part at size c (17 + 0) (at + 17) (omega arith) (omega arith) ∙ sym (get_or-part at 18 c 17 (at + 17) (omega arith) (omega arith))
    ∙ ap (λ (l : List ℕ). get_or l 17 0) is ∙ head_gate ordinal first in
    record {
      rest = drop 17 slot;
      text = sym (take-append-drop 17 slot) ∙ ap (λ (l : List ℕ). l ++ drop 17 slot) (front ∙ sym (empty_text ordinal first));
      more = omega (arith, length-drop 17 slot);
      closed = λ one. absurd (omega (arith, gate, one));
    }

pub empty_sound : (slots size len : ℕ) → IsLayout slots size len → IsSound (empty_state slots size)
empty_sound slots size len layout = record {
  some = layout.some;
  few = layout.few;
  large = layout.large;
  small = layout.small;
  run = omega arith;
  ordinal = omega arith;
  older = λ k d lt. absurd (omega arith);
  active = record { place = omega (arith, layout.some); groups = All-nil IsGroup; early = omega arith };
  apart = tt;
  apart_active = λ k d lt. absurd (omega arith);
  consecutive = tt;
  ends = omega arith;
  from_base = omega arith;
  to_end = omega arith;
  known = record { apart = tt; few = omega arith };
  known_to_end = tt;
}

-- the bytes of the empty spool with any eight bytes in front
module _ (slots size : ℕ) (b : List ℕ) (layout : IsLayout slots size (length b)) (body : IsBody slots size b) where
  fits : first_slot + size ≤ length b
  fits = omega (arith, layout.long, row_fits 0 size slots size (omega (arith, layout.some)) (omega arith))

  same : SameBut 0 8 b (put 0 magic b)
  same = put_same 0 8 magic b (omega (arith, fits)) (omega arith)

  part_stays : (i m : ℕ) → 8 ≤ i → i + m ≤ length b → part i m (put 0 magic b) ≡ part i m b
  part_stays i m le room = same_part 0 8 i m b (put 0 magic b) same (inr le) room

  header : part 0 20 (put 0 magic b) ≡ header_text slots size
  unfolding header_text
  header =
      let c = put 0 magic b in
      let long : length c ≡ length b = length-put 0 magic b (omega (arith, fits)) in
      part_split 0 8 12 c
      ∙ ap (λ (l : List ℕ). l ++ part 8 12 c) (part_put 0 8 magic b (omega (arith, fits)) refl)
      ∙ ap (λ (l : List ℕ). magic ++ l) (part_stays 8 12 (omega arith) (omega (arith, fits)) ∙ body.front.numbers)

  -- With the magic in front they stand for the empty spool.
  pub body_stands : StandsFor (empty_state slots size) (put 0 magic b)
  body_stands =
      let c = put 0 magic b in
      let long : length c ≡ length b = length-put 0 magic b (omega (arith, fits)) in
      let at_is : first_slot ≡ slot_at size 0 = omega arith in
      let size_is : 13 + length (content_text 0 0 []) ≡ 32 = omega (arith, length-content_text 0 0 []) in
      record {
        long = long ∙ layout.long;
        header = header;
        register = (
          content_text 0 0 [],
          inl refl,
          inl (record {
            holds = ap (λ (n : ℕ). part first_cell n c) size_is ∙ part_stays first_cell 32 (omega arith) (omega (arith, fits)) ∙ body.front.cell;
            other_less = inl (λ one. body.front.other (sym (same.above second_cell (omega arith)) ∙ one));
          }),
        );
        older = λ k d lt. absurd (omega arith);
        active = holds_empty (slot_at size 0) size 1 0 c (omega (arith, layout.large)) (omega (arith, fits, long)) (subst (λ (n : ℕ). part n 18 c ≡ head_text 1 0 ++ 0 ∷ []) at_is (part_stays first_slot 18 (omega arith) (omega (arith, fits, layout.large)) ∙ body.front.slot));
        closed = λ place lt off none one. body.others place (omega (arith, off)) lt (sym (same.above (slot_at size place) (omega arith)) ∙ one);
        sound = empty_sound slots size (length b) layout;
      }
