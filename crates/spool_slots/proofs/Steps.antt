-- What each step of a gate in a slot does to the segment in it.
use Rattle.std.proofs.Common.{◌≡◌, ◌≢◌, inl, inr, ℕ, suc, ◌+◌, ◌-◌, ◌<◌, ◌≤◌, List, [], ◌∷◌, ◌++◌, length, drop, get_or, refl, sym, ◌∙◌, ap, subst, arith, add-zero, zero-add, append_assoc, length-append}
use Rattle.std.proofs.lemmas.List.{get_or_at, append-nil}
use Rattle.foundation.specs.Bytes.{part, put, SameBut}
use Rattle.foundation.proofs.Bytes.{same_but_then, same_but_wider, length-part, put_at, length-put, part-put_within}
use Rattle.edge_disk.specs.Disk.{Moment, IsLawful, LeavesOnly}
use Rattle.edge_disk.specs.Gate.{IsGateStep, ComesFrom, GoesBehind}
use Rattle.edge_disk.specs.Leave.{Lets}
use Rattle.edge_disk.proofs.Moments.{weaker}
use Rattle.edge_disk.proofs.GateSteps.{behind, open_whole, closed_or_before}
use Rattle.edge_disk.proofs.Leaving.{lets_as}
use Rattle.event_form.specs.declared.event.Entry.{Entry}
use Rattle.spool_state.specs.Segment.{Segment, empty_segment, with_group, group_text, head_text, need_of, segment_text}
use Rattle.spool_state.specs.Image.{HoldsSegment}
use Rattle.spool_state.proofs.Segments.{holds_closed, holds_open}
use Rattle.spool_state.proofs.Steps.{still_holds, holds_more}
use Rattle.spool_state.proofs.Texts.{length-head_text, length-group_text, length-need}
use Rattle.spool_slots.specs.Pen.{GoesFilling}
use Rattle.spool_slots.specs.Slot.{Knows, IsClosedOrHolds, HoldsOldOrNew, GoesBegun}
use Rattle.spool_slots.specs.declared.slot.Slot.{Slot}

-- ---- a group after a segment

pub group_step : (at size gate : ℕ) (segment : Segment) (group : List Entry) (piece old c : List ℕ) → piece ≡ group_text group ++ 0 ∷ [] → at + size ≤ length old → gate + length piece + 1 ≤ size → gate ≡ length (segment_text segment) → HoldsSegment at size segment old
    → IsGateStep (at + gate) piece old c → HoldsOldOrNew at size segment group old c
group_step at size gate segment group piece old c is_piece room le is holds step =
    let long : length piece ≡ length (group_text group) + 1 = omega (arith, ap length is_piece, length-append (group_text group) (0 ∷ [])) in
    record {
      outside = same_but_wider at size (at + gate) (length piece + 1) old c step.outside (omega arith) (omega arith);
      inside = elim step.inside [
        | inl closed ↦ inl (still_holds at size gate segment old c room (omega arith) is holds step.outside.len step.outside.below closed)
        | inr whole ↦ inr (subst (HoldsSegment at size (with_group segment group)) (sym (whole ∙ ap (λ (p : List ℕ). put (at + gate) (1 ∷ p) old) is_piece)) (holds_more at size gate segment group old room (omega (arith, length-group_text group)) is holds))
      ];
    }

-- ---- an empty segment in a closed slot

pub head_length : (ordinal first : ℕ) (piece : List ℕ) → 1 ∷ piece ≡ head_text ordinal first ++ 0 ∷ [] → length piece ≡ 17
head_length ordinal first piece is = omega (arith, ap length is, length-append (head_text ordinal first) (0 ∷ []), length-head_text ordinal first)

part-put_front : (at n : ℕ) (piece b : List ℕ) → at + n ≤ length b → length piece ≤ n → part at n (put at piece b) ≡ piece ++ drop (length piece) (part at n b)
part-put_front at n piece b room le =
    let l1 = length-put at piece b (omega arith) in
    let l2 = length-part at n (put at piece b) (omega arith) in
    let l3 = length-part at n b room in
    subst (λ (k : ℕ). part at n (put k piece b) ≡ piece ++ drop (length piece) (part at n b)) (add-zero at) (part-put_within at n 0 piece b room (omega arith) ∙ ap (λ (k : ℕ). piece ++ drop k (part at n b)) (zero-add (length piece)))

pub head_put : (at size ordinal first : ℕ) (piece old : List ℕ) → at + size ≤ length old → 18 < size → 1 ∷ piece ≡ head_text ordinal first ++ 0 ∷ [] → HoldsSegment at size (empty_segment ordinal first) (put at (1 ∷ piece) old)
head_put at size ordinal first piece old room large is =
    let long = head_length ordinal first piece is in
    let behind = drop (length (1 ∷ piece)) (part at size old) in
    let head = head_text ordinal first in
    record {
      rest = 0 ∷ behind;
      text = part-put_front at size (1 ∷ piece) old room (omega (arith, long)) ∙ ap (λ (l : List ℕ). l ++ behind) is ∙ append_assoc head (0 ∷ []) behind ∙ ap (λ (l : List ℕ). l ++ 0 ∷ behind) (sym (append-nil head));
      more = omega arith;
      closed = λ one. absurd (omega arith);
    }

pub head_step : (at size ordinal first : ℕ) (piece old c : List ℕ) → at + size ≤ length old → 18 < size → 1 ∷ piece ≡ head_text ordinal first ++ 0 ∷ [] → IsGateStep at piece old c → IsClosedOrHolds at size (empty_segment ordinal first) old c
head_step at size ordinal first piece old c room large is step = record {
  outside = same_but_wider at size at (length piece + 1) old c step.outside (omega arith) (omega (arith, head_length ordinal first piece is));
  inside = elim step.inside [
    | inl closed ↦ inl closed
    | inr whole ↦ inr (subst (HoldsSegment at size (empty_segment ordinal first)) (sym whole) (head_put at size ordinal first piece old room large is))
  ];
}

-- ---- an open slot shut

pub shut_step : (at size : ℕ) (segment : Segment) (old c : List ℕ) → at + size ≤ length old → 0 < size → HoldsSegment at size segment old → IsGateStep at [] old c → IsClosedOrHolds at size segment old c
shut_step at size segment old c room large holds step = record {
  outside = same_but_wider at size at 1 old c step.outside (omega arith) (omega arith);
  inside = elim (closed_or_before at old c (omega arith) (holds_open at size segment old large holds) step) [
    | inl closed ↦ inl closed
    | inr same ↦ inr (subst (HoldsSegment at size segment) (sym same) holds)
  ];
}

-- ---- whole runs

-- `begin`
pub begin_run : (at size ordinal first : ℕ) (piece : List ℕ) (m new : Moment) → IsLawful m → at + size ≤ m.size → 18 < size → 1 ∷ piece ≡ head_text ordinal first ++ 0 ∷ []
    → LeavesOnly (ComesFrom m (IsGateStep at piece)) m new → LeavesOnly (ComesFrom m (IsClosedOrHolds at size (empty_segment ordinal first))) m new
begin_run at size ordinal first piece m new lawful room large is run =
    weaker _ _ m new run (λ c from. (from.0, from.1, head_step at size ordinal first piece from.0 c (omega (arith, room, lawful.image_size from.0 from.1)) large is from.2))

-- `append_entries`
pub append_run : (slot : Slot) (segment : Segment) (group : List Entry) (m new : Moment) → IsLawful m → slot.at + slot.size ≤ m.size → need_of group ≤ slot.size - slot.gate - 1 → ((c : List ℕ) → m.image c → Knows slot segment c)
    → LeavesOnly (ComesFrom m (IsGateStep (slot.at + slot.gate) (group_text group ++ 0 ∷ []))) m new → LeavesOnly (ComesFrom m (HoldsOldOrNew slot.at slot.size segment group)) m new
append_run slot segment group m new lawful room le known run =
    weaker _ _ m new run (λ c from.
    let knows = known from.0 from.1 in
    (from.0, from.1, group_step slot.at slot.size slot.gate segment group (group_text group ++ 0 ∷ []) from.0 c refl (omega (arith, room, lawful.image_size from.0 from.1)) (omega (arith, le, slot.inside, length-need group)) knows.gate knows.holds from.2))

-- the piece is as long as the group's need
pub body_from : (gate : ℕ) (group : List Entry) (m new : Moment) → LeavesOnly (ComesFrom m (SameBut (gate + 1) (need_of group))) m new → LeavesOnly (ComesFrom m (SameBut (gate + 1) (length (group_text group ++ 0 ∷ [])))) m new
body_from gate group m new run = subst (λ (n : ℕ). LeavesOnly (ComesFrom m (SameBut (gate + 1) n)) m new) (sym (length-need group)) run

-- the group stands after its open gate
pub append_holds : (slot : Slot) (segment : Segment) (group : List Entry) (old mid new : List ℕ) → slot.at + slot.size ≤ length old → need_of group ≤ slot.size - slot.gate - 1 → Knows slot segment old
    → mid ≡ put (slot.at + slot.gate + 1) (group_text group ++ 0 ∷ []) old → new ≡ put (slot.at + slot.gate) (1 ∷ []) mid → HoldsSegment slot.at slot.size (with_group segment group) new
append_holds slot segment group old mid new room le knows is_mid is_new =
    let gate = slot.at + slot.gate in
    let whole : new ≡ put gate (1 ∷ group_text group ++ 0 ∷ []) old =
    is_new ∙ ap (put gate (1 ∷ [])) is_mid ∙ open_whole gate (group_text group ++ 0 ∷ []) old (omega (arith, room, le, slot.inside, length-need group)) in
    subst (HoldsSegment slot.at slot.size (with_group segment group)) (sym whole)
    (holds_more slot.at slot.size slot.gate segment group old room (omega (arith, le, slot.inside, length-group_text group)) knows.gate knows.holds)

-- ---- the closed gate after the last group

-- in each image of a disk that is durable
pub closed_after : (gate k : ℕ) (piece old mid new c : List ℕ) → gate + length piece + 2 ≤ length old → mid ≡ put (gate + 1) (piece ++ 0 ∷ []) old → new ≡ put gate (1 ∷ []) mid → c ≡ new → k ≡ gate + 1 + length piece → get_or c k 0 ≢ 1
closed_after gate k piece old mid new c room is_mid is_new is k_is =
    let all = piece ++ 0 ∷ [] in
    let long : length all ≡ length piece + 1 = length-append piece (0 ∷ []) in
    let whole : c ≡ put gate (1 ∷ all) old = is ∙ is_new ∙ ap (put gate (1 ∷ [])) is_mid ∙ open_whole gate all old (omega (arith, room, long)) in
    let byte : get_or c k 0 ≡ 0 =
    ap (λ (l : List ℕ). get_or l k 0) whole
    ∙ put_at gate (1 ∷ all) old (suc (length piece)) k (omega (arith, room, long)) (omega (arith, long)) (omega (arith, k_is))
    ∙ get_or_at piece 0 [] 0 (length piece) refl in
    λ one. absurd (omega (arith, byte, one))

-- what a segment's slot needs of its images before a group is added
pub closed_known : (slot : Slot) (segment : Segment) (c : List ℕ) → slot.at + slot.size ≤ length c → Knows slot segment c → get_or c (slot.at + slot.gate) 0 ≢ 1
closed_known slot segment c room knows = subst (λ (n : ℕ). get_or c (slot.at + n) 0 ≢ 1) (sym knows.gate) (holds_closed slot.at slot.size segment c room knows.holds)

-- ---- leave

-- leave to add a group is leave to write it behind its closed gate
pub lets_filling : {D : Type 0} (tells : Type 0) (moment : D → Moment) (may : D → ℕ → ℕ → Type 0) (gate : ℕ) (group : List Entry) (m : Moment) → (tells → (c : List ℕ) → m.image c → get_or c gate 0 ≢ 1)
    → Lets tells moment may (GoesBehind m gate (group_text group ++ 0 ∷ [])) → Lets tells moment may (GoesFilling m (gate + 1) (need_of group))
lets_filling tells moment may gate group m closed lets =
    let piece = group_text group ++ 0 ∷ [] in
    lets_as tells moment may (GoesFilling m (gate + 1) (need_of group)) (GoesBehind m gate piece) (λ t now torn goes.
    let n = need_of group in
    let shut = closed t goes.from goes.was in
    let first = subst (λ (k : ℕ). SameBut (gate + 1) k goes.from now) (sym (length-need group)) goes.before in
    let both = subst (λ (k : ℕ). SameBut (gate + 1) k goes.from torn) (sym (length-need group)) (same_but_then (gate + 1) n (gate + 1) n (gate + 1) n goes.from now torn goes.before goes.after (omega arith) (omega arith) (omega arith) (omega arith)) in
    ∣ record {
      from = goes.from;
      was = goes.was;
      before = behind gate piece goes.from now shut first;
      closed = λ one. shut (sym (goes.before.below gate (omega arith)) ∙ one);
      after = behind gate piece goes.from torn shut both;
    } ∣₁) lets

-- leave to begin a segment is leave to write its head behind the closed gate
pub lets_head : {D : Type 0} (tells : Type 0) (moment : D → Moment) (may : D → ℕ → ℕ → Type 0) (at size ordinal first : ℕ) (piece : List ℕ) (m : Moment) → (tells → IsLawful m) → at + size ≤ m.size → 18 < size → 1 ∷ piece ≡ head_text ordinal first ++ 0 ∷ []
    → Lets tells moment may (GoesBegun m at size (empty_segment ordinal first)) → Lets tells moment may (GoesBehind m at piece)
lets_head tells moment may at size ordinal first piece m lawful room large is lets =
    lets_as tells moment may (GoesBehind m at piece) (GoesBegun m at size (empty_segment ordinal first)) (λ t now torn goes. ∣ record {
      from = goes.from;
      was = goes.was;
      before = same_but_wider at size at (length piece + 1) goes.from now goes.before.outside (omega arith) (omega (arith, head_length ordinal first piece is));
      closed = goes.closed;
      after = head_step at size ordinal first piece goes.from torn (omega (arith, room, (lawful t).image_size goes.from goes.was)) large is goes.after;
    } ∣₁) lets

-- while a segment has its closed gate behind it, nothing of it changes
pub old_holds : (slot : Slot) (segment : Segment) (group : List Entry) (old c : List ℕ) → slot.at + slot.size ≤ length old → need_of group ≤ slot.size - slot.gate - 1 → Knows slot segment old
    → IsGateStep (slot.at + slot.gate) (group_text group ++ 0 ∷ []) old c → get_or c (slot.at + slot.gate) 0 ≢ 1 → SameBut slot.at slot.size old c × HoldsSegment slot.at slot.size segment c
old_holds slot segment group old c room le knows step closed =
    let piece = group_text group ++ 0 ∷ [] in
    let outside = same_but_wider slot.at slot.size (slot.at + slot.gate) (length piece + 1) old c step.outside (omega arith) (omega (arith, le, slot.inside, length-need group)) in
    (outside, still_holds slot.at slot.size slot.gate segment old c room slot.inside knows.gate knows.holds step.outside.len step.outside.below closed)

-- and with it, it holds the segment as it was or with the group more
pub new_holds : (slot : Slot) (segment : Segment) (group : List Entry) (old c : List ℕ) → slot.at + slot.size ≤ length old → need_of group ≤ slot.size - slot.gate - 1 → Knows slot segment old
    → IsGateStep (slot.at + slot.gate) (group_text group ++ 0 ∷ []) old c → HoldsOldOrNew slot.at slot.size segment group old c
new_holds slot segment group old c room le knows step =
    group_step slot.at slot.size slot.gate segment group (group_text group ++ 0 ∷ []) old c refl room (omega (arith, le, slot.inside, length-need group)) knows.gate knows.holds step
