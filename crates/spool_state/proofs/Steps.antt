-- What a change after a slot's last closed gate leaves of its segment.
use Rattle.std.proofs.Common.{◌≡◌, ◌≢◌, ℕ, ◌+◌, ◌<◌, ◌≤◌, List, [], ◌∷◌, ◌++◌, length, take, drop, get_or, sym, ◌∙◌, ap, arith, append_assoc, length-append, take-append-drop}
use Rattle.std.proofs.lemmas.List.{take_at, get_or-drop}
use Rattle.std.proofs.lemmas.Grind.{common_steps}
use Rattle.foundation.specs.Bytes.{part, put}
use Rattle.foundation.proofs.Bytes.{get_or-part, length-part, take-part, part-put_within}
use Rattle.event_form.specs.declared.event.Entry.{Entry}
use Rattle.spool_state.specs.Segment.{Segment, with_group, group_text, need_of, segment_text}
use Rattle.spool_state.specs.Image.{HoldsSegment}
use Rattle.spool_state.proofs.Texts.{length-group_text, segment_text-with_group}

-- After the segment anything may change while its closing gate isn't open.
pub still_holds : (at size gate : ℕ) (segment : Segment) (old c : List ℕ) → at + size ≤ length old → gate < size → gate ≡ length (segment_text segment) → HoldsSegment at size segment old → length c ≡ length old → ((i : ℕ) → i < at + gate → get_or c i 0 ≡ get_or old i 0) → get_or c (at + gate) 0 ≢ 1 → HoldsSegment at size segment c
still_holds at size gate segment old c room lt is holds len same closed =
    let front : take gate (part at size c) ≡ segment_text segment = take-part at size gate old c (omega arith) room len same ∙ ap (λ (l : List ℕ). take gate l) holds.text ∙ take_at (segment_text segment) holds.rest gate (sym is) in
    let long = length-part at size c (omega arith) in
    let first : get_or (drop gate (part at size c)) 0 0 ≡ get_or c (at + gate) 0 = get_or-drop gate (part at size c) 0 0 ∙ get_or-part at size c (gate + 0) (at + gate) (omega arith) (omega arith) in
    record {
      rest = drop gate (part at size c);
      text = sym (take-append-drop gate (part at size c)) ∙ ap (λ (l : List ℕ). l ++ drop gate (part at size c)) front;
      more = grind (arith, common_steps);
      closed = λ one. closed (sym first ∙ one);
    }

-- the group put after the closing gate with that gate opened, and a closed gate after the group
pub holds_more : (at size gate : ℕ) (segment : Segment) (group : List Entry) (old : List ℕ) → at + size ≤ length old → gate + need_of group + 1 ≤ size → gate ≡ length (segment_text segment) → HoldsSegment at size segment old → HoldsSegment at size (with_group segment group) (put (at + gate) (1 ∷ group_text group ++ 0 ∷ []) old)
holds_more at size gate segment group old room le is holds =
    let body = group_text group in
    let piece = 1 ∷ body ++ 0 ∷ [] in
    let slot = part at size old in
    let behind = drop (gate + length piece) slot in
    let fits : gate + length piece ≤ size = omega (arith, length-append body (0 ∷ []), length-group_text group) in
    let front : take gate slot ≡ segment_text segment = ap (λ (l : List ℕ). take gate l) holds.text ∙ take_at (segment_text segment) holds.rest gate (sym is) in
    let joined : segment_text segment ++ piece ++ behind ≡ (segment_text segment ++ 1 ∷ body) ++ 0 ∷ behind = simp append_assoc in
    record {
      rest = 0 ∷ behind;
      text = part-put_within at size gate piece old room fits ∙ ap (λ (l : List ℕ). l ++ piece ++ behind) front ∙ joined ∙ ap (λ (l : List ℕ). l ++ 0 ∷ behind) (sym (segment_text-with_group segment group));
      more = omega arith;
      closed = λ one. absurd (omega arith);
    }
