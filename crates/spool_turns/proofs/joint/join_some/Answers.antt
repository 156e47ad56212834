use Rattle.std.proofs.Common.{ℕ, List, [], ◌∷◌, ◌++◌, length, reverse, sym, ap, ◌∙◌, subst, arith, append_assoc, length-append}
use Rattle.std.proofs.lemmas.List.{append-nil, reverse-append}
use Rattle.event_form.specs.declared.event.Entry.{Entry}
use Rattle.spool_state.specs.Segment.{entries_text}
use Rattle.desk_access.specs.JointRecords.{joined, ArePartsOf}
use Rattle.spool_turns.specs.Rules.{PassView}
use Rattle.spool_turns.specs.Joining.{entries_out, part_of, parts_of, numbers_of, AreRising}
use Rattle.spool_turns.proofs.JointRecords.{text_join, parts_both, numbers_both, joined_both, are_parts_then, next_number, rising_then, next_then}
use Rattle.spool_turns.proofs.joint.join_some.Goals as goal

pub loop-letter-preserved : goal.loop-letter-preserved
loop-letter-preserved g c =
    let i = c.loop-letter.invariant in
    let p = c.push_reserved.ensures in
    let j = c.in-Ok.ensures.joined in
    let one = c.in-Ok.one in
    let s = c.in-Some.ensures in
    let group = c.loop-letter.group.items in
    let own = entries_out one.out in
    let rest = c.pop.new.self.items in
    let parts = ap parts_of p.items ∙ parts_both group (one ∷ []) in
    let numbers = ap (λ (l : List PassView). reverse (numbers_of l)) p.items ∙ ap reverse (numbers_both group (one ∷ []))
    ∙ reverse-append (numbers_of group) (one.number ∷ []) ∙ ap (λ (n : ℕ). n ∷ reverse (numbers_of group)) j.0 in (
      i.0 ∙ ap (λ (l : List ℕ). l ++ reverse (numbers_of group)) s.items ∙ append_assoc rest (c.in-Some.letter ∷ []) (reverse (numbers_of group)) ∙ ap (λ (l : List ℕ). rest ++ l) (sym numbers),
      subst ArePartsOf (sym parts) (are_parts_then (parts_of group) (part_of one) i.1 j.2 j.3),
      subst (AreRising 0) (sym parts) (rising_then 0 (parts_of group) (part_of one) i.2 (omega (arith, i.3, j.6))),
      j.7 ∙ sym (next_then 0 (parts_of group) (part_of one)) ∙ ap (next_number 0) (sym parts),
      j.1 ∙ ap (λ (l : List Entry). l ++ own) i.4 ∙ ap (λ (l : List Entry). joined (parts_of group) ++ l) (sym (append-nil own)) ∙ sym (joined_both (parts_of group) (part_of one ∷ [])) ∙ ap joined (sym parts),
      omega (arith, i.5, j.4, ap (λ (l : List Entry). length (entries_text l)) j.1, text_join c.loop-letter.entries.items own),
      omega (arith, i.6, j.5, ap (λ (l : List Entry). length l) j.1, length-append c.loop-letter.entries.items own),
      omega (arith, i.7, p.len, s.cases),
      s.capacity ∙ i.8,
      omega (arith, i.9, p.len, p.capacity, s.cases),
    )
