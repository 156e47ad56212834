use Rattle.std.proofs.Common.{◌∙◌, [], ◌∷◌, ◌++◌}
use borrow.Rule.Slice.PartMut.{put_mid}
use Rattle.spool_state.specs.Segment.{head_text}
use Rattle.spool_slots.proofs.slot.head.Goals as goal

pub returns : goal.returns
unfolding head_text
returns c =
    let p = c.copy_from_slice.ensures.after ∙ c.to_be_bytes.ensures in
    let q = c.copy_from_slice-2.ensures.after ∙ c.to_be_bytes-2.ensures in
    λ i. 1 ∷ put_mid 8 8 (p i ++ 0 ∷ 0 ∷ 0 ∷ 0 ∷ 0 ∷ 0 ∷ 0 ∷ 0 ∷ 0 ∷ []) (q i)
