use Rattle.std.proofs.Common.{leb, cond, refl}
use Rattle.std.proofs.lemmas.Simd.{zip2_splat, zip2_of_maps, zip2_splat_left, length-chunk}
use lib.Lanes.{chunk}
use Rattle.json_span.proofs.LaneLaws.{run_in}
use Rattle.json_span.proofs.characters.plain_lanes.Goals as goal

pub returns : goal.returns
returns c =
    let v = chunk c.args.at 16 c.args.bytes.now in
    let long = length-chunk c.args.at 16 c.args.bytes.now c.requires in
    run_in c.args.bytes.now c.args.at _ _ _ c.requires c.type_inv.bytes c.lowest_bit.ensures
    (zip2_of_maps _ _ _ v (zip2_of_maps _ _ _ v (zip2_of_maps _ _ _ v (zip2_splat _ v 16 32 long) (zip2_splat _ v 16 34 long)) (zip2_splat _ v 16 92 long)) (zip2_splat_left (λ a b. cond (leb a b) 255 0) 128 16 v long)) refl
