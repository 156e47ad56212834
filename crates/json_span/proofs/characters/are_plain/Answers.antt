use Rattle.std.proofs.Common.{leb, cond, refl}
use Rattle.std.proofs.lemmas.Simd.{zip2_splat, zip2_splat_left, zip2_of_maps, length-chunk}
use lib.Lanes.{chunk}
use Rattle.json_span.proofs.LaneLaws.{none_in, splat_of_map}
use Rattle.json_span.proofs.characters.are_plain.Goals as goal

pub returns : goal.returns
returns c =
    let v = chunk c.args.at 64 c.args.bytes.now in
    let long = length-chunk c.args.at 64 c.args.bytes.now c.requires in
    none_in c.args.bytes.now c.args.at _ _ c.requires c.type_inv.bytes
    (zip2_of_maps _ _ _ v (zip2_of_maps _ _ _ v (splat_of_map _ _ v 64 _ long (zip2_splat _ v 64 _ long)) (zip2_splat _ v 64 _ long)) (zip2_splat_left (λ a b. cond (leb a b) 255 0) _ 64 v long)) refl
