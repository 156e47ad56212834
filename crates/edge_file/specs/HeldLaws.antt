-- What holds at each moment of a disk of which a part is held back.
use Rattle.std.specs.Prelude.{◌+◌, ◌≤◌, length}
use Rattle.std.proofs.Common.{◌∙◌, ap, refl, arith}
use Rattle.foundation.proofs.Bytes.{length-put}
use Rattle.edge_disk.specs.Disk.{Moment, IsLawful}
use Rattle.edge_file.specs.declared.held_part.HeldPart.{HeldPart}
use Rattle.edge_file.specs.Held.{seen, held_moment}

pub held_lawful : (held : HeldPart) (m : Moment) → IsLawful m → held.at + length held.bytes.items ≤ m.size → IsLawful (held_moment held m)
held_lawful held m lawful room =
    let long = length-put held.at held.bytes.items m.reads (omega (arith, lawful.reads_size)) ∙ lawful.reads_size in
    record {
      reads_size = long;
      image_size = λ c is. ap length is ∙ long;
      reads_image = refl;
      counts_now = λ t c le is. is;
      only_now = λ c is. is;
    }
