-- Leave to write. A disk says what a crash may tear; whoever writes says what comes of it.
use Rattle.std.specs.Prelude.{ℕ, List}
use Rattle.foundation.specs.Bytes.{SameBut}
use Rattle.edge_disk.specs.Disk.{Moment}

-- Whatever a write of n bytes from an offset on may tear goes on, in this way, from an image of now.
abbrev pub TearsOn : (List ℕ → List ℕ → Type 0) → Moment → ℕ → ℕ → Type 0
TearsOn Goes m at n = (d torn : List ℕ) → m.image d → SameBut at n d torn → ∥ ((now : List ℕ) × m.image now × Goes now torn) ∥₁

-- Each write may be made of which this is so. Of a disk that tells nothing, nothing is asked.
abbrev pub Lets : {D : Type 0} → Type 0 → (D → Moment) → (D → ℕ → ℕ → Type 0) → (List ℕ → List ℕ → Type 0) → Type 0
Lets {D} tells moment may Goes = (disk : D) (at n : ℕ) → (tells → TearsOn Goes (moment disk) at n) → ∥ may disk at n ∥₁

-- Any write may be made.
abbrev pub LetsAll : {D : Type 0} → (D → ℕ → ℕ → Type 0) → Type 0
LetsAll {D} may = (disk : D) (at n : ℕ) → ∥ may disk at n ∥₁
