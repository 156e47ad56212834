-- What the layers above need of a register that they leave alone.
use Rattle.std.proofs.Common.{◌≡◌, ◌⊎◌, inl, inr, ℕ, ◌+◌, ◌≤◌, List, length, get_or, refl, sym, ◌∙◌, subst, arith}
use Rattle.foundation.specs.Bytes.{SameBut}
use Rattle.edge_disk.specs.Disk.{Moment, IsSettled, IsUntouched}
use Rattle.known_numbers.specs.declared.stretch.Stretch.{Stretch}
use Rattle.spool_state.specs.Cells.{content_text, CellsBreak, RegisterHas}
use Rattle.spool_state.proofs.Registers.{HasRoom, IsSameContent, counts_stay, holds_one, holds_unbroken}
use Rattle.disk_cell.specs.Cell.{place_of, other_of}
use Rattle.disk_cell.specs.Content.{text_of}
use Rattle.disk_cell.specs.Register.{Knows, IsSetStep}
use Rattle.disk_cell.specs.declared.register.Register.{Register}
use Rattle.disk_cell.proofs.Contents.{text_is}
use Rattle.disk_cell.proofs.Setting.{cells_apart, holds, register_short}

-- the bytes have what the register in memory has
abbrev pub HasAs : Register → List ℕ → Type 0
HasAs r c = RegisterHas r.ordinal r.content.run r.content.cursor r.content.known.items c

-- what the register in memory knows is what the bytes hold
pub knows_holds : (r : Register) (c : List ℕ) → Knows r c → HasAs r c
knows_holds r c known = (text_of r.content, text_is r.content r.version, holds r.counting r.ordinal (text_of r.content) c known.counts)

-- in each step of a change they have that, or the new numbers
pub step_has : (r : Register) (run cursor : ℕ) (known : List Stretch) (old c : List ℕ) → IsSetStep r run cursor known old c → HasAs r c ⊎ RegisterHas (r.ordinal + 1) run cursor known c
step_has r run cursor known old c step = elim step.inside [
  | inl was ↦ inl (text_of r.content, text_is r.content r.version, was)
  | inr new ↦ inr (content_text run cursor known, inl refl, new)
]

-- so they break no rule
pub knows_unbroken : (at : ℕ) (r : Register) (c : List ℕ) → HasRoom r.ordinal r.content.run r.content.cursor r.content.known.items → Knows r c → CellsBreak at c → ⊥
knows_unbroken at r c room known = holds_unbroken at r.ordinal r.content.run r.content.cursor r.content.known.items c room r.run (knows_holds r c known)

-- and hold nothing else
pub knows_one : (r : Register) (ordinal run cursor : ℕ) (known : List Stretch) (c : List ℕ) → HasRoom r.ordinal r.content.run r.content.cursor r.content.known.items → HasRoom ordinal run cursor known → Knows r c
    → RegisterHas ordinal run cursor known c → IsSameContent r.ordinal r.content.run r.content.cursor r.content.known.items ordinal run cursor known
knows_one r ordinal run cursor known c room other_room is has = holds_one r.ordinal r.content.run r.content.cursor r.content.known.items ordinal run cursor known c room other_room (knows_holds r c is) has

-- a change outside the two cells
pub knows_stays : (r : Register) (at n : ℕ) (a b : List ℕ) → SameBut at n a b → (at + n ≤ 4096) ⊎ (12288 ≤ at) → 12288 ≤ length a → Knows r a → Knows r b
knows_stays r at n a b same off room known =
    let here = place_of r.counting in
    let other = place_of (other_of r.counting) in
    let apart = cells_apart r.counting in
    let short = register_short r in
    let gate : get_or b other 0 ≡ get_or a other 0 = elim off [ inl below ↦ same.above other (omega (arith, apart.other_from)) | inr above ↦ same.below other (omega (arith, apart.other_to)) ] in
    record {
      counts = counts_stay here other r.ordinal (text_of r.content) at n a b same
          (elim off [ inl below ↦ inr (omega (arith, apart.here_from)) | inr above ↦ inl (omega (arith, short, apart.here_to)) ])
          (elim off [ inl below ↦ inr (omega (arith, apart.other_from)) | inr above ↦ inl (omega (arith, apart.other_to)) ])
          (omega (arith, short, apart.here_to)) (omega (arith, apart.other_to)) known.counts;
      other_open = ((λ t. gate ∙ known.other_open.0 t), (λ o. known.other_open.1 (sym gate ∙ o)));
    }

-- on a settled disk each image has the cells as they are read
pub knows_images : (r : Register) (m : Moment) → IsSettled m → Knows r m.reads → (c : List ℕ) → m.image c → Knows r c
knows_images r m settled known c image = subst (Knows r) (sym (settled.only c image)) known

-- so also after a read
pub knows_images_then : (r : Register) (old new : Moment) → IsSettled old → IsUntouched old new → Knows r old.reads → (c : List ℕ) → new.image c → Knows r c
knows_images_then r old new settled call known c image = knows_images r old settled known c (call.images c image)
