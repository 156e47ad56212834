-- The header of a device, as it is read.
use Rattle.std.proofs.Common.{◌≡◌, inl, inr, ℕ, ◌+◌, ◌<◌, ◌≤◌, List, length, refl, sym, ◌∙◌, ap, subst, arith}
use Rattle.std.specs.Int.{from_be_bytes}
use mir.Syntax.{w32, w64}
use Rattle.std.proofs.lemmas.List.{ext_get_or}
use Rattle.foundation.specs.Bytes.{part}
use Rattle.foundation.proofs.Bytes.{get_or-part, length-part}
use Rattle.edge_disk.specs.Disk.{Moment, IsLawful}
use Rattle.spool_state.specs.Image.{magic}
use Rattle.spool_state.specs.Rules.{slots_told, size_told}
use Rattle.bridge_rescue.specs.declared.layout.Layout.{Layout}
use Rattle.bridge_rescue.specs.Layout.{IsInRange, IsNamed, TellsLayout, TellsNone}

-- a part of the front is one of the device
part-front : (at n m : ℕ) (c : List ℕ) → at + n ≤ m → m ≤ length c → part at n (part 0 m c) ≡ part at n c
part-front at n m c le room =
    let whole = length-part 0 m c (omega arith) in
    let l = length-part at n (part 0 m c) (omega arith) in
    let r = length-part at n c (omega arith) in
    ext_get_or 0 _ _ (l ∙ sym r) (λ i lt.
    get_or-part at n (part 0 m c) i (at + i) (omega arith) refl ∙ get_or-part 0 m c (at + i) (at + i) (omega arith) (omega arith) ∙ sym (get_or-part at n c i (at + i) (omega arith) refl))

pub too_short : (m : Moment) → IsLawful m → m.size < 20 → TellsNone 0 m.reads
too_short m lawful short = inl (refl, λ named. omega (arith, named.room, lawful.reads_size))

-- the text is what the device begins with
module _ (m : Moment) (lawful : IsLawful m) (room : 20 ≤ m.size) (text : List ℕ) (is : text ≡ part 0 20 m.reads) where
  long : 20 ≤ length m.reads
  long = omega (arith, lawful.reads_size)

  name_there : part 0 8 text ≡ part 0 8 m.reads
  name_there = ap (part 0 8) is ∙ part-front 0 8 20 m.reads (omega arith) (omega (arith, long))

  slots_there : from_be_bytes w32 (part 8 4 text) ≡ slots_told m.reads
  slots_there = ap (λ (l : List ℕ). from_be_bytes w32 (part 8 4 l)) is ∙ ap (λ (l : List ℕ). from_be_bytes w32 l) (part-front 8 4 20 m.reads (omega arith) (omega (arith, long)))

  size_there : from_be_bytes w64 (part 12 8 text) ≡ size_told m.reads
  size_there = ap (λ (l : List ℕ). from_be_bytes w64 (part 12 8 l)) is ∙ ap (λ (l : List ℕ). from_be_bytes w64 l) (part-front 12 8 20 m.reads (omega arith) (omega (arith, long)))

  pub not_named : (part 0 8 text ≡ magic → ⊥) → TellsNone 0 m.reads
  not_named other = inl (refl, λ named. other (name_there ∙ named.name))

  module _ (named : part 0 8 text ≡ magic) (slots size : ℕ) (slots_are : slots ≡ from_be_bytes w32 (part 8 4 text)) (size_is : size ≡ from_be_bytes w64 (part 12 8 text)) where
    there : IsNamed m.reads
    there = record { room = long; name = sym name_there ∙ named }

    pub out_of_range : (IsInRange slots size → ⊥) → TellsNone 8 m.reads
    out_of_range other = inr (
      refl,
      there,
      λ ranges. other (subst (λ (n : ℕ). IsInRange n size) (sym (slots_are ∙ slots_there))
          (subst (IsInRange (slots_told m.reads)) (sym (size_is ∙ size_there)) ranges)),
    )

    pub layout_there : (layout : Layout) → layout.slots ≡ slots → layout.size ≡ size → TellsLayout layout.slots layout.size m.reads
    layout_there layout slots_same size_same = record {
      named = there;
      slots_are = sym (slots_same ∙ slots_are ∙ slots_there);
      size_is = sym (size_same ∙ size_is ∙ size_there);
      ranges = layout.ranges;
    }
