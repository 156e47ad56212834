-- The header of a device, as it is read.
use Rattle.std.proofs.Common.{◌≡◌, inl, inr, ℕ, ◌+◌, ◌<◌, ◌≤◌, List, ◌++◌, length, take, drop, refl, sym, ◌∙◌, ap, subst, arith, take-append-drop, length-drop}
use Rattle.std.specs.Int.{from_be_bytes, to_be_bytes}
use mir.Syntax.{w32, w64}
use Rattle.std.proofs.lemmas.List.{ext_get_or, take_all, drop-drop}
use Rattle.foundation.specs.Bytes.{part}
use Rattle.foundation.proofs.Bytes.{get_or-part, length-part}
use Rattle.event_form.proofs.Numbers.{IsBytes, IsBytes-drop, IsBytes-take, four_again, eight_again}
use Rattle.edge_disk.specs.Disk.{Moment, IsLawful}
use Rattle.spool_state.specs.Image.{magic, header_text}
use Rattle.spool_state.specs.Rules.{slots_told, size_told, IsNamed, IsLayout, IsMeasured, Breaks}
use Rattle.spool_log.specs.declared.reading.header.Header.{Header}
use Rattle.spool_log.specs.Reading.Header.{HasHeader}

-- a text of 20 bytes that begins with the magic is a header's
pub text_of_header : (text : List ℕ) (slots size : ℕ) → length text ≡ 20 → IsBytes text → slots ≡ from_be_bytes w32 (part 8 4 text) → size ≡ from_be_bytes w64 (part 12 8 text) → part 0 8 text ≡ magic → text ≡ header_text slots size
unfolding header_text
text_of_header text slots size long bytes slots_is size_is name =
    let a : to_be_bytes w32 slots ≡ part 8 4 text = ap (λ (n : ℕ). to_be_bytes w32 n) slots_is ∙ four_again (part 8 4 text) (length-part 8 4 text (omega arith)) (IsBytes-take 4 (drop 8 text) (IsBytes-drop 8 text bytes)) in
    let b : to_be_bytes w64 size ≡ part 12 8 text = ap (λ (n : ℕ). to_be_bytes w64 n) size_is ∙ eight_again (part 12 8 text) (length-part 12 8 text (omega arith)) (IsBytes-take 8 (drop 12 text) (IsBytes-drop 12 text bytes)) in
    let last : drop 4 (drop 8 text) ≡ part 12 8 text = drop-drop 4 8 text ∙ sym (take_all 8 (drop 12 text) (omega (arith, length-drop 12 text))) in
    sym (take-append-drop 8 text)
    ∙ ap (λ (l : List ℕ). l ++ drop 8 text) name
    ∙ ap (λ (l : List ℕ). magic ++ l) (sym (take-append-drop 4 (drop 8 text)))
    ∙ ap (λ (l : List ℕ). magic ++ (take 4 (drop 8 text) ++ l)) last
    ∙ ap (λ (l : List ℕ). magic ++ (l ++ part 12 8 text)) (sym a)
    ∙ ap (λ (l : List ℕ). magic ++ (to_be_bytes w32 slots ++ l)) (sym b)

-- a part of the front is one of the device
part-front : (at n m : ℕ) (c : List ℕ) → at + n ≤ m → m ≤ length c → part at n (part 0 m c) ≡ part at n c
part-front at n m c le room =
    let whole = length-part 0 m c (omega arith) in
    let l = length-part at n (part 0 m c) (omega arith) in
    let r = length-part at n c (omega arith) in
    ext_get_or 0 _ _ (l ∙ sym r) (λ i lt.
    get_or-part at n (part 0 m c) i (at + i) (omega arith) refl ∙ get_or-part 0 m c (at + i) (at + i) (omega arith) (omega arith) ∙ sym (get_or-part at n c i (at + i) (omega arith) refl))

pub too_short : (m : Moment) → IsLawful m → m.size < 12288 → Breaks 0 m.reads
too_short m lawful short = inl (refl, λ named. omega (arith, named.room, lawful.reads_size))

-- the text is what the device begins with
module _ (m : Moment) (lawful : IsLawful m) (room : 12288 ≤ m.size) (text : List ℕ) (is : text ≡ part 0 20 m.reads) where
  long : 12288 ≤ length m.reads
  long = omega (arith, lawful.reads_size)

  name_there : part 0 8 text ≡ part 0 8 m.reads
  name_there = ap (part 0 8) is ∙ part-front 0 8 20 m.reads (omega arith) (omega (arith, long))

  slots_there : from_be_bytes w32 (part 8 4 text) ≡ slots_told m.reads
  slots_there = ap (λ (l : List ℕ). from_be_bytes w32 (part 8 4 l)) is ∙ ap (λ (l : List ℕ). from_be_bytes w32 l) (part-front 8 4 20 m.reads (omega arith) (omega (arith, long)))

  size_there : from_be_bytes w64 (part 12 8 text) ≡ size_told m.reads
  size_there = ap (λ (l : List ℕ). from_be_bytes w64 (part 12 8 l)) is ∙ ap (λ (l : List ℕ). from_be_bytes w64 l) (part-front 12 8 20 m.reads (omega arith) (omega (arith, long)))

  pub not_named : (part 0 8 text ≡ magic → ⊥) → Breaks 0 m.reads
  not_named other = inl (refl, λ named. other (name_there ∙ named.name))

  module _ (named : part 0 8 text ≡ magic) (header : Header) (slots_is : header.slots ≡ from_be_bytes w32 (part 8 4 text)) (size_is : header.size ≡ from_be_bytes w64 (part 12 8 text)) where
    pub not_measured : (IsLayout header.slots header.size m.size → ⊥) → Breaks 8 m.reads
    not_measured other = inr (inl (
      refl,
      record { room = long; name = sym name_there ∙ named },
      λ measured. other (subst (λ (n : ℕ). IsLayout n header.size m.size) (sym (slots_is ∙ slots_there))
          (subst (λ (n : ℕ). IsLayout (slots_told m.reads) n m.size) (sym (size_is ∙ size_there)) (subst (IsLayout (slots_told m.reads) (size_told m.reads)) lawful.reads_size measured))),
    ))

    pub header_there : text ≡ header_text header.slots header.size → HasHeader header m.reads
    header_there whole = record { text = sym is ∙ whole; slots = sym (slots_is ∙ slots_there); size = sym (size_is ∙ size_there) }

front : (slots size : ℕ) → part 0 8 (header_text slots size) ≡ magic
unfolding header_text
front slots size = refl

-- of the layout that the header tells, the device has its first rules kept
pub header_kept : (header : Header) (m : Moment) → IsLawful m → IsLayout header.slots header.size m.size → HasHeader header m.reads → IsNamed m.reads × IsMeasured m.reads
header_kept header m lawful layout has =
    let room : 12288 ≤ length m.reads = omega (arith, layout.long, lawful.reads_size) in (
      record { room = room; name = sym (part-front 0 8 20 m.reads (omega arith) (omega (arith, room))) ∙ ap (part 0 8) has.text ∙ front header.slots header.size },
      subst (λ (n : ℕ). IsLayout n (size_told m.reads) (length m.reads)) (sym has.slots) (subst (λ (n : ℕ). IsLayout header.slots n (length m.reads)) (sym has.size) (subst (IsLayout header.slots header.size) (sym lawful.reads_size) layout)),
    )
