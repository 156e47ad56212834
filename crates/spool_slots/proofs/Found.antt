-- Whether a group begins at a gate, by its head and its entries.
use Rattle.std.proofs.Common.{◌≡◌, ◌≢◌, ℕ, ◌+◌, ◌-◌, ◌^◌, ◌<◌, ◌≤◌, List, [], ◌∷◌, ◌++◌, length, take, drop, get_or, refl, sym, ◌∙◌, ap, arith, append_assoc, length-append, take-append-drop}
use Rattle.std.specs.Int.{w32, to_be_bytes}
use Rattle.std.proofs.lemmas.List.{take_at, take-take, drop-drop, length-drop}
use Rattle.foundation.specs.Bytes.{part}
use Rattle.foundation.proofs.Bytes.{length-part}
use Rattle.event_form.specs.declared.event.Entry.{Entry}
use Rattle.event_form.proofs.Numbers.{same_four}
use Rattle.spool_state.specs.Segment.{entries_text, group_text}
use Rattle.spool_state.specs.Broken.{BeginsGroup}
use Rattle.spool_state.proofs.Once.{count_at, length_at, entries_at, count_below}
use Rattle.spool_state.proofs.Segments.{group_parts}
use Rattle.spool_state.proofs.Texts.{length-group_text}
use Rattle.spool_slots.specs.declared.group.GroupHead.{GroupHead}
use Rattle.spool_slots.specs.Groups.{AreEntries, BeginsNoGroup, HasHead, IsGroupIn}
use Rattle.spool_slots.proofs.Windows.{same_field, same_gate}

pub first_byte : (bytes : List ℕ) (x : ℕ) → 0 < length bytes → get_or bytes 0 0 ≡ x → bytes ≡ x ∷ drop 1 bytes
first_byte [] x some is = absurd (omega arith)
first_byte (b ∷ bytes) x some is = ap (λ (y : ℕ). y ∷ bytes) is

-- ---- bytes with which a group begins

module _ (bytes : List ℕ) (group : List Entry) (begins : BeginsGroup group bytes) where
  whole : length bytes ≡ 9 + length (entries_text group) + length begins.behind
  whole = omega (arith, ap length begins.text, length-append (group_text group) begins.behind, length-group_text group)

  after_gate : drop 1 bytes ≡ group_text group ++ begins.behind
  after_gate = ap (drop 1) begins.text

  size_field : part 1 4 bytes ≡ to_be_bytes w32 (length (entries_text group))
  size_field = ap (take 4) after_gate ∙ length_at group begins.behind

  count_field : part 5 4 bytes ≡ to_be_bytes w32 (length group)
  count_field = ap (take 4) (sym (drop-drop 4 1 bytes) ∙ ap (drop 4) after_gate) ∙ count_at group begins.behind

  entries_field : part 9 (length (entries_text group)) bytes ≡ entries_text group
  entries_field =
      ap (take (length (entries_text group))) (sym (drop-drop 8 1 bytes) ∙ ap (drop 8) after_gate ∙ entries_at group begins.behind)
      ∙ take_at (entries_text group) begins.behind (length (entries_text group)) refl

  size_told : (size : ℕ) → length bytes < 2 ^ 32 → size < 2 ^ 32 → to_be_bytes w32 size ≡ part 1 4 bytes → size ≡ length (entries_text group)
  size_told size small fits is = same_four size (length (entries_text group)) fits (omega (arith, small, whole)) (is ∙ size_field)

  count_told : (count : ℕ) → length bytes < 2 ^ 32 → count < 2 ^ 32 → to_be_bytes w32 count ≡ part 5 4 bytes → count ≡ length group
  count_told count small fits is = same_four count (length group) fits (omega (arith, small, whole, count_below group)) (is ∙ count_field)

-- ---- and bytes with which none does

pub none_short : (bytes : List ℕ) → length bytes ≤ 9 → BeginsNoGroup bytes
none_short bytes le = λ group begins. absurd (omega (arith, le, whole bytes group begins, begins.closing))

none_closed : (bytes : List ℕ) → get_or bytes 0 0 ≢ 1 → BeginsNoGroup bytes
none_closed bytes closed = λ group begins. closed (ap (λ (l : List ℕ). get_or l 0 0) begins.text)

none_empty : (bytes : List ℕ) (count : ℕ) → length bytes < 2 ^ 32 → to_be_bytes w32 count ≡ part 5 4 bytes → count ≡ 0 → BeginsNoGroup bytes
none_empty bytes count small is none = λ group begins. absurd (omega (arith, none, count_told bytes group begins count small (omega (arith, none)) is, begins.sound.some))

none_long : (bytes : List ℕ) (size : ℕ) → length bytes < 2 ^ 32 → size < 2 ^ 32 → to_be_bytes w32 size ≡ part 1 4 bytes → length bytes - 9 ≤ size → BeginsNoGroup bytes
none_long bytes size small fits is le = λ group begins. absurd (omega (arith, le, size_told bytes group begins size small fits is, whole bytes group begins, begins.closing))

-- ---- a head that was read

-- the first nine bytes of the part from a gate on
module _ (p k : ℕ) (text c : List ℕ) (is : text ≡ part p 9 c) (room : p + k ≤ length c) (fits : 9 ≤ k) (short : k < 2 ^ 32) where
  long : length (part p k c) ≡ k
  long = length-part p k c room

  field : (i m : ℕ) → i + m ≤ 9 → part i m text ≡ part i m (part p k c)
  field i m le = ap (part i m) is ∙ same_field p 9 k i m c le (omega arith)

  gate : get_or text 0 0 ≡ get_or (part p k c) 0 0
  gate = ap (λ (l : List ℕ). get_or l 0 0) is ∙ same_gate p 9 k c (omega arith) (omega arith)

  pub head_found : (head : GroupHead) → get_or text 0 0 ≡ 1 → to_be_bytes w32 head.size ≡ part 1 4 text → to_be_bytes w32 head.count ≡ part 5 4 text → 0 < head.count → head.count < 2 ^ 32 → 9 + head.size < k → HasHead (part p k c) head
  head_found head opens size_is count_is some count_fits inside = record {
    opens = sym gate ∙ opens;
    size_is = size_is ∙ field 1 4 (omega arith);
    count_is = count_is ∙ field 5 4 (omega arith);
    some = some;
    fits = count_fits;
    room = omega (arith, long, inside);
  }

  pub gate_closed : get_or text 0 0 ≢ 1 → BeginsNoGroup (part p k c)
  gate_closed closed = none_closed (part p k c) (λ one. closed (gate ∙ one))

  pub count_none : (count : ℕ) → to_be_bytes w32 count ≡ part 5 4 text → count ≡ 0 → BeginsNoGroup (part p k c)
  count_none count count_is none = none_empty (part p k c) count (omega (arith, long, short)) (count_is ∙ field 5 4 (omega arith)) none

  pub size_large : (size : ℕ) → size < 2 ^ 32 → to_be_bytes w32 size ≡ part 1 4 text → k - 9 ≤ size → BeginsNoGroup (part p k c)
  size_large size size_fits size_is le = none_long (part p k c) size (omega (arith, long, short)) size_fits (size_is ∙ field 1 4 (omega arith)) (omega (arith, long, le))

-- ---- what a head says

module _ (bytes : List ℕ) (head : GroupHead) (small : length bytes < 2 ^ 32) (has : HasHead bytes head) where
  -- the length and the count of the group that begins there
  pub head_size : (group : List Entry) → BeginsGroup group bytes → head.size ≡ length (entries_text group)
  head_size group begins = size_told bytes group begins head.size small (omega (arith, has.room, small)) has.size_is

  pub head_count : (group : List Entry) → BeginsGroup group bytes → head.count ≡ length group
  head_count group begins = count_told bytes group begins head.count small has.fits has.count_is

  -- no group without its entries
  pub group_none : (AreEntries head.count (part 9 head.size bytes) → ⊥) → BeginsNoGroup bytes
  group_none none = λ group begins. none (record {
    entries = group;
    sound = begins.sound.entries;
    counted = sym (head_count group begins);
    text = ap (λ (n : ℕ). part 9 n bytes) (head_size group begins) ∙ entries_field bytes group begins;
  })

  -- a group with them
  pub group_found : AreEntries head.count (part 9 head.size bytes) → (group : List Entry) × BeginsGroup group bytes × (head.size ≡ length (entries_text group)) × (head.count ≡ length group)
  group_found are =
      let group = are.entries in
      let behind = drop head.size (drop 9 bytes) in
      let size_here : head.size ≡ length (entries_text group) = sym (length-part 9 head.size bytes (omega (arith, has.room))) ∙ ap length are.text in
      let count_here : head.count ≡ length group = sym are.counted in
      let head_is : part 1 4 bytes ++ part 5 4 bytes ≡ to_be_bytes w32 head.size ++ to_be_bytes w32 (length group) =
      ap (λ (l : List ℕ). l ++ part 5 4 bytes) (sym has.size_is) ∙ ap (λ (l : List ℕ). to_be_bytes w32 head.size ++ l) (sym has.count_is ∙ ap (to_be_bytes w32) count_here) in
      let four : drop 1 bytes ≡ part 1 4 bytes ++ drop 5 bytes = sym (take-append-drop 4 (drop 1 bytes)) ∙ ap (λ (l : List ℕ). part 1 4 bytes ++ l) (drop-drop 4 1 bytes) in
      let eight : drop 5 bytes ≡ part 5 4 bytes ++ drop 9 bytes = sym (take-append-drop 4 (drop 5 bytes)) ∙ ap (λ (l : List ℕ). part 5 4 bytes ++ l) (drop-drop 4 5 bytes) in
      let rest : drop 9 bytes ≡ entries_text group ++ behind = sym (take-append-drop head.size (drop 9 bytes)) ∙ ap (λ (l : List ℕ). l ++ behind) are.text in (
        group,
        record {
          sound = record { some = omega (arith, has.some, count_here); entries = are.sound };
          behind = behind;
          text = first_byte bytes 1 (omega (arith, has.room)) has.opens ∙ ap (λ (l : List ℕ). 1 ∷ l) (four
              ∙ ap (λ (l : List ℕ). part 1 4 bytes ++ l) (eight ∙ ap (λ (l : List ℕ). part 5 4 bytes ++ l) rest)
              ∙ sym (append_assoc (part 1 4 bytes) (part 5 4 bytes) (entries_text group ++ behind))
              ∙ sym (append_assoc (part 1 4 bytes ++ part 5 4 bytes) (entries_text group) behind)
              ∙ ap (λ (l : List ℕ). l ++ behind) (group_parts group head.size (part 1 4 bytes ++ part 5 4 bytes) head_is size_here));
          closing = omega (arith, has.room, length-drop 9 bytes, length-drop head.size (drop 9 bytes));
        },
        size_here,
        count_here,
      )

-- ---- a group that stands whole in some bytes

pub group_here : (bytes : List ℕ) (head : GroupHead) → length bytes < 2 ^ 32 → HasHead bytes head → AreEntries head.count (part 9 head.size bytes) → IsGroupIn bytes head
group_here bytes head small has are =
    let found = group_found bytes head small has are in
    record {
      group = found.0;
      begins = found.1;
      size_is = found.2;
      count_is = found.3;
      inside = has.room;
      some = omega (arith, found.2, found.3, count_below found.0);
    }

pub group_wider : (p n k : ℕ) (group : List Entry) (c : List ℕ) → n ≤ k → BeginsGroup group (part p n c) → BeginsGroup group (part p k c)
group_wider p n k group c le begins =
    let more = drop n (part p k c) in
    record {
      sound = begins.sound;
      behind = begins.behind ++ more;
      text = sym (take-append-drop n (part p k c)) ∙ ap (λ (l : List ℕ). l ++ more) (take-take n k (drop p c) le ∙ begins.text) ∙ append_assoc (1 ∷ group_text group) begins.behind more;
      closing = omega (arith, begins.closing, length-append begins.behind more);
    }
