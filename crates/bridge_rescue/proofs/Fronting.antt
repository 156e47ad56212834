-- The groups before a gate at fault, in memory.
use Rattle.std.proofs.Common.{◌≡◌, ℕ, zero, suc, ◌+◌, ◌-◌, ◌^◌, ◌<◌, ◌≤◌, List, [], ◌∷◌, ◌++◌, length, get_or, take, drop, refl, sym, ◌∙◌, ap, subst, arith, length-append}
use Rattle.std.specs.Prelude.{min, Bool, true, false}
use Rattle.std.proofs.lemmas.List.{take_at, take_all, take-take, length-replicate, append-nil}
use Rattle.foundation.specs.Bytes.{part}
use Rattle.foundation.proofs.Bytes.{length-part}
use Rattle.event_form.specs.declared.event.Entry.{Entry}
use Rattle.spool_state.specs.Segment.{Segment, groups_text, segment_text, head_text}
use Rattle.spool_state.specs.Image.{HoldsSegment}
use Rattle.spool_state.specs.Broken.{BreaksAt}
use Rattle.spool_state.proofs.Once.{found_first}
use Rattle.spool_state.proofs.Texts.{length-head_text}
use Rattle.edge_disk.specs.Calls.{Calls}
use Rattle.spool_slots.specs.declared.slot.Slot.{Slot}
use Rattle.spool_slots.specs.Slot.{Knows}
use Rattle.bridge_rescue.specs.declared.found.Found.{Found}
use Rattle.bridge_rescue.specs.Held.{held_size, held_front, zeros, still}
use Rattle.bridge_rescue.specs.Looking.{Stands, KnowsFound, IsFrontOf, IsSameBut, front}

length-zeros : (m : ℕ) → length (zeros m) ≡ m
length-zeros m = length-replicate m 0

zero_first : (m : ℕ) → get_or (zeros m) 0 0 ≡ 0
zero_first zero = refl
zero_first (suc m) = refl

-- all that is held
held_whole : (text : List ℕ) (n : ℕ) → n ≡ length text → part 0 (held_size n) (text ++ zeros (held_size n - n)) ≡ text ++ zeros (held_size n - n)
held_whole text n is =
    let rest = zeros (held_size n - n) in
    take_all (held_size n) (text ++ rest) (omega (arith, is, length-append text rest, length-zeros (held_size n - n)))

held_holds : (segment : Segment) (n : ℕ) (held : List ℕ) → n ≡ length (segment_text segment) → held ≡ segment_text segment ++ zeros (held_size n - n)
    → HoldsSegment 0 (held_size n) segment held
held_holds segment n held long is =
    let rest = zeros (held_size n - n) in
    record {
      rest = rest;
      text = ap (part 0 (held_size n)) is ∙ held_whole (segment_text segment) n long;
      more = omega (arith, length-zeros (held_size n - n));
      closed = λ opens. omega (arith, zero_first (held_size n - n), opens);
    }

-- what is held of it is a slot that holds it
pub front_held : (slot other : Slot) (segment : Segment) (c held : List ℕ) → KnowsFound (front slot) segment c → held ≡ held_front slot.at slot.gate c
    → IsSameBut slot other 0 (held_size slot.gate) → Knows other segment held
front_held slot other segment c held known is same =
    let holds = held_holds segment slot.gate held known.gate (is ∙ ap (λ (l : List ℕ). l ++ zeros (held_size slot.gate - slot.gate)) known.stands) in
    record {
      holds = subst (λ (n : ℕ). HoldsSegment n other.size segment held) (sym same.at_is) (subst (λ (n : ℕ). HoldsSegment 0 n segment held) (sym same.size_is) holds);
      sound = known.sound;
      ordinal = same.ordinal ∙ known.ordinal;
      first = same.first ∙ known.first;
      gate = same.gate ∙ known.gate;
      count = same.count ∙ known.count;
    }

-- ---- found so

none_closed : (more : List (List Entry)) (rest text : List ℕ) → get_or text 0 0 ≡ 0 → text ≡ groups_text more ++ rest → more ≡ []
none_closed [] rest text closed is = refl
none_closed (g ∷ more) rest text closed is = let opens : get_or text 0 0 ≡ 1 = ap (λ (l : List ℕ). get_or l 0 0) is in absurd (omega (arith, closed, opens))

some_open : (rest : List ℕ) → get_or rest 0 0 ≡ 1 → 0 < length rest
some_open [] opens = absurd (omega (arith, opens))
some_open (x ∷ rest) opens = omega arith

text_length : (s t : Segment) → s.groups ≡ t.groups → length (segment_text s) ≡ length (segment_text t)
text_length s t same = omega (
  arith,
  length-append (head_text s.ordinal s.first) (groups_text s.groups),
  length-append (head_text t.ordinal t.first) (groups_text t.groups),
  length-head_text s.ordinal s.first,
  length-head_text t.ordinal t.first,
  ap (λ (g : List (List Entry)). length (groups_text g)) same,
)

module _ (begin size at n : ℕ) (c : List ℕ) (breaks : BreaksAt begin size at c) (inside : begin + size ≤ length c) (small : size ≤ 1073741824) (large : 4096 ≤ size) (is : n ≡ min (at - begin) (size - 1)) where
  abbrev text : List ℕ
  text = segment_text breaks.before

  long : n ≡ length text
  long = omega (arith, is, breaks.here, ap length breaks.text, length-part begin size c inside, length-append text breaks.rest, some_open breaks.rest breaks.opens)

  within : n < size
  within = omega (arith, long, ap length breaks.text, length-part begin size c inside, length-append text breaks.rest, some_open breaks.rest breaks.opens)

  front_is : part begin n c ≡ text
  front_is = sym (take-take n size (drop begin c) (omega (arith, within))) ∙ ap (take n) breaks.text ∙ take_at text breaks.rest n (sym long)

  pub front_found : (slot other : Slot) (segment : Segment) (held : List ℕ) → held ≡ held_front begin n c → slot.at ≡ 0 → slot.size ≡ held_size n → Knows slot segment held
      → IsSameBut slot other begin size → slot.ordinal < 2 ^ 64 → slot.first < 2 ^ 64 → IsFrontOf begin size at c other
  front_found slot other segment held held_is at_is size_is knows same ordinal_fits first_fits =
      let ends = zeros (held_size n - n) in
      let whole : part 0 (held_size n) held ≡ text ++ ends = ap (part 0 (held_size n)) (held_is ∙ ap (λ (l : List ℕ). l ++ ends) front_is) ∙ held_whole text n long in
      let holds = subst (λ (m : ℕ). HoldsSegment 0 m segment held) size_is (subst (λ (m : ℕ). HoldsSegment m slot.size segment held) at_is knows.holds) in
      let room : 0 + held_size n ≤ length held = omega (arith, ap length held_is, length-append (part begin n c) ends, length-zeros (held_size n - n), ap length front_is, long) in
      let first = found_first 0 (held_size n) breaks.before segment ends held room (omega (arith, within, small)) breaks.sound knows.sound whole holds in
      let none = none_closed first.0 holds.rest ends (zero_first (held_size n - n)) first.2 in
      let groups : segment.groups ≡ breaks.before.groups = first.1 ∙ ap (λ (l : List (List Entry)). breaks.before.groups ++ l) none ∙ append-nil breaks.before.groups in
      let same_text : segment_text segment ≡ text =
      sym (take_at (segment_text segment) holds.rest n (text_length segment breaks.before groups ∙ sym long)) ∙ ap (take n) (sym holds.text ∙ whole) ∙ take_at text ends n (sym long) in
      record {
        segment = segment;
        breaks = (
          record {
            before = segment;
            sound = knows.sound;
            rest = breaks.rest;
            text = breaks.text ∙ ap (λ (l : List ℕ). l ++ breaks.rest) (sym same_text);
            here = breaks.here ∙ ap (λ (l : List ℕ). begin + length l) (sym same_text);
            opens = breaks.opens;
            no_group = breaks.no_group;
          },
          refl,
        );
        known = record {
          stands =
              ap (λ (m : ℕ). part m other.gate c) same.at_is
              ∙ ap (λ (m : ℕ). part begin m c) (same.gate ∙ knows.gate ∙ ap length same_text ∙ sym long)
              ∙ front_is ∙ sym same_text;
          sound = knows.sound;
          ordinal = same.ordinal ∙ knows.ordinal;
          first = same.first ∙ knows.first;
          gate = same.gate ∙ knows.gate;
          count = same.count ∙ knows.count;
        };
        ordinal = omega (arith, ordinal_fits, knows.ordinal);
        first = omega (arith, first_fits, knows.first);
      }

-- ---- what is found of a slot, by whether it is whole

pub known_whole : (found : Found) (segment : Segment) (c : List ℕ) → found.is_whole ≡ true → KnowsFound found segment c → Knows found.slot segment c
known_whole found segment c is known = record {
  holds = subst (λ (b : Bool). Stands b found.slot segment c) is known.stands;
  sound = known.sound;
  ordinal = known.ordinal;
  first = known.first;
  gate = known.gate;
  count = known.count;
}

pub known_front : (found : Found) (segment : Segment) (c : List ℕ) → found.is_whole ≡ false → KnowsFound found segment c → KnowsFound (front found.slot) segment c
known_front found segment c is known = record {
  stands = subst (λ (b : Bool). Stands b found.slot segment c) is known.stands;
  sound = known.sound;
  ordinal = known.ordinal;
  first = known.first;
  gate = known.gate;
  count = known.count;
}

-- no call of what is held fails
pub never_fails : (P : Type 0) (old new : List ℕ) → Calls P (still old) (still new) → P → ⊥
never_fails P old new calls failed = omega (arith, calls.cause failed)

pub same_size : (slot other : Slot) (at size size' : ℕ) → size ≡ size' → IsSameBut slot other at size → IsSameBut slot other at size'
same_size slot other at size size' is same = subst (λ (n : ℕ). IsSameBut slot other at n) is same
