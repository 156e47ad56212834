-- What is seen of one slot.
use Rattle.std.proofs.Common.{◌≡◌, ◌≢◌, inl, inr, ℕ, ◌+◌, ◌<◌, ◌≤◌, List, length, get_or, refl, sym, ◌∙◌, ap, subst, arith}
use Rattle.std.specs.Prelude.{Option, None, Some, IfSome}
use Rattle.spool_state.specs.Layout.{most_number}
use Rattle.spool_state.specs.Image.{slot_at, HoldsSegment}
use Rattle.spool_state.specs.Broken.{BreaksAt}
use Rattle.spool_slots.specs.declared.slot.Slot.{Slot}
use Rattle.spool_slots.specs.Scan.{KnowsSome}
use Rattle.bridge_rescue.specs.declared.fault.Why.TheVariants.{Cut, Broken, Unheld, TooHigh, Unread}
use Rattle.bridge_rescue.specs.declared.looking.Seen.{Seen}
use Rattle.bridge_rescue.specs.declared.looking.Seen.TheVariants.{Closed, Sound, Front, AtFault}
use Rattle.bridge_rescue.specs.Faults.{BreaksAfter, IsTooHigh}
use Rattle.bridge_rescue.specs.Looking.{IsUnreadSeen, IsReadable, IsByNumbers, IsByFront, IsFrontOf, IsSeen, fault_of}

-- what stands before the fault, where that was found
abbrev pub IsFront : ℕ → ℕ → ℕ → List ℕ → Option Slot → Type 0
IsFront begin size at c None = Unit {0}
IsFront begin size at c (Some slot) = (slot.at ≡ begin) × IsFrontOf begin size at c slot

pub front_of : (begin size at : ℕ) (c : List ℕ) (tells : Type 0) (found : Option Slot) → IfSome found (λ slot. (slot.at ≡ begin) × (slot.size ≡ size))
    → IfSome found (λ slot. tells → BreaksAt begin size at c → IsFrontOf begin size at c slot) → tells → BreaksAt begin size at c → IsFront begin size at c found
front_of begin size at c tells None place front told breaks = tt
front_of begin size at c tells (Some slot) place front told breaks = (place.0, front told breaks)

module _ (size place begin : ℕ) (c : List ℕ) (is : begin ≡ slot_at size place) where
  pub seen_cut : (len : ℕ) → len ≡ length c → len < begin + size → IsSeen size place c (AtFault (fault_of place len Cut))
  seen_cut len whole short = record { here = refl; is = (omega (arith, is, whole, short), whole); lost = tt }

  pub seen_unread : (seen : Seen) → seen ≡ AtFault (fault_of place begin Unread) → IsSeen size place c seen
  seen_unread seen unread = subst (IsSeen size place c) (sym unread) (record { here = refl; is = is; lost = tt })

  seen_high : (at : ℕ) → at ≡ begin → IsTooHigh begin size c → IsSeen size place c (AtFault (fault_of place at TooHigh))
  seen_high at at_is high = record { here = refl; is = (subst (λ (b : ℕ). IsTooHigh b size c) is high, at_is ∙ is); lost = tt }

  read_high : (slot : Slot) → slot.at ≡ begin → slot.size ≡ size → KnowsSome slot c → most_number < slot.first + slot.count → IsTooHigh begin size c
  read_high slot at_is size_is knows high =
      let k = knows.1 in
      record {
        segment = knows.0;
        stands = inl (subst (λ (n : ℕ). HoldsSegment n size knows.0 c) at_is (subst (λ (n : ℕ). HoldsSegment slot.at n knows.0 c) size_is k.holds));
        groups = k.sound;
        high = omega (arith, high, k.first, k.count);
      }

  module _ (inside : begin + size ≤ length c) where
    pub seen_closed : get_or c begin 0 ≢ 1 → IsSeen size place c Closed
    seen_closed closed = (omega (arith, is, inside), subst (λ (b : ℕ). get_or c b 0 ≢ 1) is closed)

    seen_sound : (slot : Slot) → slot.at ≡ begin → slot.size ≡ size → KnowsSome slot c → slot.first + slot.count ≤ most_number → IsSeen size place c (Sound slot)
    seen_sound slot at_is size_is knows ends = record { at_is = omega (arith, at_is, is); size_is = size_is; inside = omega (arith, is, inside); ends = ends; knows = knows }

    -- one that was read, by its numbers
    pub seen_read : (slot : Slot) (seen : Seen) → slot.at ≡ begin → slot.size ≡ size → KnowsSome slot c → IsByNumbers slot place seen → IsSeen size place c seen
    seen_read slot seen at_is size_is knows (inl ok) = subst (IsSeen size place c) (sym ok.1) (seen_sound slot at_is size_is knows ok.0)
    seen_read slot seen at_is size_is knows (inr high) = subst (IsSeen size place c) (sym high.1) (seen_high slot.at at_is (read_high slot at_is size_is knows high.0))

    module _ (at : ℕ) where
      seen_front : (slot : Slot) → IsFrontOf begin size at c slot → slot.first + slot.count ≤ most_number → IsSeen size place c (Front slot (fault_of place at (Broken slot.count)))
      seen_front slot found ends = record {
        segment = found.segment;
        known = found.known;
        here = refl;
        before = record {
          place = refl;
          inside = omega (arith, is, inside);
          breaks = subst (λ (b : ℕ). BreaksAfter b size at c found.segment) is found.breaks;
          ordinal = found.ordinal;
          first = found.first;
          ends = omega (arith, ends, found.known.first, found.known.count);
          why = ap Broken found.known.count;
        };
      }

      front_high : (slot : Slot) → IsFrontOf begin size at c slot → most_number < slot.first + slot.count → IsTooHigh begin size c
      front_high slot found high = record {
        segment = found.segment;
        stands = inr (at, found.breaks);
        groups = found.known.sound;
        high = omega (arith, high, found.known.first, found.known.count);
      }

      -- one with a gate at fault, by what stands before that
      pub seen_before : (found : Option Slot) (seen : Seen) → BreaksAt begin size at c → IsFront begin size at c found → IsByFront found place at seen → IsSeen size place c seen
      seen_before None seen breaks front by =
          subst (IsSeen size place c) (sym by) (record { here = refl; is = subst (λ (b : ℕ). BreaksAt b size at c) is breaks; lost = tt })
      seen_before (Some slot) seen breaks front (inl ok) = subst (IsSeen size place c) (sym ok.1) (seen_front slot front.1 ok.0)
      seen_before (Some slot) seen breaks front (inr high) = subst (IsSeen size place c) (sym high.1) (seen_high slot.at front.0 (front_high slot front.1 high.0))

-- it is readable so
pub readable_read : (len place : ℕ) (slot : Slot) (seen : Seen) → slot.at + slot.size ≤ len → IsByNumbers slot place seen → IsReadable len seen
readable_read len place slot seen inside (inl ok) = subst (IsReadable len) (sym ok.1) (record { inside = inside; ends = ok.0 })
readable_read len place slot seen inside (inr high) = subst (IsReadable len) (sym high.1) tt

abbrev pub IsInside : ℕ → Option Slot → Type 0
IsInside len None = Unit {0}
IsInside len (Some slot) = slot.at + slot.size ≤ len

pub inside_of : (begin size len : ℕ) (found : Option Slot) → begin + size ≤ len → IfSome found (λ slot. (slot.at ≡ begin) × (slot.size ≡ size)) → IsInside len found
inside_of begin size len None inside place = tt
inside_of begin size len (Some slot) inside place = omega (arith, inside, place.0, place.1)

pub readable_before : (len place at : ℕ) (found : Option Slot) (seen : Seen) → IsInside len found → IsByFront found place at seen → IsReadable len seen
readable_before len place at None seen inside by = subst (IsReadable len) (sym by) tt
readable_before len place at (Some slot) seen inside (inl ok) = subst (IsReadable len) (sym ok.1) (record { inside = inside; ends = ok.0 })
readable_before len place at (Some slot) seen inside (inr high) = subst (IsReadable len) (sym high.1) tt

pub readable_unread : (len place begin : ℕ) (seen : Seen) → seen ≡ AtFault (fault_of place begin Unread) → IsReadable len seen
readable_unread len place begin seen is = subst (IsReadable len) (sym is) tt

-- a read of it failed where it says so

pub read_is_read : (slot : Slot) (place : ℕ) (seen : Seen) → IsByNumbers slot place seen → IsUnreadSeen seen → ⊥
read_is_read slot place seen (inl ok) un = subst IsUnreadSeen ok.1 un
read_is_read slot place seen (inr high) un = let is : TooHigh ≡ Unread = subst IsUnreadSeen high.1 un in cc

pub before_is_read : (found : Option Slot) (place at : ℕ) (seen : Seen) → IsByFront found place at seen → IsUnreadSeen seen → ⊥
before_is_read None place at seen by un = let is : Unheld ≡ Unread = subst IsUnreadSeen by un in cc
before_is_read (Some slot) place at seen (inl ok) un = let is : Broken slot.count ≡ Unread = subst IsUnreadSeen ok.1 un in cc
before_is_read (Some slot) place at seen (inr high) un = let is : TooHigh ≡ Unread = subst IsUnreadSeen high.1 un in cc

pub unread_is_unread : (place begin : ℕ) (seen : Seen) → seen ≡ AtFault (fault_of place begin Unread) → IsUnreadSeen seen
unread_is_unread place begin seen is = subst IsUnreadSeen (sym is) refl
