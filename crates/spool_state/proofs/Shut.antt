-- The first slot shut, where all its entries are below the cursor: the state after it.
use Rattle.std.proofs.Common.{◌≡◌, ◌≢◌, inl, ℕ, ◌+◌, ◌-◌, ◌≤◌, List, ◌∷◌, ◌++◌, length, take, drop, sym, ◌∙◌, ap, subst, arith, append_assoc, length-append}
use Rattle.std.specs.Prelude.{All}
use Rattle.std.proofs.lemmas.List.Elements.{All-head, All-tail}
use Rattle.std.proofs.Math.Seq.{drop-append-add}
use Rattle.event_form.specs.declared.event.Entry.{Entry}
use Rattle.spool_state.specs.Segment.{entries_of}
use Rattle.spool_state.specs.SpoolState.{OpenSlot, SpoolState, entries_in, list, first_of, base, end, numbers_of, Follows, AreConsecutive, AreElsewhere, AreApart, IsOpenSlot, IsSound}
use Rattle.spool_state.specs.Left.{NumberedEntry, numbered, unknown, left}
use Rattle.spool_state.specs.Free.{end_of, IsClosed}
use Rattle.spool_state.specs.Change.{shut}
use Rattle.spool_state.proofs.Adding.{end_later}
use Rattle.spool_state.proofs.Unknown.{numbered_append, numbered_of, unknown_append, unknown_none}

-- a state with this first slot
module _ (s : SpoolState) (slot : OpenSlot) (rest : List OpenSlot) (is : s.older ≡ slot ∷ rest) (sound : IsSound s) where
  consecutive : AreConsecutive (slot ∷ rest) s.active.segment.ordinal s.active.segment.first
  consecutive = subst (λ (l : List OpenSlot). AreConsecutive l s.active.segment.ordinal s.active.segment.first) is sound.consecutive

  list-shut : list s ≡ entries_of slot.segment ++ list (shut s rest)
  list-shut = ap (λ (l : List OpenSlot). entries_in l ++ entries_of s.active.segment) is ∙ append_assoc (entries_of slot.segment) (entries_in rest) (entries_of s.active.segment)

  base_was : base s ≡ slot.segment.first
  base_was = ap (λ (l : List OpenSlot). first_of l s.active.segment.first) is

  pub base-shut : base (shut s rest) ≡ base s + length (entries_of slot.segment)
  base-shut = omega (arith, consecutive.1, base_was)

  pub end-shut : end (shut s rest) ≡ end s
  end-shut = omega (arith, base-shut, ap length list-shut, length-append (entries_of slot.segment) (list (shut s rest)))

  -- the list from a number on
  pub same_from : (n : ℕ) → base (shut s rest) ≤ n → drop (n - base s) (list s) ≡ drop (n - base (shut s rest)) (list (shut s rest))
  same_from n ge =
      let k : n - base s ≡ length (entries_of slot.segment) + (n - base (shut s rest)) = omega (arith, base-shut) in
      ap (λ (i : ℕ). drop i (list s)) k
      ∙ ap (λ (l : List Entry). drop (length (entries_of slot.segment) + (n - base (shut s rest))) l) list-shut
      ∙ drop-append-add (entries_of slot.segment) (list (shut s rest)) (n - base (shut s rest))

  within : All (IsOpenSlot s.slots) (slot ∷ rest)
  within = subst (λ (l : List OpenSlot). All (IsOpenSlot s.slots) l) is sound.older

  elsewhere : All (λ x. x.place ≢ s.active.place) (slot ∷ rest)
  elsewhere = subst (AreElsewhere s.active.place) is sound.apart_active

  apart : AreApart (slot ∷ rest)
  apart = subst AreApart is sound.apart

  module _ (confirmed : end_of slot ≤ s.cursor) where
    pub follows_shut : Follows s (shut s rest)
    follows_shut = record {
      run = omega arith;
      cursor = omega arith;
      known = λ n known. known;
      base_rises = omega (arith, base-shut);
      end_rises = omega (arith, end-shut);
      kept = λ n ge lt. ap (λ (l : List Entry). take 1 l) (sym (same_from n ge));
      confirmed = omega (arith, base-shut, base_was);
    }

    -- what isn't known stays what it was: all of the slot's entries are known
    pub left-shut : left (shut s rest) ≡ left s
    left-shut =
        let entries = entries_of slot.segment in
        let numbers = numbers_of s in
        let gone = unknown_none numbers (base s) (base s + length entries) (numbered (base s) entries) (numbered_of (base s) entries) (λ n ge lt. inl (omega (arith, base_was))) in
        sym (ap (λ (l : List Entry). unknown numbers (numbered (base s) l)) list-shut
        ∙ ap (unknown numbers) (numbered_append (base s) entries (list (shut s rest)))
        ∙ unknown_append numbers (numbered (base s) entries) (numbered (base s + length entries) (list (shut s rest)))
        ∙ ap (λ (l : List NumberedEntry). l ++ unknown numbers (numbered (base s + length entries) (list (shut s rest)))) gone
        ∙ ap (λ (k : ℕ). unknown numbers (numbered k (list (shut s rest)))) (sym base-shut))

    pub sound-shut : IsSound (shut s rest)
    sound-shut = record {
      some = sound.some;
      few = sound.few;
      large = sound.large;
      small = sound.small;
      run = sound.run;
      ordinal = sound.ordinal;
      older = All-tail (IsOpenSlot s.slots) slot rest within;
      active = sound.active;
      apart = apart.1;
      apart_active = All-tail (λ x. x.place ≢ s.active.place) slot rest elsewhere;
      consecutive = consecutive.3;
      ends = omega (arith, end-shut, sound.ends);
      from_base = omega (arith, base-shut, base_was);
      to_end = omega (arith, end-shut, sound.to_end);
      known = sound.known;
      known_to_end = end_later (end s) (end (shut s rest)) s.known (omega (arith, end-shut)) sound.known_to_end;
    }

    -- its slot is closed then
    pub shut_closed : IsClosed (shut s rest) slot.place
    shut_closed = record {
      within = (All-head (IsOpenSlot s.slots) slot rest within).place;
      inactive = λ e. All-head (λ x. x.place ≢ s.active.place) slot rest elsewhere (sym e);
      elsewhere = apart.0;
    }
