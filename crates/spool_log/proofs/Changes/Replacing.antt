-- The first slot shut, seen from the disk.
use Rattle.std.proofs.Common.{◌≡◌, ◌≢◌, ◌⊎◌, inl, inr, ℕ, ◌-◌, ◌≤◌, ◌<◌, List, [], ◌∷◌, ◌++◌, drop, get_or, refl, sym, ◌∙◌, ap, subst, arith}
use Rattle.std.specs.Prelude.{All}
use Rattle.std.proofs.lemmas.List.Elements.{All-head}
use Rattle.foundation.specs.Bytes.{SameBut}
use Rattle.event_form.specs.declared.event.Entry.{Entry}
use Rattle.spool_state.specs.SpoolState.{OpenSlot, SpoolState, IsSound}
use Rattle.spool_state.specs.Change.{shut}
use Rattle.spool_state.specs.Free.{end_of}
use Rattle.spool_state.specs.Image.{slot_at, HoldsSegment, HoldsSlot, StandsFor}
use Rattle.spool_state.proofs.Shut.{end-shut, shut_closed}
use Rattle.edge_disk.specs.Disk.{Moment, IsLawful, IsSettled, LeavesOnly}
use Rattle.edge_disk.specs.Gate.{ComesFrom}
use Rattle.edge_disk.proofs.Moments.{weaker, both, from_settled, reads_have}
use Rattle.spool_slots.specs.declared.slot.Slot.{Slot}
use Rattle.spool_slots.specs.Slot.{IsClosedOrHolds}
use Rattle.spool_log.specs.declared.changing.begin.Head.{Head}
use Rattle.spool_log.specs.declared.memory.Memory.{Memory}
use Rattle.spool_log.specs.Memory.{cursor_of}
use Rattle.spool_log.specs.Knows.{KnowsSlot, KnowsSlots, IsStored}
use Rattle.spool_answers.specs.Stages.{StandsForOne, begin_stages, replace_stages}
use Rattle.spool_log.specs.Changing.Next.{IsHead, IsNext}
use Rattle.spool_log.specs.Changing.Target.{StartsConfirmed}
use Rattle.spool_log.proofs.Numbers.{knows_push, end_known, some_entry}
use Rattle.spool_log.proofs.Changes.Shut.{shut_stands, shutting_stands}

-- The first slot of a state, all of whose entries are below the cursor, and its number in memory.
pub record First (s : SpoolState) (older : List Slot) (number : Slot) : Type 0 where
  pub slot : OpenSlot
  pub rest : List OpenSlot
  pub is : s.older ≡ slot ∷ rest
  pub confirmed : end_of slot ≤ s.cursor
  pub knows : KnowsSlot s.size slot number
  pub knows_rest : KnowsSlots s.size rest (drop 1 older)

first_by : (s : SpoolState) (cursor : ℕ) (slots : List OpenSlot) (older : List Slot) (number : Slot) → s.older ≡ slots → cursor ≡ s.cursor → KnowsSlots s.size slots older → StartsConfirmed older cursor → number ≡ get_or older 0 number → First s older number
first_by s cursor [] [] number is same h starts at = absurd starts
first_by s cursor [] (k ∷ more) number is same h starts at = absurd h
first_by s cursor (slot ∷ rest) [] number is same h starts at = absurd h
first_by s cursor (slot ∷ rest) (k ∷ more) number is same h starts at = record {
  slot = slot;
  rest = rest;
  is = is;
  confirmed = omega (arith, starts, same, h.0.first_is, h.0.count_is);
  knows = subst (KnowsSlot s.size slot) (sym at) h.0;
  knows_rest = h.1;
}

pub first_stored : (s : SpoolState) (memory : Memory) (c : List ℕ) → IsStored s memory c → StartsConfirmed memory.older.items (cursor_of memory) → (number : Slot) → number ≡ get_or memory.older.items 0 number → First s memory.older.items number
first_stored s memory c stored starts number is = first_by s (cursor_of memory) s.older memory.older.items number refl stored.knows.cursor stored.knows.older starts is

-- whether there is one
pub some_first : (size cursor : ℕ) (slots : List OpenSlot) (older : List Slot) → KnowsSlots size slots older → StartsConfirmed older cursor → (slot : OpenSlot) × (rest : List OpenSlot) × (slots ≡ slot ∷ rest) × (end_of slot ≤ cursor)
some_first size cursor [] [] h starts = absurd starts
some_first size cursor [] (k ∷ more) h starts = absurd h
some_first size cursor (slot ∷ rest) [] h starts = absurd h
some_first size cursor (slot ∷ rest) (k ∷ more) h starts = (slot, rest, refl, omega (arith, starts, h.0.first_is, h.0.count_is))

module _ (s : SpoolState) {older : List Slot} {number : Slot} (first : First s older number) where
  slot : OpenSlot
  slot = first.slot

  pub older_known : (items : List Slot) (other : OpenSlot) (k : Slot) → items ≡ older → KnowsSlot s.size other k → KnowsSlots s.size (first.rest ++ other ∷ []) (drop 1 items ++ k ∷ [])
  older_known items other k same knows = subst (λ (l : List Slot). KnowsSlots s.size (first.rest ++ other ∷ []) (drop 1 l ++ k ∷ [])) (sym same) (knows_push s.size first.rest (drop 1 older) other k first.knows_rest knows)

  -- the next segment in its slot
  pub next_shut : IsSound s → (size : ℕ) (active : Slot) (need : ℕ) (head : Head) → size ≡ s.size → KnowsSlot s.size s.active active → IsHead size active number.at head → need ≤ size - 18 → active.size - active.gate - 1 < need → IsNext (shut s first.rest) first.slot.place head
  next_shut sound size active need head size_is knows is small full = record {
    closed = shut_closed s first.slot first.rest first.is sound first.confirmed;
    at_is = is.at_is ∙ first.knows.at_is;
    size_is = is.size_is ∙ size_is;
    ordinal_is = omega (arith, is.ordinal_is, knows.ordinal_is);
    first_is = is.first_is ∙ end_known s active sound knows ∙ sym (end-shut s first.slot first.rest first.is sound);
    some = some_entry s active need sound knows (omega (arith, small, size_is)) full;
  }

  -- on a settled disk
  module _ (m : Moment) (settled : IsSettled m) (stands : StandsFor s m.reads) where
    held : HoldsSegment number.at number.size first.slot.segment m.reads
    held = subst (λ (x : ℕ). HoldsSegment x number.size first.slot.segment m.reads) (sym first.knows.at_is) (subst (λ (y : ℕ). HoldsSegment (slot_at s.size first.slot.place) y first.slot.segment m.reads) (sym first.knows.size_is)
        (All-head (λ x. HoldsSlot s.size x m.reads) first.slot first.rest (subst (λ (l : List OpenSlot). All (λ x. HoldsSlot s.size x m.reads) l) first.is stands.older)))

    pub first_images : (c : List ℕ) → m.image c → HoldsSegment number.at number.size first.slot.segment c
    first_images c image = subst (HoldsSegment number.at number.size first.slot.segment) (sym (settled.only c image)) held

    module _ (mid : Moment) (run : LeavesOnly (ComesFrom m (IsClosedOrHolds number.at number.size first.slot.segment)) m mid) where
      step : (c : List ℕ) → IsClosedOrHolds number.at number.size first.slot.segment m.reads c → IsClosedOrHolds (slot_at s.size first.slot.place) s.size first.slot.segment m.reads c
      step c h = subst (λ (x : ℕ). IsClosedOrHolds x s.size first.slot.segment m.reads c) first.knows.at_is (subst (λ (y : ℕ). IsClosedOrHolds number.at y first.slot.segment m.reads c) first.knows.size_is h)

      run_settled : LeavesOnly (IsClosedOrHolds number.at number.size first.slot.segment m.reads) m mid
      run_settled = from_settled (IsClosedOrHolds number.at number.size first.slot.segment) m mid settled run

      shut_moments : LeavesOnly (λ c. StandsFor s c ⊎ StandsFor (shut s first.rest) c) m mid
      shut_moments =
          weaker _ (λ c. StandsFor s c ⊎ StandsFor (shut s first.rest) c) m mid run_settled (λ c h. let at = step c h in shutting_stands s first.slot first.rest first.is stands.sound first.confirmed m.reads c stands at.outside at.inside)

      -- where nothing was done after it
      pub shut_stage : (group : List Entry) → LeavesOnly (StandsForOne s (replace_stages s s.older group)) m mid
      shut_stage group =
          subst (λ (l : List OpenSlot). LeavesOnly (StandsForOne s (replace_stages s l group)) m mid) (sym first.is)
          (weaker _ (StandsForOne s (replace_stages s (first.slot ∷ first.rest) group)) m mid shut_moments (λ c h. elim h [ inl here ↦ inl here | inr there ↦ inr (inl there) ]))

      -- where a segment was begun after it
      pub shut_stages : (group : List Entry) (last : Moment) → LeavesOnly (StandsForOne (shut s first.rest) (begin_stages (shut s first.rest) first.slot.place group)) mid last → LeavesOnly (StandsForOne s (replace_stages s s.older group)) m last
      shut_stages group last later =
          subst (λ (l : List OpenSlot). LeavesOnly (StandsForOne s (replace_stages s l group)) m last) (sym first.is)
          (both _ _ (StandsForOne s (replace_stages s (first.slot ∷ first.rest) group)) m mid last shut_moments later (λ c h. elim h [ inl here ↦ inl here | inr there ↦ inr (inl there) ]) (λ c h. inr h))

      module _ (lawful : IsLawful mid) where
        pub shut_outside : SameBut (slot_at s.size first.slot.place) s.size m.reads mid.reads
        shut_outside = (step mid.reads (reads_have (IsClosedOrHolds number.at number.size first.slot.segment m.reads) m mid lawful run_settled)).outside

        pub shut_here : get_or mid.reads number.at 0 ≢ 1 → StandsFor (shut s first.rest) mid.reads
        shut_here closed = shut_stands s first.slot first.rest first.is stands.sound first.confirmed m.reads mid.reads stands shut_outside (λ one. closed (ap (λ (k : ℕ). get_or mid.reads k 0) first.knows.at_is ∙ one))
