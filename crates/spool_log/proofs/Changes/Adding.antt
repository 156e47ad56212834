-- Where a group goes.
use Rattle.std.proofs.Common.{◌≡◌, ℕ, ◌<◌, List, [], ◌∷◌, length, Option, None, inl, inr, true, false, refl, sym, ◌∙◌, ap, subst, arith}
use Rattle.std.proofs.lemmas.Bool.{cases_lt, cond-true, le-leb, lt-leb}
use Rattle.event_form.specs.declared.event.Entry.{Entry}
use Rattle.spool_state.specs.Segment.{need_of}
use Rattle.spool_state.specs.SpoolState.{OpenSlot, SpoolState, room, IsSound}
use Rattle.spool_state.specs.Free.{lowest_closed, is_confirmed, first_is_confirmed, end_of, NoneIsFree}
use Rattle.spool_state.proofs.Frees.{first_free, none_free}
use Rattle.spool_answers.specs.Stages.{closed_stages, replace_stages, first_stages, group_stages}
use Rattle.spool_log.specs.declared.memory.Memory.{Memory}
use Rattle.spool_log.specs.declared.changing.target.Target.{Target}
use Rattle.spool_log.specs.declared.changing.target.Target.TheVariants.{Active, Closed, First}
use Rattle.spool_slots.specs.declared.slot.Slot.{Slot}
use Rattle.spool_log.specs.Knows.{KnowsSlots, Knows}
use Rattle.spool_log.specs.Memory.{cursor_of}
use Rattle.spool_answers.specs.Take.{HasPlace}
use Rattle.spool_log.specs.Changing.Target.{stages_at, StartsConfirmed, Suits}
use Rattle.spool_answers.proofs.Adding.{adding_else}
use Rattle.spool_log.proofs.Changes.Replacing.{some_first}

-- a place that suits a group has a stage, and is free
pub some_stage : (target : Target) (s : SpoolState) (memory : Memory) (need : ℕ) (group : List Entry) → Knows s memory → Suits memory need target → 0 < length (stages_at target s group)
some_stage Active s memory need group knows suits = omega arith
some_stage (Closed place) s memory need group knows suits = omega arith
some_stage First s memory need group knows suits =
    let first = some_first s.size (cursor_of memory) s.older memory.older.items knows.older suits.1 in
    subst (λ (l : List OpenSlot). 0 < length (replace_stages s l group)) (sym first.2) (omega arith)

-- the first slot, where all its entries are below the cursor or not
pub confirmed_stages : (s : SpoolState) (memory : Memory) (group : List Entry) → Knows s memory → StartsConfirmed memory.older.items (cursor_of memory) → room s < need_of group → lowest_closed s s.slots ≡ None → HasPlace s group × (group_stages s group ≡ replace_stages s s.older group)
confirmed_stages s memory group knows starts lt none =
    let first = some_first s.size (cursor_of memory) s.older memory.older.items knows.older starts in
    let below : is_confirmed s first.0 ≡ true = le-leb (end_of first.0) s.cursor (omega (arith, first.3, knows.cursor)) in (
      inr (first.0.place, first_free s first.0 first.1 first.2 below),
      adding_else s group lt ∙ ap (λ (o : Option ℕ). closed_stages o s group) none
          ∙ ap (λ (l : List OpenSlot). first_stages s l group) first.2
          ∙ cond-true (is_confirmed s first.0) (replace_stages s (first.0 ∷ first.1) group) [] below
          ∙ ap (λ (l : List OpenSlot). replace_stages s l group) (sym first.2),
    )

not_confirmed : (size cursor : ℕ) (s : SpoolState) (slots : List OpenSlot) (older : List Slot) → KnowsSlots size slots older → cursor ≡ s.cursor → (StartsConfirmed older cursor → ⊥) → first_is_confirmed s slots ≡ false
not_confirmed size cursor s [] older h same off = refl
not_confirmed size cursor s (slot ∷ rest) [] h same off = absurd h
not_confirmed size cursor s (slot ∷ rest) (k ∷ more) h same off = elim (cases_lt s.cursor (end_of slot)) [
  | inl lt ↦ lt-leb (end_of slot) s.cursor lt
  | inr ge ↦ absurd (off (omega (arith, ge, same, h.0.first_is, h.0.count_is)))
]

pub no_place : (s : SpoolState) (memory : Memory) → Knows s memory → IsSound s → (StartsConfirmed memory.older.items (cursor_of memory) → ⊥) → lowest_closed s s.slots ≡ None → NoneIsFree s
no_place s memory knows sound off none = none_free s sound none (not_confirmed s.size (cursor_of memory) s s.older memory.older.items knows.older knows.cursor off)
