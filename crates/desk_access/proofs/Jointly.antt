-- A change of the disk that stores the parts of several callers as one group is a journal of their takes.
use Rattle.std.proofs.Common.{◌≡◌, ◌⊎◌, inl, inr, ℕ, ◌+◌, ◌-◌, ◌≤◌, List, [], ◌∷◌, ◌++◌, length, Some, refl, sym, ◌∙◌, ap, subst, arith, length-append}
use Rattle.std.specs.Prelude.{Bool, true, false, All, Result, Ok, Err, IsErrOf}
use Rattle.std.proofs.lemmas.List.{append-nil}
use Rattle.std.proofs.lemmas.List.Concat.{flat_map-append}
use Rattle.event_form.specs.declared.event.Entry.{Entry}
use Rattle.event_form.specs.Entry.{IsEntry, entry_text}
use Rattle.known_numbers.specs.Numbers.{count_of}
use Rattle.spool_state.specs.Layout.{most_number}
use Rattle.spool_state.specs.Segment.{entries_text, need_of}
use Rattle.spool_state.specs.SpoolState.{SpoolState, base, end, room, most_room}
use Rattle.spool_state.specs.Change.{added}
use Rattle.spool_state.proofs.Texts.{end-added, length-segment_text-with_group}
use Rattle.spool_answers.specs.declared.receipt.Receipt.{Receipt}
use Rattle.spool_faults.specs.declared.fault.TakeFault.{TakeFault}
use Rattle.spool_faults.specs.declared.fault.TakeFault.TheVariants as Take
use Rattle.spool_answers.specs.Stages.{last_of, StandsForOne}
use Rattle.spool_answers.specs.Take.{Fits}
use Rattle.spool_answers.proofs.Adding.{adding_here}
use Rattle.hec_ids.specs.Table.{Table}
use Rattle.desk_access.specs.declared.standing.Standing.{Standing}
use Rattle.desk_access.specs.Standing.{standing_of}
use Rattle.desk_access.specs.Call.{Record, takes, failed_of}
use Rattle.desk_access.specs.Desk.{desk_of, Finds, Goes, Stood}
use Rattle.desk_access.specs.Joint.{longer_last, extended, FitsOn}
use Rattle.desk_access.specs.JointRecords.{Part, joined, ArePartsOf, standing_with, stored_from, failed_from, refused_from, joint_of}
use Rattle.desk_access.proofs.Extending.{longer_some, extended_added, extended_twice, end-extended, room-extended}

text_join : (a b : List Entry) → length (entries_text (a ++ b)) ≡ length (entries_text a) + length (entries_text b)
text_join a b = omega (arith, ap length (flat_map-append entry_text a b), length-append (entries_text a) (entries_text b))

-- what fits with others fits alone, and the others then fit after it
fits_first : (s : SpoolState) (a b : List Entry) → FitsOn s (a ++ b) → FitsOn s a
fits_first s a b fits = record { group = fits.group; room = omega (arith, fits.room, text_join a b); numbers = omega (arith, fits.numbers, length-append a b) }

fits_next : (s : SpoolState) (a b : List Entry) → FitsOn s (a ++ b) → FitsOn (extended s a) b
fits_next s a b fits =
    let first = fits_first s a b fits in
    record {
      group = omega (arith, fits.group, longer_some s.active.segment.groups a);
      room = omega (arith, fits.room, text_join a b, room-extended s a first);
      numbers = omega (arith, fits.numbers, length-append a b, end-extended s a first);
    }

standing_extended : (s : SpoolState) (more : List Entry) → FitsOn s more → standing_of (extended s more) ≡ standing_with (standing_of s) (length more) (length (entries_text more))
standing_extended s more fits = λ i. record { base = base s; end = end-extended s more fits i; cursor = s.cursor; known_count = count_of s.known; room = room-extended s more fits i }

standing_added : (s : SpoolState) (group : List Entry) → standing_of (added s group) ≡ standing_with (standing_of s) (length group) (need_of group)
standing_added s group =
    let less : room (added s group) ≡ room s - need_of group = omega (arith, length-segment_text-with_group s.active.segment group) in
    λ i. record { base = base s; end = end-added s group i; cursor = s.cursor; known_count = count_of s.known; room = less i }

finds_it : (s : SpoolState) (ids : Table) → Finds (desk_of s [] ids) (Some (standing_of s)) s
finds_it s ids = record { one = refl; numbers = refl }

-- ---- no entries

longer_none : (groups : List (List Entry)) → longer_last groups [] ≡ groups
longer_none [] = refl
longer_none (group ∷ []) = ap (λ (l : List Entry). l ∷ []) (append-nil group)
longer_none (group ∷ next ∷ groups) = ap (λ (l : List (List Entry)). group ∷ l) (longer_none (next ∷ groups))

extended_none : (s : SpoolState) → extended s [] ≡ s
extended_none s = λ i. record { slots = s.slots; size = s.size; run = s.run; cursor = s.cursor; known = s.known; ordinal = s.ordinal; older = s.older; active = record { place = s.active.place; segment = record { ordinal = s.active.segment.ordinal; first = s.active.segment.first; groups = longer_none s.active.segment.groups i } } }

-- ---- parts that fit

-- all parts fit as one group in the active slot
pub record FitsAll (s : SpoolState) (parts : List Part) : Type 0 where
  pub small : need_of (joined parts) ≤ most_room s
  pub room : need_of (joined parts) ≤ room s
  pub numbers : end s + length (joined parts) ≤ most_number

fits_alone : (s : SpoolState) (a b : List Entry) → need_of (a ++ b) ≤ most_room s → need_of (a ++ b) ≤ room s → end s + length (a ++ b) ≤ most_number → Fits s a
fits_alone s a b small space numbers = record { small = omega (arith, small, text_join a b); numbers = omega (arith, numbers, length-append a b); place = inl (omega (arith, space, text_join a b)) }

fits_behind : (s : SpoolState) (a b : List Entry) → need_of (a ++ b) ≤ room s → end s + length (a ++ b) ≤ most_number → FitsOn (added s a) b
fits_behind s a b space numbers = record {
  group = omega (arith, length-append s.active.segment.groups (a ∷ []));
  room = omega (arith, space, text_join a b, length-segment_text-with_group s.active.segment a);
  numbers = omega (arith, numbers, length-append a b, end-added s a);
}

-- ---- what a crash leaves meanwhile: the state or the group whole, and both stand on the way of the journal

pub stood_jointly : (s : SpoolState) (ids : Table) (records : List Record) (group : List Entry) (c : List ℕ) → Goes (desk_of s [] ids) records (desk_of (added s group) [] ids) → StandsForOne s (added s group ∷ []) c → Stood (desk_of s [] ids) records c
stood_jointly s ids records group c goes (inl before) = record { first = []; rest = records; parts = refl; found = desk_of s [] ids; goes = refl; stands = inl before }
stood_jointly s ids records group c goes (inr after) = record { first = records; rest = []; parts = sym (append-nil records); found = desk_of (added s group) [] ids; goes = goes; stands = inl after }

pub stood_failed : (s : SpoolState) (ids : Table) (records : List Record) (group : List Entry) (c : List ℕ) → Goes (desk_of s [] ids) records (desk_of s (added s group ∷ []) ids) → StandsForOne s (added s group ∷ []) c → Stood (desk_of s [] ids) records c
stood_failed s ids records group c goes here = record { first = records; rest = []; parts = sym (append-nil records); found = desk_of s (added s group ∷ []) ids; goes = goes; stands = inl here }

-- The takes were answered at the moment of this clock.
module _ (clock : ℕ) where
  -- ---- where the disk didn't fail

  -- a part that goes on with a group, and then the others
  goes_part : (s : SpoolState) (ids : Table) (at : Standing) (by : ℕ) (entries : List Entry) (parts : List Part) → at ≡ standing_of s → 1 ≤ length entries → All IsEntry entries → FitsOn s (entries ++ joined parts)
      → (next : Standing) → next ≡ standing_with at (length entries) (length (entries_text entries))
      → Goes (desk_of (extended s entries) [] ids) (stored_from clock true next parts) (desk_of (extended (extended s entries) (joined parts)) [] ids)
      → Goes (desk_of s [] ids) (record { by = by; call = takes entries (Ok (record { first = at.end; count = length entries })); joins = true; met = Some at; after = next; clock = clock } ∷ stored_from clock true next parts) (desk_of (extended s (entries ++ joined parts)) [] ids)
  goes_part s ids at by [] parts is some limits fits next next_is rest = absurd (omega arith)
  goes_part s ids at by (entry ∷ entries) parts is some limits fits next next_is rest =
      let group = entry ∷ entries in
      let first = fits_first s group (joined parts) fits in (
        desk_of (extended s group) [] ids,
        record {
          answers = (limits, s, record { one = refl; numbers = ap Some is }, (refl, first, ap (λ (n : Standing). n.end) is, refl, refl));
          after = next_is ∙ ap (λ (n : Standing). standing_with n (length group) (length (entries_text group))) is ∙ sym (standing_extended s group first);
        },
        subst (λ (t : SpoolState). Goes (desk_of (extended s group) [] ids) (stored_from clock true next parts) (desk_of t [] ids)) (extended_twice s group (joined parts)) rest,
      )

  -- the parts after the first go on with its group
  pub goes_on : (s : SpoolState) (ids : Table) (at : Standing) (parts : List Part) → at ≡ standing_of s → ArePartsOf parts → FitsOn s (joined parts) → Goes (desk_of s [] ids) (stored_from clock true at parts) (desk_of (extended s (joined parts)) [] ids)
  goes_on s ids at [] is parts fits = ap (λ (t : SpoolState). desk_of t [] ids) (extended_none s)
  goes_on s ids at (part ∷ parts) is all fits =
      let next = standing_with at (length part.entries) (length (entries_text part.entries)) in
      goes_part s ids at part.by part.entries parts is all.0 all.1 fits next refl
      (goes_on (extended s part.entries) ids next parts
      (ap (λ (n : Standing). standing_with n (length part.entries) (length (entries_text part.entries))) is ∙ sym (standing_extended s part.entries (fits_first s part.entries (joined parts) fits))) all.2 (fits_next s part.entries (joined parts) fits))

  goes_first : (s : SpoolState) (ids : Table) (by : ℕ) (entries : List Entry) (parts : List Part) → 1 ≤ length entries → All IsEntry entries
      → need_of (entries ++ joined parts) ≤ most_room s → need_of (entries ++ joined parts) ≤ room s → end s + length (entries ++ joined parts) ≤ most_number
      → (next : Standing) → next ≡ standing_with (standing_of s) (length entries) (need_of entries)
      → Goes (desk_of (added s entries) [] ids) (stored_from clock true next parts) (desk_of (extended (added s entries) (joined parts)) [] ids)
      → Goes (desk_of s [] ids) (record { by = by; call = takes entries (Ok (record { first = end s; count = length entries })); joins = false; met = Some (standing_of s); after = next; clock = clock } ∷ stored_from clock true next parts) (desk_of (added s (entries ++ joined parts)) [] ids)
  goes_first s ids by [] parts some limits small space numbers next next_is rest = absurd (omega arith)
  goes_first s ids by (entry ∷ entries) parts some limits small space numbers next next_is rest =
      let group = entry ∷ entries in
      let fits = fits_alone s group (joined parts) small space numbers in
      let less : need_of group ≤ room s = omega (arith, space, text_join group (joined parts)) in (
        desk_of (added s group) [] ids,
        record {
          answers = (limits, inr (s, finds_it s ids, ((fits, refl, refl), ap (λ (stages : List SpoolState). desk_of (last_of s stages) [] ids) (sym (adding_here s group less)))));
          after = next_is ∙ sym (standing_added s group);
        },
        subst (λ (t : SpoolState). Goes (desk_of (added s group) [] ids) (stored_from clock true next parts) (desk_of t [] ids)) (extended_added s group (joined parts)) rest,
      )

  -- The parts were stored as one group: that is a journal of their takes.
  pub jointly : (s : SpoolState) (ids : Table) (part : Part) (parts : List Part) → ArePartsOf (part ∷ parts) → FitsAll s (part ∷ parts) → Goes (desk_of s [] ids) (stored_from clock false (standing_of s) (part ∷ parts)) (desk_of (added s (joined (part ∷ parts))) [] ids)
  jointly s ids part parts all fits =
      let next = standing_with (standing_of s) (length part.entries) (need_of part.entries) in
      goes_first s ids part.by part.entries parts all.0 all.1 fits.small fits.room fits.numbers next refl
      (goes_on (added s part.entries) ids next parts (sym (standing_added s part.entries)) all.2 (fits_behind s part.entries (joined parts) fits.room fits.numbers))

  -- ---- where it did

  fails_part : (s m : SpoolState) (ids : Table) (at stay : Standing) (by : ℕ) (entries : List Entry) (parts : List Part) → at ≡ standing_of m → stay ≡ standing_of s → 1 ≤ length entries → All IsEntry entries → FitsOn m (entries ++ joined parts)
      → (next : Standing)
      → Goes (desk_of s (extended m entries ∷ []) ids) (failed_from clock true stay next parts) (desk_of s (extended (extended m entries) (joined parts) ∷ []) ids)
      → Goes (desk_of s (m ∷ []) ids) (record { by = by; call = takes entries (Err Take.DiskFault); joins = true; met = Some at; after = stay; clock = clock } ∷ failed_from clock true stay next parts) (desk_of s (extended m (entries ++ joined parts) ∷ []) ids)
  fails_part s m ids at stay by [] parts is stays some limits fits next rest = absurd (omega arith)
  fails_part s m ids at stay by (entry ∷ entries) parts is stays some limits fits next rest =
      let group = entry ∷ entries in (
        desk_of s (extended m group ∷ []) ids,
        record { answers = (limits, m, record { one = inr refl; numbers = ap Some is }, (refl, fits_first m group (joined parts) fits, refl)); after = stays },
        subst (λ (t : SpoolState). Goes (desk_of s (extended m group ∷ []) ids) (failed_from clock true stay next parts) (desk_of s (t ∷ []) ids)) (extended_twice m group (joined parts)) rest,
      )

  pub fails_on : (s m : SpoolState) (ids : Table) (at stay : Standing) (parts : List Part) → at ≡ standing_of m → stay ≡ standing_of s → ArePartsOf parts → FitsOn m (joined parts) → Goes (desk_of s (m ∷ []) ids) (failed_from clock true stay at parts) (desk_of s (extended m (joined parts) ∷ []) ids)
  fails_on s m ids at stay [] is stays parts fits = ap (λ (t : SpoolState). desk_of s (t ∷ []) ids) (extended_none m)
  fails_on s m ids at stay (part ∷ parts) is stays all fits =
      let next = standing_with at (length part.entries) (length (entries_text part.entries)) in
      fails_part s m ids at stay part.by part.entries parts is stays all.0 all.1 fits next
      (fails_on s (extended m part.entries) ids next stay parts
      (ap (λ (n : Standing). standing_with n (length part.entries) (length (entries_text part.entries))) is ∙ sym (standing_extended m part.entries (fits_first m part.entries (joined parts) fits))) stays all.2 (fits_next m part.entries (joined parts) fits))

  fails_first : (s : SpoolState) (ids : Table) (by : ℕ) (entries : List Entry) (parts : List Part) → 1 ≤ length entries → All IsEntry entries
      → need_of (entries ++ joined parts) ≤ most_room s → need_of (entries ++ joined parts) ≤ room s → end s + length (entries ++ joined parts) ≤ most_number → (next : Standing)
      → Goes (desk_of s (added s entries ∷ []) ids) (failed_from clock true (standing_of s) next parts) (desk_of s (extended (added s entries) (joined parts) ∷ []) ids)
      → Goes (desk_of s [] ids) (record { by = by; call = takes entries (Err Take.DiskFault); joins = false; met = Some (standing_of s); after = standing_of s; clock = clock } ∷ failed_from clock true (standing_of s) next parts) (desk_of s (added s (entries ++ joined parts) ∷ []) ids)
  fails_first s ids by [] parts some limits small space numbers next rest = absurd (omega arith)
  fails_first s ids by (entry ∷ entries) parts some limits small space numbers next rest =
      let group = entry ∷ entries in
      let less : need_of group ≤ room s = omega (arith, space, text_join group (joined parts)) in (
        desk_of s (added s group ∷ []) ids,
        record { answers = (limits, inr (s, finds_it s ids, (fits_alone s group (joined parts) small space numbers, ap (λ (stages : List SpoolState). desk_of s stages ids) (sym (adding_here s group less))))); after = refl },
        subst (λ (t : SpoolState). Goes (desk_of s (added s group ∷ []) ids) (failed_from clock true (standing_of s) next parts) (desk_of s (t ∷ []) ids)) (extended_added s group (joined parts)) rest,
      )

  -- The disk failed while they were stored: all answers are that, and the doubt has one stage, the group whole.
  pub jointly_failed : (s : SpoolState) (ids : Table) (part : Part) (parts : List Part) → ArePartsOf (part ∷ parts) → FitsAll s (part ∷ parts)
      → Goes (desk_of s [] ids) (failed_from clock false (standing_of s) (standing_of s) (part ∷ parts)) (desk_of s (added s (joined (part ∷ parts)) ∷ []) ids)
  jointly_failed s ids part parts all fits =
      let next = standing_with (standing_of s) (length part.entries) (need_of part.entries) in
      fails_first s ids part.by part.entries parts all.0 all.1 fits.small fits.room fits.numbers next
      (fails_on s (added s part.entries) ids next (standing_of s) parts (sym (standing_added s part.entries)) refl all.2 (fits_behind s part.entries (joined parts) fits.room fits.numbers))

  -- ---- how often the disk failed

  none_stored : (joins : Bool) (at : Standing) (parts : List Part) → failed_of (stored_from clock joins at parts) ≡ 0
  none_stored joins at [] = refl
  none_stored false at (part ∷ parts) = omega (arith, none_stored true (standing_with at (length part.entries) (need_of part.entries)) parts)
  none_stored true at (part ∷ parts) = omega (arith, none_stored true (standing_with at (length part.entries) (length (entries_text part.entries))) parts)

  none_joined : (stay at : Standing) (parts : List Part) → failed_of (failed_from clock true stay at parts) ≡ 0
  none_joined stay at [] = refl
  none_joined stay at (part ∷ parts) = omega (arith, none_joined stay (standing_with at (length part.entries) (length (entries_text part.entries))) parts)

  none_refused : (fault : TakeFault) (at : Standing) (parts : List Part) → (fault ≡ Take.DiskFault → ⊥) → failed_of (refused_from clock fault at parts) ≡ 0
  none_refused fault at [] other = refl
  none_refused Take.DiskFault at (part ∷ parts) other = absurd (other refl)
  none_refused (Take.TooLarge need most) at (part ∷ parts) other = omega (arith, none_refused (Take.TooLarge need most) at parts other)
  none_refused (Take.Spent end) at (part ∷ parts) other = omega (arith, none_refused (Take.Spent end) at parts other)
  none_refused (Take.Full need room) at (part ∷ parts) other = omega (arith, none_refused (Take.Full need room) at parts other)
  none_refused (Take.NotSpool place) at (part ∷ parts) other = omega (arith, none_refused (Take.NotSpool place) at parts other)
  none_refused Take.NoMemory at (part ∷ parts) other = omega (arith, none_refused Take.NoMemory at parts other)

  -- one change of the disk failed, or none
  pub counts_once : (result : Result Receipt TakeFault) (at : Standing) (part : Part) (parts : List Part)
      → ((failed_of (joint_of result clock at (part ∷ parts)) ≡ 0) × (IsErrOf result Take.DiskFault → ⊥)) ⊎ ((failed_of (joint_of result clock at (part ∷ parts)) ≡ 1) × IsErrOf result Take.DiskFault)
  counts_once (Ok receipt) at part parts = inl (none_stored false at (part ∷ parts), λ is. cc is)
  counts_once (Err Take.DiskFault) at part parts = inr (omega (arith, none_joined at (standing_with at (length part.entries) (need_of part.entries)) parts), refl)
  counts_once (Err (Take.TooLarge need most)) at part parts = inl (none_refused (Take.TooLarge need most) at (part ∷ parts) (λ is. cc is), λ is. cc is)
  counts_once (Err (Take.Spent end)) at part parts = inl (none_refused (Take.Spent end) at (part ∷ parts) (λ is. cc is), λ is. cc is)
  counts_once (Err (Take.Full need room)) at part parts = inl (none_refused (Take.Full need room) at (part ∷ parts) (λ is. cc is), λ is. cc is)
  counts_once (Err (Take.NotSpool place)) at part parts = inl (none_refused (Take.NotSpool place) at (part ∷ parts) (λ is. cc is), λ is. cc is)
  counts_once (Err Take.NoMemory) at part parts = inl (none_refused Take.NoMemory at (part ∷ parts) (λ is. cc is), λ is. cc is)
