-- A group that goes on with more entries.
use Rattle.std.proofs.Common.{◌≡◌, ℕ, zero, suc, ◌+◌, ◌-◌, ◌<◌, ◌≤◌, List, [], ◌∷◌, ◌++◌, length, take, drop, flat_map, refl, sym, ◌∙◌, ap, arith, append_assoc, length-append}
use Rattle.std.specs.Prelude.{All}
use Rattle.std.proofs.lemmas.List.{append-nil, take-append-le, drop-append-le}
use Rattle.std.proofs.lemmas.List.Concat.{flat_map-append}
use Rattle.std.proofs.lemmas.List.Elements.{All-append}
use Rattle.std.proofs.lemmas.Grind.{common_steps}
use Rattle.event_form.specs.declared.event.Entry.{Entry}
use Rattle.event_form.specs.Entry.{IsEntry, entry_text}
use Rattle.spool_state.specs.Segment.{IsGroup, entries_of, entries_text, group_text, groups_text, head_text}
use Rattle.spool_state.specs.SpoolState.{SpoolState, entries_in, list, base, end, room, Follows, IsSound}
use Rattle.spool_state.specs.Change.{added}
use Rattle.spool_state.proofs.Adding.{end_later}
use Rattle.spool_state.proofs.Texts.{length-group_text}
use Rattle.desk_access.specs.Joint.{longer_last, extended, FitsOn}
use Rattle.desk_access.specs.History.{IsLater, Grown}

-- ---- the groups of a segment

pub longer_entries : (groups : List (List Entry)) (more : List Entry) → 0 < length groups → flat_map (λ g. g) (longer_last groups more) ≡ flat_map (λ g. g) groups ++ more
longer_entries [] more some = absurd (omega arith)
longer_entries (group ∷ []) more some = append-nil (group ++ more) ∙ ap (λ (l : List Entry). l ++ more) (sym (append-nil group))
longer_entries (group ∷ next ∷ groups) more some =
    ap (λ (l : List Entry). group ++ l) (longer_entries (next ∷ groups) more (omega arith)) ∙ sym (append_assoc group (flat_map (λ g. g) (next ∷ groups)) more)

pub longer_text : (groups : List (List Entry)) (more : List Entry) → 0 < length groups → length (groups_text (longer_last groups more)) ≡ length (groups_text groups) + length (entries_text more)
longer_text [] more some = absurd (omega arith)
longer_text (group ∷ []) more some =
    omega (arith, length-append (1 ∷ group_text (group ++ more)) [], length-append (1 ∷ group_text group) [], length-group_text (group ++ more), length-group_text group, ap length (flat_map-append entry_text group more), length-append (entries_text group) (entries_text more))
longer_text (group ∷ next ∷ groups) more some =
    omega (arith, length-append (1 ∷ group_text group) (groups_text (longer_last (next ∷ groups) more)), length-append (1 ∷ group_text group) (groups_text (next ∷ groups)), longer_text (next ∷ groups) more (omega arith))

pub longer_some : (groups : List (List Entry)) (more : List Entry) → length (longer_last groups more) ≡ length groups
longer_some [] more = refl
longer_some (group ∷ []) more = refl
longer_some (group ∷ next ∷ groups) more = omega (arith, longer_some (next ∷ groups) more)

-- the groups after the first
longer_cons : (group : List Entry) (groups : List (List Entry)) (more : List Entry) → 0 < length groups → longer_last (group ∷ groups) more ≡ group ∷ longer_last groups more
longer_cons group [] more some = absurd (omega arith)
longer_cons group (next ∷ groups) more some = refl

-- one time longer, and again
pub longer_twice : (groups : List (List Entry)) (more next : List Entry) → longer_last (longer_last groups more) next ≡ longer_last groups (more ++ next)
longer_twice [] more next = refl
longer_twice (group ∷ []) more next = ap (λ (l : List Entry). l ∷ []) (append_assoc group more next)
longer_twice (group ∷ other ∷ groups) more next =
    longer_cons group (longer_last (other ∷ groups) more) next (omega (arith, longer_some (other ∷ groups) more)) ∙ ap (λ (l : List (List Entry)). group ∷ l) (longer_twice (other ∷ groups) more next)

-- a group added, and then longer
pub longer_added : (groups : List (List Entry)) (group more : List Entry) → longer_last (groups ++ group ∷ []) more ≡ groups ++ (group ++ more) ∷ []
longer_added [] group more = refl
longer_added (first ∷ []) group more = refl
longer_added (first ∷ next ∷ groups) group more = ap (λ (l : List (List Entry)). first ∷ l) (longer_added (next ∷ groups) group more)

all_cons : (P : List Entry → Type 0) (group : List Entry) (groups : List (List Entry)) → P group → All P groups → All P (group ∷ groups)
all_cons P group groups here there zero d lt = here
all_cons P group groups here there (suc k) d lt = there k d (omega arith)

pub longer_groups : (groups : List (List Entry)) (more : List Entry) → All IsGroup groups → All IsEntry more → All IsGroup (longer_last groups more)
longer_groups [] more each limits = each
longer_groups (group ∷ []) more each limits =
    let first = each 0 group (omega arith) in
    all_cons IsGroup (group ++ more) [] (record { some = omega (arith, first.some, length-append group more); entries = All-append IsEntry group more first.entries limits }) (λ k d lt. absurd (omega arith))
longer_groups (group ∷ next ∷ groups) more each limits =
    all_cons IsGroup group (longer_last (next ∷ groups) more) (each 0 group (omega arith)) (longer_groups (next ∷ groups) more (λ k d lt. each (suc k) d (omega arith)) limits)

-- ---- a spool

pub extended_added : (s : SpoolState) (group more : List Entry) → extended (added s group) more ≡ added s (group ++ more)
extended_added s group more = λ i. record { slots = s.slots; size = s.size; run = s.run; cursor = s.cursor; known = s.known; ordinal = s.ordinal; older = s.older; active = record { place = s.active.place; segment = record { ordinal = s.active.segment.ordinal; first = s.active.segment.first; groups = longer_added s.active.segment.groups group more i } } }

pub extended_twice : (s : SpoolState) (more next : List Entry) → extended (extended s more) next ≡ extended s (more ++ next)
extended_twice s more next = λ i. record { slots = s.slots; size = s.size; run = s.run; cursor = s.cursor; known = s.known; ordinal = s.ordinal; older = s.older; active = record { place = s.active.place; segment = record { ordinal = s.active.segment.ordinal; first = s.active.segment.first; groups = longer_twice s.active.segment.groups more next i } } }

module _ (s : SpoolState) (more : List Entry) (fits : FitsOn s more) where
  pub list-extended : list (extended s more) ≡ list s ++ more
  list-extended = ap (λ (l : List Entry). entries_in s.older ++ l) (longer_entries s.active.segment.groups more fits.group) ∙ sym (append_assoc (entries_in s.older) (entries_of s.active.segment) more)

  pub end-extended : end (extended s more) ≡ end s + length more
  end-extended = omega (arith, ap length list-extended, length-append (list s) more)

  pub room-extended : room (extended s more) ≡ room s - length (entries_text more)
  room-extended =
      let head = head_text s.active.segment.ordinal s.active.segment.first in
      omega (arith, fits.room, longer_text s.active.segment.groups more fits.group, length-append head (groups_text s.active.segment.groups), length-append head (groups_text (longer_last s.active.segment.groups more)))

  pub grown_extended : Grown s more (extended s more)
  grown_extended = record {
    base_rises = omega arith;
    within = omega arith;
    list_is = list-extended ∙ sym (ap (λ (k : ℕ). drop k (list s ++ more)) (let none : base s - base s ≡ 0 = omega arith in none));
  }

  -- what stood at a place of a list stands there in a longer one
  kept_before : (i : ℕ) (xs ys : List Entry) → i < length xs → take 1 (drop i (xs ++ ys)) ≡ take 1 (drop i xs)
  kept_before i xs ys lt = ap (λ (l : List Entry). take 1 l) (drop-append-le i xs ys (omega arith)) ∙ take-append-le 1 (drop i xs) ys (grind (arith, common_steps))

  pub follows_extended : base s ≤ s.cursor → Follows s (extended s more)
  follows_extended from = record {
    run = omega arith;
    cursor = omega arith;
    known = λ n is. is;
    base_rises = omega arith;
    end_rises = omega (arith, end-extended);
    kept = λ n ge lt. ap (λ (l : List Entry). take 1 (drop (n - base s) l)) list-extended ∙ kept_before (n - base s) (list s) more (omega arith);
    confirmed = from;
  }

  pub sound-extended : IsSound s → All IsEntry more → IsSound (extended s more)
  sound-extended sound limits = record {
    some = sound.some;
    few = sound.few;
    large = sound.large;
    small = sound.small;
    run = sound.run;
    ordinal = sound.ordinal;
    older = sound.older;
    active = record { place = sound.active.place; groups = longer_groups s.active.segment.groups more sound.active.groups limits; early = sound.active.early };
    apart = sound.apart;
    apart_active = sound.apart_active;
    consecutive = sound.consecutive;
    ends = omega (arith, end-extended, fits.numbers);
    from_base = sound.from_base;
    to_end = omega (arith, end-extended, sound.to_end);
    known = sound.known;
    known_to_end = end_later (end s) (end (extended s more)) s.known (omega (arith, end-extended)) sound.known_to_end;
  }

  pub later_extended : IsSound s → All IsEntry more → IsLater s (extended s more)
  later_extended sound limits = record { sound = sound-extended sound limits; follows = follows_extended sound.from_base; slots = refl; size = refl; run = refl }
