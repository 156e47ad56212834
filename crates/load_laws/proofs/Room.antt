-- The spool of a load has room for all its events.
use Rattle.std.proofs.Common.{◌≡◌, inl, inr, ℕ, zero, suc, ◌+◌, ◌*◌, ◌<◌, ◌≤◌, Bool, true, false, nat_le, List, [], ◌∷◌, ◌++◌, length, refl, sym, ◌∙◌, ap, subst, arith, append_assoc, length-append}
use Rattle.std.specs.Prelude.{All, Option, Some, None, Ok, ◌==◌, ◌||◌}
use Rattle.std.proofs.lemmas.Bool.{cases_Bool, cases_eq, cond-false, cond-true, leb-false, ne_eqb, or_from}
use Rattle.std.proofs.lemmas.List.{append-nil}
use Rattle.std.proofs.lemmas.List.Elements.{All-head, All-nil, All-push, All-tail}
use Rattle.event_form.specs.Entry.{entry_text}
use Rattle.event_form.specs.declared.event.Entry.{Entry}
use Rattle.spool_state.specs.Change.{added, begun}
use Rattle.spool_state.specs.Free.{IsClosed, has_place, lowest_closed, or_else}
use Rattle.spool_state.specs.Segment.{entries_of, entries_text, head_text, need_of, segment_text, with_group}
use Rattle.spool_state.specs.SpoolState.{OpenSlot, SpoolState, base, entries_in, list, room}
use Rattle.spool_state.proofs.Begun.{base-begun, entries_in-push, list-begun}
use Rattle.spool_state.proofs.Frees.{none_closed}
use Rattle.spool_state.proofs.Texts.{entries_of-with_group, length-head_text, length-segment_text-with_group, list-added}
use Rattle.spool_answers.specs.Take.{Fits}
use Rattle.spool_answers.specs.Stages.{closed_stages, group_stages, last_of}
use Rattle.desk_access.specs.declared.standing.Standing.{Standing}
use Rattle.desk_access.specs.Call.{Call, NoneJoins, Record, calls_of, taken_by, taken_of, takes}
use Rattle.desk_access.specs.Desk.{Answers, DeskState, Goes}
use Rattle.desk_access.specs.Journal.{of_alone}
use Rattle.load_run.specs.Load.{new_spool}
use Rattle.ending_laws.proofs.Desk.{found_is, no_doubt}

-- ---- groups

-- a group of 1 to 256 entries that have at most 200 bytes each
pub record IsSmall (group : List Entry) : Type 0 where
  pub some : 0 < length group
  pub few : length group ≤ 256
  pub each : All (λ (e : Entry). length (entry_text e) ≤ 200) group

entries_short : (group : List Entry) → All (λ (e : Entry). length (entry_text e) ≤ 200) group → length (entries_text group) ≤ length group * 200
entries_short [] all = omega arith
entries_short (e ∷ group) all =
    let first : length (entry_text e) ≤ 200 = All-head (λ (x : Entry). length (entry_text x) ≤ 200) e group all in
    omega (arith, first, entries_short group (All-tail (λ (x : Entry). length (entry_text x) ≤ 200) e group all), length-append (entry_text e) (entries_text group))

-- ---- the spool after entries were taken

-- The spool of a load after these entries were taken, in small groups. A slot that isn't the active one was left full, so it has many
-- entries. The open slots have the lowest places.
pub record Packed (s : SpoolState) (taken : List Entry) : Type 0 where
  pub slots : s.slots ≡ 8
  pub size : s.size ≡ 4194304
  pub run : s.run ≡ 1
  pub cursor : s.cursor ≡ 0
  pub known : s.known ≡ []
  pub ordinal : s.ordinal ≡ 2
  pub base_is : base s ≡ 0
  pub list_is : list s ≡ taken
  pub active : s.active.place ≤ length s.older
  pub places : All (λ (slot : OpenSlot). slot.place ≤ length s.older) s.older
  pub filled : length s.older * 4143000 ≤ length (entries_in s.older) * 209
  pub held : length (segment_text s.active.segment) ≤ 17 + length (entries_of s.active.segment) * 209

pub new_packed : Packed new_spool []
new_packed = record {
  slots = refl;
  size = refl;
  run = refl;
  cursor = refl;
  known = refl;
  ordinal = refl;
  base_is = refl;
  list_is = refl;
  active = omega arith;
  places = All-nil (λ (slot : OpenSlot). slot.place ≤ 0);
  filled = omega arith;
  held = omega (arith, length-head_text 1 0, length-append (head_text 1 0) []);
}

-- where so many entries stand, few slots are open
open_few : (s : SpoolState) (taken : List Entry) → Packed s taken → length taken ≤ 110000 → length s.older ≤ 5
open_few s taken p few =
    omega (arith, few, p.filled, ap (λ (l : List Entry). length l) p.list_is, length-append (entries_in s.older) (entries_of s.active.segment))

has_none : (place : ℕ) (slots : List OpenSlot) → All (λ (slot : OpenSlot). slot.place < place) slots → has_place place slots ≡ false
has_none place [] all = refl
has_none place (slot ∷ slots) all =
    or_from (slot.place == place) (has_place place slots) (ne_eqb slot.place place (λ is. omega (arith, is, All-head (λ (x : OpenSlot). x.place < place) slot slots all)))
    (has_none place slots (All-tail (λ (x : OpenSlot). x.place < place) slot slots all))

abbrev is_taken : SpoolState → ℕ → Bool
is_taken s place = s.active.place == place || has_place place s.older

-- the place after those of the open slots
next_free : (s : SpoolState) (taken : List Entry) → Packed s taken → is_taken s (length s.older + 1) ≡ false
next_free s taken p =
    or_from (s.active.place == length s.older + 1) (has_place (length s.older + 1) s.older) (ne_eqb s.active.place (length s.older + 1) (λ is. omega (arith, is, p.active)))
    (has_none (length s.older + 1) s.older (λ k d lt. omega (arith, p.places k d lt)))

next_closed : (s : SpoolState) (taken : List Entry) → Packed s taken → length s.older ≤ 5 → IsClosed s (length s.older + 1)
next_closed s taken p few = record {
  within = omega (arith, few, p.slots);
  inactive = λ is. omega (arith, is, p.active);
  elsewhere = λ k d lt is. omega (arith, is, p.places k d lt);
}

-- ---- the place that is chosen

below_by : (n p : ℕ) (before : Option ℕ) (taken : Bool) → (before ≡ Some p → p < n) → or_else before taken n ≡ Some p → p < suc n
below_by n p (Some q) taken below is = omega (arith, below is)
below_by n p None true below is = absurd (cc)
below_by n p None false below is = let e : n ≡ p = cc in omega (arith, e)

found_below : (s : SpoolState) (n p : ℕ) → lowest_closed s n ≡ Some p → p < n
found_below s zero p is = absurd (cc)
found_below s (suc n) p is = below_by n p (lowest_closed s n) (is_taken s n) (found_below s n p) is

-- the one that is found below a number is no higher than one below it that isn't taken
found_low : (s : SpoolState) (n q : ℕ) → q < n → is_taken s q ≡ false → (p : ℕ) × (lowest_closed s n ≡ Some p) × (p ≤ q)
found_low s zero q lt free = absurd (omega (arith, lt))
found_low s (suc n) q lt free = elim (cases_eq q n) [
  | inl is ↦ here is (lowest_closed s n) refl
  | inr off ↦ (let r = found_low s n q (omega (arith, lt, off)) free in (r.0, ap (λ (o : Option ℕ). or_else o (is_taken s n) n) r.1, r.2))
]
  where
    here : q ≡ n → (found : Option ℕ) → lowest_closed s n ≡ found → (p : ℕ) × (lowest_closed s (suc n) ≡ Some p) × (p ≤ q)
    here is (Some p) at = (p, ap (λ (o : Option ℕ). or_else o (is_taken s n) n) at, omega (arith, is, found_below s n p at))
    here is None at =
        let open_at : is_taken s n ≡ false = subst (λ (k : ℕ). is_taken s k ≡ false) is free in
        (n, ap (λ (o : Option ℕ). or_else o (is_taken s n) n) at ∙ ap (λ (b : Bool). or_else None b n) open_at, omega (arith, is))

-- ---- one group more

added_packed : (s : SpoolState) (taken group : List Entry) → Packed s taken → IsSmall group → Packed (added s group) (taken ++ group)
added_packed s taken group p small =
    let more : length (entries_of (with_group s.active.segment group)) ≡ length (entries_of s.active.segment) + length group =
    ap (λ (l : List Entry). length l) (entries_of-with_group s.active.segment group) ∙ length-append (entries_of s.active.segment) group in
    record {
      slots = p.slots;
      size = p.size;
      run = p.run;
      cursor = p.cursor;
      known = p.known;
      ordinal = p.ordinal;
      base_is = p.base_is;
      list_is = list-added s group ∙ ap (λ (l : List Entry). l ++ group) p.list_is;
      active = p.active;
      places = p.places;
      filled = p.filled;
      held = omega (arith, p.held, length-segment_text-with_group s.active.segment group, more, small.some, entries_short group small.each);
    }

begun_packed : (s : SpoolState) (taken : List Entry) (place need : ℕ) → Packed s taken → place ≤ length s.older + 1 → need ≤ 51209 → room s < need → Packed (begun s place) taken
begun_packed s taken place need p low most full =
    let one_more : length (s.older ++ s.active ∷ []) ≡ length s.older + 1 = length-append s.older (s.active ∷ []) in
    let all : length (entries_in (s.older ++ s.active ∷ [])) ≡ length (entries_in s.older) + length (entries_of s.active.segment) =
    ap (λ (l : List Entry). length l) (entries_in-push s.older s.active) ∙ length-append (entries_in s.older) (entries_of s.active.segment) in
    record {
      slots = p.slots;
      size = p.size;
      run = p.run;
      cursor = p.cursor;
      known = p.known;
      ordinal = p.ordinal;
      base_is = base-begun s place ∙ p.base_is;
      list_is = list-begun s place ∙ p.list_is;
      active = omega (arith, low, one_more);
      places = All-push (λ (slot : OpenSlot). slot.place ≤ length (s.older ++ s.active ∷ [])) s.older s.active (λ k d lt. omega (arith, p.places k d lt, one_more)) (omega (arith, p.active, one_more));
      filled = omega (arith, one_more, all, p.filled, p.held, p.size, most, full);
      held = omega (arith, length-head_text (s.active.segment.ordinal + 1) (base s + length (list s)), length-append (head_text (s.active.segment.ordinal + 1) (base s + length (list s))) []);
    }

module _ (s : SpoolState) (taken group : List Entry) (p : Packed s taken) (small : IsSmall group) (few : length taken ≤ 110000) where
  need_low : need_of group ≤ 51209
  need_low = omega (arith, small.few, entries_short group small.each)

  pub small_fits : Fits s group
  small_fits = record {
    small = omega (arith, need_low, p.size);
    numbers = omega (arith, few, small.few, p.base_is, ap (λ (l : List Entry). length l) p.list_is);
    place = inr (length s.older + 1, inl (next_closed s taken p (open_few s taken p few)));
  }

  by_closed : room s < need_of group → (found : Option ℕ) → lowest_closed s s.slots ≡ found → Packed (last_of s (closed_stages found s group)) (taken ++ group)
  by_closed full None is = absurd (none_closed s is (length s.older + 1) (next_closed s taken p (open_few s taken p few)))
  by_closed full (Some place) is =
      let low = found_low s s.slots (length s.older + 1) (omega (arith, open_few s taken p few, p.slots)) (next_free s taken p) in
      let same : place ≡ low.0 = cc (is, low.1) in
      added_packed (begun s place) taken group (begun_packed s taken place (need_of group) p (omega (arith, same, low.2)) need_low full) small

  pub took_packed : Packed (last_of s (group_stages s group)) (taken ++ group)
  took_packed = elim (cases_Bool (nat_le (need_of group) (room s))) [
    | inl fits ↦ subst (λ (l : List SpoolState). Packed (last_of s l) (taken ++ group))
        (sym (cond-true (nat_le (need_of group) (room s)) (added s group ∷ []) (closed_stages (lowest_closed s s.slots) s group) fits))
        (added_packed s taken group p small)
    | inr full ↦ subst (λ (l : List SpoolState). Packed (last_of s l) (taken ++ group)) (sym (cond-false (nat_le (need_of group) (room s)) (added s group ∷ []) (closed_stages (lowest_closed s s.slots) s group) full))
        (by_closed (leb-false (need_of group) (room s) full) (lowest_closed s s.slots) refl)
  ]

-- ---- calls

-- each call took a small group
abbrev pub AreSmall : List Call → Type 0
AreSmall [] = Unit {0}
AreSmall (takes group (Ok receipt) ∷ calls) = IsSmall group × AreSmall calls
AreSmall (call ∷ calls) = ⊥

pub small_then : (xs ys : List Call) → AreSmall xs → AreSmall ys → AreSmall (xs ++ ys)
small_then [] ys small more = more
small_then (takes group (Ok receipt) ∷ xs) ys small more = (small.0, small_then xs ys small.1 more)
small_then (call ∷ xs) ys small more = absurd small

-- what the desk is after such calls: nothing is in doubt, and its ids are those from before
pub record IsPacked (x : DeskState) (taken : List Entry) (y : DeskState) : Type 0 where
  pub packed : Packed y.spool taken
  pub sure : y.doubt ≡ []
  pub ids : y.ids ≡ x.ids

one_packed : (x y : DeskState) (call : Call) (calls : List Call) (met : Option Standing) (taken : List Entry) → x.doubt ≡ [] → Packed x.spool taken → AreSmall (call ∷ calls) → length taken ≤ 110000 → Answers x call met y
    → IsPacked x (taken ++ taken_by call) y × AreSmall calls
one_packed x y (takes [] (Ok receipt)) calls met taken sure p small few answers = absurd (omega (arith, small.0.some))
one_packed x y (takes (entry ∷ entries) (Ok receipt)) calls met taken sure p small few (limits, inl stays) = absurd (no_doubt x y met stays.0 sure stays.2)
one_packed x y (takes (entry ∷ entries) (Ok receipt)) calls met taken sure p small few (limits, inr went) =
    let group : List Entry = entry ∷ entries in
    let is : y.spool ≡ last_of x.spool (group_stages x.spool group) = ap (λ (d : DeskState). d.spool) went.2.1 ∙ ap (λ (m : SpoolState). last_of m (group_stages m group)) (found_is x went.0 sure went.1.one) in (
      record {
        packed = subst (λ (m : SpoolState). Packed m (taken ++ group)) (sym is) (took_packed x.spool taken group p small.0 few);
        sure = ap (λ (d : DeskState). d.doubt) went.2.1;
        ids = ap (λ (d : DeskState). d.ids) went.2.1;
      },
      small.1,
    )
one_packed x y call calls met taken sure p small few answers = absurd small

pub goes_packed : (x y : DeskState) (records : List Record) (taken : List Entry) → NoneJoins records → x.doubt ≡ [] → Packed x.spool taken → AreSmall (calls_of records) → length taken + length (taken_of (calls_of records)) ≤ 110000 → Goes x records y
    → IsPacked x (taken ++ taken_of (calls_of records)) y
goes_packed x y [] taken alone sure p small few goes =
    subst (IsPacked x (taken ++ [])) (sym goes) (record { packed = subst (Packed x.spool) (sym (append-nil taken)) p; sure = sure; ids = refl })
goes_packed x y (one ∷ records) taken alone sure p small few goes =
    let call = one.call in
    let rest = calls_of records in
    let here = one_packed x goes.0 call rest one.met taken sure p small (omega (arith, few)) (of_alone one.joins x goes.0 call one.met alone.0 goes.1.answers) in
    let sum : length (taken ++ taken_by call) + length (taken_of rest) ≤ 110000 = omega (arith, few, length-append taken (taken_by call), length-append (taken_by call) (taken_of rest)) in
    let later = goes_packed goes.0 y records (taken ++ taken_by call) alone.1 here.0.sure here.0.packed here.1 sum goes.2 in
    record {
      packed = subst (Packed y.spool) (append_assoc taken (taken_by call) (taken_of rest)) later.packed;
      sure = later.sure;
      ids = later.ids ∙ here.0.ids;
    }
