-- What a journal made known: nothing but the numbers that its marks and confirms have.
use Rattle.std.proofs.Common.{◌≡◌, ◌⊎◌, inl, inr, ℕ, List, [], ◌∷◌, ◌++◌, refl, sym, subst, arith}
use Rattle.std.specs.Prelude.{All, Option, None, Some, Ok, Err, Result, nat_le}
use Rattle.std.proofs.lemmas.Bool.{cond_both}
use Rattle.known_numbers.specs.declared.stretch.Stretch.{Stretch}
use Rattle.known_numbers.specs.Numbers.{IsInSome, IsKnown, Numbers, marked}
use Rattle.known_numbers.proofs.Marking.{marked_only}
use Rattle.event_form.specs.declared.event.Entry.{Entry}
use Rattle.spool_state.specs.Change.{added, begun, shut}
use Rattle.spool_state.specs.Free.{is_confirmed, lowest_closed}
use Rattle.spool_state.specs.Image.{StandsFor}
use Rattle.spool_state.specs.Segment.{need_of}
use Rattle.spool_state.specs.SpoolState.{IsKnownIn, OpenSlot, SpoolState, numbers_of, room}
use Rattle.spool_state.proofs.Registered.{with_marked}
use Rattle.spool_faults.specs.declared.fault.ConfirmFault.{ConfirmFault}
use Rattle.spool_faults.specs.declared.fault.ConfirmFault.TheVariants as Confirm
use Rattle.spool_answers.specs.declared.receipt.Receipt.{Receipt}
use Rattle.spool_faults.specs.declared.fault.TakeFault.{TakeFault}
use Rattle.spool_faults.specs.declared.fault.TakeFault.TheVariants as Take
use Rattle.spool_answers.specs.Mark.{all_below, mark_stages}
use Rattle.spool_answers.specs.Stages.{IsMidway, IsOneOf, begin_stages, closed_stages, first_stages, group_stages, known_stages}
use Rattle.spool_answers.specs.Stages.{replace_stages, total_of}
use Rattle.spool_answers.specs.Take.{take_stages}
use Rattle.desk_access.specs.Call.{AreBy, Call, Record, confirms, marks, takes}
use Rattle.desk_access.specs.Desk.{DeskState, Goes, Stood, StandsWithin, changing}
use Rattle.desk_access.specs.History.{IsDesk}
use Rattle.desk_access.specs.Legal.{May}
use Rattle.desk_access.proofs.Lasting.{which_one}
use Rattle.desk_access.proofs.Stages.{cons_of, none_of, one_in}
use Rattle.desk_access.proofs.Steps.{allowed_later, one_later}
use Rattle.desk_access.specs.Division.{DividedRun}
use Rattle.spool_turns.specs.Replays.{MayMake}
use Rattle.session_laws.specs.Led.{KnowsBy, MarksIn}
use Rattle.session_laws.proofs.Leading.{back_as}

-- ---- the numbers that a call has

-- the call marks or confirms the number, or was refused to
abbrev pub Has : Call → ℕ → Type 0
Has (marks stretches result) n = IsInSome stretches n
Has (confirms upto result) n = IsInSome (all_below upto) n
Has call n = ⊥

-- a call of these records does
abbrev pub AnyHas : List Record → ℕ → Type 0
AnyHas [] n = ⊥
AnyHas (one ∷ records) n = Has one.call n ⊎ AnyHas records n

any_first : (first rest : List Record) (n : ℕ) → AnyHas first n → AnyHas (first ++ rest) n
any_first [] rest n any = absurd any
any_first (one ∷ first) rest n (inl here) = inl here
any_first (one ∷ first) rest n (inr more) = inr (any_first first rest n more)

any_next : (first : List Record) (one : Record) (more : List Record) (n : ℕ) → Has one.call n → AnyHas (first ++ one ∷ more) n
any_next [] one more n has = inl has
any_next (x ∷ first) one more n has = inr (any_next first one more n has)

-- In the later state no number is known but those that were known in the state, and those.
abbrev pub KnowsOnly : SpoolState → (ℕ → Type 0) → SpoolState → Type 0
KnowsOnly s Those t = (n : ℕ) → IsKnownIn t n → IsKnownIn s n ⊎ Those n

same_only : (s t : SpoolState) (Those : ℕ → Type 0) → numbers_of t ≡ numbers_of s → KnowsOnly s Those t
same_only s t Those same n known = inl (subst (λ (k : Numbers). IsKnown k n) same known)

marked_then : (s t : SpoolState) (more : List Stretch) → numbers_of t ≡ marked (numbers_of s) more → KnowsOnly s (IsInSome more) t
marked_then s t more same n known = marked_only (numbers_of s) more n (subst (λ (k : Numbers). IsKnown k n) same known)

marks_only : (s t : SpoolState) (more : List Stretch) (result : Result Unit ConfirmFault) → MarksIn s more result t → KnowsOnly s
    (IsInSome more) t
marks_only s t more (Ok done) is = marked_then s t more is
marks_only s t more (Err fault) (inl same) = same_only s t (IsInSome more) same
marks_only s t more (Err fault) (inr is) = marked_then s t more is

call_only : (s t : SpoolState) (call : Call) → KnowsBy s call t → KnowsOnly s (Has call) t
call_only s t (marks stretches result) knows = marks_only s t stretches result knows
call_only s t (confirms upto result) knows = marks_only s t (all_below upto) result knows
call_only s t call knows = same_only s t (Has call) knows

-- ---- after the records

-- A state of the desk led to this one, in which no number is known but those that were known in it, and those of the records.
abbrev Came : DeskState → List Record → SpoolState → Type 0
Came x records t = (m : SpoolState) × IsOneOf x.spool x.doubt m × KnowsOnly m (AnyHas records) t

goes_known : (x y : DeskState) (records : List Record) (t : SpoolState) → IsDesk x → Goes x records y → IsOneOf y.spool y.doubt t
    → Came x records t
goes_known x y [] t rules goes one = (t, subst (λ (d : DeskState). IsOneOf d.spool d.doubt t) goes one, λ n known. inl known)
goes_known x y (first ∷ records) t rules goes one =
    let z = goes.0 in
    let met = (allowed_later x z first rules goes.1).0 in
    let later = goes_known z y records t met goes.2 one in
    let m = later.0 in
    let back = back_as first.joins x z first.call first.met m rules (one_later z m met later.1).sound goes.1.answers later.1 in (
      back.from,
      back.one,
      λ n known. elim (later.2 n known) [
        | inr more ↦ inr (inr more)
        | inl was ↦ elim (call_only back.from m first.call back.did.knows n was) [ inl older ↦ inl older | inr has ↦ inr (inl has) ]
      ],
    )

-- ---- within a call

-- the stages of a take know the same numbers
abbrev KnowsSame : SpoolState → SpoolState → Type 0
KnowsSame s t = numbers_of t ≡ numbers_of s

begin_same : (s : SpoolState) (place : ℕ) (group : List Entry) → All (KnowsSame s) (begin_stages s place group)
begin_same s place group =
    cons_of (KnowsSame s) (begun s place) (added (begun s place) group ∷ []) refl
    (cons_of (KnowsSame s) (added (begun s place) group) [] refl (none_of (KnowsSame s)))

first_same : (s : SpoolState) (older : List OpenSlot) (group : List Entry) → All (KnowsSame s) (first_stages s older group)
first_same s [] group = none_of (KnowsSame s)
first_same s (slot ∷ rest) group =
    cond_both (is_confirmed s slot) (replace_stages s (slot ∷ rest) group) [] (All (KnowsSame s))
    (λ yes. cons_of (KnowsSame s) (shut s rest) (begin_stages (shut s rest) slot.place group) refl
    (begin_same (shut s rest) slot.place group))
    (λ no. none_of (KnowsSame s))

closed_same : (s : SpoolState) (place : Option ℕ) (group : List Entry) → All (KnowsSame s) (closed_stages place s group)
closed_same s (Some place) group = begin_same s place group
closed_same s None group = first_same s s.older group

group_same : (s : SpoolState) (group : List Entry) → All (KnowsSame s) (group_stages s group)
group_same s group =
    cond_both (nat_le (need_of group) (room s)) (added s group ∷ []) (closed_stages (lowest_closed s s.slots) s group) (All (KnowsSame s))
    (λ yes. cons_of (KnowsSame s) (added s group) [] refl (none_of (KnowsSame s)))
    (λ no. closed_same s (lowest_closed s s.slots) group)

-- something that a state and all stages of its change are, what is left in the midst of that is
pub left_is : (Is : SpoolState → Type 0) (s : SpoolState) (stages : List SpoolState) (c : List ℕ) → Is s → All Is stages
    → IsMidway s stages c
    → (t : SpoolState) × StandsFor t c × Is t
left_is Is s [] c here all midway = absurd midway
left_is Is s (first ∷ stages) c here all midway =
    let one = which_one s (first ∷ stages) c midway in
    (one.0, one.2, one_in Is s one.0 (first ∷ stages) here all one.1)

abbrev Within : SpoolState → (ℕ → Type 0) → List ℕ → Type 0
Within s Those c = (t : SpoolState) × StandsFor t c × KnowsOnly s Those t

group_within : (s : SpoolState) (group : List Entry) (Those : ℕ → Type 0) (c : List ℕ) → IsMidway s (group_stages s group) c
    → Within s Those c
group_within s group Those c midway =
    let same = left_is (KnowsSame s) s (group_stages s group) c refl (group_same s group) midway in
    (same.0, same.1, same_only s same.0 Those same.2)

take_within : (s : SpoolState) (group : List Entry) (result : Result Receipt TakeFault) (Those : ℕ → Type 0) (c : List ℕ)
    → IsMidway s (take_stages s group result) c → Within s Those c
take_within s group (Ok receipt) Those c midway = group_within s group Those c midway
take_within s group (Err Take.DiskFault) Those c midway = group_within s group Those c midway
take_within s group (Err _) Those c midway = absurd midway

known_only : (s : SpoolState) (more : List Stretch) → All (KnowsOnly s (IsInSome more)) (known_stages s more)
known_only s more =
    let Only = KnowsOnly s (IsInSome more) in
    cond_both (nat_le (total_of (marked (numbers_of s) more)) (total_of (numbers_of s))) [] (with_marked s more ∷ []) (All Only)
    (λ yes. none_of Only) (λ no. cons_of Only (with_marked s more) [] (marked_then s (with_marked s more) more refl) (none_of Only))

-- so it is of a mark
pub mark_within : (s : SpoolState) (more : List Stretch) (result : Result Unit ConfirmFault) (c : List ℕ)
    → IsMidway s (mark_stages s more result) c → Within s (IsInSome more) c
mark_within s more (Ok done) c midway =
    left_is (KnowsOnly s (IsInSome more)) s (known_stages s more) c (λ n known. inl known) (known_only s more) midway
mark_within s more (Err Confirm.DiskFault) c midway =
    left_is (KnowsOnly s (IsInSome more)) s (known_stages s more) c (λ n known. inl known) (known_only s more) midway
mark_within s more (Err _) c midway = absurd midway

call_within : (s : SpoolState) (call : Call) (c : List ℕ) → IsMidway s (changing s call) c → Within s (Has call) c
call_within s (takes (entry ∷ entries) result) c midway = take_within s (entry ∷ entries) result (λ n. ⊥) c midway
call_within s (marks stretches result) c midway = mark_within s stretches result c midway
call_within s (confirms upto result) c midway = mark_within s (all_below upto) result c midway
call_within s _ c midway = absurd midway

-- ---- at any moment

-- The bytes stand for a state in which no number is known but those that were known in a state of the desk, and those of the records.
pub record CameTo (x : DeskState) (records : List Record) (c : List ℕ) : Type 0 where
  pub state : SpoolState
  pub stands : StandsFor state c
  pub from : SpoolState
  pub one : IsOneOf x.spool x.doubt from
  pub only : KnowsOnly from (AnyHas records) state

came_on : (x : DeskState) (first rest : List Record) (c : List ℕ) (t : SpoolState) → StandsFor t c → Came x first t → CameTo x
    (first ++ rest) c
came_on x first rest c t stands came = record {
  state = t;
  stands = stands;
  from = came.0;
  one = came.1;
  only = λ n known. elim (came.2 n known) [ inl was ↦ inl was | inr any ↦ inr (any_first first rest n any) ];
}

came_within : (x y : DeskState) (first rest : List Record) (c : List ℕ) → IsDesk x → Goes x first y → StandsWithin y rest c → CameTo x
    (first ++ rest) c
came_within x y first [] c rules goes within = absurd within
came_within x y first (one ∷ rest) c rules goes within =
    let m = within.0 in
    let came = goes_known x y first m rules goes within.1.one in
    let stage = call_within m one.call c within.3 in
    record {
      state = stage.0;
      stands = stage.1;
      from = came.0;
      one = came.1;
      only = λ n known. elim (stage.2 n known) [
        | inr has ↦ inr (any_next first one rest n has)
        | inl was ↦ elim (came.2 n was) [ inl older ↦ inl older | inr any ↦ inr (any_first first (one ∷ rest) n any) ]
      ];
    }

pub stood_known : (x : DeskState) (records : List Record) (c : List ℕ) → IsDesk x → Stood x records c → CameTo x records c
stood_known x records c rules h = subst (λ (l : List Record). CameTo x l c) (sym h.parts) (elim h.stands [
  | inl here ↦
      let one = which_one h.found.spool h.found.doubt c here in
      came_on x h.first h.rest c one.0 one.2 (goes_known x h.found h.first one.0 rules h.goes one.1)
  | inr within ↦ came_within x h.found h.first h.rest c rules h.goes within
])

-- ---- a caller that may neither mark nor confirm

none_has : (run : DividedRun) (own : List Call) (call : Call) (n : ℕ) → May run 1 0 own call → Has call n → ⊥
none_has run own (marks stretches result) n may has = absurd (omega (arith, may))
none_has run own (confirms upto result) n may has = absurd (omega (arith, may))
none_has run own call n may has = has

pub unmarked : (run : DividedRun) (own calls : List Call) (records : List Record) → MayMake run 1 0 own calls → AreBy 0 calls records
    → (n : ℕ) → AnyHas records n → ⊥
unmarked run own [] [] may by n any = any
unmarked run own [] (one ∷ records) may by n any = absurd by
unmarked run own (call ∷ calls) [] may by n any = any
unmarked run own (call ∷ calls) (one ∷ records) may by n (inl has) =
    none_has run own call n may.0 (subst (λ (c : Call). Has c n) by.1 has)
unmarked run own (call ∷ calls) (one ∷ records) may by n (inr more) = unmarked run (own ++ call ∷ []) calls records may.1 by.3 n more
