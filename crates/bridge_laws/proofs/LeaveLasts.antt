-- What is durable stays so over writes that had leave.
use Rattle.std.proofs.Common.{◌≡◌, ◌⊎◌, inl, inr, ℕ, ◌+◌, ◌-◌, ◌<◌, List, [], ◌∷◌, length, take, drop, ◌∙◌, ap, subst, arith, length-take}
use Rattle.std.proofs.Common.{length-drop}
use Rattle.std.specs.Prelude.{All}
use Rattle.std.proofs.Math.Logic.{∥∥₁_prop, ∥∥₁_elim, ∥∥₁_map}
use Rattle.std.proofs.lemmas.Bool.{cases_lt}
use Rattle.std.proofs.lemmas.List.Elements.{All-nil, All-cons, All-head, All-tail}
use Rattle.event_form.specs.declared.event.Entry.{Entry}
use Rattle.edge_disk.specs.Disk.{Moment}
use Rattle.spool_state.specs.SpoolState.{SpoolState, base, list, IsKnownIn, Follows}
use Rattle.spool_state.specs.Image.{StandsFor}
use Rattle.spool_state.proofs.Laws.{one_state}
use Rattle.desk_access.specs.Durable.{IsGroupKept}
use Rattle.desk_access.specs.Groups.{Group}
use Rattle.desk_access.specs.History.{IsKept, AreKept}
use Rattle.bridge_laws.specs.Leave.{AreTouched, DurableIsKept, IsKnownAt, IsTouched, LeaveLasts, LeaveReleases, last_disk}

-- what a spool keeps one that follows it keeps
pub kept_on : (s t : SpoolState) (number : ℕ) (entry : List Entry) → Follows s t → 0 < length entry → IsKept s number entry
    → IsKept t number entry
kept_on s t number entry follows some (inl below) = inl (omega (arith, below, follows.cursor))
kept_on s t number entry follows some (inr there) = elim (cases_lt number (base t)) [
  | inl gone ↦ inl (omega (arith, gone, follows.confirmed))
  | inr ge ↦ inr (follows.kept number ge
      (omega (
        arith,
        ge,
        some,
        follows.base_rises,
        ap length there,
        length-take 1 (drop (number - base s) (list s)),
        length-drop
            (number - base s) (list s),
      )) ∙ there)
]

group_on : (s t : SpoolState) (first : ℕ) (group : List Entry) → Follows s t → AreKept s first group → AreKept t first group
group_on s t first group follows kept =
    λ k lt. kept_on s t (first + k) (take 1 (drop k group)) follows (omega (arith, lt, length-take 1 (drop k group), length-drop k group))
    (kept k lt)

pub groups_on : (groups : List Group) (s t : SpoolState) → Follows s t → All (IsGroupKept s) groups → All (IsGroupKept t) groups
groups_on [] s t follows kept = All-nil (IsGroupKept t)
groups_on (group ∷ groups) s t follows kept =
    All-cons (IsGroupKept t) group groups (group_on s t group.first group.entries follows (All-head (IsGroupKept s) group groups kept))
    (groups_on groups s t follows (All-tail (IsGroupKept s) group groups kept))

-- what is so of each disk is so of the last
pub at_last : {D : Type 0} (P : D → Type 0) (disk : D) (later : List D) → All P (disk ∷ later) → P (last_disk disk later)
at_last P disk [] all = All-head P disk [] all
at_last P disk (next ∷ later) all = at_last P next later (All-tail P disk (next ∷ later) all)

-- what is durable is kept
pub durable_is_kept : {D : Type 0} (moment : D → Moment) → DurableIsKept moment
durable_is_kept moment disk groups durable = λ c image. ∣ durable c image ∣₁

-- Something that is so of a spool, and stays so in each state that follows, stays so over writes that had leave.
module _ {D : Type 0} (moment : D → Moment) (Release : ℕ → Type 0) (Is : SpoolState → Type 0)
    (stays : (s t : SpoolState) → Follows s t → Is s → Is t) where
  -- whatever a crash leaves now stands for a spool that is so
  abbrev IsSome : D → Type 0
  IsSome disk = (c : List ℕ) → (moment disk).image c → ∥ ((s : SpoolState) × StandsFor s c × Is s) ∥₁

  touched_next : (old new : D) → IsSome old → IsTouched moment Release old new → IsSome new
  touched_next old new here (inl untouched) = λ c image. here c (untouched.images c image)
  touched_next old new here (inr touched) = λ c image.
      let from = touched.3.images c image in
      ∥∥₁_elim (touched.2 from.0 c from.1 from.2) ∥∥₁_prop (λ one.
      let kept = one.2 in
      ∥∥₁_map (here one.0 one.1) (λ had.
      let is : had.0 ≡ kept.state = one_state had.0 kept.state one.0 had.1 kept.stands in
      (kept.later, kept.stands_later, stays kept.state kept.later kept.follows (subst Is is had.2))))

  pub touched_keep : (disk : D) (later : List D) → IsSome disk → AreTouched moment Release disk later → All IsSome (disk ∷ later)
  touched_keep disk [] here touched = All-cons IsSome disk [] here (All-nil IsSome)
  touched_keep disk (next ∷ later) here touched =
      All-cons IsSome disk (next ∷ later) here (touched_keep next later (touched_next disk next here touched.0) touched.1)

module _ {D : Type 0} (moment : D → Moment) (Release : ℕ → Type 0) where
  -- ---- groups

  pub leave_lasts : LeaveLasts moment Release
  leave_lasts disk later groups keep touched =
      touched_keep moment Release (λ s. All (IsGroupKept s) groups) (groups_on groups) disk later keep touched

  -- ---- known numbers

  -- what is known now was known before, or may become known
  abbrev OnlyReleased : D → ℕ → D → Type 0
  OnlyReleased disk number next = IsKnownAt (moment next) number → ∥ (IsKnownAt (moment disk) number ⊎ Release number) ∥₁

  known_next : (disk : D) (number : ℕ) (old new : D) → OnlyReleased disk number old → IsTouched moment Release old new
      → OnlyReleased disk number new
  known_next disk number old new only (inl untouched) = λ known. only (known.0, known.1, untouched.images known.0 known.2, known.3, known.4)
  known_next disk number old new only (inr touched) = λ known.
      let from = touched.3.images known.0 known.2 in
      ∥∥₁_elim (touched.2 from.0 known.0 from.1 from.2) ∥∥₁_prop (λ one.
      let kept = one.2 in
      let is : known.1 ≡ kept.later = one_state known.1 kept.later known.0 known.3 kept.stands_later in
      elim (kept.earned number (subst (λ (s : SpoolState). IsKnownIn s number) is known.4)) [
        | inl was ↦ only (one.0, kept.state, one.1, kept.stands, was)
        | inr may ↦ ∣ inr may ∣₁
      ])

  all_known : (disk : D) (number : ℕ) (here : D) (later : List D) → OnlyReleased disk number here → AreTouched moment Release here later
      → All (OnlyReleased disk number) (here ∷ later)
  all_known disk number here [] only touched = All-cons (OnlyReleased disk number) here [] only (All-nil (OnlyReleased disk number))
  all_known disk number here (next ∷ later) only touched =
      All-cons (OnlyReleased disk number) here (next ∷ later) only
      (all_known disk number next later (known_next disk number here next only touched.0) touched.1)

  pub leave_releases : LeaveReleases moment Release
  leave_releases disk later number touched = all_known disk number disk later (λ known. ∣ inl known ∣₁) touched
