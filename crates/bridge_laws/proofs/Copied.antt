-- A copy that a move stored stays in its target.
use Rattle.std.proofs.Common.{◌≡◌, inr, ℕ, ◌+◌, ◌-◌, ◌≤◌, suc, List, [], ◌∷◌, length, take, drop, refl, sym, subst, arith}
use Rattle.std.specs.Prelude.{All, Any, not}
use Rattle.std.specs.List.{Contains}
use Rattle.std.proofs.lemmas.List.Elements.{All-nil, All-cons, All-contains, All-filter, All-weaker}
use Rattle.event_form.specs.declared.event.Entry.{Entry}
use Rattle.edge_disk.specs.Disk.{IsLawful, Moment}
use Rattle.spool_state.specs.SpoolState.{SpoolState, base, list, entry_at, numbers_of}
use Rattle.spool_state.specs.Image.{StandsFor}
use Rattle.spool_state.specs.Left.{NumberedEntry, is_known, left, numbered}
use Rattle.spool_move.specs.Leave.{IsKept as IsCopied}
use Rattle.spool_move.specs.Moved.{IsCopy}
use Rattle.bridge_laws.specs.Copied.{CopyLasts, IsCopyKept, KeepsCopy}
use Rattle.bridge_laws.specs.Told.{DiskKind, Telling}
use Rattle.bridge_laws.proofs.LeaveLasts.{kept_on}
use Rattle.bridge_laws.proofs.StaysDurable.{all_some}

-- the entry stands in the list, at the place of its number
abbrev StandsAt : ℕ → List Entry → NumberedEntry → Type 0
StandsAt first entries one = (first ≤ one.number) × (take 1 (drop (one.number - first) entries) ≡ one.entry ∷ [])

numbered_stand : (first : ℕ) (entries : List Entry) → All (StandsAt first entries) (numbered first entries)
numbered_stand first [] = All-nil (StandsAt first [])
numbered_stand first (entry ∷ entries) =
    let none : 0 ≡ first - first = omega arith in
    All-cons (StandsAt first (entry ∷ entries)) (record { number = first; entry = entry }) (numbered (first + 1) entries)
    (omega arith, subst (λ (k : ℕ). take 1 (drop k (entry ∷ entries)) ≡ entry ∷ []) none refl)
    (All-weaker (StandsAt (first + 1) entries) (StandsAt first (entry ∷ entries)) (λ one at.
    let next : suc (one.number - (first + 1)) ≡ one.number - first = omega (arith, at.0) in
    (omega (arith, at.0), subst (λ (k : ℕ). take 1 (drop k (entry ∷ entries)) ≡ one.entry ∷ []) next at.1))
    (numbered (first + 1) entries) (numbered_stand (first + 1) entries))

left_stands : (s : SpoolState) (one : NumberedEntry) → Contains (left s) one → entry_at s one.number ≡ one.entry ∷ []
left_stands s one here =
    let At = StandsAt (base s) (list s) in
    (All-contains At (left s) one
    (All-filter (λ e. not (is_known (numbers_of s) e.number)) At (numbered (base s) (list s)) (numbered_stand (base s) (list s))) here).1

-- the target keeps the copy that it has
copied_there : (tag : ℕ) (one : NumberedEntry) (m : Moment) (d : List ℕ) → m.image d → (t : SpoolState) → StandsFor t d
    → Any (λ there. IsCopy tag one there.entry) (left t) → KeepsCopy tag one m t
copied_there tag one m d image t stands (place, there, within, is, copy) =
    let here : Contains (left t) there = (place, within, is) in (
      record { bytes = d; image = image; state = t; stands = stands; copy = there; pending = here; is_copy = copy },
      inr (left_stands t there here),
    )

copied_kept : (tag : ℕ) (one : NumberedEntry) (m : Moment) → IsCopied tag one m → IsCopyKept tag one m m
copied_kept tag one m copied = λ d image.
    let has = copied d image in ∣ (has.0, has.1, copied_there tag one m d image has.0 has.1 has.2) ∣₁

pub copy_lasts : {D E S K N P : Type 0} (tell : Telling D S K N P) (other : DiskKind E) (Release : ℕ → Type 0)
    (lawful : (disk : D) → tell.disk.tells → IsLawful (tell.disk.moment disk))
    (lawful' : (disk : E) → other.tells → IsLawful (other.moment disk)) → CopyLasts tell other Release
copy_lasts tell other Release lawful lawful' target later tag one copied next =
    let m = tell.disk.moment target in
    all_some tell other Release lawful lawful' (KeepsCopy tag one m)
    (λ s t follows keeps. (keeps.0, kept_on s t keeps.0.copy.number (keeps.0.copy.entry ∷ []) follows (omega arith) keeps.1)) (λ s keeps. keeps)
    target later (copied_kept tag one m copied) next
