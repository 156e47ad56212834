-- What skips leave of a spool: it is the same one, of which at most more numbers are known.
use Rattle.std.proofs.Common.{◌≡◌, ◌⊎◌, inl, inr, ℕ, List, [], ◌∷◌, refl}
use Rattle.std.specs.Prelude.{All, Ok, Err, Result, nat_le}
use Rattle.std.proofs.lemmas.Bool.{cond_both}
use Rattle.known_numbers.specs.declared.stretch.Stretch.{Stretch}
use Rattle.known_numbers.specs.Numbers.{marked}
use Rattle.edge_disk.specs.Disk.{Moment, IsLawful, LeavesOnly}
use Rattle.edge_disk.proofs.Moments.{weaker}
use Rattle.spool_state.specs.SpoolState.{SpoolState, list, numbers_of, Follows, IsSound}
use Rattle.spool_state.specs.Image.{StandsFor}
use Rattle.spool_state.proofs.Following.{follows_self}
use Rattle.spool_state.proofs.Registered.{with_marked, follows_marked}
use Rattle.spool_faults.specs.declared.fault.ConfirmFault.{ConfirmFault}
use Rattle.spool_faults.specs.declared.fault.ConfirmFault.TheVariants as Confirm
use Rattle.spool_answers.specs.Mark.{mark_stages}
use Rattle.spool_answers.specs.Stages.{IsMidway, known_stages, total_of}
use Rattle.desk_access.proofs.Stages.{cons_of, none_of}
use Rattle.notes.specs.declared.note.Note.{Note}
use Rattle.bridge_parts.specs.Run.{DiskRun, OutputRun}
use Rattle.bridge_skip.specs.Released.{only}
use Rattle.bridge_skip.specs.Skipped.{Skips}
use Rattle.bridge_skip.specs.SkipRun.{IsSkipRun, IsUnopened, SkipsFromDevice}
use Rattle.bridge_laws.specs.InOrder.{IsInOrder, IsUnmoved}
use Rattle.bridge_laws.proofs.JournalKnown.{left_is}
use Rattle.bridge_laws.proofs.Moving.{order_same, unmoved_same}

-- In the later state numbers may be known that weren't. Nothing else changed.
pub record HasMarked (s t : SpoolState) : Type 0 where
  pub follows : Follows s t
  pub list_same : list t ≡ list s
  pub run_same : t.run ≡ s.run

marked_self : (s : SpoolState) → IsSound s → HasMarked s s
marked_self s sound = record { follows = follows_self s sound.from_base; list_same = refl; run_same = refl }

-- each stage of a mark is so
known_marked : (s : SpoolState) (more : List Stretch) → IsSound s → All (HasMarked s) (known_stages s more)
known_marked s more sound =
    cond_both (nat_le (total_of (marked (numbers_of s) more)) (total_of (numbers_of s))) [] (with_marked s more ∷ []) (All (HasMarked s))
    (λ yes. none_of (HasMarked s))
    (λ no. cons_of (HasMarked s) (with_marked s more) []
    (record { follows = follows_marked s more sound; list_same = refl; run_same = refl }) (none_of (HasMarked s)))

-- So stands what is left of the device while a mark is made.
abbrev pub IsMarkedAt : SpoolState → List ℕ → Type 0
IsMarkedAt s c = (t : SpoolState) × StandsFor t c × HasMarked s t

stage_marked : (s : SpoolState) (stages : List SpoolState) (c : List ℕ) → IsSound s → All (HasMarked s) stages → IsMidway s stages c
    → IsMarkedAt s c
stage_marked s stages c sound all midway = left_is (HasMarked s) s stages c (marked_self s sound) all midway

mark_midway : (s : SpoolState) (more : List Stretch) (result : Result Unit ConfirmFault) (c : List ℕ) → IsSound s
    → IsMidway s (mark_stages s more result) c → IsMarkedAt s c
mark_midway s more (Ok done) c sound midway = stage_marked s (known_stages s more) c sound (known_marked s more sound) midway
mark_midway s more (Err Confirm.DiskFault) c sound midway = stage_marked s (known_stages s more) c sound (known_marked s more sound) midway
mark_midway s more (Err _) c sound midway = absurd midway

-- Something that is true of bytes that stand for a spool exactly where the spool is so, and stays so as numbers are marked.
module _ (Is : SpoolState → Type 0) (So : List ℕ → Type 0) (holds : (s : SpoolState) (c : List ℕ) → StandsFor s c → Is s → So c)
    (held : (s : SpoolState) (c : List ℕ) → StandsFor s c → So c → Is s) (stays : (s t : SpoolState) → HasMarked s t → Is s → Is t)
    (old new : Moment) (lawful : IsLawful old) (before : (c : List ℕ) → old.image c → So c) where
  unwritten : LeavesOnly old.image old new → LeavesOnly So old new
  unwritten leaves = weaker old.image So old new leaves before

  while_marked : (s : SpoolState) (stages : List SpoolState) → StandsFor s old.reads
      → ((c : List ℕ) → IsMidway s stages c → IsMarkedAt s c) → (c : List ℕ) → old.image c ⊎ IsMidway s stages c → So c
  while_marked s stages stood marks c (inl image) = before c image
  while_marked s stages stood marks c (inr midway) =
      let at = marks c midway in
      holds at.0 c at.1 (stays s at.0 at.2 (held s old.reads stood (before old.reads lawful.reads_image)))

  by_skips : (tells same : Type 0) (number : ℕ) (s : SpoolState) (output : OutputRun) (note : Note) → StandsFor s old.reads
      → Skips number s (record { tells = tells; old = old; new = new; same = same }) output note → LeavesOnly So old new
  by_skips tells same number s output note stood (inl none) = unwritten none.any_moment
  by_skips tells same number s output note stood (inr (one, here, inl stops)) = unwritten stops.any_moment
  by_skips tells same number s output note stood (inr (one, here, inr (printed, releases))) =
      let stages = mark_stages s (only number) releases.result in
      weaker (λ c. old.image c ⊎ IsMidway s stages c) So old new releases.any_moment
      (while_marked s stages stood (λ c midway. mark_midway s (only number) releases.result c stood.sound midway))

  by_done : (tells same : Type 0) (number : ℕ) (output : OutputRun) (note : Note) → tells
      → let disk : DiskRun = record { tells = tells; old = old; new = new; same = same } in
      IsUnopened disk output note ⊎ (tells → SkipsFromDevice number disk output note) → LeavesOnly So old new
  by_done tells same number output note told (inl unopened) = unwritten (unopened.any_moment told)
  by_done tells same number output note told (inr opened) =
      let from = opened told in by_skips tells same number from.state output note from.stood from.skips

  pub skip_leaves : (tells same : Type 0) (number : ℕ) (output : OutputRun) (note : Note) → tells
      → IsSkipRun number (record { tells = tells; old = old; new = new; same = same }) output note → LeavesOnly So old new
  skip_leaves tells same number output note told run = by_done tells same number output note told run.done

-- ---- the order of a spool's entries

pub order_marked : (s t : SpoolState) → HasMarked s t → IsInOrder s → IsInOrder t
order_marked s t marks is = order_same s t marks.list_same marks.run_same is

pub unmoved_marked : (s t : SpoolState) → HasMarked s t → IsUnmoved s → IsUnmoved t
unmoved_marked s t marks is = unmoved_same s t marks.list_same marks.run_same is
