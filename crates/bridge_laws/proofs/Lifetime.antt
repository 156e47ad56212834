-- From `format` on the order of a spool's entries holds.
use Rattle.std.proofs.Common.{◌≡◌, inl, inr, ℕ, List, [], ◌∷◌, sym, subst}
use Rattle.std.specs.Prelude.{All, map}
use Rattle.std.proofs.lemmas.List.Elements.{All-nil, All-cons}
use Rattle.edge_disk.specs.Disk.{IsLawful, LeavesOnly}
use Rattle.edge_disk.proofs.Moments.{started}
use Rattle.spool_state.specs.SpoolState.{SpoolState}
use Rattle.spool_state.specs.Image.{StandsFor}
use Rattle.spool_move.specs.Stands.{HasGivenUp}
use Rattle.conn_serve.specs.RunsOfOne.{RunsOfOne}
use Rattle.notes.specs.declared.note.Note.{Note}
use Rattle.bridge_parts.specs.Run.{Run, run_of}
use Rattle.bridge_laws.specs.InOrder.{IsInOrder, IsUnmoved, Holds, HoldsNoOther}
use Rattle.bridge_laws.specs.KeepsOrder.{AsksFormat, Keeps, KeepsOrder}
use Rattle.bridge_laws.specs.Lifetime.{AreNext, Coming, FromFormat, IsCalled, IsMovedInto, IsMovedOut, IsNext, IsOneCall, IsSkip}
use Rattle.bridge_laws.specs.Lifetime.{OrderHolds}
use Rattle.bridge_laws.specs.Lifetime.{anything, no_format, no_format_nor_move_into, no_move_into}
use Rattle.bridge_laws.specs.Told.{DiskKind, Telling, disk_told}
use Rattle.bridge_laws.proofs.Moving.{IsDisk, moved_into, moved_out, order_given, order_taken, unmoved_given}
use Rattle.bridge_laws.proofs.OrderOfCommands.{each_command_keeps_order, holds_none, holds_some, none_held, some_held}
use Rattle.bridge_laws.proofs.Skipping.{HasMarked, order_marked, skip_leaves, unmoved_marked}

-- ---- what a call leaves

module _ {D S K N P : Type 0} (tell : Telling D S K N P) (lawful : (disk : D) → tell.disk.tells → IsLawful (tell.disk.moment disk)) where
  -- what the run of a call told
  abbrev pub run_in : {Such : List (List ℕ) → Type 0} (old new : D) → IsCalled Such tell old new → Run
  run_in old new called =
      run_of (disk_told tell.disk old new) (tell.input called.input called.input') (tell.output called.output called.output')
      (tell.net called.net called.net') (map tell.door called.doors')

  -- a call that hands the disk back as it was given leaves what a crash could leave before
  pub untouched : (old new : D) → tell.disk.tells → new ≡ old
      → LeavesOnly (tell.disk.moment old).image (tell.disk.moment old) (tell.disk.moment new)
  untouched old new told same =
      let m = tell.disk.moment in
      subst (λ d. LeavesOnly (m old).image (m old) (m d)) (sym same) (started (m old).image (m old) (lawful old told) (λ image is. is))

  -- so does a skip, but for numbers that it marks
  pub skip_keeps : (Is : SpoolState → Type 0) (So : List ℕ → Type 0) (holds : (s : SpoolState) (c : List ℕ) → StandsFor s c → Is s → So c)
      (held : (s : SpoolState) (c : List ℕ) → StandsFor s c → So c → Is s) (stays : (s t : SpoolState) → HasMarked s t → Is s → Is t)
      (old new : D) → IsSkip tell old new → IsDisk So tell.disk old → LeavesOnly So (tell.disk.moment old) (tell.disk.moment new)
  skip_keeps Is So holds held stays old new skip before =
      skip_leaves Is So holds held stays (tell.disk.moment old) (tell.disk.moment new) (lawful old skip.told) before tell.disk.tells
      (new ≡ old)
      skip.number (tell.output skip.output skip.output') skip.note skip.told skip.is

-- ---- one after another

-- What each call with such words, each skip and each move keeps stays so.
module _ {D E S K N P : Type 0} (tell : Telling D S K N P) (other : DiskKind E) (coming : Coming) (Is : List ℕ → Type 0)
    (keeps : (old new : D) → IsOneCall coming.words tell old new → IsDisk Is tell.disk old
    → LeavesOnly Is (tell.disk.moment old) (tell.disk.moment new))
    (moves_out : (old new : D) → IsMovedOut tell other old new → IsDisk Is tell.disk old → IsDisk Is tell.disk new)
    (moves_into : coming.into → (old new : D) → IsMovedInto tell other old new → IsDisk Is tell.disk old → IsDisk Is tell.disk new) where
  pub next_is : (old new : D) → IsDisk Is tell.disk old → IsNext coming tell other old new → IsDisk Is tell.disk new
  next_is old new here (inl called) = (keeps old new called here).now
  next_is old new here (inr (inl left)) = λ c image. here c (left c image)
  next_is old new here (inr (inr (inl (mid, called, within)))) = λ c image. (keeps old mid called here).each c (within c image)
  next_is old new here (inr (inr (inr (inl out)))) = moves_out old new out here
  next_is old new here (inr (inr (inr (inr into)))) = moves_into into.0 old new into.1 here

  pub all_are : (disk : D) (later : List D) → IsDisk Is tell.disk disk → AreNext coming tell other disk later
      → All (IsDisk Is tell.disk) (disk ∷ later)
  all_are disk [] here next = All-cons (IsDisk Is tell.disk) disk [] here (All-nil (IsDisk Is tell.disk))
  all_are disk (new ∷ more) here (first, rest) =
      All-cons (IsDisk Is tell.disk) disk (new ∷ more) here (all_are new more (next_is disk new here first) rest)

-- ---- the law

module _ {D E S K N P : Type 0} (ones : RunsOfOne) (tell : Telling D S K N P) (other : DiskKind E)
    (lawful : (disk : D) → tell.disk.tells → IsLawful (tell.disk.moment disk))
    (lawful' : (disk : E) → other.tells → IsLawful (other.moment disk)) where
  -- each call keeps both kinds of order
  module _ (Such : List (List ℕ) → Type 0) (old new : D) (called : IsCalled Such tell old new) where
    abbrev run : Run
    run = run_in tell lawful old new called

    both : KeepsOrder IsInOrder called.words run called.note × KeepsOrder IsUnmoved called.words run called.note
    both = each_command_keeps_order ones run (lawful old) (untouched tell lawful old new) called.words called.note called.is called.told

  -- A kind of spool that each call, each move and each skip keeps, and what bytes have that hold such a spool.
  module _ (coming : Coming) (So : SpoolState → Type 0) (Is : List ℕ → Type 0) (from : (c : List ℕ) → Holds So c → Is c)
      (holds : (s : SpoolState) (c : List ℕ) → StandsFor s c → So s → Is c) (held : (s : SpoolState) (c : List ℕ) → StandsFor s c → Is c
      → So s)
      (given : (m s : SpoolState) (n : ℕ) → HasGivenUp m n s → So m → So s) (marks : (s t : SpoolState) → HasMarked s t → So s → So t)
      (calls : (old new : D) (called : IsCalled coming.words tell old new) → Keeps Is (tell.disk.moment old) (tell.disk.moment new))
      (moves_into : coming.into → (old new : D) → IsMovedInto tell other old new → IsDisk Is tell.disk old → IsDisk Is tell.disk new)
      (makes : (old new : D) (called : IsCalled (λ words. Unit {0}) tell old new) → AsksFormat called.words → called.note ≡ Note.Fine
      → IsDisk (Holds So) tell.disk new) where
    one_keeps : (old new : D) → IsOneCall coming.words tell old new → IsDisk Is tell.disk old
        → LeavesOnly Is (tell.disk.moment old) (tell.disk.moment new)
    one_keeps old new (inl called) here = calls old new called here
    one_keeps old new (inr skip) here = skip_keeps tell lawful So Is holds held marks old new skip here

    from_format : FromFormat tell other coming Is
    from_format before made later format asks fine next =
        all_are tell other coming Is one_keeps (moved_out tell other lawful lawful' So Is holds held given) moves_into
        made later (λ c image. from c (makes before made format asks fine c image)) next

  pub order_holds : OrderHolds tell other
  order_holds = record {
    none = from_format anything IsInOrder (HoldsNoOther IsInOrder) (λ c has. holds_none IsInOrder has.0 c has.1 has.2)
        (holds_none IsInOrder) (none_held IsInOrder) order_given order_marked
        (λ old new called. (both anything.words old new called).0.none)
        (λ may. moved_into tell other lawful lawful' IsInOrder (HoldsNoOther IsInOrder) (holds_none IsInOrder)
        (none_held IsInOrder) order_taken)
        (λ old new called. (both anything.words old new called).0.made);
    some = from_format no_format IsInOrder (Holds IsInOrder) (λ c has. has)
        (holds_some IsInOrder) (some_held IsInOrder) order_given order_marked
        (λ old new called. (both no_format.words old new called).0.some called.such)
        (λ may. moved_into tell other lawful lawful' IsInOrder (Holds IsInOrder) (holds_some IsInOrder) (some_held IsInOrder) order_taken)
        (λ old new called. (both anything.words old new called).0.made);
    none_unmoved = from_format no_move_into IsUnmoved (HoldsNoOther IsUnmoved) (λ c has. holds_none IsUnmoved has.0 c has.1 has.2)
        (holds_none IsUnmoved) (none_held IsUnmoved) unmoved_given unmoved_marked
        (λ old new called. (both anything.words old new called).1.none)
        (λ never. absurd never)
        (λ old new called. (both anything.words old new called).1.made);
    some_unmoved = from_format no_format_nor_move_into IsUnmoved (Holds IsUnmoved) (λ c has. has)
        (holds_some IsUnmoved) (some_held IsUnmoved) unmoved_given unmoved_marked
        (λ old new called. (both no_format.words old new called).1.some called.such)
        (λ never. absurd never)
        (λ old new called. (both anything.words old new called).1.made);
  }
