-- What is durable stays so, whatever call of `bridge`, whatever move and whatever skip comes.
use Rattle.std.proofs.Common.{◌⊎◌, inl, inr, ℕ, List, [], ◌∷◌, sym, subst}
use Rattle.std.specs.Prelude.{All, None, Some}
use Rattle.std.proofs.Math.Logic.{∥∥₁_map}
use Rattle.std.proofs.lemmas.List.Elements.{All-nil, All-cons}
use Rattle.edge_disk.specs.Disk.{IsLawful, LeavesOnly}
use Rattle.edge_disk.proofs.Moments.{weaker}
use Rattle.spool_state.specs.SpoolState.{Follows, SpoolState}
use Rattle.spool_state.specs.Image.{StandsFor}
use Rattle.spool_state.proofs.Laws.{one_state}
use Rattle.spool_log.specs.declared.fault.RecoverFault.{RecoverFault}
use Rattle.spool_log.specs.declared.fault.RecoverFault.TheVariants as Recover
use Rattle.spool_log.specs.declared.opening.Opening.TheVariants.{Raise}
use Rattle.spool_log.specs.Opening.{opened, IsOpening, IsRefusing}
use Rattle.desk_access.specs.Call.{Call, Record}
use Rattle.desk_access.specs.Desk.{DeskState, Stood}
use Rattle.desk_access.specs.Durable.{IsGroupKept}
use Rattle.desk_access.specs.Groups.{Group}
use Rattle.desk_access.specs.History.{IsDesk, IsLater}
use Rattle.desk_access.proofs.Lasting.{stood_was}
use Rattle.conn_serve.specs.declared.rules.Rules.{Rules}
use Rattle.forward_core.specs.declared.outward.Outward.{Outward}
use Rattle.bridge_words.specs.declared.command.Command.{Command}
use Rattle.bridge_words.specs.declared.command.Command.TheVariants.{Format, List as ListCommand, Replay, Drain, Load, Serve}
use Rattle.bridge_words.specs.declared.command.Server.{Server}
use Rattle.bridge_words.specs.Words.{IsCommand, IsNoCommand, IsSomeCommand}
use Rattle.notes.specs.declared.note.Note.{Note}
use Rattle.bridge_parts.specs.Opened.{desk_in, IsUnopened}
use Rattle.bridge_parts.specs.Receivers.{outward_of}
use Rattle.bridge_parts.specs.Run.{Run, both_run}
use Rattle.bridge_parts.proofs.Desks.{desk_rules}
use Rattle.commands.specs.Drained.{IsSent, SendsThere, Streams, Tally}
use Rattle.commands.specs.Replayed.{ServesInput, replay_rules}
use Rattle.bridge_serve.specs.Served.{IsServed}
use Rattle.bridge_core.specs.Done.{Does, IsUndone}
use Rattle.bridge_core.specs.RunOf.{IsRunOf}
use Rattle.bridge_laws.specs.KeepsOrder.{AsksFormat}
use Rattle.bridge_laws.specs.InOrder.{Holds}
use Rattle.bridge_laws.specs.Lifetime.{AreNext, IsMovedInto, IsMovedOut, IsNext, IsOneCall, no_format}
use Rattle.bridge_laws.specs.Told.{DiskKind, Telling}
use Rattle.bridge_laws.specs.Cut.{IsNextOrCut, AreNextOrCut}
use Rattle.bridge_laws.specs.Durable.{DurableLasts, KeptLasts}
use Rattle.bridge_laws.proofs.KeepsOrder.{opened_sound}
use Rattle.bridge_laws.proofs.LeaveLasts.{at_last, groups_on, touched_keep}
use Rattle.bridge_laws.proofs.Lifetime.{all_are, next_is, run_in, skip_keeps, untouched}
use Rattle.bridge_laws.proofs.Moving.{IsDisk, moved_into, moved_out}

-- Something that stays so of a spool, in each later state and as it is opened.
module _ (Is : SpoolState → Type 0) (So : List ℕ → Type 0) (holds : (s : SpoolState) (c : List ℕ) → StandsFor s c → Is s → So c)
    (held : (s : SpoolState) (c : List ℕ) → StandsFor s c → So c → Is s)
    (stays : (s t : SpoolState) → IsLater s t → Is s → Is t)
    (raises : (s : SpoolState) → Is s → Is (opened Raise s))
    (run : Run) (told : run.disk.tells) (lawful : IsLawful run.disk.old) (before : (c : List ℕ) → run.disk.old.image c → So c) where
  abbrev Only : Type 0
  Only = LeavesOnly So run.disk.old run.disk.new

  stood_before : (s : SpoolState) → StandsFor s run.disk.old.reads → Is s
  stood_before s stands = held s run.disk.old.reads stands (before run.disk.old.reads lawful.reads_image)

  unwritten : LeavesOnly run.disk.old.image run.disk.old run.disk.new → Only
  unwritten leaves = weaker run.disk.old.image So run.disk.old run.disk.new leaves before

  while_opened : (c : List ℕ) → IsOpening Raise run.disk.old c → So c
  while_opened c (inl image) = before c image
  while_opened c (inr (s, stood, inl here)) = holds s c here (stood_before s stood)
  while_opened c (inr (s, stood, inr raised)) = holds (opened Raise s) c raised (raises s (stood_before s stood))

  while_refused : (fault : RecoverFault) (c : List ℕ) → IsRefusing Raise fault run.disk.old c → So c
  while_refused (Recover.NotSpool at) c image = before c image
  while_refused (Recover.RunsSpent run) c image = before c image
  while_refused (Recover.Worn ordinal) c image = before c image
  while_refused Recover.DiskFault c opening = while_opened c opening
  while_refused Recover.NoMemory c image = before c image

  while_called : (x : DeskState) (records : List Record) → IsDesk x → Is x.spool → (c : List ℕ) → Stood x records c → So c
  while_called x records rules is c stood =
      let w = stood_was x records c rules stood in holds w.state c w.stands (stays x.spool w.state w.later is)

  unopened : (note : Note) → IsUnopened run.disk.tells run.disk.old run.disk.new note → Only
  unopened note is =
      weaker (IsRefusing Raise is.fault run.disk.old) So run.disk.old run.disk.new (is.any_moment told) (while_refused is.fault)

  by_sent : (tally : Tally) (start until : ℕ) (calls : List Call) → IsSent run.disk tally start until calls → Only
  by_sent tally start until calls is =
      weaker _ So run.disk.old run.disk.new is.any_moment (λ c h. elim h [
        | inl image ↦ before c image
        | inr stood ↦ while_called (desk_in is.state) is.reached.records (desk_rules is.state is.stood.sound)
            (stood_before is.state is.stood) c stood
      ])

  by_stream : (outward : Outward) (note : Note) → Streams outward run.disk run.input run.output note → Only
  by_stream outward note (inl done) = unwritten (done.0.any_moment told)
  by_stream outward note (inr (inl done)) = unwritten (done.0 told).any_moment
  by_stream outward note (inr (inr done)) = by_sent _ _ _ _ (done.session.session.forwards.made told)

  by_place : (outward : Outward) (place : List ℕ) (note : Note) → SendsThere outward place run.disk run.net run.output note → Only
  by_place outward place note (inl done) = unwritten (done.0.any_moment told)
  by_place outward place note (inr (inl done)) = unwritten (done.idle told).any_moment
  by_place outward place note (inr (inr (inl done))) = unwritten (done.pending told).any_moment
  by_place outward place note (inr (inr (inr done))) = by_sent _ _ _ _ (done.session.session.forwards.made told)

  by_replay : (rules : Rules) (note : Note) → ServesInput rules run.disk (both_run run.input run.output) note → Only
  by_replay rules note done =
      let is = done.served.serves.made told in
      let s = is.state in
      weaker _ So run.disk.old run.disk.new is.any_moment (λ c h. elim h [
        | inl opening ↦ while_opened c opening
        | inr stood ↦ while_called (desk_in (opened Raise s)) is.reached.records
            (desk_rules (opened Raise s) (opened_sound s is.stood.sound is.could))
            (raises s (stood_before s is.stood)) c stood
      ])

  by_serve : (server : Server) (note : Note) → IsServed server run.disk run.output run.net run.doors note → Only
  by_serve server note (inl done) = unopened note done.0
  by_serve server note (inr (inl done)) =
      weaker (IsOpening Raise run.disk.old) So run.disk.old run.disk.new (done.0.opened told).any_moment while_opened
  by_serve server note (inr (inr done)) =
      let over = done.ran.over in
      let opening = over.opened told in
      let x = opening.0 in
      let is = opening.1 in
      weaker _ So run.disk.old run.disk.new (over.any_moment x is) (λ c h. elim h [
        | inl image ↦ while_opened c image
        | inr stood ↦ while_called x over.served.log (over.served.closes.replays.begins x is).rules
            (subst (λ (d : DeskState). Is d.spool) (sym is.4) (raises is.1 (stood_before is.1 is.2))) c stood
      ])

  module _ (same : run.disk.same → LeavesOnly run.disk.old.image run.disk.old run.disk.new) (words : List (List ℕ)) (note : Note) where
    by_command : (command : Command) → IsCommand command words → (AsksFormat words → ⊥) → IsUndone run note ⊎ Does command run note → Only
    by_command command asks never (inl undone) = unwritten (same undone.1.disk.same)
    by_command (Format slots size) asks never (inr does) = absurd (never (slots, size, asks))
    by_command (ListCommand form) asks never (inr does) = unwritten (does.0.any_moment told)
    by_command (Replay proto token ack_token) asks never (inr does) = elim does.0.replayed [
      | inl unopen ↦ unopened note unopen.0
      | inr replayed ↦ by_replay (replay_rules proto token ack_token) note replayed
    ]
    by_command (Drain receiver None) asks never (inr does) = by_stream (outward_of receiver) note does.0.drained
    by_command (Drain receiver (Some place)) asks never (inr does) = by_place (outward_of receiver) place note does.0.drained
    by_command (Load proto number count) asks never (inr does) = unwritten (same does.1.same)
    by_command (Serve server) asks never (inr does) = by_serve server note does.0

    pub by_words : IsRunOf words run note → (AsksFormat words → ⊥) → IsSomeCommand words ⊎ (IsNoCommand words ⊎ IsUndone run note) → Only
    by_words whole never (inl (command, asks)) = by_command command asks never (whole.done command asks)
    by_words whole never (inr (inl none)) = unwritten (same (whole.unchanged none).disk.same)
    by_words whole never (inr (inr undone)) = unwritten (same undone.1.disk.same)

-- ---- over calls and crashes

module _ (Is : SpoolState → Type 0) where
  holds_one : (s : SpoolState) (c : List ℕ) → StandsFor s c → Is s → Holds Is c
  holds_one s c stands is = (s, stands, is)

  held_one : (s : SpoolState) (c : List ℕ) → StandsFor s c → Holds Is c → Is s
  held_one s c stands has = subst Is (one_state has.0 s c has.1 stands) has.2

-- Something that is so of a spool stays so over calls, skips and moves, one after another, if it does in each state that follows and as
-- the spool is opened.
module _ {D E S K N P : Type 0} (tell : Telling D S K N P) (other : DiskKind E)
    (lawful : (disk : D) → tell.disk.tells → IsLawful (tell.disk.moment disk))
    (lawful' : (disk : E) → other.tells → IsLawful (other.moment disk))
    (Is : SpoolState → Type 0) (So : List ℕ → Type 0) (holds : (s : SpoolState) (c : List ℕ) → StandsFor s c → Is s → So c)
    (held : (s : SpoolState) (c : List ℕ) → StandsFor s c → So c → Is s)
    (stays : (s t : SpoolState) → Follows s t → Is s → Is t) (raises : (s : SpoolState) → Is s → Is (opened Raise s)) where
  call_keeps : (old new : D) → IsOneCall no_format.words tell old new → IsDisk So tell.disk old
      → LeavesOnly So (tell.disk.moment old) (tell.disk.moment new)
  call_keeps old new (inl called) here =
      by_words Is So holds held (λ s t later. stays s t later.follows) raises
      (run_in tell lawful old new called) called.told (lawful old called.told) here (untouched tell lawful old new called.told)
      called.words called.note called.is called.such called.is.which
  call_keeps old new (inr skip) here = skip_keeps tell lawful Is So holds held (λ s t marks. stays s t marks.follows) old new skip here

  out_keeps : (old new : D) → IsMovedOut tell other old new → IsDisk So tell.disk old → IsDisk So tell.disk new
  out_keeps = moved_out tell other lawful lawful' Is So holds held (λ m s given gives. stays m s gives.follows)

  into_keeps : (old new : D) → IsMovedInto tell other old new → IsDisk So tell.disk old → IsDisk So tell.disk new
  into_keeps = moved_into tell other lawful lawful' Is So holds held (λ u t tag xs sound taken. stays u t taken.follows)

  pub next_keeps : (old new : D) → IsDisk So tell.disk old → IsNext no_format tell other old new → IsDisk So tell.disk new
  next_keeps = next_is tell other no_format So call_keeps out_keeps (λ may. into_keeps)

  pub all_keep : (disk : D) (later : List D) → IsDisk So tell.disk disk → AreNext no_format tell other disk later
      → All (IsDisk So tell.disk) (disk ∷ later)
  all_keep = all_are tell other no_format So call_keeps out_keeps (λ may. into_keeps)

abbrev AreAllKept : List Group → SpoolState → Type 0
AreAllKept groups s = All (IsGroupKept s) groups

pub durable_lasts : {D E S K N P : Type 0} (tell : Telling D S K N P) (other : DiskKind E)
    (lawful : (disk : D) → tell.disk.tells → IsLawful (tell.disk.moment disk))
    (lawful' : (disk : E) → other.tells → IsLawful (other.moment disk)) → DurableLasts tell other
durable_lasts tell other lawful lawful' disk later groups here next =
    all_keep tell other lawful lawful' (AreAllKept groups) (Holds (AreAllKept groups)) (holds_one (AreAllKept groups)) (held_one (AreAllKept groups))
    (groups_on groups) (λ s is. is) disk later here next

-- ---- over calls that were cut off, or never ended

-- The same where some of the calls were.
module _ {D E S K N P : Type 0} (tell : Telling D S K N P) (other : DiskKind E) (Release : ℕ → Type 0)
    (lawful : (disk : D) → tell.disk.tells → IsLawful (tell.disk.moment disk))
    (lawful' : (disk : E) → other.tells → IsLawful (other.moment disk))
    (Is : SpoolState → Type 0) (stays : (s t : SpoolState) → Follows s t → Is s → Is t)
    (raises : (s : SpoolState) → Is s → Is (opened Raise s)) where
  -- some state is so, where it isn't said which
  abbrev pub SomeHolds : List ℕ → Type 0
  SomeHolds c = ∥ Holds Is c ∥₁

  next_some : (old new : D) → IsDisk SomeHolds tell.disk old → IsNext no_format tell other old new → IsDisk SomeHolds tell.disk new
  next_some =
      next_keeps tell other lawful lawful' (λ s. ∥ Is s ∥₁) SomeHolds (λ s c stands is. ∥∥₁_map is (holds_one Is s c stands))
      (λ s c stands has. ∥∥₁_map has (held_one Is s c stands)) (λ s t follows is. ∥∥₁_map is (stays s t follows)) (λ s is. ∥∥₁_map is (raises s))

  step_some : (old new : D) → IsDisk SomeHolds tell.disk old → IsNextOrCut tell other Release old new → IsDisk SomeHolds tell.disk new
  step_some old new here (inl next) = next_some old new here next
  step_some old new here (inr cut) = λ c image.
      at_last (IsDisk SomeHolds tell.disk) old cut.touches
      (touched_keep tell.disk.moment Release Is stays old cut.touches here cut.touched) c (cut.left c image)

  pub all_some : (disk : D) (later : List D) → IsDisk SomeHolds tell.disk disk → AreNextOrCut tell other Release disk later
      → All (IsDisk SomeHolds tell.disk) (disk ∷ later)
  all_some disk [] here next = All-cons (IsDisk SomeHolds tell.disk) disk [] here (All-nil (IsDisk SomeHolds tell.disk))
  all_some disk (new ∷ more) here (first, rest) =
      All-cons (IsDisk SomeHolds tell.disk) disk (new ∷ more) here (all_some new more (step_some disk new here first) rest)

pub kept_lasts : {D E S K N P : Type 0} (tell : Telling D S K N P) (other : DiskKind E) (Release : ℕ → Type 0)
    (lawful : (disk : D) → tell.disk.tells → IsLawful (tell.disk.moment disk))
    (lawful' : (disk : E) → other.tells → IsLawful (other.moment disk)) → KeptLasts tell other Release
kept_lasts tell other Release lawful lawful' disk later groups here next =
    all_some tell other Release lawful lawful' (AreAllKept groups) (groups_on groups) (λ s is. is) disk later here next
