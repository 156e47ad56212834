-- Each command keeps the order of a spool's entries.
use Rattle.std.proofs.Common.{◌≡◌, ◌⊎◌, inl, inr, ℕ, ◌+◌, ◌*◌, ◌^◌, List, [], refl, sym, subst, arith}
use Rattle.std.specs.Prelude.{Option, None, Some}
use Rattle.edge_disk.specs.Disk.{Moment, IsLawful, LeavesOnly}
use Rattle.edge_disk.proofs.Moments.{weaker}
use Rattle.spool_state.specs.SpoolState.{SpoolState}
use Rattle.spool_state.specs.Image.{StandsFor}
use Rattle.spool_state.specs.Empty.{empty_state}
use Rattle.spool_state.proofs.Laws.{one_state, stands_unbroken}
use Rattle.spool_log.specs.Making.Format.{IsFormatStep}
use Rattle.edge_io.specs.declared.proto.Proto.{Proto}
use Rattle.edge_io.specs.declared.proto.Proto.TheVariants.{Relp, Lumberjack, Hec}
use Rattle.event_form.specs.declared.talk.Talk.{Talk}
use Rattle.hec_session.specs.declared.tokens.Tokens.{Tokens}
use Rattle.desk_access.specs.declared.division.Division.TheVariants.{Workers}
use Rattle.desk_access.specs.Division.{DividedRun, divided}
use Rattle.desk_access.specs.Batch.{Belongs}
use Rattle.desk_access.specs.Call.{Call}
use Rattle.conn_serve.specs.Done.{AreBytes}
use Rattle.conn_serve.specs.Serves.{CarriedAs}
use Rattle.conn_serve.specs.Terms.{terms_with}
use Rattle.conn_serve.specs.RunsOfOne.{RunsOfOne}
use Rattle.spool_turns.specs.Replays.{MayMake}
use Rattle.forward_core.specs.declared.outward.Outward.{Outward}
use Rattle.bridge_words.specs.declared.command.Command.{Command}
use Rattle.bridge_words.specs.declared.command.Command.TheVariants.{Format, List as ListCommand, Replay, Drain, Load, Serve}
use Rattle.bridge_words.specs.declared.command.Server.{Server}
use Rattle.notes.specs.declared.note.Note.{Note}
use Rattle.bridge_words.specs.Words.{IsCommand, IsNoCommand, IsSomeCommand}
use Rattle.bridge_words.proofs.Once.{one_command}
use Rattle.bridge_parts.specs.Receivers.{outward_of}
use Rattle.bridge_parts.specs.Run.{Run, both_run}
use Rattle.bridge_core.specs.Done.{Does, IsUndone}
use Rattle.bridge_core.specs.RunOf.{IsRunOf}
use Rattle.commands.specs.Drained.{SendsThere, Streams}
use Rattle.commands.specs.Formatted.{Formats}
use Rattle.commands.specs.Replayed.{ServesInput, replay_rules}
use Rattle.bridge_serve.specs.Served.{IsServed}
use Rattle.bridge_laws.specs.InOrder.{IsInOrder, IsUnmoved, Holds, HoldsNoOther, DeskOpensLegal}
use Rattle.bridge_laws.specs.KeepsOrder.{AsksFormat, EachCommandKeepsOrder, Keeps, KeepsOrder}
use Rattle.bridge_laws.proofs.InOrder.{IsKept, opens_legal, order_is_kept, unmoved_is_kept}
use Rattle.bridge_laws.proofs.KeepsOrder.{unwritten, unopened, opened_only, served, stored, looked, unread, session}
use Rattle.bridge_laws.proofs.ReplayCalls.{relp_may, hec_may}
use Rattle.bridge_laws.proofs.LumberCalls.{lumber_may}

-- ---- what bytes hold

module _ (Is : SpoolState → Type 0) where
  pub holds_some : (s : SpoolState) (c : List ℕ) → StandsFor s c → Is s → Holds Is c
  holds_some s c stands is = (s, stands, is)

  pub some_held : (s : SpoolState) (c : List ℕ) → StandsFor s c → Holds Is c → Is s
  some_held s c stands has = subst Is (one_state has.0 s c has.1 stands) has.2

  pub holds_none : (s : SpoolState) (c : List ℕ) → StandsFor s c → Is s → HoldsNoOther Is c
  holds_none s c stands is t other = subst Is (one_state s t c stands other) is

  pub none_held : (s : SpoolState) (c : List ℕ) → StandsFor s c → HoldsNoOther Is c → Is s
  none_held s c stands has = has s stands

-- ---- the desk that is opened

pub desk_opens_legal : (tells : Type 0) (m : Moment) → (tells → IsLawful m) → DeskOpensLegal tells m
desk_opens_legal tells m lawful order x is = opens_legal is.1 (order m.reads (lawful is.0).reads_image is.1 is.2) x is.4

-- ---- the commands

while_formatted : (Is : SpoolState → Type 0) → IsKept Is → (slots size : ℕ) (m : Moment) → ((c : List ℕ) → m.image c → HoldsNoOther Is c)
    → (c : List ℕ) → IsFormatStep slots size m c → HoldsNoOther Is c
while_formatted Is kept slots size m before c (inl image) = before c image
while_formatted Is kept slots size m before c (inr (inl no_name)) =
    λ s stands. absurd (stands_unbroken s c stands 0 (inl (refl, (λ named. no_name named.name))))
while_formatted Is kept slots size m before c (inr (inr made)) = holds_none Is (empty_state slots size) c made (kept.empty slots size)

-- the connection of a replay is the first of its run
pub is_first : (run conn : ℕ) → conn ≡ run * 2 ^ 32 → Belongs (divided Workers run) 0 conn
is_first run conn is = record { few = omega arith; from = omega (arith, is); below = omega (arith, is) }

pub replay_may : RunsOfOne → (proto : Proto) (tokens : Tokens) (run : DividedRun) (conn : ℕ) (left : Option (List ℕ)) (b : List ℕ) (calls : List Call) (text : List ℕ) (talk : Talk) → AreBytes b → Belongs run 0 conn → CarriedAs proto (terms_with tokens) conn left b calls text talk
    → MayMake run 1 0 [] calls
replay_may ones Relp tokens run conn left b calls text talk bytes belongs c =
    relp_may run conn left b calls text talk belongs (ones.carried conn left b calls text talk c)
replay_may ones Lumberjack tokens run conn left b calls text talk bytes belongs c =
    lumber_may run conn left b calls text talk bytes belongs c
replay_may ones Hec tokens run conn left b calls text talk bytes belongs c = hec_may tokens run conn left b calls text talk belongs c

module _ (ones : RunsOfOne) (run : Run) (told : run.disk.tells) (lawful : IsLawful run.disk.old) (Is : SpoolState → Type 0)
    (kept : IsKept Is) (P : List ℕ → Type 0) (holds : (s : SpoolState) (c : List ℕ) → StandsFor s c → Is s → P c)
    (held : (s : SpoolState) (c : List ℕ) → StandsFor s c → P c → Is s)
    (before : (c : List ℕ) → run.disk.old.image c → P c) where
  by_stream : (outward : Outward) (note : Note) → Streams outward run.disk run.input run.output note
      → LeavesOnly P run.disk.old run.disk.new
  by_stream outward note (inl done) =
      unread Is kept P holds held run.disk.old run.disk.new lawful before run.disk.tells run.disk.same note done.0 told
  by_stream outward note (inr (inl done)) = looked Is kept P holds held run.disk.old run.disk.new lawful before _ (done.0 told)
  by_stream outward note (inr (inr done)) =
      session Is kept P holds held run.disk.old run.disk.new lawful before outward run.disk.tells run.disk.same
      (both_run run.input run.output) done.tally done.sent done.session told

  by_place : (outward : Outward) (place : List ℕ) (note : Note) → SendsThere outward place run.disk run.net run.output note
      → LeavesOnly P run.disk.old run.disk.new
  by_place outward place note (inl done) =
      unread Is kept P holds held run.disk.old run.disk.new lawful before run.disk.tells run.disk.same note done.0 told
  by_place outward place note (inr (inl done)) = looked Is kept P holds held run.disk.old run.disk.new lawful before _ (done.idle told)
  by_place outward place note (inr (inr (inl done))) =
      looked Is kept P holds held run.disk.old run.disk.new lawful before _ (done.pending told)
  by_place outward place note (inr (inr (inr done))) =
      session Is kept P holds held run.disk.old run.disk.new lawful before outward run.disk.tells run.disk.same done.link done.tally
      done.sent done.session told

  by_serve : (server : Server) (note : Note) → IsServed server run.disk run.output run.net run.doors note
      → LeavesOnly P run.disk.old run.disk.new
  by_serve server note (inl done) = unopened Is kept P holds held run.disk.old run.disk.new lawful before run.disk.tells note done.0 told
  by_serve server note (inr (inl done)) = opened_only Is kept P holds held run.disk.old run.disk.new lawful before (done.0.opened told)
  by_serve server note (inr (inr done)) = served Is kept P holds held run.disk.old run.disk.new lawful before run.disk.tells run.disk.same _ _ _ _ done.ran.over told

  by_replay : (proto : Proto) (token ack_token : Option ℕ) (note : Note) → ServesInput (replay_rules proto token ack_token) run.disk
      (both_run run.input run.output) note → LeavesOnly P run.disk.old run.disk.new
  by_replay proto token ack_token note done =
      let serves = done.served.serves in
      let is = serves.made told in
      stored Is kept P holds held run.disk.old run.disk.new lawful before done.conn serves.calls is (replay_may ones proto (record { token = token; ack_token = ack_token; listed = [] }) (divided Workers (is.state.run + 1)) done.conn run.input.left_after serves.bytes serves.calls serves.text _ serves.are_bytes (is_first (is.state.run + 1) done.conn is.conn_is) serves.carried)

  module _ (same : run.disk.same → LeavesOnly run.disk.old.image run.disk.old run.disk.new) (words : List (List ℕ)) (note : Note)
      (whole : IsRunOf words run note) where
    as_before : run.disk.same → LeavesOnly P run.disk.old run.disk.new
    as_before is = unwritten Is kept P holds held run.disk.old run.disk.new lawful before (same is)

    by_command : (command : Command) → IsCommand command words → (AsksFormat words → ⊥) → IsUndone run note ⊎ Does command run note
        → LeavesOnly P run.disk.old run.disk.new
    by_command command asks never (inl undone) = as_before undone.1.disk.same
    by_command (Format slots size) asks never (inr does) = absurd (never (slots, size, asks))
    by_command (ListCommand form) asks never (inr does) =
        unwritten Is kept P holds held run.disk.old run.disk.new lawful before (does.0.any_moment told)
    by_command (Replay proto token ack_token) asks never (inr does) = elim does.0.replayed [
      | inl unopen ↦ unopened Is kept P holds held run.disk.old run.disk.new lawful before run.disk.tells note unopen.0 told
      | inr replayed ↦ by_replay proto token ack_token note replayed
    ]
    by_command (Drain receiver None) asks never (inr does) = by_stream (outward_of receiver) note does.0.drained
    by_command (Drain receiver (Some place)) asks never (inr does) = by_place (outward_of receiver) place note does.0.drained
    by_command (Load proto number count) asks never (inr does) = as_before does.1.same
    by_command (Serve server) asks never (inr does) = by_serve server note does.0

-- ---- all of them

abbrev is_format : Command → Type 0
is_format (Format slots size) = Unit {0}
is_format command = ⊥

-- words of another command don't ask for `format`
not_format : (command : Command) (words : List (List ℕ)) → (is_format command → ⊥) → IsCommand command words → AsksFormat words → ⊥
not_format command words other asks (slots, size, is) =
    other (subst is_format (sym (one_command command (Format slots size) words asks is)) tt)

module _ (ones : RunsOfOne) (Is : SpoolState → Type 0) (kept : IsKept Is) (run : Run) (lawful : run.disk.tells → IsLawful run.disk.old)
    (same : run.disk.tells → run.disk.same → LeavesOnly run.disk.old.image run.disk.old run.disk.new)
    (words : List (List ℕ)) (note : Note) (whole : IsRunOf words run note) (told : run.disk.tells) where
  -- `format` is the one call during which a crash may leave no spool
  none_by : IsSomeCommand words ⊎ (IsNoCommand words ⊎ IsUndone run note) → Keeps (HoldsNoOther Is) run.disk.old run.disk.new
  none_by (inr (inr undone)) before =
      unwritten Is kept (HoldsNoOther Is) (holds_none Is) (none_held Is) run.disk.old run.disk.new (lawful told) before
      (same told undone.1.disk.same)
  none_by (inr (inl none)) before =
      unwritten Is kept (HoldsNoOther Is) (holds_none Is) (none_held Is) run.disk.old run.disk.new (lawful told) before
      (same told (whole.unchanged none).disk.same)
  none_by (inl (command, asks)) before = by command asks (whole.done command asks) where
    by : (c : Command) → IsCommand c words → IsUndone run note ⊎ Does c run note → LeavesOnly (HoldsNoOther Is) run.disk.old run.disk.new
    by c is (inl undone) =
        unwritten Is kept (HoldsNoOther Is) (holds_none Is) (none_held Is) run.disk.old run.disk.new (lawful told) before
        (same told undone.1.disk.same)
    by (Format slots size) is (inr does) =
        weaker (IsFormatStep slots size run.disk.old) (HoldsNoOther Is) run.disk.old run.disk.new (does.0.any_moment told)
        (while_formatted Is kept slots size run.disk.old before)
    by c is (inr does) =
        by_command ones run told (lawful told) Is kept (HoldsNoOther Is) (holds_none Is) (none_held Is) before
        (same told) words note whole c is (not_format c words (λ never. never) is) (inr does)

  some_by : IsSomeCommand words ⊎ (IsNoCommand words ⊎ IsUndone run note) → (AsksFormat words → ⊥)
      → Keeps (Holds Is) run.disk.old run.disk.new
  some_by (inr (inr undone)) never before =
      unwritten Is kept (Holds Is) (holds_some Is) (some_held Is) run.disk.old run.disk.new (lawful told) before
      (same told undone.1.disk.same)
  some_by (inr (inl none)) never before =
      unwritten Is kept (Holds Is) (holds_some Is) (some_held Is) run.disk.old run.disk.new (lawful told) before
      (same told (whole.unchanged none).disk.same)
  some_by (inl (command, asks)) never before =
      by_command ones run told (lawful told) Is kept (Holds Is) (holds_some Is) (some_held Is) before
      (same told) words note whole command asks never (whole.done command asks)

  -- `format` that ended well
  formatted : (slots size : ℕ) (n : Note) → n ≡ Note.Fine → Formats slots size run.disk run.output n → (c : List ℕ) → run.disk.new.image c
      → Holds Is c
  formatted slots size n fine is c image =
      let made = subst (Formats slots size run.disk run.output) fine is in
      (empty_state slots size, made.empty told c image, kept.empty slots size)

  made_by : AsksFormat words → note ≡ Note.Fine → (c : List ℕ) → run.disk.new.image c → Holds Is c
  made_by (slots, size, asks) fine c image = elim (whole.done (Format slots size) asks) [
    | inl undone ↦ absurd (cc (fine, undone.0))
    | inr does ↦ formatted slots size note fine does.0.formatted c image
  ]

  keeps : KeepsOrder Is words run note
  keeps = record { none = none_by whole.which; some = some_by whole.which; made = made_by }

pub each_command_keeps_order : RunsOfOne → (run : Run) → (run.disk.tells → IsLawful run.disk.old)
    → (run.disk.tells → run.disk.same → LeavesOnly run.disk.old.image run.disk.old run.disk.new) → EachCommandKeepsOrder run
each_command_keeps_order ones run lawful same words note whole told =
    let order = keeps ones IsInOrder order_is_kept run lawful same words note whole told in
    let unmoved = keeps ones IsUnmoved unmoved_is_kept run lawful same words note whole told in
    (order, unmoved)
