-- Why a number is known as confirmed.
use Rattle.std.proofs.Common.{◌≡◌, ◌⊎◌, inl, inr, ℕ, ◌+◌, ◌-◌, ◌==◌, Bool, true, false, cond, List, [], ◌∷◌, length, refl, sym, ◌∙◌, ap, subst, arith}
use Rattle.std.specs.Prelude.{IsSome, None, Option, Some}
use Rattle.std.proofs.Math.Logic.{∥∥₁_elim, ∥∥₁_map, ∥∥₁_prop}
use Rattle.std.proofs.lemmas.Bool.{eq-eqb}
use Rattle.known_numbers.specs.Numbers.{IsInSome, IsKnown, Numbers}
use Rattle.edge_disk.specs.Disk.{Moment, IsLawful, LeavesOnly}
use Rattle.edge_disk.proofs.Moments.{weaker}
use Rattle.edge_io.specs.Door.{DoorState}
use Rattle.edge_io.specs.Net.{NetState}
use Rattle.edge_io.specs.declared.proto.Proto.{Proto}
use Rattle.spool_state.specs.SpoolState.{IsKnownIn, SpoolState}
use Rattle.spool_state.specs.Image.{StandsFor}
use Rattle.spool_state.proofs.Laws.{one_state}
use Rattle.spool_answers.specs.Mark.{mark_stages}
use Rattle.spool_answers.specs.Stages.{IsMidway}
use Rattle.spool_log.specs.declared.fault.RecoverFault.{RecoverFault}
use Rattle.spool_log.specs.declared.fault.RecoverFault.TheVariants as Recover
use Rattle.spool_log.specs.declared.opening.Opening.TheVariants.{Raise}
use Rattle.spool_log.specs.Opening.{IsOpening, IsRefusing, opened}
use Rattle.desk_access.specs.Call.{Call, Record, confirms, marks, own_of}
use Rattle.desk_access.specs.Desk.{DeskState, Stood}
use Rattle.desk_access.specs.History.{IsDesk}
use Rattle.conn_serve.specs.declared.rules.Rules.{Rules}
use Rattle.conn_serve.specs.RunsOfOne.{RunsOfOne}
use Rattle.serve_forwarder.specs.declared.destination.Destination.{Destination}
use Rattle.serve_run.specs.Running.{given_as}
use Rattle.session_laws.specs.Beside.{IsMarking, MarksAlone}
use Rattle.notes.specs.declared.note.Note.{Note}
use Rattle.bridge_words.specs.declared.command.Command.{Command}
use Rattle.bridge_words.specs.declared.command.Command.TheVariants.{Drain, Format, List as ListCommand, Load, Replay, Serve}
use Rattle.bridge_words.specs.declared.command.Relay.{Relay}
use Rattle.bridge_words.specs.declared.command.Server.{Server}
use Rattle.bridge_words.specs.Words.{IsCommand, IsNoCommand, IsSomeCommand}
use Rattle.bridge_parts.specs.Opened.{IsUnopened, desk_in}
use Rattle.bridge_parts.specs.Run.{DiskRun, OutputRun, Run, both_run}
use Rattle.bridge_parts.proofs.Desks.{desk_rules}
use Rattle.bridge_skip.specs.Leave.{WasPrinted}
use Rattle.bridge_skip.specs.Released.{only}
use Rattle.bridge_skip.specs.Skipped.{Skips}
use Rattle.bridge_skip.specs.SkipRun.{IsSkipRun}
use Rattle.commands.specs.Replayed.{ServesInput, replay_rules}
use Rattle.bridge_serve.specs.Doors.{destination_of}
use Rattle.bridge_serve.specs.Opened.{IsOpenedDesk}
use Rattle.bridge_serve.specs.Served.{Back, IsRunAt, IsServed, Setup}
use Rattle.bridge_core.specs.Done.{Does, IsUndone}
use Rattle.bridge_core.specs.RunOf.{IsRunOf}
use Rattle.bridge_laws.specs.Cause.{AsksForward, IsCause, IsCauseOrCut, KnownHasCause, KnownHasCauseOrCut, MakesKnown, SkipsIt}
use Rattle.bridge_laws.specs.Cut.{IsNextOrCut}
use Rattle.bridge_laws.specs.InOrder.{HoldsNoOther}
use Rattle.bridge_laws.specs.KeepsOrder.{AsksFormat}
use Rattle.bridge_laws.specs.Leave.{IsKnownAt}
use Rattle.bridge_laws.specs.Lifetime.{IsMovedInto, IsNext, IsOneCall, IsSkip, no_format}
use Rattle.bridge_laws.specs.Told.{DiskKind, Telling}
use Rattle.bridge_laws.proofs.JournalKnown.{AnyHas, Has, KnowsOnly, mark_within, stood_known, unmarked}
use Rattle.bridge_laws.proofs.KeepsOrder.{opened_sound}
use Rattle.bridge_laws.proofs.LeaveLasts.{at_last, leave_releases}
use Rattle.bridge_laws.proofs.Lifetime.{run_in, untouched}
use Rattle.bridge_laws.proofs.Moving.{moved_into}
use Rattle.desk_access.specs.declared.division.Division.TheVariants.{Workers}
use Rattle.desk_access.specs.Division.{divided}
use Rattle.bridge_laws.proofs.OrderOfCommands.{is_first, holds_none, none_held, replay_may}

-- ---- what is left of a disk

module _ (old new : Moment) (lawful : IsLawful old) (Also : ℕ → Type 0) where
  -- No spool that the bytes stand for knows a number but those that were known before, and those.
  abbrev pub KnowsNoOther : List ℕ → Type 0
  KnowsNoOther c = (t : SpoolState) → StandsFor t c → (n : ℕ) → IsKnownIn t n → IsKnownAt old n ⊎ Also n

  pub by_image : (c : List ℕ) → old.image c → KnowsNoOther c
  by_image c image t stands n known = inl (c, t, image, stands, known)

  pub by_state : (s t : SpoolState) (c : List ℕ) → StandsFor s old.reads → StandsFor t c → KnowsOnly s Also t → KnowsNoOther c
  by_state s t c stood stands only_those u other n known =
      elim (only_those n (subst (λ (v : SpoolState). IsKnownIn v n) (one_state u t c other stands) known)) [
        | inl was ↦ inl (old.reads, s, lawful.reads_image, stood, was)
        | inr also ↦ inr also
      ]

  pub unwritten : LeavesOnly old.image old new → LeavesOnly KnowsNoOther old new
  unwritten leaves = weaker old.image KnowsNoOther old new leaves by_image

  pub while_opened : (c : List ℕ) → IsOpening Raise old c → KnowsNoOther c
  while_opened c (inl image) = by_image c image
  while_opened c (inr (s, stood, inl here)) = by_state s s c stood here (λ n known. inl known)
  while_opened c (inr (s, stood, inr raised)) = by_state s (opened Raise s) c stood raised (λ n known. inl known)

  pub while_refused : (fault : RecoverFault) (c : List ℕ) → IsRefusing Raise fault old c → KnowsNoOther c
  while_refused (Recover.NotSpool at) c image = by_image c image
  while_refused (Recover.RunsSpent run) c image = by_image c image
  while_refused (Recover.Worn ordinal) c image = by_image c image
  while_refused Recover.DiskFault c opening = while_opened c opening
  while_refused Recover.NoMemory c image = by_image c image

-- ---- a skip

only_one : (number n : ℕ) → IsInSome (only number) n → number ≡ n
only_one number n (inl is) = omega (arith, is.0, is.1)
only_one number n (inr never) = absurd never

module _ (old new : Moment) (lawful : IsLawful old) (number : ℕ) (output : OutputRun) where
  -- the number is that of the skip, and its entry was printed
  abbrev pub IsSkipped : ℕ → Type 0
  IsSkipped n = (number ≡ n) × WasPrinted old.reads n output.taken output.taken_after

  abbrev pub Leaves : Type 0
  Leaves = LeavesOnly (KnowsNoOther old new lawful IsSkipped) old new

  by_skips : (tells same : Type 0) (s : SpoolState) (note : Note) → StandsFor s old.reads
      → Skips number s (record { tells = tells; old = old; new = new; same = same }) output note → Leaves
  by_skips tells same s note stood (inl none) = unwritten old new lawful IsSkipped none.any_moment
  by_skips tells same s note stood (inr (one, here, inl stops)) = unwritten old new lawful IsSkipped stops.any_moment
  by_skips tells same s note stood (inr (one, here, inr (printed, releases))) =
      let stages = mark_stages s (only number) releases.result in
      let was : WasPrinted old.reads number output.taken output.taken_after = record { state = s; stands = stood; printed = (one, here, printed) } in
      weaker (λ c. old.image c ⊎ IsMidway s stages c) (KnowsNoOther old new lawful IsSkipped) old new releases.any_moment (λ c h. elim h [
        | inl image ↦ by_image old new lawful IsSkipped c image
        | inr midway ↦
            let at = mark_within s (only number) releases.result c midway in
            by_state old new lawful IsSkipped s at.0 c stood at.1 (λ n known. elim (at.2 n known) [
              | inl before ↦ inl before
              | inr marked ↦
                  let same = only_one number n marked in
                  inr (same, subst (λ (k : ℕ). WasPrinted old.reads k output.taken output.taken_after) same was)
            ])
      ])

  pub skip_knows : (tells same : Type 0) (note : Note) → tells
      → IsSkipRun number (record { tells = tells; old = old; new = new; same = same }) output note → Leaves
  skip_knows tells same note told run = elim run.done [
    | inl unopened ↦ unwritten old new lawful IsSkipped (unopened.any_moment told)
    | inr skipped ↦ let from = skipped told in by_skips tells same from.state note from.stood from.skips
  ]

-- ---- a journal in which nobody marks

-- a call that has a number marks or confirms
marking : (call : Call) (n : ℕ) → Has call n → IsMarking call
marking (marks stretches result) n has = tt
marking (confirms upto result) n has = tt
marking call n has = has

-- Where one caller alone may mark, and made no call, nobody did.
none_marks : (number : ℕ) (log : List Record) → MarksAlone number log → own_of number log ≡ [] → (n : ℕ) → AnyHas log n → ⊥
none_marks number [] alone none n any = any
none_marks number (one ∷ log) alone none n any =
    by (λ (rest : own_of number log ≡ []) (more : AnyHas log n). none_marks number log alone.1 rest n more) (one.by == number) refl none any
  where
    by : (own_of number log ≡ [] → AnyHas log n → ⊥) → (b : Bool) → (one.by == number) ≡ b
        → cond b (one.call ∷ own_of number log) (own_of number log) ≡ [] → Has one.call n ⊎ AnyHas log n → ⊥
    by behind true same is any = cc is
    by behind false same is (inl has) = cc (sym same ∙ eq-eqb one.by number (alone.0 (marking one.call n has)))
    by behind false same is (inr more) = behind is more

-- Where there is no place to forward to, the forwarder makes no call.
forwards_nothing : (setup : Setup) (talks : ℕ) (rules : List Rules) (doors : List DoorState) (net : NetState) (disk : DiskRun) (output : OutputRun)
    (back : Back) (note : Note) (to : Option Destination) → to ≡ None → (ran : IsRunAt setup (given_as talks rules doors to net) disk output back note)
    → (x : DeskState) → IsOpenedDesk disk.tells disk.old.reads x → own_of ((length doors + 1) - 1) ran.over.served.log ≡ []
forwards_nothing setup talks rules doors net disk output back note to none =
    subst (λ (d : Option Destination). (ran : IsRunAt setup (given_as talks rules doors d net) disk output back note)
    → (x : DeskState) → IsOpenedDesk disk.tells disk.old.reads x → own_of ((length doors + 1) - 1) ran.over.served.log ≡ []) (sym none)
    (λ ran x is. ran.promises.looks x is)

-- ---- a call of `bridge`

abbrev NoNumber : ℕ → Type 0
NoNumber n = ⊥

module _ (ones : RunsOfOne) (run : Run) (told : run.disk.tells) (lawful : IsLawful run.disk.old)
    (same : run.disk.same → LeavesOnly run.disk.old.image run.disk.old run.disk.new) where
  -- it makes no number known
  abbrev pub MakesNone : Type 0
  MakesNone = LeavesOnly (KnowsNoOther run.disk.old run.disk.new lawful NoNumber) run.disk.old run.disk.new

  as_before : LeavesOnly run.disk.old.image run.disk.old run.disk.new → MakesNone
  as_before leaves = unwritten run.disk.old run.disk.new lawful NoNumber leaves

  by_unopened : (note : Note) → IsUnopened run.disk.tells run.disk.old run.disk.new note → MakesNone
  by_unopened note is =
      weaker (IsRefusing Raise is.fault run.disk.old) (KnowsNoOther run.disk.old run.disk.new lawful NoNumber) run.disk.old run.disk.new
      (is.any_moment told) (while_refused run.disk.old run.disk.new lawful NoNumber is.fault)

  by_replay : (proto : Proto) (token ack_token : Option ℕ) (note : Note)
      → ServesInput (replay_rules proto token ack_token) run.disk (both_run run.input run.output) note → MakesNone
  by_replay proto token ack_token note done =
      let serves = done.served.serves in
      let is = serves.made told in
      let s = is.state in
      let raised = s.run + 1 in
      let records = is.reached.records in
      let rules = desk_rules (opened Raise s) (opened_sound s is.stood.sound is.could) in
      let may =
      replay_may ones proto (record { token = token; ack_token = ack_token; listed = [] }) (divided Workers raised) done.conn run.input.left_after serves.bytes serves.calls
      serves.text _ serves.are_bytes (is_first raised done.conn is.conn_is) serves.carried in
      weaker _ (KnowsNoOther run.disk.old run.disk.new lawful NoNumber) run.disk.old run.disk.new is.any_moment (λ c h. elim h [
        | inl opening ↦ while_opened run.disk.old run.disk.new lawful NoNumber c opening
        | inr stood ↦
            let came = stood_known (desk_in (opened Raise s)) records c rules stood in
            by_state run.disk.old run.disk.new lawful NoNumber s came.state c is.stood came.stands (λ n known. elim (came.only n known) [
              | inl was ↦ inl (subst (λ (v : SpoolState). IsKnownIn v n) came.one was)
              | inr has ↦ absurd (unmarked (divided Workers raised) [] serves.calls records may is.reached.by n has)
            ])
      ])

  -- where nothing is forwarded
  by_serve : (server : Server) (note : Note) → server.forward ≡ None → IsServed server run.disk run.output run.net run.doors note → MakesNone
  by_serve server note none (inl done) = by_unopened note done.0
  by_serve server note none (inr (inl done)) =
      weaker (IsOpening Raise run.disk.old) (KnowsNoOther run.disk.old run.disk.new lawful NoNumber) run.disk.old run.disk.new
      (done.0.opened told).any_moment (while_opened run.disk.old run.disk.new lawful NoNumber)
  by_serve server note none (inr (inr done)) =
      let over = done.ran.over in
      let opening = over.opened told in
      let x = opening.0 in
      let is = opening.1 in
      let s = is.1 in
      let log = over.served.log in
      let rules = subst IsDesk is.4 (over.served.closes.replays.begins x is).rules in
      let silent = forwards_nothing _ _ _ _ _ _ _ _ _ _ (ap destination_of none) done.ran x is in
      weaker _ (KnowsNoOther run.disk.old run.disk.new lawful NoNumber) run.disk.old run.disk.new (over.any_moment x is) (λ c h. elim h [
        | inl opening ↦ while_opened run.disk.old run.disk.new lawful NoNumber c opening
        | inr stood ↦
            let came = stood_known (desk_in (opened Raise s)) log c rules (subst (λ (d : DeskState). Stood d log c) is.4 stood) in
            by_state run.disk.old run.disk.new lawful NoNumber s came.state c is.2 came.stands (λ n known. elim (came.only n known) [
              | inl was ↦ inl (subst (λ (v : SpoolState). IsKnownIn v n) came.one was)
              | inr has ↦ absurd (none_marks _ log done.ran.promises.marks_alone silent n has)
            ])
      ])

  module _ (words : List (List ℕ)) (note : Note) where
    serves : (server : Server) (forward : Option Relay) → server.forward ≡ forward → IsCommand (Serve server) words
        → IsServed server run.disk run.output run.net run.doors note → MakesNone ⊎ AsksForward words
    serves server None is asks done = inl (by_serve server note is done)
    serves server (Some relay) is asks done = inr (inr (server, asks, subst (λ (o : Option Relay). IsSome o) (sym is) refl))

    by_command : (command : Command) → IsCommand command words → (AsksFormat words → ⊥) → IsUndone run note ⊎ Does command run note
        → MakesNone ⊎ AsksForward words
    by_command command asks never (inl undone) = inl (as_before (same undone.1.disk.same))
    by_command (Format slots size) asks never (inr does) = absurd (never (slots, size, asks))
    by_command (ListCommand form) asks never (inr does) = inl (as_before (does.0.any_moment told))
    by_command (Replay proto token ack_token) asks never (inr does) = inl (elim does.0.replayed [
      | inl unopen ↦ by_unopened note unopen.0
      | inr replayed ↦ by_replay proto token ack_token note replayed
    ])
    by_command (Drain receiver place) asks never (inr does) = inr (inl (receiver, place, asks))
    by_command (Load proto number count) asks never (inr does) = inl (as_before (same does.1.same))
    by_command (Serve server) asks never (inr does) = serves server server.forward refl asks does.0

    pub by_words : IsRunOf words run note → (AsksFormat words → ⊥) → IsSomeCommand words ⊎ (IsNoCommand words ⊎ IsUndone run note)
        → MakesNone ⊎ AsksForward words
    by_words whole never (inl (command, asks)) = by_command command asks never (whole.done command asks)
    by_words whole never (inr (inl none)) = inl (as_before (same (whole.unchanged none).disk.same))
    by_words whole never (inr (inr undone)) = inl (as_before (same undone.1.disk.same))

-- ---- one after another

-- what a crash leaves at the end of a call or at a moment within it
at_moment : (P : List ℕ → Type 0) (old new : Moment) (c : List ℕ) → LeavesOnly P old new → new.image c ⊎ new.image_since old.clock c → P c
at_moment P old new c leaves (inl now) = leaves.now c now
at_moment P old new c leaves (inr within) = leaves.each c within

module _ {D E S K N P : Type 0} (ones : RunsOfOne) (tell : Telling D S K N P) (other : DiskKind E)
    (lawful : (disk : D) → tell.disk.tells → IsLawful (tell.disk.moment disk))
    (lawful' : (disk : E) → other.tells → IsLawful (other.moment disk)) where
  call_knows : (old new : D) (call : IsOneCall no_format.words tell old new) (c : List ℕ)
      → (tell.disk.moment new).image c ⊎ (tell.disk.moment new).image_since (tell.disk.moment old).clock c → (t : SpoolState)
      → StandsFor t c
      → (n : ℕ) → IsKnownIn t n → IsKnownAt (tell.disk.moment old) n ⊎ MakesKnown tell old new call n
  call_knows old new (inl called) c is t stands n known =
      let run = run_in tell lawful old new called in
      let before = lawful old called.told in
      let none = by_words ones run called.told before (untouched tell lawful old new called.told) called.words called.note called.is
      called.such called.is.which in
      elim none [
        | inr asks ↦ inr asks
        | inl leaves ↦ elim (at_moment
            (KnowsNoOther run.disk.old run.disk.new before NoNumber) run.disk.old run.disk.new c leaves is t stands n known) [
              | inl was ↦ inl was
              | inr never ↦ absurd never
            ]
      ]
  call_knows old new (inr skip) c is t stands n known =
      let m = tell.disk.moment in
      let before = lawful old skip.told in
      let output = tell.output skip.output skip.output' in
      let leaves =
      skip_knows (m old) (m new) before skip.number output tell.disk.tells (new ≡ old) skip.note skip.told skip.is in
      let Skipped = IsSkipped (m old) (m new) before skip.number output in
      elim (at_moment (KnowsNoOther (m old) (m new) before Skipped) (m old) (m new) c leaves is t stands n known) [
        | inl was ↦ inl was
        | inr skipped ↦ inr (record { number_is = skipped.0; printed = skipped.1 })
      ]

  -- a move into the device makes no number of it known
  into_knows : (old new : D) → IsMovedInto tell other old new → (c : List ℕ) → (tell.disk.moment new).image c → (t : SpoolState)
      → StandsFor t c
      → (n : ℕ) → IsKnownIn t n → IsKnownAt (tell.disk.moment old) n
  into_knows old new into c image t stands n known =
      let Was : SpoolState → Type 0 = λ s. (k : ℕ) → IsKnownIn s k → IsKnownAt (tell.disk.moment old) k in
      moved_into tell other lawful lawful' Was (HoldsNoOther Was) (holds_none Was) (none_held Was)
      (λ u v tag xs sound taken was k is. was k (subst (λ (l : Numbers). IsKnown l k) taken.known_same is))
      old new into (λ d here s there k is. (d, s, here, there, is)) c image t stands n known

  next_knows : (old new : D) (next : IsNext no_format tell other old new) (n : ℕ) → IsKnownAt (tell.disk.moment new) n
      → IsKnownAt (tell.disk.moment old) n ⊎ IsCause tell other old new next n
  next_knows old new (inl call) n (c, t, image, stands, known) = call_knows old new call c (inl image) t stands n known
  next_knows old new (inr (inl crash)) n (c, t, image, stands, known) = inl (c, t, crash c image, stands, known)
  next_knows old new (inr (inr (inl (mid, call, within)))) n (c, t, image, stands, known) =
      call_knows old mid call c (inr (within c image)) t stands n known
  next_knows old new (inr (inr (inr (inl out)))) n known = inr tt
  next_knows old new (inr (inr (inr (inr into)))) n (c, t, image, stands, known) = inl (into_knows old new into.1 c image t stands n known)

  pub known_has_cause : KnownHasCause tell other
  known_has_cause disk [] are n known = inl known
  known_has_cause disk (next ∷ later) (first, rest) n known = elim (known_has_cause next later rest n known) [
    | inr cause ↦ inr (inr cause)
    | inl then ↦ elim (next_knows disk next first n then) [ inl was ↦ inl was | inr cause ↦ inr (inl cause) ]
  ]

  -- ---- over calls that were cut off, or never ended

  step_knows : (Release : ℕ → Type 0) (old new : D) (next : IsNextOrCut tell other Release old new) (n : ℕ) → IsKnownAt (tell.disk.moment new) n
      → ∥ (IsKnownAt (tell.disk.moment old) n ⊎ IsCauseOrCut tell other Release old new next n) ∥₁
  step_knows Release old new (inl next) n known = ∣ next_knows old new next n known ∣₁
  step_knows Release old new (inr cut) n (c, t, image, stands, known) =
      at_last (λ disk. IsKnownAt (tell.disk.moment disk) n → ∥ (IsKnownAt (tell.disk.moment old) n ⊎ Release n) ∥₁) old cut.touches
      (leave_releases tell.disk.moment Release old cut.touches n cut.touched) (c, t, cut.left c image, stands, known)

  pub known_has_cause_or_cut : (Release : ℕ → Type 0) → KnownHasCauseOrCut tell other Release
  known_has_cause_or_cut Release disk [] are n known = ∣ inl known ∣₁
  known_has_cause_or_cut Release disk (next ∷ later) (first, rest) n known =
      ∥∥₁_elim (known_has_cause_or_cut Release next later rest n known) ∥∥₁_prop (λ which. elim which [
        | inr cause ↦ ∣ inr (inr cause) ∣₁
        | inl then ↦ ∥∥₁_map (step_knows Release disk next first n then) (λ here. elim here [ inl was ↦ inl was | inr cause ↦ inr (inl cause) ])
      ])

  -- After two skips a number is known that was known before, or of which one of the two was, which printed its entry.
  two_skips : (a b c : D) (first : IsSkip tell a b) (second : IsSkip tell b c) (n : ℕ) → IsKnownAt (tell.disk.moment c) n
      → IsKnownAt (tell.disk.moment a) n ⊎ (SkipsIt tell a b first n ⊎ SkipsIt tell b c second n)
  two_skips a b c first second n known = elim (known_has_cause a (b ∷ c ∷ []) (inl (inr first), (inl (inr second), tt)) n known) [
    | inl was ↦ inl was
    | inr (inl one) ↦ inr (inl one)
    | inr (inr (inl two)) ↦ inr (inr two)
    | inr (inr (inr never)) ↦ absurd never
  ]
