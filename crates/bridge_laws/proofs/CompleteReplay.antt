-- `replay` ends well where nothing that its input brings is refused.
use Rattle.std.proofs.Common.{◌≡◌, inl, inr, ℕ, ◌<◌, ◌^◌, List, [], length, ◌∙◌, ap, subst, arith}
use Rattle.std.specs.Prelude.{Option}
use Rattle.std.specs.Io.KnownBytes.{Consumes}
use Rattle.event_form.specs.declared.event.Event.{Event}
use Rattle.event_form.specs.declared.talk.Talk.{Talk}
use Rattle.edge_io.specs.declared.proto.Proto.{Proto}
use Rattle.edge_io.specs.declared.proto.Proto.TheVariants.{Relp, Lumberjack, Hec}
use Rattle.spool_state.specs.SpoolState.{SpoolState}
use Rattle.spool_state.proofs.Laws.{one_state, stands_unbroken}
use Rattle.spool_log.specs.declared.fault.RecoverFault.{RecoverFault}
use Rattle.spool_log.specs.declared.fault.RecoverFault.TheVariants as Recover
use Rattle.spool_log.specs.declared.opening.Opening.TheVariants.{Raise}
use Rattle.spool_log.specs.Opening.{opened, IsRefusedAs}
use Rattle.hec_session.specs.declared.tokens.Tokens.{Tokens}
use Rattle.desk_access.specs.Call.{Call, failures_of}
use Rattle.conn_serve.specs.Serves.{CarriedAs}
use Rattle.conn_serve.specs.Terms.{terms_with}
use Rattle.conn_serve.specs.RunsOfOne.{RunsOfOne}
use Rattle.bridge_words.specs.declared.command.Command.TheVariants.{Replay}
use Rattle.notes.specs.declared.note.Note.{Note}
use Rattle.notes.specs.Notes.{note_of_talk}
use Rattle.bridge_laws.specs.Complete.{NoneFailed}
use Rattle.ending_laws.specs.Replaying.{EndsWhole, Gains, NoneIsRefused, Stores}
use Rattle.bridge_laws.specs.CompleteReplay.{CanReplay, ReplayEndsWell, TakesAll, conn_in}
use Rattle.bridge_parts.specs.Run.{Run}
use Rattle.bridge_core.specs.RunOf.{IsRunOf}
use Rattle.bridge_parts.specs.Refused.{note_of_recover}
use Rattle.bridge_parts.specs.Reached.{Reaches}
use Rattle.bridge_parts.specs.Run.{both_run}
use Rattle.commands.specs.Replayed.{ServesInput, replay_rules}
use Rattle.bridge_laws.proofs.Complete.{not_disk, not_read, not_write}
use Rattle.ending_laws.proofs.Endings.{IsAllowed, IsDone, Kept, allowed_note, kept, none_failed}
use Rattle.ending_laws.proofs.Hec.{hec_allowed, hec_stored}
use Rattle.ending_laws.proofs.Lumber.{lumber_allowed, lumber_stored}
use Rattle.ending_laws.proofs.Relp.{relp_allowed, relp_stored}

-- ---- by the protocol

carried_allowed : RunsOfOne → (proto : Proto) (tokens : Tokens) (conn : ℕ) (s : SpoolState) (run : Run) (left : Option (List ℕ))
    (whole b : List ℕ)
    (calls : List Call) (text : List ℕ) (talk : Talk) → CarriedAs proto (terms_with tokens) conn left b calls text talk
    → Reaches s run.disk.new calls → Kept left whole b → failures_of calls ≡ 0 → EndsWhole proto whole
    → NoneIsRefused proto tokens conn s whole → length whole < 2 ^ 40 → IsAllowed talk
carried_allowed ones Relp tokens conn s run left whole b calls text talk c reached k none ends fits short =
    relp_allowed conn tokens s run.disk.new left whole b calls text talk
    (ones.carried conn left b calls text talk c) reached k none ends.0 ends.1 fits short
carried_allowed ones Lumberjack tokens conn s run left whole b calls text talk c reached k none ends fits short =
    lumber_allowed conn tokens s run.disk.new left whole b calls text talk c reached k none ends.0 ends.1 fits short
carried_allowed ones Hec tokens conn s run left whole b calls text talk c reached k none ends fits short =
    hec_allowed conn tokens s run.disk.new left whole b calls text talk c reached k none ends.0 ends.1 fits short

carried_stored : RunsOfOne → (proto : Proto) (tokens : Tokens) (conn : ℕ) (s : SpoolState) (run : Run) (left : Option (List ℕ))
    (whole b : List ℕ)
    (calls : List Call) (text : List ℕ) (talk : Talk) → CarriedAs proto (terms_with tokens) conn left b calls text talk
    → Reaches s run.disk.new calls → Kept left whole b → failures_of calls ≡ 0 → IsDone talk
    → (events : List Event) × Stores proto tokens whole events × Gains s run.disk.new events
carried_stored ones Relp tokens conn s run left whole b calls text talk c reached k none done =
    relp_stored conn tokens s run.disk.new left whole b calls text talk (ones.carried conn left b calls text talk c) reached k none done
carried_stored ones Lumberjack tokens conn s run left whole b calls text talk c reached k none done =
    lumber_stored conn tokens s run.disk.new left whole b calls text talk c reached k none done
carried_stored ones Hec tokens conn s run left whole b calls text talk c reached k none done =
    hec_stored conn tokens s run.disk.new left whole b calls text talk c reached k none done

-- ---- the run

module _ (proto : Proto) (token ack_token : Option ℕ) (words : List (List ℕ)) (run : Run) (note : Note) (is : IsRunOf words run note)
    (none : NoneFailed run) (s : SpoolState) (b : List ℕ) (can : CanReplay run s b) where
  -- the device isn't refused
  by_fault : (fault : RecoverFault) → note ≡ note_of_recover fault → IsRefusedAs Raise run.disk.old.reads fault → note ≡ Note.NoMemory
  by_fault (Recover.NotSpool at) same breaks = absurd (stands_unbroken s run.disk.old.reads can.stands at breaks)
  by_fault (Recover.RunsSpent n) same (t, stands, spent) =
      let one : t.run ≡ s.run = ap (λ (x : SpoolState). x.run) (one_state t s run.disk.old.reads stands can.stands) in
      absurd (omega (arith, spent.2, one, can.runs))
  by_fault (Recover.Worn ordinal) same (t, stands, worn) =
      let one : t.ordinal ≡ s.ordinal = ap (λ (x : SpoolState). x.ordinal) (one_state t s run.disk.old.reads stands can.stands) in
      absurd (omega (arith, worn.3, one, can.ordinals))
  by_fault Recover.DiskFault same why = absurd (not_disk words run note is none same)
  by_fault Recover.NoMemory same why = same

  -- a connection over the spool that the device stood for
  serves_all : RunsOfOne → ServesInput (replay_rules proto token ack_token) run.disk (both_run run.input run.output) note
      → EndsWhole proto b → NoneIsRefused proto (record { token = token; ack_token = ack_token; listed = [] }) (conn_in s) (opened Raise s) b
      → TakesAll proto (record { token = token; ack_token = ack_token; listed = [] }) run s b note
  serves_all ones replayed ends fits =
      let tokens : Tokens = record { token = token; ack_token = ack_token; listed = [] } in
      let served = replayed.served in
      let serves = served.serves in
      let talk = served.attended.talk in
      let stored = serves.made can.told in
      let one : stored.state ≡ s = one_state stored.state s run.disk.old.reads stored.stood can.stands in
      let reached = subst (λ (t : SpoolState). Reaches (opened Raise t) run.disk.new serves.calls) one stored.reached in
      let conn : replayed.conn ≡ conn_in s = stored.conn_is ∙ ap conn_in one in
      let carried =
      subst (λ (n : ℕ). CarriedAs proto
      (terms_with tokens) n run.input.left_after serves.bytes serves.calls serves.text talk) conn serves.carried in
      let k =
      kept run.input.left_after b serves.bytes
      (subst (λ (l : Option (List ℕ)). Consumes l run.input.left_after serves.bytes) can.input serves.consumed) in
      let no_call =
      none_failed proto (terms_with tokens) (conn_in s) run.input.left_after serves.bytes serves.calls serves.text talk carried
      (λ by. not_disk words run note is none (served.note_is ∙ ap note_of_talk by))
      (λ by. not_write words run note is none (served.note_is ∙ ap note_of_talk by)) in
      let allows =
      carried_allowed ones proto tokens (conn_in s) (opened Raise s) run run.input.left_after b serves.bytes serves.calls serves.text talk
      carried reached k no_call ends fits can.short in
      elim (allowed_note talk note served.note_is allows (not_disk words run note is none) (not_read words run note is none)
      (not_write words run note is none)) [
        | inl wanting ↦ inl wanting
        | inr fine ↦ inr (
          fine.0,
          carried_stored ones proto tokens (conn_in s)
              (opened Raise s) run run.input.left_after b serves.bytes serves.calls serves.text talk carried reached k no_call fine.1,
        )
      ]

pub replay_ends_well : RunsOfOne → (run : Run) → ReplayEndsWell run
replay_ends_well ones run proto token ack_token words note s b is none asks can ends fits =
    elim (is.done (Replay proto token ack_token) asks) [
      | inl undone ↦ inl undone.0
      | inr does ↦ elim does.0.replayed [
        | inl unopened ↦ inl (by_fault proto token ack_token words run note is none s b can unopened.0.fault unopened.0.note_is
            (unopened.0.why can.told))
        | inr replayed ↦ serves_all proto token ack_token words run note is none s b can ones replayed ends fits
      ]
    ]
