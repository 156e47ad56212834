-- What follows from what a call did: what its note says of the words, and what it left alone.
use Rattle.std.proofs.Common.{◌≡◌, ◌⊎◌, inl, inr, ℕ, List, [], sym, ◌∙◌, ap, subst}
use Rattle.std.specs.Prelude.{Option, None, Some}
use Rattle.edge_io.specs.Net.{NetState}
use Rattle.edge_io.specs.declared.proto.Proto.{Proto}
use Rattle.bridge_words.specs.declared.command.Command.{Command}
use Rattle.bridge_words.specs.declared.command.Command.TheVariants.{Format, List as ListCommand, Replay, Drain, Load, Serve}
use Rattle.notes.specs.declared.note.Note.{Note}
use Rattle.bridge_words.specs.Words.{IsCommand, IsNoCommand}
use Rattle.bridge_parts.specs.Run.{DiskRun, OutputRun, Run, IsSilent}
use Rattle.bridge_parts.specs.Written.{IsPrinted}
use Rattle.commands.specs.Formatted.{Formats}
use Rattle.commands.specs.Listed.{IsListNote}
use Rattle.commands.specs.Refused.{IsRefusedFirst}
use Rattle.commands.specs.Replayed.{IsReplayed}
use Rattle.commands.specs.Loading.{LoadIsTold}
use Rattle.commands.proofs.Forwarding.{recovered_note}
use Rattle.commands.proofs.Replays.{no_ending}
use Rattle.conn_serve.specs.declared.rules.Rules.{Rules}
use Rattle.load_run.specs.Line.{load_line}
use Rattle.bridge_core.specs.Failed.{AsksStream, AsksPlace, AsksDrain, AsksLoad, AsksServe}
use Rattle.bridge_core.specs.Done.{IsUntouched, Does}
use Rattle.bridge_core.specs.RunOf.{IsRunOf}

-- ---- a line, by its note

printed_known : (line : List ℕ) (old new : Option (List ℕ)) (note : Note) → IsPrinted note line old new
    → (note ≡ Note.Usage → ⊥) × ((have want : ℕ) → note ≡ Note.WrongLength have want → ⊥)
printed_known line old new note printed = (
  (λ by. subst (λ (n : Note). IsPrinted n line old new) by printed),
  (λ have want by. subst (λ (n : Note). IsPrinted n line old new) by printed),
)

printed_not_first : (line : List ℕ) (old new : Option (List ℕ)) (note : Note) → IsPrinted note line old new → IsRefusedFirst note → ⊥
printed_not_first line old new Note.Fine printed first = first
printed_not_first line old new Note.WriteFault printed first = first
printed_not_first line old new Note.NoMemory printed first = first
printed_not_first line old new note printed first = printed

-- where nothing was printed for the device's length
formats_silent : (slots size : ℕ) (disk : DiskRun) (output : OutputRun) (note : Note) → Formats slots size disk output note → IsRefusedFirst note
    → IsSilent output
formats_silent slots size disk output (Note.WrongLength have want) formats first = formats.4
formats_silent slots size disk output Note.Fine formats first = absurd first
formats_silent slots size disk output Note.WriteFault formats first = absurd first
formats_silent slots size disk output Note.NoMemory formats first = absurd first
formats_silent slots size disk output Note.DiskFault formats first = absurd first
formats_silent slots size disk output note formats first = absurd formats

-- ---- notes of commands that refuse no words and no length

replay_known : (rules : Rules) (run : Run) (note : Note) → IsReplayed rules run.disk run.input run.output note
    → (note ≡ Note.Usage → ⊥) × ((have want : ℕ) → note ≡ Note.WrongLength have want → ⊥)
replay_known rules run note is = elim is.replayed [
  | inl unopened ↦
      let known = recovered_note unopened.0.fault in
      ((λ by. known.no_usage (sym unopened.0.note_is ∙ by)), (λ have want by. known.no_length have want (sym unopened.0.note_is ∙ by)))
  | inr served ↦
      let ended = no_ending served.served.attended.talk note served.served.note_is in
      ((λ by. ended (subst IsRefusedFirst (sym by) tt)), (λ have want by. ended (subst IsRefusedFirst (sym by) tt)))
]

load_known : (proto : Proto) (number count : ℕ) (output : OutputRun) (note : Note) → LoadIsTold proto number count output note
    → (note ≡ Note.Usage → ⊥) × ((have want : ℕ) → note ≡ Note.WrongLength have want → ⊥)
load_known proto number count output note is = elim is.told [
  | inl all ↦ printed_known (load_line all.loaded) output.taken output.taken_after note all.line
  | inr none ↦ ((λ by. cc (none.memory, by)), (λ have want by. cc (none.memory, by)))
]

-- ---- a command that was done

module _ (words : List (List ℕ)) (run : Run) (note : Note) where
  no_usage : (command : Command) → Does command run note → note ≡ Note.Usage → ⊥
  no_usage (Format slots size) does by = subst (Formats slots size run.disk run.output) by does.0.formatted
  no_usage (ListCommand form) does by = subst IsListNote by does.0.known
  no_usage (Replay proto token ack_token) does by = (replay_known _ run note does.0).0 by
  no_usage (Drain receiver None) does by = does.0.known.0 by
  no_usage (Drain receiver (Some place)) does by = does.0.known.0 by
  no_usage (Load proto number count) does by = (load_known proto number count run.output note does.0).0 by
  no_usage (Serve server) does by = does.2.known.0 by

  length_kept : (command : Command) → Does command run note → (have want : ℕ) → note ≡ Note.WrongLength have want → run.disk.same
  length_kept (Format slots size) does have want by = (subst (Formats slots size run.disk run.output) by does.0.formatted).3
  length_kept (ListCommand form) does have want by = absurd (subst IsListNote by does.0.known)
  length_kept (Replay proto token ack_token) does have want by = absurd ((replay_known _ run note does.0).1 have want by)
  length_kept (Drain receiver None) does have want by = absurd (does.0.known.1 have want by)
  length_kept (Drain receiver (Some place)) does have want by = absurd (does.0.known.1 have want by)
  length_kept (Load proto number count) does have want by = absurd ((load_known proto number count run.output note does.0).1 have want by)
  length_kept (Serve server) does have want by = absurd (does.2.known.1 have want by)

  no_doors : (command : Command) → IsCommand command words → (AsksServe words → ⊥) → Does command run note → run.doors ≡ []
  no_doors (Format slots size) asks never does = does.3
  no_doors (ListCommand form) asks never does = does.3
  no_doors (Replay proto token ack_token) asks never does = does.2
  no_doors (Drain receiver None) asks never does = does.2
  no_doors (Drain receiver (Some place)) asks never does = does.2
  no_doors (Load proto number count) asks never does = does.4
  no_doors (Serve server) asks never does = absurd (never (server, asks))

  streams_kept : (command : Command) → IsCommand command words → IsRefusedFirst note → (AsksDrain words → ⊥) → (AsksServe words → ⊥) → Does command run note
      → run.input.same × run.output.same
  streams_kept (Format slots size) asks first no_drain no_serve does =
      (does.1.same, (formats_silent slots size run.disk run.output note does.0.formatted first).same)
  streams_kept (ListCommand form) asks first no_drain no_serve does = (does.1.same, (does.0.unused first).same)
  streams_kept (Replay proto token ack_token) asks first no_drain no_serve does = elim does.0.replayed [
    | inl unopened ↦ (unopened.1.same, unopened.2.same)
    | inr served ↦ absurd (no_ending served.served.attended.talk note served.served.note_is first)
  ]
  streams_kept (Drain receiver place) asks first no_drain no_serve does = absurd (no_drain (receiver, place, asks))
  streams_kept (Load proto number count) asks first no_drain no_serve does = elim does.0.told [
    | inl all ↦ absurd (printed_not_first (load_line all.loaded) run.output.taken run.output.taken_after note all.line first)
    | inr none ↦ (does.2.same, none.silent.same)
  ]
  streams_kept (Serve server) asks first no_drain no_serve does = absurd (no_serve (server, asks))

  input_kept : (command : Command) → IsCommand command words
      → ((proto : Proto) (token ack_token : Option ℕ) → IsCommand (Replay proto token ack_token) words → ⊥)
      → (AsksStream words → ⊥) → Does command run note → run.input.same
  input_kept (Format slots size) asks no_replay no_stream does = does.1.same
  input_kept (ListCommand form) asks no_replay no_stream does = does.1.same
  input_kept (Replay proto token ack_token) asks no_replay no_stream does = absurd (no_replay proto token ack_token asks)
  input_kept (Drain receiver None) asks no_replay no_stream does = absurd (no_stream (receiver, asks))
  input_kept (Drain receiver (Some place)) asks no_replay no_stream does = does.1.same
  input_kept (Load proto number count) asks no_replay no_stream does = does.2.same
  input_kept (Serve server) asks no_replay no_stream does = does.1.same

  net_kept : (command : Command) → IsCommand command words → (AsksDrain words → ⊥) → (AsksServe words → ⊥) → Does command run note → run.net.same
  net_kept (Format slots size) asks no_drain no_serve does = does.2.same
  net_kept (ListCommand form) asks no_drain no_serve does = does.2.same
  net_kept (Replay proto token ack_token) asks no_drain no_serve does = does.1.same
  net_kept (Drain receiver place) asks no_drain no_serve does = absurd (no_drain (receiver, place, asks))
  net_kept (Load proto number count) asks no_drain no_serve does = does.3.same
  net_kept (Serve server) asks no_drain no_serve does = absurd (no_serve (server, asks))

  net_quiet : (command : Command) → IsCommand command words → (AsksPlace words → ⊥) → (AsksServe words → ⊥) → Does command run note → run.net.new ≡ run.net.old
  net_quiet (Format slots size) asks no_place no_serve does = does.2.told
  net_quiet (ListCommand form) asks no_place no_serve does = does.2.told
  net_quiet (Replay proto token ack_token) asks no_place no_serve does = does.1.told
  net_quiet (Drain receiver None) asks no_place no_serve does = does.1
  net_quiet (Drain receiver (Some place)) asks no_place no_serve does = absurd (no_place (receiver, place, asks))
  net_quiet (Load proto number count) asks no_place no_serve does = does.3.told
  net_quiet (Serve server) asks no_place no_serve does = absurd (no_serve (server, asks))

  unbound : (command : Command) → IsCommand command words → (AsksServe words → ⊥) → Does command run note → run.net.new.bound ≡ run.net.old.bound
  unbound (Format slots size) asks never does = ap (λ (n : NetState). n.bound) does.2.told
  unbound (ListCommand form) asks never does = ap (λ (n : NetState). n.bound) does.2.told
  unbound (Replay proto token ack_token) asks never does = ap (λ (n : NetState). n.bound) does.1.told
  unbound (Drain receiver None) asks never does = ap (λ (n : NetState). n.bound) does.1
  unbound (Drain receiver (Some place)) asks never does = does.0.bound
  unbound (Load proto number count) asks never does = ap (λ (n : NetState). n.bound) does.3.told
  unbound (Serve server) asks never does = absurd (never (server, asks))

-- ---- a call

module _ (words : List (List ℕ)) (run : Run) (note : Note) (is : IsRunOf words run note) where
  -- what holds where nothing was done holds where each command makes it so
  in_each : (Kept : Type 0) → (IsUntouched run → Kept) → ((command : Command) → IsCommand command words → Does command run note → Kept) → Kept
  in_each Kept untouched done = elim is.which [
    | inl (command, asks) ↦ elim (is.done command asks) [ inl undone ↦ untouched undone.1 | inr does ↦ done command asks does ]
    | inr (inl none) ↦ untouched (is.unchanged none)
    | inr (inr undone) ↦ untouched undone.1
  ]

  -- `Usage` comes only where the words are no command
  pub usage_is_of_words : note ≡ Note.Usage → IsNoCommand words
  usage_is_of_words by = elim is.which [
    | inl (command, asks) ↦ absurd (elim (is.done command asks) [
      | inl undone ↦ cc (undone.0, by)
      | inr does ↦ no_usage words run note command does by
    ])
    | inr (inl none) ↦ none
    | inr (inr undone) ↦ absurd (cc (undone.0, by))
  ]

  -- where they are none, it comes, unless no memory was found for reading them
  pub no_command_is_told : IsNoCommand words → (note ≡ Note.Usage) ⊎ (note ≡ Note.NoMemory)
  no_command_is_told none = is.usage none

  -- a device of another length is left as it was
  pub wrong_length_is_left : (have want : ℕ) → note ≡ Note.WrongLength have want → run.disk.same
  wrong_length_is_left have want by =
      in_each run.disk.same (λ untouched. untouched.disk.same) (λ command asks does. length_kept words run note command does have want by)

  -- `load` makes no call of the disk
  pub load_uses_no_disk : AsksLoad words → run.disk.same
  load_uses_no_disk (proto, number, count, asks) = elim (is.done (Load proto number count) asks) [ inl undone ↦ undone.1.disk.same | inr does ↦ does.1.same ]

  -- `serve` alone binds doors
  pub no_doors_are_bound : (AsksServe words → ⊥) → run.doors ≡ []
  no_doors_are_bound never = in_each (run.doors ≡ []) (λ untouched. untouched.doors) (λ command asks does. no_doors words run note command asks never does)

  -- and so what the net tells of binds is as before
  pub nothing_is_bound : (AsksServe words → ⊥) → run.net.new.bound ≡ run.net.old.bound
  nothing_is_bound never = in_each (run.net.new.bound ≡ run.net.old.bound) (λ untouched. ap (λ (n : NetState). n.bound) untouched.net.told)
      (λ command asks does. unbound words run note command asks never does)

  -- words or a device that are refused leave the input and the output alone
  pub streams_are_left : IsRefusedFirst note → (AsksDrain words → ⊥) → (AsksServe words → ⊥) → run.input.same × run.output.same
  streams_are_left first no_drain no_serve =
      in_each (run.input.same × run.output.same) (λ untouched. (untouched.input.same, untouched.output.same))
      (λ command asks does. streams_kept words run note command asks first no_drain no_serve does)

  -- the input is read by `replay` and by `drain` without a place alone
  pub input_is_left : ((proto : Proto) (token ack_token : Option ℕ) → IsCommand (Replay proto token ack_token) words → ⊥) → (AsksStream words → ⊥)
      → run.input.same
  input_is_left no_replay no_stream =
      in_each run.input.same (λ untouched. untouched.input.same) (λ command asks does. input_kept words run note command asks no_replay no_stream does)

  -- the net is used by `drain` and `serve` alone
  pub net_is_left : (AsksDrain words → ⊥) → (AsksServe words → ⊥) → run.net.same
  net_is_left no_drain no_serve =
      in_each run.net.same (λ untouched. untouched.net.same) (λ command asks does. net_kept words run note command asks no_drain no_serve does)

  -- and without a place `drain` only waits
  pub nothing_is_dialed : (AsksPlace words → ⊥) → (AsksServe words → ⊥) → run.net.new ≡ run.net.old
  nothing_is_dialed no_place no_serve =
      in_each (run.net.new ≡ run.net.old) (λ untouched. untouched.net.told) (λ command asks does. net_quiet words run note command asks no_place no_serve does)
