-- What a command that was done makes of a run.
use Rattle.std.proofs.Common.{◌≡◌, inl, inr, ℕ, List, refl, sym, ◌∙◌, ap, subst, arith}
use Rattle.std.specs.Prelude.{None, Some}
use Rattle.event_form.specs.declared.talk.Talk.{Talk}
use Rattle.edge_io.specs.Net.{NetState}
use Rattle.edge_io.specs.declared.proto.Proto.{Proto}
use Rattle.edge_disk.specs.Calls.{Calls}
use Rattle.conn_serve.specs.Endings.{CountsFaults}
use Rattle.conn_serve.proofs.Faults.{counts_none}
use Rattle.spool_log.specs.declared.fault.RecoverFault.{RecoverFault}
use Rattle.spool_log.specs.declared.fault.RecoverFault.TheVariants as Recover
use Rattle.bridge_words.specs.declared.command.Command.{Command}
use Rattle.bridge_words.specs.declared.command.Command.TheVariants.{Format, List as ListCommand, Replay, Drain, Load, Serve}
use Rattle.notes.specs.declared.note.Note.{Note}
use Rattle.notes.specs.Notes.{note_of_talk}
use Rattle.bridge_words.specs.Words.{IsCommand, IsNoCommand}
use Rattle.bridge_parts.specs.Counted.{RoseBy}
use Rattle.bridge_parts.specs.Refused.{note_of_recover}
use Rattle.bridge_parts.specs.Run.{DiskRun, InputRun, NetRun, OutputRun, Run, IsUngiven, IsUnused}
use Rattle.bridge_parts.specs.Written.{IsPrinted}
use Rattle.commands.specs.Formatted.{Formats}
use Rattle.commands.specs.Listed.{IsListNote}
use Rattle.commands.specs.Loading.{LoadIsTold}
use Rattle.commands.specs.Replayed.{IsReplayed}
use Rattle.commands.proofs.Failing.{tells_as}
use Rattle.conn_serve.specs.declared.rules.Rules.{Rules}
use Rattle.load_run.specs.Line.{load_line}
use Rattle.bridge_core.specs.Failed.{ReadsOfLink, TellsDisk, TellsReadFault, TellsWriteFault, TellsDial}
use Rattle.bridge_core.specs.Done.{IsUntouched, Does}
use Rattle.bridge_core.specs.RunOf.{IsRunOf}
use Rattle.bridge_core.proofs.OneCommand.{does_as, no_asked}

-- ---- counts that stay

unused_calls : (fault : Type 0) (disk : DiskRun) → IsUnused disk → (fault → ⊥) → Calls fault disk.old disk.new
unused_calls fault disk unused none = record {
  size = unused.size;
  later = omega (arith, unused.faults);
  cause = λ by. absurd (none by);
  quiet = λ other. unused.faults;
}

ungiven_reads : (fault : Type 0) (input : InputRun) → IsUngiven input → (fault → ⊥) → CountsFaults fault input.faults input.faults_after
ungiven_reads fault input ungiven none = counts_none fault input.faults input.faults_after none ungiven.faults

told_dials : (fault : Type 0) (net : NetRun) → net.new ≡ net.old → (fault → ⊥) → CountsFaults fault net.old.net_faults net.new.net_faults
told_dials fault net told none = counts_none fault net.old.net_faults net.new.net_faults none (ap (λ (t : NetState). t.net_faults) told)

-- nothing was read of the input, and the links' count rose where the note says so
by_link : (note : Note) (input : InputRun) (before now : ℕ) → IsUngiven input → RoseBy (note ≡ Note.ReadFault) before now
    → ReadsOfLink note input.faults input.faults_after before now
by_link note input before now ungiven rose = record { none = ungiven.faults; later = rose.later; cause = rose.cause }

-- ---- notes that tell of no read of the input, or of no dial

recover_no_net : (fault : RecoverFault) → note_of_recover fault ≡ Note.NetFault → ⊥
recover_no_net Recover.DiskFault is = cc
recover_no_net fault is = cc

talk_no_net : (talk : Talk) → note_of_talk talk ≡ Note.NetFault → ⊥
talk_no_net Talk.Ended is = cc
talk_no_net talk is = cc

replay_no_net : (rules : Rules) (disk : DiskRun) (input : InputRun) (output : OutputRun) (note : Note) → IsReplayed rules disk input output note
    → note ≡ Note.NetFault → ⊥
replay_no_net rules disk input output note is by = elim is.replayed [
  | inl unopened ↦ recover_no_net unopened.0.fault (sym unopened.0.note_is ∙ by)
  | inr served ↦ talk_no_net served.served.attended.talk (sym served.served.note_is ∙ by)
]

printed_no_read : (line : List ℕ) (output : OutputRun) (note : Note) → IsPrinted note line output.taken output.taken_after → note ≡ Note.ReadFault → ⊥
printed_no_read line output note printed by = subst (λ (n : Note). IsPrinted n line output.taken output.taken_after) by printed

printed_no_net : (line : List ℕ) (output : OutputRun) (note : Note) → IsPrinted note line output.taken output.taken_after → note ≡ Note.NetFault → ⊥
printed_no_net line output note printed by = subst (λ (n : Note). IsPrinted n line output.taken output.taken_after) by printed

module _ (proto : Proto) (number count : ℕ) (output : OutputRun) (note : Note) (told : LoadIsTold proto number count output note) where
  load_no_disk : note ≡ Note.DiskFault → ⊥
  load_no_disk by = elim told.told [
    | inl all ↦ subst (λ (n : Note). IsPrinted n (load_line all.loaded) output.taken output.taken_after) by all.line
    | inr none ↦ cc (none.memory, by)
  ]

  load_no_read : note ≡ Note.ReadFault → ⊥
  load_no_read by = elim told.told [ inl all ↦ printed_no_read (load_line all.loaded) output note all.line by | inr none ↦ cc (none.memory, by) ]

  load_no_net : note ≡ Note.NetFault → ⊥
  load_no_net by = elim told.told [ inl all ↦ printed_no_net (load_line all.loaded) output note all.line by | inr none ↦ cc (none.memory, by) ]

-- ---- what failed, by the command

module _ (words : List (List ℕ)) (run : Run) (note : Note) where
  calls_told : (command : Command) → IsCommand command words → Does command run note → TellsDisk words note run.disk.old run.disk.new
  calls_told (Format slots size) asks does = inl (inl does.0.calls)
  calls_told (ListCommand form) asks does = inl (inl does.0.calls)
  calls_told (Replay proto token ack_token) asks does =
      inl (tells_as _ _ note run.disk.old run.disk.new (λ is. (token, ack_token, subst (λ (p : Proto). IsCommand (Replay p token ack_token) words) is asks))
      does.0.calls)
  calls_told (Drain receiver None) asks does = inl (inl does.0.calls)
  calls_told (Drain receiver (Some place)) asks does = inl (inl does.0.calls)
  calls_told (Load proto number count) asks does =
      inl (inl (unused_calls (note ≡ Note.DiskFault) run.disk does.1 (load_no_disk proto number count run.output note does.0)))
  calls_told (Serve server) asks does = inr ((server, asks), does.2.calls)

  reads_told : (command : Command) → IsCommand command words → Does command run note
      → TellsReadFault words note run.input.faults run.input.faults_after run.net.old run.net.new
  reads_told (Format slots size) asks does =
      inl (ungiven_reads (note ≡ Note.ReadFault) run.input does.1 (λ by. subst (Formats slots size run.disk run.output) by does.0.formatted))
  reads_told (ListCommand form) asks does = inl (ungiven_reads (note ≡ Note.ReadFault) run.input does.1 (λ by. subst IsListNote by does.0.known))
  reads_told (Replay proto token ack_token) asks does = inl does.0.reads
  reads_told (Drain receiver None) asks does = inl does.0.reads
  reads_told (Drain receiver (Some place)) asks does =
      inr (inl (receiver, place, asks), by_link note run.input run.net.old.read_faults run.net.new.read_faults does.1 does.0.reads)
  reads_told (Load proto number count) asks does =
      inl (ungiven_reads (note ≡ Note.ReadFault) run.input does.2 (load_no_read proto number count run.output note does.0))
  reads_told (Serve server) asks does =
      inr (inr (server, asks), by_link note run.input run.net.old.read_faults run.net.new.read_faults does.1 does.2.reads)

  writes_told : (command : Command) → IsCommand command words → Does command run note
      → TellsWriteFault words note run.output.faults run.output.faults_after run.net.old run.net.new
  writes_told (Format slots size) asks does = inl does.0.writes
  writes_told (ListCommand form) asks does = inl does.0.writes
  writes_told (Replay proto token ack_token) asks does = inl does.0.writes
  writes_told (Drain receiver None) asks does = inr (inl ((receiver, asks), does.0.writes))
  writes_told (Drain receiver (Some place)) asks does = inr (inr (inl (receiver, place, asks), does.0.writes))
  writes_told (Load proto number count) asks does = inl does.0.writes
  writes_told (Serve server) asks does = inr (inr (inr (server, asks), does.2.writes))

  dials_told : (command : Command) → IsCommand command words → Does command run note → TellsDial words note run.net.old run.net.new
  dials_told (Format slots size) asks does =
      inl (told_dials (note ≡ Note.NetFault) run.net does.2.told (λ by. subst (Formats slots size run.disk run.output) by does.0.formatted))
  dials_told (ListCommand form) asks does = inl (told_dials (note ≡ Note.NetFault) run.net does.2.told (λ by. subst IsListNote by does.0.known))
  dials_told (Replay proto token ack_token) asks does =
      inl (told_dials (note ≡ Note.NetFault) run.net does.1.told (replay_no_net _ run.disk run.input run.output note does.0))
  dials_told (Drain receiver None) asks does = inl (told_dials (note ≡ Note.NetFault) run.net does.1 does.0.dials)
  dials_told (Drain receiver (Some place)) asks does = inl does.0.dials
  dials_told (Load proto number count) asks does =
      inl (told_dials (note ≡ Note.NetFault) run.net does.3.told (load_no_net proto number count run.output note does.0))
  dials_told (Serve server) asks does = inr ((server, asks), does.2.dials)

  -- what was done for one command that the words are is what was done for these words
  pub ran_as : (command : Command) → IsCommand command words → Does command run note → IsRunOf words run note
  ran_as command asks does = record {
    calls = calls_told command asks does;
    reads = reads_told command asks does;
    writes = writes_told command asks does;
    dials = dials_told command asks does;
    which = inl (command, asks);
    unchanged = λ none. absurd (no_asked command words asks none);
    usage = λ none. absurd (no_asked command words asks none);
    done = λ other is. inr (does_as command other words run note asks does is);
  }

-- nothing was done
pub ran_not : (words : List (List ℕ)) (run : Run) (note : Note) → IsUntouched run → (note ≡ Note.DiskFault → ⊥) → (note ≡ Note.ReadFault → ⊥)
    → (note ≡ Note.WriteFault → ⊥) → (note ≡ Note.NetFault → ⊥)
    → TellsDisk words note run.disk.old run.disk.new × TellsReadFault words note run.input.faults run.input.faults_after run.net.old run.net.new
    × TellsWriteFault words note run.output.faults run.output.faults_after run.net.old run.net.new × TellsDial words note run.net.old run.net.new
ran_not words run note untouched no_disk no_read no_write no_net = (
  inl (inl (unused_calls (note ≡ Note.DiskFault) run.disk untouched.disk no_disk)),
  inl (ungiven_reads (note ≡ Note.ReadFault) run.input untouched.input no_read),
  inl (counts_none (note ≡ Note.WriteFault) run.output.faults run.output.faults_after no_write untouched.output.faults),
  inl (told_dials (note ≡ Note.NetFault) run.net untouched.net.told no_net),
)

module _ (words : List (List ℕ)) (run : Run) (untouched : IsUntouched run) where
  -- the words are no command
  pub ran_none : IsNoCommand words → IsRunOf words run Note.Usage
  ran_none none =
      let told = ran_not words run Note.Usage untouched (λ by. cc) (λ by. cc) (λ by. cc) (λ by. cc) in record {
        calls = told.0;
        reads = told.1;
        writes = told.2;
        dials = told.3;
        which = inr (inl none);
        unchanged = λ _. untouched;
        usage = λ _. inl refl;
        done = λ command asks. absurd (none command asks);
      }

  -- no memory was found for reading them
  pub ran_unread : IsRunOf words run Note.NoMemory
  ran_unread =
      let told = ran_not words run Note.NoMemory untouched (λ by. cc) (λ by. cc) (λ by. cc) (λ by. cc) in record {
        calls = told.0;
        reads = told.1;
        writes = told.2;
        dials = told.3;
        which = inr (inr (refl, untouched));
        unchanged = λ _. untouched;
        usage = λ _. inr refl;
        done = λ command asks. inl (refl, untouched);
      }
