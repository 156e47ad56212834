-- Where a command has to end well: no call failed, and nothing stands in its way.
use Rattle.std.specs.Prelude.{◌≡◌, ◌⊎◌, ℕ, List}
use Rattle.foundation.specs.Faults.{Rose}
use Rattle.edge_io.specs.declared.proto.Proto.{Proto}
use Rattle.spool_state.specs.SpoolState.{SpoolState}
use Rattle.spool_state.specs.Image.{slot_at, StandsFor}
use Rattle.bridge_words.specs.declared.command.Command.TheVariants.{Format, List as ListCommand, Load}
use Rattle.bridge_words.specs.declared.command.ListForm.{ListForm}
use Rattle.notes.specs.declared.note.Note.{Note}
use Rattle.notes.specs.declared.note.Note.TheVariants.{Fine, NoMemory}
use Rattle.bridge_words.specs.Words.{IsCommand}
use Rattle.bridge_parts.specs.Run.{Run}
use Rattle.bridge_core.specs.RunOf.{IsRunOf}

-- the count of faults didn't rise, and could have: it doesn't stand at the end of its type
abbrev pub DidNotRise : ℕ → ℕ → Type 0
DidNotRise before now = Rose 1 before now → ⊥

-- No call failed: no count of the disk, the input, the output or the net rose.
pub record NoneFailed (run : Run) : Type 0 where
  pub calls : DidNotRise run.disk.old.faults run.disk.new.faults
  pub reads : DidNotRise run.input.faults run.input.faults_after
  pub writes : DidNotRise run.output.faults run.output.faults_after
  pub link_reads : DidNotRise run.net.old.read_faults run.net.new.read_faults
  pub link_writes : DidNotRise run.net.old.write_faults run.net.new.write_faults
  pub dials : DidNotRise run.net.old.net_faults run.net.new.net_faults

-- all was done, unless no memory was found
abbrev pub EndsWell : Note → Type 0
EndsWell note = (note ≡ Fine) ⊎ (note ≡ NoMemory)

-- Where no call failed, `format` ends well on a device of the wanted length.
abbrev pub FormatEndsWell : Run → Type 0
FormatEndsWell run =
    (slots size : ℕ) (words : List (List ℕ)) (note : Note) → IsRunOf words run note → NoneFailed run
    → IsCommand (Format slots size) words → run.disk.old.size ≡ slot_at size slots → EndsWell note

-- And `list` does on a device that stands for a spool.
abbrev pub ListEndsWell : Run → Type 0
ListEndsWell run =
    (form : ListForm) (words : List (List ℕ)) (note : Note) (s : SpoolState) → IsRunOf words run note → NoneFailed run
    → IsCommand (ListCommand form) words → run.disk.tells → StandsFor s run.disk.old.reads → EndsWell note

-- And `load` does by each protocol.
abbrev pub LoadEndsWell : Run → Type 0
LoadEndsWell run =
    (proto : Proto) (number count : ℕ) (words : List (List ℕ)) (note : Note) → IsRunOf words run note → NoneFailed run
    → IsCommand (Load proto number count) words → EndsWell note
