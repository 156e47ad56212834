-- What each command leaves of the order of a spool's entries.
use Rattle.std.specs.Prelude.{◌≡◌, ℕ, List}
use Rattle.edge_disk.specs.Disk.{Moment, LeavesOnly}
use Rattle.spool_state.specs.SpoolState.{SpoolState}
use Rattle.bridge_words.specs.declared.command.Command.TheVariants.{Format}
use Rattle.notes.specs.declared.note.Note.{Note}
use Rattle.notes.specs.declared.note.Note.TheVariants.{Fine}
use Rattle.bridge_words.specs.Words.{IsCommand}
use Rattle.bridge_parts.specs.Run.{Run}
use Rattle.bridge_core.specs.RunOf.{IsRunOf}
use Rattle.bridge_laws.specs.InOrder.{IsInOrder, IsUnmoved, Holds, HoldsNoOther}

-- Where whatever a crash could leave before the call was so, it is so of whatever one leaves after the call or within it.
abbrev pub Keeps : (List ℕ → Type 0) → Moment → Moment → Type 0
Keeps P old new = ((c : List ℕ) → old.image c → P c) → LeavesOnly P old new

-- the words make the device an empty spool
abbrev pub AsksFormat : List (List ℕ) → Type 0
AsksFormat words = (slots : ℕ) × (size : ℕ) × IsCommand (Format slots size) words

-- What a call leaves of the order of a spool's entries. A spool that is so is in order, or also had nothing moved into it.
pub record KeepsOrder (Is : SpoolState → Type 0) (words : List (List ℕ)) (run : Run) (note : Note) : Type 0 where
  -- A crash leaves no spool that isn't so.
  pub none : Keeps (HoldsNoOther Is) run.disk.old run.disk.new
  -- It leaves one that is so where it left one before, but for `format`, during which a crash may leave no spool.
  pub some : (AsksFormat words → ⊥) → Keeps (Holds Is) run.disk.old run.disk.new
  -- `format` that ended well leaves one that is so, whatever the device had.
  pub made : AsksFormat words → note ≡ Fine → (c : List ℕ) → run.disk.new.image c → Holds Is c

-- Each call keeps the order, whatever its words and its note are; and it moves nothing into the spool.
abbrev pub EachCommandKeepsOrder : Run → Type 0
EachCommandKeepsOrder run =
    (words : List (List ℕ)) (note : Note) → IsRunOf words run note → run.disk.tells
    → KeepsOrder IsInOrder words run note × KeepsOrder IsUnmoved words run note
