-- Where no call failed, the note tells of none that did; so `format`, `list` and `load` end well.
use Rattle.std.proofs.Common.{◌≡◌, inl, inr, ℕ, List, refl, sym, ◌∙◌}
use Rattle.std.specs.Prelude.{Option}
use Rattle.spool_state.proofs.Laws.{stands_unbroken}
use Rattle.bridge_words.specs.declared.command.Command.TheVariants.{Format, List as ListCommand, Load}
use Rattle.notes.specs.declared.note.Note.{Note}
use Rattle.bridge_laws.specs.Complete.{NoneFailed, EndsWell, FormatEndsWell, ListEndsWell, LoadEndsWell}
use Rattle.bridge_parts.specs.Run.{Run}
use Rattle.bridge_core.specs.RunOf.{IsRunOf}
use Rattle.bridge_core.specs.Failed.{AsksServe}
use Rattle.commands.specs.Formatted.{Formats}
use Rattle.commands.specs.Listed.{Lists}
use Rattle.load_run.specs.Line.{load_line}
use Rattle.bridge_parts.specs.Written.{IsPrinted}

module _ (words : List (List ℕ)) (run : Run) (note : Note) (is : IsRunOf words run note) (none : NoneFailed run) where
  pub not_disk : note ≡ Note.DiskFault → ⊥
  not_disk by =
      elim is.calls [
        | inl (inl exact) ↦ none.calls (exact.cause by)
        | inl (inr cut) ↦ none.calls (cut.2.cause tt)
        | inr served ↦ none.calls
            (served.1.faults.cause by)
      ]

  pub not_read : note ≡ Note.ReadFault → ⊥
  not_read by = elim is.reads [ inl exact ↦ none.reads (exact.cause by) | inr place ↦ none.link_reads (place.1.cause by) ]

  pub not_write : note ≡ Note.WriteFault → ⊥
  not_write by = elim is.writes [
    | inl exact ↦ none.writes (exact.cause by)
    | inr (inl stream) ↦ none.writes (stream.1.cause by)
    | inr (inr place) ↦ elim (place.1.cause by) [ inl here ↦ none.writes here | inr there ↦ none.link_writes there ]
  ]

  pub not_dial : (AsksServe words → ⊥) → note ≡ Note.NetFault → ⊥
  not_dial other by = elim is.dials [ inl exact ↦ none.dials (exact.cause by) | inr served ↦ other served.0 ]

pub format_ends_well : (run : Run) → FormatEndsWell run
format_ends_well run slots size words note is none asks long =
    elim (is.done (Format slots size) asks) [ inl undone ↦ inr undone.0 | inr does ↦ by_note note refl does.0.formatted ]
  where
    by_note : (n : Note) → note ≡ n → Formats slots size run.disk run.output n → EndsWell note
    by_note Note.Fine same made = inl same
    by_note Note.NoMemory same made = inr same
    by_note Note.WriteFault same made = absurd (not_write words run note is none same)
    by_note Note.DiskFault same made = absurd (not_disk words run note is none same)
    by_note (Note.WrongLength have want) same (have_is, want_is, other, kept, silent) = absurd (other (have_is ∙ long ∙ sym want_is))
    by_note n same never = absurd never

pub list_ends_well : (run : Run) → ListEndsWell run
list_ends_well run form words note s is none asks tells stands =
    elim (is.done (ListCommand form) asks) [ inl undone ↦ inr undone.0 | inr does ↦ by_note note refl (does.0.listed tells) ]
  where
    by_note : (n : Note) → note ≡ n → Lists form run.disk.old.reads run.output.taken run.output.taken_after n → EndsWell note
    by_note Note.Fine same listed = inl same
    by_note Note.NoMemory same listed = inr same
    by_note Note.WriteFault same listed = absurd (not_write words run note is none same)
    by_note Note.DiskFault same listed = absurd (not_disk words run note is none same)
    by_note (Note.NotSpool at) same (inl unread) = absurd (stands_unbroken s run.disk.old.reads stands at unread.0)
    by_note n same (inl unread) = absurd unread.0
    by_note n same (inr printed) = absurd printed.2

pub load_ends_well : (run : Run) → LoadEndsWell run
load_ends_well run proto number count words note is none asks = elim (is.done (Load proto number count) asks) [
  | inl undone ↦ inr undone.0
  | inr does ↦ elim does.0.told [
    | inl told ↦ by_note (load_line told.loaded) run.output.taken run.output.taken_after note refl told.line
    | inr untold ↦ inr untold.memory
  ]
]
  where
    by_note : (line : List ℕ) (old new : Option (List ℕ)) (n : Note) → note ≡ n → IsPrinted n line old new → EndsWell note
    by_note line old new Note.Fine same w = inl same
    by_note line old new Note.NoMemory same w = inr same
    by_note line old new Note.WriteFault same w = absurd (not_write words run note is none same)
    by_note line old new n same never = absurd never
