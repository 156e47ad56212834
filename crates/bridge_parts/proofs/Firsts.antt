-- A print after what ended, and the note of both.
use Rattle.std.proofs.Common.{◌≡◌, ◌⊎◌, inl, inr, ℕ, refl, sym, ◌∙◌, ap}
use Rattle.conn_serve.specs.Endings.{CountsFaults}
use Rattle.notes.specs.declared.note.Note.{Note}
use Rattle.bridge_parts.specs.Written.{first_of}
use Rattle.bridge_parts.specs.Counted.{WroteAfter}

pub first_is : (ended print : Note) → (first_of ended print ≡ ended) ⊎ (first_of ended print ≡ print)
first_is Note.Fine print = inr refl
first_is ended print = inl refl

pub first_write : (ended print : Note) → first_of ended print ≡ Note.WriteFault → (ended ≡ Note.WriteFault) ⊎ (print ≡ Note.WriteFault)
first_write Note.Fine print is = inr is
first_write ended print is = inl is

pub first_fine : (ended print : Note) → first_of ended print ≡ Note.Fine → print ≡ Note.Fine
first_fine Note.Fine print is = is
first_fine ended print is = absurd (cc)

-- the print's faults, by the note of both
pub wrote_after : (ended print note : Note) (before now : ℕ) → note ≡ first_of ended print → (print ≡ Note.Fine → print ≡ Note.WriteFault → ⊥)
    → CountsFaults (print ≡ Note.WriteFault) before now → WroteAfter ended note before now
wrote_after ended print note before now is apart counts = record {
  later = counts.later;
  cause = λ by. elim (first_write ended print (sym is ∙ by)) [ inl first ↦ inl first | inr printed ↦ inr (counts.cause printed) ];
  quiet = λ fine. counts.quiet (apart (first_fine ended print (sym is ∙ fine)));
}

pub fine_or_fault : (print : Note) → print ≡ Note.Fine → print ≡ Note.WriteFault → ⊥
fine_or_fault print fine fault = cc

first_of_fine : (ended : Note) → first_of ended Note.Fine ≡ ended
first_of_fine Note.Fine = refl
first_of_fine ended = refl

-- the note is that of what ended, or the print's own
pub note_of_both : (ended print note : Note) → note ≡ first_of ended print
    → (print ≡ Note.Fine) ⊎ ((print ≡ Note.WriteFault) ⊎ (print ≡ Note.NoMemory)) → (note ≡ ended) ⊎ ((note ≡ Note.WriteFault) ⊎ (note ≡ Note.NoMemory))
note_of_both ended print note is (inl fine) = inl (is ∙ ap (first_of ended) fine ∙ first_of_fine ended)
note_of_both ended print note is (inr failed) = elim (first_is ended print) [
  | inl first ↦ inl (is ∙ first)
  | inr own ↦ inr (elim failed [ inl write ↦ inl (is ∙ own ∙ write) | inr memory ↦ inr (is ∙ own ∙ memory) ])
]
