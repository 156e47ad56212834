use Rattle.std.proofs.Common.{inl, inr, Option, sym, ◌∙◌, subst}
use Rattle.spool_slots.specs.Mark.{IsMark}
use Rattle.spool_log.specs.declared.reading.bookmark.Bookmark.{Bookmark}
use Rattle.spool_log.specs.Reading.Marked.{IsMarkOf}
use Rattle.spool_log.proofs.reading.entries.start_in.Goals as goal

pub returns-then-number-slot-clause-mark : goal.returns-then-number-slot-clause-mark
returns-then-number-slot-clause-mark c = λ segment bytes knows marked.
    let marks = subst (λ (b : Option Bookmark). IsMarkOf b segment) c.in-Some.is marked (sym (c.if-kept-slot.true ∙ knows.ordinal)) in
    elim c.nearest-mark.ensures [ inl began ↦ subst (IsMark segment) (sym began) marks.began | inr ended ↦ subst (IsMark segment) (sym ended) marks.ended ]

pub returns-clause-mark : goal.returns-clause-mark
returns-clause-mark c = λ segment bytes knows marked. c.start.ensures.mark segment bytes knows
