use Rattle.std.proofs.Common.{[], ◌∷◌, sym, ap, ◌∙◌, arith}
use Rattle.spool_log.specs.Memory.{run_of}
use Rattle.spool_desk.specs.Standing.{standing_in}
use Rattle.spool_turns.proofs.KeepsRule.{begins}
use Rattle.spool_turns.proofs.KeepsTwins as Twins
use Rattle.spool_turns.proofs.Led.{stays}
use Rattle.spool_turns.proofs.unnamed.Unnamed.new.Goals as goal

pub of_words-requires : goal.of_words-requires
of_words-requires g c = begins c.end-end.result c.cursor-cursor.result c.end-end.ensures.limit

pub invariant_of-result-clause-none_held : goal.invariant_of-result-clause-none_held
invariant_of-result-clause-none_held g c =
    let d = c.cursor-cursor.ensures.same.0 ∙ c.end-end.ensures.same.0 ∙ c.new-alone.ensures.desk in
    ap (λ x. x.ids.held) d ∙ ap (λ t. t.held) c.requires.ids.2

pub invariant_of-result-clause-told : goal.invariant_of-result-clause-told
invariant_of-result-clause-told g c =
    let e = c.end-end.ensures in
    let k = c.cursor-cursor.ensures in
    (omega (arith, e.least, e.known, k.same.2, ap (λ d. (standing_in d.spool.memory).end) k.same.0), omega (arith, k.least, k.known))

pub of_words-requires-2 : goal.of_words-requires-2
of_words-requires-2 g c = Twins.begins (0 ∷ []) _

pub invariant_of-result-clause-ids_of_run : goal.invariant_of-result-clause-ids_of_run
invariant_of-result-clause-ids_of_run g c =
    let d = c.cursor-cursor.ensures.same.0 ∙ c.end-end.ensures.same.0 ∙ c.new-alone.ensures.desk in
    ap (λ x. x.ids.run) d ∙ ap (λ t. t.run) c.requires.ids.2 ∙ sym (c.run-run.ensures ∙ ap (λ x. run_of x.spool.memory) d)

pub returns-clause-at : goal.returns-clause-at
returns-clause-at g c = λ s told is. stays g.D.Disk.tells _ _ c.cursor-cursor.ensures.runs _ told (stays g.D.Disk.tells _ _ c.end-end.ensures.runs _ told (c.new-alone.ensures.at s is))
