use Rattle.std.proofs.Common.{◌==◌, [], ap, ◌∙◌}
use prog.Atomic.{either}
use mathlib.Core.Option.{some}
use Rattle.spool_turns.specs.Twins.{moved, journal_part, spool_part}
use Rattle.spool_turns.proofs.KeepsTwins.{moves_as, parts_as}
use Rattle.spool_turns.proofs.twin.apart.Goals as goal

pub compare_exchange_with-requires : goal.compare_exchange_with-requires
compare_exchange_with-requires g c = (c.requires.table.0, c.requires.table.1, moves_as _ _ 0 (λ n. either (n == 0) 0 n) _ _ _ _ c.requires.view.2)

pub split_seat-requires : goal.split_seat-requires
split_seat-requires g c =
    let x = c.compare_exchange_with.ensures in
    let now = x.2 ∙ ap (λ m. (moved (some c.args.desk.now) m.0, m.1)) c.requires.view.2 in
    (x.0 ∙ c.requires.table.0, c.requires.table.1, parts_as _ _ _ _ (ap (λ m. m.0) now))

pub returns-clause-tables : goal.returns-clause-tables
returns-clause-tables g c = (c.split_seat.ensures.0 ∙ c.compare_exchange_with.ensures.0, c.split_seat.ensures.3 ∙ c.compare_exchange_with.ensures.0)

pub returns-clause-journal : goal.returns-clause-journal
returns-clause-journal g c =
    let now = c.compare_exchange_with.ensures.2 ∙ ap (λ m. (moved (some c.args.desk.now) m.0, m.1)) c.requires.view.2 in
    c.split_seat.ensures.2 ∙ ap (λ m. (journal_part m.0, m.1)) now

pub returns-clause-spool : goal.returns-clause-spool
returns-clause-spool g c =
    let now = c.compare_exchange_with.ensures.2 ∙ ap (λ m. (moved (some c.args.desk.now) m.0, m.1)) c.requires.view.2 in
    c.split_seat.ensures.4 ∙ ap (λ m. (spool_part m.0, [])) now
