use Rattle.std.proofs.Common.{◌+◌, ◌++◌, List, sym, ◌∙◌, ap, subst, arith}
use Rattle.std.proofs.lemmas.Bool.{false≢true}
use Rattle.std.proofs.lemmas.List.{append-nil}
use Rattle.spool_state.specs.Left.{NumberedEntry}
use Rattle.spool_answers.specs.Pend.{given_entries, AreNumbered}
use Rattle.spool_log.proofs.Scans.Known.{one_known, one_unknown, given_push, numbered_later, numbered_push}
use Rattle.spool_log.proofs.reading.entries.give_one.Goals as goal

pub returns-then-contains-clause-numbered : goal.returns-then-contains-clause-numbered
returns-then-contains-clause-numbered c = λ from ge entry before. numbered_later from c.args.number _ c.args.given.now.items (omega arith) before

pub returns-then-contains-clause-given : goal.returns-then-contains-clause-given
returns-then-contains-clause-given c =
    let given = given_entries c.args.given.now.items in
    sym (ap (λ (l : List NumberedEntry). given ++ l) (one_known c.args.numbers.now c.args.number c.args.entry (c.contains.ensures.0 c.if-contains.true)) ∙ append-nil given)

pub returns-clause-numbered : goal.returns-clause-numbered
returns-clause-numbered c = λ from ge entry before.
    subst (AreNumbered from (c.args.number + 1)) (sym c.in-Ok.ensures.items) (numbered_push from c.args.number c.args.given.now.items (record { number = c.args.number; entry = c.args.entry }) ge before (omega arith) entry)

pub returns-clause-given : goal.returns-clause-given
returns-clause-given c =
    let given = given_entries c.args.given.now.items in
    ap given_entries c.in-Ok.ensures.items
    ∙ given_push c.args.given.now.items (record { number = c.args.number; entry = c.args.entry })
    ∙ ap (λ (l : List NumberedEntry). given ++ l) (sym (one_unknown c.args.numbers.now c.args.number c.args.entry (λ known. false≢true (sym c.if-contains.false ∙ c.contains.ensures.1 known))))
