use Rattle.std.proofs.Common.{◌∙◌, length, refl, sym, ap, arith, subst}
use Rattle.std.specs.Prelude.{Result}
use Rattle.spool_faults.specs.declared.fault.TakeFault.{TakeFault}
use Rattle.spool_log.specs.State.{view}
use Rattle.spool_move.specs.Reading.{as_entry}
use Rattle.spool_move.specs.Walking.{WalksOne}
use Rattle.spool_move.proofs.Results.{is_err}
use Rattle.spool_move.proofs.Steps.{one_present, walks_present, walks_taken, walks_refused}
use Rattle.spool_move.proofs.walking.taking.walk_one.Goals as goal

pub returns-then-contains-clause-counted : goal.returns-then-contains-clause-counted
returns-then-contains-clause-counted g c = (
  refl,
  omega (arith, ap length (one_present c.args.present.now (as_entry c.args.one) (sym c.contains.ensures ∙ c.if-contains.true))),
)

pub returns-then-contains-clause-walked : goal.returns-then-contains-clause-walked
returns-then-contains-clause-walked g c = λ t tells held.
    let old = view c.args.target.now.memory c.args.target.now.doubt (g.E.Disk.moment c.args.target.now.disk) in
    walks_present c.args.tag c.args.present.now (as_entry c.args.one) t old old held (g.met.E.Disk.lawful c.args.target.now.disk tells) (sym c.contains.ensures ∙ c.if-contains.true)

pub returns-in_err-take_one-clause-walked : goal.returns-in_err-take_one-clause-walked
returns-in_err-take_one-clause-walked g c = λ t tells held.
    let old = view c.args.target.now.memory c.args.target.now.doubt (g.E.Disk.moment c.args.target.now.disk) in
    let new = view c.take_one.new.target.memory c.take_one.new.target.doubt (g.E.Disk.moment c.take_one.new.target.disk) in
    let fault = c.in_err-take_one.field-0.0 in
    subst (λ (r : Result (Unit {0}) TakeFault). WalksOne c.args.tag c.args.present.now (as_entry c.args.one) t r old new) (sym (is_err c.from_residual.result fault c.from_residual.ensures.1))
    (walks_refused c.args.tag c.args.present.now (as_entry c.args.one) t old new held fault (sym c.contains.ensures ∙ c.if-contains.false) (c.in_err-take_one.ensures.taken t tells held))

pub returns-clause-walked : goal.returns-clause-walked
returns-clause-walked g c = λ t tells held.
    let old = view c.args.target.now.memory c.args.target.now.doubt (g.E.Disk.moment c.args.target.now.disk) in
    let new = view c.take_one.new.target.memory c.take_one.new.target.doubt (g.E.Disk.moment c.take_one.new.target.disk) in
    walks_taken c.args.tag c.args.present.now (as_entry c.args.one) t old new held (sym c.contains.ensures ∙ c.if-contains.false) (c.in_ok-take_one.ensures.taken t tells held)
