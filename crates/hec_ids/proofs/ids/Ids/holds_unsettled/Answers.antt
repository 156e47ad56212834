use Rattle.std.proofs.Common.{◌+◌, ◌*◌, ◌^◌, sym, ◌∙◌, ap}
use Rattle.std.specs.Prelude.{not}
use Rattle.hec_ids.specs.Table.{Table, holds_unsettled}
use Rattle.hec_ids.specs.Kept.{is_some_that}
use Rattle.hec_ids.proofs.EntryLaws.{answer_is}
use Rattle.hec_ids.proofs.ids.Ids.holds_unsettled.Goals as goal

pub returns-in-Some : goal.returns-in-Some
returns-in-Some c =
    let a = c.self.inside in
    ap (is_some_that not) (sym c.in-Some.is ∙ c.state_of.ensures)
    ∙ sym (answer_is not c.args.channel c.args.id (a.run * 2 ^ 32) (a.run * 2 ^ 32 + a.used) a.issued.entries c.self.invariant.sound.rising)
    ∙ ap (λ (t : Table). holds_unsettled c.args.channel c.args.id t.held) c.self.view_is

pub returns-in-None : goal.returns-in-None
returns-in-None c =
    let a = c.self.inside in
    ap (is_some_that not) (sym c.in-None.is ∙ c.state_of.ensures)
    ∙ sym (answer_is not c.args.channel c.args.id (a.run * 2 ^ 32) (a.run * 2 ^ 32 + a.used) a.issued.entries c.self.invariant.sound.rising)
    ∙ ap (λ (t : Table). holds_unsettled c.args.channel c.args.id t.held) c.self.view_is
