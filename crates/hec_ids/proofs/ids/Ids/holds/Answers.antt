use Rattle.std.proofs.Common.{◌+◌, ◌*◌, ◌^◌, is_some, sym, ◌∙◌, ap}
use Rattle.hec_ids.specs.Table.{Table, holds}
use Rattle.hec_ids.proofs.EntryLaws.{holds_is}
use Rattle.hec_ids.proofs.ids.Ids.holds.Goals as goal

pub returns : goal.returns
returns c =
    let a = c.self.inside in
    c.is_some.ensures ∙ ap is_some c.state_of.ensures
    ∙ sym (holds_is c.args.channel c.args.id (a.run * 2 ^ 32) (a.run * 2 ^ 32 + a.used) a.issued.entries c.self.invariant.sound.rising)
    ∙ ap (λ (t : Table). holds c.args.channel c.args.id t.held) c.self.view_is
