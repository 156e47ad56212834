use Rattle.std.proofs.Common.{◌∙◌}
use Rattle.spool_turns.specs.Rules.{handed_by}
use Rattle.spool_turns.specs.Passes.{claim_at, pass_in}
use Rattle.spool_turns.proofs.Outward.{letter_of}
use Rattle.spool_turns.proofs.going.send.Goals as goal

pub invariant_of-result : goal.invariant_of-result
invariant_of-result g c =
    let o = c.send_out-out.ensures in
    let t = c.requires.tables in
    let n = c.requires.number in
    (o.tables.1 ∙ t.0 ∙ t.1, letter_of _ _ _ _ _ _ (pass_in c.args.seat.now.me.0) _ o.out c.deref-all.ensures.value n.0 n.1 c.requires.some c.requires.few c.requires.limits c.requires.next c.requires.units c.requires.plain)

pub returns-clause-claim : goal.returns-clause-claim
returns-clause-claim g c =
    let o = c.send_out-out.ensures in
    o.claim ∙ (λ i. claim_at (c.requires.number.0 i) (handed_by (pass_in c.args.seat.now.me.0) (c.deref-all.ensures.value i) c.args.front))
