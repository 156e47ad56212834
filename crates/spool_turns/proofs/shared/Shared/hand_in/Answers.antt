use Rattle.std.proofs.Common.{◌∙◌, sym, subst}
use Rattle.desk_access.specs.Batch.{MayTake, MayUse}
use Rattle.desk_access.specs.Legal.{IsNext, IsUnused}
use Rattle.desk_seats.specs.Passes.{Known}
use Rattle.spool_turns.specs.Passes.{pass_in}
use Rattle.spool_turns.proofs.Outward.{is_claim, number_out, claimed_is, entries_out, front_out}
use Rattle.spool_turns.proofs.shared.Shared.hand_in.Goals as goal

pub send-letter-requires : goal.send-letter-requires
send-letter-requires g c =
    let i = c.pass.invariant in
    let may = subst (λ (k : Known). MayTake (IsNext g.J.Naming.run k.number k.own) c.args.entries.items × MayUse (IsUnused k.own) c.args.entries.items) (sym c.pass.view_is) (c.requires.next, c.requires.units) in
    record {
      tables = (i.0 ∙ sym c.args.self.now.table_is, c.args.self.now.table_is, c.args.self.now.words);
      pass = (i.1, i.5);
      number = (i.3, i.4);
      some = c.requires.some;
      few = c.requires.few;
      limits = c.requires.limits;
      next = subst (λ n. MayTake (IsNext g.J.Naming.run n (pass_in c.pass.inside.seat.me.0).own) c.args.entries.items) i.3 may.0;
      units = may.1;
      plain = λ front. absurd (cc front);
    }

pub invariant_of-result : goal.invariant_of-result
invariant_of-result g c =
    let i = c.pass.invariant in
    let s = c.send-letter.ensures in
    (s.table ∙ i.0, is_claim _ (pass_in c.pass.inside.seat.me.0) _ _ _ s.claim i.3, number_out _ (pass_in c.pass.inside.seat.me.0) _ _ _ s.claim i.3, i.4, front_out _ (pass_in c.pass.inside.seat.me.0) _ _ _ s.claim i.3, c.requires.group)

pub returns-clause-pass : goal.returns-clause-pass
returns-clause-pass g c = claimed_is _ (pass_in c.pass.inside.seat.me.0) _ _ _ c.send-letter.ensures.claim c.pass.invariant.3 ∙ c.pass.view_is

pub returns-clause-entries : goal.returns-clause-entries
returns-clause-entries g c = entries_out _ (pass_in c.pass.inside.seat.me.0) _ _ _ c.send-letter.ensures.claim c.pass.invariant.3
