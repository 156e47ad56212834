use Rattle.std.proofs.Common.{drop, ◌≡◌, ◌∷◌, subst}
use Rattle.relp_sender.specs.Hearing.{IsHeard}
use Rattle.relp_sender.specs.Sender.{Sender}
use Rattle.relp_sender.proofs.sender.RelpSender.next_heard.Goals as goal

pub returns-then-may_hear-clause-some : goal.returns-then-may_hear-clause-some
returns-then-may_hear-clause-some c =
    let p = c.in_ok-placed.placed.now in
    record {
      placed = p;
      rest = drop 1 c.args.self.now.reader.waiting;
      waits = subst (λ (s : Sender). s.reader.waiting ≡ p ∷ drop 1 s.reader.waiting) c.self.view_is c.in_ok-placed.ensures.first;
      is = subst (λ (s : Sender). IsHeard s.stage s.unanswered p.at p.frame c.hear-heard.result) c.self.view_is c.hear-heard.ensures;
      may = c.may_hear.ensures.may c.if-may_hear.true;
    }
