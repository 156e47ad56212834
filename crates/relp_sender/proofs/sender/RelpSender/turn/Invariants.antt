use Rattle.std.proofs.Common.{◌≡◌, ◌≤◌, [], length, false}
use Rattle.relp_sender.specs.Due.{Suits}
use Rattle.relp_sender.specs.Sender.{HasTold}
use Rattle.relp_sender.specs.Sends.{SendsOn}
use Rattle.relp_sender.specs.Spending.{spent}
use Rattle.relp_sender.specs.Turns.{Hears, Stays}
use Rattle.relp_sender.proofs.sender.RelpSender.turn.Given as goal

abbrev pub invariant-loop-goes_on : goal.invariant-loop-goes_on
invariant-loop-goes_on l = record {
  sends : SendsOn l.fn.self [] [] l.self;
  suits : Suits l.self l.next;
  still : (Hears l.fn.self → ⊥) → (l.self ≡ record l.fn.self { asked = false }) × (l.goes_on ≡ false);
  asked : l.self.asked ≡ false;
  stays : Stays l.fn.self l.self;
  told : l.self.told ≡ l.fn.self.told;
  raised : spent l.fn.self ≤ spent l.self;
  rests : HasTold l.self → spent l.self ≡ spent l.fn.self;
}

abbrev pub decreases-loop-goes_on : goal.decreases-loop-goes_on
decreases-loop-goes_on l = length l.self.reader.waiting
