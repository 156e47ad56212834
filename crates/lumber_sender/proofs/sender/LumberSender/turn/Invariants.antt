use Rattle.std.proofs.Common.{◌≡◌, [], length, false}
use Rattle.event_form.specs.declared.turn.Turn.{Turn}
use Rattle.lumber_sender.specs.Sender.{given, extent}
use Rattle.lumber_sender.specs.Sends.{SendsOn}
use Rattle.lumber_sender.specs.Turns.{IsFor, spent}
use Rattle.lumber_sender.proofs.sender.LumberSender.turn.Given as goal

abbrev pub invariant-loop : goal.invariant-loop
invariant-loop l = record {
  sends : SendsOn l.fn.self [] l.self;
  exactly : (turn : Turn) → IsFor l.self turn → IsFor l.fn.self turn;
  asked : l.self.asked ≡ false;
  written : l.self.written ≡ length l.self.batch;
  extent : extent l.self ≡ extent l.fn.self;
  spent : spent l.self ≡ spent l.fn.self;
  given : given l.self ≡ given l.fn.self;
  first : l.self.first ≡ l.fn.self.first;
  told : l.self.told ≡ l.fn.self.told;
  finished : l.self.finished ≡ l.fn.self.finished;
}

abbrev pub decreases-loop : goal.decreases-loop
decreases-loop l = length l.self.reader.waiting
