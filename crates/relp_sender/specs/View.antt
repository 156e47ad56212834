-- A sender by its fields.
use Rattle.std.specs.Prelude.{◌≡◌}
use Rattle.std.specs.VecDeque.{deque_capacity}
use Rattle.relp_sender.specs.declared.sender.RelpSender.TheInside.{Inside}
use Rattle.relp_sender.specs.Sender.{HasRoom, Keeps, Sender}

abbrev pub sender_of : Inside → Sender
sender_of r = record {
  reader = r.reader;
  stage = r.stage;
  waiting = r.waiting.items;
  written = r.written;
  unanswered = r.unanswered.items;
  first = r.first;
  told = r.told;
  beyond = r.beyond;
  finished = r.finished;
  asked = r.asked;
  stop = r.stop;
}

-- it keeps to what holds of each sender, its fault is its reader's, and there is room for the places of a window
abbrev pub KeepsFields : Inside → Type 0
KeepsFields r = Keeps (sender_of r) × (r.fault ≡ r.reader.fault) × HasRoom r.stage (deque_capacity r.unanswered)
