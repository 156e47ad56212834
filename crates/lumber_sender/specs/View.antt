-- A sender by its fields.
use Rattle.std.specs.Prelude.{◌≡◌}
use Rattle.lumber_sender.specs.declared.sender.LumberSender.TheInside.{Inside}
use Rattle.lumber_sender.specs.Sender.{Sender, Keeps}

abbrev pub sender_of : Inside → Sender
sender_of r = record {
  reader = r.reader;
  batch = r.batch.items;
  written = r.written;
  acked = r.acked;
  done = r.done;
  heard = r.heard;
  first = r.first;
  told = r.told;
  finished = r.finished;
  asked = r.asked;
  stop = r.stop;
}

-- it keeps to what holds of each sender, and its fault is its reader's
abbrev pub KeepsFields : Inside → Type 0
KeepsFields r = Keeps (sender_of r) × (r.fault ≡ r.reader.fault)
