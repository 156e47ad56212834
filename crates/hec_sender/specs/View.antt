-- A sender by its fields.
use Rattle.std.specs.Prelude.{◌≡◌, ℕ, ◌≤◌, List, length, drop}
use Rattle.event_form.specs.declared.event.Entry.{Entry}
use Rattle.hec_sender.specs.declared.sender.HecSender.TheInside.{Inside}
use Rattle.hec_sender.specs.declared.stage.Stage.{Stage}
use Rattle.hec_sender.specs.declared.stage.Stage.TheVariants.{Unsent}
use Rattle.hec_sender.specs.Requests.{request_of}
use Rattle.hec_sender.specs.Sender.{Sender, Keeps}

abbrev pub sender_of : Inside → Sender
sender_of r = record {
  terms = r.terms;
  reader = r.reader;
  rest = drop r.from r.batch.items;
  stage = r.stage;
  done = r.done;
  requests = r.requests;
  first = r.first;
  finished = r.finished;
  asked = r.asked;
  stop = r.stop;
}

-- the request under way, where one is, has so many entries
abbrev pub IsSize : Stage → ℕ → List Entry → ℕ → Type 0
IsSize Unsent done rest size = Unit {0}
IsSize stage done rest size = size ≡ length (request_of done rest)

-- it keeps to what holds of each sender, its fault is its reader's, and it knows the size of the request under way
pub record KeepsFields (r : Inside) : Type 0 where
  pub keeps : Keeps (sender_of r)
  pub fault : r.fault ≡ r.reader.fault
  pub size : IsSize r.stage r.done (drop r.from r.batch.items) r.size
  pub within : r.from ≤ length r.batch.items
