-- A pass that is out, as its caller sees it.
use Rattle.std.specs.Prelude.{List}
use Rattle.event_form.specs.declared.event.Entry.{Entry}
use Rattle.spool_turns.specs.Rules.{View}
use Rattle.desk_seats.specs.Passes.{Known}
use Rattle.spool_turns.specs.Passes.{number_in, handed_in}
use Rattle.spool_turns.specs.Letters.{claimed}

-- what the pass knew when it handed in, and the entries
pub record Sent : Type 0 where
  pub pass : Known
  pub entries : List Entry

-- what a claim says
abbrev pub sent_of : View → Sent
sent_of claim = record { pass = claimed (number_in claim) (handed_in claim); entries = (handed_in claim).entries }
