-- What a window is once the item that it lent is given back.
use Rattle.std.specs.Prelude.{◌≡◌, ◌≤◌, [], ◌∷◌}
use Rattle.stream_grammar.specs.Feeding.{GivesOn}
use Rattle.http_edge.specs.declared.request.HttpItem.{HttpItem}
use Rattle.http_edge.specs.declared.item.ItemRef.{ItemRef}
use Rattle.http_edge.specs.declared.item.ItemRef.TheVariants as lent
use Rattle.http_edge.specs.declared.request.HttpItem.TheVariants.{Continue, Request}
use Rattle.http_edge.specs.Reading.{come}
use Rattle.http_edge.specs.Waits.{with_body}
use Rattle.http_edge.specs.Window.{Window, Reads, held_of}

-- the item that is lent
abbrev pub item_of : ItemRef → HttpItem
item_of lent.Continue = Continue
item_of (lent.Request head body) = Request (with_body head.now body.now)

-- the first of the items that wait is given, and no longer waits or counts
pub record GivesItem (old : Window) (i : HttpItem) (new : Window) : Type 0 where
  pub first : old.reading.waiting ≡ i ∷ new.reading.waiting
  pub same : new.reading ≡ record old.reading { waiting = new.reading.waiting }
  pub at_is : new.reading.at ≡ old.reading.at
  pub come_is : come new.reading ≡ come old.reading
  pub less : held_of new ≤ held_of old
  pub reads : GivesOn Reads old (i ∷ []) new
