-- What is held once the next item is given.
use Rattle.std.specs.Prelude.{◌≡◌, ◌≤◌, ◌<◌, [], length, slice_range, Option, Some, None}
use Rattle.http_edge.specs.declared.held.Held.{Held}
use Rattle.http_edge.specs.declared.held.Given.{Given}
use Rattle.http_edge.specs.declared.held.Given.TheVariants.{Continue, Request}
use Rattle.http_edge.specs.declared.request.HttpItem.TheVariants as item
use Rattle.http_edge.specs.declared.limits.TheConstants.{ROOM}
use Rattle.http_edge.specs.Filling.{Fills, window_of}
use Rattle.http_edge.specs.Lending.{GivesItem}
use Rattle.http_edge.specs.Waits.{with_body}
use Rattle.http_edge.specs.Window.{held_of}

-- the next item, whose body stands between the places
abbrev pub GivesNext : Held → Option Given → Held → Type 0
GivesNext old None new = Fills new × ((window_of old).reading.waiting ≡ []) × (window_of new ≡ window_of old) × (held_of (window_of new) < ROOM)
GivesNext old (Some Continue) new = Fills new × GivesItem (window_of old) item.Continue (window_of new)
GivesNext old (Some (Request from to)) new =
    Fills new × (from ≤ to) × (to ≤ length new.bytes.items)
    × GivesItem (window_of old) (item.Request (with_body new.lent (slice_range new.bytes.items from to))) (window_of new)
