-- What a window is once the item that it lent is given back.
use Rattle.std.specs.Prelude.{◌≡◌, ◌<◌, [], ⊤, Option, Some, None}
use mathlib.Core.Option.{none}
use Rattle.std.specs.Borrow.{MutBor, Fml, follows_so}
use Rattle.http_edge.specs.declared.limits.TheConstants.{ROOM}
use Rattle.http_edge.specs.contracts.window.HttpWindow.{the_row}
use Rattle.http_edge.specs.declared.item.ItemRef.{ItemRef}
use Rattle.http_edge.specs.Lending.{GivesItem, item_of}
use Rattle.http_edge.specs.Window.{Window, held_of}

-- the first of the items that wait is lent, and no longer waits; or none waits, and there is room
abbrev pub Gives : Window → Option ItemRef → Window → Type 0
Gives old None new = (old.reading.waiting ≡ []) × (new ≡ old) × (held_of new < ROOM)
Gives old (Some i) new = GivesItem old (item_of i) new

abbrev pub Leaves : MutBor Window → Option ItemRef → Fml
Leaves s result = follows_so the_row the_row s.ghost_name none (λ _ _. ⊤) (λ v. Gives s.now result v)
