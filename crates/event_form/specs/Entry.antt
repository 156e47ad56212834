-- An entry as bytes.
use Rattle.std.specs.Prelude.{ℕ, ◌+◌, ◌<◌, ◌^◌, List, ◌∷◌, ◌++◌, length}
use Rattle.std.specs.Int.{to_be_bytes}
use mir.Syntax.{w32, w64}
use Rattle.event_form.specs.declared.limits.TheConstants.{HEAD_BYTES}
use Rattle.event_form.specs.declared.event.Origin.{Origin}
use Rattle.event_form.specs.declared.event.Origin.TheVariants.{Relp, LumberData, LumberJson, HecEvent, HecRaw}
use Rattle.event_form.specs.declared.event.Entry.{Entry}
use Rattle.event_form.specs.Event.{IsEvent}

-- the byte that stands for an origin
abbrev pub origin_code : Origin → ℕ
origin_code Relp = 1
origin_code LumberData = 2
origin_code LumberJson = 3
origin_code HecEvent = 4
origin_code HecRaw = 5

-- the limits of an entry: its numbers have eight bytes each
pub record IsEntry (e : Entry) : Type 0 where
  pub event : IsEvent e.event
  pub conn : e.conn < 2 ^ 64
  pub index : e.index < 2 ^ 64
  pub unit : e.unit < 2 ^ 64

-- 29 bytes: the origin, the connection, the index, the unit and the length of the text
unfoldable pub head_text : Entry → List ℕ
head_text e = origin_code e.event.origin ∷ to_be_bytes w64 e.conn ++ to_be_bytes w64 e.index ++ to_be_bytes w64 e.unit ++ to_be_bytes w32 (length e.event.text)

-- the head, and the event's text
unfoldable pub entry_text : Entry → List ℕ
entry_text e = head_text e ++ e.event.text

-- how many bytes that is
abbrev pub size_of : Entry → ℕ
size_of e = HEAD_BYTES + length e.event.text
