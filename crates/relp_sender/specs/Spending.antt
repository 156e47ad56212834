-- A number that each text and each report of an acknowledgment raises, so that their turns come to an end.
use Rattle.std.specs.Prelude.{◌≡◌, ℕ, ◌+◌, ◌-◌, ◌*◌, ◌<◌, min, length, Option, Some, None}
use Rattle.event_form.specs.declared.turn.Turn.{Turn}
use Rattle.event_form.specs.declared.turn.Turn.TheVariants.{Write, Confirmed, Also}
use Rattle.relp_sender.specs.declared.stage.Stage.{Stage}
use Rattle.relp_sender.specs.declared.stage.Stage.TheVariants.{Fresh, Opening, Open, Closed}
use Rattle.relp_sender.specs.Sender.{Sender}
use Rattle.relp_sender.specs.Window.{first_open}

-- how many frames were written that open or close the session
abbrev pub rank : Stage → ℕ
rank Fresh = 0
rank Opening = 1
rank Open = 1
rank Closed = 2

-- how many places there are
abbrev pub count_of : Option ℕ → ℕ
count_of None = 0
count_of (Some place) = 1

-- how many reports are due
abbrev pub due_reports : Sender → ℕ
due_reports s = min 1 (first_open s.unanswered s.written - s.told) + count_of s.beyond

-- Twice the frames of entries, and those that open or close the session, less the frames that are not answered and the
-- reports that are due, of which there are fewer than 2,048.
abbrev pub spent : Sender → ℕ
spent s = rank s.stage + 2 * s.written + (2048 - (length s.unanswered + due_reports s))

-- a text and a report make it greater, and nothing else changes it
abbrev pub IsSpent : Turn → ℕ → ℕ → Type 0
IsSpent (Write text) before now = before < now
IsSpent (Confirmed upto) before now = before < now
IsSpent (Also from to) before now = before < now
IsSpent turn before now = now ≡ before
