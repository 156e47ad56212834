-- What is written to a receiver of RELP: texts by the entries alone.
use Rattle.std.specs.Prelude.{ℕ, ◌+◌, ◌%◌, ◌<◌, List, [], ◌∷◌, ◌++◌, length, codes}
use Rattle.event_form.specs.declared.event.Event.{Event}
use Rattle.event_form.specs.declared.event.Entry.{Entry}
use Rattle.event_map.proofs.Functions.{text_of}
use Rattle.relp_frame.specs.Spelling.{frame_text}

-- The transaction number of the frame of the entry at a place: from 2 on, and after 999,999,999 from 1 on.
abbrev pub txnr_of : ℕ → ℕ
txnr_of place = (place + 1) % 999999999 + 1

-- the frame that opens the session, with what is offered, a line each
unfoldable pub open_text : List ℕ
open_text = frame_text 1 (codes "open") (codes "relp_version=0\nrelp_software=bridge,1,local\ncommands=syslog")

-- the frame of the event at a place: its text, which is the one that event_map's relation allows
unfoldable pub event_text : ℕ → Event → List ℕ
event_text place event = frame_text (txnr_of place) (codes "syslog") (text_of event)

-- the frame that closes the session, after so many entries
unfoldable pub close_text : ℕ → List ℕ
close_text place = frame_text (txnr_of place) (codes "close") []

-- the frames of these entries, of which the first stands at that place
abbrev pub frames_text : ℕ → List Entry → List ℕ
frames_text place [] = []
frames_text place (e ∷ es) = event_text place e.event ++ frames_text (place + 1) es

-- with the frame of the first of these entries, which stands at that place, the text would have more than 65,536 bytes
abbrev pub IsTooLongWith : List ℕ → ℕ → List Entry → Type 0
IsTooLongWith text place [] = ⊥
IsTooLongWith text place (e ∷ es) = 65536 < length text + length (event_text place e.event)
