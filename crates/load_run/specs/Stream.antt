-- The stream of a load, by the protocol.
use Rattle.std.specs.Prelude.{ℕ, ◌+◌, ◌%◌, ◌==◌, min, if◌then◌else◌, List, [], ◌∷◌, ◌++◌, length, codes}
use Rattle.edge_io.specs.declared.proto.Proto.{Proto}
use Rattle.edge_io.specs.declared.proto.Proto.TheVariants.{Relp, Lumberjack, Hec}
use Rattle.relp_frame.specs.Spelling.{frame_text}
use Rattle.lumber_frame.specs.Spelling.{window_text, json_text}
use Rattle.event_map.specs.Objects.{message_object, event_object}
use Rattle.event_map.specs.Strings.{event_string}
use Rattle.hec_sender.specs.Texts.{post_text}
use Rattle.hec_sender.specs.declared.terms.Terms.{Terms}
use Rattle.load_run.specs.Events.{load_texts}

-- ---- RELP

-- what is offered, a line each
abbrev pub offers : List ℕ
offers = codes "relp_version=0\nrelp_software=bridge,1,local\ncommands=syslog"

-- a `syslog` frame for each text; the frame of the text at a place has the transaction number that is 2 more
abbrev pub syslog_frames : ℕ → List (List ℕ) → List ℕ
syslog_frames place [] = []
syslog_frames place (text ∷ texts) = frame_text (place + 2) (codes "syslog") text ++ syslog_frames (place + 1) texts

-- the frame that opens the session, those of the texts, and the one that closes it
abbrev pub relp_stream : List (List ℕ) → List ℕ
relp_stream texts = frame_text 1 (codes "open") offers ++ (syslog_frames 0 texts ++ frame_text (length texts + 2) (codes "close") [])

-- ---- Lumberjack

-- a window begins at each 128th place, of as many frames as are to come, at most 128
abbrev pub window_at : ℕ → ℕ → List ℕ
window_at place more = if place % 128 == 0 then window_text (min 128 more) else []

-- the windows and their J frames, which are numbered from 1
abbrev pub lumber_stream : ℕ → List (List ℕ) → List ℕ
lumber_stream place [] = []
lumber_stream place (text ∷ texts) =
    window_at place (length texts + 1) ++ (json_text (place % 128 + 1) (message_object text) ++ lumber_stream (place + 1) texts)

-- ---- the collector

-- the token and the channel
abbrev pub terms : Terms
terms = record { token = 1; channel = 2; polls = 1 }

-- a POST for each text, of one event object
abbrev pub hec_stream : List (List ℕ) → List ℕ
hec_stream [] = []
hec_stream (text ∷ texts) = post_text terms (codes "/services/collector/event") (event_object (event_string text)) ++ hec_stream texts

-- ---- the stream of so many events after a number

abbrev pub stream_by : Proto → List (List ℕ) → List ℕ
stream_by Relp texts = relp_stream texts
stream_by Lumberjack texts = lumber_stream 0 texts
stream_by Hec texts = hec_stream texts

abbrev pub stream_of : Proto → ℕ → ℕ → List ℕ
stream_of proto number count = stream_by proto (load_texts 0 number count)
