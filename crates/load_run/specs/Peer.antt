-- What a peer sends that confirms all entries of a drain, by the protocol.
use Rattle.std.specs.Prelude.{ℕ, zero, suc, ◌+◌, ◌-◌, ◌/◌, min, None, false, List, [], ◌++◌, codes}
use Rattle.edge_io.specs.declared.proto.Proto.{Proto}
use Rattle.edge_io.specs.declared.proto.Proto.TheVariants.{Relp, Lumberjack, Hec}
use Rattle.relp_frame.specs.Spelling.{frame_text}
use Rattle.lumber_frame.specs.Spelling.{ack_text}
use Rattle.http_edge.specs.Reply.{reply_text}
use Rattle.hec_session.specs.Codes.{success_of}

-- `200 OK` to so many transaction numbers from one on
abbrev pub relp_replies : ℕ → ℕ → List ℕ
relp_replies txnr zero = []
relp_replies txnr (suc n) = frame_text txnr (codes "rsp") (codes "200 OK") ++ relp_replies (txnr + 1) n

-- an acknowledgment for each of so many windows, in which that many entries stand
abbrev pub window_acks : ℕ → ℕ → List ℕ
window_acks zero entries = []
window_acks (suc windows) entries = ack_text (min 128 entries) ++ window_acks windows (entries - 128)

-- Success without an id for each of so many requests
abbrev pub successes : ℕ → List ℕ
successes zero = []
successes (suc requests) = reply_text 200 false (success_of None) ++ successes requests

-- how many windows or requests of 128 so many entries are
abbrev pub runs_of : ℕ → ℕ
runs_of count = (count + 127) / 128

abbrev pub peer_of : Proto → ℕ → List ℕ
peer_of Relp count = relp_replies 1 (count + 1)
peer_of Lumberjack count = window_acks (runs_of count) count
peer_of Hec count = successes (runs_of count)
