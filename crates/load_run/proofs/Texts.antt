-- The stream and the peer's bytes, one event after another.
use Rattle.std.proofs.Common.{◌≡◌, ℕ, ◌+◌, ◌-◌, ◌*◌, ◌%◌, ◌<◌, ◌≤◌, suc, List, [], ◌∷◌, ◌++◌, length, refl, sym, ◌∙◌, ap, arith, append_assoc}
use Rattle.std.specs.Prelude.{codes, None, false, min}
use Rattle.std.proofs.lemmas.List.{append-nil}
use Rattle.http_edge.specs.Reply.{reply_text}
use Rattle.hec_session.specs.Codes.{success_of}
use Rattle.lumber_frame.specs.Spelling.{ack_text, json_text}
use Rattle.relp_frame.specs.Spelling.{frame_text}
use Rattle.event_map.specs.Objects.{event_object, message_object}
use Rattle.event_map.specs.Strings.{event_string}
use Rattle.hec_sender.specs.Texts.{post_text}
use Rattle.load_run.specs.Events.{next_number, load_text, load_texts}
use Rattle.load_run.specs.Peer.{relp_replies, successes, window_acks}
use Rattle.load_run.specs.Stream.{hec_stream, lumber_stream, offers, relp_stream, syslog_frames, terms, window_at}
use Rattle.load_run.proofs.Shorts.{length-texts}

-- where an event is to come, its text is the first of those left
pub texts_next : (place x next count : ℕ) → place < count → next ≡ next_number x → load_texts place x (count - place) ≡ load_text place next ∷ load_texts (place + 1) next (count - (place + 1))
texts_next place x next count lt is =
    let more : count - place ≡ suc (count - (place + 1)) = omega arith in
    ap (load_texts place x) more ∙ ap (λ (n : ℕ). load_text place n ∷ load_texts (place + 1) n (count - (place + 1))) (sym is)

-- a piece more was written of all that is to come
pub piece_on : (out after piece rest all whole : List ℕ) → all ≡ piece ++ rest → after ≡ out ++ piece → out ++ all ≡ whole → after ++ rest ≡ whole
piece_on out after piece rest all whole parts is so_far = ap (λ (l : List ℕ). l ++ rest) is ∙ append_assoc out piece rest ∙ ap (λ (l : List ℕ). out ++ l) (sym parts) ∙ so_far

pub relp_next : (place x next count : ℕ) (out after whole : List ℕ) → place < count → next ≡ next_number x → after ≡ out ++ frame_text (place + 2) (codes "syslog") (load_text place next) → out ++ syslog_frames place (load_texts place x (count - place)) ≡ whole
    → after ++ syslog_frames (place + 1) (load_texts (place + 1) next (count - (place + 1))) ≡ whole
relp_next place x next count out after whole lt nexts is so_far = piece_on out after _ _ _ whole (ap (syslog_frames place) (texts_next place x next count lt nexts)) is so_far

pub lumber_next : (place x next count : ℕ) (out between after whole : List ℕ) → place < count → next ≡ next_number x → between ≡ out ++ window_at place (count - place) → after ≡ between ++ json_text (place % 128 + 1) (message_object (load_text place next))
    → out ++ lumber_stream place (load_texts place x (count - place)) ≡ whole → after ++ lumber_stream (place + 1) (load_texts (place + 1) next (count - (place + 1))) ≡ whole
lumber_next place x next count out between after whole lt nexts window is so_far =
    let texts = load_texts (place + 1) next (count - (place + 1)) in
    let frame = json_text (place % 128 + 1) (message_object (load_text place next)) in
    let more : length texts + 1 ≡ count - place = omega (arith, length-texts (place + 1) next (count - (place + 1))) in
    let parts : lumber_stream place (load_texts place x (count - place)) ≡ window_at place (count - place) ++ (frame ++ lumber_stream (place + 1) texts) = ap (lumber_stream place) (texts_next place x next count lt nexts) ∙ ap (λ (n : ℕ). window_at place n ++ (frame ++ lumber_stream (place + 1) texts)) more in
    piece_on between after frame (lumber_stream (place + 1) texts) (frame ++ lumber_stream (place + 1) texts) whole refl is
    (piece_on out between (window_at place (count - place)) (frame ++ lumber_stream (place + 1) texts) _ whole parts window so_far)

pub hec_next : (place x next count : ℕ) (out after whole : List ℕ) → place < count → next ≡ next_number x → after ≡ out ++ post_text terms (codes "/services/collector/event") (event_object (event_string (load_text place next))) → out ++ hec_stream (load_texts place x (count - place)) ≡ whole
    → after ++ hec_stream (load_texts (place + 1) next (count - (place + 1))) ≡ whole
hec_next place x next count out after whole lt nexts is so_far = piece_on out after _ _ _ whole (ap hec_stream (texts_next place x next count lt nexts)) is so_far

-- after the last one the session is closed
pub relp_whole : (number count place x : ℕ) (out after : List ℕ) → count ≤ place → out ++ syslog_frames place (load_texts place x (count - place)) ≡ frame_text 1 (codes "open") offers ++ syslog_frames 0 (load_texts 0 number count)
    → after ≡ out ++ frame_text (count + 2) (codes "close") [] → after ≡ relp_stream (load_texts 0 number count)
relp_whole number count place x out after le so_far is =
    let none : count - place ≡ 0 = omega arith in
    let events = syslog_frames 0 (load_texts 0 number count) in
    let last = frame_text (count + 2) (codes "close") [] in
    let whole : out ≡ frame_text 1 (codes "open") offers ++ events = sym (append-nil out) ∙ ap (λ (n : ℕ). out ++ syslog_frames place (load_texts place x n)) (sym none) ∙ so_far in
    is ∙ ap (λ (l : List ℕ). l ++ last) whole ∙ append_assoc (frame_text 1 (codes "open") offers) events last
    ∙ ap (λ (n : ℕ). frame_text 1 (codes "open") offers ++ (events ++ frame_text (n + 2) (codes "close") [])) (sym (length-texts 0 number count))

-- ---- the peer

pub replies_next : (txnr count : ℕ) (out after whole : List ℕ) → txnr < count + 2 → after ≡ out ++ frame_text txnr (codes "rsp") (codes "200 OK") → out ++ relp_replies txnr (count + 2 - txnr) ≡ whole → after ++ relp_replies (txnr + 1) (count + 2 - (txnr + 1)) ≡ whole
replies_next txnr count out after whole lt is so_far =
    let more : count + 2 - txnr ≡ suc (count + 2 - (txnr + 1)) = omega arith in
    piece_on out after _ _ _ whole (ap (relp_replies txnr) more) is so_far

pub acks_next : (window runs count : ℕ) (out after whole : List ℕ) → window < runs → after ≡ out ++ ack_text (min 128 (count - window * 128)) → out ++ window_acks (runs - window) (count - window * 128) ≡ whole → after ++ window_acks (runs - (window + 1)) (count - (window + 1) * 128) ≡ whole
acks_next window runs count out after whole lt is so_far =
    let more : runs - window ≡ suc (runs - (window + 1)) = omega arith in
    let less : count - window * 128 - 128 ≡ count - (window + 1) * 128 = omega arith in
    piece_on out after _ _ _ whole (ap (λ (n : ℕ). window_acks n (count - window * 128)) more ∙ ap (λ (n : ℕ). ack_text (min 128 (count - window * 128)) ++ window_acks (runs - (window + 1)) n) less) is so_far

pub successes_next : (request runs : ℕ) (out after whole : List ℕ) → request < runs → after ≡ out ++ reply_text 200 false (success_of None) → out ++ successes (runs - request) ≡ whole → after ++ successes (runs - (request + 1)) ≡ whole
successes_next request runs out after whole lt is so_far =
    let more : runs - request ≡ suc (runs - (request + 1)) = omega arith in
    piece_on out after _ _ _ whole (ap successes more) is so_far
