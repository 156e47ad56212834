-- What holds of requests and of replies alone.
use Rattle.std.specs.Prelude.{◌≡◌, ℕ, ◌≤◌, List, length, Option, All}
use Rattle.event_form.specs.declared.event.Entry.{Entry}
use Rattle.event_form.specs.Event.{IsEvent}
use Rattle.http_reply.specs.declared.reply.HttpReply.{HttpReply}
use Rattle.hec_sender.specs.declared.limits.TheConstants.{MOST_BODY}
use Rattle.hec_sender.specs.declared.query.Query.{Query}
use Rattle.hec_sender.specs.declared.verdict.Verdict.{Verdict}
use Rattle.hec_sender.specs.Texts.{objects_text}
use Rattle.hec_sender.specs.Requests.{request_of}
use Rattle.hec_sender.specs.Replies.{Says}

-- The body of each request fits.
abbrev pub RequestsFit : Type 0
RequestsFit =
    (place : ℕ) (entries : List Entry) → All (λ (e : Entry). IsEvent e.event) entries
    → length (objects_text (request_of place entries)) ≤ MOST_BODY

-- A reply says one thing.
abbrev pub OneVerdict : Type 0
OneVerdict = (asked : Option Query) (reply : HttpReply) (v w : Verdict) → Says asked reply v → Says asked reply w → v ≡ w
