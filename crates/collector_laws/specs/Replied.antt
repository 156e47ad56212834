-- What the replies of a receiver say to the collector's sender.
use Rattle.std.specs.Prelude.{◌≢◌, ℕ, ◌<◌, ◌^◌, Bool, List, [], ◌∷◌, Option, Some, None}
use Rattle.http_reply.specs.declared.reply.HttpReply.{HttpReply}
use Rattle.hec_body.specs.Acks.{answer_of}
use Rattle.hec_sender.specs.declared.query.Query.{Query}
use Rattle.hec_sender.specs.Replies.{Says, by_ack, by_code, by_id, by_number}
use Rattle.hec_session.specs.declared.code.HecCode.{HecCode}
use Rattle.hec_session.specs.declared.code.HecCode.TheVariants.{Success}
use Rattle.hec_session.specs.Codes.{body_of, number_of, status_of, success_of}

-- the reply with the status 200 and a body, at an offset
abbrev pub reply_of : List ℕ → ℕ → HttpReply
reply_of body at = record { status = 200; body = body; at = at }

-- the number of an event, if there is one, has 64 bits
abbrev pub IsEventNumber : Option ℕ → Type 0
IsEventNumber None = Unit {0}
IsEventNumber (Some number) = number < 2 ^ 64

-- A success without an id confirms the request.
abbrev pub SuccessConfirms : Type 0
SuccessConfirms = (at : ℕ) → Says None (reply_of (success_of None) at) (by_id None)

-- A success with an id has that id asked for.
abbrev pub SuccessAsks : Type 0
SuccessAsks = (id at : ℕ) → id < 2 ^ 64 → Says None (reply_of (success_of (Some id)) at) (by_number (Some id))

-- The answer to the query of an id says whether it is known: so it confirms or denies.
abbrev pub AnswerDecides : Type 0
AnswerDecides =
    (id times at : ℕ) (known : Bool) → id < 2 ^ 64
    → Says (Some (record { id = id; times = times })) (reply_of (answer_of (id ∷ []) (known ∷ [])) at) (by_ack (by_number None) (Some known))

-- A reply with a code other than that of a success is a refusal with this code, whatever was asked, and whatever event it names.
abbrev pub OthersRefuse : Type 0
OthersRefuse =
    (asked : Option Query) (code : HecCode) (event : Option ℕ) (at : ℕ) → code ≢ Success → IsEventNumber event
    → Says asked (record { status = status_of code; body = body_of code event; at = at }) (by_code (status_of code) (by_number None) (Some (number_of code)))
