-- The codes of replies ("Troubleshoot HTTP Event Collector", possible error codes), and their bodies.
use Rattle.std.specs.Prelude.{◌≡◌, ℕ, IsTrue, List, [], ◌++◌, Option, Some, None, codes}
use Rattle.std.specs.Fmt.{decimal}
use Rattle.http_edge.specs.Reply.{is_status}
use Rattle.hec_session.specs.declared.code.HecCode.{HecCode}
use Rattle.hec_session.specs.declared.code.HecCode.TheVariants.{Success, TokenRequired, InvalidAuthorization, InvalidToken, EmptyBody, InvalidFormat, ServerError, ServerBusy, ChannelMissing, InvalidChannel, EventRequired, EventBlank, AckDisabled, QueryAuthorization, Healthy, NotFound, MethodNotAllowed}
use Rattle.hec_session.specs.declared.say.HecSay.{HecSay}

-- a code's number, the status of its replies, and its text
pub record Meaning : Type 0 where
  pub number : ℕ
  pub status : ℕ
  pub text : List ℕ

abbrev pub meaning : ℕ → ℕ → List ℕ → Meaning
meaning number status text = record { number = number; status = status; text = text }

-- the table of codes; 404 and 405 are this project's own
abbrev pub meaning_of : HecCode → Meaning
meaning_of Success = meaning 0 200 (codes "Success")
meaning_of TokenRequired = meaning 2 401 (codes "Token is required")
meaning_of InvalidAuthorization = meaning 3 401 (codes "Invalid authorization")
meaning_of InvalidToken = meaning 4 403 (codes "Invalid token")
meaning_of EmptyBody = meaning 5 400 (codes "No data")
meaning_of InvalidFormat = meaning 6 400 (codes "Invalid data format")
meaning_of ServerError = meaning 8 500 (codes "Internal server error")
meaning_of ServerBusy = meaning 9 503 (codes "Server is busy")
meaning_of ChannelMissing = meaning 10 400 (codes "Data channel is missing")
meaning_of InvalidChannel = meaning 11 400 (codes "Invalid data channel")
meaning_of EventRequired = meaning 12 400 (codes "Event field is required")
meaning_of EventBlank = meaning 13 400 (codes "Event field cannot be blank")
meaning_of AckDisabled = meaning 14 400 (codes "ACK is disabled")
meaning_of QueryAuthorization = meaning 16 400 (codes "Query string authorization is not enabled")
meaning_of Healthy = meaning 17 200 (codes "HEC is healthy")
meaning_of NotFound = meaning 404 404 (codes "Not found")
meaning_of MethodNotAllowed = meaning 405 405 (codes "Method not allowed")

abbrev pub number_of : HecCode → ℕ
number_of code = (meaning_of code).number

abbrev pub status_of : HecCode → ℕ
status_of code = (meaning_of code).status

abbrev pub text_of : HecCode → List ℕ
text_of code = (meaning_of code).text

-- a reply with this code, and with the number of an event at fault
abbrev pub say_of : HecCode → Option ℕ → HecSay
say_of code event = record { status = status_of code; code = number_of code; event = event }

-- a reply with one of the codes, and with its status
abbrev pub IsSay : HecSay → Type 0
IsSay say = (code : HecCode) × (say ≡ say_of code say.event)

-- a reply that can be written: that, with a status that HTTP's replies have here
pub record IsReply (say : HecSay) : Type 0 where
  pub coded : IsSay say
  pub status : IsTrue (is_status say.status)

-- ,"NAME":N where there is a number
abbrev pub member_of : List ℕ → Option ℕ → List ℕ
member_of name None = []
member_of name (Some number) = codes ",\"" ++ name ++ codes "\":" ++ decimal number

-- {"text":"TEXT","code":N}, with one more member where it has a number
abbrev pub object_of : HecCode → List ℕ → Option ℕ → List ℕ
object_of code name number = codes "{\"text\":\"" ++ text_of code ++ codes "\",\"code\":" ++ decimal (number_of code) ++ member_of name number ++ codes "}"

-- the body of a reply
abbrev pub body_of : HecCode → Option ℕ → List ℕ
body_of code event = object_of code (codes "invalid-event-number") event

-- the body of Success, with an ack id where the token uses acks
abbrev pub success_of : Option ℕ → List ℕ
success_of ack = object_of Success (codes "ackId") ack
