-- The checks before the body, in their order ("HTTP Event Collector REST API endpoints"): each passes, or
-- answers at once.
use Rattle.std.specs.Prelude.{ℕ, ◌==◌, Bool, true, false, ◌||◌, ◌&&◌, List, take, drop, Option, Some, None, Result, Ok, Err, option_map, codes, if◌then◌else◌}
use Rattle.std.specs.Int.{from_be_bytes, w128}
use Rattle.std.specs.List.{list_any}
use Rattle.std.specs.Option.{option_or}
use Rattle.std.specs.Str.{bytes_eq, str_eq_ignore_ascii_case}
use Rattle.uuid.specs.Text.{parsed}
use Rattle.http_edge.specs.declared.request.HttpRequest.{HttpRequest}
use Rattle.http_edge.specs.Fields.{field_value}
use Rattle.hec_tokens.specs.declared.list.ListedToken.{ListedToken}
use Rattle.hec_session.specs.declared.code.HecCode.{HecCode}
use Rattle.hec_session.specs.declared.code.HecCode.TheVariants.{TokenRequired, InvalidAuthorization, InvalidToken, InvalidFormat, ChannelMissing, InvalidChannel, AckDisabled, QueryAuthorization, Healthy, NotFound, MethodNotAllowed}
use Rattle.hec_session.specs.declared.endpoint.Endpoint.{Endpoint}
use Rattle.hec_session.specs.declared.endpoint.Endpoint.TheVariants.{Events, Acks}
use Rattle.hec_session.specs.declared.endpoint.Form.TheVariants.{Objects, Raw}
use Rattle.hec_session.specs.declared.tokens.Grant.{Grant}
use Rattle.hec_session.specs.declared.tokens.Grant.TheVariants.{WithAcks, WithoutAcks}
use Rattle.hec_session.specs.declared.tokens.Tokens.{Tokens}
use Rattle.hec_session.specs.declared.task.Task.{Task}
use Rattle.hec_session.specs.declared.task.Task.TheVariants.{Store, StoreOn, AskOn}
use Rattle.hec_session.specs.declared.request.RequestRef.{RequestRef}
use Rattle.hec_session.specs.Target.{path_of, parameter}

-- a request that is lent, as one of its own; no check looks at the version
abbrev pub request_of : RequestRef → HttpRequest
request_of r = record { method = r.method.now; target = r.target.now; minor = 1; fields = r.fields.now; body = r.body.now }

-- what a check leaves to the next one
abbrev pub and_then : {A B : Type 0} → Result A HecCode → (A → Result B HecCode) → Result B HecCode
and_then (Ok value) next = next value
and_then (Err code) next = Err code

-- ---- 1. path and method

abbrev pub is_events_path : List ℕ → Bool
is_events_path path = bytes_eq path (codes "/services/collector") || bytes_eq path (codes "/services/collector/event") || bytes_eq path (codes "/services/collector/event/1.0")

abbrev pub is_lines_path : List ℕ → Bool
is_lines_path path = bytes_eq path (codes "/services/collector/raw") || bytes_eq path (codes "/services/collector/raw/1.0")

abbrev pub is_acks_path : List ℕ → Bool
is_acks_path path = bytes_eq path (codes "/services/collector/ack")

abbrev pub is_health_path : List ℕ → Bool
is_health_path path = bytes_eq path (codes "/services/collector/health") || bytes_eq path (codes "/services/collector/health/1.0")

-- events and ack queries are posted
abbrev pub posted : List ℕ → Endpoint → Result Endpoint HecCode
posted method endpoint = if bytes_eq method (codes "POST") then Ok endpoint else Err MethodNotAllowed

-- health is told at once
abbrev pub health : List ℕ → HecCode
health method = if bytes_eq method (codes "GET") then Healthy else MethodNotAllowed

abbrev pub endpoint_at : List ℕ → List ℕ → Result Endpoint HecCode
endpoint_at method path =
    if is_events_path path then posted method (Events Objects)
    else if is_lines_path path then posted method (Events Raw)
    else if is_acks_path path then posted method Acks
    else if is_health_path path then Err (health method)
    else Err NotFound

-- the endpoint that a request is for
abbrev pub endpoint_of : HttpRequest → Result Endpoint HecCode
endpoint_of r = endpoint_at r.method (path_of r.target)

-- ---- 2. authorization

-- the number of a GUID, in a form that `uuid` reads: simple, hyphenated, as an URN or in braces
abbrev pub guid : List ℕ → Option ℕ
guid text = option_map (from_be_bytes w128) (parsed text)

-- what stands after the word Splunk, ASCII case aside, and one space
abbrev pub credentials : List ℕ → Option (List ℕ)
credentials value = if str_eq_ignore_ascii_case (take 7 value) (codes "Splunk ") then Some (drop 7 value) else None

abbrev pub is_token : Option ℕ → ℕ → Bool
is_token None id = false
is_token (Some token) id = token == id

-- whether a GUID is listed
abbrev pub is_listed : List ListedToken → ℕ → Bool
is_listed listed id = list_any (λ token. token.guid == id) listed

-- whether it is listed with acks, if only once
abbrev pub is_listed_with_acks : List ListedToken → ℕ → Bool
is_listed_with_acks listed id = list_any (λ token. token.guid == id && token.acks) listed

-- what a token grants; one that stands in several places uses acks if it does so in one of them
abbrev pub granted : Tokens → Option ℕ → Result Grant HecCode
granted tokens None = Err InvalidToken
granted tokens (Some id) =
    if is_token tokens.ack_token id || is_listed_with_acks tokens.listed id then Ok WithAcks
    else if is_token tokens.token id || is_listed tokens.listed id then Ok WithoutAcks
    else Err InvalidToken

abbrev pub granted_by : Tokens → Option (List ℕ) → Result Grant HecCode
granted_by tokens None = Err InvalidAuthorization
granted_by tokens (Some text) = granted tokens (guid text)

-- a token in the query is none, and is told so
abbrev pub without_field : Option (List ℕ) → HecCode
without_field None = TokenRequired
without_field (Some token) = QueryAuthorization

abbrev pub authorized : Tokens → List ℕ → Option (List ℕ) → Result Grant HecCode
authorized tokens target None = Err (without_field (parameter (codes "token") target))
authorized tokens target (Some value) = granted_by tokens (credentials value)

-- what a request is granted
abbrev pub grant_of : Tokens → HttpRequest → Result Grant HecCode
grant_of tokens r = authorized tokens r.target (field_value (codes "authorization") r.fields)

-- ---- 3. and 4. acks, and the channel that they need

-- the field, or else the query's parameter
abbrev pub channel_text : HttpRequest → Option (List ℕ)
channel_text r = option_or (field_value (codes "x-splunk-request-channel") r.fields) (parameter (codes "channel") r.target)

abbrev pub known_channel : Option ℕ → Result ℕ HecCode
known_channel None = Err InvalidChannel
known_channel (Some channel) = Ok channel

abbrev pub channel_in : Option (List ℕ) → Result ℕ HecCode
channel_in None = Err ChannelMissing
channel_in (Some text) = known_channel (guid text)

abbrev pub channel_of : HttpRequest → Result ℕ HecCode
channel_of r = channel_in (channel_text r)

-- what is to be done with the body
abbrev pub task_for : HttpRequest → Endpoint → Grant → Result Task HecCode
task_for r (Events form) WithoutAcks = Ok (Store form)
task_for r Acks WithoutAcks = Err AckDisabled
task_for r (Events form) WithAcks = and_then (channel_of r) (λ channel. Ok (StoreOn form channel))
task_for r Acks WithAcks = and_then (channel_of r) (λ channel. Ok (AskOn channel))

-- ---- 5. the coding of the body

abbrev pub is_plain : Option (List ℕ) → Bool
is_plain None = true
is_plain (Some coding) = str_eq_ignore_ascii_case coding (codes "identity")

abbrev pub in_plain_coding : HttpRequest → Task → Result Task HecCode
in_plain_coding r task = if is_plain (field_value (codes "content-encoding") r.fields) then Ok task else Err InvalidFormat

-- ---- all of them, in this order

abbrev pub task_of : Tokens → HttpRequest → Result Task HecCode
task_of tokens r =
    and_then (endpoint_of r)
    (λ endpoint. and_then (grant_of tokens r) (λ grant. and_then (task_for r endpoint grant) (in_plain_coding r)))
