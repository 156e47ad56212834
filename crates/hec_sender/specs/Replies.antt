-- What a collector's reply says.
use Rattle.std.specs.Prelude.{◌≡◌, ℕ, ◌^◌, ◌==◌, ◌&&◌, nat_lt, Bool, true, false, IsUtf8, if◌then◌else◌, List, codes, Option, Some, None, option_and_then}
use Rattle.std.specs.Fmt.{decimal}
use Rattle.serde_json.specs.Data.{Data}
use Rattle.serde_json.specs.Read.{read}
use Rattle.serde_json.specs.Find.{get, as_bool, as_number, as_u64}
use Rattle.http_reply.specs.declared.reply.HttpReply.{HttpReply}
use Rattle.hec_sender.specs.declared.query.Query.{Query}
use Rattle.hec_sender.specs.declared.verdict.Verdict.{Verdict}
use Rattle.hec_sender.specs.declared.verdict.Verdict.TheVariants.{Confirms, Asks, Denies, Refuses, Faults}

-- The value of a body, as `serde_json` reads it: of members of one name the last one counts. A body that is no JSON has none.
abbrev pub IsValueOf : List ℕ → Option Data → Type 0
IsValueOf body None = IsUtf8 body → read body ≡ None
IsValueOf body (Some value) = IsUtf8 body × (read body ≡ Some value)

-- the whole number that a value is, from 0 to 2^64 - 1
abbrev pub whole_number : Data → Option ℕ
whole_number value = option_and_then as_u64 (as_number value)

-- a code is a whole number from 0 to 2^32 - 1
abbrev pub within_code : ℕ → Option ℕ
within_code number = if nat_lt number (2 ^ 32) then Some number else None

-- the reply's code
abbrev pub code_of : Data → Option ℕ
code_of value = option_and_then within_code (option_and_then whole_number (get (codes "code") value))

-- what the reply says of an acknowledgement id
abbrev pub ack_of : ℕ → Data → Option Bool
ack_of id value = option_and_then as_bool (option_and_then (get (decimal id)) (get (codes "acks") value))

abbrev pub is_success : ℕ → ℕ → Bool
is_success status code = (status == 200) && (code == 0)

-- a code refuses, unless it is that of a success; a reply without a code says nothing
abbrev pub by_code : ℕ → Verdict → Option ℕ → Verdict
by_code status success None = Faults
by_code status success (Some code) = if is_success status code then success else Refuses code

-- an `ackId` that is a whole number is to be asked for
abbrev pub by_number : Option ℕ → Verdict
by_number None = Faults
by_number (Some id) = Asks id

-- a success without an `ackId` confirms
abbrev pub by_id : Option Data → Verdict
by_id None = Confirms
by_id (Some value) = by_number (whole_number value)

-- an answer for the id that was asked for decides, whatever the code
abbrev pub by_ack : Verdict → Option Bool → Verdict
by_ack other None = other
by_ack other (Some true) = Confirms
by_ack other (Some false) = Denies

-- a reply to a request
abbrev pub request_verdict : ℕ → Data → Verdict
request_verdict status value = by_code status (by_id (get (codes "ackId") value)) (code_of value)

-- a reply to the query of an id
abbrev pub query_verdict : ℕ → ℕ → Data → Verdict
query_verdict id status value = by_ack (by_code status Faults (code_of value)) (if status == 200 then ack_of id value else None)

-- a reply to the last query, or to the request where nothing was asked
abbrev pub verdict_of : Option Query → ℕ → Option Data → Verdict
verdict_of asked status None = Faults
verdict_of None status (Some value) = request_verdict status value
verdict_of (Some query) status (Some value) = query_verdict query.id status value

-- the reply says this, where so was asked
abbrev pub Says : Option Query → HttpReply → Verdict → Type 0
Says asked reply verdict = (value : Option Data) × IsValueOf reply.body value × (verdict ≡ verdict_of asked reply.status value)
