-- The words of bridge's commands: how each is read, and what is wrong where it can't be.
use Rattle.std.specs.Prelude.{ℕ, ◌&&◌, Bool, false, List, [], ◌∷◌, length, nat_lt, nat_le, Option, None, Some, option_map, option_and_then, Result, Ok, Err, codes, if◌then◌else◌}
use Rattle.std.specs.Option.{ok_or}
use Rattle.std.specs.Int.{from_be_bytes, w128}
use Rattle.std.specs.List.{list_all}
use Rattle.std.specs.Char.{digit_value}
use Rattle.std.specs.Str.{bytes_eq}
use Rattle.std.specs.Str.Parse.{digits_value}
use Rattle.uuid.specs.Text.{parsed}
use Rattle.clap.specs.Walk.{Row, Text, first_of, rows_of}
use Rattle.clap.specs.Matches.{found_of}
use Rattle.clap.specs.declared.parser.matches.ArgMatches.{ArgMatches}
use Rattle.desk_access.specs.declared.division.Division.{Division}
use Rattle.desk_access.specs.declared.division.Division.TheVariants.{Workers, Connections}
use Rattle.edge_io.specs.declared.proto.Proto.{Proto}
use Rattle.edge_io.specs.declared.proto.Proto.TheVariants.{Relp, Lumberjack, Hec}
use Rattle.bridge_words.specs.declared.command.ListForm.{ListForm}
use Rattle.bridge_words.specs.declared.command.ListForm.TheVariants as form
use Rattle.bridge_words.specs.declared.command.Relay.{Relay}
use Rattle.bridge_words.specs.declared.command.Receiver.{Receiver}
use Rattle.bridge_words.specs.declared.command.Receiver.TheVariants.{Relp as ToRelp, Lumberjack as ToLumberjack, Hec as ToHec}
use Rattle.words_faults.specs.declared.fault.WordsFault.{WordsFault}
use Rattle.words_faults.specs.declared.fault.WordsFault.TheVariants as wrong

-- what was found of a command's words
unfoldable pub rows_in : ArgMatches → List Row
rows_in matches = rows_of (found_of matches)

-- the text that stands for a word of the command
unfoldable pub value_of : Text → List Row → Option Text
value_of id rows = first_of id rows

-- ---- how a text is read

-- one to ten decimal digits, leading zeros allowed
abbrev pub is_number : Text → Bool
is_number text = nat_lt 0 (length text) && (nat_le (length text) 10 && list_all (λ d. nat_lt (digit_value d) 10) text)

-- the number that they write
abbrev pub number : Text → Option ℕ
number text = if is_number text then Some (digits_value 10 text) else None

-- a number in this range
abbrev pub number_within : ℕ → ℕ → Text → Option ℕ
number_within least most text = option_and_then (λ n. if nat_le least n && nat_le n most then Some n else None) (number text)

-- the number of a GUID: simple, hyphenated, in braces or as a URN (RFC 9562, section 4)
abbrev pub guid : Text → Option ℕ
guid text = option_map (from_be_bytes w128) (parsed text)

abbrev pub proto_at : Text → Option Proto
proto_at text =
    if bytes_eq text (codes "relp") then Some Relp
    else if bytes_eq text (codes "lumberjack") then Some Lumberjack
    else if bytes_eq text (codes "hec") then Some Hec
    else None

abbrev pub form_at : Text → Option ListForm
form_at text =
    if bytes_eq text (codes "relp") then Some form.Text
    else if bytes_eq text (codes "json") then Some form.JsonObject
    else if bytes_eq text (codes "hec") then Some form.HecObject
    else None

-- a place is any text that isn't empty
abbrev pub place_at : Text → Option Text
place_at [] = None
place_at (first ∷ more) = Some (first ∷ more)

-- ---- a word that must stand, one that may, and one that has a default

abbrev pub must_be : {A : Type 0} → WordsFault → (Text → Option A) → Option Text → Result A WordsFault
must_be fault read None = Err wrong.MissingWord
must_be fault read (Some text) = ok_or (read text) fault

abbrev pub may_be : {A : Type 0} → WordsFault → (Text → Option A) → Option Text → Result (Option A) WordsFault
may_be fault read None = Ok None
may_be fault read (Some text) = ok_or (option_map Some (read text)) fault

abbrev pub is_else : {A : Type 0} → A → WordsFault → (Text → Option A) → Option Text → Result A WordsFault
is_else default fault read None = Ok default
is_else default fault read (Some text) = ok_or (read text) fault

-- clap finds the text `true` for an option without a value that is given, and `false` for one that isn't
abbrev pub is_given : Option Text → Bool
is_given None = false
is_given (Some text) = bytes_eq text (codes "true")

-- ---- the words

-- SLOTS and SIZE
abbrev pub slots_in : List Row → Result ℕ WordsFault
slots_in rows = must_be wrong.Slots (number_within 1 1024) (value_of (codes "slots") rows)

abbrev pub size_in : List Row → Result ℕ WordsFault
size_in rows = must_be wrong.Size (number_within 4096 1073741824) (value_of (codes "size") rows)

-- PROTO
abbrev pub proto_in : List Row → Result Proto WordsFault
proto_in rows = must_be wrong.Proto proto_at (value_of (codes "proto") rows)

-- a place that may stand for a word
abbrev pub place_for : Text → List Row → Result (Option Text) WordsFault
place_for id rows = may_be wrong.Place place_at (value_of id rows)

-- PLACE
abbrev pub place_in : List Row → Result (Option Text) WordsFault
place_in = place_for (codes "place")

-- the places of `--relp`, `--lumberjack` and `--hec`, at which connections come in, of `--status` and of `--to`
abbrev pub relp_in : List Row → Result (Option Text) WordsFault
relp_in = place_for (codes "relp")

abbrev pub lumberjack_in : List Row → Result (Option Text) WordsFault
lumberjack_in = place_for (codes "lumberjack")

abbrev pub hec_in : List Row → Result (Option Text) WordsFault
hec_in = place_for (codes "hec")

abbrev pub status_in : List Row → Result (Option Text) WordsFault
status_in = place_for (codes "status")

abbrev pub to_in : List Row → Result (Option Text) WordsFault
to_in = place_for (codes "to")

-- NUMBER and COUNT
abbrev pub number_in : List Row → Result ℕ WordsFault
number_in rows = must_be wrong.Number (number_within 0 2147483647) (value_of (codes "number") rows)

abbrev pub count_in : List Row → Result ℕ WordsFault
count_in rows = must_be wrong.Count (number_within 0 100000) (value_of (codes "count") rows)

-- TARGET, which is any text, and TAG
abbrev pub target_in : List Row → Result Text WordsFault
target_in rows = must_be wrong.MissingWord Some (value_of (codes "target") rows)

abbrev pub tag_in : List Row → Result ℕ WordsFault
tag_in rows = must_be wrong.Tag (number_within 0 4294967295) (value_of (codes "tag") rows)

-- the value of `--as`
abbrev pub form_in : List Row → Result ListForm WordsFault
form_in rows = is_else form.Plain wrong.Form form_at (value_of (codes "as") rows)

-- the values of `--token` and `--ack-token`
abbrev pub token_in : List Row → Result (Option ℕ) WordsFault
token_in rows = may_be wrong.Token guid (value_of (codes "token") rows)

abbrev pub ack_token_in : List Row → Result (Option ℕ) WordsFault
ack_token_in rows = may_be wrong.AckToken guid (value_of (codes "ack-token") rows)

-- the values of `--out-token`, `--out-channel` and `--polls`
abbrev pub out_token_in : List Row → Result (Option ℕ) WordsFault
out_token_in rows = may_be wrong.OutToken guid (value_of (codes "out-token") rows)

abbrev pub out_channel_in : List Row → Result (Option ℕ) WordsFault
out_channel_in rows = may_be wrong.OutChannel guid (value_of (codes "out-channel") rows)

abbrev pub polls_in : List Row → Result ℕ WordsFault
polls_in rows = is_else 60 wrong.Polls (number_within 1 1000) (value_of (codes "polls") rows)

-- how the numbers of connections are divided: by whether `--connections` is given, beside which `--workers` isn't
abbrev pub division_by : Option Text → Option Text → Result Division WordsFault
division_by None workers = Ok Workers
division_by (Some connections) None = Ok Connections
division_by (Some connections) (Some workers) = Err wrong.BothCounts

abbrev pub division_in : List Row → Result Division WordsFault
division_in rows = division_by (value_of (codes "connections") rows) (value_of (codes "workers") rows)

-- the value of that one: how many workers each place has, which are 4 where neither is given
abbrev pub workers_in : Division → List Row → Result ℕ WordsFault
workers_in Workers rows = is_else 4 wrong.Workers (number_within 1 16) (value_of (codes "workers") rows)
workers_in Connections rows = must_be wrong.Connections (number_within 1 1024) (value_of (codes "connections") rows)

-- the value of `--talks`: as many as each worker has numbers for, at most
abbrev pub talks_in : Division → List Row → Result ℕ WordsFault
talks_in Workers rows = is_else 67108864 wrong.Talks (number_within 1 67108864) (value_of (codes "talks") rows)
talks_in Connections rows = is_else 1048576 wrong.TalksOfConnections (number_within 1 1048576) (value_of (codes "talks") rows)

-- whether `--group` is given
abbrev pub group_in : List Row → Bool
group_in rows = is_given (value_of (codes "group") rows)

-- the protocol of `--forward`
abbrev pub forward_in : List Row → Result (Option Proto) WordsFault
forward_in rows = may_be wrong.Proto proto_at (value_of (codes "forward") rows)

-- ---- the receiver

-- a collector is sent to with a token and on a channel
abbrev pub receiver_of : Proto → Option ℕ → Option ℕ → ℕ → Result Receiver WordsFault
receiver_of Relp token channel polls = Ok ToRelp
receiver_of Lumberjack token channel polls = Ok ToLumberjack
receiver_of Hec None channel polls = Err wrong.NoOutToken
receiver_of Hec (Some token) None polls = Err wrong.NoOutChannel
receiver_of Hec (Some token) (Some channel) polls = Ok (ToHec token channel polls)

-- a receiver at its place
abbrev pub relay_at : Text → Result Receiver WordsFault → Result (Option Relay) WordsFault
relay_at place (Ok receiver) = Ok (Some (record { receiver = receiver; place = place }))
relay_at place (Err fault) = Err fault

-- a protocol to forward by and a place to forward to stand together
abbrev pub relay_of : Option Proto → Option Text → Option ℕ → Option ℕ → ℕ → Result (Option Relay) WordsFault
relay_of None None token channel polls = Ok None
relay_of None (Some place) token channel polls = Err wrong.NoForward
relay_of (Some proto) None token channel polls = Err wrong.NoTo
relay_of (Some proto) (Some place) token channel polls = relay_at place (receiver_of proto token channel polls)
