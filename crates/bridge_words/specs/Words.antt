-- Which words are which command, and which device they want.
use Rattle.std.specs.Prelude.{◌≡◌, ◌⊎◌, Bool, ℕ, ◌≤◌, List, [], Option, None, Some, IsSome, IfSome, Result, Ok, Err, codes}
use Rattle.clap.specs.Walk.{Row, Text}
use Rattle.edge_io.specs.declared.proto.Proto.{Proto}
use Rattle.edge_io.specs.declared.proto.Proto.TheVariants.{Hec}
use Rattle.hec_tokens.specs.declared.list.ListedToken.{ListedToken}
use Rattle.spool_state.specs.Image.{slot_at}
use Rattle.desk_access.specs.declared.division.Division.{Division}
use Rattle.desk_access.specs.declared.division.Division.TheVariants.{Workers, Connections}
use Rattle.desk_access.specs.Division.{each_of}
use Rattle.bridge_words.specs.declared.command.Command.{Command}
use Rattle.bridge_words.specs.declared.command.Command.TheVariants.{Format, List as ListCommand, Replay, Drain, Load, Serve}
use Rattle.bridge_words.specs.declared.command.Relay.{Relay}
use Rattle.bridge_words.specs.declared.command.Server.{Server}
use Rattle.bridge_words.specs.declared.command.Receiver.{Receiver}
use Rattle.bridge_words.specs.declared.command.Receiver.TheVariants.{Hec as ToHec}
use Rattle.words_faults.specs.declared.fault.WordsFault.{WordsFault}
use Rattle.bridge_words.specs.declared.need.Need.{Need}
use Rattle.bridge_words.specs.declared.need.Need.TheVariants.{NoCommand, Nothing, Existing, Make, Pair}
use Rattle.bridge_words.specs.Grammar.{refusals, named}
use Rattle.bridge_words.specs.Tokens.{listed_in}
use Rattle.bridge_words.specs.Values.{guid, slots_in, size_in, proto_in, place_in, number_in, count_in, form_in, token_in, ack_token_in, out_token_in, out_channel_in, polls_in, receiver_of, target_in, tag_in}
use Rattle.bridge_words.specs.Values.{relp_in, lumberjack_in, hec_in, status_in, division_in, workers_in, talks_in, group_in, forward_in, to_in, relay_of}

-- ---- the table

-- 1 to 1,024 slots of 4,096 to 1,073,741,824 bytes
pub record IsSize (slots size : ℕ) : Type 0 where
  pub some : 1 ≤ slots
  pub few : slots ≤ 1024
  pub large : 4096 ≤ size
  pub small : size ≤ 1073741824

-- `format SLOTS SIZE`
pub record IsFormat (slots size : ℕ) (rows : List Row) : Type 0 where
  pub slots_is : slots_in rows ≡ Ok slots
  pub size_is : size_in rows ≡ Ok size
  pub in_range : IsSize slots size

-- `replay PROTO [--token G] [--ack-token G]`
pub record IsReplay (proto : Proto) (token ack_token : Option ℕ) (rows : List Row) : Type 0 where
  pub proto_is : proto_in rows ≡ Ok proto
  pub token_is : token_in rows ≡ Ok token
  pub ack_token_is : ack_token_in rows ≡ Ok ack_token

-- what PROTO, `--out-token`, `--out-channel` and `--polls` say together, or the first of them that is wrong
abbrev pub receiver_by : Result Proto WordsFault → Result (Option ℕ) WordsFault → Result (Option ℕ) WordsFault → Result ℕ WordsFault → Result Receiver WordsFault
receiver_by (Ok proto) (Ok token) (Ok channel) (Ok polls) = receiver_of proto token channel polls
receiver_by (Ok proto) (Ok token) (Ok channel) (Err fault) = Err fault
receiver_by (Ok proto) (Ok token) (Err fault) polls = Err fault
receiver_by (Ok proto) (Err fault) channel polls = Err fault
receiver_by (Err fault) token channel polls = Err fault

abbrev pub receiver_in : List Row → Result Receiver WordsFault
receiver_in rows = receiver_by (proto_in rows) (out_token_in rows) (out_channel_in rows) (polls_in rows)

-- a collector is asked 1 to 1,000 times
abbrev pub HasPolls : Receiver → Type 0
HasPolls (ToHec token channel polls) = (1 ≤ polls) × (polls ≤ 1000)
HasPolls other = Unit {0}

-- `drain PROTO [PLACE] [--out-token G] [--out-channel G] [--polls N]`
pub record IsDrain (receiver : Receiver) (place : Option Text) (rows : List Row) : Type 0 where
  pub receiver_is : receiver_in rows ≡ Ok receiver
  pub place_is : place_in rows ≡ Ok place
  pub in_range : HasPolls receiver

-- `load PROTO NUMBER COUNT`
pub record IsLoad (proto : Proto) (number count : ℕ) (rows : List Row) : Type 0 where
  pub proto_is : proto_in rows ≡ Ok proto
  pub number_is : number_in rows ≡ Ok number
  pub count_is : count_in rows ≡ Ok count
  pub small : number ≤ 2147483647
  pub few : count ≤ 100000

-- what `--forward`, `--to`, `--out-token`, `--out-channel` and `--polls` say together, or the first of them that is wrong
abbrev pub relay_by : Result (Option Proto) WordsFault → Result (Option Text) WordsFault → Result (Option ℕ) WordsFault → Result (Option ℕ) WordsFault → Result ℕ WordsFault → Result (Option Relay) WordsFault
relay_by (Ok proto) (Ok place) (Ok token) (Ok channel) (Ok polls) = relay_of proto place token channel polls
relay_by (Ok proto) (Ok place) (Ok token) (Ok channel) (Err fault) = Err fault
relay_by (Ok proto) (Ok place) (Ok token) (Err fault) polls = Err fault
relay_by (Ok proto) (Ok place) (Err fault) channel polls = Err fault
relay_by (Ok proto) (Err fault) token channel polls = Err fault
relay_by (Err fault) place token channel polls = Err fault

abbrev pub relay_in : List Row → Result (Option Relay) WordsFault
relay_in rows = relay_by (forward_in rows) (to_in rows) (out_token_in rows) (out_channel_in rows) (polls_in rows)

-- a server that forwards to a collector asks it 1 to 1,000 times
abbrev pub HasRelayPolls : Option Relay → Type 0
HasRelayPolls forward = IfSome forward (λ relay. HasPolls relay.receiver)

-- one of the places at which connections come in is given
abbrev pub HasDoor : Option Text → Option Text → Option Text → Type 0
HasDoor relp lumberjack hec = IsSome relp ⊎ (IsSome lumberjack ⊎ IsSome hec)

-- the places of `--relp`, `--lumberjack` and `--hec`
pub record AreDoors (relp lumberjack hec : Option Text) (rows : List Row) : Type 0 where
  pub relp_is : relp_in rows ≡ Ok relp
  pub lumberjack_is : lumberjack_in rows ≡ Ok lumberjack
  pub hec_is : hec_in rows ≡ Ok hec
  pub some_door : HasDoor relp lumberjack hec

-- at most so many workers serve each place
abbrev pub most_workers : Division → ℕ
most_workers Workers = 16
most_workers Connections = 1024

-- how many workers serve each place, how many connections each of them, and how the numbers of these are divided
pub record IsCrew (division : Division) (workers talks : ℕ) (rows : List Row) : Type 0 where
  pub division_is : division_in rows ≡ Ok division
  pub workers_is : workers_in division rows ≡ Ok workers
  pub talks_is : talks_in division rows ≡ Ok talks
  pub some_worker : 1 ≤ workers
  pub few_workers : workers ≤ most_workers division
  pub some_talk : 1 ≤ talks
  pub few_talks : talks ≤ each_of division

-- the tokens of the HTTP Event Collector
pub record AreTokens (token ack_token : Option ℕ) (listed : List ListedToken) (rows : List Row) : Type 0 where
  pub token_is : token_in rows ≡ Ok token
  pub ack_token_is : ack_token_in rows ≡ Ok ack_token
  pub listed_is : listed_in rows ≡ Ok listed

-- `serve [--relp P] [--lumberjack P] [--hec P] [--status P] [--workers N] [--connections N] [--talks N] [--token G]
--     [--ack-token G] [--tokens LIST] [--group] [--forward PROTO] [--to P] [--out-token G] [--out-channel G] [--polls N]`
pub record IsServe (server : Server) (rows : List Row) : Type 0 where
  pub doors_are : AreDoors server.relp server.lumberjack server.hec rows
  pub crew_is : IsCrew server.division server.workers server.talks rows
  pub tokens_are : AreTokens server.token server.ack_token server.listed rows
  pub status_is : status_in rows ≡ Ok server.status
  pub group_is : group_in rows ≡ server.group
  pub forward_is : relay_in rows ≡ Ok server.forward
  pub few_polls : HasRelayPolls server.forward

-- a server of RELP at this place, with nothing else said but whether events that came together are stored together
abbrev pub relp_server : Text → Bool → Server
relp_server place group =
    record {
      relp = Some place;
      lumberjack = None;
      hec = None;
      status = None;
      division = Workers;
      workers = 4;
      talks = 67108864;
      token = None;
      ack_token = None;
      listed = [];
      group = group;
      forward = None;
    }

-- what was found of the words asks for this
abbrev pub IsCommandBy : Command → List Row → Type 0
IsCommandBy (Format slots size) rows = IsFormat slots size rows
IsCommandBy (ListCommand form) rows = form_in rows ≡ Ok form
IsCommandBy (Replay proto token ack_token) rows = IsReplay proto token ack_token rows
IsCommandBy (Drain receiver place) rows = IsDrain receiver place rows
IsCommandBy (Load proto number count) rows = IsLoad proto number count rows
IsCommandBy (Serve server) rows = IsServe server rows

abbrev pub name_of : Command → Text
name_of (Format slots size) = codes "format"
name_of (ListCommand form) = codes "list"
name_of (Replay proto token ack_token) = codes "replay"
name_of (Drain receiver place) = codes "drain"
name_of (Load proto number count) = codes "load"
name_of (Serve server) = codes "serve"

-- the command has this name, and what was found asks for it
abbrev pub IsNamed : Text → List Row → Command → Type 0
IsNamed name rows command = (name_of command ≡ name) × IsCommandBy command rows

-- ---- the words

-- The words are those of the command: clap refuses none of them, and what it finds under the command's name asks for it.
pub record IsCommand (command : Command) (words : List Text) : Type 0 where
  pub rows : List Row
  pub taken : refusals words ≡ []
  pub found : named words ≡ Some (name_of command, rows)
  pub asks : IsCommandBy command rows

-- the words are those of no command
abbrev pub IsNoCommand : List Text → Type 0
IsNoCommand words = (command : Command) → IsCommand command words → ⊥

-- and of one
abbrev pub IsSomeCommand : List Text → Type 0
IsSomeCommand words = (command : Command) × IsCommand command words

-- Words with two texts in them, each of which is a GUID, are `replay` of the collector's requests, under these two tokens.
abbrev pub SpellTokens : (Text → Text → List Text) → Type 0
SpellTokens words = (t a : Text) (token ack_token : ℕ) → guid t ≡ Some token → guid a ≡ Some ack_token
    → IsCommand (Replay Hec (Some token) (Some ack_token)) (words t a)

-- ---- two spools

-- `move TARGET TAG`
pub record IsPair (target : Text) (tag : ℕ) (rows : List Row) : Type 0 where
  pub target_is : target_in rows ≡ Ok target
  pub tag_is : tag_in rows ≡ Ok tag
  pub small : tag ≤ 4294967295

-- The words move the pending entries of one spool into another, which is this target, under this tag. They are no command, which has
-- one spool at most: clap refuses none of them, and what it finds under the name `move` asks for it.
pub record IsMove (target : Text) (tag : ℕ) (words : List Text) : Type 0 where
  pub rows : List Row
  pub taken : refusals words ≡ []
  pub found : named words ≡ Some (codes "move", rows)
  pub asks : IsPair target tag rows

-- the words move nothing
abbrev pub IsNoMove : List Text → Type 0
IsNoMove words = (target : Text) (tag : ℕ) → IsMove target tag words → ⊥

-- and something
abbrev pub IsSomeMove : List Text → Type 0
IsSomeMove words = (target : Text) × (tag : ℕ) × IsMove target tag words

-- ---- the device

-- A `format` wants a device of its length, made where there is none; a `load` wants none; the others one that exists.
abbrev pub need_for : Command → Need
need_for (Format slots size) = Make (slot_at size slots)
need_for (ListCommand form) = Existing
need_for (Replay proto token ack_token) = Existing
need_for (Drain receiver place) = Existing
need_for (Load proto number count) = Nothing
need_for (Serve server) = Existing

-- The words want this: those of a command what it wants, those of a move FILE and its target, and all others nothing.
abbrev pub IsNeed : List Text → Need → Type 0
IsNeed words need =
    ((need ≡ NoCommand) × IsNoCommand words × IsNoMove words)
    ⊎ (((command : Command) × IsCommand command words × (need ≡ need_for command))
    ⊎ ((target : Text) × (tag : ℕ) × IsMove target tag words × (need ≡ Pair target tag)))
