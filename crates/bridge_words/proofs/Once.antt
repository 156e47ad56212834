-- Words are one command at most.
use Rattle.std.proofs.Common.{◌≡◌, ◌∙◌, ℕ, List, refl, sym, ap, subst, codes}
use Rattle.std.specs.Prelude.{Bool, false, true, Option, Some, Result, Ok, IfOk}
use Rattle.std.specs.Option.{option_map_or}
use Rattle.std.specs.Str.{bytes_eq}
use Rattle.std.proofs.lemmas.Slice.Eq.{bytes_eq-Decides}
use Rattle.clap.specs.Walk.{Row, Text}
use Rattle.desk_access.specs.declared.division.Division.{Division}
use Rattle.hec_tokens.specs.declared.list.ListedToken.{ListedToken}
use Rattle.bridge_words.specs.declared.command.Command.{Command}
use Rattle.bridge_words.specs.declared.command.Relay.{Relay}
use Rattle.bridge_words.specs.declared.command.Server.{Server}
use Rattle.bridge_words.specs.declared.command.Command.TheVariants.{Format, List as ListCommand, Replay, Drain, Load, Serve}
use Rattle.bridge_words.specs.declared.reading.Unread.{Unread}
use Rattle.bridge_words.specs.Values.{workers_in, talks_in}
use Rattle.bridge_words.specs.Words.{IsSize, IsServe, IsCommandBy, IsNamed, IsCommand, IsNoCommand, IsPair, IsMove, name_of}

-- texts that a test tells apart are apart
pub apart : (a b : Text) → bytes_eq a b ≡ false → a ≡ b → ⊥
apart a b test same = let true_is = (bytes_eq-Decides a b).1 same in absurd (cc)

-- and such that it finds the same are the same
pub same_text : (a b : Text) → true ≡ bytes_eq a b → a ≡ b
same_text a b test = (bytes_eq-Decides a b).0 (sym test)

-- a command of a name, and none of another one
pub named : (a b : Text) (rows : List Row) (r : Result Command Unread) → true ≡ bytes_eq a b → IfOk r (IsNamed b rows) → IfOk r (IsNamed a rows)
named a b rows r test is = subst (λ (t : Text). IfOk r (IsNamed t rows)) (sym (same_text a b test)) is

pub unknown : (name : Text) → false ≡ bytes_eq name (codes "list") → false ≡ bytes_eq name (codes "replay") → false ≡ bytes_eq name (codes "drain")
    → false ≡ bytes_eq name (codes "format") → false ≡ bytes_eq name (codes "load") → false ≡ bytes_eq name (codes "serve")
    → (command : Command) → name_of command ≡ name → ⊥
unknown name list replay drain format load serve (Format slots size) is = apart name _ (sym format) (sym is)
unknown name list replay drain format load serve (ListCommand form) is = apart name _ (sym list) (sym is)
unknown name list replay drain format load serve (Replay proto token ack_token) is = apart name _ (sym replay) (sym is)
unknown name list replay drain format load serve (Drain receiver place) is = apart name _ (sym drain) (sym is)
unknown name list replay drain format load serve (Load proto number count) is = apart name _ (sym load) (sym is)
unknown name list replay drain format load serve (Serve server) is = apart name _ (sym serve) (sym is)

-- the parts of a name and its rows
abbrev rows_or : List Row → Option (Text × List Row) → List Row
rows_or other o = option_map_or (λ (p : Text × List Row). p.1) o other

abbrev name_or : Text → Option (Text × List Row) → Text
name_or other o = option_map_or (λ (p : Text × List Row). p.0) o other

pub same_name : (a b : Text) (x y : List Row) → ◌≡◌ {A = Option (Text × List Row)} (Some (a, x)) (Some (b, y)) → a ≡ b
same_name a b x y is = ap (name_or a) is

pub same_rows : (a b : Text) (x y : List Row) → ◌≡◌ {A = Option (Text × List Row)} (Some (a, x)) (Some (b, y)) → x ≡ y
same_rows a b x y is = ap (rows_or x) is

-- a server is what its fields are
server_of : (relp lumberjack hec status : Option Text) (division : Division) (workers talks : ℕ) (token ack_token : Option ℕ) (listed : List ListedToken)
    (group : Bool) (forward : Option Relay) → Server
server_of relp lumberjack hec status division workers talks token ack_token listed group forward = record {
  relp = relp;
  lumberjack = lumberjack;
  hec = hec;
  status = status;
  division = division;
  workers = workers;
  talks = talks;
  token = token;
  ack_token = ack_token;
  listed = listed;
  group = group;
  forward = forward;
}

server_is : (s : Server) → server_of s.relp s.lumberjack s.hec s.status s.division s.workers s.talks s.token s.ack_token s.listed s.group s.forward ≡ s
unfolding server_of
server_is s = refl

one_server : (s t : Server) (rows : List Row) → IsServe s rows → IsServe t rows → s ≡ t
one_server s t rows x y =
    let relp = x.doors_are.relp_is in let relp' = y.doors_are.relp_is in
    let lumberjack = x.doors_are.lumberjack_is in let lumberjack' = y.doors_are.lumberjack_is in
    let hec = x.doors_are.hec_is in let hec' = y.doors_are.hec_is in
    let division : s.division ≡ t.division = let a = x.crew_is.division_is in let b = y.crew_is.division_is in cc in
    let workers = x.crew_is.workers_is in let talks = x.crew_is.talks_is in
    let workers' = subst (λ (d : Division). workers_in d rows ≡ Ok t.workers) (sym division) y.crew_is.workers_is in
    let talks' = subst (λ (d : Division). talks_in d rows ≡ Ok t.talks) (sym division) y.crew_is.talks_is in
    let token = x.tokens_are.token_is in let token' = y.tokens_are.token_is in
    let ack_token = x.tokens_are.ack_token_is in let ack_token' = y.tokens_are.ack_token_is in
    let listed = x.tokens_are.listed_is in let listed' = y.tokens_are.listed_is in
    let status = x.status_is in let status' = y.status_is in
    let group = x.group_is in let group' = y.group_is in
    let forward = x.forward_is in let forward' = y.forward_is in
    cc (server_is s, server_is t)

one_by : (c d : Command) (rows : List Row) → name_of c ≡ name_of d → IsCommandBy c rows → IsCommandBy d rows → c ≡ d
one_by (Format slots size) (Format slots' size') rows name x y =
    let a = x.slots_is in let b = y.slots_is in let e = x.size_is in let f = y.size_is in cc
one_by (ListCommand form) (ListCommand form') rows name x y = cc
one_by (Replay proto token ack_token) (Replay proto' token' ack_token') rows name x y =
    let a = x.proto_is in let b = y.proto_is in let e = x.token_is in let f = y.token_is in let g = x.ack_token_is in let h = y.ack_token_is in cc
one_by (Drain receiver place) (Drain receiver' place') rows name x y =
    let a = x.receiver_is in let b = y.receiver_is in let e = x.place_is in let f = y.place_is in cc
one_by (Load proto number count) (Load proto' number' count') rows name x y =
    let a = x.proto_is in let b = y.proto_is in let e = x.number_is in let f = y.number_is in let g = x.count_is in let h = y.count_is in cc
one_by (Serve server) (Serve server') rows name x y = ap (λ (s : Server). Serve s) (one_server server server' rows x y)
one_by c d rows name x y = absurd (apart (name_of c) (name_of d) refl name)

pub one_command : (c d : Command) (words : List Text) → IsCommand c words → IsCommand d words → c ≡ d
one_command c d words x y =
    let both : ◌≡◌ {A = Option (Text × List Row)} (Some (name_of c, x.rows)) (Some (name_of d, y.rows)) = sym x.found ∙ y.found in
    one_by c d y.rows (same_name _ _ _ _ both) (subst (IsCommandBy c) (same_rows _ _ _ _ both) x.asks) y.asks

-- the spool that words ask for is one of a size that there is
pub sized : (command : Command) (words : List Text) → IsCommand command words → (slots size : ℕ) → command ≡ Format slots size → IsSize slots size
sized command words is slots size at = (subst (λ (c : Command). IsCommandBy c is.rows) at is.asks).in_range

-- ---- a move

-- no command has its name
pub no_move_name : (command : Command) → name_of command ≡ codes "move" → ⊥
no_move_name (Format slots size) is = apart _ _ refl is
no_move_name (ListCommand form) is = apart _ _ refl is
no_move_name (Replay proto token ack_token) is = apart _ _ refl is
no_move_name (Drain receiver place) is = apart _ _ refl is
no_move_name (Load proto number count) is = apart _ _ refl is
no_move_name (Serve server) is = apart _ _ refl is

pub move_is_no_command : (target : Text) (tag : ℕ) (words : List Text) → IsMove target tag words → IsNoCommand words
move_is_no_command target tag words move command is =
    let both : ◌≡◌ {A = Option (Text × List Row)} (Some (name_of command, is.rows)) (Some (codes "move", move.rows)) = sym is.found ∙ move.found in
    no_move_name command (same_name _ _ _ _ both)

same_pair : (a b : Text) (m n : ℕ) (words : List Text) → IsMove a m words → (is : IsMove b n words) → IsPair a m is.rows
same_pair a b m n words x y =
    let both : ◌≡◌ {A = Option (Text × List Row)} (Some (codes "move", x.rows)) (Some (codes "move", y.rows)) = sym x.found ∙ y.found in
    subst (IsPair a m) (same_rows _ _ _ _ both) x.asks

pub one_target : (a b : Text) (m n : ℕ) (words : List Text) → IsMove a m words → IsMove b n words → a ≡ b
one_target a b m n words x y =
    let p = (same_pair a b m n words x y).target_is in let q = y.asks.target_is in cc

pub one_tag : (a b : Text) (m n : ℕ) (words : List Text) → IsMove a m words → IsMove b n words → m ≡ n
one_tag a b m n words x y =
    let p = (same_pair a b m n words x y).tag_is in let q = y.asks.tag_is in cc
