-- How options may be spelt, as the words of clap have it: computed for words of which the values are any.
use Rattle.std.proofs.Common.{◌≡◌, ℕ, List, [], ◌∷◌, ◌++◌, refl, ap, inl, inr, codes, arith}
use Rattle.std.specs.Prelude.{Bool, true, false, Option, None, Some, option_map, Result, Ok}
use Rattle.std.specs.Option.{ok_or, option_map_or}
use Rattle.clap.specs.Walk.{Row, Text}
use Rattle.clap.specs.Kinds.{Kinds}
use Rattle.clap.specs.declared.error.kind.ErrorKind.{ErrorKind}
use Rattle.clap.specs.declared.error.kind.ErrorKind.TheVariants as kind
use Rattle.clap.proofs.OnLiterals.{clap_on_literals}
use Rattle.desk_access.specs.declared.division.Division.TheVariants.{Workers}
use Rattle.edge_io.specs.declared.proto.Proto.TheVariants.{Hec}
use Rattle.bridge_words.specs.declared.command.Command.TheVariants.{Replay, Drain, Serve}
use Rattle.bridge_words.specs.declared.command.Receiver.TheVariants.{Relp as ToRelp}
use Rattle.words_faults.specs.declared.fault.WordsFault.{WordsFault}
use Rattle.words_faults.specs.declared.fault.WordsFault.TheVariants as wrong
use Rattle.bridge_words.specs.Grammar.{refusals, named}
use Rattle.bridge_words.specs.Values.{value_of, number_within, guid, relp_in, lumberjack_in, hec_in, status_in, division_in, workers_in, talks_in, group_in}
use Rattle.bridge_words.specs.Wrong.IsWrong.{found}
use Rattle.bridge_words.specs.Wrong.WrongBy.{in_move}
use Rattle.bridge_words.specs.Words.{IsCommand, IsNoCommand, AreTokens, IsServe, IsMove, IsNoMove, relp_server, relay_in}
use Rattle.bridge_words.proofs.Numbers.{within}
use Rattle.bridge_words.proofs.Wrongs.{wrong_is_no_move}

-- what was found of the words
abbrev pub rows_of_words : List Text → List Row
rows_of_words words = option_map_or (λ (p : Text × List Row). p.1) (named words) []

-- a token that is read
abbrev token_or : Option ℕ → Result (Option ℕ) WordsFault
token_or number = ok_or (option_map Some number) wrong.Token

abbrev ack_token_or : Option ℕ → Result (Option ℕ) WordsFault
ack_token_or number = ok_or (option_map Some number) wrong.AckToken

-- a tag that is read
abbrev tag_or : Option ℕ → Result ℕ WordsFault
tag_or number = ok_or number wrong.Tag

abbrev joined_words : Text → Text → List Text
joined_words t a = codes "replay" ∷ codes "hec" ∷ (codes "--token=" ++ t) ∷ (codes "--ack-token=" ++ a) ∷ []

pub joined : (t a : Text) (token ack_token : ℕ) → guid t ≡ Some token → guid a ≡ Some ack_token → IsCommand (Replay Hec (Some token) (Some ack_token)) (joined_words t a)
unfolding refusals named value_of clap_on_literals
joined t a token ack_token is ack_is = record {
  rows = rows_of_words (joined_words t a);
  taken = refl;
  found = refl;
  asks = record { proto_is = refl; token_is = ap token_or is; ack_token_is = ap ack_token_or ack_is };
}

abbrev turned_words : Text → Text → List Text
turned_words t a = codes "replay" ∷ (codes "--ack-token=" ++ a) ∷ (codes "--token=" ++ t) ∷ codes "--" ∷ codes "hec" ∷ []

pub turned : (t a : Text) (token ack_token : ℕ) → guid t ≡ Some token → guid a ≡ Some ack_token → IsCommand (Replay Hec (Some token) (Some ack_token)) (turned_words t a)
unfolding refusals named value_of clap_on_literals
turned t a token ack_token is ack_is = record {
  rows = rows_of_words (turned_words t a);
  taken = refl;
  found = refl;
  asks = record { proto_is = refl; token_is = ap token_or is; ack_token_is = ap ack_token_or ack_is };
}

abbrev placed_words : Text → List Text
placed_words p = codes "drain" ∷ codes "relp" ∷ codes "--" ∷ p ∷ []

pub placed : (x : ℕ) (more : Text) → IsCommand (Drain ToRelp (Some (x ∷ more))) (placed_words (x ∷ more))
unfolding refusals named value_of clap_on_literals
placed x more = record {
  rows = rows_of_words (placed_words (x ∷ more));
  taken = refl;
  found = refl;
  asks = record { receiver_is = refl; place_is = refl; in_range = tt };
}

-- words that clap refuses
pub refused : (words : List Text) (k : ErrorKind) (more : Kinds) → refusals words ≡ k ∷ more → IsNoCommand words
refused words k more is command c = let none = c.taken in absurd (cc)

pub twice : (t u : Text) → IsNoCommand (codes "replay" ∷ codes "hec" ∷ (codes "--token=" ++ t) ∷ (codes "--token=" ++ u) ∷ [])
unfolding refusals clap_on_literals
twice t u = refused _ kind.ArgumentConflict [] refl

pub ended : (t : Text) → IsNoCommand (codes "replay" ∷ codes "hec" ∷ codes "--" ∷ (codes "--token=" ++ t) ∷ [])
unfolding refusals clap_on_literals
ended t = refused _ kind.UnknownArgument [] refl

pub before : (t : Text) → IsNoCommand ((codes "--token=" ++ t) ∷ codes "replay" ∷ codes "hec" ∷ [])
unfolding refusals clap_on_literals
before t = refused _ kind.UnknownArgument [] refl

-- ---- `--group`

abbrev relp_words : Text → Text
relp_words place = codes "--relp=" ++ place

asks_relp : (x : ℕ) (place : Text) (group : Bool) (rows : List Row) → relp_in rows ≡ Ok (Some (x ∷ place)) → lumberjack_in rows ≡ Ok None → hec_in rows ≡ Ok None
    → status_in rows ≡ Ok None → division_in rows ≡ Ok Workers → workers_in Workers rows ≡ Ok 4 → talks_in Workers rows ≡ Ok 67108864
    → AreTokens None None [] rows → group_in rows ≡ group → relay_in rows ≡ Ok None
    → IsServe (relp_server (x ∷ place) group) rows
asks_relp x place group rows relp lumberjack hec status division workers talks tokens grouped relay = record {
  doors_are = record { relp_is = relp; lumberjack_is = lumberjack; hec_is = hec; some_door = inl refl };
  crew_is = record {
    division_is = division;
    workers_is = workers;
    talks_is = talks;
    some_worker = omega arith;
    few_workers = omega arith;
    some_talk = omega arith;
    few_talks = omega arith;
  };
  tokens_are = tokens;
  status_is = status;
  group_is = grouped;
  forward_is = relay;
  few_polls = tt;
}

abbrev without_words : Text → List Text
without_words place = codes "serve" ∷ relp_words place ∷ []

pub without : (x : ℕ) (place : Text) → IsCommand (Serve (relp_server (x ∷ place) false)) (without_words (x ∷ place))
unfolding refusals named value_of clap_on_literals
without x place = record {
  rows = rows_of_words (without_words (x ∷ place));
  taken = refl;
  found = refl;
  asks = asks_relp x place false (rows_of_words (without_words (x ∷ place))) refl refl refl refl refl refl refl (record { token_is = refl; ack_token_is = refl; listed_is = refl }) refl refl;
}

abbrev before_words : Text → List Text
before_words place = codes "serve" ∷ codes "--group" ∷ relp_words place ∷ []

pub grouped_before : (x : ℕ) (place : Text) → IsCommand (Serve (relp_server (x ∷ place) true)) (before_words (x ∷ place))
unfolding refusals named value_of clap_on_literals
grouped_before x place = record {
  rows = rows_of_words (before_words (x ∷ place));
  taken = refl;
  found = refl;
  asks = asks_relp x place true (rows_of_words (before_words (x ∷ place))) refl refl refl refl refl refl refl (record { token_is = refl; ack_token_is = refl; listed_is = refl }) refl refl;
}

abbrev behind_words : Text → List Text
behind_words place = codes "serve" ∷ relp_words place ∷ codes "--group" ∷ []

pub grouped_behind : (x : ℕ) (place : Text) → IsCommand (Serve (relp_server (x ∷ place) true)) (behind_words (x ∷ place))
unfolding refusals named value_of clap_on_literals
grouped_behind x place = record {
  rows = rows_of_words (behind_words (x ∷ place));
  taken = refl;
  found = refl;
  asks = asks_relp x place true (rows_of_words (behind_words (x ∷ place))) refl refl refl refl refl refl refl (record { token_is = refl; ack_token_is = refl; listed_is = refl }) refl refl;
}

pub grouped_twice : (place : Text) → IsNoCommand (codes "serve" ∷ codes "--group" ∷ codes "--group" ∷ relp_words place ∷ [])
unfolding refusals clap_on_literals
grouped_twice place = refused _ kind.ArgumentConflict [] refl

pub grouped_by : (place value : Text) → IsNoCommand (codes "serve" ∷ relp_words place ∷ (codes "--group=" ++ value) ∷ [])
unfolding refusals clap_on_literals
grouped_by place value = refused _ kind.TooManyValues [] refl

-- ---- `move`

abbrev move_words : Text → Text → List Text
move_words target t = codes "move" ∷ codes "--" ∷ target ∷ t ∷ []

pub moves : (target t : Text) (tag : ℕ) → number_within 0 4294967295 t ≡ Some tag → IsMove target tag (move_words target t)
unfolding refusals named value_of clap_on_literals
moves target t tag is = record {
  rows = rows_of_words (move_words target t);
  taken = refl;
  found = refl;
  asks = record { target_is = refl; tag_is = ap tag_or is; small = within 0 4294967295 t tag is };
}

pub no_tag : (target t : Text) → number_within 0 4294967295 t ≡ None → IsNoMove (move_words target t)
unfolding refusals named value_of clap_on_literals
no_tag target t none = wrong_is_no_move wrong.Tag (move_words target t)
    (found (codes "move") (rows_of_words (move_words target t)) refl (in_move refl (inr (ap tag_or none))))

pub moves_both : (target : Text) → IsNoMove (codes "move" ∷ codes "--" ∷ target ∷ [])
unfolding refusals clap_on_literals
moves_both target into tag c = let none = c.taken in absurd (cc)
