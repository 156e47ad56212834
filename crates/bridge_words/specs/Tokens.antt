-- A list of tokens, as the word that has it is read, and what is wrong where it can't be.
use Rattle.std.specs.Prelude.{◌&&◌, Bool, false, true, List, [], ◌∷◌, ◌-◌, length, take, nat_eq, nat_le, Option, None, Some, option_map, option_and_then, Result, Ok, Err, codes, if◌then◌else◌}
use Rattle.std.specs.List.{ends_with}
use Rattle.std.specs.Option.{ok_or}
use Rattle.std.specs.Str.Lines.{lines}
use Rattle.clap.specs.Walk.{Row, Text}
use Rattle.hec_tokens.specs.declared.list.ListedToken.{ListedToken}
use Rattle.bridge_words.specs.Values.{guid, value_of}
use Rattle.words_faults.specs.declared.fault.WordsFault.{WordsFault}
use Rattle.words_faults.specs.declared.fault.WordsFault.TheVariants.{Tokens, BothTokens}

-- a GUID as a token, with acks or without
abbrev pub guid_token : Bool → Text → Option ListedToken
guid_token acks text = option_map (λ number. record { guid = number; acks = acks }) (guid text)

-- the token of a line: a GUID, or a GUID, a space and `ack`
abbrev pub token_at : Text → Option ListedToken
token_at line = if ends_with nat_eq line (codes " ack") then guid_token true (take (length line - 4) line) else guid_token false line

-- the tokens of lines, each of which has one
abbrev pub tokens_of : List Text → Option (List ListedToken)
tokens_of [] = Some []
tokens_of (line ∷ more) = option_and_then (λ token. option_map (λ tokens. token ∷ tokens) (tokens_of more)) (token_at line)

-- those of a text of 1 to 1,000 lines
abbrev pub tokens_at : Text → Option (List ListedToken)
tokens_at text = if nat_le 1 (length (lines text)) && nat_le (length (lines text)) 1000 then tokens_of (lines text) else None

-- the value of `--tokens`, beside which stands neither that of `--token` nor that of `--ack-token`
abbrev pub listed_by : Option Text → Option Text → Option Text → Result (List ListedToken) WordsFault
listed_by None token ack_token = Ok []
listed_by (Some text) None None = ok_or (tokens_at text) Tokens
listed_by (Some text) None (Some ack_token) = Err BothTokens
listed_by (Some text) (Some token) ack_token = Err BothTokens

abbrev pub listed_in : List Row → Result (List ListedToken) WordsFault
listed_in rows = listed_by (value_of (codes "tokens") rows) (value_of (codes "token") rows) (value_of (codes "ack-token") rows)
