-- The terms on which a connection is served.
use Rattle.std.specs.Prelude.{ℕ, nat_lt, if◌then◌else◌, Bool, true, false, None, []}
use Rattle.hec_session.specs.declared.tokens.Tokens.{Tokens}
use Rattle.conn_serve.specs.declared.rules.Rules.{Rules}

-- How many events of RELP are stored as one group at most, and the tokens by which the collector judges requests.
pub record Terms : Type 0 where
  pub most : ℕ
  pub tokens : Tokens

-- how many events of RELP are stored as one group at most
abbrev pub most_of : Bool → ℕ
most_of true = 512
most_of false = 1

-- How many bytes a short read asks for at most, after one that asked for so many and brought so many: as few as that one, as long as no
-- read was full.
abbrev pub short_piece : ℕ → ℕ → ℕ
short_piece asked came = if nat_lt asked 8192 then (if nat_lt came asked then asked else 8192) else 8192

-- How many bytes the next read asks for at most, after one that asked for so many and brought so many: few, unless the events of one
-- piece are stored as one group and much comes.
abbrev pub next_piece : Bool → ℕ → ℕ → ℕ
next_piece false asked came = short_piece asked came
next_piece true asked came = if nat_lt 4096 came then (if nat_lt came asked then asked else 65536) else short_piece asked came

-- those of its rules
abbrev pub terms_of : Rules → Terms
terms_of rules = record { most = most_of rules.group; tokens = record { token = rules.token; ack_token = rules.ack_token; listed = rules.listed } }

-- no tokens
abbrev pub no_tokens : Tokens
no_tokens = record { token = None; ack_token = None; listed = [] }

-- of a protocol that has no tokens
abbrev pub runs_of : ℕ → Terms
runs_of most = record { most = most; tokens = no_tokens }

-- of one that stores each group by itself
abbrev pub terms_with : Tokens → Terms
terms_with tokens = record { most = 1; tokens = tokens }
