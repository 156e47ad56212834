-- Which token requests have.
use Rattle.std.specs.Prelude.{ℕ, Option, None}
use Rattle.edge_net.specs.declared.authorized.Authorized.{Authorized}
use Rattle.edge_net.specs.declared.authorized.Authorized.TheVariants.{By, Unsure}

-- the token, where it is known
abbrev pub token_of : Authorized → Option ℕ
token_of (By token due) = token
token_of Unsure = None
