-- What went over a link, both ways.
use Rattle.std.specs.Prelude.{ℕ, List, [], Option}
use Rattle.std.specs.Io.KnownBytes.{Appends}
use Rattle.edge_io.specs.Told.{IsToldAs}

-- The link gave these bytes and took this text, all since it was the old one.
pub record HasExchanged {L : Type 0} (same : L → L → Type 0) (given taken : L → Option (List ℕ)) (old : L) (bytes text : List ℕ) : Type 0 where
  pub now : L
  pub goes_on : same old now
  pub gave : Appends (given old) (given now) bytes
  pub took : Appends (taken old) (taken now) text

-- The link was dialed at the place, and has given and taken no byte, where it tells that.
pub record IsNewAt (place : List ℕ) (dialed given taken : Option (List ℕ)) : Type 0 where
  pub dialed_there : IsToldAs dialed place
  pub none_given : IsToldAs given []
  pub none_taken : IsToldAs taken []

-- A link that was dialed at the place gave these bytes and took this text, all since it was dialed.
pub record HasExchangedAt {L : Type 0} (same : L → L → Type 0) (dialed given taken : L → Option (List ℕ)) (place bytes text : List ℕ) : Type 0 where
  pub new : L
  pub is_new : IsNewAt place (dialed new) (given new) (taken new)
  pub since : HasExchanged same given taken new bytes text
