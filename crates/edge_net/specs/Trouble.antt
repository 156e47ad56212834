-- What went wrong on a connection, as an error of the system shows it.
use Rattle.std.specs.Prelude.{◌≡◌, ◌⊎◌, ℕ, Some, None}
use Rattle.std.specs.IoError.{error_kind, raw_os_error}
use Rattle.std.specs.declared.io.Error.{Error}
use Rattle.std.specs.declared.io.ErrorKind.{ErrorKind}
use Rattle.std.specs.declared.io.ErrorKind.TheVariants.{WouldBlock, TimedOut, ConnectionReset, BrokenPipe}
use Rattle.edge_net.specs.declared.trouble.Way.{Way}
use Rattle.edge_net.specs.declared.trouble.Way.TheVariants.{In, Out}
use Rattle.edge_net.specs.declared.trouble.Trouble.{Trouble}
use Rattle.edge_net.specs.declared.trouble.Trouble.TheVariants.{Silent, Stuck, Reset, Error as SystemError, Unknown}

-- the call waited for the peer in vain
abbrev pub IsTimeout : ErrorKind → Type 0
IsTimeout kind = (kind ≡ WouldBlock) ⊎ (kind ≡ TimedOut)

-- the peer broke the connection off
abbrev pub IsReset : ErrorKind → Type 0
IsReset kind = (kind ≡ ConnectionReset) ⊎ (kind ≡ BrokenPipe)

-- neither of both
pub record IsElse (kind : ErrorKind) : Type 0 where
  pub no_timeout : IsTimeout kind → ⊥
  pub no_reset : IsReset kind → ⊥

-- what that error of such a call is, which waits for so many seconds
abbrev pub IsTrouble : Trouble → Error → Way → ℕ → Type 0
IsTrouble (Silent seconds) error way wait = IsTimeout (error_kind error) × (way ≡ In) × (seconds ≡ wait)
IsTrouble (Stuck seconds) error way wait = IsTimeout (error_kind error) × (way ≡ Out) × (seconds ≡ wait)
IsTrouble Reset error way wait = IsReset (error_kind error)
IsTrouble (SystemError number) error way wait = IsElse (error_kind error) × (raw_os_error error ≡ Some number)
IsTrouble Unknown error way wait = IsElse (error_kind error) × (raw_os_error error ≡ None)
