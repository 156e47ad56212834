-- What holds of heads whatever reads them.
use Rattle.std.specs.Prelude.{◌≡◌, ◌≢◌, ℕ, List, ◌++◌, take, Result, Ok}
use Rattle.proxy_head.specs.declared.limits.TheConstants.{MOST_HEAD}
use Rattle.proxy_head.specs.declared.fault.HeadFault.{HeadFault}
use Rattle.proxy_head.specs.declared.head.Reading.{Reading}
use Rattle.proxy_head.specs.declared.head.Reading.TheVariants.{More}
use Rattle.proxy_head.specs.Head.{Reads}

-- Bytes are read in one way: as a head and nothing else, or as too few, or as a fault with one place and one reason.
abbrev pub OneReading : Type 0
OneReading = (bytes : List ℕ) (one other : Result Reading HeadFault) → Reads bytes one → Reads bytes other → one ≡ other

-- What was read stays so whatever follows, but that more bytes were wanted.
abbrev pub StaysRead : Type 0
StaysRead = (bytes more : List ℕ) (one : Result Reading HeadFault) → one ≢ Ok More → Reads bytes one → Reads (bytes ++ more) one

-- The first 4,111 bytes decide.
abbrev pub LooksAtFew : Type 0
LooksAtFew = (bytes : List ℕ) (one : Result Reading HeadFault) → Reads (take MOST_HEAD bytes) one → Reads bytes one
