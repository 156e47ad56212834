-- What bytes are: a head, too few to tell, or no head.
use Rattle.std.specs.Prelude.{◌≡◌, ℕ, ◌+◌, ◌<◌, ◌==◌, ◌⊎◌, if◌then◌else◌, List, ◌++◌, length, take, Result, Ok, Err}
use Rattle.std.specs.Net.Addr.{HasPrefix}
use Rattle.proxy_head.specs.declared.limits.TheConstants.{LINE}
use Rattle.proxy_head.specs.declared.fault.HeadFault.{HeadFault}
use Rattle.proxy_head.specs.declared.fault.HeadWhy.{HeadWhy}
use Rattle.proxy_head.specs.declared.fault.HeadWhy.TheVariants.{Signature, Command, TooLong, Short}
use Rattle.proxy_head.specs.declared.fault.HeadWhy.TheVariants as why
use Rattle.proxy_head.specs.declared.head.Head.{Head}
use Rattle.proxy_head.specs.declared.head.Kind.{Kind}
use Rattle.proxy_head.specs.declared.head.Reading.{Reading}
use Rattle.proxy_head.specs.declared.head.Reading.TheVariants.{Whole, More}
use Rattle.proxy_head.specs.Line.{HasLine, LineTells, LineFault, text_of}
use Rattle.proxy_head.specs.Block.{HasBlock, BlockTells}

-- The bytes begin with a line or a block of so many bytes.
abbrev pub HasFrame : List ℕ → ℕ → Type 0
HasFrame bytes len = ((end : ℕ) × HasLine bytes end × (len ≡ end + 2)) ⊎ ((kind : Kind) × HasBlock bytes kind len)

-- More bytes could make them begin with a line or a block, which is longer than they are.
pub record IsBeginning (bytes : List ℕ) : Type 0 where
  pub more : List ℕ
  pub len : ℕ
  pub frame : HasFrame (bytes ++ more) len
  pub longer : length bytes < len

-- Whatever follows them, they begin with none.
abbrev pub BeginsNothing : List ℕ → Type 0
BeginsNothing bytes = (more : List ℕ) (len : ℕ) → HasFrame (bytes ++ more) len → ⊥

-- The byte at this offset is the first with which the bytes begin no line and no block.
pub record BreaksAt (bytes : List ℕ) (at : ℕ) : Type 0 where
  pub inside : at < length bytes
  pub before : IsBeginning (take at bytes)
  pub broken : BeginsNothing (take (at + 1) bytes)

-- what the byte at an offset says where it belongs to no line: the 13th the version and the command, the 14th the family, the next two the
-- length, and those before them are the signature
abbrev pub reason_at : ℕ → HeadWhy
reason_at at = if at == 12 then Command else (if at == 13 then why.Family else (if at == 14 then TooLong else (if at == 15 then Short else Signature)))

-- Why the byte at an offset breaks those before it: a line has no end in time, or what the byte should have said.
abbrev pub IsReason : List ℕ → ℕ → HeadWhy → Type 0
IsReason before at reason = (HasPrefix before LINE × (reason ≡ TooLong)) ⊎ ((HasPrefix before LINE → ⊥) × (reason ≡ reason_at at))

-- The bytes begin with this head: a line or a block that tells its source.
abbrev pub HasHead : List ℕ → Head → Type 0
HasHead bytes head =
    ((end : ℕ) × HasLine bytes end × (head.len ≡ end + 2) × LineTells (text_of bytes end) head.source)
    ⊎ ((kind : Kind) × HasBlock bytes kind head.len × BlockTells kind bytes head.source)

-- What is wrong with the bytes: they begin no line and no block, or a line that tells nothing.
abbrev pub IsFault : List ℕ → HeadFault → Type 0
IsFault bytes fault = (BreaksAt bytes fault.at × IsReason (take fault.at bytes) fault.at fault.why) ⊎ ((end : ℕ) × HasLine bytes end × LineFault (text_of bytes end) fault)

-- what is read from bytes
abbrev pub Reads : List ℕ → Result Reading HeadFault → Type 0
Reads bytes (Ok (Whole head)) = HasHead bytes head
Reads bytes (Ok More) = IsBeginning bytes
Reads bytes (Err fault) = IsFault bytes fault
