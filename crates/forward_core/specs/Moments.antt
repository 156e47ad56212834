-- What is done between two moments of a session.
use Rattle.std.specs.Prelude.{ℕ, List, ◌++◌, Option}
use Rattle.std.specs.Io.KnownBytes.{Appends, Consumes}
use Rattle.desk_access.specs.Call.{Call}

-- What a link says of its bytes: those given so far and those that are left, and those written.
pub record Told : Type 0 where
  pub given : Option (List ℕ)
  pub left : Option (List ℕ)
  pub written : Option (List ℕ)

abbrev pub told : Option (List ℕ) → Option (List ℕ) → Option (List ℕ) → Told
told given left written = record { given = given; left = left; written = written }

-- A piece was read, calls were made on the desk, and a text was written. Of these this is so.
pub record Does (ran : List Call → Type 0) (was now : Told) (Is : List ℕ → List Call → List ℕ → Type 0) : Type 0 where
  pub piece : List ℕ
  pub calls : List Call
  pub text : List ℕ
  pub read : Appends was.given now.given piece
  pub consumed : Consumes was.left now.left piece
  pub wrote : Appends was.written now.written text
  pub made : ran calls
  pub is : Is piece calls text

-- Calls were made on the desk. Of these this is so.
pub record Calls (ran : List Call → Type 0) (Is : List Call → Type 0) : Type 0 where
  pub calls : List Call
  pub made : ran calls
  pub is : Is calls

-- a fact of all that was done since a start: the number from which entries are read, the bytes read, the calls and the
-- text written
abbrev pub Fact : Type 1
Fact = ℕ → List ℕ → List Call → List ℕ → Type 0

-- Where the first was so of all that was done before, the other is so of all by now.
abbrev pub Leads : Fact → Fact → List ℕ → List Call → List ℕ → Type 0
Leads From To piece calls text = (start : ℕ) (bytes : List ℕ) (before : List Call) (out : List ℕ) → From start bytes before out → To start (bytes ++ piece) (before ++ calls) (out ++ text)

-- the same where nothing was read or written
abbrev pub LeadsBy : Fact → Fact → List Call → Type 0
LeadsBy From To calls = (start : ℕ) (bytes : List ℕ) (before : List Call) (out : List ℕ) → From start bytes before out → To start bytes (before ++ calls) out
