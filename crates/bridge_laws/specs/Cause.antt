-- Why a number is known as confirmed: it was known before, or a call since then made it known.
use Rattle.std.specs.Prelude.{◌≡◌, ◌⊎◌, ℕ, List, [], ◌∷◌, IsSome}
use mathlib.Core.Logic.{inl, inr}
use Rattle.bridge_words.specs.declared.command.Command.TheVariants.{Serve}
use Rattle.bridge_words.specs.declared.command.Server.{Server}
use Rattle.bridge_words.specs.Words.{IsCommand}
use Rattle.bridge_core.specs.Failed.{AsksDrain}
use Rattle.bridge_skip.specs.Leave.{WasPrinted}
use Rattle.bridge_laws.specs.Cut.{AreNextOrCut, IsNextOrCut}
use Rattle.bridge_laws.specs.Leave.{IsKnownAt, last_disk}
use Rattle.bridge_laws.specs.Lifetime.{AreNext, IsNext, IsOneCall, IsSkip, no_format}
use Rattle.bridge_laws.specs.Told.{DiskKind, Telling}

-- the words serve senders, and name a receiver to forward to
abbrev pub AsksRelay : List (List ℕ) → Type 0
AsksRelay words = (server : Server) × IsCommand (Serve server) words × IsSome server.forward

-- The words forward entries. The numbers that they make known are those of entries that a receiver acknowledged: that is `releases` of
-- `bridge`.
abbrev pub AsksForward : List (List ℕ) → Type 0
AsksForward words = AsksDrain words ⊎ AsksRelay words

-- The skip was of that number, and the output took all of the line of the entry that was pending at it.
pub record SkipsIt {D S K N P : Type 0} (tell : Telling D S K N P) (old new : D) (skip : IsSkip tell old new) (number : ℕ) : Type 0 where
  pub number_is : skip.number ≡ number
  pub printed : WasPrinted (tell.disk.moment old).reads number (tell.output skip.output skip.output').taken
      (tell.output skip.output skip.output').taken_after

-- The call forwards entries, or is a skip of that number.
abbrev pub MakesKnown : {D S K N P : Type 0} (tell : Telling D S K N P) (old new : D) → IsOneCall no_format.words tell old new → ℕ → Type 0
MakesKnown tell old new (inl called) number = AsksForward called.words
MakesKnown tell old new (inr skip) number = SkipsIt tell old new skip number

-- Such a call led to the next disk, as a whole or up to a crash; or a move out of the device did, which gives up what the target has.
abbrev pub IsCause : {D E S K N P : Type 0} (tell : Telling D S K N P) (other : DiskKind E) (old new : D)
    → IsNext no_format tell other old new → ℕ → Type 0
IsCause tell other old new (inl call) number = MakesKnown tell old new call number
IsCause tell other old new (inr (inl crash)) number = ⊥
IsCause tell other old new (inr (inr (inl (mid, call, within)))) number = MakesKnown tell old mid call number
IsCause tell other old new (inr (inr (inr (inl out)))) number = Unit {0}
IsCause tell other old new (inr (inr (inr (inr into)))) number = ⊥

-- one of these was that
abbrev pub HasCause : {D E S K N P : Type 0} (tell : Telling D S K N P) (other : DiskKind E) (disk : D) (later : List D)
    → AreNext no_format tell other disk later → ℕ → Type 0
HasCause tell other disk [] are number = ⊥
HasCause tell other disk (next ∷ later) (first, rest) number =
    IsCause tell other disk next first number ⊎ HasCause tell other next later rest number

-- A number that is known on the last disk was known on the first, or one of the calls between made it known.
abbrev pub KnownHasCause : {D E S K N P : Type 0} (tell : Telling D S K N P) (other : DiskKind E) → Type 0
KnownHasCause {D = D} tell other =
    (disk : D) (later : List D) (are : AreNext no_format tell other disk later) (number : ℕ)
    → IsKnownAt (tell.disk.moment (last_disk disk later)) number
    → IsKnownAt (tell.disk.moment disk) number ⊎ HasCause tell other disk later are number

-- ---- over calls that were cut off, or never ended

-- A call that was cut off made the number known if it may become known: that is the leave which `bridge` asks for by its words (`releases`),
-- and `bridge_move` and `bridge_skip` by what they have done for the number (`earned`).
abbrev pub IsCauseOrCut : {D E S K N P : Type 0} (tell : Telling D S K N P) (other : DiskKind E) (Release : ℕ → Type 0) (old new : D)
    → IsNextOrCut tell other Release old new → ℕ → Type 0
IsCauseOrCut tell other Release old new (inl next) number = IsCause tell other old new next number
IsCauseOrCut tell other Release old new (inr cut) number = Release number

-- one of these was that
abbrev pub HasCauseOrCut : {D E S K N P : Type 0} (tell : Telling D S K N P) (other : DiskKind E) (Release : ℕ → Type 0) (disk : D)
    (later : List D) → AreNextOrCut tell other Release disk later → ℕ → Type 0
HasCauseOrCut tell other Release disk [] are number = ⊥
HasCauseOrCut tell other Release disk (next ∷ later) (first, rest) number =
    IsCauseOrCut tell other Release disk next first number ⊎ HasCauseOrCut tell other Release next later rest number

-- A number that is known on the last disk was known on the first, or one of the calls between made it known, ended or cut off.
abbrev pub KnownHasCauseOrCut : {D E S K N P : Type 0} (tell : Telling D S K N P) (other : DiskKind E) (Release : ℕ → Type 0) → Type 0
KnownHasCauseOrCut {D = D} tell other Release =
    (disk : D) (later : List D) (are : AreNextOrCut tell other Release disk later) (number : ℕ)
    → IsKnownAt (tell.disk.moment (last_disk disk later)) number
    → ∥ (IsKnownAt (tell.disk.moment disk) number ⊎ HasCauseOrCut tell other Release disk later are number) ∥₁
