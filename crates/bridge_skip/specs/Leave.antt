-- When the number of an entry that is skipped may become known as confirmed.
use Rattle.std.specs.Prelude.{◌≡◌, ℕ, List, Option}
use Rattle.std.specs.List.{Contains}
use Rattle.spool_state.specs.SpoolState.{SpoolState}
use Rattle.spool_state.specs.Left.{NumberedEntry, left}
use Rattle.spool_state.specs.Image.{StandsFor}
use Rattle.notes.specs.declared.note.Note.TheVariants.{Fine}
use Rattle.bridge_skip.specs.Line.{PrintsEvent}

-- the entry has that number, and is one of those whose numbers aren't known as confirmed
pub record IsPending (s : SpoolState) (number : ℕ) (one : NumberedEntry) : Type 0 where
  pub here : Contains (left s) one
  pub number_is : one.number ≡ number

-- the pending entry of that number was printed, all of its line
abbrev pub IsPrintedOf : SpoolState → ℕ → Option (List ℕ) → Option (List ℕ) → Type 0
IsPrintedOf s number old new = (one : NumberedEntry) × IsPending s number one × PrintsEvent one.entry.event Fine old new

-- So it was of the spool that the device stands for.
pub record WasPrinted (device : List ℕ) (number : ℕ) (old new : Option (List ℕ)) : Type 0 where
  pub state : SpoolState
  pub stands : StandsFor state device
  pub printed : IsPrintedOf state number old new

-- An output, as a call is given it: which outputs are the very one, what it tells that it took, and it as it was.
pub record Given (K : Type 0) : Type 1 where
  pub same : K → K → Type 0
  pub taken : K → Option (List ℕ)
  pub old : K

abbrev pub given_output : {K : Type 0} (same : K → K → Type 0) (taken : K → Option (List ℕ)) → K → Given K
given_output same taken old = record { same = same; taken = taken; old = old }

-- The number may become known once the output took all of the line. Of a device that doesn't tell what it reads nothing is said of its
-- entries.
abbrev pub MaySkip : {K : Type 0} → Type 0 → List ℕ → ℕ → Given K → (ℕ → Type 0) → Type 0
MaySkip {K} tells device number output Release =
    (now : K) → output.same output.old now → (tells → WasPrinted device number (output.taken output.old) (output.taken now)) → Release number
