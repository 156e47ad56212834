-- What the calls of a reader and of a window leave, in any format and whatever they hold. Reads says of the bytes fed so
-- far and the frames given what is read now, and fault the fault that was met.
use Rattle.std.specs.Prelude.{◌≡◌, ℕ, ◌++◌, List, take, Option, Some, None, Result, Ok, Err}
use Rattle.event_form.specs.declared.feed_fault.FeedFault.{FeedFault}
use Rattle.event_form.specs.declared.feed_fault.FeedFault.TheVariants.{Fault, NoMemory}

-- whatever was read before, that and the bytes after it are read now
abbrev pub ReadsOn : {F R : Type 0} → (List ℕ → List F → R → Type 0) → R → List ℕ → R → Type 0
ReadsOn {F} Reads old piece new = (fed : List ℕ) (given : List F) → Reads fed given old → Reads (fed ++ piece) given new

-- whatever was given before, that and these frames are given now
abbrev pub GivesOn : {F R : Type 0} → (List ℕ → List F → R → Type 0) → R → List F → R → Type 0
GivesOn {F} Reads old frames new = (fed : List ℕ) (given : List F) → Reads fed given old → Reads fed (given ++ frames) new

-- What a call leaves that feeds a whole piece. It finds the fault of that. Where it finds no memory nothing is changed.
abbrev pub Feeds : {F R E : Type 0} → (List ℕ → List F → R → Type 0) → (R → Option E) → R → List ℕ → Result (Unit {0}) (FeedFault E) → R → Type 0
Feeds Reads fault old piece (Ok u) new = (fault new ≡ None) × ReadsOn Reads old piece new
Feeds Reads fault old piece (Err (Fault e)) new = (fault new ≡ Some e) × ReadsOn Reads old piece new
Feeds Reads fault old piece (Err NoMemory) new = (new ≡ old) × (fault old ≡ None)

-- What a call leaves that feeds as many bytes of a piece as there is room for. It answers how many these are, or finds
-- their fault.
abbrev pub FeedsPart : {F R E : Type 0} → (List ℕ → List F → R → Type 0) → (R → Option E) → ℕ → R → List ℕ → Result ℕ (FeedFault E) → R → Type 0
FeedsPart Reads fault taken old piece (Ok n) new = (n ≡ taken) × (fault new ≡ None) × ReadsOn Reads old (take n piece) new
FeedsPart Reads fault taken old piece (Err (Fault e)) new = (fault new ≡ Some e) × (fault old ≡ None → ReadsOn Reads old (take taken piece) new)
FeedsPart Reads fault taken old piece (Err NoMemory) new = (new ≡ old) × (fault old ≡ None)

-- the answer of a call that takes no memory
abbrev pub told : {E : Type 0} → Result ℕ E → Result ℕ (FeedFault E)
told (Ok n) = Ok n
told (Err e) = Err (Fault e)
