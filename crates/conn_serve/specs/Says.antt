-- What a connection may write, and when.
use Rattle.std.specs.Prelude.{ℕ, List, ◌++◌, Option, Err, All}
use Rattle.event_form.specs.declared.talk.Talk.{Talk}
use Rattle.edge_io.specs.Told.{MayFollow}
use Rattle.desk_access.specs.Call.{Call, takes, forgets}

-- A text may be written once the calls were made that it goes with: `ran` says which calls lead to which value of the desk, and
-- `written` is what was written before them.
abbrev pub MaySay : {A : Type 0} → (List Call → A → Type 0) → (List ℕ → Type 0) → Option (List ℕ) → (List Call → List ℕ → Type 0) → Type 0
MaySay {A} ran Permits written GoesWith =
    (now : A) (calls : List Call) (text : List ℕ) → ran calls now → GoesWith calls text → MayFollow Permits written text

-- The call promises a sender nothing: it is a take that failed, or an id that was forgotten.
abbrev pub PromisesNothing : Call → Type 0
PromisesNothing (takes group (Err fault)) = Unit {0}
PromisesNothing (forgets channel id held) = Unit {0}
PromisesNothing call = ⊥

-- Of these bytes, these calls and this text are what a connection has carried that ends here, in some way: at once, or after calls that
-- promise nothing, as where the events of an id that was said can't be taken.
pub record HasCarried (Carried : Option (List ℕ) → List ℕ → List Call → List ℕ → Talk → Type 0)
    (b : List ℕ) (calls : List Call) (text : List ℕ) : Type 0 where
  pub left : Option (List ℕ)
  pub talk : Talk
  pub late : List Call
  pub nothing : All PromisesNothing late
  pub carried : Carried left b (calls ++ late) text talk

-- so it is whatever was read after these bytes
abbrev pub CouldEnd : (Option (List ℕ) → List ℕ → List Call → List ℕ → Talk → Type 0) → List ℕ → List Call → List ℕ → Type 0
CouldEnd Carried fed calls text = (more : List ℕ) → HasCarried Carried (fed ++ more) calls text
