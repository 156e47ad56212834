-- What has been read of a stream that comes in pieces, and what is held of it. A reader builds its frames
-- and hands them out; a window of fixed length keeps their bytes and lends them.
use Rattle.std.specs.Prelude.{◌≡◌, ℕ, ◌+◌, ◌-◌, ◌++◌, List, [], ◌∷◌, length, min, Option, Some, None, Result}
use Rattle.stream_grammar.specs.Feeding as feeding
use Rattle.stream_grammar.specs.Feeding.{FeedsPart, GivesOn, told}
use Rattle.stream_grammar.specs.Framing.{AreSpelled}

-- What bytes are in a format of frames F and faults E.
pub record Format (F E : Type 0) : Type 1 where
  -- they are these frames, which end at a place, and then this rest, without a fault
  pub IsWhole : List ℕ → List F → ℕ → List ℕ → Type 0
  -- they are these frames, which end at a place, and then this rest, after which this fault lies
  pub IsFaulty : List ℕ → List F → ℕ → List ℕ → E → Type 0

-- What is held of the rest, as a thing H. P says which bytes the rest may be.
pub record Holding (H : Type 0) : Type 1 where
  -- of a rest without a fault this is held
  pub Going : (List ℕ → Type 0) → H → Type 0
  -- and of one after which a fault lies
  pub Faulty : (List ℕ → Type 0) → H → Type 0

-- bytes are held: the rest itself, and of one after which a fault lies what Held says
abbrev pub as_bytes : (List ℕ → List ℕ → Type 0) → Holding (List ℕ)
as_bytes Held = record { Going = λ P held. P held; Faulty = λ P held. (rest : List ℕ) × P rest × Held rest held }

-- parts are held of the rest, as Holds says, and of one after which a fault lies none
abbrev pub in_parts : {H : Type 0} → (List ℕ → H → Type 0) → (H → Type 0) → Holding H
in_parts Holds HasNone = record { Going = λ P held. (rest : List ℕ) × P rest × Holds rest held; Faulty = λ P held. P [] × HasNone held }

-- at a fault a reader drops bytes, and a window keeps them
abbrev pub Drops : Holding (List ℕ)
Drops = as_bytes (λ rest held. held ≡ [])

abbrev pub Keeps : Holding (List ℕ)
Keeps = as_bytes (λ rest held. held ≡ rest)

-- the bytes are these frames, up to an offset, and then a rest or a fault, of which this is held
abbrev pub ReadsTo : {F E H : Type 0} → Format F E → Holding H → List ℕ → List F → ℕ → H → Option E → Type 0
ReadsTo p h fed frames at held None = h.Going (p.IsWhole fed frames at) held
ReadsTo p h fed frames at held (Some e) = h.Faulty (λ rest. p.IsFaulty fed frames at rest e) held

-- What contracts see of a window: the bytes of the whole frames that wait, the offset after them, the
-- bytes held from there on, and the fault. With a fault the bytes before its place are held.
pub record Window (E : Type 0) : Type 0 where
  pub whole : List ℕ
  pub at : ℕ
  pub rest : List ℕ
  pub fault : Option E

-- a window that was fed nothing
abbrev pub clear : {E : Type 0} → Window E
clear = record { whole = []; at = 0; rest = []; fault = None }

-- how many bytes it holds
abbrev pub held_of : {E : Type 0} → Window E → ℕ
held_of w = length w.whole + length w.rest

-- how much of a piece a window of so many bytes takes
abbrev pub taken_of : {E : Type 0} → ℕ → Window E → List ℕ → ℕ
taken_of room w piece = min (length piece) (room - held_of w)

-- The bytes taken so far are the frames that were given, those that wait, and a rest or a fault. Spells
-- says how a frame may be spelled.
abbrev pub Reads : {F E : Type 0} → Format F E → (F → List ℕ → Type 0) → List ℕ → List F → Window E → Type 0
Reads {F} p Spells fed given w = (waiting : List F) × AreSpelled Spells waiting w.whole × ReadsTo p Keeps fed (given ++ waiting) w.at w.rest w.fault

-- whatever was read before, that and the bytes after it are read now
abbrev pub ReadsOn : {F E : Type 0} → Format F E → (F → List ℕ → Type 0) → Window E → List ℕ → Window E → Type 0
ReadsOn p Spells = feeding.ReadsOn (Reads p Spells)

-- what a call leaves that feeds a piece to a window of so many bytes
abbrev pub Feeds : {F E : Type 0} → Format F E → (F → List ℕ → Type 0) → ℕ → Window E → List ℕ → Result ℕ E → Window E → Type 0
Feeds {F} {E} p Spells room old piece r new = FeedsPart (Reads p Spells) (λ (w : Window E). w.fault) (taken_of room old piece) old piece (told r) new

-- the first of the frames that wait is given, and no longer waits
pub record Gives {F E : Type 0} (p : Format F E) (Spells : F → List ℕ → Type 0) (old : Window E) (f : F) (new : Window E) : Type 0 where
  pub text : List ℕ
  pub spelled : Spells f text
  pub first : old.whole ≡ text ++ new.whole
  pub same : new ≡ record old { whole = new.whole }
  pub reads : GivesOn (Reads p Spells) old (f ∷ []) new
