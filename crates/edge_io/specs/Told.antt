-- What an object tells of its bytes, its links and what became of them. `None` is told where it tells nothing.
use Rattle.std.specs.Prelude.{◌≡◌, ℕ, ◌+◌, List, [], ◌∷◌, ◌++◌, Option, Some, None}

-- what is told is this
abbrev pub IsToldAs : {A : Type 0} → Option A → A → Type 0
IsToldAs None x = Unit {0}
IsToldAs (Some y) x = y ≡ x

-- something is told
abbrev pub IsTold : {A : Type 0} → Option A → Type 0
IsTold None = ⊥
IsTold (Some x) = Unit {0}

-- the number told rose by one
abbrev pub IsOneMore : Option ℕ → Option ℕ → Type 0
IsOneMore None new = new ≡ None
IsOneMore (Some n) new = new ≡ Some (n + 1)

-- the list told has one more at its end, which is so
abbrev pub Adds : {A : Type 0} → Option (List A) → Option (List A) → (A → Type 0) → Type 0
Adds None new Is = new ≡ None
Adds {A} (Some old) new Is = (one : A) × Is one × (new ≡ Some (old ++ one ∷ []))

-- A new link has given and taken nothing, where it tells its bytes. It does tell them where the list of what becomes of
-- the links is told.
abbrev pub IsFresh : {A : Type 0} → Option A → Option (List ℕ) → Option (List ℕ) → Option (List ℕ) → Type 0
IsFresh None given taken left = IsToldAs given [] × IsToldAs taken []
IsFresh (Some list) given taken left = (given ≡ Some []) × (taken ≡ Some []) × IsTold left

-- the place of a dialed link, likewise
abbrev pub IsDialed : {A : Type 0} → Option A → Option (List ℕ) → List ℕ → Type 0
IsDialed None dialed place = IsToldAs dialed place
IsDialed (Some list) dialed place = dialed ≡ Some place

-- the piece may follow what is told: with it the whole is one of the texts permitted
abbrev pub MayFollow : (List ℕ → Type 0) → Option (List ℕ) → List ℕ → Type 0
MayFollow Permits None piece = Unit {0}
MayFollow Permits (Some before) piece = Permits (before ++ piece)

-- what was permitted stays so, and where nothing was told nothing is
abbrev pub Lasts : (List ℕ → Type 0) → Option (List ℕ) → (List ℕ → Type 0) → Option (List ℕ) → Type 0
Lasts Permits told Permits' told' = ((text : List ℕ) → Permits text → Permits' text) × (told ≡ None → told' ≡ None)
