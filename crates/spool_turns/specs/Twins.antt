-- Two seats that know one desk: one lies under the lock of the spool, the other under that of the journal.
use Rattle.std.specs.Prelude.{◌≡◌, ℕ, List, []}
use mathlib.Core.Option.{Option, none, some}
use lib.ListN.{get_elem?}
use Rattle.atomic_table.specs.Table.{Me}
use Rattle.spool_turns.specs.declared.view.Twin.{Twin}
use Rattle.spool_turns.specs.declared.view.Twin.TheVariants.{OfSpool, OfJournal, Both, Spent}

-- which seat is that of the spool, and which is that of the journal; and the desk
pub record Pair (A : Type 0) : Type 0 where
  pub spool : ℕ
  pub journal : ℕ
  pub desk : A

abbrev pub Fits : {A : Type 0} → Pair A → ℕ → Twin A → Type 0
Fits g id (OfSpool a) = (g.spool ≡ id) × (a ≡ g.desk)
Fits g id (OfJournal a) = (g.journal ≡ id) × (a ≡ g.desk)
Fits g id (Both a b) = (g.spool ≡ id) × (g.journal ≡ id) × (a ≡ g.desk) × (b ≡ g.desk)
Fits g id Spent = Unit {0}

-- the rule: there is one desk, and what each seat knows is that
abbrev pub AreOfOne : {A : Type 0} → List (Twin A) → Type 0
AreOfOne {A = A} views = (g : Pair A) × ((id : ℕ) (v : Twin A) → get_elem? views id ≡ some v → Fits g id v)

abbrev pub of_spool : {A : Type 0} → A → Me A (Twin A)
of_spool a = (OfSpool a, [])

abbrev pub of_journal : {A : Type 0} → A → Me A (Twin A)
of_journal a = (OfJournal a, [])

abbrev pub of_both : {A : Type 0} → A → A → Me A (Twin A)
of_both a b = (Both a b, [])

-- the spool's seat comes to that of the journal
abbrev pub meeting : {A : Type 0} → Twin A → Twin A → Twin A
meeting (OfJournal b) (OfSpool a) = Both a b
meeting v w = v

-- and they part again
abbrev pub journal_part : {A : Type 0} → Twin A → Twin A
journal_part (Both a b) = OfJournal b
journal_part v = v

abbrev pub spool_part : {A : Type 0} → Twin A → Twin A
spool_part (Both a b) = OfSpool a
spool_part v = Spent

-- both know that the desk that was said is the one
abbrev pub moved : {A : Type 0} → Option A → Twin A → Twin A
moved (some c) (Both a b) = Both c c
moved c v = v

-- what each knew is the same
abbrev pub KnewOne : {A : Type 0} → Twin A → Type 0
KnewOne (Both a b) = a ≡ b
KnewOne v = Unit {0}

-- what the steps tell
abbrev pub Matches : {A : Type 0} → Me A (Twin A) → Me A (Twin A) → Type 0
Matches v w = (w ≡ v) × KnewOne v.0

abbrev pub Moves : {A : Type 0} → Option A → Me A (Twin A) → Me A (Twin A) → Type 0
Moves c v w = w ≡ (moved c v.0, v.1)

-- the seat is that of the spool, that of the journal, or has what both know
abbrev pub IsSpools : {A : Type 0} → Me A (Twin A) → Type 0
IsSpools {A = A} me = (a : A) × (me ≡ of_spool a)

abbrev pub IsJournals : {A : Type 0} → Me A (Twin A) → Type 0
IsJournals {A = A} me = (b : A) × (me ≡ of_journal b)

abbrev pub IsBoth : {A : Type 0} → Me A (Twin A) → Type 0
IsBoth {A = A} me = (a : A) × (b : A) × (me ≡ of_both a b)
