-- How the table is kept.
use Rattle.std.specs.Prelude.{◌≡◌, ℕ, ◌+◌, ◌*◌, ◌^◌, ◌==◌, Bool, false, List, map, if◌then◌else◌, Option, None, Some}
use Rattle.std.specs.Ordering.{nat_cmp}
use Rattle.std.specs.BTreeMap.{BTreeMap, get}
use Rattle.hec_ids.specs.declared.issued.Issued.{Issued}
use Rattle.hec_ids.specs.Table.{Held, Table, IsSound, count_of}

-- an id with what is kept of it
abbrev pub held_at : ℕ × Issued → Held
held_at e = record { channel = e.1.channel; id = e.0; settled = e.1.settled }

-- the ids that a map has, in their order
abbrev pub held_of : List (ℕ × Issued) → List Held
held_of es = map (λ e. held_at e) es

-- a count above 0
abbrev pub counted : ℕ → Option ℕ
counted n = if n == 0 then None else Some n

-- the map has the count of each channel that holds ids, and no other
abbrev pub AreCounted : BTreeMap ℕ ℕ → List Held → Type 0
AreCounted counts held = (channel : ℕ) → get nat_cmp counts channel ≡ counted (count_of channel held)

-- the second list has one id of the channel more than the first
abbrev pub HasOneMore : ℕ → List Held → List Held → Type 0
HasOneMore channel less more = (q : ℕ) → count_of q more ≡ count_of q less + (if q == channel then 1 else 0)

-- the table that the parts stand for
abbrev pub table_of : ℕ → ℕ → List (ℕ × Issued) → Table
table_of run used es = record { run = run; next = run * 2 ^ 32 + used; held = held_of es }

-- The table is sound, and its ids are counted.
pub record IsKept (t : Table) (counts : BTreeMap ℕ ℕ) : Type 0 where
  pub sound : IsSound t
  pub counted : AreCounted counts t.held

-- what a map has of an id: whether it is settled, if it is the channel's
abbrev pub state_at : ℕ → Option Issued → Option Bool
state_at channel None = None
state_at channel (Some issued) = if issued.channel == channel then Some issued.settled else None

-- whether there is an answer that passes
abbrev pub is_some_that : (Bool → Bool) → Option Bool → Bool
is_some_that p None = false
is_some_that p (Some b) = p b
