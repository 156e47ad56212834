-- What follows from the rows.
use Rattle.std.specs.Prelude.{◌≡◌, ℕ, ◌+◌, ◌*◌, ◌^◌, ◌<◌, ◌≤◌, ◌⊎◌, Bool, true, false, List, Result, Ok, nat_eq}
use Rattle.std.specs.Set.{is_member}
use Rattle.hec_ids.specs.declared.fault.IssueFault.{IssueFault}
use Rattle.hec_ids.specs.Table.{Table, IsSound, holds, holds_settled}
use Rattle.hec_ids.specs.Rows.{opened, Issues, Settles, Forgets, Asks}

-- a call leads from the one table to the other
pub data IsCall : Table → Table → Type 0 where
  issue : {t u : Table} → (channel : ℕ) → (answer : Result ℕ IssueFault) → Issues t channel answer u → IsCall t u
  settle : {t u : Table} → (channel id : ℕ) → (answer : Bool) → Settles t channel id answer u → IsCall t u
  forget : {t u : Table} → (channel id : ℕ) → (answer : Bool) → Forgets t channel id answer u → IsCall t u
  ask : {t u : Table} → (channel : ℕ) → (ids : List ℕ) → (known : List Bool) → Asks t channel ids known u → IsCall t u

-- A new table is sound.
abbrev pub OpenedIsSound : Type 0
OpenedIsSound = (run first : ℕ) → run < 2 ^ 32 → first < 2 ^ 32 → IsSound (opened run first)

-- A call leaves a sound table sound, of the same run, and its next id is never less.
abbrev pub CallsKeepSound : Type 0
CallsKeepSound = (t u : Table) → IsCall t u → IsSound t → IsSound u × (u.run ≡ t.run) × (t.next ≤ u.next)

-- An id that is issued is of the run, and no channel held it.
abbrev pub IssuedIsNew : Type 0
IssuedIsNew = (t u : Table) (channel id q : ℕ) → IsSound t → Issues t channel (Ok id) u → (t.run * 2 ^ 32 ≤ id) × (id < t.run * 2 ^ 32 + 2 ^ 32) × (holds q id t.held ≡ false)

-- An id below the next one that a channel doesn't hold is not held by it after any call.
abbrev pub GoneStaysGone : Type 0
GoneStaysGone = (t u : Table) (channel id : ℕ) → IsCall t u → id < t.next → holds channel id t.held ≡ false → holds channel id u.held ≡ false

-- An id that was told is below the next one, and no channel holds it then.
abbrev pub ToldIsGone : Type 0
ToldIsGone = (t u : Table) (channel id q : ℕ) (ids : List ℕ) (known : List Bool) → IsSound t → Asks t channel ids known u → is_member nat_eq ids id ≡ true → holds_settled channel id t.held ≡ true → (id < u.next) × (holds q id u.held ≡ false)

-- An id that is held settled was so before the call, or the call settled it.
abbrev pub SettledBySettle : Type 0
SettledBySettle = (t u : Table) (channel id : ℕ) → IsCall t u → holds_settled channel id u.held ≡ true → (holds_settled channel id t.held ≡ true) ⊎ Settles t channel id true u
