-- A front of entries that a caller may take.
use Rattle.std.proofs.Common.{inl, ℕ, zero, suc, ◌+◌, ◌<◌, List, [], ◌∷◌, arith}
use Rattle.std.specs.Prelude.{All, take}
use Rattle.std.proofs.lemmas.List.Elements.{All-take}
use Rattle.event_form.specs.declared.event.Entry.{Entry}
use Rattle.desk_access.specs.Batch.{AreNext, MayTake, MayUse, IsPlain}

front_next : (conn index k : ℕ) (entries : List Entry) → AreNext conn index entries → AreNext conn index (take k entries)
front_next conn index zero entries next = tt
front_next conn index (suc k) [] next = tt
front_next conn index (suc k) (entry ∷ entries) next = (next.0, next.1, front_next conn (index + 1) k entries next.2)

pub front_may : (may : ℕ → ℕ → Type 0) (unused : ℕ → Type 0) (k : ℕ) (entries : List Entry) → 0 < k → MayTake may entries → All IsPlain entries → MayTake may (take k entries) × MayUse unused (take k entries)
front_may may unused zero entries some next plain = absurd (omega arith)
front_may may unused (suc k) [] some next plain = (tt, inl (All-take IsPlain (suc k) [] plain))
front_may may unused (suc k) (entry ∷ entries) some next plain = ((next.0, front_next entry.conn (entry.index + 1) k entries next.1), inl (All-take IsPlain (suc k) (entry ∷ entries) plain))
