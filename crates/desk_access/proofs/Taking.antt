-- Groups that a caller may take.
use Rattle.std.proofs.Common.{◌≡◌, ℕ, zero, suc, ◌+◌, List, [], ◌∷◌, length, refl, sym, ap, subst, arith}
use Rattle.std.specs.Prelude.{All, Ok}
use Rattle.std.proofs.lemmas.List.{append-nil}
use Rattle.event_form.specs.declared.event.Entry.{Entry}
use Rattle.spool_answers.specs.declared.receipt.Receipt.{Receipt}
use Rattle.desk_access.specs.Call.{takes, taken_of, TookSurely}
use Rattle.desk_access.specs.Batch.{AreNext, MayTake}

-- the next entries of a connection
pub may_next : (may : ℕ → ℕ → Type 0) (conn index : ℕ) (group : List Entry) → may conn index → AreNext conn index group → MayTake may group
may_next may conn index [] here next = tt
may_next may conn index (entry ∷ entries) here next = (
  subst (λ (n : ℕ). may n entry.index) (sym next.0) (subst (λ (n : ℕ). may conn n) (sym next.1) here),
  subst (λ (n : ℕ). AreNext n (entry.index + 1) entries) (sym next.0) (subst (λ (n : ℕ). AreNext conn (n + 1) entries) (sym next.1) next.2),
)

-- are all of that connection
pub all_of_conn : (conn index : ℕ) (group : List Entry) → AreNext conn index group → All (λ (entry : Entry). entry.conn ≡ conn) group
all_of_conn conn index [] next k d lt = absurd (omega arith)
all_of_conn conn index (entry ∷ entries) next zero d lt = next.0
all_of_conn conn index (entry ∷ entries) next (suc k) d lt = all_of_conn conn (index + 1) entries next.2 k d (omega arith)

-- ---- one take that was answered Ok

pub took_surely : (group : List Entry) (receipt : Receipt) → All TookSurely (takes group (Ok receipt) ∷ [])
took_surely group receipt zero d lt = refl
took_surely group receipt (suc k) d lt = absurd (omega arith)

pub took_length : (group : List Entry) (receipt : Receipt) → length (taken_of (takes group (Ok receipt) ∷ [])) ≡ length group
took_length group receipt = ap length (append-nil group)

pub took_of_conn : (conn index : ℕ) (group : List Entry) (receipt : Receipt) → AreNext conn index group → All (λ (entry : Entry). entry.conn ≡ conn) (taken_of (takes group (Ok receipt) ∷ []))
took_of_conn conn index group receipt next = subst (λ (l : List Entry). All (λ (entry : Entry). entry.conn ≡ conn) l) (sym (append-nil group)) (all_of_conn conn index group next)
