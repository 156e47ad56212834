-- What a caller may do after more calls.
use Rattle.std.proofs.Common.{◌≡◌, ◌≢◌, inl, inr, ℕ, ◌+◌, ◌≤◌, ◌<◌, ◌==◌, true, false, List, [], ◌∷◌, ◌++◌, length, length-append, refl, sym, ap, subst, arith, append_assoc, eq-eqb, ne_eqb}
use Rattle.std.specs.Prelude.{All, Ok, Err}
use Rattle.std.proofs.lemmas.List.{append-nil}
use Rattle.std.proofs.lemmas.List.Elements.{All-nil, All-cons, All-head, All-tail}
use Rattle.event_form.specs.declared.event.Entry.{Entry}
use Rattle.spool_answers.specs.declared.receipt.Receipt.{Receipt}
use Rattle.spool_faults.specs.declared.fault.TakeFault.TheVariants as Take
use Rattle.desk_access.specs.Division.{DividedRun}
use Rattle.desk_access.specs.Call.{Call, takes, issues, Record, own_of, taken_by, taken_of, TookSurely}
use Rattle.desk_access.specs.Batch.{AreOfUnit, Belongs}
use Rattle.desk_access.specs.History.{written_by}
use Rattle.desk_access.specs.Legal.{bit, count_in, count_on, NoneLater, IsSureOn, AreSureOn, IsNext, AreUnused, IsUnused, IsStored, May, Met}

pub met_then : (run : DividedRun) (confirming : ℕ) (before log : List Record) (one : Record) → Met run confirming before log → May run confirming one.by (own_of one.by (before ++ log)) one.call → Met run confirming before (log ++ one ∷ [])
met_then run confirming before [] one m may = (subst (λ (l : List Record). May run confirming one.by (own_of one.by l) one.call) (append-nil before) may, tt)
met_then run confirming before (x ∷ xs) one m may =
    (m.0, met_then run confirming (before ++ x ∷ []) xs one m.1 (subst (λ (l : List Record). May run confirming one.by (own_of one.by l) one.call) (sym (append_assoc before (x ∷ []) xs)) may))

-- ---- after takes of one connection

pub all_left : {X : Type 0} (P : X → Type 0) (xs ys : List X) → All P (xs ++ ys) → All P xs
all_left P [] ys h = All-nil P
all_left P (x ∷ xs) ys h = All-cons P x xs (All-head P x (xs ++ ys) h) (all_left P xs ys (All-tail P x (xs ++ ys) h))

pub all_right : {X : Type 0} (P : X → Type 0) (xs ys : List X) → All P (xs ++ ys) → All P ys
all_right P [] ys h = h
all_right P (x ∷ xs) ys h = all_right P xs ys (All-tail P x (xs ++ ys) h)

pub count_all : (conn : ℕ) (es : List Entry) → All (λ (e : Entry). e.conn ≡ conn) es → count_in conn es ≡ length es
count_all conn [] h = refl
count_all conn (e ∷ es) h =
    let one : bit (e.conn == conn) ≡ bit true = ap bit (eq-eqb e.conn conn (All-head (λ (x : Entry). x.conn ≡ conn) e es h)) in
    omega (arith, one, count_all conn es (All-tail (λ (x : Entry). x.conn ≡ conn) e es h))

count_calls : (conn : ℕ) (calls : List Call) → All (λ (e : Entry). e.conn ≡ conn) (taken_of calls) → count_on conn calls ≡ length (taken_of calls)
count_calls conn [] h = refl
count_calls conn (call ∷ calls) h =
    omega (arith, count_all conn (taken_by call) (all_left (λ (e : Entry). e.conn ≡ conn) (taken_by call) (taken_of calls) h), count_calls conn calls (all_right (λ (e : Entry). e.conn ≡ conn) (taken_by call) (taken_of calls) h), length-append (taken_by call) (taken_of calls))

pub count_then : (conn : ℕ) (own calls : List Call) → count_on conn (own ++ calls) ≡ count_on conn own + count_on conn calls
count_then conn [] calls = omega arith
count_then conn (call ∷ own) calls = omega (arith, count_then conn own calls)

later_then : (conn : ℕ) (own calls : List Call) → NoneLater conn own → NoneLater conn calls → NoneLater conn (own ++ calls)
later_then conn [] calls p q = q
later_then conn (call ∷ own) calls p q = (p.0, later_then conn own calls p.1 q)

pub sure_then : (conn : ℕ) (own calls : List Call) → AreSureOn conn own → AreSureOn conn calls → AreSureOn conn (own ++ calls)
sure_then conn [] calls p q = q
sure_then conn (call ∷ own) calls p q = (p.0, sure_then conn own calls p.1 q)

-- the entries that a call took for sure are those that it may have written
written_surely : (call : Call) → TookSurely call → (P : Entry → Type 0) → All P (taken_by call) → All P (written_by call)
written_surely (takes group (Ok receipt)) sure P all = all
written_surely (takes group (Err Take.DiskFault)) sure P all = absurd (omega (arith, sure))
written_surely _ sure P all = All-nil P

later_calls : (conn : ℕ) (calls : List Call) → All TookSurely calls → All (λ (e : Entry). e.conn ≡ conn) (taken_of calls) → NoneLater conn calls
later_calls conn [] sure all = tt
later_calls conn (call ∷ calls) sure all = (
  written_surely call (All-head TookSurely call calls sure) (λ (e : Entry). e.conn ≤ conn) (λ k d lt. omega (arith, all_left (λ (e : Entry). e.conn ≡ conn) (taken_by call) (taken_of calls) all k d lt)),
  later_calls conn calls (All-tail TookSurely call calls sure) (all_right (λ (e : Entry). e.conn ≡ conn) (taken_by call) (taken_of calls) all),
)

sure_one : (conn : ℕ) (call : Call) → TookSurely call → IsSureOn conn call
sure_one conn (takes group result) sure = inl sure
sure_one conn _ sure = tt

sure_calls : (conn : ℕ) (calls : List Call) → All TookSurely calls → AreSureOn conn calls
sure_calls conn [] sure = tt
sure_calls conn (call ∷ calls) sure = (sure_one conn call (All-head TookSurely call calls sure), sure_calls conn calls (All-tail TookSurely call calls sure))

-- the next index is higher by the number of entries that were taken
pub next_more : (run : DividedRun) (number : ℕ) (own calls : List Call) (conn index : ℕ) → All TookSurely calls → All (λ (e : Entry). e.conn ≡ conn) (taken_of calls) → IsNext run number own conn index → IsNext run number (own ++ calls) conn (index + length (taken_of calls))
next_more run number own calls conn index sure all next = record {
  belongs = next.belongs;
  index_is = omega (arith, next.index_is, count_then conn own calls, count_calls conn calls all);
  latest = later_then conn own calls next.latest (later_calls conn calls sure all);
  sure = sure_then conn own calls next.sure (sure_calls conn calls sure);
}

-- ---- before the first take of a connection

-- each entry that was taken, or may have been, is of an earlier connection
abbrev pub AreEarlier : ℕ → List Call → Type 0
AreEarlier conn [] = Unit {0}
AreEarlier conn (call ∷ calls) = All (λ (e : Entry). e.conn < conn) (written_by call) × AreEarlier conn calls

pub count_none : (conn : ℕ) (es : List Entry) → All (λ (e : Entry). e.conn ≢ conn) es → count_in conn es ≡ 0
count_none conn [] h = refl
count_none conn (e ∷ es) h =
    let none : bit (e.conn == conn) ≡ bit false = ap bit (ne_eqb e.conn conn (All-head (λ (x : Entry). x.conn ≢ conn) e es h)) in
    omega (arith, none, count_none conn es (All-tail (λ (x : Entry). x.conn ≢ conn) e es h))

abbrev IsFirstFor : ℕ → Call → Type 0
IsFirstFor conn call = (count_in conn (taken_by call) ≡ 0) × IsSureOn conn call × All (λ (e : Entry). e.conn ≤ conn) (written_by call)

first_for : (conn : ℕ) (call : Call) → All (λ (e : Entry). e.conn < conn) (written_by call) → IsFirstFor conn call
first_for conn (takes group (Ok receipt)) h = (count_none conn group (λ k d lt same. omega (arith, h k d lt, same)), inl refl, (λ k d lt. omega (arith, h k d lt)))
first_for conn (takes group (Err Take.DiskFault)) h = (refl, inr (λ k d lt same. omega (arith, h k d lt, same)), (λ k d lt. omega (arith, h k d lt)))
first_for conn (takes group (Err _)) h = (refl, inl refl, All-nil (λ (e : Entry). e.conn ≤ conn))
first_for conn _ h = (refl, tt, All-nil (λ (e : Entry). e.conn ≤ conn))

-- the first index of a later connection is 0
pub next_first : (run : DividedRun) (number : ℕ) (own : List Call) (conn : ℕ) → Belongs run number conn → AreEarlier conn own → IsNext run number own conn 0
next_first run number [] conn belongs h = record { belongs = belongs; index_is = refl; latest = tt; sure = tt }
next_first run number (call ∷ own) conn belongs h =
    let one = first_for conn call h.0 in
    let rest = next_first run number own conn belongs h.1 in
    record { belongs = belongs; index_is = omega (arith, one.0, rest.index_is); latest = (one.2, rest.latest); sure = (one.1, rest.sure) }

-- ---- ids

-- an id that was issued may be used, until a take uses it
pub unused_new : (own : List Call) (channel id : ℕ) → IsUnused (own ++ issues channel (Ok id) ∷ []) id
unused_new [] channel id = inl (refl, tt)
unused_new (call ∷ own) channel id = inr (unused_new own channel id)

pub unused_then : (id : ℕ) (calls more : List Call) → AreUnused id calls → AreUnused id more → AreUnused id (calls ++ more)
unused_then id [] more p q = q
unused_then id (call ∷ calls) more p q = (p.0, unused_then id calls more p.1 q)

pub unused_more : (own calls : List Call) (id : ℕ) → AreUnused id calls → IsUnused own id → IsUnused (own ++ calls) id
unused_more [] calls id none h = absurd h
unused_more (call ∷ own) calls id none (inl here) = inl (here.0, unused_then id own calls here.1 none)
unused_more (call ∷ own) calls id none (inr there) = inr (unused_more own calls id none there)

-- an id of which a group was taken may be settled
pub stored_new : (own : List Call) (group : List Entry) (receipt : Receipt) (id : ℕ) → 0 < length group → AreOfUnit id group → IsStored (own ++ takes group (Ok receipt) ∷ []) id
stored_new [] group receipt id some units = inl (some, units)
stored_new (call ∷ own) group receipt id some units = inr (stored_new own group receipt id some units)

pub stored_more : (own calls : List Call) (id : ℕ) → IsStored own id → IsStored (own ++ calls) id
stored_more [] calls id h = absurd h
stored_more (call ∷ own) calls id (inl here) = inl here
stored_more (call ∷ own) calls id (inr there) = inr (stored_more own calls id there)
