-- Ids that were told true.
use Rattle.std.proofs.Common.{◌≡◌, ◌⊎◌, inl, inr, ℕ, ◌<◌, ◌==◌, Bool, true, false, cond, List, [], ◌∷◌, ◌++◌, length, get_or, map, Ok, Err, refl, sym, ◌∙◌, ap, subst, append_assoc}
use Rattle.std.specs.Prelude.{◌&&◌, ◌||◌, not, filter, Result}
use Rattle.std.specs.List.{list_any}
use Rattle.std.proofs.lemmas.Bool.{eqb-true, and_parts, and_right, or_from, or_cases, or_left, or_right}
use Rattle.std.proofs.lemmas.List.{append-nil, get_or-map}
use Rattle.std.proofs.lemmas.List.Folds.{list_any-append}
use Rattle.hec_ids.specs.declared.fault.IssueFault.{IssueFault}
use Rattle.hec_ids.specs.Table.{Held, Table, is_of, holds_settled}
use Rattle.hec_ids.specs.Rows.{unsettled, settled_at, is_told, Issues}
use Rattle.desk_access.specs.Division.{DividedRun, divided}
use Rattle.desk_access.specs.Call.{Call, issues, settles, forgets, asks, Record, AreBy, own_of}
use Rattle.desk_access.specs.Desk.{DeskState, Goes}
use Rattle.desk_access.specs.Legal.{Met, May, IsStored, IsStoredBy}
use Rattle.desk_access.specs.Laws.{ToldWasTaken}
use Rattle.desk_access.specs.Settled.{SettlesStored, AllSettleStored, EachSettlesStored}
use Rattle.desk_access.specs.Journal.{goes_parts, own_by, own_then}
use Rattle.desk_access.proofs.Tables.{TableAfter, table_then}
use Rattle.desk_access.proofs.Nexts.{stored_more}

-- ---- of a table

-- what some record of those left passes, some passes
some_left : (f p : Held → Bool) (held : List Held) → list_any f (filter p held) ≡ true → list_any f held ≡ true
some_left f p [] is = is
some_left f p (x ∷ held) is = by (p x) (some_left f p held) is where
  by : (b : Bool) → (list_any f (filter p held) ≡ true → list_any f held ≡ true) → list_any f (cond b (x ∷ filter p held) (filter p held)) ≡ true → list_any f (x ∷ held) ≡ true
  by true more h = elim (or_cases (f x) (list_any f (filter p held)) h) [ inl here ↦ or_left (f x) (list_any f held) here | inr there ↦ or_right (f x) (list_any f held) (more there) ]
  by false more h = or_right (f x) (list_any f held) (more h)

-- what is settled after a settling was so before, or was settled by it
settled_by : (c i q id : ℕ) (held : List Held) → holds_settled q id (map (λ h. settled_at c i h) held) ≡ true → (holds_settled q id held ≡ true) ⊎ (i ≡ id)
settled_by c i q id [] is = inl is
settled_by c i q id (x ∷ held) is = elim (or_cases (is_of q id (settled_at c i x) && (settled_at c i x).settled) (holds_settled q id (map (λ h. settled_at c i h) held)) is) [
  | inl here ↦ by (is_of c i x) refl here
  | inr there ↦ elim (settled_by c i q id held there) [ inl e ↦ inl (or_right (is_of q id x && x.settled) (holds_settled q id held) e) | inr same ↦ inr same ]
] where
  by : (b : Bool) → is_of c i x ≡ b → (is_of q id (cond b (record { channel = x.channel; id = x.id; settled = true }) x) && (cond b (record { channel = x.channel; id = x.id; settled = true }) x).settled) ≡ true → (holds_settled q id (x ∷ held) ≡ true) ⊎ (i ≡ id)
  by true this h =
      let that = and_parts (x.channel == q) (x.id == id) (and_parts (is_of q id x) true h).0 in
      inr (sym (eqb-true x.id i (and_parts (x.channel == c) (x.id == i) this).1) ∙ eqb-true x.id id that.1)
  by false this h = inl (or_left (is_of q id x && x.settled) (holds_settled q id held) h)

-- the call settled the id
abbrev SettlesIt : ℕ → Call → Type 0
SettlesIt id (settles channel i answer) = i ≡ id
SettlesIt id _ = ⊥

issued_unsettled : (t u : Table) (channel q id : ℕ) (result : Result ℕ IssueFault) → Issues t channel result u → holds_settled q id u.held ≡ true → holds_settled q id t.held ≡ true
issued_unsettled t u channel q id (Err fault) row is = sym (ap (λ (v : Table). holds_settled q id v.held) row.1) ∙ is
issued_unsettled t u channel q id (Ok new) row is =
    let last = is_of q id (unsettled channel t.next) && false in
    let both = sym (list_any-append (λ h. is_of q id h && h.settled) t.held (unsettled channel t.next ∷ [])) ∙ sym (ap (λ (v : Table). holds_settled q id v.held) row.2) ∙ is in
    elim (or_cases (holds_settled q id t.held) (last || false) both) [
      | inl before ↦ before
      | inr now ↦ let never : false ≡ true = sym (or_from last false (and_right (is_of q id (unsettled channel t.next)) false refl) refl) ∙ now in absurd (cc)
    ]

settled_after : (t u : Table) (call : Call) (q id : ℕ) → TableAfter t call u → holds_settled q id u.held ≡ true → (holds_settled q id t.held ≡ true) ⊎ SettlesIt id call
settled_after t u (issues channel result) q id row is = inl (issued_unsettled t u channel q id result row is)
settled_after t u (settles channel i answer) q id row is = settled_by channel i q id t.held (sym (ap (λ (v : Table). holds_settled q id v.held) row.1) ∙ is)
settled_after t u (forgets channel i answer) q id row is = inl (some_left (λ h. is_of q id h && h.settled) (λ h. not (is_of channel i h)) t.held (sym (ap (λ (v : Table). holds_settled q id v.held) row.1) ∙ is))
settled_after t u (asks channel ids known) q id row is = inl (some_left (λ h. is_of q id h && h.settled) (λ h. not (is_told channel ids h)) t.held (sym (ap (λ (v : Table). holds_settled q id v.held) row.1) ∙ is))
settled_after t u _ q id same is = inl (sym (ap (λ (v : Table). holds_settled q id v.held) same) ∙ is)

-- ---- of a journal

-- some caller took a group of the id
abbrev WasTaken : ℕ → List Record → Type 0
WasTaken id records = (caller : ℕ) × IsStored (own_of caller records) id

taken_more : (id : ℕ) (records more : List Record) → WasTaken id records → WasTaken id (records ++ more)
taken_more id records more was = (was.0, subst (λ (l : List Call). IsStored l id) (sym (own_then was.0 records more)) (stored_more (own_of was.0 records) (own_of was.0 more) id was.1))

settler_took : (id number : ℕ) (before : List Record) (call : Call) → SettlesStored (own_of number before) call → SettlesIt id call → WasTaken id before
settler_took id number before (settles channel i answer) stored same = (number, subst (IsStored (own_of number before)) same stored)
settler_took id number before _ stored never = absurd never

taken_by_then : (channel id : ℕ) (x y : DeskState) (before log : List Record) → (holds_settled channel id x.ids.held ≡ true → WasTaken id before) → Goes x log y → EachSettlesStored before log → holds_settled channel id y.ids.held ≡ true → WasTaken id (before ++ log)
taken_by_then channel id x y before [] was goes stored is = subst (WasTaken id) (sym (append-nil before)) (was (sym (ap (λ (d : DeskState). holds_settled channel id d.ids.held) goes) ∙ is))
taken_by_then channel id x y before (one ∷ log) was goes stored is =
    subst (WasTaken id) (append_assoc before (one ∷ []) log) (
    taken_by_then channel id goes.0 y (before ++ one ∷ []) log
    (λ now. taken_more id before (one ∷ []) (elim (settled_after x.ids goes.0.ids one.call channel id (table_then x goes.0 one goes.1) now) [
      | inl earlier ↦ was earlier
      | inr settles_it ↦ settler_took id one.by before one.call stored.0 settles_it
    ]))
    goes.2 stored.1 is)

-- An id that an answer tells true had its group taken before, where each settle stands after such a take.
pub told_was_stored : (x z : DeskState) (journal : List Record) (one : Record) (more : List Record) (channel : ℕ) (ids : List ℕ) (known : List Bool) (k : ℕ) → x.ids.held ≡ [] → Goes x (journal ++ one ∷ more) z → one.call ≡ asks channel ids known → EachSettlesStored [] journal → k < length ids → get_or known k false ≡ true
    → WasTaken (get_or ids k 0) journal
told_was_stored x z journal one more channel ids known k none goes asked stored lt told =
    let parts = goes_parts x z journal (one ∷ more) goes in
    let y = parts.0 in
    let found = parts.2.0 in
    let row : TableAfter y.ids (asks channel ids known) found.ids = subst (λ (call : Call). TableAfter y.ids call found.ids) asked (table_then y found one parts.2.1) in
    let settled : holds_settled channel (get_or ids k 0) y.ids.held ≡ true = sym (ap (λ (l : List Bool). get_or l k false) row.0 ∙ get_or-map (λ id. holds_settled channel id y.ids.held) ids k 0 false lt) ∙ told in
    taken_by_then channel (get_or ids k 0) x y [] journal (λ is. let never : false ≡ true = sym (ap (λ (held : List Held). holds_settled channel (get_or ids k 0) held) none) ∙ is in absurd (cc)) parts.1 stored settled

-- each caller settles what it may settle
may_stored : (run : DividedRun) (confirming number : ℕ) (own : List Call) (call : Call) → May run confirming number own call → SettlesStored own call
may_stored run confirming number own (settles channel id answer) may = may
may_stored run confirming number own _ may = tt

met_stored : (run : DividedRun) (confirming : ℕ) (before records : List Record) → Met run confirming before records → EachSettlesStored before records
met_stored run confirming before [] met = tt
met_stored run confirming before (one ∷ records) met = (may_stored run confirming one.by (own_of one.by before) one.call met.0, met_stored run confirming (before ++ one ∷ []) records met.1)

pub told_was_taken : ToldWasTaken
told_was_taken x y journal division confirming number channel ids known joins found after clock k rules none goes met lt told =
    told_was_stored x y journal (record { by = number; call = asks channel ids known; joins = joins; met = found; after = after; clock = clock }) [] channel ids known k none goes refl (met_stored (divided division x.spool.run) confirming [] journal met) lt told

-- ---- of one caller

-- what the calls of one caller settle, its records settle
by_stored : (number : ℕ) (own calls : List Call) (before records : List Record) → own_of number before ≡ own → AreBy number calls records → AllSettleStored own calls → EachSettlesStored before records
by_stored number own [] before [] same by stored = tt
by_stored number own [] before (one ∷ records) same by stored = absurd by
by_stored number own (call ∷ calls) before [] same by stored = absurd by
by_stored number own (call ∷ calls) before (one ∷ records) same by stored =
    let own_now : own_of one.by before ≡ own = ap (λ (n : ℕ). own_of n before) by.0 ∙ same in
    let here : SettlesStored (own_of one.by before) one.call = subst (λ (l : List Call). SettlesStored l one.call) (sym own_now) (subst (SettlesStored own) (sym by.1) stored.0) in
    let next : own_of number (before ++ one ∷ []) ≡ own ++ call ∷ [] = own_then number before (one ∷ []) ∙ ap (λ (l : List Call). l ++ own_of number (one ∷ [])) same ∙ ap (λ (l : List Call). own ++ l) (own_by number (call ∷ []) (one ∷ []) (by.0, by.1, by.2, tt)) in
    (here, by_stored number (own ++ call ∷ []) calls (before ++ one ∷ []) records next by.3 stored.1)

-- the records of the first of some calls
first_by : (number : ℕ) (calls more : List Call) (records : List Record) → AreBy number (calls ++ more) records → (first : List Record) × (rest : List Record) × (records ≡ first ++ rest) × AreBy number calls first × AreBy number more rest
first_by number [] more records by = ([], records, refl, tt, by)
first_by number (call ∷ calls) more [] by = absurd by
first_by number (call ∷ calls) more (one ∷ records) by =
    let rest = first_by number calls more records by.3 in
    (one ∷ rest.0, rest.1, ap (λ (l : List Record). one ∷ l) rest.2, (by.0, by.1, by.2, rest.3), rest.4)

-- what a caller took is among the calls of the only one
stored_own : (number caller id : ℕ) (calls : List Call) (records : List Record) → AreBy number calls records → IsStored (own_of caller records) id → IsStored calls id
stored_own number caller id [] [] by stored = stored
stored_own number caller id [] (one ∷ records) by stored = absurd by
stored_own number caller id (call ∷ calls) [] by stored = absurd by
stored_own number caller id (call ∷ calls) (one ∷ records) by stored = cases (one.by == caller) (stored_own number caller id calls records by.3) stored where
  cases : (b : Bool) → (IsStored (own_of caller records) id → IsStored calls id) → IsStored (cond b (one.call ∷ own_of caller records) (own_of caller records)) id → IsStored (call ∷ calls) id
  cases true more (inl here) = inl (subst (IsStoredBy id) by.1 here)
  cases true more (inr there) = inr (more there)
  cases false more there = inr (more there)

own_told : (x z : DeskState) (number : ℕ) (before after : List Call) (first rest : List Record) (channel : ℕ) (ids : List ℕ) (known : List Bool) (k : ℕ) → x.ids.held ≡ [] → Goes x (first ++ rest) z → AreBy number before first → AreBy number (asks channel ids known ∷ after) rest → AllSettleStored [] before → k < length ids → get_or known k false ≡ true
    → IsStored before (get_or ids k 0)
own_told x z number before after first [] channel ids known k none goes made asked stored lt told = absurd asked
own_told x z number before after first (one ∷ rest) channel ids known k none goes made asked stored lt told =
    let was = told_was_stored x z first one rest channel ids known k none goes asked.1 (by_stored number [] before [] first refl made stored) lt told in
    stored_own number was.0 (get_or ids k 0) before first made was.1

-- An id that the only caller of a desk was told true is one of which it took entries before, where each of its settles
-- stands after such a take.
pub told_was_own : (x z : DeskState) (number : ℕ) (before after : List Call) (records : List Record) (channel : ℕ) (ids : List ℕ) (known : List Bool) (k : ℕ) → x.ids.held ≡ [] → Goes x records z → AreBy number (before ++ asks channel ids known ∷ after) records → AllSettleStored [] before → k < length ids → get_or known k false ≡ true
    → IsStored before (get_or ids k 0)
told_was_own x z number before after records channel ids known k none goes by stored lt told =
    let parts = first_by number before (asks channel ids known ∷ after) records by in
    own_told x z number before after parts.0 parts.1 channel ids known k none (subst (λ (l : List Record). Goes x l z) parts.2 goes) parts.3 parts.4 stored lt told
