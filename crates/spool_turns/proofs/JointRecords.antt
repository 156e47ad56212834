-- The records of letters that are stored as one group.
use Rattle.std.proofs.Common.{◌≡◌, ℕ, ◌+◌, ◌-◌, ◌≤◌, ◌<◌, ◌==◌, Bool, true, false, cond, List, [], ◌∷◌, ◌++◌, length, refl, sym, ap, ◌∙◌, subst, arith, append_assoc, length-append, eqb-true, ne_eqb}
use Rattle.std.specs.Prelude.{All, Some, Result, Ok, Err, IfErr, is_ok}
use Rattle.std.proofs.lemmas.List.Concat.{flat_map-append}
use Rattle.std.proofs.lemmas.List.Elements.{All-append}
use Rattle.event_form.specs.declared.event.Entry.{Entry}
use Rattle.event_form.specs.Entry.{IsEntry, entry_text}
use Rattle.spool_state.specs.SpoolState.{end}
use Rattle.spool_state.specs.Segment.{entries_text, need_of}
use Rattle.spool_answers.specs.declared.receipt.Receipt.{Receipt}
use Rattle.spool_faults.specs.declared.fault.TakeFault.{TakeFault}
use Rattle.spool_faults.specs.declared.fault.TakeFault.TheVariants as Take
use Rattle.desk_access.specs.declared.standing.Standing.{Standing}
use Rattle.desk_access.specs.Call.{takes, Call, Record, own_of, failures_of, failed_of}
use Rattle.desk_access.specs.Desk.{DeskState, Goes}
use Rattle.desk_access.specs.History.{IsDesk}
use Rattle.desk_access.specs.Journal.{goes_then}
use Rattle.desk_access.specs.JointRecords.{Part, joined, ArePartsOf, standing_with, bytes_of, stored_from, failed_from, joint_of}
use Rattle.desk_access.proofs.Steps.{goes_later}
use Rattle.desk_seats.specs.Passes.{AllJoin}
use Rattle.spool_turns.specs.Rules.{PassView}
use Rattle.spool_turns.specs.Joining.{part_of, parts_of, numbers_of, AreRising, joins_behind, standing_behind, part_answer, records_behind, LeadOn, AreBehind}

pub text_join : (a b : List Entry) → length (entries_text (a ++ b)) ≡ length (entries_text a) + length (entries_text b)
text_join a b = ap length (flat_map-append entry_text a b) ∙ length-append (entries_text a) (entries_text b)

-- ---- the parts of a group

pub parts_both : (xs ys : List PassView) → parts_of (xs ++ ys) ≡ parts_of xs ++ parts_of ys
parts_both [] ys = refl
parts_both (x ∷ xs) ys = ap (λ (l : List Part). part_of x ∷ l) (parts_both xs ys)

pub numbers_both : (xs ys : List PassView) → numbers_of (xs ++ ys) ≡ numbers_of xs ++ numbers_of ys
numbers_both [] ys = refl
numbers_both (x ∷ xs) ys = ap (λ (l : List ℕ). x.number ∷ l) (numbers_both xs ys)

pub joined_both : (ps qs : List Part) → joined (ps ++ qs) ≡ joined ps ++ joined qs
joined_both [] qs = refl
joined_both (p ∷ ps) qs = ap (λ (l : List Entry). p.entries ++ l) (joined_both ps qs) ∙ sym (append_assoc p.entries (joined ps) (joined qs))

pub are_parts_then : (ps : List Part) (q : Part) → ArePartsOf ps → 1 ≤ length q.entries → All IsEntry q.entries → ArePartsOf (ps ++ q ∷ [])
are_parts_then [] q are some limits = (some, limits, tt)
are_parts_then (p ∷ ps) q are some limits = (are.0, are.1, are_parts_then ps q are.2 some limits)

pub all_entries : (ps : List Part) → ArePartsOf ps → All IsEntry (joined ps)
all_entries [] are = λ k d lt. absurd (omega arith)
all_entries (p ∷ ps) are = All-append IsEntry p.entries (joined ps) are.1 (all_entries ps are.2)

-- the least number that may follow
abbrev pub next_number : ℕ → List Part → ℕ
next_number least [] = least
next_number least (p ∷ ps) = next_number (p.by + 1) ps

pub rising_then : (least : ℕ) (ps : List Part) (q : Part) → AreRising least ps → next_number least ps ≤ q.by → AreRising least (ps ++ q ∷ [])
rising_then least [] q are le = (le, tt)
rising_then least (p ∷ ps) q are le = (are.0, rising_then (p.by + 1) ps q are.1 le)

pub next_then : (least : ℕ) (ps : List Part) (q : Part) → next_number least (ps ++ q ∷ []) ≡ q.by + 1
next_then least [] q = refl
next_then least (p ∷ ps) q = next_then (p.by + 1) ps q

-- ---- their records

standing_next : (before : Standing) (first part : List Entry) → 1 ≤ length part
    → standing_with (standing_behind before first) (length part) (bytes_of (joins_behind first) part) ≡ standing_behind before (first ++ part)
standing_next before [] [] some = absurd (omega arith)
standing_next before [] (entry ∷ part) some = refl
standing_next before (entry ∷ first) part some =
    let count : (before.end + length (entry ∷ first)) + length part ≡ before.end + length ((entry ∷ first) ++ part) = omega (arith, length-append (entry ∷ first) part) in
    let bytes : (before.room - need_of (entry ∷ first)) - length (entries_text part) ≡ before.room - need_of ((entry ∷ first) ++ part) = omega (arith, text_join (entry ∷ first) part) in
    λ i. record { base = before.base; end = count i; cursor = before.cursor; known_count = before.known_count; room = bytes i }

joins_next : (first part : List Entry) → 1 ≤ length part → true ≡ joins_behind (first ++ part)
joins_next [] [] some = absurd (omega arith)
joins_next [] (entry ∷ part) some = refl
joins_next (entry ∷ first) part some = refl

end_behind : (before : Standing) (first : List Entry) → (standing_behind before first).end ≡ before.end + length first
end_behind before [] = omega arith
end_behind before (entry ∷ first) = refl

stored_are : (clock : ℕ) (before : Standing) (first : List Entry) (parts : List Part) → ArePartsOf parts
    → stored_from clock (joins_behind first) (standing_behind before first) parts ≡ records_behind true before clock first parts
stored_are clock before first [] are = refl
stored_are clock before first (part ∷ parts) are =
    let next = standing_next before first part.entries are.0 in
    let joins = joins_next first part.entries are.0 in
    let place = end_behind before first in
    (λ i. head (place i) (next i) ∷ stored_from clock (joins i) (next i) parts)
    ∙ ap (λ (l : List Record). head (before.end + length first) (standing_behind before (first ++ part.entries)) ∷ l) (stored_are clock before (first ++ part.entries) parts are.2)
  where
    head : ℕ → Standing → Record
    head at after = record {
      by = part.by;
      call = takes part.entries (Ok (record { first = at; count = length part.entries }));
      joins = joins_behind first;
      met = Some (standing_behind before first);
      after = after;
      clock = clock;
    }

failed_are : (clock : ℕ) (before : Standing) (first : List Entry) (parts : List Part) → ArePartsOf parts
    → failed_from clock (joins_behind first) before (standing_behind before first) parts ≡ records_behind false before clock first parts
failed_are clock before first [] are = refl
failed_are clock before first (part ∷ parts) are =
    let next = standing_next before first part.entries are.0 in
    let joins = joins_next first part.entries are.0 in
    (λ i. head ∷ failed_from clock (joins i) before (next i) parts) ∙ ap (λ (l : List Record). head ∷ l) (failed_are clock before (first ++ part.entries) parts are.2)
  where
    head : Record
    head = record {
      by = part.by;
      call = takes part.entries (Err Take.DiskFault);
      joins = joins_behind first;
      met = Some (standing_behind before first);
      after = before;
      clock = clock;
    }

-- the records of a group that was stored, or in which the disk failed
pub joint_are : (result : Result Receipt TakeFault) (clock : ℕ) (before : Standing) (parts : List Part) → ArePartsOf parts → IfErr result (λ fault. fault ≡ Take.DiskFault)
    → joint_of result clock before parts ≡ records_behind (is_ok result) before clock [] parts
joint_are (Ok receipt) clock before parts are only = stored_are clock before [] parts are
joint_are (Err fault) clock before parts are only =
    subst (λ (f : TakeFault). joint_of (Err f) clock before parts ≡ records_behind false before clock [] parts) (sym only) (failed_are clock before [] parts are)

-- all but the first were stored with the one before
pub all_join : (stored : Bool) (before : Standing) (clock : ℕ) (first : List Entry) (parts : List Part) → 1 ≤ length first → AllJoin (records_behind stored before clock first parts)
all_join stored before clock first [] some = tt
all_join stored before clock [] (part ∷ parts) some = absurd (omega arith)
all_join stored before clock (entry ∷ first) (part ∷ parts) some = (refl, tt, all_join stored before clock (entry ∷ first ++ part.entries) parts (omega arith))

-- ---- how often the disk failed

none_fails : (n : ℕ) (before : Standing) (clock : ℕ) (first : List Entry) (parts : List Part) → failures_of (own_of n (records_behind true before clock first parts)) ≡ 0
none_fails n before clock first [] = refl
none_fails n before clock first (part ∷ parts) = by (part.by == n) (none_fails n before clock (first ++ part.entries) parts) where
  by : (b : Bool) → failures_of (own_of n (records_behind true before clock (first ++ part.entries) parts)) ≡ 0
      → failures_of (cond b (takes part.entries (part_answer true before.end first part.entries) ∷ own_of n (records_behind true before clock (first ++ part.entries) parts)) (own_of n (records_behind true before clock (first ++ part.entries) parts))) ≡ 0
  by true rest = omega (arith, rest)
  by false rest = rest

-- a number below those of the parts has none of the records
no_part : (n least : ℕ) (stored : Bool) (before : Standing) (clock : ℕ) (first : List Entry) (parts : List Part) → n < least → AreRising least parts
    → own_of n (records_behind stored before clock first parts) ≡ []
no_part n least stored before clock first [] lt rising = refl
no_part n least stored before clock first (part ∷ parts) lt rising =
    ap (λ (b : Bool). cond b (takes part.entries (part_answer stored before.end first part.entries) ∷ own_of n (records_behind stored before clock (first ++ part.entries) parts)) (own_of n (records_behind stored before clock (first ++ part.entries) parts)))
    (ne_eqb part.by n (λ is. omega (arith, is, lt, rising.0)))
    ∙ no_part n (part.by + 1) stored before clock (first ++ part.entries) parts (omega (arith, lt, rising.0)) rising.1

-- and each number has one at most
one_fails : (n least : ℕ) (before : Standing) (clock : ℕ) (first : List Entry) (parts : List Part) → AreRising least parts → failures_of (own_of n (records_behind false before clock first parts)) ≤ 1
one_fails n least before clock first [] rising = omega arith
one_fails n least before clock first (part ∷ parts) rising = by (part.by == n) refl (one_fails n (part.by + 1) before clock (first ++ part.entries) parts rising.1) where
  rest : List Call
  rest = own_of n (records_behind false before clock (first ++ part.entries) parts)

  by : (b : Bool) → (part.by == n) ≡ b → failures_of rest ≤ 1 → failures_of (cond b (takes part.entries (Err Take.DiskFault) ∷ rest) rest) ≤ 1
  by true is few = omega (arith, ap failures_of (no_part n (part.by + 1) false before clock (first ++ part.entries) parts (omega (arith, eqb-true part.by n is)) rising.1))
  by false is few = few

pub each_fails : (n : ℕ) (stored : Bool) (before : Standing) (clock : ℕ) (parts : List Part) → AreRising 0 parts
    → failures_of (own_of n (records_behind stored before clock [] parts)) ≤ failed_of (records_behind stored before clock [] parts)
each_fails n true before clock parts rising = omega (arith, none_fails n before clock [] parts)
each_fails n false before clock [] rising = omega arith
each_fails n false before clock (part ∷ parts) rising = omega (arith, one_fails n 0 before clock [] (part ∷ parts) rising)

-- ---- where they lead

-- the desk is on the way of the records, which lead on from there
pub record IsOnWay (x : DeskState) (least_end least_cursor : ℕ) (log records : List Record) : Type 0 where
  pub here : DeskState
  pub goes : Goes x log here
  pub rules : IsDesk here
  pub end_is : least_end ≤ end here.spool
  pub cursor_is : least_cursor ≤ here.spool.cursor
  pub last : DeskState
  pub on : Goes here records last

on_next : (x : DeskState) (least_end least_cursor : ℕ) (log : List Record) (one : Record) (records : List Record) → IsOnWay x least_end least_cursor log (one ∷ records) → IsOnWay x least_end least_cursor (log ++ one ∷ []) records
on_next x least_end least_cursor log one records w =
    let there = w.on.0 in
    let step : Goes w.here (one ∷ []) there = (there, w.on.1, refl) in
    let later = goes_later w.here there (one ∷ []) w.rules step in
    record {
      here = there;
      goes = goes_then x w.here there log (one ∷ []) w.goes step;
      rules = later.0;
      end_is = omega (arith, w.end_is, later.1.follows.end_rises);
      cursor_is = omega (arith, w.cursor_is, later.1.follows.cursor);
      last = w.last;
      on = w.on.2;
    }

pub lead_on : (start : DeskState → Type 0) (least_end least_cursor : ℕ) (log records : List Record) → ((x : DeskState) → start x → IsOnWay x least_end least_cursor log records) → LeadOn start least_end least_cursor log records
lead_on start least_end least_cursor log [] way = tt
lead_on start least_end least_cursor log (one ∷ records) way = (
  λ x s. let w = on_next x least_end least_cursor log one records (way x s) in (w.here, w.goes, w.end_is, w.cursor_is),
  lead_on start least_end least_cursor (log ++ one ∷ []) records (λ x s. on_next x least_end least_cursor log one records (way x s)),
)

-- ---- what was seen

pub behind_then : (seen : ℕ) (xs : List PassView) (m : PassView) → AreBehind seen xs → seen < length m.seen → AreBehind seen (xs ++ m ∷ [])
behind_then seen [] m are lt = (lt, tt)
behind_then seen (x ∷ xs) m are lt = (are.0, behind_then seen xs m are.1 lt)

join_later : (xs ys : List Record) → AllJoin (xs ++ ys) → AllJoin ys
join_later [] ys all = all
join_later (x ∷ xs) ys all = join_later xs ys all.2

pub join_then : (xs ys : List Record) → AllJoin xs → AllJoin ys → AllJoin (xs ++ ys)
join_then [] ys first more = more
join_then (x ∷ xs) ys first more = (first.0, first.1, join_then xs ys first.2 more)

-- who has seen the first record of a group has only joined ones before it
pub rest_joins : (before seen rest : List Record) (one : Record) (behind : List Record) → seen ++ rest ≡ before ++ one ∷ behind → length before < length seen → AllJoin behind → AllJoin rest
rest_joins before [] rest one behind is lt all = absurd (omega (arith, lt))
rest_joins [] (x ∷ seen) rest one behind is lt all =
    let tail : seen ++ rest ≡ behind = cc is in
    join_later seen rest (subst AllJoin (sym tail) all)
rest_joins (b ∷ before) (x ∷ seen) rest one behind is lt all =
    let tail : seen ++ rest ≡ before ++ one ∷ behind = cc is in
    rest_joins before seen rest one behind tail (omega (arith, lt)) all
