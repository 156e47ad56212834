-- The whole list after a journal.
use Rattle.std.proofs.Common.{◌≡◌, ◌≢◌, ◌⊎◌, inl, inr, ℕ, zero, suc, ◌+◌, ◌-◌, ◌*◌, ◌^◌, ◌≤◌, ◌<◌, ◌==◌, Bool, true, false, cond, List, [], ◌∷◌, ◌++◌, drop, refl, sym, ap, ◌∙◌, subst, arith, append_assoc}
use Rattle.std.specs.Prelude.{All}
use Rattle.std.proofs.lemmas.Bool.{cases_lt}
use Rattle.std.proofs.lemmas.List.{append-nil}
use Rattle.std.proofs.lemmas.List.Elements.{All-nil, All-head, All-tail, All-append}
use Rattle.event_form.specs.declared.event.Entry.{Entry}
use Rattle.spool_state.specs.SpoolState.{SpoolState, base, list}
use Rattle.desk_access.specs.declared.division.Division.{Division}
use Rattle.desk_access.specs.Division.{divided}
use Rattle.desk_access.specs.Call.{Call, Record, calls_of}
use Rattle.desk_access.specs.Batch.{AreNext, AreOfUnit}
use Rattle.desk_access.specs.Desk.{DeskState, Goes}
use Rattle.desk_access.specs.History.{IsDesk, AddsAll, Grows}
use Rattle.desk_access.specs.Legal.{Met, AddsGroups, all_of, of_conn, AreOfOthers, AreOneGroup, IsOfRun, IsLegal}
use Rattle.desk_access.proofs.LegalEntries.{legal_journal}
use Rattle.spool_turns.specs.Whole.{AreTogether, AreLegal, AreEarlier, OpensLegal}
use Rattle.spool_turns.proofs.Picks.{conn_both, conn_none}

-- ---- without its first entries

next_tail : (conn : ℕ) (x : Entry) (xs : List Entry) → ((first : ℕ) × AreNext conn first (of_conn conn (x ∷ xs))) → (first : ℕ) × AreNext conn first (of_conn conn xs)
next_tail conn x xs h = by (x.conn == conn) h.0 h.1 where
  by : (b : Bool) (first : ℕ) → AreNext conn first (cond b (x ∷ of_conn conn xs) (of_conn conn xs)) → (first : ℕ) × AreNext conn first (of_conn conn xs)
  by true first next = (first + 1, next.2)
  by false first next = (first, next)

together_tail : (unit : ℕ) (x : Entry) (xs before those after : List Entry) → x ∷ xs ≡ before ++ (those ++ after) → AreOfOthers unit before → AreOfUnit unit those → AreOfOthers unit after → AreTogether unit xs
together_tail unit x xs (b ∷ before) those after is p q r =
    record { before = before; those = those; after = after; parts = cc is; none_before = All-tail (λ (e : Entry). e.unit ≢ unit) b before p; all = q; none_after = r }
together_tail unit x xs [] (t ∷ those) after is p q r =
    record { before = []; those = those; after = after; parts = cc is; none_before = p; all = All-tail (λ (e : Entry). e.unit ≡ unit) t those q; none_after = r }
together_tail unit x xs [] [] (a ∷ after) is p q r =
    record { before = []; those = []; after = after; parts = cc is; none_before = p; all = q; none_after = All-tail (λ (e : Entry). e.unit ≢ unit) a after r }
together_tail unit x xs [] [] [] is p q r = absurd (cc is)

legal_tail : (x : Entry) (xs : List Entry) → AreLegal (x ∷ xs) → AreLegal xs
legal_tail x xs h = record {
  indexes = λ conn small. next_tail conn x xs (h.indexes conn small);
  units = λ unit large. let u = h.units unit large in together_tail unit x xs u.before u.those u.after u.parts u.none_before u.all u.none_after;
}

legal_drop : (n : ℕ) (xs : List Entry) → AreLegal xs → AreLegal (drop n xs)
legal_drop zero xs h = h
legal_drop (suc n) [] h = h
legal_drop (suc n) (x ∷ xs) h = legal_drop n xs (legal_tail x xs h)

-- ---- with what a journal added

others_all : (unit : ℕ) (groups : List (List Entry)) → All (AreOfOthers unit) groups → AreOfOthers unit (all_of groups)
others_all unit [] all = All-nil (λ (e : Entry). e.unit ≢ unit)
others_all unit (group ∷ groups) all =
    All-append (λ (e : Entry). e.unit ≢ unit) group (all_of groups) (All-head (AreOfOthers unit) group groups all) (others_all unit groups (All-tail (AreOfOthers unit) group groups all))

together_groups : (unit : ℕ) (groups : List (List Entry)) → AreOneGroup unit groups → AreTogether unit (all_of groups)
together_groups unit [] one = record { before = []; those = []; after = []; parts = refl; none_before = All-nil (λ (e : Entry). e.unit ≢ unit); all = All-nil (λ (e : Entry). e.unit ≡ unit); none_after = All-nil (λ (e : Entry). e.unit ≢ unit) }
together_groups unit (group ∷ groups) (inl h) =
    let r = together_groups unit groups h.1 in record {
      before = group ++ r.before;
      those = r.those;
      after = r.after;
      parts = ap (λ (l : List Entry). group ++ l) r.parts ∙ sym (append_assoc group r.before (r.those ++ r.after));
      none_before = All-append (λ (e : Entry). e.unit ≢ unit) group r.before h.0 r.none_before;
      all = r.all;
      none_after = r.none_after;
    }
together_groups unit (group ∷ groups) (inr h) = record {
  before = [];
  those = group;
  after = all_of groups;
  parts = refl;
  none_before = All-nil (λ (e : Entry). e.unit ≢ unit);
  all = h.0;
  none_after = others_all unit groups h.1;
}

pub together_first : (unit : ℕ) (xs more : List Entry) → AreOfOthers unit xs → AreTogether unit more → AreTogether unit (xs ++ more)
together_first unit xs more none h = record {
  before = xs ++ h.before;
  those = h.those;
  after = h.after;
  parts = ap (λ (l : List Entry). xs ++ l) h.parts ∙ sym (append_assoc xs h.before (h.those ++ h.after));
  none_before = All-append (λ (e : Entry). e.unit ≢ unit) xs h.before none h.none_before;
  all = h.all;
  none_after = h.none_after;
}

pub together_last : (unit : ℕ) (xs more : List Entry) → AreTogether unit xs → AreOfOthers unit more → AreTogether unit (xs ++ more)
together_last unit xs more h none = record {
  before = h.before;
  those = h.those;
  after = h.after ++ more;
  parts = ap (λ (l : List Entry). l ++ more) h.parts ∙ append_assoc h.before (h.those ++ h.after) more ∙ ap (λ (l : List Entry). h.before ++ l) (append_assoc h.those h.after more);
  none_before = h.none_before;
  all = h.all;
  none_after = All-append (λ (e : Entry). e.unit ≢ unit) h.after more h.none_after none;
}

-- a unit that is an id of one run is none of an earlier one
not_of_run : (run n unit : ℕ) → unit < run * 2 ^ 32 → 2 ^ 32 ≤ unit → (n < 2 ^ 32) ⊎ IsOfRun run n → n ≢ unit
not_of_run run n unit old large (inl plain) same = omega (arith, plain, same, large)
not_of_run run n unit old large (inr of_run) same = omega (arith, of_run.0, same, old)

not_earlier : (run n unit : ℕ) → run * 2 ^ 32 ≤ unit → 2 ^ 32 ≤ unit → (n < 2 ^ 32) ⊎ (n < run * 2 ^ 32) → n ≢ unit
not_earlier run n unit new large (inl plain) same = omega (arith, plain, same, large)
not_earlier run n unit new large (inr old) same = omega (arith, old, same, new)

module _ (run : ℕ) (xs : List Entry) (groups : List (List Entry)) (legal : AreLegal xs) (earlier : AreEarlier run xs) (added : IsLegal run groups) where
  whole_indexes : (conn : ℕ) → conn < 2 ^ 63 → (first : ℕ) × AreNext conn first (of_conn conn (xs ++ all_of groups))
  whole_indexes conn small = elim (cases_lt conn (run * 2 ^ 32)) [
    | inl old ↦
        let none = conn_none conn (all_of groups) (λ k d lt same. omega (arith, (added.conns k d lt).0, same, old)) in
        let is = conn_both conn xs (all_of groups) ∙ ap (λ (l : List Entry). of_conn conn xs ++ l) none ∙ append-nil (of_conn conn xs) in
        let was = legal.indexes conn small in
        (was.0, subst (AreNext conn was.0) (sym is) was.1)
    | inr new ↦
        let none = conn_none conn xs (λ k d lt same. elim (earlier.conns k d lt) [
          | inl old ↦ omega (arith, old, same, new)
          | inr moved ↦ omega (arith, moved, same, small)
        ]) in
        let is = conn_both conn xs (all_of groups) ∙ ap (λ (l : List Entry). l ++ of_conn conn (all_of groups)) none in
        (0, subst (AreNext conn 0) (sym is) (added.indexes conn))
  ]

  whole_units : (unit : ℕ) → 2 ^ 32 ≤ unit → AreTogether unit (xs ++ all_of groups)
  whole_units unit large = elim (cases_lt unit (run * 2 ^ 32)) [
    | inl old ↦ together_last unit xs (all_of groups) (legal.units unit large) (λ k d lt. not_of_run run _ unit old large (added.units k d lt))
    | inr new ↦ together_first unit xs (all_of groups) (λ k d lt. not_earlier run _ unit new large (earlier.units k d lt)) (together_groups unit groups (added.one_group unit large))
  ]

  legal_both : AreLegal (xs ++ all_of groups)
  legal_both = record { indexes = whole_indexes; units = whole_units }

-- ---- after a journal

groups_of : (calls : List Call) (more : List Entry) → AddsAll calls more → (groups : List (List Entry)) × AddsGroups calls groups × (more ≡ all_of groups)
groups_of [] more adds = ([], refl, adds)
groups_of (call ∷ calls) more adds =
    let rest = groups_of calls adds.1 adds.3 in
    (adds.0 ∷ rest.0, (adds.0, rest.0, adds.2, rest.1, refl), adds.4 ∙ ap (λ (l : List Entry). adds.0 ++ l) rest.2)

pub whole_legal : (x y : DeskState) (log : List Record) (division : Division) (confirming : ℕ) (t : SpoolState) → IsDesk x → Goes x log y → Met (divided division x.spool.run) confirming [] log → Grows x (calls_of log) t → OpensLegal x
    → AreLegal (list t)
whole_legal x y log division confirming t rules goes met grows opens =
    let m = grows.mended in
    let parts = groups_of (calls_of log) grows.more grows.adds in
    let was = opens m grows.one in
    let added = legal_journal x y log division confirming parts.0 rules goes met parts.1 in
    let both = subst (λ (l : List Entry). AreLegal (list m ++ l)) (sym parts.2) (legal_both x.spool.run (list m) parts.0 was.0 was.1 added) in
    subst AreLegal (sym grows.grown.list_is) (legal_drop (base t - base m) (list m ++ grows.more) both)
