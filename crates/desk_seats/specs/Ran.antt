-- What calls of one pass lead from one moment of it to another, and what follows for what it may do.
use Rattle.std.proofs.Common.{◌≡◌, ℕ, ◌+◌, ◌≤◌, ◌<◌, ◌==◌, Bool, true, false, cond, eq-eqb, arith, List, [], ◌∷◌, ◌++◌, length, length-append, refl, sym, ap, ◌∙◌, subst, append_assoc}
use Rattle.std.specs.Prelude.{All, Ok}
use Rattle.std.proofs.lemmas.List.{append-nil}
use Rattle.event_form.specs.declared.event.Entry.{Entry}
use Rattle.spool_state.specs.SpoolState.{end}
use Rattle.spool_answers.specs.declared.receipt.Receipt.{Receipt}
use Rattle.desk_access.specs.Division.{DividedRun}
use Rattle.desk_access.specs.Call.{Call, takes, issues, Record, own_of, taken_of, TookSurely}
use Rattle.desk_access.specs.Batch.{AreOfUnit}
use Rattle.desk_access.specs.Desk.{DeskState, Goes}
use Rattle.desk_access.specs.History.{IsDesk}
use Rattle.desk_access.specs.Journal.{own_then}
use Rattle.desk_access.specs.Legal.{IsNext, AreUnused, IsUnused, IsStored}
use Rattle.desk_access.proofs.Nexts.{next_more, unused_new, unused_more, stored_new, stored_more}
use Rattle.desk_seats.specs.Passes.{Known, LeadsAbove, Calls, upto_first}
use Rattle.desk_seats.specs.Own.{own_of-snoc}

-- These calls of the pass lead from the one moment to the other. The journal seen went on, if any call was made, and of
-- what was added the pass's are these. What was loaded before isn't above what the journal leads to by the first of them.
pub record Ran (start : DeskState → Type 0) (a : Known) (calls : List Call) (b : Known) : Type 0 where
  pub between : List Record
  pub seen : b.seen ≡ a.seen ++ between
  pub own_between : own_of a.number between ≡ calls
  pub own : b.own ≡ a.own ++ calls
  pub number : b.number ≡ a.number
  pub end_known : a.end_known ≤ b.end_known
  pub cursor_known : a.cursor_known ≤ b.cursor_known
  pub quiet : length calls ≡ 0 → b.seen ≡ a.seen
  pub lawful : 0 < length calls → (x : DeskState) → start x → LeadsAbove x b.seen a.end_known a.cursor_known
  pub first_lawful : 0 < length calls → (x : DeskState) → start x → LeadsAbove x (a.seen ++ upto_first a.number between) a.end_known a.cursor_known

-- records in which the number has none, or has one
pub upto_first-none : (n : ℕ) (xs ys : List Record) → own_of n xs ≡ [] → upto_first n (xs ++ ys) ≡ xs ++ upto_first n ys
upto_first-none n [] ys none = refl
upto_first-none n (x ∷ xs) ys none = by (x.by == n) none (λ rest. upto_first-none n xs ys rest) where
  by : (b : Bool) → cond b (x.call ∷ own_of n xs) (own_of n xs) ≡ [] → (own_of n xs ≡ [] → upto_first n (xs ++ ys) ≡ xs ++ upto_first n ys) → cond b (x ∷ []) (x ∷ upto_first n (xs ++ ys)) ≡ x ∷ (xs ++ upto_first n ys)
  by true off rest = absurd (cc (off))
  by false off rest = ap (λ (l : List Record). x ∷ l) (rest off)

pub upto_first-some : (n : ℕ) (xs ys : List Record) → 0 < length (own_of n xs) → upto_first n (xs ++ ys) ≡ upto_first n xs
upto_first-some n [] ys some = absurd (omega arith)
upto_first-some n (x ∷ xs) ys some = by (x.by == n) some (λ rest. upto_first-some n xs ys rest) where
  by : (b : Bool) → 0 < length (cond b (x.call ∷ own_of n xs) (own_of n xs)) → (0 < length (own_of n xs) → upto_first n (xs ++ ys) ≡ upto_first n xs) → cond b (x ∷ []) (x ∷ upto_first n (xs ++ ys)) ≡ cond b (x ∷ []) (x ∷ upto_first n xs)
  by true more rest = refl
  by false more rest = ap (λ (l : List Record). x ∷ l) (rest more)

pub upto_first-one : (n : ℕ) (one : Record) → one.by ≡ n → upto_first n (one ∷ []) ≡ one ∷ []
upto_first-one n one is = ap (λ (b : Bool). cond b (one ∷ []) (one ∷ [])) (eq-eqb one.by n is)

pub ran_none : (start : DeskState → Type 0) (a : Known) → Ran start a [] a
ran_none start a = record {
  between = [];
  seen = sym (append-nil a.seen);
  own_between = refl;
  own = sym (append-nil a.own);
  number = refl;
  end_known = omega arith;
  cursor_known = omega arith;
  quiet = λ none. refl;
  lawful = λ some. absurd (omega arith);
  first_lawful = λ some. absurd (omega arith);
}

more_lawful : (start : DeskState → Type 0) (a b c : Known) (calls more : List Call) → Ran start a calls b → Ran start b more c → 0 < length (calls ++ more)
    → (x : DeskState) → start x → LeadsAbove x c.seen a.end_known a.cursor_known
more_lawful start a b c calls [] p q some x s =
    let h = p.lawful (omega (arith, some, length-append calls [])) x s in
    subst (λ (l : List Record). LeadsAbove x l a.end_known a.cursor_known) (sym (q.quiet refl)) h
more_lawful start a b c calls (call ∷ more) p q some x s =
    let h = q.lawful (omega arith) x s in
    (h.0, h.1, omega (arith, h.2, p.end_known), omega (arith, h.3, p.cursor_known))

more_first : (start : DeskState → Type 0) (a b c : Known) (calls more : List Call) (p : Ran start a calls b) (q : Ran start b more c) → 0 < length (calls ++ more)
    → (x : DeskState) → start x → LeadsAbove x (a.seen ++ upto_first a.number (p.between ++ q.between)) a.end_known a.cursor_known
more_first start a b c [] more p q some x s =
    let h = q.first_lawful some x s in
    let same : b.seen ++ upto_first b.number q.between ≡ a.seen ++ upto_first a.number (p.between ++ q.between) =
    (λ k. p.seen k ++ upto_first (p.number k) q.between) ∙ append_assoc a.seen p.between (upto_first a.number q.between)
    ∙ ap (λ (l : List Record). a.seen ++ l) (sym (upto_first-none a.number p.between q.between p.own_between)) in
    subst (λ (l : List Record). LeadsAbove x l a.end_known a.cursor_known) same (h.0, h.1, omega (arith, h.2, p.end_known), omega (arith, h.3, p.cursor_known))
more_first start a b c (call ∷ calls) more p q some x s =
    subst (λ (l : List Record). LeadsAbove x (a.seen ++ l) a.end_known a.cursor_known)
    (sym (upto_first-some a.number p.between q.between (omega (arith, ap (λ (l : List Call). length l) p.own_between)))) (p.first_lawful (omega arith) x s)

pub ran_more : (start : DeskState → Type 0) (a b c : Known) (calls more : List Call) → Ran start a calls b → Ran start b more c
    → Ran start a (calls ++ more) c
ran_more start a b c calls more p q = record {
  between = p.between ++ q.between;
  seen = q.seen ∙ ap (λ (l : List Record). l ++ q.between) p.seen ∙ append_assoc a.seen p.between q.between;
  own_between = own_then a.number p.between q.between ∙ (λ k. p.own_between k ++ (ap (λ (n : ℕ). own_of n q.between) (sym p.number) ∙ q.own_between) k);
  own = q.own ∙ ap (λ (l : List Call). l ++ more) p.own ∙ append_assoc a.own calls more;
  number = q.number ∙ p.number;
  end_known = omega (arith, p.end_known, q.end_known);
  cursor_known = omega (arith, p.cursor_known, q.cursor_known);
  quiet = λ none. q.quiet (omega (arith, none, length-append calls more)) ∙ p.quiet (omega (arith, none, length-append calls more));
  lawful = more_lawful start a b c calls more p q;
  first_lawful = more_first start a b c calls more p q;
}

-- what is real after calls, one after another
pub none_real : (P : Type 0) → 0 < length {A = Call} [] → P
none_real P some = absurd (omega (arith, some))

pub more_real : (start : DeskState → Type 0) (b c : Known) (calls more : List Call) (P : List Record → Type 0) → Ran start b more c → (0 < length calls → P b.seen) → (0 < length more → P c.seen) → 0 < length (calls ++ more) → P c.seen
more_real start b c calls [] P q first second some = subst P (sym (q.quiet refl)) (first (omega (arith, some, length-append calls [])))
more_real start b c calls (call ∷ more) P q first second some = second (omega arith)

-- one call
pub ran_one : (start : DeskState → Type 0) (run : DividedRun) (seats : ℕ) (a : Known) (call : Call) (b : Known) → Calls start run seats a call b → Ran start a (call ∷ []) b
ran_one start run seats a call b p = record {
  between = (p.between ++ p.one ∷ []) ++ p.behind;
  seen = p.seen ∙ ap (λ (l : List Record). l ++ p.behind) (append_assoc a.seen p.between (p.one ∷ [])) ∙ append_assoc a.seen (p.between ++ p.one ∷ []) p.behind;
  own_between = own_then a.number (p.between ++ p.one ∷ []) p.behind ∙ (λ k. here k ++ p.others_behind k) ∙ append-nil (call ∷ []);
  own = p.own;
  number = p.number;
  end_known = p.end_known;
  cursor_known = p.cursor_known;
  quiet = λ none. absurd (omega arith);
  lawful = λ some. p.lawful;
  first_lawful = λ some x s. subst (λ (l : List Record). LeadsAbove x l a.end_known a.cursor_known) first (p.own_lawful x s);
}
  where
    here : own_of a.number (p.between ++ p.one ∷ []) ≡ call ∷ []
    here = own_of-snoc a.number p.between p.one p.by ∙ (λ k. p.others k ++ p.of_call k ∷ [])

    first : (a.seen ++ p.between) ++ p.one ∷ [] ≡ a.seen ++ upto_first a.number ((p.between ++ p.one ∷ []) ++ p.behind)
    first =
        append_assoc a.seen p.between (p.one ∷ [])
        ∙ ap (λ (l : List Record). a.seen ++ l)
        (sym (upto_first-some a.number (p.between ++ p.one ∷ []) p.behind (omega (arith, ap (λ (l : List Call). length l) here))
        ∙ upto_first-none a.number p.between (p.one ∷ []) p.others ∙ ap (λ (l : List Record). p.between ++ l) (upto_first-one a.number p.one p.by)))

-- a word loaded
pub ran_loaded : (start : DeskState → Type 0) (a b : Known) → b.number ≡ a.number → b.seen ≡ a.seen → b.own ≡ a.own → a.end_known ≤ b.end_known
    → a.cursor_known ≤ b.cursor_known → Ran start a [] b
ran_loaded start a b number seen own end_known cursor_known = record {
  between = [];
  seen = seen ∙ sym (append-nil a.seen);
  own_between = refl;
  own = own ∙ sym (append-nil a.own);
  number = number;
  end_known = end_known;
  cursor_known = cursor_known;
  quiet = λ none. seen;
  lawful = λ some. absurd (omega arith);
  first_lawful = λ some. absurd (omega arith);
}

pub ran_seen : (start : DeskState → Type 0) (a b : Known) (calls : List Call) (x : DeskState) (journal : List Record) → Ran start a calls b
    → start x × IsDesk x × (journal ≡ a.seen)
    → (b.number ≡ a.number) × ((between : List Record) × (own_of a.number between ≡ calls) × (start x × IsDesk x × (journal ++ between ≡ b.seen)))
ran_seen start a b calls x journal p seen =
    (p.number, (p.between, p.own_between, (seen.0, seen.1, ap (λ (l : List Record). l ++ p.between) seen.2 ∙ sym p.seen)))

pub ran_lawful : (start : DeskState → Type 0) (a b : Known) (calls : List Call) (x : DeskState) (journal : List Record) → Ran start a calls b
    → 0 < length calls → start x × IsDesk x × (journal ≡ b.seen)
    → IsDesk x × ((y : DeskState) × Goes x journal y × (a.end_known ≤ end y.spool) × (a.cursor_known ≤ y.spool.cursor))
ran_lawful start a b calls x journal p some seen =
    let h = p.lawful some x seen.0 in
    (seen.1, (h.0, subst (λ (l : List Record). Goes x l h.0) (sym seen.2) h.1, h.2, h.3))

-- ---- what the pass may do after more calls

pub ran_next : (start : DeskState → Type 0) (run : DividedRun) (a b : Known) (calls : List Call) (conn index : ℕ) → Ran start a calls b → All TookSurely calls
    → All (λ (entry : Entry). entry.conn ≡ conn) (taken_of calls)
    → IsNext run a.number a.own conn index → IsNext run b.number b.own conn (index + length (taken_of calls))
ran_next start run a b calls conn index p sure all next =
    subst (λ (l : List Call). IsNext run b.number l conn (index + length (taken_of calls))) (sym p.own)
    (subst (λ (n : ℕ). IsNext run n (a.own ++ calls) conn (index + length (taken_of calls))) (sym p.number)
    (next_more run a.number a.own calls conn index sure all next))

pub ran_issued : (start : DeskState → Type 0) (a b : Known) (channel id : ℕ) → Ran start a (issues channel (Ok id) ∷ []) b → IsUnused b.own id
ran_issued start a b channel id p = subst (λ (l : List Call). IsUnused l id) (sym p.own) (unused_new a.own channel id)

pub ran_unused : (start : DeskState → Type 0) (a b : Known) (calls : List Call) (id : ℕ) → Ran start a calls b → AreUnused id calls → IsUnused a.own id
    → IsUnused b.own id
ran_unused start a b calls id p none may = subst (λ (l : List Call). IsUnused l id) (sym p.own) (unused_more a.own calls id none may)

pub ran_stored : (start : DeskState → Type 0) (a b : Known) (group : List Entry) (receipt : Receipt) (id : ℕ) → Ran start a (takes group (Ok receipt) ∷ []) b
    → 0 < length group → AreOfUnit id group → IsStored b.own id
ran_stored start a b group receipt id p some units = subst (λ (l : List Call). IsStored l id) (sym p.own) (stored_new a.own group receipt id some units)

pub ran_still_stored : (start : DeskState → Type 0) (a b : Known) (calls : List Call) (id : ℕ) → Ran start a calls b → IsStored a.own id → IsStored b.own id
ran_still_stored start a b calls id p may = subst (λ (l : List Call). IsStored l id) (sym p.own) (stored_more a.own calls id may)

pub ran_confirms : (start : DeskState → Type 0) (seats : ℕ) (a b : Known) (calls : List Call) → Ran start a calls b → a.number + 1 ≡ seats
    → b.number + 1 ≡ seats
ran_confirms start seats a b calls p may = omega (arith, p.number, may)
