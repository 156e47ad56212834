-- What a crash leaves of what a link contributed.
use Rattle.std.proofs.Common.{◌≡◌, ◌⊎◌, inl, inr, ℕ, zero, suc, ◌+◌, ◌*◌, ◌-◌, ◌^◌, ◌<◌, ◌≤◌, ◌==◌, Bool, true, false, cond, List, [], ◌∷◌, ◌++◌, length, drop, refl, sym, ap, ◌∙◌, subst, arith, append_assoc}
use Rattle.std.specs.Prelude.{All}
use Rattle.std.proofs.lemmas.List.Elements.{All-nil, All-cons, All-append, All-drop}
use Rattle.event_form.specs.declared.event.Entry.{Entry}
use Rattle.spool_state.specs.SpoolState.{SpoolState, base, list}
use Rattle.desk_access.specs.Division.{DividedRun, first_conn}
use Rattle.desk_access.specs.Call.{Call, Record, calls_of}
use Rattle.desk_access.specs.Desk.{DeskState}
use Rattle.desk_access.specs.History.{AddsAll, Grows, Was}
use Rattle.desk_access.specs.Batch.{IsPlain}
use Rattle.desk_access.specs.Legal.{AddsGroups, IsLegal, of_conn}
use Rattle.desk_access.proofs.Added.{added_then, next_added}
use Rattle.spool_turns.specs.Whole.{OpensLegal, AreEarlier}
use Rattle.spool_turns.proofs.Picks.{conn_both, conn_none}
use Rattle.conn_serve.specs.declared.rules.Rules.{Rules}
use Rattle.serve_workers.specs.Served.{Served, AreServed}
use Rattle.serve_laws.specs.Contributes.{BeginsInOrder, Contributes, StandsInOrder}
use Rattle.serve_laws.proofs.Contributing.{in_groups}

-- the number of a connection of a run: those that were moved into a spool have other ones
record IsNumbered (first : ℕ) (one : Served) : Type 0 where
  from : first ≤ one.conn
  counted : one.conn < 2 ^ 63

conns_from : (rules : Rules) (first : ℕ) (links : List Served) → AreServed rules first links → first + length links ≤ 2 ^ 63 → All (IsNumbered first) links
conns_from rules first [] served few = All-nil (IsNumbered first)
conns_from rules first (one ∷ links) served few =
    All-cons (IsNumbered first) one links (record { from = omega (arith, served.0); counted = omega (arith, served.0, few) })
    (λ k d lt. let more = conns_from rules (first + 1) links served.2 (omega (arith, few)) k d lt in record { from = omega (arith, more.from); counted = more.counted })

-- no entry of a list of earlier runs has it
not_earlier : (run first : ℕ) (one : Served) (xs : List Entry) → run * 2 ^ 32 ≤ first → IsNumbered first one → AreEarlier run xs → of_conn one.conn xs ≡ []
not_earlier run first one xs from numbered earlier = conn_none one.conn xs (λ k d lt is. elim (earlier.conns k d lt) [
  | inl old ↦ omega (arith, is, from, numbered.from, old)
  | inr moved ↦ omega (arith, is, numbered.counted, moved)
])

-- where first entries are gone, so are first ones of the connection
conn_drop : (conn n : ℕ) (xs : List Entry) → (gone : ℕ) × (of_conn conn (drop n xs) ≡ drop gone (of_conn conn xs))
conn_drop conn zero xs = (0, refl)
conn_drop conn (suc n) [] = (0, refl)
conn_drop conn (suc n) (x ∷ xs) = by (x.conn == conn) (conn_drop conn n xs) where
  by : (b : Bool) → (gone : ℕ) × (of_conn conn (drop n xs) ≡ drop gone (of_conn conn xs)) → (gone : ℕ) × (of_conn conn (drop n xs) ≡ drop gone (cond b (x ∷ of_conn conn xs) (of_conn conn xs)))
  by true rest = (suc rest.0, rest.1)
  by false rest = rest

pub links_in_order : (x : DeskState) (run : DividedRun) (number : ℕ) (rules : Rules) (log : List Record) (links : List Served) (s : SpoolState) → x.spool.run ≡ run.number → AreServed rules (first_conn run number) links → first_conn run number + length links ≤ 2 ^ 63
    → ((added : List Entry) → AddsAll (calls_of log) added → All (λ (one : Served). Contributes one (of_conn one.conn added)) links) → Grows x (calls_of log) s → OpensLegal x → All (λ (one : Served). StandsInOrder one (list s)) links
links_in_order x run number rules log links s of_run served few contribute grows opens = λ k d lt.
    in_order _ (contribute grows.more grows.adds k d lt) (conns_from rules (first_conn run number) links served few k d lt)
  where
    in_order : (one : Served) → Contributes one (of_conn one.conn grows.more) → IsNumbered (first_conn run number) one → StandsInOrder one (list s)
    in_order one contributes from =
        let earlier = (opens grows.mended grows.one).1 in
        let none = not_earlier x.spool.run (first_conn run number) one (list grows.mended) (omega (arith, of_run)) from earlier in
        let all : of_conn one.conn (list grows.mended ++ grows.more) ≡ of_conn one.conn grows.more = conn_both one.conn (list grows.mended) grows.more ∙ ap (λ (l : List Entry). l ++ of_conn one.conn grows.more) none in
        let dropped = conn_drop one.conn (base s - base grows.mended) (list grows.mended ++ grows.more) in
        record {
          contributed = of_conn one.conn grows.more;
          contributes = contributes;
          gone = dropped.0;
          are = ap (of_conn one.conn) grows.grown.list_is ∙ dropped.1 ∙ ap (λ (l : List Entry). drop dropped.0 l) all;
        }

-- ---- at a moment on the way

pub links_were_in_order : (x : DeskState) (run : DividedRun) (number : ℕ) (rules : Rules) (log : List Record) (links : List Served) (c : List ℕ) → x.spool.run ≡ run.number → AreServed rules (first_conn run number) links → first_conn run number + length links ≤ 2 ^ 63
    → ((added : List Entry) → AddsAll (calls_of log) added → All (λ (one : Served). Contributes one (of_conn one.conn added)) links) → (w : Was x (calls_of log) c) → OpensLegal x → All (λ (one : Served). BeginsInOrder one (list w.state)) links
links_were_in_order x run number rules log links c of_run served few contribute w opens = λ k d lt.
    in_order _ (contribute ((w.more ++ w.next) ++ behind.0) whole k d lt) (conns_from rules (first_conn run number) links served few k d lt)
  where
    behind : (more : List Entry) × AddsAll w.rest (w.next ++ more)
    behind = next_added w.rest w.next w.whole

    whole : AddsAll (calls_of log) ((w.more ++ w.next) ++ behind.0)
    whole =
        subst (λ (l : List Call). AddsAll l ((w.more ++ w.next) ++ behind.0)) (sym w.parts)
        (subst (AddsAll (w.first ++ w.rest)) (sym (append_assoc w.more w.next behind.0)) (added_then w.first w.rest w.more (w.next ++ behind.0) w.adds behind.1))

    in_order : (one : Served) → Contributes one (of_conn one.conn ((w.more ++ w.next) ++ behind.0)) → IsNumbered (first_conn run number) one → BeginsInOrder one (list w.state)
    in_order one contributes from =
        let earlier = (opens w.mended w.one).1 in
        let none = not_earlier x.spool.run (first_conn run number) one (list w.mended) (omega (arith, of_run)) from earlier in
        let all : of_conn one.conn (list w.mended ++ (w.more ++ w.next)) ≡ of_conn one.conn (w.more ++ w.next) = conn_both one.conn (list w.mended) (w.more ++ w.next) ∙ ap (λ (l : List Entry). l ++ of_conn one.conn (w.more ++ w.next)) none in
        let dropped = conn_drop one.conn (base w.state - base w.mended) (list w.mended ++ (w.more ++ w.next)) in
        record {
          contributed = of_conn one.conn ((w.more ++ w.next) ++ behind.0);
          contributes = contributes;
          begun = of_conn one.conn (w.more ++ w.next);
          later = of_conn one.conn behind.0;
          parts = conn_both one.conn (w.more ++ w.next) behind.0;
          gone = dropped.0;
          are = ap (of_conn one.conn) w.grown.list_is ∙ dropped.1 ∙ ap (λ (l : List Entry). drop dropped.0 l) all;
        }

-- The list that is left is of runs up to this one.
pub earlier_again : (x : DeskState) (run : ℕ) (log : List Record) (s : SpoolState) → x.spool.run ≡ run → ((groups : List (List Entry)) → AddsGroups (calls_of log) groups → IsLegal run groups) → Grows x (calls_of log) s → OpensLegal x → AreEarlier (run + 1) (list s)
earlier_again x run log s of_run legal grows opens =
    let earlier = (opens grows.mended grows.one).1 in
    let g = in_groups (calls_of log) grows.more grows.adds in
    let more = legal g.0 g.1 in
    let list_is = grows.grown.list_is in
    let C : Entry → Type 0 = λ entry. (entry.conn < (run + 1) * 2 ^ 32) ⊎ (2 ^ 63 ≤ entry.conn) in
    let U : Entry → Type 0 = λ entry. IsPlain entry ⊎ (entry.unit < (run + 1) * 2 ^ 32) in
    record {
      conns = subst (All C) (sym list_is) (All-drop C (base s - base grows.mended) (list grows.mended ++ grows.more) (All-append C (list grows.mended) grows.more
          (λ k d lt. elim (earlier.conns k d lt) [ inl old ↦ inl (omega (arith, of_run, old)) | inr moved ↦ inr moved ])
          (subst (All C) (sym g.2) (λ k d lt. inl (omega (arith, more.conns k d lt))))));
      units = subst (All U) (sym list_is) (All-drop U (base s - base grows.mended) (list grows.mended ++ grows.more) (All-append U (list grows.mended) grows.more
          (λ k d lt. elim (earlier.units k d lt) [ inl plain ↦ inl plain | inr id ↦ inr (omega (arith, of_run, id)) ])
          (subst (All U) (sym g.2) (λ k d lt. elim (more.units k d lt) [ inl plain ↦ inl plain | inr id ↦ inr (omega (arith, id.1)) ]))));
    }
