-- What the calls of a link added, among all that a journal added.
use Rattle.std.proofs.Common.{◌≡◌, ◌⊎◌, inl, inr, ℕ, ◌+◌, ◌<◌, ◌≤◌, ◌==◌, List, [], ◌∷◌, ◌++◌, length, refl, sym, ap, ◌∙◌, subst, arith, append_assoc, eq-eqb}
use Rattle.std.specs.Prelude.{All, Ok, Err}
use Rattle.std.specs.List.{Contains}
use Rattle.std.proofs.lemmas.List.{append-nil}
use Rattle.std.proofs.lemmas.Bool.{cond-true}
use Rattle.std.proofs.lemmas.List.Elements.{All-nil, All-cons, All-head, All-tail, All-append, All-weaker, All-contains, Contains-append_left, Contains-append_right}
use Rattle.event_form.specs.declared.event.Entry.{Entry}
use Rattle.spool_faults.specs.declared.fault.TakeFault.TheVariants as Take
use Rattle.desk_access.specs.Division.{DividedRun, callers_of, each_of, first_conn}
use Rattle.desk_access.specs.Call.{Call, takes, Record, calls_of, own_of, taken_by, taken_of, failures_in, failures_of}
use Rattle.desk_access.specs.Batch.{AreNext, Belongs}
use Rattle.desk_access.specs.History.{Adds, AddsAll}
use Rattle.desk_access.specs.Legal.{AddsGroups, all_of, of_conn}
use Rattle.desk_access.proofs.Taking.{all_of_conn}
use Rattle.spool_turns.specs.OwnEntries.{groups_by, AddsOwn}
use Rattle.spool_turns.proofs.Picks.{conn_both, conn_none}
use Rattle.conn_serve.specs.declared.rules.Rules.{Rules}
use Rattle.conn_serve.specs.Numbering.{IsOfConn, AreOfConn}
use Rattle.conn_serve.specs.Terms.{terms_of}
use Rattle.conn_serve.proofs.Failing.{disk_fault_is_told}
use Rattle.conn_serve.proofs.Indexing.{calls_are_of_conn}
use Rattle.serve_workers.specs.Served.{Served, calls_in, IsServed, AreServed}
use Rattle.serve_laws.specs.Contributes.{Contributes}

-- ---- what calls added, as one list and in groups

-- what is added in groups
pub all_added : (calls : List Call) (groups : List (List Entry)) → AddsGroups calls groups → AddsAll calls (all_of groups)
all_added [] groups adds = ap all_of adds
all_added (call ∷ calls) groups adds = (adds.0, all_of adds.1, adds.2, all_added calls adds.1 adds.3, ap all_of adds.4)

pub in_groups : (calls : List Call) (more : List Entry) → AddsAll calls more → (groups : List (List Entry)) × AddsGroups calls groups × (more ≡ all_of groups)
in_groups [] more adds = ([], refl, adds)
in_groups (call ∷ calls) more (here, rest, added, others, is) =
    let g = in_groups calls rest others in
    (here ∷ g.0, (here, g.0, added, g.1, refl), is ∙ ap (λ (l : List Entry). here ++ l) g.2)

-- what calls one after another added
added_parts : (calls more : List Call) (entries : List Entry) → AddsAll (calls ++ more) entries
    → (first : List Entry) × (rest : List Entry) × AddsAll calls first × AddsAll more rest × (entries ≡ first ++ rest)
added_parts [] more entries adds = ([], entries, refl, adds, refl)
added_parts (call ∷ calls) more entries (here, rest, added, others, is) =
    let p = added_parts calls more rest others in
    (here ++ p.0, p.1, (here, p.0, added, p.2, refl), p.3, is ∙ ap (λ (l : List Entry). here ++ l) p.4 ∙ sym (append_assoc here p.0 p.1))

-- ---- one connection's calls

-- A call adds the group that it took, or nothing; or, some entries, the group of a take that was answered that the disk failed.
pub step_of : (call : Call) (here : List Entry) → Adds call here → (here ≡ taken_by call) ⊎ ((group : List Entry) × (call ≡ takes group (Err Take.DiskFault)) × (here ≡ group) × (0 < length group))
step_of (takes group (Ok receipt)) here h = inl h
step_of (takes group (Err Take.DiskFault)) here (inl none) = inl none
step_of (takes [] (Err Take.DiskFault)) here (inr some) = inl some
step_of (takes (entry ∷ group) (Err Take.DiskFault)) here (inr some) = inr (entry ∷ group, refl, some, omega arith)
step_of call here h = inl h

took_next : (conn index : ℕ) (call : Call) → IsOfConn conn index call → AreNext conn index (taken_by call)
took_next conn index (takes group (Ok receipt)) of = of
took_next conn index (takes group (Err fault)) of = tt
took_next conn index call of = tt

next_rest : (conn index : ℕ) (xs ys : List Entry) → AreNext conn index (xs ++ ys) → AreNext conn (index + length xs) ys
next_rest conn index [] ys next = subst (λ (n : ℕ). AreNext conn n ys) (omega arith) next
next_rest conn index (x ∷ xs) ys next = subst (λ (n : ℕ). AreNext conn n ys) (omega arith) (next_rest conn (index + 1) xs ys next.2)

-- entries whose indexes go on from two numbers at once are none
next_twice : (conn index after : ℕ) (xs ys : List Entry) → AreNext conn index xs → AreNext conn after (xs ++ ys) → index < after → xs ≡ []
next_twice conn index after [] ys a b less = refl
next_twice conn index after (x ∷ xs) ys a b less = absurd (omega (arith, a.1, b.1, less))

-- Where the indexes of what was added go on after those that the calls would take, nothing was.
none_after : (conn index after : ℕ) (calls : List Call) (entries : List Entry) → AreOfConn conn index calls → AddsAll calls entries → AreNext conn after entries → index < after
    → (entries ≡ []) × (taken_of calls ≡ [])
none_after conn index after [] entries of adds next less = (adds, refl)
none_after conn index after (call ∷ calls) entries of (here, rest, added, others, is) next less =
    let both : AreNext conn after (here ++ rest) = subst (AreNext conn after) is next in
    elim (step_of call here added) [
      | inl took ↦
          let none : taken_by call ≡ [] = next_twice conn index after (taken_by call) rest (took_next conn index call of.0) (subst (λ (l : List Entry). AreNext conn after (l ++ rest)) took both) less in
          let at : index + length (taken_by call) ≡ index = omega (arith, ap (λ (l : List Entry). length l) none) in
          let gone : here ≡ [] = took ∙ none in
          let more = none_after conn index after calls rest (subst (λ (n : ℕ). AreOfConn conn n calls) at of.1) others (subst (λ (l : List Entry). AreNext conn after (l ++ rest)) gone both) less in
          (is ∙ ap (λ (l : List Entry). l ++ rest) gone ∙ more.0, ap (λ (l : List Entry). l ++ taken_of calls) none ∙ more.1)
      | inr (group, call_is, whole, some) ↦
          let first : AreNext conn index group = subst (IsOfConn conn index) call_is of.0 in
          let none = next_twice conn index after group rest first (subst (λ (l : List Entry). AreNext conn after (l ++ rest)) whole both) less in
          absurd (omega (arith, some, ap (λ (l : List Entry). length l) none))
    ]

-- what calls of a connection added, as `Contributes` has it
record Splits (calls : List Call) (entries : List Entry) : Type 0 where
  last : List Entry
  are : entries ≡ taken_of calls ++ last
  whole : (last ≡ []) ⊎ Contains calls (takes last (Err Take.DiskFault))

took_first : (call : Call) (calls : List Call) (here rest entries : List Entry) → entries ≡ here ++ rest → here ≡ taken_by call → Splits calls rest → Splits (call ∷ calls) entries
took_first call calls here rest entries is took more = record {
  last = more.last;
  are = is ∙ (λ i. took i ++ more.are i) ∙ sym (append_assoc (taken_by call) (taken_of calls) more.last);
  whole = elim more.whole [ inl none ↦ inl none | inr one ↦ inr (Contains-append_right (call ∷ []) calls (takes more.last (Err Take.DiskFault)) one) ];
}

splits : (conn index : ℕ) (calls : List Call) (entries : List Entry) → AreOfConn conn index calls → AddsAll calls entries → AreNext conn index entries → Splits calls entries
splits conn index [] entries of adds next = record { last = []; are = adds; whole = inl refl }
splits conn index (call ∷ calls) entries of (here, rest, added, others, is) next =
    let both : AreNext conn index (here ++ rest) = subst (AreNext conn index) is next in
    elim (step_of call here added) [
      | inl took ↦
          took_first call calls here rest entries is took
          (splits conn (index + length (taken_by call)) calls rest of.1 others (next_rest conn index (taken_by call) rest (subst (λ (l : List Entry). AreNext conn index (l ++ rest)) took both)))
      | inr (group, call_is, whole, some) ↦
          let none : taken_by call ≡ [] = ap taken_by call_is in
          let at : index + length (taken_by call) ≡ index = omega (arith, ap (λ (l : List Entry). length l) none) in
          let behind : AreNext conn (index + length group) rest = next_rest conn index group rest (subst (λ (l : List Entry). AreNext conn index (l ++ rest)) whole both) in
          let more = none_after conn index (index + length group) calls rest (subst (λ (n : ℕ). AreOfConn conn n calls) at of.1) others behind (omega (arith, some)) in
          record {
            last = group;
            are = is ∙ (λ i. whole i ++ more.0 i) ∙ append-nil group ∙ sym (λ i. (none i ++ more.1 i) ++ group);
            whole = inr (subst (λ (c : Call). Contains (c ∷ calls) (takes group (Err Take.DiskFault))) (sym call_is) (Contains-append_left (takes group (Err Take.DiskFault) ∷ []) calls (takes group (Err Take.DiskFault)) (0, omega arith, refl)));
          }
    ]

-- ---- one link

none_failed : (calls : List Call) → failures_of calls ≡ 0 → All (λ (call : Call). failures_in call ≡ 0) calls
none_failed [] none = All-nil (λ (call : Call). failures_in call ≡ 0)
none_failed (call ∷ calls) none = All-cons (λ (c : Call). failures_in c ≡ 0) call calls (omega (arith, none)) (none_failed calls (omega (arith, none)))

pub contributes : (rules : Rules) (one : Served) (entries : List Entry) → IsServed rules one → AddsAll one.calls entries → AreNext one.conn 0 entries → Contributes one entries
contributes rules one entries served adds next =
    let s = splits one.conn 0 one.calls entries (calls_are_of_conn rules.proto (terms_of rules) one.conn one.left one.bytes one.calls one.text one.talk served) adds next in
    let tells = disk_fault_is_told rules.proto (terms_of rules) one.conn one.left one.bytes one.calls one.text one.talk served in
    record {
      last = s.last;
      are = s.are;
      whole = s.whole;
      indexes = next;
      quiet = λ no_fault no_write. elim s.whole [
        | inl none ↦ none
        | inr failed ↦ elim (tells.quiet no_fault) [
          | inl none ↦ absurd (omega (arith, All-contains (λ (call : Call). failures_in call ≡ 0) one.calls (takes s.last (Err Take.DiskFault)) (none_failed one.calls none) failed))
          | inr cut ↦ absurd (no_write cut.1)
        ]
      ];
    }

-- ---- the links of a worker

entries_of_conn : (conn index : ℕ) (calls : List Call) (entries : List Entry) → AreOfConn conn index calls → AddsAll calls entries → All (λ (entry : Entry). entry.conn ≡ conn) entries
entries_of_conn conn index [] entries of adds = subst (All (λ (entry : Entry). entry.conn ≡ conn)) (sym adds) (All-nil (λ (entry : Entry). entry.conn ≡ conn))
entries_of_conn conn index (call ∷ calls) entries of (here, rest, added, others, is) =
    let P : Entry → Type 0 = λ entry. entry.conn ≡ conn in
    subst (All P) (sym is) (All-append P here rest
    (elim (step_of call here added) [
      | inl took ↦ subst (All P) (sym took) (all_of_conn conn index (taken_by call) (took_next conn index call of.0))
      | inr (group, call_is, whole, some) ↦ subst (All P) (sym whole) (all_of_conn conn index group (subst (IsOfConn conn index) call_is of.0))
    ])
    (entries_of_conn conn (index + length (taken_by call)) calls rest of.1 others))

link_conns : (rules : Rules) (one : Served) (entries : List Entry) → IsServed rules one → AddsAll one.calls entries → All (λ (entry : Entry). entry.conn ≡ one.conn) entries
link_conns rules one entries served adds = entries_of_conn one.conn 0 one.calls entries (calls_are_of_conn rules.proto (terms_of rules) one.conn one.left one.bytes one.calls one.text one.talk served) adds

later_conns : (rules : Rules) (first : ℕ) (links : List Served) (entries : List Entry) → AreServed rules first links → AddsAll (calls_in links) entries → All (λ (entry : Entry). first ≤ entry.conn) entries
later_conns rules first [] entries served adds = subst (All (λ (entry : Entry). first ≤ entry.conn)) (sym adds) (All-nil (λ (entry : Entry). first ≤ entry.conn))
later_conns rules first (one ∷ links) entries served adds =
    let P : Entry → Type 0 = λ entry. first ≤ entry.conn in
    let p = added_parts one.calls (calls_in links) entries adds in
    subst (All P) (sym p.4) (All-append P p.0 p.1
    (λ k d lt. omega (arith, link_conns rules one p.0 served.1 p.2 k d lt, served.0))
    (λ k d lt. omega (arith, later_conns rules (first + 1) links p.1 served.2 p.3 k d lt)))

-- a link of those from one connection's number on and below another, whose calls added the entries of its connection
record Adding (rules : Rules) (first below : ℕ) (entries : List Entry) (one : Served) : Type 0 where
  from : first ≤ one.conn
  before : one.conn < below
  served : IsServed rules one
  adds : AddsAll one.calls (of_conn one.conn entries)

conn_all : (conn : ℕ) (xs : List Entry) → All (λ (e : Entry). e.conn ≡ conn) xs → of_conn conn xs ≡ xs
conn_all conn [] all = refl
conn_all conn (x ∷ xs) all = cond-true (x.conn == conn) (x ∷ of_conn conn xs) (of_conn conn xs) (eq-eqb x.conn conn (All-head (λ (e : Entry). e.conn ≡ conn) x xs all)) ∙ ap (λ (l : List Entry). x ∷ l) (conn_all conn xs (All-tail (λ (e : Entry). e.conn ≡ conn) x xs all))

each_adds : (rules : Rules) (first below : ℕ) (links : List Served) (entries : List Entry) → first + length links ≤ below → AreServed rules first links → AddsAll (calls_in links) entries → All (Adding rules first below entries) links
each_adds rules first below [] entries few served adds = All-nil (Adding rules first below entries)
each_adds rules first below (one ∷ links) entries few served adds =
    let p = added_parts one.calls (calls_in links) entries adds in
    let mine = link_conns rules one p.0 served.1 p.2 in
    let others = later_conns rules (first + 1) links p.1 served.2 p.3 in
    let here : of_conn one.conn entries ≡ p.0 =
    ap (of_conn one.conn) p.4 ∙ conn_both one.conn p.0 p.1
    ∙ (λ i. conn_all one.conn p.0 mine i ++ conn_none one.conn p.1 (λ k d lt is. omega (arith, is, others k d lt, served.0)) i)
    ∙ append-nil p.0 in
    All-cons (Adding rules first below entries) one links
    (record { from = omega (arith, served.0); before = omega (arith, few, served.0); served = served.1; adds = subst (AddsAll one.calls) (sym here) p.2 })
    (All-weaker (Adding rules (first + 1) below p.1) (Adding rules first below entries)
    (λ two a. record {
      from = omega (arith, a.from);
      before = a.before;
      served = a.served;
      adds = subst (AddsAll two.calls) (sym (ap (of_conn two.conn) p.4 ∙ conn_both two.conn p.0 p.1 ∙ ap (λ (l : List Entry). l ++ of_conn two.conn p.1) (conn_none two.conn p.0 (λ k d lt is. omega (arith, is, mine k d lt, served.0, a.from))))) a.adds;
    })
    links (each_adds rules (first + 1) below links p.1 (omega (arith, few)) served.2 p.3))

-- Of all that the journal added the connections of a caller's links have what their calls added.
pub links_contribute : (run : DividedRun) (number : ℕ) (rules : Rules) (log : List Record) (links : List Served) (added : List Entry) → number < callers_of run.division → length links ≤ each_of run.division
    → AreServed rules (first_conn run number) links → own_of number log ≡ calls_in links
    → ((groups : List (List Entry)) → AddsGroups (calls_of log) groups → AddsOwn run number (own_of number log) groups (groups_by number log groups))
    → AddsAll (calls_of log) added → All (λ (one : Served). Contributes one (of_conn one.conn added)) links
links_contribute run number rules log links added small few served calls owns adds =
    let g = in_groups (calls_of log) added adds in
    let own = owns g.0 g.1 in
    let mine = all_of (groups_by number log g.0) in
    let below = first_conn run number + each_of run.division in
    let each = each_adds rules (first_conn run number) below links mine (omega (arith, few)) served (subst (λ (l : List Call). AddsAll l mine) calls (all_added (own_of number log) (groups_by number log g.0) own.adds)) in
    All-weaker (Adding rules (first_conn run number) below mine) (λ (one : Served). Contributes one (of_conn one.conn added))
    (λ one a.
    let belongs : Belongs run number one.conn = record { few = small; from = omega (arith, a.from); below = omega (arith, a.before) } in
    let same : of_conn one.conn added ≡ of_conn one.conn mine = ap (of_conn one.conn) g.2 ∙ own.conns one.conn belongs in
    subst (Contributes one) (sym same) (contributes rules one (of_conn one.conn mine) a.served a.adds (own.indexes one.conn belongs)))
    links each
