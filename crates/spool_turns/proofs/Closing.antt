-- What follows from a journal of which each call is one that its caller might make.
use Rattle.std.proofs.Common.{◌≡◌, inl, inr, ℕ, ◌-◌, ◌<◌, ◌≤◌, ◌==◌, Bool, true, false, List, [], ◌∷◌, ◌++◌, length, get_or, refl, sym, ap, ◌∙◌, subst}
use Rattle.std.proofs.lemmas.List.{append-nil}
use Rattle.std.specs.Prelude.{if◌then◌else◌, All}
use Rattle.std.proofs.lemmas.Bool.{cases_lt, eq-eqb, eqb-true, eqb-false}
use Rattle.std.proofs.lemmas.List.Elements.{All-nil, All-cons}
use Rattle.event_form.specs.declared.event.Entry.{Entry}
use Rattle.desk_access.specs.Division.{DividedRun, divided}
use Rattle.desk_access.specs.Call.{Call, asks, Record, own_of, calls_of}
use Rattle.desk_access.specs.Desk.{DeskState, Goes}
use Rattle.desk_access.specs.History.{Was}
use Rattle.spool_desk.specs.Alone.{AloneView}
use Rattle.desk_access.specs.Journal.{own_then, goes_parts}
use Rattle.desk_access.specs.Legal.{May, Met, IsStored, AddsGroups, IsOfRun, IsLegal}
use Rattle.desk_access.proofs.Tables.{table_then}
use Rattle.desk_access.proofs.Nexts.{stored_more}
use Rattle.desk_access.proofs.Steps.{all_later}
use Rattle.desk_access.proofs.Lasting.{goes_grows, goes_kept, which_one, stood_was}
use Rattle.desk_access.proofs.LegalEntries.{legal_journal}
use Rattle.desk_access.proofs.Told.{told_was_taken}
use Rattle.desk_seats.specs.Own.{own_of-snoc, own_of-snoc-other}
use Rattle.desk_seats.specs.Passes.{Known, Calls}
use Rattle.spool_turns.specs.Passes.{Beginning, IsAsked}
use Rattle.spool_turns.specs.OwnEntries.{groups_by, AddsOwn}
use Rattle.spool_turns.specs.Issuing.{ids_of, AreFrom}
use Rattle.spool_turns.specs.Whole.{Keeps}
use Rattle.spool_turns.specs.Replays.{Begins, Replays, MayMake, HasNumber}
use Rattle.spool_turns.proofs.OwnParts.{adds_own}
use Rattle.spool_turns.proofs.Issuing.{ids_from, ids_of_run}
use Rattle.spool_turns.proofs.Lists.{whole_legal}

-- so is a beginning of it
met_first : (run : DividedRun) (confirming : ℕ) (before log more : List Record) → Met run confirming before (log ++ more) → Met run confirming before log
met_first run confirming before [] more m = tt
met_first run confirming before (one ∷ log) more m = (m.0, met_first run confirming (before ++ one ∷ []) log more m.1)

-- and of one caller's calls
may_make : (run : DividedRun) (confirming number : ℕ) (before log : List Record) → Met run confirming before log → MayMake run confirming number (own_of number before) (own_of number log)
may_make run confirming number before [] m = tt
may_make run confirming number before (one ∷ log) m = by_test (one.by == number) refl (may_make run confirming number (before ++ one ∷ []) log m.1)
  where
    by_test : (b : Bool) → (one.by == number) ≡ b → MayMake run confirming number (own_of number (before ++ one ∷ [])) (own_of number log) → MayMake run confirming number (own_of number before) (if b then one.call ∷ own_of number log else own_of number log)
    by_test true is rest =
        let same = eqb-true one.by number is in (
          subst (λ (n : ℕ). May run confirming n (own_of n before) one.call) same m.0,
          subst (λ (l : List Call). MayMake run confirming number l (own_of number log)) (own_of-snoc number before one same) rest,
        )
    by_test false is rest = subst (λ (l : List Call). MayMake run confirming number l (own_of number log)) (own_of-snoc-other number before one (eqb-false one.by number is)) rest

pub each_may : (run : DividedRun) (confirming number : ℕ) (log : List Record) → Met run confirming [] log → MayMake run confirming number [] (own_of number log)
each_may run confirming number log m = may_make run confirming number [] log m

-- what it adds is legal
pub adds_legal : (tells : Type 0) (start : DeskState → Type 0) (run : DividedRun) (confirming : ℕ) (began : Beginning) (log : List Record) (v : AloneView) → Replays tells start run began log v → Met run confirming [] log
    → (x : DeskState) → start x → (groups : List (List Entry)) → AddsGroups (calls_of log) groups → IsLegal run.number groups
adds_legal tells start run confirming began log v h m x s groups adds =
    let b = h.begins x s in
    let p = h.leads x s in
    subst (λ (r : ℕ). IsLegal r groups) b.of_run (legal_journal x p.after log run.division confirming groups b.rules p.goes (subst (λ (r : ℕ). Met (divided run.division r) confirming [] log) (sym b.of_run) m) adds)

-- ---- a question after ids

-- the record of a call
record_is : (one : Record) (call : Call) → one.call ≡ call → one ≡ record { by = one.by; call = call; joins = one.joins; met = one.met; after = one.after; clock = one.clock }
record_is one call is = λ i. record { by = one.by; call = is i; joins = one.joins; met = one.met; after = one.after; clock = one.clock }

seen_last : (start : DeskState → Type 0) (run : DividedRun) (seats : ℕ) (v w : Known) (call : Call) (p : Calls start run seats v call w) → p.behind ≡ [] → w.seen ≡ (v.seen ++ p.between) ++ p.one ∷ []
seen_last start run seats v w call p none = p.seen ∙ ap (λ (l : List Record). ((v.seen ++ p.between) ++ p.one ∷ []) ++ l) none ∙ append-nil ((v.seen ++ p.between) ++ p.one ∷ [])

seen_asks : (start : DeskState → Type 0) (run : DividedRun) (seats : ℕ) (v w : Known) (call : Call) (p : Calls start run seats v call w) → p.behind ≡ []
    → w.seen ≡ (v.seen ++ p.between) ++ record { by = p.one.by; call = call; joins = p.one.joins; met = p.one.met; after = p.one.after; clock = p.one.clock } ∷ []
seen_asks start run seats v w call p none = seen_last start run seats v w call p none ∙ ap (λ (r : Record). (v.seen ++ p.between) ++ r ∷ []) (record_is p.one call p.of_call)

-- an id that an answer tells true had its group taken before
pub told_stored : (tells : Type 0) (start : DeskState → Type 0) (run : DividedRun) (seats : ℕ) (v w : Known) (channel : ℕ) (ids : List ℕ) (known : List Bool) → Calls start run seats v (asks channel ids known) w
    → (x : DeskState) → start x → Begins tells run x → (k : ℕ) → k < length ids → get_or known k false ≡ true → (caller : ℕ) × IsStored (own_of caller w.seen) (get_or ids k 0)
told_stored tells start run seats v w channel ids known p x s b k lt is =
    let journal = v.seen ++ p.between in
    let last = seen_last start run seats v w (asks channel ids known) p p.follow in
    let led = p.lawful x s in
    let goes = subst (λ (l : List Record). Goes x l led.0) (seen_asks start run seats v w (asks channel ids known) p p.follow) led.1 in
    let met = met_first run (seats - 1) [] journal (p.one ∷ []) (subst (Met run (seats - 1) []) last p.met) in
    let found = told_was_taken x led.0 journal run.division (seats - 1) p.one.by channel ids known p.one.joins p.one.met p.one.after p.one.clock k b.rules b.none_held goes (subst (λ (r : ℕ). Met (divided run.division r) (seats - 1) [] journal) (sym b.of_run) met) lt is in
    let own : own_of found.0 w.seen ≡ own_of found.0 journal ++ own_of found.0 (p.one ∷ []) = ap (own_of found.0) last ∙ own_then found.0 journal (p.one ∷ []) in
    (found.0, subst (λ (l : List Call). IsStored l (get_or ids k 0)) (sym own) (stored_more (own_of found.0 journal) (own_of found.0 (p.one ∷ [])) (get_or ids k 0) found.1))

-- and the answer is that of the table at the call
pub asked_held : (start : DeskState → Type 0) (run : DividedRun) (seats : ℕ) (v w : Known) (channel : ℕ) (ids : List ℕ) (known : List Bool) → Calls start run seats v (asks channel ids known) w
    → (x : DeskState) → start x → IsAsked x channel ids known w.seen
asked_held start run seats v w channel ids known p x s =
    let journal = v.seen ++ p.between in
    let led = p.lawful x s in
    let one : Record = record { by = p.one.by; call = asks channel ids known; joins = p.one.joins; met = p.one.met; after = p.one.after; clock = p.one.clock } in
    let is : w.seen ≡ journal ++ one ∷ [] = seen_asks start run seats v w (asks channel ids known) p p.follow in
    let parts = goes_parts x led.0 journal (one ∷ []) (subst (λ (l : List Record). Goes x l led.0) is led.1) in
    record { before = journal; one = one; seen = is; at = parts.0; goes = parts.1; held = (table_then parts.0 parts.2.0 one parts.2.1).0 }

-- what each caller added is its own
pub each_own : (tells : Type 0) (start : DeskState → Type 0) (run : DividedRun) (confirming : ℕ) (began : Beginning) (log : List Record) (v : AloneView) → Replays tells start run began log v → Met run confirming [] log
    → (x : DeskState) → start x → (groups : List (List Entry)) → AddsGroups (calls_of log) groups → (number : ℕ) → AddsOwn run number (own_of number log) groups (groups_by number log groups)
each_own tells start run confirming began log v h m x s groups adds number =
    let b = h.begins x s in
    let p = h.leads x s in
    let met = subst (λ (r : ℕ). Met (divided run.division r) confirming [] log) (sym b.of_run) m in
    let legal = legal_journal x p.after log run.division confirming groups b.rules p.goes met adds in
    subst (λ (r : ℕ). AddsOwn (divided run.division r) number (own_of number log) groups (groups_by number log groups)) b.of_run (adds_own x p.after log run.division confirming number groups b.rules p.goes met adds legal)

-- the ids are new
pub new_ids : (tells : Type 0) (start : DeskState → Type 0) (run : DividedRun) (began : Beginning) (log : List Record) (v : AloneView) → Replays tells start run began log v
    → (x : DeskState) → start x → AreFrom x.ids.next (ids_of (calls_of log)) × All (IsOfRun run.number) (ids_of (calls_of log))
new_ids tells start run began log v h x s =
    let b = h.begins x s in
    let p = h.leads x s in
    (ids_from x p.after log p.goes, subst (λ (r : ℕ). All (IsOfRun r) (ids_of (calls_of log))) b.of_run (ids_of_run x p.after log b.rules p.goes))

-- what a crash leaves then, and left before
pub keeps : (tells : Type 0) (start : DeskState → Type 0) (run : DividedRun) (confirming : ℕ) (began : Beginning) (log : List Record) (v : AloneView) → Replays tells start run began log v → Met run confirming [] log
    → (x : DeskState) → start x → (c : List ℕ) → v.spool.moment.image c → Keeps x log c
keeps tells start run confirming began log v h m x s c image =
    let b = h.begins x s in
    let p = h.leads x s in
    let one = which_one p.after.spool p.after.doubt c (p.reached.spool.each c image) in
    let grows = goes_grows x p.after log one.0 b.rules p.goes one.1 in
    record {
      state = one.0;
      stands = one.2;
      later = all_later x p.after log one.0 b.rules p.goes one.1;
      kept = goes_kept x p.after log one.0 b.rules p.goes one.1;
      grows = grows;
      legal = λ opens. whole_legal x p.after log run.division confirming one.0 b.rules p.goes (subst (λ (r : ℕ). Met (divided run.division r) confirming [] log) (sym b.of_run) m) grows opens;
    }

pub left_before : (tells : Type 0) (start : DeskState → Type 0) (run : DividedRun) (began : Beginning) (log : List Record) (v : AloneView) → Replays tells start run began log v
    → (x : DeskState) → start x → (c : List ℕ) → v.spool.moment.image_since began.moment.clock c → Was x (calls_of log) c
left_before tells start run began log v h x s c since = stood_was x log c (h.begins x s).rules ((h.leads x s).any_moment.each c since)

-- each record is of a pass
numbers_below : (seats : ℕ) (log : List Record) → ((n : ℕ) → seats ≤ n → own_of n log ≡ []) → All (λ (one : Record). one.by < seats) log
numbers_below seats [] none = All-nil (λ (one : Record). one.by < seats)
numbers_below seats (one ∷ log) none =
    All-cons (λ (r : Record). r.by < seats) one log
    (elim (cases_lt one.by seats) [ inl lt ↦ lt | inr le ↦ absurd (its_own (none one.by le)) ])
    (numbers_below seats log (λ n le. others n (one.by == n) (none n le)))
  where
    its_own : own_of one.by (one ∷ log) ≡ [] → ⊥
    its_own e =
        let some : one.call ∷ own_of one.by log ≡ [] = sym (ap (λ (b : Bool). if b then one.call ∷ own_of one.by log else own_of one.by log) (eq-eqb one.by one.by refl)) ∙ e in
        cc some

    others : (n : ℕ) (b : Bool) → (if b then one.call ∷ own_of n log else own_of n log) ≡ [] → own_of n log ≡ []
    others n true e = absurd (cc e)
    others n false e = e

pub by_a_pass : (seats : ℕ) (log : List Record) (passes : List Known) → ((n : ℕ) → seats ≤ n → own_of n log ≡ []) → ((n : ℕ) → n < seats → HasNumber passes n) → All (λ (one : Record). HasNumber passes one.by) log
by_a_pass seats log passes none all = λ k d lt. all _ (numbers_below seats log none k d lt)
