-- How many entries the links took, and how far the spool's end rose.
use Rattle.std.proofs.Common.{◌≡◌, inl, inr, ℕ, zero, suc, ◌+◌, ◌<◌, ◌≤◌, ◌==◌, Bool, true, false, cond, List, [], ◌∷◌, ◌++◌, length, length-append, refl, sym, ap, ◌∙◌, subst, arith, ne_eqb}
use Rattle.std.specs.Prelude.{All, Ok, Err}
use Rattle.std.proofs.lemmas.Bool.{cases_lt, cond-false, eqb-true, eqb-false}
use Rattle.std.proofs.lemmas.List.Elements.{All-head, All-tail}
use Rattle.std.proofs.lemmas.List.Sums.{sum_by-cons}
use Rattle.event_form.specs.declared.event.Entry.{Entry}
use Rattle.edge_io.specs.Door.{DoorState}
use Rattle.spool_state.specs.SpoolState.{SpoolState, end}
use Rattle.spool_answers.specs.Stages.{IsOneOf}
use Rattle.desk_access.specs.Division.{DividedRun}
use Rattle.desk_access.specs.Call.{Call, takes, Record, own_of, calls_of, taken_by, taken_of, failures_in, failures_of}
use Rattle.desk_access.specs.Desk.{DeskState, Goes}
use Rattle.desk_access.specs.History.{IsDesk, AddsAll, written_by}
use Rattle.desk_access.specs.Step.{count}
use Rattle.desk_access.proofs.Added.{AllWritten}
use Rattle.desk_access.proofs.Growth.{grown_end}
use Rattle.desk_access.proofs.Lasting.{goes_grows}
use Rattle.conn_serve.specs.declared.rules.Rules.{Rules}
use Rattle.desk_seats.specs.Passes.{Known}
use Rattle.spool_turns.specs.Replays.{HasNumber}
use Rattle.serve_workers.specs.Served.{calls_in}
use Rattle.serve_forwarder.specs.Looks.{forwarder_at}
use Rattle.serve_run.specs.Running.{Forwarded, Given, Left}
use Rattle.serve_laws.specs.Parts.{AreParts, EachPart, IsPart, Part, links_of}
use Rattle.serve_laws.specs.Contributes.{taken_over, EndRises}
use Rattle.serve_laws.proofs.Contributing.{step_of}
use Rattle.serve_laws.proofs.Behind.{HaveRun}
use Rattle.serve_laws.proofs.Whole.{forwarder_written, which_pass}

-- ---- of so many callers, from a number on

count_cons : (call : Call) (calls : List Call) → count (call ∷ calls) ≡ length (taken_by call) + count calls
count_cons call calls = length-append (taken_by call) (taken_of calls)

taken_from : ℕ → ℕ → List Record → ℕ
taken_from zero number log = 0
taken_from (suc many) number log = count (own_of number log) + taken_from many (number + 1) log

taken_from-none : (many number : ℕ) → taken_from many number [] ≡ 0
unfolding taken_from
taken_from-none zero number = refl
taken_from-none (suc many) number = omega (arith, taken_from-none many (number + 1))

-- a record of a caller below them counts for none of them
taken_from-below : (many number : ℕ) (one : Record) (log : List Record) → one.by < number → taken_from many number (one ∷ log) ≡ taken_from many number log
unfolding taken_from
taken_from-below zero number one log less = refl
taken_from-below (suc many) number one log less =
    let other : own_of number (one ∷ log) ≡ own_of number log = cond-false (one.by == number) (one.call ∷ own_of number log) (own_of number log) (ne_eqb one.by number (λ same. omega (arith, same, less))) in
    (λ i. count (other i) + taken_from-below many (number + 1) one log (omega (arith, less)) i)

above : (a b : ℕ) → a ≤ b → (b ≡ a → ⊥) → a + 1 ≤ b
above a b le differ = elim (cases_lt a b) [ inl less ↦ omega (arith, less) | inr same ↦ absurd (differ (omega (arith, le, same))) ]

-- one of a caller among them counts once
taken_from-one : (many number : ℕ) (one : Record) (log : List Record) → number ≤ one.by → one.by < number + many → taken_from many number (one ∷ log) ≡ length (taken_by one.call) + taken_from many number log
unfolding taken_from
taken_from-one zero number one log least most = absurd (omega (arith, least, most))
taken_from-one (suc many) number one log least most = by (λ later. taken_from-one many (number + 1) one log later (omega (arith, most))) (one.by == number) refl where
  by : (number + 1 ≤ one.by → taken_from many (number + 1) (one ∷ log) ≡ length (taken_by one.call) + taken_from many (number + 1) log) → (b : Bool) → (one.by == number) ≡ b
      → count (cond b (one.call ∷ own_of number log) (own_of number log)) + taken_from many (number + 1) (one ∷ log) ≡ length (taken_by one.call) + (count (own_of number log) + taken_from many (number + 1) log)
  by rest true is = omega (arith, count_cons one.call (own_of number log), taken_from-below many (number + 1) one log (omega (arith, eqb-true one.by number is)))
  by rest false is = omega (arith, rest (above number one.by least (eqb-false one.by number is)))

-- where all are among them, that is all
taken_from-all : (many : ℕ) (log : List Record) → All (λ (one : Record). one.by < many) log → taken_from many 0 log ≡ count (calls_of log)
taken_from-all many [] all = taken_from-none many 0
taken_from-all many (one ∷ log) all =
    let P : Record → Type 0 = λ r. r.by < many in
    taken_from-one many 0 one log (omega arith) (omega (arith, All-head P one log all)) ∙ ap (λ (n : ℕ). length (taken_by one.call) + n) (taken_from-all many log (All-tail P one log all)) ∙ sym (count_cons one.call (calls_of log))

-- ---- of the parts, and of the forwarder after them

parts_taken : (run : DividedRun) (talks : ℕ) (log : List Record) (number : ℕ) (rules : List Rules) (doors doors' : List DoorState) (parts : List Part) → EachPart (IsPart run talks log) number rules doors doors' parts
    → taken_from (suc (length parts)) number log ≡ taken_over parts + count (own_of (number + length parts) log)
unfolding taken_from
parts_taken run talks log number [] [] [] [] are =
    let same : number ≡ number + 0 = omega arith in
    let here = ap (λ (n : ℕ). count (own_of n log)) same in
    omega (arith, here)
parts_taken run talks log number (by ∷ rules) (old ∷ doors) (new ∷ doors') (part ∷ parts) (one, are) =
    let own : count (own_of number log) ≡ count (calls_in (links_of part)) = ap count one.at_door.calls in
    let same : number + 1 + length parts ≡ number + length (part ∷ parts) = omega arith in
    let last = ap (λ (n : ℕ). count (own_of n log)) same in
    let rest = parts_taken run talks log (number + 1) rules doors doors' parts are in
    omega (arith, own, last, rest, sum_by-cons (λ (p : Part). count (calls_in (links_of p))) part parts)
parts_taken run talks log number rules doors doors' parts are = absurd are

as_many : (run : DividedRun) (talks : ℕ) (log : List Record) (number : ℕ) (rules : List Rules) (doors doors' : List DoorState) (parts : List Part) → EachPart (IsPart run talks log) number rules doors doors' parts → length parts ≡ length rules
as_many run talks log number [] [] [] [] are = refl
as_many run talks log number (by ∷ rules) (old ∷ doors) (new ∷ doors') (part ∷ parts) (one, are) = omega (arith, as_many run talks log (number + 1) rules doors doors' parts are)
as_many run talks log number rules doors doors' parts are = absurd are

took_none : (call : Call) → All (λ (entry : Entry). ⊥) (written_by call) → length (taken_by call) ≡ 0
took_none (takes [] (Ok receipt)) none = refl
took_none (takes (entry ∷ group) (Ok receipt)) none = absurd (All-head (λ (e : Entry). ⊥) entry group none)
took_none (takes group (Err fault)) none = refl
took_none call none = refl

none_taken : (calls : List Call) → AllWritten (λ (entry : Entry). ⊥) calls → count calls ≡ 0
none_taken [] none = refl
none_taken (call ∷ calls) none = omega (arith, count_cons call calls, took_none call none.0, none_taken calls none.1)

-- ---- what was added

added_count : (calls : List Call) (more : List Entry) → AddsAll calls more → (count calls ≤ length more) × (failures_of calls ≡ 0 → length more ≡ count calls)
added_count [] more adds = let none = ap (λ (l : List Entry). length l) adds in (omega (arith, none), λ quiet. none)
added_count (call ∷ calls) more (here, rest, added, others, is) =
    let all = ap (λ (l : List Entry). length l) is ∙ length-append here rest in
    let behind = added_count calls rest others in
    elim (step_of call here added) [
      | inl took ↦
          let first = ap (λ (l : List Entry). length l) took in
          (omega (arith, all, first, behind.0, count_cons call calls), λ quiet. omega (arith, all, first, behind.1 (omega (arith, quiet)), count_cons call calls))
      | inr (group, call_is, whole, some) ↦
          let none = ap (λ (c : Call). length (taken_by c)) call_is in
          let failed = ap failures_in call_is in
          (omega (arith, all, none, behind.0, count_cons call calls), λ quiet. absurd (omega (arith, failed, quiet)))
    ]

pub first_one : (s : SpoolState) (doubt : List SpoolState) → IsOneOf s doubt s
first_one s [] = refl
first_one s (stage ∷ stages) = inl refl

pub end_rises : (start : DeskState → Type 0) (run : DividedRun) (log : List Record) (given : Given) (left : Left) (parts : List Part) (workers' : List Known) (forwarder forwarder' : Known)
    (x y : DeskState) → AreParts run log given left parts → length workers' ≡ length given.rules → HaveRun start 0 workers'
    → forwarder.own ≡ [] → own_of forwarder'.number log ≡ forwarder'.own → Forwarded start given.destination workers' (forwarder_at forwarder given.net) (forwarder_at forwarder' left.net) left.last
    → All (λ (one : Record). HasNumber (workers' ++ forwarder' ∷ []) one.by) log → forwarder'.number ≡ length workers' → IsDesk x → x.doubt ≡ [] → Goes x log y
    → EndRises x y (failures_of (calls_of log)) (taken_over parts)
end_rises start run log given left parts workers' forwarder forwarder' x y are many run_all new stands forwarded each number rules_of sure goes =
    let same = as_many run given.talks log 0 given.rules given.doors left.doors parts are.each in
    let old_is = forwarder_at forwarder given.net in
    let new_is = forwarder_at forwarder' left.net in
    let below : All (λ (one : Record). one.by < suc (length parts)) log = λ k d lt. elim (which_pass start 0 workers' forwarder' _ run_all (each k d lt)) [
      | inl within ↦ omega (arith, within.1, many, same)
      | inr is ↦ omega (arith, is, number, many, same)
    ] in
    let own : count (own_of (0 + length parts) log) ≡ 0 =
    ap (λ (n : ℕ). count (own_of n log)) (let at : 0 + length parts ≡ forwarder'.number = omega (arith, number, many, same) in at)
    ∙ none_taken (own_of forwarder'.number log) (subst (AllWritten (λ (entry : Entry). ⊥)) (sym stands) (forwarder_written (λ (entry : Entry). ⊥) start given.destination workers' old_is new_is left.last new forwarded)) in
    let taken : count (calls_of log) ≡ taken_over parts = omega (arith, taken_from-all (suc (length parts)) log below, parts_taken run given.talks log 0 given.rules given.doors left.doors parts are.each, own) in
    let grows = goes_grows x y log y.spool rules_of goes (first_one y.spool y.doubt) in
    let mended : grows.mended ≡ x.spool = subst (λ (l : List SpoolState). IsOneOf x.spool l grows.mended) sure grows.one in
    let rose : end y.spool ≡ end x.spool + length grows.more = grown_end grows.mended y.spool grows.more grows.grown ∙ ap (λ (s : SpoolState). end s + length grows.more) mended in
    let more = added_count (calls_of log) grows.more grows.adds in
    record { least = omega (arith, rose, more.0, taken); exact = λ quiet. omega (arith, rose, more.1 quiet, taken) }
