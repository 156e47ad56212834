-- What the forwarder has seen once it met the workers, and what it leaves.
use Rattle.std.proofs.Common.{◌≡◌, ℕ, ◌+◌, List, [], ◌∷◌, ◌++◌, length, length-append, refl, sym, ap, ◌∙◌, subst, arith, append_assoc}
use Rattle.std.specs.Prelude.{All, Option, None, Some}
use Rattle.std.proofs.lemmas.List.{append-nil}
use Rattle.std.proofs.lemmas.List.Elements.{All-nil, All-cons, All-head, All-tail}
use mathlib.Core.List.{IsPrefix}
use Rattle.desk_access.specs.Call.{Call, Record, own_of, calls_of}
use Rattle.desk_access.specs.Desk.{DeskState, Goes}
use Rattle.desk_access.specs.History.{IsDesk}
use Rattle.desk_access.specs.Journal.{own_then}
use Rattle.desk_access.proofs.Nexts.{all_right}
use Rattle.desk_seats.specs.Passes.{Known, Stands}
use Rattle.desk_seats.specs.Ran.{Ran}
use Rattle.spool_turns.specs.Replays.{HasNumber}
use Rattle.serve_forwarder.specs.declared.destination.Destination.{Destination}
use Rattle.serve_forwarder.specs.declared.looking.Outcome.{Outcome}
use Rattle.serve_forwarder.specs.Looks.{Forwarder, forwarder_at}
use Rattle.serve_forwarder.proofs.Chain.{look_is_ran, looks_are_ran}
use Rattle.serve_run.specs.Running.{HasForwarded, Forwarded}
use Rattle.serve_laws.specs.Leaves.{IsDone, HasNoneLeft}
use Rattle.serve_laws.proofs.Behind.{HaveRun, sees_own_by, only_last, all_own, no_length}
use Rattle.serve_laws.proofs.Leaving.{last_look_leaves}

-- Behind a journal that has all that the workers have seen none of their calls stands.
workers_silent : (start : DeskState → Type 0) (log seen rest : List Record) (number : ℕ) (passes : List Known) → HaveRun start number passes → All (Stands log) passes → All (λ (pass : Known). IsPrefix pass.seen seen) passes → seen ++ rest ≡ log
    → All (λ (pass : Known). own_of pass.number rest ≡ []) passes
workers_silent start log seen rest number [] run stands first parts = All-nil (λ (pass : Known). own_of pass.number rest ≡ [])
workers_silent start log seen rest number (pass ∷ passes) run stands first parts =
    All-cons (λ (p : Known). own_of p.number rest ≡ []) pass passes
    (sees_own_by start log seen rest run.0.0 pass run.0.1 run.0.3 run.0.4 (All-head (Stands log) pass passes stands) (All-head (λ (p : Known). IsPrefix p.seen seen) pass passes first) parts)
    (workers_silent start log seen rest (number + 1) passes run.1 (All-tail (Stands log) pass passes stands) (All-tail (λ (p : Known). IsPrefix p.seen seen) pass passes first) parts)

no_calls : (log : List Record) → calls_of log ≡ [] → log ≡ []
no_calls [] none = refl
no_calls (one ∷ log) none = absurd (cc none)

-- A pass that was new ran to one moment, met others, and ran on. Behind what it has seen then none of its calls stands.
none_more : (start : DeskState → Type 0) (log rest : List Record) (fresh beside met last : Known) (before calls : List Call) → fresh.own ≡ [] → Ran start fresh before beside → met.number ≡ beside.number → met.own ≡ beside.own → IsPrefix beside.seen met.seen
    → Ran start met calls last → own_of last.number log ≡ last.own → last.seen ++ rest ≡ log → own_of last.number rest ≡ []
none_more start log rest fresh beside met last before calls new first number own seen more all parts =
    let n = last.number in
    let count : List Record → ℕ = λ l. length (own_of n l) in
    let at_fresh : n ≡ fresh.number = more.number ∙ number ∙ first.number in
    let a : length last.own ≡ count last.seen + count rest = ap (λ (l : List Call). length l) (sym all) ∙ ap count (sym parts) ∙ ap (λ (l : List Call). length l) (own_then n last.seen rest) ∙ length-append (own_of n last.seen) (own_of n rest) in
    let b : length last.own ≡ length met.own + length calls = ap (λ (l : List Call). length l) more.own ∙ length-append met.own calls in
    let c : length met.own ≡ length before = ap (λ (l : List Call). length l) (own ∙ first.own ∙ ap (λ (l : List Call). l ++ before) new) in
    let e : count last.seen ≡ count met.seen + count more.between = ap count more.seen ∙ ap (λ (l : List Call). length l) (own_then n met.seen more.between) ∙ length-append (own_of n met.seen) (own_of n more.between) in
    let f : count more.between ≡ length calls = ap (λ (k : ℕ). length (own_of k more.between)) more.number ∙ ap (λ (l : List Call). length l) more.own_between in
    let g : count met.seen ≡ count beside.seen + count seen.0 = ap count (sym seen.1) ∙ ap (λ (l : List Call). length l) (own_then n beside.seen seen.0) ∙ length-append (own_of n beside.seen) (own_of n seen.0) in
    let h : count beside.seen ≡ count fresh.seen + count first.between = ap count first.seen ∙ ap (λ (l : List Call). length l) (own_then n fresh.seen first.between) ∙ length-append (own_of n fresh.seen) (own_of n first.between) in
    let i : count first.between ≡ length before = ap (λ (k : ℕ). length (own_of k first.between)) at_fresh ∙ ap (λ (l : List Call). length l) first.own_between in
    no_length (own_of n rest) (omega (arith, a, b, c, e, f, g, h, i))

-- the forwarder keeps its number
pub number_kept : (start : DeskState → Type 0) (destination : Option Destination) (workers : List Known) (old new : Forwarder) (last : Option Outcome) → Forwarded start destination workers old new last → new.pass.number ≡ old.pass.number
number_kept start None workers old new last f = f.0
number_kept start (Some destination) workers old new last (outcome, is, f) =
    (look_is_ran start destination f.look (forwarder_at f.met f.beside.net) new f.looked_last).number ∙ f.has_met.number
    ∙ (looks_are_ran start destination f.looks old f.beside f.looked).number

module _ (start : DeskState → Type 0) (log : List Record) (workers' : List Known) (old new : Forwarder)
    (run : HaveRun start 0 workers') (fresh : old.pass.own ≡ []) (stand : All (Stands log) workers') (stands : Stands log new.pass) (each : All (λ (one : Record). HasNumber (workers' ++ new.pass ∷ []) one.by) log) where
  -- all records after what the forwarder had seen when it had met the workers are its own
  pub behind_met : (destination : Destination) (outcome : Outcome) (f : HasForwarded start destination workers' old new outcome) (rest : List Record) → f.met.seen ++ rest ≡ log → All (λ (one : Record). one.by ≡ f.met.number) rest
  behind_met destination outcome f rest parts =
      let H : Record → Type 0 = λ one. HasNumber (workers' ++ new.pass ∷ []) one.by in
      let more = look_is_ran start destination f.look (forwarder_at f.met f.beside.net) new f.looked_last in
      subst (λ (n : ℕ). All (λ (one : Record). one.by ≡ n) rest) more.number
      (only_last workers' new.pass rest (all_right H f.met.seen rest (subst (All H) (sym parts) each)) (workers_silent start log f.met.seen rest 0 workers' run stand f.has_met.each parts))

  -- and the journal ends with the last that it has seen
  pub sees_all : (destination : Destination) (outcome : Outcome) (f : HasForwarded start destination workers' old new outcome) → new.pass.seen ≡ log
  sees_all destination outcome f =
      let more = look_is_ran start destination f.look (forwarder_at f.met f.beside.net) new f.looked_last in
      let first = looks_are_ran start destination f.looks old f.beside f.looked in
      let rest = stands.0.0 in
      let parts : new.pass.seen ++ rest ≡ log = stands.0.1 in
      let from_met : f.met.seen ++ (more.between ++ rest) ≡ log = sym (append_assoc f.met.seen more.between rest) ∙ ap (λ (l : List Record). l ++ rest) (sym more.seen) ∙ parts in
      let mine = all_right (λ (one : Record). one.by ≡ f.met.number) more.between rest (behind_met destination outcome f (more.between ++ rest) from_met) in
      let none = none_more start log rest old.pass f.beside.pass f.met new.pass _ _ fresh first f.has_met.number f.has_met.own f.has_met.seen more stands.1 parts in
      let gone : rest ≡ [] = no_calls rest (all_own f.met.number rest mine ∙ ap (λ (n : ℕ). own_of n rest) (sym more.number) ∙ none) in
      sym (append-nil new.pass.seen) ∙ ap (λ (l : List Record). new.pass.seen ++ l) (sym gone) ∙ parts

  pub forwarded_leaves : (x y : DeskState) → start x → IsDesk x → Goes x log y → (destination : Option Destination) (last : Option Outcome) → Forwarded start destination workers' old new last → IsDone last → HasNoneLeft y
  forwarded_leaves x y s rules goes None last f done = absurd (subst IsDone f.3 done)
  forwarded_leaves x y s rules goes (Some destination) last (outcome, is, f) done =
      last_look_leaves start destination x y log f.look (forwarder_at f.met f.beside.net) new s rules goes (sees_all destination outcome f) (behind_met destination outcome f) f.every f.looked_last
      (subst IsDone (is ∙ ap (λ (o : Outcome). Some o) f.last_is) done)
