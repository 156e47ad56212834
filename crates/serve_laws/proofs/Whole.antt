-- All that a run's journal added is of its links.
use Rattle.std.proofs.Common.{◌≡◌, ◌⊎◌, inl, inr, ℕ, ◌+◌, ◌<◌, ◌≤◌, ◌==◌, Bool, true, false, cond, List, [], ◌∷◌, ◌++◌, length, refl, sym, ap, ◌∙◌, subst, arith, eq-eqb}
use Rattle.std.specs.Prelude.{All, Option, None, Some, Ok, Err}
use Rattle.std.proofs.lemmas.Bool.{cases_lt}
use Rattle.std.proofs.lemmas.List.Elements.{All-nil, All-head, All-tail, Contains-append_left, Contains-append_right}
use Rattle.event_form.specs.declared.event.Entry.{Entry}
use Rattle.edge_io.specs.Door.{DoorState}
use Rattle.desk_access.specs.Division.{DividedRun}
use Rattle.desk_access.specs.Call.{Call, takes, pends, marks, Record, own_of, calls_of, taken_by}
use Rattle.desk_access.specs.Desk.{DeskState}
use Rattle.desk_access.specs.History.{AddsAll, written_by}
use Rattle.desk_access.proofs.Added.{AllWritten, written_all, groups_all}
use Rattle.desk_access.proofs.Taking.{all_of_conn}
use Rattle.conn_serve.specs.declared.rules.Rules.{Rules}
use Rattle.conn_serve.specs.Numbering.{IsOfConn, AreOfConn}
use Rattle.conn_serve.specs.Terms.{terms_of}
use Rattle.conn_serve.proofs.Indexing.{calls_are_of_conn}
use Rattle.forward_core.specs.Calls.{AreOfSession, next_after}
use Rattle.forward_core.specs.declared.outward.Outward.{Outward}
use Rattle.desk_seats.specs.Passes.{Known}
use Rattle.spool_turns.specs.Replays.{HasNumber}
use Rattle.serve_workers.specs.Served.{Served, AreServed, calls_in}
use Rattle.serve_forwarder.specs.declared.destination.Destination.{Destination}
use Rattle.serve_forwarder.specs.declared.looking.Outcome.{Outcome}
use Rattle.serve_forwarder.specs.Looks.{Forwarder, Idle, Unread, Undialed, Held, Found, Look, calls_at, calls_found, calls_of as calls_of_looks, forwarder_at, IsFound, IsLook, AreLooks}
use Rattle.serve_forwarder.proofs.Chain.{look_is_ran, looks_are_ran}
use Rattle.serve_run.specs.Running.{Forwarded, Given, Left}
use Rattle.serve_laws.specs.Parts.{AreParts, EachPart, IsPart, Part, links_of}
use Rattle.serve_laws.specs.Contributes.{IsOfLink, IsOfParts}
use Rattle.serve_laws.proofs.Contributing.{in_groups}
use Rattle.serve_laws.proofs.Behind.{HaveRun}

-- ---- what calls may have written

written_then : (P : Entry → Type 0) (calls more : List Call) → AllWritten P calls → AllWritten P more → AllWritten P (calls ++ more)
written_then P [] more a b = b
written_then P (call ∷ calls) more a b = (a.0, written_then P calls more a.1 b)

written_weaker : (P Q : Entry → Type 0) (calls : List Call) → ((entry : Entry) → P entry → Q entry) → AllWritten P calls → AllWritten Q calls
written_weaker P Q [] weaker a = tt
written_weaker P Q (call ∷ calls) weaker a = ((λ k d lt. weaker _ (a.0 k d lt)), written_weaker P Q calls weaker a.1)

-- by a connection's calls
call_written : (conn index : ℕ) (call : Call) → IsOfConn conn index call → All (λ (entry : Entry). entry.conn ≡ conn) (written_by call)
call_written conn index (takes group result) of = written_all (λ (entry : Entry). entry.conn ≡ conn) group result (all_of_conn conn index group of)
call_written conn index call of = All-nil (λ (entry : Entry). entry.conn ≡ conn)

conn_written : (conn index : ℕ) (calls : List Call) → AreOfConn conn index calls → AllWritten (λ (entry : Entry). entry.conn ≡ conn) calls
conn_written conn index [] of = tt
conn_written conn index (call ∷ calls) of = (call_written conn index call of.0, conn_written conn (index + length (taken_by call)) calls of.1)

links_written : (rules : Rules) (first : ℕ) (links : List Served) → AreServed rules first links → AllWritten (IsOfLink links) (calls_in links)
links_written rules first [] served = tt
links_written rules first (one ∷ links) served =
    written_then (IsOfLink (one ∷ links)) one.calls (calls_in links)
    (written_weaker (λ (entry : Entry). entry.conn ≡ one.conn) (IsOfLink (one ∷ links)) one.calls (λ entry same. (one, Contains-append_left (one ∷ []) links one (0, omega arith, refl), sym same))
    (conn_written one.conn 0 one.calls (calls_are_of_conn rules.proto (terms_of rules) one.conn one.left one.bytes one.calls one.text one.talk served.1)))
    (written_weaker (IsOfLink links) (IsOfLink (one ∷ links)) (calls_in links) (λ entry of. (of.0, Contains-append_right (one ∷ []) links of.0 of.1, of.2)) (links_written rules (first + 1) links served.2))

parts_written : (run : DividedRun) (talks : ℕ) (log : List Record) (number : ℕ) (rules : List Rules) (doors doors' : List DoorState) (parts : List Part) → EachPart (IsPart run talks log) number rules doors doors' parts
    → (n : ℕ) → number ≤ n → n < number + length rules → AllWritten (IsOfParts parts) (own_of n log)
parts_written run talks log number [] [] [] [] are n least most = absurd (omega (arith, least, most))
parts_written run talks log number (by ∷ rules) (old ∷ doors) (new ∷ doors') (part ∷ parts) (one, are) n least most = elim (cases_lt number n) [
  | inl later ↦
      written_weaker (IsOfParts parts) (IsOfParts (part ∷ parts)) (own_of n log) (λ entry of. inr of)
      (parts_written run talks log (number + 1) rules doors doors' parts are n (omega (arith, later)) (omega (arith, most)))
  | inr here ↦
      let same : number ≡ n = omega (arith, here, least) in
      subst (λ (k : ℕ). AllWritten (IsOfParts (part ∷ parts)) (own_of k log)) same
      (written_weaker (IsOfLink (links_of part)) (IsOfParts (part ∷ parts)) (own_of number log) (λ entry of. inl of)
      (subst (AllWritten (IsOfLink (links_of part))) (sym one.at_door.calls) (links_written by _ (links_of part) one.at_door.served)))
]
parts_written run talks log number rules doors doors' parts are n least most = absurd are

-- ---- a forwarder writes nothing

module _ (P : Entry → Type 0) where
  pub session_written : (end next : ℕ) (calls : List Call) → AreOfSession end next calls → AllWritten P calls
  session_written end next [] of = tt
  session_written end next (pends from most (Ok given) ∷ calls) of = (All-nil P, session_written end (next_after end next given) calls of.3)
  session_written end next (pends from most (Err fault) ∷ calls) of = (All-nil P, subst (AllWritten P) (sym of.3) tt)
  session_written end next (marks stretches (Ok done) ∷ calls) of = (All-nil P, session_written end next calls of)
  session_written end next (marks stretches (Err fault) ∷ calls) of = (All-nil P, subst (AllWritten P) (sym of) tt)
  session_written end next (call ∷ calls) of = absurd of

  module _ (start : DeskState → Type 0) where
    found_written : (outward : Outward) (look : Look) (found : Found) (a b : Known) → IsFound start outward look found a b → AllWritten P (calls_found found)
    found_written outward look Idle a b f = tt
    found_written outward look (Unread fault) a b f = tt
    found_written outward look (Undialed _) a b f = tt
    found_written outward look (Held one) a b f = session_written one.until one.start one.calls f.1.ended.session

    look_written : (destination : Destination) (look : Look) (old new : Forwarder) → IsLook start destination look old new → AllWritten P (calls_at look)
    look_written destination look old new l = (All-nil P, found_written destination.outward look look.found l.asked new.pass l.found)

    looks_written : (destination : Destination) (looks : List Look) (old new : Forwarder) → AreLooks start destination looks old new → AllWritten P (calls_of_looks looks)
    looks_written destination [] old new are = tt
    looks_written destination (look ∷ looks) old new (between, first, rest) =
        written_then P (calls_at look) (calls_of_looks looks) (look_written destination look old between first) (looks_written destination looks between new rest)

  pub forwarder_written : (start : DeskState → Type 0) (destination : Option Destination) (workers : List Known) (old new : Forwarder) (last : Option Outcome) → old.pass.own ≡ [] → Forwarded start destination workers old new last
      → AllWritten P new.pass.own
  forwarder_written start None workers old new last fresh f = subst (AllWritten P) (sym f.1) tt
  forwarder_written start (Some destination) workers old new last fresh (outcome, is, f) =
      let first = looks_are_ran start destination f.looks old f.beside f.looked in
      let more = look_is_ran start destination f.look (forwarder_at f.met f.beside.net) new f.looked_last in
      let own : new.pass.own ≡ calls_of_looks f.looks ++ calls_at f.look = more.own ∙ ap (λ (l : List Call). l ++ calls_at f.look) (f.has_met.own ∙ first.own ∙ ap (λ (l : List Call). l ++ calls_of_looks f.looks) fresh) in
      subst (AllWritten P) (sym own)
      (written_then P (calls_of_looks f.looks) (calls_at f.look) (looks_written start destination f.looks old f.beside f.looked)
      (look_written start destination f.look (forwarder_at f.met f.beside.net) new f.looked_last))

  -- ---- a journal

  rest_written : (number : ℕ) (one : Record) (log : List Record) → AllWritten P (own_of number (one ∷ log)) → AllWritten P (own_of number log)
  rest_written number one log a = by (one.by == number) a where
    by : (b : Bool) → AllWritten P (cond b (one.call ∷ own_of number log) (own_of number log)) → AllWritten P (own_of number log)
    by true a = a.1
    by false a = a

  -- where each record is of one of the passes, what their calls may have written is all
  journal_written : (passes : List Known) (log : List Record) → All (λ (one : Record). HasNumber passes one.by) log → ((n : ℕ) → HasNumber passes n → AllWritten P (own_of n log)) → AllWritten P (calls_of log)
  journal_written passes [] each own = tt
  journal_written passes (one ∷ log) each own =
      let here = subst (λ (b : Bool). AllWritten P (cond b (one.call ∷ own_of one.by log) (own_of one.by log))) (eq-eqb one.by one.by refl)
      (own one.by (All-head (λ (r : Record). HasNumber passes r.by) one log each)) in
      (here.0, journal_written passes log (All-tail (λ (r : Record). HasNumber passes r.by) one log each) (λ n has. rest_written n one log (own n has)))

-- the number of a worker's pass, or that of the last
pub which_pass : (start : DeskState → Type 0) (number : ℕ) (passes : List Known) (last : Known) (n : ℕ) → HaveRun start number passes → HasNumber (passes ++ last ∷ []) n → ((number ≤ n) × (n < number + length passes)) ⊎ (last.number ≡ n)
which_pass start number [] last n run (inl is) = inr is
which_pass start number [] last n run (inr never) = absurd never
which_pass start number (pass ∷ passes) last n run (inl is) = inl (omega (arith, is, run.0.4.number, run.0.2), omega (arith, is, run.0.4.number, run.0.2))
which_pass start number (pass ∷ passes) last n run (inr has) = elim (which_pass start (number + 1) passes last n run.1 has) [
  | inl within ↦ inl (omega (arith, within.0), omega (arith, within.1))
  | inr is ↦ inr is
]

pub all_of_parts : (start : DeskState → Type 0) (run : DividedRun) (log : List Record) (given : Given) (left : Left) (parts : List Part) (workers' : List Known) (forwarder forwarder' : Known)
    (added : List Entry) → AreParts run log given left parts → length workers' ≡ length given.rules → HaveRun start 0 workers'
    → forwarder.own ≡ [] → own_of forwarder'.number log ≡ forwarder'.own → Forwarded start given.destination workers' (forwarder_at forwarder given.net) (forwarder_at forwarder' left.net) left.last
    → All (λ (one : Record). HasNumber (workers' ++ forwarder' ∷ []) one.by) log → AddsAll (calls_of log) added → All (IsOfParts parts) added
all_of_parts start run log given left parts workers' forwarder forwarder' added are many run_all new stands forwarded each adds =
    let P = IsOfParts parts in
    let g = in_groups (calls_of log) added adds in
    let old_is = forwarder_at forwarder given.net in
    let new_is = forwarder_at forwarder' left.net in
    let written = journal_written P (workers' ++ forwarder' ∷ []) log each (λ n has. elim (which_pass start 0 workers' forwarder' n run_all has) [
      | inl within ↦ parts_written run given.talks log 0 given.rules given.doors left.doors parts are.each n within.0 (omega (arith, within.1, many))
      | inr is ↦
          subst (λ (k : ℕ). AllWritten P (own_of k log)) is
          (subst (AllWritten P) (sym stands) (forwarder_written P start given.destination workers' old_is new_is left.last new forwarded))
    ]) in
    subst (All P) (sym g.2) (groups_all P (calls_of log) g.0 g.1 written)
