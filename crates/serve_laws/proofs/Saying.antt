-- What a text acknowledges at the moment at which it is written.
use Rattle.std.proofs.Common.{◌≡◌, ℕ, ◌-◌, List, [], ◌++◌, sym, ◌∙◌, ap, subst}
use Rattle.std.specs.Prelude.{All}
use Rattle.std.proofs.lemmas.List.{append-nil}
use Rattle.event_form.specs.declared.event.Entry.{Entry}
use Rattle.spool_desk.specs.Alone.{AloneView}
use Rattle.desk_access.specs.Division.{DividedRun, divided}
use Rattle.desk_access.specs.Call.{Call, Record, own_of, calls_of}
use Rattle.desk_access.specs.Desk.{DeskState}
use Rattle.desk_access.specs.Legal.{AddsGroups, IsLegal, Met}
use Rattle.conn_serve.specs.Says.{PromisesNothing}
use Rattle.conn_serve.specs.declared.rules.Rules.{Rules}
use Rattle.spool_turns.specs.Passes.{Beginning}
use Rattle.spool_turns.specs.Replays.{Replays}
use Rattle.spool_turns.proofs.Closing.{adds_legal, keeps}
use Rattle.serve_workers.specs.Served.{Served, IsServed}
use Rattle.serve_laws.specs.Durable.{IsLinkDurable}
use Rattle.serve_laws.proofs.Durable.{link_durable}

-- A journal that led to the desk as it stands has the calls made for this link, all but those that promise nothing: all that the link's
-- text acknowledges is durable then.
pub says_durable : (tells : Type 0) (start : DeskState → Type 0) (run : DividedRun) (seats : ℕ) (began : Beginning) (log : List Record) (v : AloneView)
    → Replays tells start run began log v → Met run (seats - 1) [] log → (x : DeskState) → start x
    → (number : ℕ) (earlier made late : List Call) (by : Rules) (one : Served) → IsServed by one
    → own_of number log ≡ earlier ++ made → one.calls ≡ made ++ late → All PromisesNothing late → IsLinkDurable log number v.spool.moment by one
says_durable tells start run seats began log v h m x s number earlier made late by one served own are nothing =
    let b = h.begins x s in
    let p = h.leads x s in
    let of_run = sym b.of_run in
    link_durable x p.after run.division (seats - 1) log b.rules b.none_held p.goes (subst (λ (r : ℕ). Met (divided run.division r) (seats - 1) [] log) of_run m)
    (subst (λ (r : ℕ). (groups : List (List Entry)) → AddsGroups (calls_of log) groups → IsLegal r groups) of_run
    (adds_legal tells start run (seats - 1) began log v h m x s)) v.spool.moment
    (λ c image. let k = keeps tells start run (seats - 1) began log v h m x s c image in (k.state, k.stands, k.kept))
    number earlier made late [] by one served (own ∙ ap (λ (l : List Call). earlier ++ l) (sym (append-nil made))) are nothing
