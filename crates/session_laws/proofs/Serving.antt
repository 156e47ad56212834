-- The sessions of a run of the server.
use Rattle.std.proofs.Common.{◌≡◌, ℕ, ◌-◌, List, [], ◌∷◌, sym, ◌∙◌, ap, subst, arith}
use Rattle.std.proofs.lemmas.List.Elements.{All-head}
use Rattle.spool_desk.specs.Alone.{AloneView}
use Rattle.desk_access.specs.Call.{Record, own_of}
use Rattle.desk_access.specs.Desk.{DeskState}
use Rattle.desk_access.proofs.Nexts.{all_right}
use Rattle.desk_seats.specs.Passes.{Known, Stands}
use Rattle.serve_forwarder.specs.declared.destination.Destination.{Destination}
use Rattle.serve_forwarder.specs.declared.looking.Outcome.{Outcome}
use Rattle.serve_forwarder.specs.Looks.{Forwarder, forwarder_at}
use Rattle.serve_workers.proofs.Placing.{new_last}
use Rattle.serve_run.specs.Running.{HasForwarded}
use Rattle.serve_desk.specs.Serving.{Seating}
use Rattle.session_laws.specs.Beside.{MarksAlone}
use Rattle.session_laws.specs.Run.{SessionsOfRun}
use Rattle.session_laws.specs.Sessions.{HasLooked}
use Rattle.session_laws.proofs.Holding.{met_alone}
use Rattle.session_laws.proofs.Journal.{sessions_follow, steps_look, steps_looks}

abbrev pub has_looked : (start : DeskState → Type 0) (destination : Destination) (workers : List Known) (old new : Forwarder) (last : Outcome) (number : ℕ) (log : List Record) → (f : HasForwarded start destination workers old new last)
    → old.pass.own ≡ [] → old.pass.number ≡ number → Stands log new.pass → MarksAlone number log → HasLooked start destination f.looks f.look log
has_looked start destination workers old new last number log f fresh is stands alone =
    let first = steps_looks start destination f.looks old f.beside f.looked in
    let more = steps_look start destination f.look (forwarder_at f.met f.beside.net) new f.looked_last in
    let at : new.pass.number ≡ number = more.number ∙ f.has_met.number ∙ first.number ∙ is in
    record {
      old = old;
      beside = f.beside;
      met = f.met;
      new = new;
      fresh = fresh;
      looked = f.looked;
      same = (f.has_met.number, f.has_met.own);
      saw = f.has_met.seen;
      looked_last = f.looked_last;
      stands = stands.0;
      own = stands.1;
      alone = subst (λ (n : ℕ). MarksAlone n log) (sym at) alone;
    }

pub sessions_of_run : (tells : Type 0) (start : DeskState → Type 0) (seating : Seating) (new : AloneView) → SessionsOfRun tells start seating new
sessions_of_run tells start seating new given left destination r many x y t could goes stands =
    let f = r.forwarded.2 in
    let old = forwarder_at r.forwarder given.net in
    let over = forwarder_at r.forwarder' left.net in
    let behind = new_last 0 r.workers r.forwarder r.fresh in
    let confirming = seating.seats - 1 in
    let number : r.forwarder.number ≡ confirming = omega (arith, behind.0, r.count.0, many) in
    let alone = met_alone seating.run confirming [] r.log r.closes.met in
    let stand = All-head (Stands r.log) r.forwarder' [] (all_right (Stands r.log) r.workers' (r.forwarder' ∷ []) r.closes.pass) in
    let looked = has_looked start destination r.workers' old over r.forwarded.0 confirming r.log f behind.1 number stand alone in
    let all = sessions_follow start destination f.looks f.look x y r.log t looked could (r.closes.replays.begins x could).rules goes stands in
    let more = steps_look start destination f.look (forwarder_at f.met f.beside.net) over f.looked_last in
    let first = steps_looks start destination f.looks old f.beside f.looked in
    let at : r.forwarder'.number ≡ confirming = more.number ∙ f.has_met.number ∙ first.number ∙ number in
    (all.0, ap (λ (n : ℕ). own_of n r.log) (sym at) ∙ all.1, alone)
