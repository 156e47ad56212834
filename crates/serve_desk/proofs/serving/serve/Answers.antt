use Rattle.std.proofs.Common.{◌≡◌, List, [], ◌∷◌, ◌++◌, length, map, map-id, ap, sym, ◌∙◌, subst, arith}
use Rattle.desk_access.specs.Call.{Record}
use Rattle.desk_seats.specs.Passes.{Known}
use Rattle.spool_turns.specs.Replays.{Closes, desk_at}
use Rattle.serve_workers.specs.Crews.{AreNew}
use Rattle.serve_desk.proofs.Leaving.{no_record}
use Rattle.serve_desk.proofs.serving.serve.Goals as goal

-- the passes that were given, once the last one is taken off
given_passes : (all front : List Known) (last : Known) → all ≡ front ++ last ∷ [] → all ≡ map (λ (p : Known). p) front ++ last ∷ []
given_passes all front last is = is ∙ ap (λ (l : List Known). l ++ last ∷ []) (sym (map-id front))

pub run_at-requires-clause-new : goal.run_at-requires-clause-new
run_at-requires-clause-new g c κs within = subst (AreNew 0) (given_passes c.args.opened.passes.items c.pop.new.self.items c.in-Some.pass c.in-Some.ensures.items) c.requires.new

pub returns-in-Ok-clause-served : goal.returns-in-Ok-clause-served
returns-in-Ok-clause-served g c =
    let ran = c.in-Ok.ensures.ran in
    let closed = c.close.ensures in
    let given = given_passes c.args.opened.passes.items c.pop.new.self.items c.in-Some.pass c.in-Some.ensures.items in
    let left = sym (map-id c.in-Ok.field-0.passes.items) ∙ ran.after in
    record {
      log = closed.0;
      workers = ran.workers;
      workers' = ran.workers';
      forwarder = ran.forwarder;
      forwarder' = ran.forwarder';
      fresh = subst (AreNew 0) (given ∙ ran.before) c.requires.new;
      count = ran.count;
      closes = subst (λ (l : List Known). Closes g.D.Disk.tells g.J.Naming.start g.J.Naming.run g.J.Naming.seats g.J.Naming.began closed.0 l (desk_at c.close.result)) left closed.1;
      worked = ran.worked;
      forwarded = ran.forwarded;
    }

pub returns-clause-err : goal.returns-clause-err
returns-clause-err g c =
    let err = c.in-Err.ensures.err in
    let closed = c.close-in-Err.ensures in
    let passes = c.in-Err.field-0.passes.items in
    let given = given_passes c.args.opened.passes.items c.pop.new.self.items c.in-Some.pass c.in-Some.ensures.items in
    let same : c.args.opened.passes.items ≡ passes = given ∙ sym err.1 ∙ map-id passes in
    let new = subst (AreNew 0) same c.requires.new in
    let many : length passes ≡ g.J.Naming.seats = omega (arith, ap length same, c.args.opened.passes.ok.0, c.requires.many.0, c.requires.many.2) in
    let none = no_record g.J.Naming.seats passes closed.0 new many closed.1.pass closed.1.by_passes in
    (err.0, err.2, (passes, subst (λ (l : List Record). Closes g.D.Disk.tells g.J.Naming.start g.J.Naming.run g.J.Naming.seats g.J.Naming.began l passes (desk_at c.close-in-Err.result)) none closed.1))
