use Rattle.std.proofs.Common.{◌≡◌, map, length, sym, ap, ◌∙◌, arith, subst}
use Rattle.std.specs.Prelude.{All}
use Rattle.serve_workers.specs.Crews.{AreNew, IsReady, roster_as, returned_as}
use Rattle.serve_workers.specs.Answering.{MayAnswer}
use Rattle.serve_workers.proofs.Placing.{have_worked, all_ready, told_same, written_back}
use Rattle.serve_workers.proofs.hired.Hired.work.Goals as goal

pub work_all-requires-clause-ready : goal.work_all-requires-clause-ready
work_all-requires-clause-ready g c κs within =
    let new = subst (AreNew 0) (sym (ap (λ r. r.passes) c.self.view_is)) c.requires.new in
    subst (All (λ w. IsReady g.S.Seat.of_run w.number (g.S.Seat.knows w.seat))) (sym c.deref_mut.ensures.value) (all_ready g.S.Seat.of_run (λ w. w.number) (λ w. g.S.Seat.knows w.seat) 0 _ c.self.invariant.0 new)

pub work_all-requires-clause-says : goal.work_all-requires-clause-says
work_all-requires-clause-says g c κs within =
    let seat = g.S.Seat in
    subst (All (λ w. MayAnswer seat.is_real seat.start seat.of_run w.number (g.P.Door.permits w.door) w.rules)) (sym c.deref_mut.ensures.value) c.self.invariant.1

pub returns-clause-worked : goal.returns-clause-worked
returns-clause-worked g c =
    let told = g.P.Door.told in
    let value = c.deref_mut.ensures.value in
    let was = c.self.view_is in
    let left = c.dismissed.ensures in
    let xs = c.deref_mut.result.now in
    let ys = c.work_all.new.workers in
    let many : c.self.inside.workers.len ≡ length ys = omega (arith, c.work_all.auto.workers, c.deref_mut.ensures.len) in
    let back = written_back c.self.inside.workers.len ys _ many in
    let doors = ap (map (λ w. told w.door)) (sym back) ∙ told_same (λ w. w.door) told _ c.dismissed.result.doors.items (sym left.doors) in
    let passes = ap (map (λ w. g.S.Seat.knows w.seat)) (sym back) ∙ sym left.passes in
    let reports = ap (map (λ w. w.report)) (sym back) ∙ sym left.reports in
    have_worked (λ w. w.rules) (λ w. told w.door) (λ w. g.S.Seat.knows w.seat) (λ w. w.report) g.S.Seat.start g.S.Seat.of_run c.args.talks xs ys c.work_all.ensures.worked _ _
    (ap (λ l. roster_as (map (λ w. w.rules) l) (map (λ w. told w.door) l) (map (λ w. g.S.Seat.knows w.seat) l)) value ∙ was)
    (λ i. returned_as (doors i) (passes i) (reports i))
