use Rattle.std.proofs.Common.{ℕ, ◌+◌, ◌<◌, ◌≡◌, arith, subst}
use Rattle.conn_serve.specs.Serves.{CarriedBy}
use Rattle.conn_serve.specs.Says.{HasCarried}
use Rattle.desk_access.specs.Division.{each_of, first_conn}
use Rattle.serve_workers.proofs.Following.{serves_by, stops_by, works_none, works_may, works_more, works_ends, works_enough}
use Rattle.serve_workers.proofs.worker.serve_all.Goals as goal

pub loop-talk-init : goal.loop-talk-init
loop-talk-init g c = record {
  works = works_none g.S.Seat.start g.S.Seat.of_run c.args.rules.now (g.P.Door.told c.args.door.now) (g.S.Seat.knows c.args.seat.now);
  stays = λ k read text may. subst (λ (n : ℕ). g.P.Door.permits c.args.door.now n read text) (omega arith) may;
}

pub serve_next-requires : goal.serve_next-requires
serve_next-requires g c =
    let talk = c.loop-talk.talk in
    let number = (g.S.Seat.knows c.args.seat.now).number in
    let few : talk < each_of g.S.Seat.of_run.division = omega (arith, c.loop-talk-test.true, c.requires.talks) in
    let conn : c.args.first + c.from.result ≡ first_conn g.S.Seat.of_run number + talk = omega (arith, c.requires.first, c.from.ensures) in
    let same : talk ≡ talk + 0 = omega arith in
    record {
      may = g.met.S.Seat.may_begin c.loop-talk.seat (c.args.first + c.from.result) 0
          (works_may g.S.Seat.start g.S.Seat.of_run c.args.rules.now _ c.args.first c.from.result _ _ _ _ c.requires.first c.from.ensures c.loop-talk.invariant.works c.requires.ready (omega (arith, c.from.ensures, c.loop-talk-test.true, c.requires.talks)));
      says = λ bytes now calls text made is.
          let carried = subst (λ (n : ℕ). HasCarried (CarriedBy c.args.rules.now n) bytes calls text) conn is in
          let known = g.met.S.Seat.knows_calls c.loop-talk.seat now calls made in
          let may = c.requires.says talk (g.S.Seat.knows c.loop-talk.seat) (g.S.Seat.knows now) bytes calls text few known.0 known.1 carried in
          c.loop-talk.invariant.stays 0 bytes text (subst (λ (n : ℕ). g.P.Door.permits c.args.door.now n bytes text) same may);
    }

pub loop-talk-preserved : goal.loop-talk-preserved
loop-talk-preserved g c =
    let talk = c.loop-talk.talk in
    record {
      works = works_more g.S.Seat.start g.S.Seat.of_run c.args.rules.now _ c.args.first c.from.result _ _ _ _ c.requires.first c.from.ensures c.loop-talk.invariant.works _ _ (serves_by _ _ _ _ _ _ (λ calls made. (g.met.S.Seat.knows_calls c.loop-talk.seat c.serve_next.new.access calls made).0) c.in_default.ensures.serves);
      stays = λ k read text may.
          let then : talk + 1 + k ≡ talk + (k + 1) = omega arith in
          c.in_default.ensures.stays k read text (c.loop-talk.invariant.stays (k + 1) read text (subst (λ (n : ℕ). g.P.Door.permits c.args.door.now n read text) then may));
    }

pub returns-in-Err : goal.returns-in-Err
returns-in-Err g c = record { worked = works_ends g.S.Seat.start g.S.Seat.of_run c.args.rules.now _ c.args.first c.from.result _ _ _ _ c.requires.first c.from.ensures c.loop-talk.invariant.works c.args.talks _ _ _ (omega (arith, c.loop-talk-test.true)) (stops_by _ _ _ _ _ _ _ (λ calls made. (g.met.S.Seat.knows_calls c.loop-talk.seat c.serve_next.new.access calls made).0) c.in-Err.ensures.stops) }

pub returns : goal.returns
returns g c = record { worked = works_enough g.S.Seat.start g.S.Seat.of_run c.args.rules.now _ c.args.talks _ _ _ _ (omega (arith, c.loop-talk-test.false, c.loop-talk.auto.talk-end)) c.loop-talk.invariant.works }
