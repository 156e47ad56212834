use Rattle.std.proofs.Common.{◌≤◌, inl, inr, sym, arith}
use Rattle.std.proofs.lemmas.Bool.{false≢true}
use Rattle.std.proofs.Common.{◌∙◌}
use Rattle.spool_state.specs.Segment.{need_of}
use Rattle.spool_state.specs.SpoolState.{room}
use Rattle.spool_state.proofs.Frees.{closed_free, found_closed}
use Rattle.spool_log.proofs.Numbers.{room_known}
use Rattle.spool_log.proofs.Changes.Adding.{confirmed_stages, no_place}
use Rattle.spool_answers.proofs.Adding.{adding_here, adding_closed}
use Rattle.spool_log.proofs.memory.Memory.target.Goals as goal

pub returns-then-need-room-clause-stages : goal.returns-then-need-room-clause-stages
returns-then-need-room-clause-stages c = λ s group knows sound is.
    let fits : need_of group ≤ room s = omega (arith, room_known s c.args.self.now.active knows.active, c.if-need-room.true, c.room.ensures, is) in
    (inl fits, adding_here s group fits, tt)

pub returns-in-Some-clause-stages : goal.returns-in-Some-clause-stages
returns-in-Some-clause-stages c = λ s group knows sound is.
    let lowest = sym (c.in-Some.ensures.lowest s knows sound) in (
      inr (c.in-Some.place, closed_free s c.in-Some.place lowest),
      adding_closed s group c.in-Some.place (omega (arith, room_known s c.args.self.now.active knows.active, c.if-need-room.false, c.room.ensures, is)) lowest,
      found_closed s c.in-Some.place lowest,
    )

pub returns-then-starts_confirmed-clause-stages : goal.returns-then-starts_confirmed-clause-stages
returns-then-starts_confirmed-clause-stages c = λ s group knows sound is.
    let lowest = sym (c.in_default.ensures.lowest s knows sound) in
    let first = confirmed_stages s c.args.self.now group knows (c.starts_confirmed.ensures.0 c.if-starts_confirmed.true) (omega (arith, room_known s c.args.self.now.active knows.active, c.if-need-room.false, c.room.ensures, is)) lowest in
    (first.0, first.1, tt)

pub returns-clause-stages : goal.returns-clause-stages
returns-clause-stages c = λ s group knows sound is.
    no_place s c.args.self.now knows sound (λ starts. false≢true (sym c.if-starts_confirmed.false ∙ c.starts_confirmed.ensures.1 starts)) (sym (c.in_default.ensures.lowest s knows sound))
