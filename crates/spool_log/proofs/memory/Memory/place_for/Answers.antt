use Rattle.std.proofs.Common.{◌∙◌, arith}
use Rattle.spool_log.proofs.Numbers.{end_known, room_known}
use Rattle.spool_log.proofs.memory.Memory.place_for.Goals as goal

pub returns-then-entries-end-clause-answers : goal.returns-then-entries-end-clause-answers
returns-then-entries-end-clause-answers c = λ s knows sound.
    (omega (arith, c.group_need-need.ensures, c.if-need-most.false, knows.size), end_known s c.args.self.now.active sound knows.active, omega (arith, c.if-entries-end.true))

pub returns-in_default-clause-answers : goal.returns-in_default-clause-answers
returns-in_default-clause-answers c = λ s knows sound.
    let known = room_known s c.args.self.now.active knows.active in (
      omega (arith, c.group_need-need.ensures, c.if-need-most.false, knows.size),
      omega (arith, end_known s c.args.self.now.active sound knows.active, c.if-entries-end.false),
      c.group_need-need.ensures,
      c.room.ensures ∙ known,
      omega (arith, c.in_default.ensures.full, c.room.ensures),
      c.in_default.ensures.stages s c.args.entries.now knows sound c.group_need-need.ensures,
    )

pub returns-clause-answers : goal.returns-clause-answers
returns-clause-answers c = λ s knows sound.
    let stages = c.in-Some.ensures.stages s c.args.entries.now knows sound c.group_need-need.ensures in (
      record {
        small = omega (arith, c.group_need-need.ensures, c.if-need-most.false, knows.size);
        numbers = omega (arith, end_known s c.args.self.now.active sound knows.active, c.if-entries-end.false);
        place = stages.0;
      },
      stages.1,
      stages.2,
    )
