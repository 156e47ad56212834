use Rattle.spool_turns.proofs.turn.Turn.answer_last.Goals as goal

pub answer_group-requires-clause-made : goal.answer_group-requires-clause-made
answer_group-requires-clause-made g c =
    let s = c.store-answer.ensures in
    record { from = c.args.self.now.alone; twin_is = c.args.self.now.twin_is; standing = s.standing; made = s.made; only = s.only; same_ids = s.ids }

pub answer_group-requires-clause-seat : goal.answer_group-requires-clause-seat
answer_group-requires-clause-seat g c = c.args.self.now.twin_table

pub answer_group-requires-clause-numbers : goal.answer_group-requires-clause-numbers
answer_group-requires-clause-numbers g c = c.store-answer.ensures.numbers
