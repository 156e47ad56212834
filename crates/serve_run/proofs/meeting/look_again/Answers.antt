use Rattle.serve_run.proofs.meeting.look_again.Goals as goal

pub returns-clause-looked : goal.returns-clause-looked
returns-clause-looked g c =
    let once = c.look.ensures in (g.S.Seat.knows c.meet_all.new.seat, once.look, c.meet_all.ensures.met, once.is_look, once.offers, once.outcome_is)
