use Rattle.spool_move.proofs.walking.pages.give_up_first.Goals as goal

pub returns-in-Err-clause-told : goal.returns-in-Err-clause-told
returns-in-Err-clause-told g c = λ target said. c.in-Err.ensures.told target
