use Rattle.std.proofs.Common.{inl, inr, refl}
use Rattle.cli_files.proofs.pair.run_move.Goals as goal

-- the words move entries
pub returns-in-Ok-clause-known : goal.returns-in-Ok-clause-known
returns-in-Ok-clause-known g c =
    let run = c.move_over-note.ensures.run.6 in
    let moves = c.requires.moves in
    elim run.known [ inl usage ↦ absurd (run.usage usage moves.0 moves.1 moves.2) | inr known ↦ known ]

pub returns-in-Ok-clause-done : goal.returns-in-Ok-clause-done
returns-in-Ok-clause-done g c =
    let done = c.move_over-note in
    inr (c.in-Ok.source, c.in-Ok.target, done.result.source, done.result.target, c.in-Ok.ensures.0, c.in-Ok.ensures.1, done.ensures.run)

pub returns-in-Err-clause-done : goal.returns-in-Err-clause-done
returns-in-Err-clause-done g c = inl (c.refuse_pair.ensures, refl)
