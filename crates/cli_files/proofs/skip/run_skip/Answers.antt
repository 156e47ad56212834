use Rattle.std.proofs.Common.{inl, inr, refl}
use Rattle.cli_files.proofs.skip.run_skip.Goals as goal

pub skip_over-note-requires-clause-earned : goal.skip_over-note-requires-clause-earned
skip_over-note-requires-clause-earned g c = c.requires.earned c.in-Ok.disk

pub returns-in-Ok-clause-done : goal.returns-in-Ok-clause-done
returns-in-Ok-clause-done g c = inr (c.in-Ok.disk, c.skip_over-note.result.disk, c.in-Ok.ensures, c.skip_over-note.ensures.run)

pub returns-in-Err-clause-done : goal.returns-in-Err-clause-done
returns-in-Err-clause-done g c = inl (c.refuse.ensures.note, refl)
