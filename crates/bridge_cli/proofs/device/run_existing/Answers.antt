use Rattle.std.proofs.Common.{inl, inr, refl}
use Rattle.cli_files.specs.declared.files.How.TheVariants.{Existing}
use Rattle.bridge_cli.proofs.Noting.{noted, no_memory, unopened}
use Rattle.bridge_cli.proofs.device.run_existing.Goals as goal

pub run_over-note-requires-clause-serves : goal.run_over-note-requires-clause-serves
run_over-note-requires-clause-serves g c κs within = c.in-Ok.ensures.serves.1

pub returns-in-Ok-open-clause-noted : goal.returns-in-Ok-open-clause-noted
returns-in-Ok-open-clause-noted g c = noted _ _ _ c.run_over-note.ensures.run.4.0

pub returns-in-Ok-open-clause-done : goal.returns-in-Ok-open-clause-done
returns-in-Ok-open-clause-done g c = inr (record {
  how = Existing c.in-Ok.opening.sharing;
  wanted = (c.requires.need, c.in-Ok.ensures.shared);
  disk = c.in-Ok-open.disk;
  opened = c.in-Ok-open.ensures;
  ended = c.run_over-note.result;
  note_is = refl;
  kept = c.run_over-note.ensures.run;
})

pub returns-in-Err-clause-noted : goal.returns-in-Err-clause-noted
returns-in-Err-clause-noted g c = unopened _ _ _ _ (λ is. cc) (λ target tag is. cc) c.requires.need c.refuse.ensures.note

pub returns-in-Err-clause-done : goal.returns-in-Err-clause-done
returns-in-Err-clause-done g c = inl (c.refuse.ensures.note, (refl, refl, refl))

-- no memory was found for reading the words
pub returns-in_default-clause-noted : goal.returns-in_default-clause-noted
returns-in_default-clause-noted g c = no_memory _ _

pub returns-in_default-clause-done : goal.returns-in_default-clause-done
returns-in_default-clause-done g c = inl (inr refl, (refl, refl, refl))
