use Rattle.std.proofs.Common.{inl, inr, refl}
use Rattle.bridge_core.proofs.OneCommand.{serves_existing}
use Rattle.cli_files.specs.declared.files.How.TheVariants.{Made}
use Rattle.bridge_cli.proofs.Noting.{noted, unopened}
use Rattle.bridge_cli.proofs.device.run_made.Goals as goal

-- words that want a new device serve nobody
pub run_once-note-requires-clause-once : goal.run_once-note-requires-clause-once
run_once-note-requires-clause-once g c serves = let existing = serves_existing _ _ c.requires.need serves in cc

pub returns-in-Ok-clause-noted : goal.returns-in-Ok-clause-noted
returns-in-Ok-clause-noted g c = noted _ _ _ c.run_once-note.ensures.run.4.0

pub returns-in-Ok-clause-done : goal.returns-in-Ok-clause-done
returns-in-Ok-clause-done g c = inr (record {
  how = Made c.args.len;
  wanted = c.requires.need;
  disk = c.in-Ok.disk;
  opened = c.in-Ok.ensures;
  ended = c.run_once-note.result;
  note_is = refl;
  kept = c.run_once-note.ensures.run;
})

pub returns-in-Err-clause-noted : goal.returns-in-Err-clause-noted
returns-in-Err-clause-noted g c = unopened _ _ _ _ (λ is. cc) (λ target tag is. cc) c.requires.need c.refuse.ensures.note

pub returns-in-Err-clause-done : goal.returns-in-Err-clause-done
returns-in-Err-clause-done g c = inl (c.refuse.ensures.note, (refl, refl, refl))
