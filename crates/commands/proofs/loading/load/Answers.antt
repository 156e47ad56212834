use Rattle.std.proofs.Common.{inl, inr, refl, ◌∙◌, ap}
use Rattle.conn_serve.proofs.Faults.{counts_none}
use Rattle.commands.specs.Loading.{note_of_load}
use Rattle.commands.proofs.loading.load.Goals as goal

pub returns-in-Ok : goal.returns-in-Ok
returns-in-Ok g c =
    let few = c.requires.few in record {
      writes = c.print_loaded.ensures.writes;
      told = inl (record {
        loaded = c.in-Ok.loaded;
        loaded_is = c.in-Ok.ensures.loaded;
        all = (c.load_comes_to_its_numbers.ensures c.args.proto c.args.number c.args.count few).0 c.in-Ok.loaded c.in-Ok.ensures.loaded;
        line = c.print_loaded.ensures.line;
      });
    }

pub returns-in-Err : goal.returns-in-Err
returns-in-Err g c =
    let few = c.requires.few in
    let memory = c.load_note.ensures ∙ ap note_of_load ((c.load_comes_to_its_numbers.ensures c.args.proto c.args.number c.args.count few).1 c.in-Err.fault c.in-Err.ensures.failed) in
    record {
      writes = counts_none _ _ _ (λ by. cc memory) refl;
      told = inr (record { memory = memory; silent = record { same = refl; taken = refl; faults = refl } });
    }
