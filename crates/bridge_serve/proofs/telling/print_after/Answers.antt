use Rattle.bridge_parts.specs.Run.{output_run}
use Rattle.bridge_parts.proofs.Firsts.{wrote_after, fine_or_fault, note_of_both}
use Rattle.bridge_serve.proofs.Lines.{prints_last}
use Rattle.bridge_serve.proofs.telling.print_after.Goals as goal

pub returns-in_default : goal.returns-in_default
returns-in_default g c =
    let print = c.print_summary.result in
    let is = c.first_of.ensures in record {
      writes = wrote_after c.args.ended print c.first_of.result _ _ is (fine_or_fault print) c.print_summary.ensures.writes;
      note = note_of_both c.args.ended print c.first_of.result is c.print_summary.ensures.undisturbed;
      printed = prints_last c.args.ended _ c.first_of.result (output_run g.K.Sink.taken g.K.Sink.write_faults c.args.output.now c.print_summary.new.output) c.in_default.not-NoMemory (record { print = print; written = c.print_summary.ensures.line; note_is = is }) c.print_summary.ensures.writes;
    }
