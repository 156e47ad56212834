use Rattle.std.proofs.Common.{◌≡◌, take}
use Rattle.spool_answers.specs.Pend.{given_entries}
use Rattle.commands.proofs.Printing.{Gathered}
use Rattle.commands.proofs.lines.print_entries.Given as goal

abbrev pub invariant-loop-one : goal.invariant-loop-one
invariant-loop-one g l = record {
  writes : g.K.Sink.write_faults l.output ≡ g.K.Sink.write_faults l.initial.output;
  gathered : Gathered l.form (given_entries (take l.one-index l.entries)) (g.K.Sink.taken l.initial.output) (g.K.Sink.taken l.output) l.lines.items;
}
