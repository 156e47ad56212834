use Rattle.std.proofs.Common.{◌≡◌, ◌++◌, ℕ, List, Option, take}
use Rattle.event_form.specs.declared.event.Entry.{Entry}
use Rattle.bridge_rescue.specs.Lines.{Gathered}
use Rattle.bridge_rescue.proofs.lines.add_entries.Given as goal

abbrev pub invariant-loop-entry : goal.invariant-loop-entry
invariant-loop-entry g l = record {
  writes : g.K.Sink.write_faults l.output ≡ g.K.Sink.write_faults l.initial.output;
  gathered : (before : List Entry) (start : Option (List ℕ)) → Gathered before start (g.K.Sink.taken l.initial.output) l.initial.lines.items
      → Gathered (before ++ take l.entry-index l.entries) start (g.K.Sink.taken l.output) l.lines.items;
}
