use Rattle.std.proofs.Common.{◌+◌, take, sym, ◌∙◌, ap, arith, rules}
use Rattle.std.proofs.lemmas.List.{with_items_is, places}
use Rattle.foundation.specs.Bytes.{part}
use Rattle.spool_slots.proofs.Windows.{window_more}
use Rattle.spool_slots.proofs.window.Window.read_on.Goals as goal

pub returns-clause-window : goal.returns-clause-window
returns-clause-window g c = λ tells.
    let window = c.args.self.now in
    let reads = (g.D.Disk.moment c.args.disk.now).reads in
    let front = ap (take window.filled) c.deref_mut.ensures.value ∙ (c.requires.window tells).same in
    record {
      same = ap (take c.max-end.result) (with_items_is window.bytes c.read_between.new.bytes (search (rules, places)))
          ∙ window_more c.args.at window.from window.filled _ c.deref_mut.result.now _ reads front (omega arith) (c.in_ok-read_between.ensures.read tells)
          ∙ ap (part (c.args.at + window.from) _) (sym (c.read_between.ensures.told tells).same);
    }
