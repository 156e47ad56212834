-- What waits in front is taken.
use Rattle.std.proofs.Common.{List, ◌++◌, ◌∙◌, ap, sym, subst, append_assoc}
use Rattle.std.specs.Prelude.{option_to_list}
use Rattle.lumber_frame.specs.declared.frame.LumberFrame.{LumberFrame}
use Rattle.lumber_frame.specs.Reading.{ReadsTo}
use Rattle.lumber_frame.proofs.reader.LumberReader.take.Goals as goal

pub returns-clause-reads : goal.returns-clause-reads
returns-clause-reads c = λ fed taken r.
    let i = c.self.inside in
    let q = rw (← c.self.view_is) at r in
    subst (λ (fs : List LumberFrame). ReadsTo i.side fed fs i.at i.rest.items i.fault) (ap (λ (v : List LumberFrame). taken ++ v) c.pop_front.ensures.items ∙ sym (append_assoc taken (option_to_list c.pop_front.result) c.pop_front.new.self.items)) q
