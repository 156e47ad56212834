use Rattle.std.proofs.Common.{◌≡◌, ◌∙◌, List, length, take, ap}
use Rattle.event_form.specs.declared.event.Entry.{Entry}
use Rattle.conn_serve.specs.Runs.{answers_of}
use Rattle.conn_serve.proofs.Answering.{answers_inside, ready_drop}
use Rattle.conn_serve.proofs.relp.run.Run.drop_front.Goals as goal

pub cut_front-requires : goal.cut_front-requires
cut_front-requires c =
    let run = c.self.inside in
    let len = c.answers_len-len.result in
    let size : len ≡ length (answers_of (take c.args.count run.staged.entries.items)) = c.answers_len-len.ensures ∙ ap (λ (l : List Entry). length (answers_of (take c.args.count l))) c.deref.ensures.value in
    answers_inside run.staged.entries.items run.answers.items c.args.count len c.self.invariant.spelled size

pub invariant_of-self : goal.invariant_of-self
invariant_of-self c =
    let run = c.self.inside in
    let len = c.answers_len-len.result in
    let size : len ≡ length (answers_of (take c.args.count run.staged.entries.items)) = c.answers_len-len.ensures ∙ ap (λ (l : List Entry). length (answers_of (take c.args.count l))) c.deref.ensures.value in
    ready_drop run.staged.entries.items _ run.answers.items _ run.size c.args.count len c.self.invariant c.drop_entries.ensures c.cut_front.ensures size
