use Rattle.std.proofs.Common.{◌≡◌, ◌∙◌, List, length, take, ap, arith, length-take}
use Rattle.event_form.specs.declared.event.Entry.{Entry}
use Rattle.conn_serve.specs.Runs.{answers_of}
use Rattle.conn_serve.proofs.Answering.{answers_front, answers_inside}
use Rattle.conn_serve.proofs.relp.run.Run.answers.Goals as goal

pub slice_bounds-result-end : goal.slice_bounds-result-end
slice_bounds-result-end c =
    let run = c.self.inside in
    let len = c.answers_len-len.result in
    let size : len ≡ length (answers_of (take c.args.count run.staged.entries.items)) = c.answers_len-len.ensures ∙ ap (λ (l : List Entry). length (answers_of (take c.args.count l))) c.deref.ensures.value in
    rw c.deref-2.ensures.value (omega (arith, length-take len run.answers.items, answers_inside run.staged.entries.items run.answers.items c.args.count len c.self.invariant.spelled size))

pub returns : goal.returns
returns c =
    let run = c.self.inside in
    let len = c.answers_len-len.result in
    let size : len ≡ length (answers_of (take c.args.count run.staged.entries.items)) = c.answers_len-len.ensures ∙ ap (λ (l : List Entry). length (answers_of (take c.args.count l))) c.deref.ensures.value in
    ap (take len) c.deref-2.ensures.value ∙ answers_front run.staged.entries.items run.answers.items c.args.count len c.self.invariant.spelled size ∙ ap (λ (l : List Entry). answers_of (take c.args.count l)) c.self.view_is
