use Rattle.std.proofs.Common.{◌≡◌, ◌∙◌, List, take, ap}
use Rattle.event_form.specs.declared.event.Entry.{Entry}
use Rattle.conn_serve.specs.declared.connection.Connection.{Connection}
use Rattle.conn_serve.specs.Runs.{answers_of}
use Rattle.conn_serve.proofs.Acting.{err_then}
use Rattle.conn_serve.proofs.HecActing.{ok_any}
use Rattle.conn_serve.proofs.RelpActing.{front_unsaid, next_drop}
use Rattle.conn_serve.proofs.relp.store.store_front.Goals as goal

pub returns-in-Ok-clause-halts : goal.returns-in-Ok-clause-halts
returns-in-Ok-clause-halts g c =
    let entries = c.args.run.now in
    let many = c.in-Ok.count in
    let took = c.in-Ok.ensures.taken in
    let says : c.answers.result.now ≡ answers_of (take many entries) = c.answers.ensures ∙ ap (λ (l : List Entry). answers_of (take many l)) c.in-Ok.ensures.same in
    err_then c.say-said.result _ _ c.say-said.ensures.part (λ talk h. front_unsaid _ _ _ c.args.connection.now.taken c.take.new.connection.taken entries many took.0 took.1 took.2.0 c.answers.result.now h.1.0 talk took.2.1
    (ap (λ (x : Connection). x.taken) c.in-Ok.ensures.next) says h.0 h.1.1 h.1.2)

pub returns-in-Ok-clause-next : goal.returns-in-Ok-clause-next
returns-in-Ok-clause-next g c =
    let entries = c.args.run.now in
    let connection = c.args.connection.now in
    let many = c.in-Ok.count in
    ok_any c.say-said.result _
    (rw (c.drop_front.ensures, c.in-Ok.ensures.same, ap (λ (x : Connection). x.taken) c.in-Ok.ensures.next) (next_drop connection.number connection.taken entries many c.in-Ok.ensures.taken.1 c.requires.next))
