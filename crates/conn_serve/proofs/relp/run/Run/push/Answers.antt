use Rattle.std.proofs.Common.{◌+◌, length, refl}
use Rattle.event_form.specs.declared.event.Origin.TheVariants.{Relp}
use Rattle.conn_serve.specs.Relp.{entry_of}
use Rattle.conn_serve.proofs.Answering.{ready_push}
use Rattle.conn_serve.proofs.relp.run.Run.push.Goals as goal

pub invariant_of-self : goal.invariant_of-self
invariant_of-self c =
    let was = c.self.inside in
    let now = c.stage.new in
    let done = c.stage.ensures in
    let connection = c.args.connection.now in
    let text = c.args.text.now in
    rw c.saturating_add-self-inside.ensures (ready_push was.staged.entries.items now.staged.entries.items was.answers.items now.answers.items was.size (length text)
    (entry_of connection.number (connection.taken + length was.staged.entries.items) c.args.txnr (record { origin = Relp; text = text }))
    c.self.invariant done.limits (done.entries c.if-stage.true) (done.answers c.if-stage.true) refl c.requires.event.short (rw c.self.view_is c.requires.short))
