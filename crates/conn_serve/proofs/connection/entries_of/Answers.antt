use Rattle.std.proofs.Common.{rules, ◌≡◌, ◌+◌, ◌^◌, ◌<◌, length, sym, subst, arith, map-id}
use Rattle.std.specs.List.{All}
use Rattle.std.proofs.lemmas.Iterator.Consumers.{YieldsList-end}
use Rattle.std.proofs.lemmas.Iterator.Adapters.{YieldsList-from_vec}
use Rattle.event_form.specs.Entry.{IsEntry}
use Rattle.conn_serve.specs.Hec.{entries_of}
use Rattle.conn_serve.proofs.HecEntries.{entries_limits, entries_more}
use Rattle.conn_serve.proofs.connection.entries_of.Goals as goal

pub loop-event-preserved : goal.loop-event-preserved
loop-event-preserved c =
    let connection = c.args.connection.now in
    let l = c.loop-event in
    let long : c.len-in-loop-event.result ≡ length l.entries.items = search rules in
    let place : connection.taken + c.len-in-loop-event.result ≡ connection.taken + length l.entries.items = omega arith in
    entries_more connection.number connection.taken c.args.unit l.yielded c.in-Some.event l.entries.items c.push.new.self.items (connection.taken + c.len-in-loop-event.result) l.invariant place c.in_ok-push.ensures.items

pub returns-clause-entries : goal.returns-clause-entries
returns-clause-entries c =
    let end = YieldsList-end (YieldsList-from_vec {s = c.into_iter-event-iterator.result} c.args.events.items (search rules) (search rules))
    c.loop-event.yielded c.loop-event.event-iterator c.loop-event.yielded_by c.next.result c.next.new.self c.in-None.is c.next.ensures.steps in
    rw (← end.0, map-id) c.loop-event.invariant

pub returns-clause-limits : goal.returns-clause-limits
returns-clause-limits c =
    let end = YieldsList-end (YieldsList-from_vec {s = c.into_iter-event-iterator.result} c.args.events.items (search rules) (search rules))
    c.loop-event.yielded c.loop-event.event-iterator c.loop-event.yielded_by c.next.result c.next.new.self c.in-None.is c.next.ensures.steps in
    let connection = c.args.connection.now in
    let is : c.loop-event.entries.items ≡ entries_of connection.number connection.taken c.args.unit c.args.events.items = rw (← end.0, map-id) c.loop-event.invariant in
    let conn : connection.number < 2 ^ 64 = search rules in
    let unit : c.args.unit < 2 ^ 64 = search rules in
    subst (All IsEntry) (sym is) (entries_limits connection.number connection.taken c.args.unit c.args.events.items conn unit (omega (arith, c.requires.early)) c.requires.each)
