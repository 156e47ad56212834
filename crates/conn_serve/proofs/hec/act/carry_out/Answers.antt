use Rattle.std.proofs.Common.{refl}
use Rattle.conn_serve.proofs.HecActing.{ok_any}
use Rattle.conn_serve.proofs.hec.act.carry_out.Goals as goal

pub store_then_say-requires : goal.store_then_say-requires
store_then_say-requires g c = record { within = rw c.in-StoreThenSay.is at c.requires.sound; early = c.requires.early; may = c.requires.may; says = rw c.in-StoreThenSay.is at c.requires.says }

pub returns-in-StoreThenSay : goal.returns-in-StoreThenSay
returns-in-StoreThenSay g c =
    let call = c.store_then_say.ensures in
    record { goes = rw c.in-StoreThenSay.is call.goes; halts = rw c.in-StoreThenSay.is call.halts; only = call.only; number = call.number; may = call.may; writes = call.writes; same = call.same; apart = call.apart }

pub say_then_store-requires : goal.say_then_store-requires
say_then_store-requires g c = record { within = rw c.in-SayThenStore.is at c.requires.sound; early = c.requires.early; may = c.requires.may; says = rw c.in-SayThenStore.is at c.requires.says }

pub returns-in-SayThenStore : goal.returns-in-SayThenStore
returns-in-SayThenStore g c =
    let call = c.say_then_store.ensures in
    record { goes = rw c.in-SayThenStore.is call.goes; halts = rw c.in-SayThenStore.is call.halts; only = call.only; number = call.number; may = call.may; writes = call.writes; same = call.same; apart = call.apart }

pub answer-requires : goal.answer-requires
answer-requires g c = record { asked = rw c.in-Ask.is at c.requires.sound; may = c.requires.may; says = rw c.in-Ask.is at c.requires.says }

pub returns-in-Ask : goal.returns-in-Ask
returns-in-Ask g c =
    let call = c.answer.ensures in
    record { goes = rw c.in-Ask.is call.goes; halts = rw c.in-Ask.is call.halts; only = call.only; number = refl; may = call.may; writes = call.writes; same = call.same; apart = call.apart }

pub returns-in-Say : goal.returns-in-Say
returns-in-Say g c =
    let call = c.say_code.ensures in
    record { goes = rw c.in-Say.is call.goes; halts = rw c.in-Say.is call.halts; only = call.only; number = refl; may = ok_any c.say_code.result _ c.requires.may; writes = call.writes; same = call.same; apart = call.apart }

pub say_code-requires-clause-says : goal.say_code-requires-clause-says
say_code-requires-clause-says g c = rw c.in-Say.is at c.requires.says
