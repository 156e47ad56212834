use Rattle.std.proofs.Common.{refl}
use Rattle.spool_desk.specs.Alone.{alone_at}
use Rattle.load_run.specs.Runs.{LeadsTo}
use Rattle.load_run.proofs.Asked.{begun}
use Rattle.load_run.proofs.Counted.{never_rose, some_rose}
use Rattle.load_run.proofs.Led.{leads_to, none_failed}
use Rattle.load_run.proofs.Sessions.{drains_of}
use Rattle.load_run.proofs.Unfailing.{sent_unfailing}
use Rattle.load_run.proofs.draining.drain.Goals as goal

pub forward-sent-requires-clause-free : goal.forward-sent-requires-clause-free
forward-sent-requires-clause-free c = λ link text. tt

pub forward-sent-requires-clause-earned : goal.forward-sent-requires-clause-earned
forward-sent-requires-clause-earned c = λ start until begun now link bytes calls text n asked ran some same gave took acknowledged. tt

pub returns-clause-drains : goal.returns-clause-drains
returns-clause-drains c =
    λ x at. let told = c.forward-sent.ensures.forwards in
    let first = begun alone_at (Unit {0}) x c.args.access.now told.2 told.0 told.1 tt at told.3 in
    drains_of (λ calls. LeadsTo x calls (alone_at c.forward-sent.new.access)) _ c.outward.result c.args.proto _ _ _ _ _ _ told.0 told.1 _ _ c.forward-sent.result c.args.peer.items
    c.outward.ensures.proto c.outward.ensures.settings c.of.ensures.left first.start_is first.until_is
    (λ calls made. leads_to x _ _ calls refl refl first.at made) told.4

pub returns-clause-read : goal.returns-clause-read
returns-clause-read c = λ is. never_rose (c.forward-sent.ensures.reads.cause is)

pub returns-clause-disk : goal.returns-clause-disk
returns-clause-disk c =
    let run = c.forward-sent.ensures.forwards.4 in
    sent_unfailing _ run.calls run.ended.refused (none_failed _ _ _ run.calls refl refl run.made)

pub returns-clause-starved : goal.returns-clause-starved
returns-clause-starved c = λ is. c.is_starved.ensures.1 (some_rose _ _ (c.forward-sent.ensures.writes.cause is))
