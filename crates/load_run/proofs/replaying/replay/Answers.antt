use Rattle.std.proofs.Common.{refl, ◌^◌}
use Rattle.spool_desk.specs.Alone.{alone_at}
use Rattle.load_run.specs.Runs.{LeadsTo}
use Rattle.load_run.proofs.Counted.{never_rose, some_rose}
use Rattle.load_run.proofs.Led.{leads_to, none_failed}
use Rattle.load_run.proofs.Sessions.{replays_of}
use Rattle.load_run.proofs.Unfailing.{talk_unfailing}
use Rattle.load_run.proofs.replaying.replay.Goals as goal

pub attend-attended-requires-clause-says : goal.attend-attended-requires-clause-says
attend-attended-requires-clause-says c = λ read bytes same given now calls text made goes. tt

pub returns-clause-replays : goal.returns-clause-replays
returns-clause-replays c =
    λ x at. replays_of (λ calls. LeadsTo x calls (alone_at c.attend-attended.new.access)) _ c.rules.result c.args.proto _ _ _ _ _ _ c.attend-attended.result c.args.stream.items c.taken.result.now _
    c.rules.ensures.proto c.rules.ensures.terms c.of.ensures.left c.of-2.ensures.taken c.taken.ensures refl
    (λ calls made. leads_to x _ _ calls refl refl at made) c.attend-attended.ensures.carried

pub returns-clause-read : goal.returns-clause-read
returns-clause-read c = λ is. never_rose (c.attend-attended.ensures.reads.cause is)

pub returns-clause-disk : goal.returns-clause-disk
returns-clause-disk c =
    let run = c.attend-attended.ensures.carried in
    talk_unfailing _ _ (2 ^ 32) _ run.bytes run.calls run.text _ run.carried (none_failed _ _ _ run.calls refl refl run.made)

pub returns-clause-starved : goal.returns-clause-starved
returns-clause-starved c = λ is. c.is_starved.ensures.1 (some_rose _ _ (c.attend-attended.ensures.writes.cause is))
