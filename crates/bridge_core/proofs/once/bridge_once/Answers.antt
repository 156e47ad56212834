use Rattle.std.proofs.Common.{refl, ap, map}
use Rattle.bridge_core.proofs.Headline.{keeps_acknowledged}
use Rattle.bridge_core.proofs.OneCommand.{is_other}
use Rattle.bridge_core.proofs.Running.{ran_as, ran_none, ran_unread}
use Rattle.bridge_core.proofs.once.bridge_once.Goals as goal

-- the words are another command's than `serve`, which has their leave

pub do_other-requires-clause-other : goal.do_other-requires-clause-other
do_other-requires-clause-other g c = is_other c.in-Ok.command _ c.in-Ok.ensures.command c.requires.once

pub do_other-requires-clause-dials : goal.do_other-requires-clause-dials
do_other-requires-clause-dials g c = c.requires.dials c.in-Ok.command c.in-Ok.ensures.command

pub do_other-requires-clause-replays : goal.do_other-requires-clause-replays
do_other-requires-clause-replays g c = c.requires.replays c.in-Ok.command c.in-Ok.ensures.command

pub do_other-requires-clause-releases : goal.do_other-requires-clause-releases
do_other-requires-clause-releases g c = c.requires.releases c.in-Ok.command c.in-Ok.ensures.command

pub do_other-requires-clause-tears : goal.do_other-requires-clause-tears
do_other-requires-clause-tears g c = c.requires.tears c.in-Ok.command c.in-Ok.ensures.command

pub do_other-requires-clause-prints : goal.do_other-requires-clause-prints
do_other-requires-clause-prints g c = c.requires.prints c.in-Ok.command c.in-Ok.ensures.command

pub returns-in-Ok-clause-run : goal.returns-in-Ok-clause-run
returns-in-Ok-clause-run g c = ran_as _ _ _ c.in-Ok.command c.in-Ok.ensures.command c.do_other.ensures.done

pub returns-in-Err-NoCommand-clause-run : goal.returns-in-Err-NoCommand-clause-run
returns-in-Err-NoCommand-clause-run g c = rw (c.of.ensures.disk, c.of.ensures.note)
    (ran_none _ _ (record {
      disk = record { same = refl; size = refl; faults = refl };
      input = record { same = refl; given = refl; left = refl; faults = refl };
      output = record { same = refl; taken = refl; faults = refl };
      net = record { same = refl; told = refl };
      doors = ap (map (λ (door : _). g.N.P.Door.told door)) c.of.ensures.doors;
    }) (rw c.in-Err-NoCommand.field-0-is at c.in-Err-NoCommand.ensures.why))

pub returns-in-Err-NoMemory-clause-run : goal.returns-in-Err-NoMemory-clause-run
returns-in-Err-NoMemory-clause-run g c = rw (c.of-in-Err-NoMemory.ensures.disk, c.of-in-Err-NoMemory.ensures.note)
    (ran_unread _ _ (record {
      disk = record { same = refl; size = refl; faults = refl };
      input = record { same = refl; given = refl; left = refl; faults = refl };
      output = record { same = refl; taken = refl; faults = refl };
      net = record { same = refl; told = refl };
      doors = ap (map (λ (door : _). g.N.P.Door.told door)) c.of-in-Err-NoMemory.ensures.doors;
    }))

pub returns-in-Ok-clause-acknowledged : goal.returns-in-Ok-clause-acknowledged
returns-in-Ok-clause-acknowledged g c = keeps_acknowledged _ _ _ (returns-in-Ok-clause-run g c)

pub returns-in-Err-NoCommand-clause-acknowledged : goal.returns-in-Err-NoCommand-clause-acknowledged
returns-in-Err-NoCommand-clause-acknowledged g c = keeps_acknowledged _ _ _ (returns-in-Err-NoCommand-clause-run g c)

pub returns-in-Err-NoMemory-clause-acknowledged : goal.returns-in-Err-NoMemory-clause-acknowledged
returns-in-Err-NoMemory-clause-acknowledged g c = keeps_acknowledged _ _ _ (returns-in-Err-NoMemory-clause-run g c)
