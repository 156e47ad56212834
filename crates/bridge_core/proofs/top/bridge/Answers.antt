use Rattle.std.proofs.Common.{refl, ap, map}
use Rattle.bridge_core.proofs.Headline.{keeps_acknowledged}
use Rattle.bridge_core.proofs.Running.{ran_as, ran_none, ran_unread}
use Rattle.bridge_core.proofs.top.bridge.Goals as goal

-- the command has the leave of its words

pub do_command-requires-clause-answers : goal.do_command-requires-clause-answers
do_command-requires-clause-answers g c κs within = c.requires.answers c.in-Ok.command c.in-Ok.ensures.command

pub do_command-requires-clause-binds : goal.do_command-requires-clause-binds
do_command-requires-clause-binds g c κs within = c.requires.binds c.in-Ok.command c.in-Ok.ensures.command

pub do_command-requires-clause-reports : goal.do_command-requires-clause-reports
do_command-requires-clause-reports g c κs within = c.requires.reports c.in-Ok.command c.in-Ok.ensures.command

pub do_command-requires-clause-tells : goal.do_command-requires-clause-tells
do_command-requires-clause-tells g c κs within = c.requires.tells c.in-Ok.command c.in-Ok.ensures.command

pub do_command-requires-clause-dials : goal.do_command-requires-clause-dials
do_command-requires-clause-dials g c κs within = c.requires.dials c.in-Ok.command c.in-Ok.ensures.command

pub do_command-requires-clause-replays : goal.do_command-requires-clause-replays
do_command-requires-clause-replays g c κs within = c.requires.replays c.in-Ok.command c.in-Ok.ensures.command

pub do_command-requires-clause-releases : goal.do_command-requires-clause-releases
do_command-requires-clause-releases g c κs within = c.requires.releases c.in-Ok.command c.in-Ok.ensures.command

pub do_command-requires-clause-tears : goal.do_command-requires-clause-tears
do_command-requires-clause-tears g c κs within = c.requires.tears c.in-Ok.command c.in-Ok.ensures.command

pub do_command-requires-clause-prints : goal.do_command-requires-clause-prints
do_command-requires-clause-prints g c κs within = c.requires.prints c.in-Ok.command c.in-Ok.ensures.command

pub returns-in-Ok-clause-run : goal.returns-in-Ok-clause-run
returns-in-Ok-clause-run g c = ran_as _ _ _ c.in-Ok.command c.in-Ok.ensures.command c.do_command.ensures.done

pub returns-in-Err-NoCommand-clause-run : goal.returns-in-Err-NoCommand-clause-run
returns-in-Err-NoCommand-clause-run g c = rw (c.of.ensures.disk, c.of.ensures.note)
    (ran_none _ _ (record {
      disk = record { same = refl; size = refl; faults = refl };
      input = record { same = refl; given = refl; left = refl; faults = refl };
      output = record { same = refl; taken = refl; faults = refl };
      net = record { same = refl; told = refl };
      doors = ap (map (λ (door : _). g.N.P.Door.told door)) c.of.ensures.doors;
    }) (rw c.in-Err-NoCommand.field-0-is at c.in-Err-NoCommand.ensures.why))

pub returns-in-Err-NoMemory-clause-run : goal.returns-in-Err-NoMemory-clause-run
returns-in-Err-NoMemory-clause-run g c = rw (c.of-in-Err-NoMemory.ensures.disk, c.of-in-Err-NoMemory.ensures.note)
    (ran_unread _ _ (record {
      disk = record { same = refl; size = refl; faults = refl };
      input = record { same = refl; given = refl; left = refl; faults = refl };
      output = record { same = refl; taken = refl; faults = refl };
      net = record { same = refl; told = refl };
      doors = ap (map (λ (door : _). g.N.P.Door.told door)) c.of-in-Err-NoMemory.ensures.doors;
    }))

pub returns-in-Ok-clause-acknowledged : goal.returns-in-Ok-clause-acknowledged
returns-in-Ok-clause-acknowledged g c = keeps_acknowledged _ _ _ (returns-in-Ok-clause-run g c)

pub returns-in-Err-NoCommand-clause-acknowledged : goal.returns-in-Err-NoCommand-clause-acknowledged
returns-in-Err-NoCommand-clause-acknowledged g c = keeps_acknowledged _ _ _ (returns-in-Err-NoCommand-clause-run g c)

pub returns-in-Err-NoMemory-clause-acknowledged : goal.returns-in-Err-NoMemory-clause-acknowledged
returns-in-Err-NoMemory-clause-acknowledged g c = keeps_acknowledged _ _ _ (returns-in-Err-NoMemory-clause-run g c)
