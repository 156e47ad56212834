use Rattle.std.proofs.Common.{refl}
use Rattle.bridge_core.proofs.doing.do_command.Goals as goal

-- ---- what its words can name, and what it may do

pub serve-note-requires-clause-answers : goal.serve-note-requires-clause-answers
serve-note-requires-clause-answers g c κs within = rw c.in-Serve.is at c.requires.answers

pub serve-note-requires-clause-binds : goal.serve-note-requires-clause-binds
serve-note-requires-clause-binds g c κs within = rw c.in-Serve.is at c.requires.binds

pub serve-note-requires-clause-tells : goal.serve-note-requires-clause-tells
serve-note-requires-clause-tells g c κs within = rw c.in-Serve.is at c.requires.tells

pub serve-note-requires-clause-reports : goal.serve-note-requires-clause-reports
serve-note-requires-clause-reports g c κs within = rw c.in-Serve.is at c.requires.reports

pub serve-note-requires-clause-dials : goal.serve-note-requires-clause-dials
serve-note-requires-clause-dials g c κs within = rw c.in-Serve.is at c.requires.dials

pub serve-note-requires-clause-releases : goal.serve-note-requires-clause-releases
serve-note-requires-clause-releases g c κs within = rw c.in-Serve.is at c.requires.releases

pub serve-note-requires-clause-tears : goal.serve-note-requires-clause-tears
serve-note-requires-clause-tears g c κs within = rw c.in-Serve.is at c.requires.tears

pub serve-note-requires-clause-prints : goal.serve-note-requires-clause-prints
serve-note-requires-clause-prints g c κs within = rw c.in-Serve.is at c.requires.prints

-- ---- what was done

pub returns-in-Serve-clause-done : goal.returns-in-Serve-clause-done
returns-in-Serve-clause-done g c =
    let served = c.serve-note.ensures in
    rw c.in-Serve.is (
      served.served,
      record { same = refl; given = refl; left = refl; faults = refl },
      record { known = served.known; calls = served.calls; reads = served.reads; writes = served.writes; dials = served.dials },
    )
