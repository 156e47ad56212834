use Rattle.std.proofs.Common.{◌∙◌, refl, sym}
use Rattle.spool_log.specs.State.{view}
use Rattle.spool_desk.specs.Alone.{alone_at}
use Rattle.spool_desk.proofs.Fits.{disk_alone}
use Rattle.spool_desk.proofs.Jointly.{joint_makes, fits_known}
use Rattle.spool_desk.proofs.alone.Alone.take_jointly.Goals as goal

pub returns : goal.returns
returns g c =
    let a = c.args.self.now in
    let fits = c.requires.fits in
    let spool = c.take.new.self in record {
      made = λ part parts are all.
          joint_makes g.D.Disk.tells (alone_at a) (view spool.memory spool.doubt (g.D.Disk.moment spool.disk)) a.met c.args.entries.now c.take.result part parts are all
          (λ tells is. cc (sym fits.sure ∙ is))
          (λ x at. fits_known x (alone_at a) part parts c.args.entries.now are at fits.room fits.numbers)
          c.take.ensures.calls c.take.ensures.taken c.requires.few.0;
      only = disk_alone _ _ _ _ fits (c.take.ensures.before fits.sure) c.take.ensures.met c.take.ensures.read_again;
      ids = refl;
    }
