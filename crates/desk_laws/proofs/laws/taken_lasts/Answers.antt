use Rattle.std.proofs.Common.{List, subst}
use Rattle.desk_access.specs.Call.{Call}
use Rattle.desk_access.specs.History.{Was}
use Rattle.desk_access.specs.Journal.{calls_by}
use Rattle.spool_desk.proofs.Lasting.{image_kept, image_was}
use Rattle.desk_laws.specs.Alone.{Keeps}
use Rattle.spool_desk.specs.Alone.{alone_at}
use Rattle.desk_laws.proofs.laws.taken_lasts.Goals as goal

pub returns : goal.returns
returns g c =
    let old = alone_at c.args._before.now in
    let new = alone_at c.args._after.now in
    record {
      kept = λ x calls told at ran bytes image.
          let is = image_kept x old new ran.records at (ran.runs.leads x told at) bytes image in
          subst (λ (l : List Call). Keeps x l bytes) (calls_by 0 calls ran.records ran.by) (record { state = is.0; stands = is.1; later = is.2; kept = is.3; grows = is.4 });
      was = λ x calls told at ran bytes since.
          subst (λ (l : List Call). Was x l bytes) (calls_by 0 calls ran.records ran.by) (image_was x old new ran.records at (ran.runs.leads x told at) bytes since);
    }
