-- A run of the server, as its contract describes it.
use Rattle.std.specs.Prelude.{◌≡◌, ◌+◌, length}
use Rattle.spool_desk.specs.Alone.{AloneView}
use Rattle.desk_access.specs.Desk.{DeskState}
use Rattle.serve_run.specs.Running.{Given, Left}
use Rattle.serve_desk.specs.Serving.{HasServed, Seating}

-- What `serve` says of a run that left the desk so. There is one door and one report for each worker, in the order of the rules, and
-- one pass more than that, the forwarder's.
pub record ServerRun (tells : Type 0) (start : DeskState → Type 0) (seating : Seating) (new : AloneView) : Type 0 where
  pub given : Given
  pub left : Left
  pub served : HasServed tells start seating given left new
  pub doors_are : length given.doors ≡ length given.rules
  pub doors'_are : length left.doors ≡ length given.rules
  pub reports_are : length left.reports ≡ length given.rules
  pub seats_are : seating.seats ≡ length given.rules + 1
