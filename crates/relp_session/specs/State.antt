-- How a session goes on: the last column of the receiver's table.
use Rattle.std.specs.Prelude.{◌≡◌}
use Rattle.relp_frame.specs.declared.frame.Frame.{Frame}
use Rattle.relp_session.specs.declared.request.Request.{Request}
use Rattle.relp_session.specs.declared.request.Request.TheVariants.{Open, OpenOther, Syslog, Close, Other}
use Rattle.relp_session.specs.declared.state.State.{State}
use Rattle.relp_session.specs.declared.state.State.TheVariants.{Unopened, Opened, Closed}
use Rattle.relp_session.specs.Request.{Asks}

-- the next state, by the state and what the frame asks for
abbrev pub next : State → Request → State
next Unopened Open = Opened
next Unopened OpenOther = Unopened
next Unopened Syslog = Unopened
next Unopened Close = Closed
next Unopened Other = Unopened
next Opened Open = Opened
next Opened OpenOther = Opened
next Opened Syslog = Opened
next Opened Close = Closed
next Opened Other = Opened
-- a session that was closed stays so, whatever comes
next Closed r = Closed

-- the session goes over into this state by the frame
abbrev pub IsNext : State → Frame → State → Type 0
IsNext state f after = (r : Request) × Asks f r × (after ≡ next state r)
