-- Where runs have one event at most, all is as where each frame is served by itself.
use Rattle.std.specs.Prelude.{ℕ, List, Option}
use Rattle.event_form.specs.declared.talk.Talk.{Talk}
use Rattle.relp_frame.specs.declared.frame.Frame.{Frame}
use Rattle.desk_access.specs.Call.{Call}
use Rattle.desk_access.specs.Step.{Step}
use Rattle.desk_access.specs.Carried.{Carried}
use Rattle.conn_serve.specs.Relp.{relp}
use Rattle.conn_serve.specs.Runs.{relp_runs}

-- A move of runs of one is a move of single frames, and the connection stops at a run of one as at a single frame.
pub record RunsOfOne : Type 0 where
  pub moves : (conn : ℕ) (before : List (Step Frame)) (s : Step Frame) → (relp_runs 1 conn).IsMove before s → (relp conn).IsMove before s
  pub stops : (conn : ℕ) (before : List (Step Frame)) (held : List Frame) (f : Frame) (late : List Call) (part : List ℕ) (talk : Talk)
      → (relp_runs 1 conn).Stops before held f late part talk → (relp conn).AreHeld before held × (relp conn).Stops before held f late part talk
  pub carried : (conn : ℕ) (left : Option (List ℕ)) (b : List ℕ) (calls : List Call) (text : List ℕ) (talk : Talk)
      → Carried (relp_runs 1 conn) left b calls text talk → Carried (relp conn) left b calls text talk

-- And the other way round, of runs of any length: what is done for single frames is allowed.
pub record OneIsARun : Type 0 where
  pub moves : (most conn : ℕ) (before : List (Step Frame)) (s : Step Frame) → (relp conn).IsMove before s → (relp_runs most conn).IsMove before s
  pub stops : (most conn : ℕ) (before : List (Step Frame)) (held : List Frame) (f : Frame) (late : List Call) (part : List ℕ) (talk : Talk)
      → (relp conn).AreHeld before held → (relp conn).Stops before held f late part talk → (relp_runs most conn).Stops before held f late part talk
  pub carried : (most conn : ℕ) (left : Option (List ℕ)) (b : List ℕ) (calls : List Call) (text : List ℕ) (talk : Talk)
      → Carried (relp conn) left b calls text talk → Carried (relp_runs most conn) left b calls text talk
