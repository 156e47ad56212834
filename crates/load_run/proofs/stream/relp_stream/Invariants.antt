use Rattle.std.proofs.Common.{◌≡◌, ◌-◌, ◌++◌}
use Rattle.std.specs.Prelude.{codes}
use Rattle.relp_frame.specs.Spelling.{frame_text}
use Rattle.load_run.specs.Events.{load_texts}
use Rattle.load_run.specs.Stream.{offers, syslog_frames}
use Rattle.load_run.proofs.stream.relp_stream.Given as goal

abbrev pub invariant-loop-place : goal.invariant-loop-place
invariant-loop-place l = l.out.items ++ syslog_frames l.place (load_texts l.place l.x (l.count - l.place)) ≡ frame_text 1 (codes "open") offers ++ syslog_frames 0 (load_texts 0 l.fn.number l.count)
