use Rattle.std.proofs.Common.{◌∙◌, ap, length}
use Rattle.spool_desk.specs.Alone.{alone_at}
use Rattle.conn_serve.proofs.Acting.{err_is}
use Rattle.load_run.specs.Load.{IsFailed, new_spool}
use Rattle.load_run.specs.Runs.{desk_in}
use Rattle.load_run.proofs.Finished.{failed_drain, failed_replay, loaded_of, stored_of}
use Rattle.load_run.proofs.loading.load.Goals as goal

pub returns-in_err-judge_served-clause-failed : goal.returns-in_err-judge_served-clause-failed
returns-in_err-judge_served-clause-failed c =
    let served = c.replay-served.result in
    let is = stored_of c.args.proto c.args.number c.args.count served.taken served.written served.talk c.in_ok-stream.stream.items (alone_at c.replay-served.new.access) c.in_ok-stream.ensures (c.replay-served.ensures.replays (desk_in new_spool) c.in_ok-access.ensures.at) in
    err_is c.from_residual-in_err-judge_served.result c.in_err-judge_served.field-0.0 (IsFailed c.args.proto c.args.number c.args.count) c.from_residual-in_err-judge_served.ensures.1
    (failed_replay c.args.proto c.args.number c.args.count served.taken served.written served.talk _ _ is c.in_err-judge_served.ensures.ill)

pub returns-in_err-drain_all-clause-failed : goal.returns-in_err-drain_all-clause-failed
returns-in_err-drain_all-clause-failed c =
    let served = c.replay-served.result in
    let is = stored_of c.args.proto c.args.number c.args.count served.taken served.written served.talk c.in_ok-stream.stream.items (alone_at c.replay-served.new.access) c.in_ok-stream.ensures (c.replay-served.ensures.replays (desk_in new_spool) c.in_ok-access.ensures.at) in
    err_is c.from_residual-in_err-drain_all.result c.in_err-drain_all.field-0.0 (IsFailed c.args.proto c.args.number c.args.count) c.from_residual-in_err-drain_all.ensures.1
    (failed_drain c.args.proto c.args.number c.args.count served.taken served.written served.talk _ _ is c.in_ok-judge_served.ensures.well (c.in_err-drain_all.ensures.drained is.after is.here))

pub returns-clause-loaded : goal.returns-clause-loaded
returns-clause-loaded c =
    let served = c.replay-served.result in
    let is = stored_of c.args.proto c.args.number c.args.count served.taken served.written served.talk c.in_ok-stream.stream.items (alone_at c.replay-served.new.access) c.in_ok-stream.ensures (c.replay-served.ensures.replays (desk_in new_spool) c.in_ok-access.ensures.at) in
    loaded_of c.args.proto c.args.number c.args.count served.taken served.written _ served.talk _ _ c.counted.result is c.in_ok-judge_served.ensures.well (c.in_ok-drain_all.ensures.drained is.after is.here)
    (c.length_of-bytes_in.ensures ∙ ap length (c.deref.ensures.value ∙ c.in_ok-stream.ensures)) c.counted.ensures.replay c.counted.ensures.confirmed c.counted.ensures.left
