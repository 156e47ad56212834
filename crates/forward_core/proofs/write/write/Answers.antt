use Rattle.forward_core.proofs.Free.{may_follow}
use Rattle.forward_core.proofs.write.write.Goals as goal

pub write_whole-requires : goal.write_whole-requires
write_whole-requires g c = record { permitted = may_follow (g.L.Sink.permits c.args.link.now) (g.L.Sink.taken c.args.link.now) c.args.text.now (c.requires.free c.args.link.now) }
