-- What the text of a connection acknowledges was taken.
use Rattle.edge_io.specs.declared.proto.Proto.TheVariants.{Relp, Lumberjack, Hec}
use Rattle.conn_serve.specs.Acked.{AckedIsTaken}
use Rattle.conn_serve.proofs.Acks.{relp_acked}
use Rattle.conn_serve.proofs.LumberAcks.{lumber_acked}

pub acked_is_taken : AckedIsTaken
acked_is_taken Relp terms conn left b calls text talk c numbers k = relp_acked terms.most conn left b calls text talk c numbers k
acked_is_taken Lumberjack terms conn left b calls text talk c numbers k = lumber_acked conn left b calls text talk c numbers k
acked_is_taken Hec terms conn left b calls text talk c numbers k = absurd k
