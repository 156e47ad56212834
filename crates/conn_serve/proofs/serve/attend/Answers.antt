use Rattle.std.proofs.Common.{arith, refl}
use Rattle.event_form.specs.declared.talk.Talk.TheVariants.{NoMemory}
use Rattle.conn_serve.specs.Done.{told}
use Rattle.conn_serve.specs.Serves.{CarriedBy}
use Rattle.conn_serve.specs.Terms.{terms_of}
use Rattle.conn_serve.proofs.Beginning.{none_carried}
use Rattle.conn_serve.proofs.Faults.{counts_none}
use Rattle.conn_serve.proofs.Running.{serves_none}
use Rattle.conn_serve.proofs.serve.attend.Goals as goal

pub attend_by-requires-clause-some : goal.attend_by-requires-clause-some
attend_by-requires-clause-some g c = omega (arith, c.in-Ok.ensures)

pub returns-in_default : goal.returns-in_default
returns-in_default g c =
    let now = told (g.L.Source.given c.args.link.now) (g.L.Source.left c.args.link.now) (g.L.Sink.taken c.args.link.now) in
    record {
      carried = serves_none (CarriedBy c.args.rules.now c.args.conn) now _ NoMemory (g.met.A.Access.ran_none _) (none_carried c.args.rules.now.proto (terms_of c.args.rules.now) c.args.conn now.left);
      reads = counts_none _ _ _ (λ is. cc) refl;
      writes = counts_none _ _ _ (λ is. cc) refl;
      same = g.L.Object.same_refl _;
    }
