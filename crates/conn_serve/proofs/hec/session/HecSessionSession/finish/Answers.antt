use Rattle.std.proofs.Common.{◌≡◌, ℕ, ◌<◌, List, [], length, take, sym, ap, subst, arith}
use Rattle.std.specs.Prelude.{None, true}
use Rattle.event_form.specs.declared.talk.Talk.TheVariants.{Fault}
use Rattle.event_form.specs.declared.talk.Why.{Why}
use Rattle.hec_session.specs.declared.code.HecCode.TheVariants.{InvalidFormat}
use Rattle.desk_access.specs.Endings.{IsAtMove}
use Rattle.edge_io.specs.Told.{MayFollow}
use Rattle.desk_access.specs.Carried.{Carried}
use Rattle.conn_serve.proofs.Saying.{has_carried}
use Rattle.conn_serve.specs.Hec.{hec, reply}
use Rattle.conn_serve.proofs.Acting.{done_nothing, err_then, ok_then}
use Rattle.conn_serve.proofs.HecActing.{said_whole}
use Rattle.conn_serve.proofs.HecSessions.{finished, finished_said, finished_unsaid}
use Rattle.conn_serve.proofs.hec.session.HecSessionSession.finish.Goals as goal

pub returns-in_default-clause-goes : goal.returns-in_default-clause-goes
returns-in_default-clause-goes g c =
    let other : (at : ℕ) (why : Why) → c.args.over ≡ Fault at why → ⊥ = c.in_default.not-Fault in
    done_nothing _ _ _ _ (g.met.A.Access.ran_none _) (λ left fed called said counted k. finished c.args.self.now.core c.args.connection.now.number left c.args.over fed called said k other)

pub returns-clause-goes : goal.returns-clause-goes
returns-clause-goes g c =
    ok_then c.say.result _ _ c.say.ensures.whole (λ wrote. said_whole _ _ _ _ _ _ [] (reply InvalidFormat None true) c.text.result.now (g.met.A.Access.ran_none _) (omega arith) c.text.ensures wrote
    (λ left fed called said counted k. finished_said c.args.self.now.core c.args.connection.now.number left c.args.over fed called said k _ _ c.in-Fault.is))

pub returns-clause-halts : goal.returns-clause-halts
returns-clause-halts g c =
    let written = c.text.result.now in
    err_then c.say.result _ _ c.say.ensures.part (λ talk h. record {
      calls = [];
      text = take h.1.0 written;
      made = g.met.A.Access.ran_none _;
      wrote = h.1.2;
      counted = omega arith;
      is = λ left fed called said counted k.
          finished_unsaid c.args.self.now.core c.args.connection.now.number left c.args.over fed called said k _ _ c.in-Fault.is (take h.1.0 written) talk (subst IsAtMove (sym h.0) tt) h.0
          (h.1.0, subst (λ (l : List ℕ). h.1.0 < length l) c.text.ensures h.1.1, ap (take h.1.0) c.text.ensures);
    })

pub say-requires : goal.say-requires
say-requires g c =
    let tokens = c.args.self.now.core in
    let number = c.args.connection.now.number in
    let permitted = c.requires.says _ [] (reply InvalidFormat None true) (g.met.A.Access.ran_none _) (λ left fed called said counted k.
    has_carried (Carried (hec tokens number)) left fed c.args.over _ _ (finished_said tokens number left c.args.over fed called said k _ _ c.in-Fault.is)) in
    record { permitted = subst (λ (t : List ℕ). MayFollow (g.L.Sink.permits c.args.link.now) (g.L.Sink.taken c.args.link.now) t) (sym c.text.ensures) permitted }
