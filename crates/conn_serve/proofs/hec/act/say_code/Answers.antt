use Rattle.std.proofs.Common.{◌≡◌, ◌∙◌, [], inl, refl, arith, sym, subst}
use Rattle.hec_session.specs.declared.act.HecAct.TheVariants.{Say}
use Rattle.conn_serve.specs.Hec.{reply}
use Rattle.conn_serve.proofs.Acting.{done_nothing, err_then, ok_then}
use Rattle.conn_serve.proofs.HecActing.{said_part, said_whole}
use Rattle.conn_serve.proofs.Faults.{counts_other, memory_is_whole, said_counts, said_only}
use Rattle.desk_access.specs.Endings.{IsAtMove}
use Rattle.conn_serve.proofs.hec.act.say_code.Goals as goal

pub returns-in-Ok : goal.returns-in-Ok
returns-in-Ok g c =
    let coded = c.requires.reply.coded in
    let connection = c.args.connection.now in
    let due = reply coded.0 c.args.reply.event c.args.closing in
    let text : c.as_slice.result.now ≡ due = c.as_slice.ensures.value ∙ c.in-Ok.ensures.text coded.0 coded.1 in
    record {
      goes = ok_then c.say.result _ _ c.say.ensures.whole (λ wrote. said_whole _ _ _ _ _ _ [] due c.as_slice.result.now (g.met.A.Access.ran_none _) (omega arith) text wrote (coded.0, coded.1, refl, refl));
      halts = err_then c.say.result _ _ c.say.ensures.part (λ talk h. said_part _ _ _ _ _ connection.number connection.taken (Say c.args.reply) c.args.closing [] due c.as_slice.result.now h.1.0 talk
          (g.met.A.Access.ran_none _) (omega arith) text (inl (coded.0, coded.1, refl, refl)) h.0 h.1.1 h.1.2);
      only = said_only _ (c.say.result) c.say.ensures.part;
      writes = said_counts _ (c.say.result) _ _ c.say.ensures.part c.say.ensures.writes;
      same = c.say.ensures.same;
      apart = c.say.ensures.apart;
    }

pub returns-in-Err : goal.returns-in-Err
returns-in-Err g c =
    record {
      halts = done_nothing _ _ _ _ (g.met.A.Access.ran_none _) (inl ((refl, refl), c.in-Err.ensures.starved));
      goes = tt;
      only = subst IsAtMove (sym c.in-Err.ensures.starved) tt;
      writes = counts_other _ _ _ _ _ (λ is. memory_is_whole (sym c.in-Err.ensures.starved ∙ is)) refl;
      same = g.L.Object.same_refl _;
      apart = g.met.L.Sink.apart_refl _;
    }

pub say-requires : goal.say-requires
say-requires g c =
    let coded = c.requires.reply.coded in
    let text : c.as_slice.result.now ≡ reply coded.0 c.args.reply.event c.args.closing = c.as_slice.ensures.value ∙ c.in-Ok.ensures.text coded.0 coded.1 in
    record { permitted = c.requires.says _ [] _ (g.met.A.Access.ran_none _) (inl (coded.0, coded.1, refl, text)) }
