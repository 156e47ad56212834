use Rattle.std.proofs.Common.{inl, inr, sym, refl, subst, arith}
use Rattle.relp_frame.specs.Machine.{frame}
use Rattle.relp_session.specs.Answer.{IsAnswer}
use Rattle.relp_session.specs.Row.{act_lent, answer_text}
use Rattle.edge_io.proofs.Known.{may_follow_on}
use Rattle.conn_serve.specs.RelpServing.{StoresNothing}
use Rattle.conn_serve.specs.Terms.{most_of}
use Rattle.conn_serve.proofs.Acting.{ok_then, err_then, err_both}
use Rattle.conn_serve.proofs.Faults.{counts_from, counts_passed, err_of, quiet_fine}
use Rattle.conn_serve.proofs.HecActing.{ok_any}
use Rattle.conn_serve.proofs.RelpActing.{course_due, course_ends, due_text, frame_could, frame_due, frame_ends, frame_held, frame_said, frame_unsaid, most_few, staged_none}
use Rattle.conn_serve.proofs.relp.act.serve_frame.Goals as goal

pub stage-requires-clause-says : goal.stage-requires-clause-says
stage-requires-clause-says g c =
    let connection = c.args.connection.now in
    let f = frame c.args.lent.txnr c.args.lent.command.now c.args.lent.body.now in
    λ now calls text made goes. c.requires.says now calls text made (frame_could connection.taken (most_of c.args.group) connection.number c.args.core.now c.args.run.now f calls text goes)

pub returns-in-Store-clause-goes : goal.returns-in-Store-clause-goes
returns-in-Store-clause-goes g c =
    let connection = c.args.connection.now in
    let f = frame c.args.lent.txnr c.args.lent.command.now c.args.lent.body.now in
    ok_then c.stage.result _ _ c.stage.ensures.goes (λ d. frame_held connection.taken (most_of c.args.group) connection.number c.args.core.now c.args.run.now f _ _ _ c.stage.new.connection.taken c.step_lent-act.new.self c.stage.new.run _ c.in-Store.txnr
    (subst (λ a. IsAnswer c.args.core.now f (act_lent a)) c.in-Store.is c.step_lent-act.ensures.answer) c.step_lent-act.ensures.after d)

pub returns-in-Store-clause-halts : goal.returns-in-Store-clause-halts
returns-in-Store-clause-halts g c =
    let connection = c.args.connection.now in
    let f = frame c.args.lent.txnr c.args.lent.command.now c.args.lent.body.now in
    err_then c.stage.result _ _ c.stage.ensures.halts (λ talk d. frame_ends connection.taken (most_of c.args.group) connection.number c.args.core.now c.args.run.now f _ _ _ c.stage.new.connection.taken talk d)

pub store_all-requires : goal.store_all-requires
store_all-requires g c =
    let connection = c.args.connection.now in
    let most = most_of c.args.group in
    let f = frame c.args.lent.txnr c.args.lent.command.now c.args.lent.body.now in
    record {
      few = omega (arith, c.requires.staged.run.few, most_few c.args.group);
      next = c.requires.staged.next;
      early = omega (arith, c.requires.early);
      may = c.requires.may;
      says = λ now calls text made goes. c.requires.says now calls text made
          (frame_could connection.taken most connection.number c.args.core.now c.args.run.now f calls text (course_due connection.taken connection.number c.args.run.now most connection.number c.args.run.now refl refl calls text goes));
    }

pub returns-in_err-store_all-in-Say : goal.returns-in_err-store_all-in-Say
returns-in_err-store_all-in-Say g c =
    let connection = c.args.connection.now in
    let most = most_of c.args.group in
    let f = frame c.args.lent.txnr c.args.lent.command.now c.args.lent.body.now in
    let call = c.in_err-store_all-in-Say.ensures in
    let talk = c.in_err-store_all-in-Say.field-0.0 in
    let taken = c.store_all.new.connection.taken in
    rw (err_of c.from_residual.result talk c.from_residual.ensures.1)
    (record {
      goes = tt;
      halts = frame_ends connection.taken most connection.number c.args.core.now c.args.run.now f _ _ _ taken talk (course_ends _ _ _ connection.taken taken connection.number c.args.run.now most connection.number c.args.run.now refl refl talk call.halts);
      staged = tt;
      only = call.only;
      number = call.number;
      may = tt;
      writes = counts_passed _ _ _ _ _ _ _ refl call.writes;
      same = call.same;
      apart = call.apart;
    })

pub answer-requires : goal.answer-requires
answer-requires g c =
    let connection = c.args.connection.now in
    let most = most_of c.args.group in
    let f = frame c.args.lent.txnr c.args.lent.command.now c.args.lent.body.now in
    let act = c.step_lent-act.result in
    let call = c.in_ok-store_all-in-Say.ensures in
    let now = c.store_all.new in
    let nothing : StoresNothing (act_lent act) = elim c.in-Say.is [
      | inl said ↦ subst (λ a. StoresNothing (act_lent a)) (sym said.2) tt
      | inr other ↦ elim other [ inl close ↦ subst (λ a. StoresNothing (act_lent a)) (sym close.1) tt | inr none ↦ subst (λ a. StoresNothing (act_lent a)) (sym none) tt ]
    ] in
    let d = call.goes in
    let due = frame_due _ _ _ (g.L.Sink.taken now.link) connection.taken now.connection.taken most connection.number c.args.core.now c.step_lent-act.new.self c.args.run.now f (act_lent act) c.step_lent-act.ensures.answer c.step_lent-act.ensures.after d
    (answer_text act) nothing (λ conn index. due_text conn index act nothing) in
    record {
      nothing = nothing;
      permitted = may_follow_on _ _ _ _ d.text (answer_text act) (g.met.L.Sink.permits_last _ _ call.apart) d.wrote (c.requires.says now.access d.calls _ d.made due);
    }

pub returns-in_ok-store_all-in-Say : goal.returns-in_ok-store_all-in-Say
returns-in_ok-store_all-in-Say g c =
    let connection = c.args.connection.now in
    let most = most_of c.args.group in
    let f = frame c.args.lent.txnr c.args.lent.command.now c.args.lent.body.now in
    let act = c.step_lent-act.result in
    let call = c.in_ok-store_all-in-Say.ensures in
    let now = c.store_all.new in
    let last = c.answer.ensures in
    rw call.empty (record {
      goes = ok_then c.answer.result _ _ last.goes (λ said. frame_said _ _ _ _ connection.taken now.connection.taken most connection.number c.args.core.now c.step_lent-act.new.self c.args.run.now f (act_lent act) c.step_lent-act.ensures.answer
          c.step_lent-act.ensures.after call.goes said.0 said.1 said.2);
      halts = err_both c.answer.result _ _ _ last.halts last.only (λ talk said is. frame_unsaid _ _ _ _ connection.taken now.connection.taken most connection.number c.args.core.now c.step_lent-act.new.self c.args.run.now f (act_lent act)
          c.step_lent-act.ensures.answer c.step_lent-act.ensures.after call.goes talk said.0 is said.1 said.2);
      staged = ok_any c.answer.result _ (staged_none most connection.number now.connection.taken);
      only = last.only;
      number = call.number;
      may = ok_any c.answer.result _ call.may;
      writes = counts_from _ _ _ _ _ (quiet_fine _ _ _ _ _ call.writes) (λ e. e) (λ e. e) last.writes;
      same = g.L.Object.same_trans _ _ _ call.same last.same;
      apart = g.met.L.Sink.apart_trans _ _ _ call.apart last.apart;
    })
