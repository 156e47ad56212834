-- The first of the frames that wait is served.
use Rattle.std.proofs.Common.{◌∙◌, ◌+◌, ap, length, refl, subst}
use Rattle.relp_frame.specs.Lending.{LendsFirst}
use Rattle.relp_frame.specs.Machine.{frame}
use Rattle.relp_frame.proofs.WriteLaws.{spelling_fits}
use Rattle.stream_grammar.specs.Reading.{Window}
use Rattle.relp_frame.specs.declared.fault.RelpFault.{RelpFault}
use Rattle.conn_serve.specs.Terms.{most_of}
use Rattle.conn_serve.proofs.Faults.{counts_fine, counts_passed, err_of, quiet_fine}
use Rattle.conn_serve.proofs.RelpSessions.{due_carried, fewer, served_frame, served_halt, served_still}
use Rattle.conn_serve.proofs.relp.session.serve_next.Goals as goal

pub serve_frame-requires-clause-frame : goal.serve_frame-requires-clause-frame
serve_frame-requires-clause-frame g c =
    let after = c.next.follows.lender-at-none in
    let gives = subst (λ lent. LendsFirst c.args.window.now lent after) c.in-Some.is c.next.follows.holds-at-none in
    spelling_fits _ gives.text gives.spelled

pub serve_frame-requires-clause-says : goal.serve_frame-requires-clause-says
serve_frame-requires-clause-says g c =
    let after = c.next.follows.lender-at-none in
    let gives = subst (λ lent. LendsFirst c.args.window.now lent after) c.in-Some.is c.next.follows.holds-at-none in
    λ now calls text made due. c.requires.says now calls text made
    (λ fault. due_carried _ (most_of c.args.group) c.args.connection.now.number c.args.window.now after c.args.core.now c.args.run.now fault (frame c.in-Some.lent.txnr c.in-Some.lent.command.now c.in-Some.lent.body.now) gives calls text due)

pub returns-in_default : goal.returns-in_default
returns-in_default g c =
    let after = c.next.follows.lender-at-none in
    let none = subst (λ lent. LendsFirst c.args.window.now lent after) c.in_default.is c.next.follows.holds-at-none in
    record {
      goes = λ fault. served_still _ _ _ (most_of c.args.group) c.args.connection.now.number c.args.window.now after c.args.core.now c.args.run.now fault none.1 (g.met.A.Access.ran_none _);
      halts = λ fault. tt;
      only = tt;
      idle = λ is. record { none = ap (λ (w : Window RelpFault). w.whole) none.1 ∙ none.0; space = none.2 };
      fewer = λ is. absurd cc;
      extent = ap (λ (w : Window RelpFault). w.at + length w.rest) none.1;
      number = refl;
      may = c.requires.may;
      staged = c.requires.staged;
      writes = counts_fine _ _ _ _ _ refl;
      same = g.L.Object.same_refl _;
      apart = g.met.L.Sink.apart_refl _;
    }

pub returns-in_err-serve_frame : goal.returns-in_err-serve_frame
returns-in_err-serve_frame g c =
    let after = c.next.follows.lender-at-none in
    let gives = subst (λ lent. LendsFirst c.args.window.now lent after) c.in-Some.is c.next.follows.holds-at-none in
    let call = c.in_err-serve_frame.ensures in
    let talk = c.in_err-serve_frame.field-0.0 in
    let number = c.args.connection.now.number in
    rw (err_of c.from_residual.result talk c.from_residual.ensures.1)
    (record {
      goes = λ fault. tt;
      halts = λ fault. served_halt _ _ _ _ _ (most_of c.args.group) number c.args.window.now after c.args.core.now c.args.run.now fault (frame c.in-Some.lent.txnr c.in-Some.lent.command.now c.in-Some.lent.body.now) gives talk call.halts;
      only = call.only;
      idle = tt;
      fewer = tt;
      extent = tt;
      number = call.number;
      may = tt;
      staged = tt;
      writes = counts_passed _ _ _ _ _ _ _ refl call.writes;
      same = call.same;
      apart = call.apart;
    })

pub returns : goal.returns
returns g c =
    let after = c.next.follows.lender-at-none in
    let gives = subst (λ lent. LendsFirst c.args.window.now lent after) c.in-Some.is c.next.follows.holds-at-none in
    let call = c.in_ok-serve_frame.ensures in
    let number = c.args.connection.now.number in
    record {
      goes = λ fault. served_frame _ _ _ _ _ (most_of c.args.group) number c.args.window.now after c.args.core.now c.args.run.now fault (frame c.in-Some.lent.txnr c.in-Some.lent.command.now c.in-Some.lent.body.now) gives c.serve_frame.new.core c.serve_frame.new.run call.goes;
      halts = λ fault. tt;
      only = tt;
      idle = λ is. absurd cc;
      fewer = λ is. fewer _ _ (frame c.in-Some.lent.txnr c.in-Some.lent.command.now c.in-Some.lent.body.now) gives;
      extent = ap (λ (w : Window RelpFault). w.at + length w.rest) gives.same;
      number = call.number;
      may = call.may;
      staged = call.staged;
      writes = counts_fine _ _ _ _ _ (quiet_fine _ _ _ _ _ call.writes);
      same = call.same;
      apart = call.apart;
    }
