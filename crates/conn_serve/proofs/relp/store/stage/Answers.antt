use Rattle.std.proofs.Common.{◌≡◌, ◌+◌, ◌∙◌, ◌∷◌, ◌++◌, [], length, refl, sym, subst, ap}
use Rattle.std.proofs.lemmas.Bool.{false≢true}
use Rattle.event_form.specs.declared.event.Event.{Event}
use Rattle.event_form.specs.declared.event.Origin.TheVariants.{Relp}
use Rattle.conn_serve.specs.Relp.{entry_of}
use Rattle.conn_serve.specs.RelpServing.{CouldEndWithin, EndsWithin, Holds}
use Rattle.conn_serve.specs.Terms.{most_of}
use Rattle.conn_serve.proofs.Faults.{counts_fine, counts_passed, err_of, quiet_fine}
use Rattle.conn_serve.proofs.Leading.{done_then}
use Rattle.conn_serve.proofs.Saying.{says_then}
use Rattle.conn_serve.proofs.RelpActing.{course_due, course_leads, course_ends, next_leads, run_push, staged_push, starved_leads}
use Rattle.conn_serve.proofs.relp.store.stage.Goals as goal

pub returns-in_err-make_room : goal.returns-in_err-make_room
returns-in_err-make_room g c =
    let call = c.in_err-make_room.ensures in
    let talk = c.in_err-make_room.field-0.0 in
    rw (err_of c.from_residual.result talk c.from_residual.ensures.1)
    (record {
      goes = tt;
      halts = call.halts;
      staged = tt;
      only = call.only;
      number = call.number;
      may = tt;
      writes = counts_passed _ _ _ _ _ _ _ refl call.writes;
      same = call.same;
      apart = call.apart;
    })

pub returns-then-push : goal.returns-then-push
returns-then-push g c =
    let call = c.in_ok-make_room.ensures in
    let most = most_of c.args.group in
    let number = c.args.connection.now.number in
    let now = c.make_room.new in
    let event : Event = record { origin = Relp; text = c.args.text.now } in
    let e = entry_of number (now.connection.taken + length now.run) c.args.txnr event in
    let pushed : c.push.new.self ≡ now.run ++ e ∷ [] = c.push.ensures.pushed c.if-push.true ∙ ap (λ conn. now.run ++ entry_of conn (now.connection.taken + length now.run) c.args.txnr event ∷ []) call.number in
    record {
      goes = rw pushed (next_leads _ _ _ c.args.connection.now.taken now.connection.taken number c.args.run.now most now.run event c.args.txnr (run_push most (length c.args.text.now) now.run e call.room refl) call.goes);
      halts = tt;
      staged = rw pushed (staged_push most number now.connection.taken (length c.args.text.now) now.run e call.staged call.room refl refl refl);
      only = tt;
      number = call.number;
      may = subst (λ k. g.A.Access.may_take now.access k now.connection.taken) refl call.may;
      writes = counts_fine _ _ _ _ _ (quiet_fine _ _ _ _ _ call.writes);
      same = call.same;
      apart = call.apart;
    }

pub store_all-requires-clause-says : goal.store_all-requires-clause-says
store_all-requires-clause-says g c =
    let call = c.in_ok-make_room.ensures in
    let most = most_of c.args.group in
    let number = c.args.connection.now.number in
    let now = c.make_room.new in
    let says = says_then g.A.Access.ran c.args.access.now now.access g.met.A.Access.ran_more _ _ _ _ (g.met.L.Sink.permits_last _ _ call.apart) (CouldEndWithin most number) _ _ _ (Holds most number now.run) call.goes c.requires.says in
    λ at calls text made goes. says at calls text made (course_due now.connection.taken number now.run most now.connection.number c.push.new.self call.number (c.push.ensures.same (λ is. false≢true (sym c.if-push.false ∙ is))) calls text goes)

pub returns-in_err-store_all-clause-halts : goal.returns-in_err-store_all-clause-halts
returns-in_err-store_all-clause-halts g c =
    let call = c.in_ok-make_room.ensures in
    let most = most_of c.args.group in
    let number = c.args.connection.now.number in
    let now = c.make_room.new in
    let talk = c.in_err-store_all.field-0.0 in
    rw (err_of c.from_residual-in_err-store_all.result talk c.from_residual-in_err-store_all.ensures.1)
    (done_then _ _ _ _ _ _ _ _ _ _ _ (EndsWithin most number talk) (λ xs ys p q. g.met.A.Access.ran_more _ _ _ xs ys p q) call.goes
    (course_ends _ _ _ now.connection.taken c.store_all.new.connection.taken number now.run most now.connection.number c.push.new.self call.number (c.push.ensures.same (λ is. false≢true (sym c.if-push.false ∙ is))) talk c.in_err-store_all.ensures.halts))

pub returns-clause-halts : goal.returns-clause-halts
returns-clause-halts g c =
    let call = c.in_ok-make_room.ensures in
    let most = most_of c.args.group in
    let number = c.args.connection.now.number in
    let now = c.make_room.new in
    let left = c.store_all.new.run in
    starved_leads _ _ _ _ _ number c.args.run.now most left
    (done_then _ _ _ _ _ _ _ _ _ _ _ (Holds most number left) (λ xs ys p q. g.met.A.Access.ran_more _ _ _ xs ys p q) call.goes
    (course_leads _ _ _ now.connection.taken c.store_all.new.connection.taken number now.run most now.connection.number c.push.new.self call.number (c.push.ensures.same (λ is. false≢true (sym c.if-push.false ∙ is))) left c.in_ok-store_all.ensures.empty
    c.in_ok-store_all.ensures.goes))
