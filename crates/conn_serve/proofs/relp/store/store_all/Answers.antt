use Rattle.std.proofs.Common.{◌≡◌, ◌∙◌, ℕ, [], refl, sym, subst, arith, ap, length}
use Rattle.desk_access.specs.Batch.{AreNext}
use Rattle.conn_serve.specs.RelpServing.{HoldsOf, EndsOf, CouldEndOf}
use Rattle.conn_serve.proofs.Acting.{none_by}
use Rattle.conn_serve.proofs.Saying.{says_then}
use Rattle.conn_serve.proofs.Faults.{counts_fine, counts_passed, err_of, quiet_fine}
use Rattle.conn_serve.proofs.Leading.{done_start, done_then}
use Rattle.conn_serve.proofs.RelpActing.{holds_none, due_leads, ends_leads, stores_leads}
use Rattle.conn_serve.proofs.relp.store.store_all.Goals as goal

pub fronts-init : goal.fronts-init
fronts-init g c = record {
  done = done_start _ _ _ _ (g.met.A.Access.ran_none _);
  next = c.requires.next;
  few = omega arith;
  sum = refl;
  same_number = refl;
  may = c.requires.may;
  writes = refl;
  same = g.L.Object.same_refl _;
  apart = g.met.L.Sink.apart_refl _;
}

pub store_front-requires-clause-few : goal.store_front-requires-clause-few
store_front-requires-clause-few g c = omega (arith, c.requires.few, c.fronts.invariant.few)

pub store_front-requires-clause-early : goal.store_front-requires-clause-early
store_front-requires-clause-early g c = omega (arith, c.requires.early, c.fronts.invariant.sum)

pub store_front-requires-clause-next : goal.store_front-requires-clause-next
store_front-requires-clause-next g c = let l = c.fronts in subst (λ (k : ℕ). AreNext k l.connection.taken l.run) (sym l.invariant.same_number) l.invariant.next

pub store_front-requires-clause-says : goal.store_front-requires-clause-says
store_front-requires-clause-says g c =
    let l = c.fronts in
    let inv = l.invariant in
    let number = c.args.connection.now.number in
    let says = says_then g.A.Access.ran c.args.access.now l.access g.met.A.Access.ran_more _ _ _ _ (g.met.L.Sink.permits_last _ _ inv.apart) (CouldEndOf number) _ _ _ (HoldsOf number l.run) inv.done c.requires.says in
    λ now calls text made due. says now calls text made (due_leads l.connection.taken number l.run calls text due)

pub fronts-preserved : goal.fronts-preserved
fronts-preserved g c =
    let l = c.fronts in
    let inv = l.invariant in
    let call = c.in_ok-store_front.ensures in
    let number = c.args.connection.now.number in
    let now = c.store_front.new in
    record {
      done = done_then _ _ _ _ _ _ _ _ _ _ _ (HoldsOf number now.run) (λ xs ys p q. g.met.A.Access.ran_more _ _ _ xs ys p q) inv.done (stores_leads _ _ _ _ _ number l.run now.run call.goes);
      next = subst (λ (k : ℕ). AreNext k now.connection.taken now.run) inv.same_number call.next;
      few = omega (arith, inv.few, call.fewer);
      sum = call.sum ∙ inv.sum;
      same_number = call.number ∙ inv.same_number;
      may = rw (← inv.same_number) call.may;
      writes = quiet_fine _ _ _ _ _ call.writes ∙ inv.writes;
      same = g.L.Object.same_trans _ _ _ inv.same call.same;
      apart = g.met.L.Sink.apart_trans _ _ _ inv.apart call.apart;
    }

pub returns : goal.returns
returns g c =
    let l = c.fronts in
    let inv = l.invariant in
    let number = c.args.connection.now.number in
    let none : l.run ≡ [] = none_by l.run (omega (arith, c.fronts-test.false)) in
    record {
      goes = holds_none _ _ _ _ _ number c.args.run.now l.run none inv.done;
      halts = tt;
      empty = none;
      sum = omega (arith, inv.sum, ap length none);
      only = tt;
      number = inv.same_number;
      may = inv.may;
      writes = counts_fine _ _ _ _ _ inv.writes;
      same = inv.same;
      apart = inv.apart;
    }

pub returns-in_err-store_front : goal.returns-in_err-store_front
returns-in_err-store_front g c =
    let l = c.fronts in
    let inv = l.invariant in
    let call = c.in_err-store_front.ensures in
    let number = c.args.connection.now.number in
    let talk = c.in_err-store_front.field-0.0 in
    rw (err_of c.from_residual.result talk c.from_residual.ensures.1)
    (record {
      goes = tt;
      halts = done_then _ _ _ _ _ _ _ _ _ _ _ (EndsOf number talk) (λ xs ys p q. g.met.A.Access.ran_more _ _ _ xs ys p q) inv.done (ends_leads _ _ _ _ _ number l.run talk call.only call.halts);
      empty = tt;
      sum = tt;
      only = call.only;
      number = call.number ∙ inv.same_number;
      may = tt;
      writes = counts_passed _ _ _ _ _ _ _ inv.writes call.writes;
      same = g.L.Object.same_trans _ _ _ inv.same call.same;
      apart = g.met.L.Sink.apart_trans _ _ _ inv.apart call.apart;
    })
