use Rattle.edge_io.specs.Told.{MayFollow}
use Rattle.std.proofs.Common.{rules, ◌≡◌, ℕ, List, Some, length, inl, refl, sym, ap, subst, arith, ◌∙◌}
use Rattle.std.specs.Prelude.{Err}
use Rattle.desk_access.specs.Batch.{AreNext, AreOfUnit}
use Rattle.conn_serve.specs.declared.connection.Connection.{Connection}
use Rattle.conn_serve.specs.Hec.{entries_of, success}
use Rattle.conn_serve.proofs.Acting.{done_nothing}
use Rattle.conn_serve.proofs.HecActing.{err_stays, ok_both, under_cut, under_stored, under_refused}
use Rattle.conn_serve.proofs.HecEntries.{count_entries, entries_next, entries_unit}
use Rattle.conn_serve.proofs.Faults.{counts_other, counts_unwritten, either, memory_is_whole, quiet_said, said_counts, said_only}
use Rattle.desk_access.specs.Endings.{IsAtMove}
use Rattle.conn_serve.proofs.hec.ids.store_under.Goals as goal

pub take_and_settle-requires-clause-some : goal.take_and_settle-requires-clause-some
take_and_settle-requires-clause-some g c =
    let connection = c.args.connection.now in
    let is : c.deref.result.now ≡ entries_of connection.number connection.taken c.args.id c.args.events.items = search rules in
    omega (arith, ap length is, count_entries connection.number connection.taken c.args.id c.args.events.items, c.requires.within.some)

pub take_and_settle-requires-clause-few : goal.take_and_settle-requires-clause-few
take_and_settle-requires-clause-few g c =
    let connection = c.args.connection.now in
    let is : c.deref.result.now ≡ entries_of connection.number connection.taken c.args.id c.args.events.items = search rules in
    omega (arith, ap length is, count_entries connection.number connection.taken c.args.id c.args.events.items, c.requires.within.few)

pub take_and_settle-requires-clause-next : goal.take_and_settle-requires-clause-next
take_and_settle-requires-clause-next g c =
    let connection = c.args.connection.now in
    let is : c.deref.result.now ≡ entries_of connection.number connection.taken c.args.id c.args.events.items = search rules in
    subst (AreNext connection.number connection.taken) (sym is) (entries_next connection.number connection.taken c.args.id c.args.events.items)

pub take_and_settle-requires-clause-unit : goal.take_and_settle-requires-clause-unit
take_and_settle-requires-clause-unit g c =
    let connection = c.args.connection.now in
    let is : c.deref.result.now ≡ entries_of connection.number connection.taken c.args.id c.args.events.items = search rules in
    subst (AreOfUnit c.args.id) (sym is) (entries_unit connection.number connection.taken c.args.id c.args.events.items)

pub take_and_settle-requires-clause-early : goal.take_and_settle-requires-clause-early
take_and_settle-requires-clause-early g c =
    let connection = c.args.connection.now in
    let is : c.deref.result.now ≡ entries_of connection.number connection.taken c.args.id c.args.events.items = search rules in
    omega (arith, ap length is, count_entries connection.number connection.taken c.args.id c.args.events.items, c.requires.within.few, c.requires.early)

pub returns-in_default : goal.returns-in_default
returns-in_default g c =
    record {
      halts = done_nothing _ _ _ _ (g.met.A.Access.ran_none _) (inl ((refl, refl), refl));
      goes = tt;
      only = tt;
      number = refl;
      may = tt;
      writes = counts_other _ _ _ _ _ memory_is_whole refl;
      same = g.L.Object.same_refl _;
      apart = g.met.L.Sink.apart_refl _;
    }

pub returns-in-Err : goal.returns-in-Err
returns-in-Err g c =
    record {
      halts = done_nothing _ _ _ _ (g.met.A.Access.ran_none _) (inl ((refl, refl), c.in-Err.ensures.starved));
      goes = tt;
      only = subst IsAtMove (sym c.in-Err.ensures.starved) tt;
      number = refl;
      may = tt;
      writes = counts_other _ _ _ _ _ (λ is. memory_is_whole (sym c.in-Err.ensures.starved ∙ is)) refl;
      same = g.L.Object.same_refl _;
      apart = g.met.L.Sink.apart_refl _;
    }

pub returns : goal.returns
returns g c =
    let connection = c.args.connection.now in
    let text : c.as_slice.result.now ≡ success (Some c.args.id) c.args.closing = search rules in
    record {
      goes = tt;
      halts = under_cut connection.number connection.taken c.args.channel c.args.id c.args.events.items c.args.closing _ _ _ _ c.as_slice.result.now c.in-Err-say.talk text (g.met.A.Access.ran_none _) c.in-Err-say.ensures.part;
      number = refl;
      may = tt;
      only = said_only _ (Err c.in-Err-say.talk) c.in-Err-say.ensures.part;
      writes = said_counts _ (Err c.in-Err-say.talk) _ _ c.in-Err-say.ensures.part c.in-Err-say.ensures.writes;
      same = c.in-Err-say.ensures.same;
      apart = c.in-Err-say.ensures.apart;
    }

pub returns-in-Ok-say : goal.returns-in-Ok-say
returns-in-Ok-say g c =
    let connection = c.args.connection.now in
    let is : c.deref.result.now ≡ entries_of connection.number connection.taken c.args.id c.args.events.items = search rules in
    let text : c.as_slice.result.now ≡ success (Some c.args.id) c.args.closing = search rules in
    let took = c.take_and_settle in
    record {
      goes = ok_both took.result _ _ _ took.ensures.stored took.ensures.next (λ stored next. under_stored connection.number connection.taken c.args.channel c.args.id c.args.events.items
          c.args.closing _ _ _ _ _ c.deref.result.now is c.as_slice.result.now text c.in-Ok-say.ensures.whole stored.0 stored.1 stored.2 (ap (λ (x : Connection). x.taken) next));
      halts = err_stays took.result _ _ _ took.ensures.refused took.ensures.stays (λ talk refused stays. under_refused connection.number connection.taken c.args.channel c.args.id
          c.args.events.items c.args.closing _ _ _ _ _ c.deref.result.now is c.as_slice.result.now text c.in-Ok-say.ensures.whole refused.0 talk refused.2 (ap (λ (x : Connection). x.taken) stays) refused.1);
      only = took.ensures.only;
      number = either took.result _ _ _ took.ensures.next took.ensures.stays (λ next. ap (λ (x : Connection). x.number) next) (λ stays. ap (λ (x : Connection). x.number) stays);
      may = took.ensures.may;
      writes = counts_unwritten took.result _ _ took.ensures.unwritten (quiet_said _ _ c.in-Ok-say.ensures.writes);
      same = c.in-Ok-say.ensures.same;
      apart = c.in-Ok-say.ensures.apart;
    }

pub say-requires : goal.say-requires
say-requires g c =
    let text : c.as_slice.result.now ≡ success (Some c.args.id) c.args.closing = search rules in
    record { permitted = subst (λ (t : List ℕ). MayFollow (g.L.Sink.permits c.args.link.now) (g.L.Sink.taken c.args.link.now) t) (sym text) c.requires.permitted }
