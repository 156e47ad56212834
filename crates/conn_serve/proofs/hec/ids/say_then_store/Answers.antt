use Rattle.std.proofs.Common.{◌++◌, [], ◌∷◌, inl, inr, refl}
use Rattle.std.specs.Prelude.{Ok, Err}
use Rattle.desk_access.specs.Call.{issues}
use Rattle.conn_serve.specs.Hec.{talk_of_issue}
use Rattle.conn_serve.proofs.HecActing.{forgotten, may_same, none_sure, none_conn, refused_issue, stored_under}
use Rattle.conn_serve.proofs.Faults.{counts_err}
use Rattle.conn_serve.proofs.hec.ids.say_then_store.Goals as goal

pub store_under-requires-clause-may : goal.store_under-requires-clause-may
store_under-requires-clause-may g c =
    let connection = c.args.connection.now in
    may_same (g.A.Access.may_take c.issue.new.self) connection.number connection.taken (g.met.A.Access.may_take_more _ _ _ connection.number connection.taken c.in-Ok.ensures (none_sure _ tt) none_conn c.requires.may)

pub returns-in-Err : goal.returns-in-Err
returns-in-Err g c =
    let connection = c.args.connection.now in
    record {
      goes = tt;
      halts = refused_issue connection.number connection.taken c.args.channel c.args.events c.args.closing _ _ _ _ _ c.in-Err.fault c.refuse_id.result c.in-Err.ensures refl c.refuse_id.ensures.ends;
      only = c.refuse_id.ensures.only;
      number = refl;
      may = tt;
      writes = counts_err _ _ _ _ _ c.refuse_id.ensures.writes;
      same = c.refuse_id.ensures.same;
      apart = c.refuse_id.ensures.apart;
    }

pub returns-in-Ok-store_under : goal.returns-in-Ok-store_under
returns-in-Ok-store_under g c =
    let connection = c.args.connection.now in
    record {
      goes = stored_under connection.number connection.taken c.args.channel c.args.events c.args.closing _ _ _ _ _ _ _ c.in-Ok.id (λ xs ys p q. g.met.A.Access.ran_more _ _ _ xs ys p q) c.in-Ok.ensures c.in-Ok-store_under.ensures.goes;
      halts = tt;
      only = tt;
      number = c.in-Ok-store_under.ensures.number;
      may = c.in-Ok-store_under.ensures.may;
      writes = c.in-Ok-store_under.ensures.writes;
      same = c.in-Ok-store_under.ensures.same;
      apart = c.in-Ok-store_under.ensures.apart;
    }

pub returns-in-Err-store_under : goal.returns-in-Err-store_under
returns-in-Err-store_under g c =
    let connection = c.args.connection.now in
    record {
      goes = tt;
      halts = forgotten connection.number connection.taken c.args.channel c.args.events c.args.closing _ _ _ _ _ _ _ _ c.in-Ok.id c.forget.result c.in-Err-store_under.talk
          (λ xs ys zs p q r. g.met.A.Access.ran_more _ _ _ xs (ys ++ zs) p (g.met.A.Access.ran_more _ _ _ ys zs q r)) c.in-Ok.ensures c.forget.ensures c.in-Err-store_under.ensures.halts;
      only = c.in-Err-store_under.ensures.only;
      number = c.in-Err-store_under.ensures.number;
      may = tt;
      writes = c.in-Err-store_under.ensures.writes;
      same = c.in-Err-store_under.ensures.same;
      apart = c.in-Err-store_under.ensures.apart;
    }

pub refuse_id-requires : goal.refuse_id-requires
refuse_id-requires g c =
    let fault = c.in-Err.fault in
    record { permitted = c.requires.says _ (issues c.args.channel (Err fault) ∷ []) _ c.in-Err.ensures (inr (talk_of_issue fault, (fault, refl, refl, refl))) }

pub store_under-requires-clause-permitted : goal.store_under-requires-clause-permitted
store_under-requires-clause-permitted g c = c.requires.says _ (issues c.args.channel (Ok c.in-Ok.id) ∷ []) _ c.in-Ok.ensures (inl (c.in-Ok.id, refl, refl))
