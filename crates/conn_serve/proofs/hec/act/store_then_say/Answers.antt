use Rattle.std.proofs.Common.{rules, ◌≡◌, ◌+◌, List, [], ◌∷◌, None, length, inl, inr, refl, sym, ap, subst, arith, length-append, ◌∙◌}
use Rattle.std.specs.Prelude.{Ok, Err}
use Rattle.std.specs.List.{All}
use Rattle.event_form.specs.declared.event.Entry.{Entry}
use Rattle.event_form.specs.Entry.{IsEntry}
use Rattle.hec_session.specs.declared.act.HecAct.TheVariants.{StoreThenSay}
use Rattle.desk_access.specs.Batch.{AreNext}
use Rattle.desk_access.specs.Call.{takes}
use Rattle.desk_access.specs.Step.{count}
use Rattle.conn_serve.specs.declared.connection.Connection.{Connection}
use Rattle.conn_serve.specs.Groups.{IsFrameEntry}
use Rattle.conn_serve.specs.Relp.{talk_of}
use Rattle.conn_serve.specs.Hec.{entries_of, success}
use Rattle.conn_serve.proofs.Acting.{done_nothing, err_then}
use Rattle.conn_serve.proofs.HecActing.{ok_any, refused_take, said_part}
use Rattle.conn_serve.proofs.HecEntries.{count_entries, entries_next, entries_plain}
use Rattle.conn_serve.proofs.Faults.{counts_err, counts_other, memory_is_whole, said_counts, said_only}
use Rattle.desk_access.specs.Endings.{IsAtMove}
use Rattle.conn_serve.proofs.hec.act.store_then_say.Goals as goal

pub take_group-requires-clause-few : goal.take_group-requires-clause-few
take_group-requires-clause-few g c =
    let connection = c.args.connection.now in
    let is : c.deref.result.now ≡ entries_of connection.number connection.taken 0 c.args.events.items = search rules in
    omega (arith, ap length is, count_entries connection.number connection.taken 0 c.args.events.items, c.requires.within.few)

pub take_group-requires-clause-limits : goal.take_group-requires-clause-limits
take_group-requires-clause-limits g c =
    let connection = c.args.connection.now in
    let is : c.deref.result.now ≡ entries_of connection.number connection.taken 0 c.args.events.items = search rules in
    let limits : All IsEntry c.deref.result.now = search rules in
    subst (All IsFrameEntry) (sym is) (entries_plain connection.number connection.taken c.args.events.items (subst (All IsEntry) is limits))

pub take_group-requires-clause-next : goal.take_group-requires-clause-next
take_group-requires-clause-next g c =
    let connection = c.args.connection.now in
    let is : c.deref.result.now ≡ entries_of connection.number connection.taken 0 c.args.events.items = search rules in
    subst (AreNext connection.number connection.taken) (sym is) (entries_next connection.number connection.taken 0 c.args.events.items)

pub take_group-requires-clause-early : goal.take_group-requires-clause-early
take_group-requires-clause-early g c =
    let connection = c.args.connection.now in
    let is : c.deref.result.now ≡ entries_of connection.number connection.taken 0 c.args.events.items = search rules in
    omega (arith, ap length is, count_entries connection.number connection.taken 0 c.args.events.items, c.requires.within.few, c.requires.early)

pub returns-in-Ok-take_group-clause-halts : goal.returns-in-Ok-take_group-clause-halts
returns-in-Ok-take_group-clause-halts g c =
    let connection = c.args.connection.now in
    let receipt = c.in-Ok-take_group.field-0 in
    let is : c.deref.result.now ≡ entries_of connection.number connection.taken 0 c.args.events.items = search rules in
    let text : c.as_slice.result.now ≡ success None c.args.closing = search rules in
    let calls = takes c.deref.result.now (Ok receipt) ∷ [] in
    let counted : c.take_group.new.connection.taken ≡ connection.taken + count calls = omega (arith, ap (λ (x : Connection). x.taken) c.in-Ok-take_group.ensures.next, length-append c.deref.result.now []) in
    err_then c.say.result _ _ c.say.ensures.part (λ talk h. said_part _ _ _ _ _ connection.number connection.taken (StoreThenSay c.args.events) c.args.closing calls (success None c.args.closing) c.as_slice.result.now h.1.0 talk c.in-Ok-take_group.ensures.ran counted text
    (inl (receipt, ap (λ (l : List Entry). takes l (Ok receipt) ∷ []) is, refl)) h.0 h.1.1 h.1.2)

pub returns-in_default : goal.returns-in_default
returns-in_default g c =
    record {
      halts = done_nothing _ _ _ _ (g.met.A.Access.ran_none _) (inl ((refl, refl), refl));
      goes = tt;
      only = tt;
      number = refl;
      may = tt;
      writes = counts_other _ _ _ _ _ memory_is_whole refl;
      same = g.L.Object.same_refl _;
      apart = g.met.L.Sink.apart_refl _;
    }

pub returns-in-Err : goal.returns-in-Err
returns-in-Err g c =
    record {
      halts = done_nothing _ _ _ _ (g.met.A.Access.ran_none _) (inl ((refl, refl), c.in-Err.ensures.starved));
      goes = tt;
      only = subst IsAtMove (sym c.in-Err.ensures.starved) tt;
      number = refl;
      may = tt;
      writes = counts_other _ _ _ _ _ (λ is. memory_is_whole (sym c.in-Err.ensures.starved ∙ is)) refl;
      same = g.L.Object.same_refl _;
      apart = g.met.L.Sink.apart_refl _;
    }

pub returns : goal.returns
returns g c =
    let connection = c.args.connection.now in
    let is : c.deref.result.now ≡ entries_of connection.number connection.taken 0 c.args.events.items = search rules in
    record {
      goes = tt;
      halts = refused_take connection.number connection.taken c.args.events c.args.closing _ _ _ _ _ c.in-Err-take_group.fault c.refuse.result (subst (λ (l : List Entry). g.A.Access.ran
          c.args.access.now (takes l (Err c.in-Err-take_group.fault) ∷ []) c.take_group.new.access) is c.in-Err-take_group.ensures.ran) (ap (λ (x : Connection). x.taken)
          c.in-Err-take_group.ensures.stays) c.refuse.ensures.ends;
      only = c.refuse.ensures.only;
      number = ap (λ (x : Connection). x.number) c.in-Err-take_group.ensures.stays;
      may = tt;
      writes = counts_err _ _ _ _ _ c.refuse.ensures.writes;
      same = c.refuse.ensures.same;
      apart = c.refuse.ensures.apart;
    }

pub returns-in-Ok-take_group-clause-number : goal.returns-in-Ok-take_group-clause-number
returns-in-Ok-take_group-clause-number g c = ap (λ (x : Connection). x.number) c.in-Ok-take_group.ensures.next

pub returns-in-Ok-take_group-clause-may : goal.returns-in-Ok-take_group-clause-may
returns-in-Ok-take_group-clause-may g c = ok_any c.say.result _ c.in-Ok-take_group.ensures.may

pub returns-in-Ok-take_group-clause-only : goal.returns-in-Ok-take_group-clause-only
returns-in-Ok-take_group-clause-only g c = said_only _ (c.say.result) c.say.ensures.part

pub returns-in-Ok-take_group-clause-writes : goal.returns-in-Ok-take_group-clause-writes
returns-in-Ok-take_group-clause-writes g c = said_counts _ (c.say.result) _ _ c.say.ensures.part c.say.ensures.writes

pub returns-in-Ok-take_group-clause-same : goal.returns-in-Ok-take_group-clause-same
returns-in-Ok-take_group-clause-same g c = c.say.ensures.same

pub returns-in-Ok-take_group-clause-apart : goal.returns-in-Ok-take_group-clause-apart
returns-in-Ok-take_group-clause-apart g c = c.say.ensures.apart

pub say-requires : goal.say-requires
say-requires g c =
    let connection = c.args.connection.now in
    let receipt = c.in-Ok-take_group.field-0 in
    let is : c.deref.result.now ≡ entries_of connection.number connection.taken 0 c.args.events.items = search rules in
    let text : c.as_slice.result.now ≡ success None c.args.closing = search rules in
    record { permitted = c.requires.says _ (takes c.deref.result.now (Ok receipt) ∷ []) _ c.in-Ok-take_group.ensures.ran (inl (receipt, ap (λ (l : List Entry). takes l (Ok receipt) ∷ []) is, text)) }

pub refuse-requires : goal.refuse-requires
refuse-requires g c =
    let connection = c.args.connection.now in
    let fault = c.in-Err-take_group.fault in
    let is : c.deref.result.now ≡ entries_of connection.number connection.taken 0 c.args.events.items = search rules in
    record { permitted = c.requires.says _ (takes c.deref.result.now (Err fault) ∷ []) _ c.in-Err-take_group.ensures.ran (inr (talk_of fault, (fault, ap (λ (l : List Entry). takes l (Err fault) ∷ []) is, refl, refl))) }
