use Rattle.std.proofs.Common.{List, length, refl, sym, subst, ap, arith}
use Rattle.event_form.specs.declared.event.Entry.{Entry}
use Rattle.conn_serve.specs.RelpServing.{HasRoom, IsStaged}
use Rattle.conn_serve.specs.Terms.{most_of}
use Rattle.conn_serve.proofs.Acting.{ok_both, ok_then, err_both}
use Rattle.conn_serve.proofs.Faults.{counts_fine}
use Rattle.conn_serve.proofs.Leading.{done_start}
use Rattle.conn_serve.proofs.RelpActing.{course_due, course_leads, course_ends, most_few, most_some, room_none, staged_none}
use Rattle.conn_serve.proofs.relp.store.make_room.Goals as goal

pub returns-then-has_room : goal.returns-then-has_room
returns-then-has_room g c =
    let room : HasRoom (most_of c.args.group) c.args.run.now c.args.size = subst (λ most. HasRoom most c.args.run.now c.args.size) c.most_of.ensures (c.has_room.ensures c.if-has_room.true) in
    record {
      goes = done_start _ _ _ _ (g.met.A.Access.ran_none _);
      halts = tt;
      room = room;
      staged = c.requires.staged;
      sum = refl;
      only = tt;
      number = refl;
      may = c.requires.may;
      writes = counts_fine _ _ _ _ _ refl;
      same = g.L.Object.same_refl _;
      apart = g.met.L.Sink.apart_refl _;
    }

pub store_all-requires-clause-few : goal.store_all-requires-clause-few
store_all-requires-clause-few g c = omega (arith, c.requires.staged.run.few, most_few c.args.group)

pub store_all-requires-clause-next : goal.store_all-requires-clause-next
store_all-requires-clause-next g c = c.requires.staged.next

pub store_all-requires-clause-says : goal.store_all-requires-clause-says
store_all-requires-clause-says g c =
    let connection = c.args.connection.now in
    λ now calls text made goes. c.requires.says now calls text made (course_due connection.taken connection.number c.args.run.now (most_of c.args.group) connection.number c.args.run.now refl refl calls text goes)

pub returns : goal.returns
returns g c =
    let call = c.store_all.ensures in
    let most = most_of c.args.group in
    let number = c.args.connection.now.number in
    let was = c.args.run.now in
    let now = c.store_all.new in
    record {
      goes = ok_both c.store_all.result _ _ _ call.goes call.empty (λ d none. course_leads _ _ _ c.args.connection.now.taken now.connection.taken number was most number was refl refl now.run none d);
      halts = err_both c.store_all.result _ _ _ call.halts call.only (λ talk d is. course_ends _ _ _ c.args.connection.now.taken now.connection.taken number was most number was refl refl talk d);
      room = ok_then c.store_all.result _ _ call.empty (λ none. subst (λ (es : List Entry). HasRoom most es c.args.size) (sym none) (room_none most c.args.size (most_some c.args.group)));
      staged = ok_then c.store_all.result _ _ call.empty (λ none. subst (λ (es : List Entry). IsStaged most number now.connection.taken es) (sym none) (staged_none most number now.connection.taken));
      sum = ok_both c.store_all.result _ _ _ call.sum call.empty (λ sum none. omega (arith, sum, ap length none));
      only = call.only;
      number = call.number;
      may = call.may;
      writes = call.writes;
      same = call.same;
      apart = call.apart;
    }
