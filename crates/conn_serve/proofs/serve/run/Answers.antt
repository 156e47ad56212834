use Rattle.edge_io.proofs.Known.{appends_then}
use Rattle.std.proofs.Common.{◌++◌, ℕ, ◌∙◌, sym, subst, arith, length-take}
use Rattle.conn_serve.specs.Terms.{Terms}
use Rattle.conn_serve.specs.Done.{told}
use Rattle.conn_serve.specs.Endings.{MayEnd}
use Rattle.conn_serve.proofs.Beginning.{fits_refilled}
use Rattle.conn_serve.proofs.Running.{progress_turn, serves_as, serves_turn, serves_close, so_far_of}
use Rattle.conn_serve.proofs.Faults.{counts_from, counts_none, counts_told, quiet_fine}
use Rattle.conn_serve.specs.Says.{HasCarried}
use Rattle.conn_serve.proofs.Saying.{says_as, says_since}
use Rattle.conn_serve.proofs.serve.run.Goals as goal

pub turn-requires-clause-so_far : goal.turn-requires-clause-so_far
turn-requires-clause-so_far g c =
    let l = c.loop-total in
    so_far_of (λ k. g.S.Session.served k l.session) _ _ _ _ _ _ l.connection.number c.args.connection.now.number l.invariant.same_number (omega (arith, l.invariant.below, c.min-room.ensures, length-take c.min-room.result c.deref_mut.result.now)) l.invariant.progress

pub turn-requires-clause-may_end : goal.turn-requires-clause-may_end
turn-requires-clause-may_end g c =
    let l = c.loop-total in
    let number = c.args.connection.now.number in
    subst (λ (n : ℕ). MayEnd (g.S.Session.served n l.session) (g.S.Session.carried (g.S.Session.terms l.session) n)) (sym l.invariant.same_number)
    (subst (λ (t : Terms). MayEnd (g.S.Session.served number l.session) (g.S.Session.carried t number)) (sym l.invariant.same_terms) l.invariant.may_end)

pub turn-requires-clause-says : goal.turn-requires-clause-says
turn-requires-clause-says g c =
    let l = c.loop-total in
    let inv = l.invariant in
    let p = inv.progress in
    let number = c.args.connection.now.number in
    let terms = g.S.Session.terms c.args.session.now in
    let start = told (g.L.Source.given c.args.link.now) (g.L.Source.left c.args.link.now) (g.L.Sink.taken c.args.link.now) in
    λ read piece same given.
    says_as g.A.Access.ran l.access (g.L.Sink.permits read) (g.L.Sink.taken l.link) l.connection.taken (λ k. g.S.Session.served k l.session) (λ t k fed. HasCarried (g.S.Session.carried t k) (fed ++ piece)) _ _ _ _ inv.same_number inv.same_terms
    (says_since g.A.Access.ran c.args.access.now l.access g.met.A.Access.ran_more (g.L.Sink.permits read) (g.L.Sink.permits read) (g.L.Sink.taken c.args.link.now) (g.L.Sink.taken l.link) (λ text may. may, inv.lasts)
    (λ fed. HasCarried (g.S.Session.carried terms number) (fed ++ piece)) (HasCarried (g.S.Session.carried terms number) (p.bytes ++ piece))
    l.connection.taken p.bytes p.calls p.text (g.S.Session.served number l.session) (λ calls text e. e) p.made p.wrote p.counted p.served
    (c.requires.says read (p.bytes ++ piece) (g.L.Object.same_trans _ _ _ inv.same same) (appends_then _ _ _ p.bytes piece p.read given)))

pub close-requires-clause-says : goal.close-requires-clause-says
close-requires-clause-says g c =
    let l = c.loop-total in
    let inv = l.invariant in
    let start = told (g.L.Source.given c.args.link.now) (g.L.Source.left c.args.link.now) (g.L.Sink.taken c.args.link.now) in
    let went = c.in-Ok.ensures in
    let now = c.turn.new in
    let number = c.args.connection.now.number in
    let left = g.L.Source.left now.link in
    let p = progress_turn start _ (told (g.L.Source.given now.link) left (g.L.Sink.taken now.link)) _ _ (λ calls. g.A.Access.ran c.args.access.now calls now.access)
    (λ xs ys p q. g.met.A.Access.ran_more _ _ _ xs ys p q) _ _ _ _ _ inv.same_number (λ k. g.S.Session.served k l.session) (λ k. g.S.Session.served k now.session) c.in-Ok.len inv.progress went.goes in
    let terms = g.S.Session.terms c.args.session.now in
    let says = says_as g.A.Access.ran now.access (g.L.Sink.permits now.link) (g.L.Sink.taken now.link) now.connection.taken (λ k. g.S.Session.closing k now.session left c.in-Some.talk) (λ t k. HasCarried (g.S.Session.carried t k)) _ _ _ _ (went.number ∙ inv.same_number) (went.terms ∙ inv.same_terms)
    (says_since g.A.Access.ran c.args.access.now now.access g.met.A.Access.ran_more (g.L.Sink.permits now.link) (g.L.Sink.permits now.link) (g.L.Sink.taken c.args.link.now) (g.L.Sink.taken now.link) (λ text may. may, λ none. went.lasts (inv.lasts none))
    (HasCarried (g.S.Session.carried terms number)) (HasCarried (g.S.Session.carried terms number) p.bytes)
    now.connection.taken p.bytes p.calls p.text (g.S.Session.closing number now.session left c.in-Some.talk) (λ calls text e. e) p.made p.wrote p.counted
    (c.in-Some.ensures.closing number left p.bytes p.calls p.text went.end p.served) (c.requires.says now.link p.bytes (g.L.Object.same_trans _ _ _ inv.same went.same) p.read)) in
    λ at calls text made goes. says at calls text made (goes left)

pub close-requires-clause-so_far : goal.close-requires-clause-so_far
close-requires-clause-so_far g c =
    let l = c.loop-total in
    let start = told (g.L.Source.given c.args.link.now) (g.L.Source.left c.args.link.now) (g.L.Sink.taken c.args.link.now) in
    let went = c.in-Ok.ensures in
    let now = c.turn.new in
    let p = progress_turn start _ (told (g.L.Source.given now.link) (g.L.Source.left now.link) (g.L.Sink.taken now.link)) _ _ (λ calls. g.A.Access.ran c.args.access.now calls now.access)
    (λ xs ys p q. g.met.A.Access.ran_more _ _ _ xs ys p q) _ _ _ _ _ l.invariant.same_number (λ k. g.S.Session.served k l.session) (λ k. g.S.Session.served k now.session) c.in-Ok.len l.invariant.progress went.goes in
    so_far_of (λ k. g.S.Session.served k now.session) _ _ _ _ _ 0 now.connection.number c.args.connection.now.number (went.number ∙ l.invariant.same_number) (omega (arith, l.invariant.below, went.room, c.min-room.ensures, length-take c.min-room.result c.deref_mut.result.now)) p

pub loop-total-preserved : goal.loop-total-preserved
loop-total-preserved g c =
    let l = c.loop-total in
    let inv = l.invariant in
    let start = told (g.L.Source.given c.args.link.now) (g.L.Source.left c.args.link.now) (g.L.Sink.taken c.args.link.now) in
    let went = c.in-Ok.ensures in
    let now = c.turn.new in
    let number = c.args.connection.now.number in
    record {
      some = fits_refilled c.may_be_long-long.result _ _ _ _ _ l.buf.ok.0 inv.some c.fit.ensures;
      progress = progress_turn start _ (told (g.L.Source.given now.link) (g.L.Source.left now.link) (g.L.Sink.taken now.link)) _ _ (λ calls. g.A.Access.ran c.args.access.now calls now.access)
          (λ xs ys p q. g.met.A.Access.ran_more _ _ _ xs ys p q) _ _ _ _ _ inv.same_number (λ k. g.S.Session.served k l.session) (λ k. g.S.Session.served k now.session) c.in-Ok.len inv.progress went.goes;
      idle = went.idle;
      may_end = subst (λ (t : Terms). MayEnd (g.S.Session.served number now.session) (g.S.Session.carried t number)) (went.terms ∙ inv.same_terms) (c.in_default.ensures.may_end number);
      same_terms = went.terms ∙ inv.same_terms;
      same_number = went.number ∙ inv.same_number;
      may = rw (← inv.same_number) went.may;
      extent = omega (arith, inv.extent, went.extent);
      below = omega (arith, inv.below, went.room, c.min-room.ensures, length-take c.min-room.result c.deref_mut.result.now);
      same = g.L.Object.same_trans _ _ _ inv.same went.same;
      lasts = λ none. went.lasts (inv.lasts none);
      reads = quiet_fine _ _ _ _ _ went.reads ∙ inv.reads;
      writes = quiet_fine _ _ _ _ _ went.writes ∙ inv.writes;
    }

pub returns-in-Err : goal.returns-in-Err
returns-in-Err g c =
    let l = c.loop-total in
    let start = told (g.L.Source.given c.args.link.now) (g.L.Source.left c.args.link.now) (g.L.Sink.taken c.args.link.now) in
    record {
      serves = serves_as (λ t. g.S.Session.carried t c.args.connection.now.number) _ _ _ _ _ _ _ _ _ _ l.invariant.same_terms (serves_turn start _ _ _ _ _
          (λ xs ys p q. g.met.A.Access.ran_more _ _ _ xs ys p q) _ _ _ _ _ l.invariant.same_number (λ k. g.S.Session.served k l.session) (g.S.Session.carried (g.S.Session.terms l.session))
          c.in-Err.talk l.invariant.progress c.in-Err.ensures.halts);
      reads = counts_told _ _ _ _ _ _ l.invariant.reads c.in-Err.ensures.reads;
      writes = counts_told _ _ _ _ _ _ l.invariant.writes c.in-Err.ensures.writes;
      same = g.L.Object.same_trans _ _ _ l.invariant.same c.in-Err.ensures.same;
    }

pub returns-in-Some : goal.returns-in-Some
returns-in-Some g c =
    let l = c.loop-total in
    let start = told (g.L.Source.given c.args.link.now) (g.L.Source.left c.args.link.now) (g.L.Sink.taken c.args.link.now) in
    let went = c.in-Ok.ensures in
    let now = c.turn.new in
    let number = c.args.connection.now.number in
    let writes = g.met.L.Link.writes_keep _ _ c.close.ensures.apart in
    let p = progress_turn start _ (told (g.L.Source.given now.link) (g.L.Source.left now.link) (g.L.Sink.taken now.link)) _ _ (λ calls. g.A.Access.ran c.args.access.now calls now.access)
    (λ xs ys p q. g.met.A.Access.ran_more _ _ _ xs ys p q) _ _ _ _ _ l.invariant.same_number (λ k. g.S.Session.served k l.session) (λ k. g.S.Session.served k now.session) c.in-Ok.len l.invariant.progress went.goes in
    record {
      serves = serves_as (λ t. g.S.Session.carried t number) _ _ _ _ _ _ _ _ _ _ (went.terms ∙ l.invariant.same_terms) (serves_close start _ _ _ _ _ _ _ _ _ _ _ _ _ _
          (λ k. g.S.Session.served k now.session) (λ k left. g.S.Session.closing k now.session left c.in-Some.talk) (g.S.Session.carried (g.S.Session.terms now.session)) c.close.result
          (λ xs ys p q. g.met.A.Access.ran_more _ _ _ xs ys p q) (went.number ∙ l.invariant.same_number) writes.0 writes.1 p (λ fed calls text s. c.in-Some.ensures.closing number
          (g.L.Source.left now.link) fed calls text went.end s) c.close.ensures.closes);
      reads = counts_none _ _ _ c.close.ensures.unread (writes.2 ∙ quiet_fine _ _ _ _ _ went.reads ∙ l.invariant.reads);
      writes = counts_from _ _ _ _ _ (quiet_fine _ _ _ _ _ went.writes ∙ l.invariant.writes) (λ is. is) (λ is. is) c.close.ensures.writes;
      same = g.L.Object.same_trans _ _ _ (g.L.Object.same_trans _ _ _ l.invariant.same went.same) c.close.ensures.same;
    }
