use Rattle.std.proofs.Common.{rules, ◌≡◌, ◌∙◌, Some, length, refl, ap, subst, arith, sym}
use Rattle.std.specs.Prelude.{◌<◌, Option, None, IfNone, IfSome}
use Rattle.desk_access.specs.Carried.{Carried}
use Rattle.hec_session.specs.declared.tokens.Tokens.{Tokens}
use Rattle.conn_serve.specs.declared.hec.asked.Asked.{Asked}
use Rattle.conn_serve.specs.Done.{Anyway}
use Rattle.conn_serve.specs.Handled.{Handled, Served}
use Rattle.conn_serve.specs.Hec.{hec}
use Rattle.conn_serve.specs.declared.hec.intake.Intake.{Intake}
use Rattle.conn_serve.specs.HecReading.{GivesKept, IsLeft, IsSound, ReadsKept, WasRead, waits_of}
use Rattle.conn_serve.specs.Says.{CouldEnd}
use Rattle.conn_serve.specs.Terms.{terms_with}
use Rattle.conn_serve.proofs.Saying.{says_then}
use Rattle.conn_serve.proofs.Leading.{done_start, done_then, done_ends, so_far_then}
use Rattle.conn_serve.proofs.HecSessions.{due_carried, kept_few, kept_read, kept_sound, kept_starved, served_item, served_halt, served_left, served_same}
use Rattle.conn_serve.proofs.Faults.{counts_fine, counts_other, counts_passed, err_of, memory_is_whole, quiet_fine}
use Rattle.desk_access.specs.Endings.{IsAtMove}
use Rattle.conn_serve.proofs.hec.session.HecSessionSession.serve.Goals as goal

pub loop-asked-init : goal.loop-asked-init
loop-asked-init g c = record {
  done = done_start _ _ _ _ (g.met.A.Access.ran_none _);
  so_far = c.requires.so_far;
  same_core = refl;
  same_met = refl;
  same_number = refl;
  may = c.requires.may;
  extent = omega arith;
  writes = refl;
  same = g.L.Object.same_refl _;
  apart = g.met.L.Sink.apart_refl _;
}

pub serve_item-requires-clause-early : goal.serve_item-requires-clause-early
serve_item-requires-clause-early g c =
    let l = c.loop-asked in
    let was = c.args.self.now in
    kept_few was.core c.args.connection.now.number l.self.intake was.met l.connection.taken 0 l.invariant.so_far

pub serve_item-requires-clause-says : goal.serve_item-requires-clause-says
serve_item-requires-clause-says g c =
    let l = c.loop-asked in
    let inv = l.invariant in
    let was = c.args.self.now in
    let number = c.args.connection.now.number in
    let after = c.next_asked.new.self in
    let given = subst (λ (core : Tokens). GivesKept core l.self.intake (Some c.in-Some.asked) after) inv.same_core (subst (λ (next : Option Asked). GivesKept l.self.core l.self.intake next after) c.in-Some.is c.in_ok-asked.ensures.gives) in
    let says = says_then g.A.Access.ran c.args.access.now l.access g.met.A.Access.ran_more _ _ _ _ (g.met.L.Sink.permits_last _ _ inv.apart) (CouldEnd (Carried (hec was.core number))) _ _ _
    (Served (Handled (hec was.core number)) (ReadsKept was.core l.self.intake was.met)) inv.done c.requires.says in
    λ now calls text made due. says now calls text made (due_carried was.core number l.connection.taken l.self.intake after was.met c.in-Some.asked given l.connection.number inv.same_number calls text due)

pub loop-asked-preserved : goal.loop-asked-preserved
loop-asked-preserved g c =
    let l = c.loop-asked in
    let inv = l.invariant in
    let was = c.args.self.now in
    let call = c.in_ok-serve_item.ensures in
    let number = c.args.connection.now.number in
    let after = c.next_asked.new.self in
    let given = subst (λ (core : Tokens). GivesKept core l.self.intake (Some c.in-Some.asked) after) inv.same_core (subst (λ (next : Option Asked). GivesKept l.self.core l.self.intake next after) c.in-Some.is c.in_ok-asked.ensures.gives) in
    let item = served_item was.core number _ _ _ _ _ l.self.intake after was.met c.in-Some.asked given l.connection.number inv.same_number call.goes in
    record {
      done = done_then _ _ _ _ _ _ _ _ _ _ _ (Served (Handled (hec was.core number)) (ReadsKept was.core after was.met)) (λ xs ys p q. g.met.A.Access.ran_more _ _ _ xs ys p q) inv.done item;
      so_far = so_far_then _ _ _ _ _ _ _ _ inv.so_far item;
      same_core = inv.same_core;
      same_met = inv.same_met;
      same_number = call.number ∙ inv.same_number;
      may = rw (← inv.same_number) call.may;
      extent = omega (arith, inv.extent, c.in_ok-asked.ensures.extent);
      writes = quiet_fine _ _ _ _ _ call.writes ∙ inv.writes;
      same = g.L.Object.same_trans _ _ _ inv.same call.same;
      apart = g.met.L.Sink.apart_trans _ _ _ inv.apart call.apart;
    }

pub loop-asked-smaller : goal.loop-asked-smaller
loop-asked-smaller g c =
    let less = subst (λ (next : Option Asked). IfSome next (λ _. waits_of c.next_asked.new.self < waits_of c.loop-asked.self.intake)) c.in-Some.is c.in_ok-asked.ensures.less in
    less

pub returns-clause-goes : goal.returns-clause-goes
returns-clause-goes g c =
    let l = c.loop-asked in
    let was = c.args.self.now in
    let number = c.args.connection.now.number in
    let after = c.next_asked.new.self in
    let from = Served (Handled (hec was.core number)) (ReadsKept was.core was.intake was.met) in
    let gives = subst (λ (core : Tokens). GivesKept core l.self.intake None after) l.invariant.same_core (subst (λ (next : Option Asked). GivesKept l.self.core l.self.intake next after) c.in_default.is c.in_ok-asked.ensures.gives) in
    served_same _ _ _ _ _ from number was.core l.self.core after was.met l.self.met l.invariant.same_core l.invariant.same_met (served_left was.core number _ _ _ _ _ from l.self.intake after was.met gives l.invariant.done)

pub returns-clause-idle : goal.returns-clause-idle
returns-clause-idle g c =
    let l = c.loop-asked in
    let left = subst (λ (next : Option Asked). IfNone next (IsLeft c.next_asked.new.self)) c.in_default.is c.in_ok-asked.ensures.left in
    record { none = left.none; space = left.space; going = left.going; found = λ e. let starved = c.is_starved.ensures.1 (sym l.invariant.same_met ∙ e) in let fed = c.if-is_starved.false in cc }

pub returns-then-is_starved : goal.returns-then-is_starved
returns-then-is_starved g c =
    let now = c.args.self.now in
    let number = c.args.connection.now.number in
    let served = Served (Handled (hec now.core number)) (ReadsKept now.core now.intake now.met) in
    record {
      halts = done_ends _ _ _ served (Anyway (Carried (hec now.core number)) _) (g.met.A.Access.ran_none _) (λ fed called said s left more. kept_starved now.core number now.intake now.met left fed called said s more);
      idle = tt;
      extent = tt;
      terms = tt;
      goes = tt;
      only = tt;
      number = refl;
      may = tt;
      writes = counts_other _ _ _ _ _ memory_is_whole refl;
      same = g.L.Object.same_refl _;
      apart = g.met.L.Sink.apart_refl _;
    }

pub returns-in_err-asked : goal.returns-in_err-asked
returns-in_err-asked g c =
    let l = c.loop-asked in
    let was = c.args.self.now in
    let number = c.args.connection.now.number in
    let talk = c.in_err-asked.field-0.0 in
    let served = Served (Handled (hec was.core number)) (ReadsKept was.core l.self.intake was.met) in
    rw (err_of c.from_residual.result talk c.from_residual.ensures.1)
    (record {
      goes = tt;
      halts = (done_then _ _ _ _ _ _ _ _ _ _ served (Anyway (Carried (hec was.core number)) talk) (λ xs ys p q. g.met.A.Access.ran_more _ _ _ xs ys p q) l.invariant.done (done_ends _ _ _ served
          (Anyway (Carried (hec was.core number)) talk) (g.met.A.Access.ran_none _) (λ fed called said s left more. rw c.in_err-asked.ensures.starved
          (kept_starved was.core number l.self.intake was.met left fed called said s more))));
      only = subst IsAtMove (sym c.in_err-asked.ensures.starved) tt;
      idle = tt;
      extent = tt;
      terms = tt;
      number = l.invariant.same_number;
      may = tt;
      writes = counts_other _ _ _ _ _ (λ is. memory_is_whole (sym c.in_err-asked.ensures.starved ∙ is)) l.invariant.writes;
      same = l.invariant.same;
      apart = l.invariant.apart;
    })

pub returns-in_err-serve_item : goal.returns-in_err-serve_item
returns-in_err-serve_item g c =
    let l = c.loop-asked in
    let inv = l.invariant in
    let was = c.args.self.now in
    let call = c.in_err-serve_item.ensures in
    let number = c.args.connection.now.number in
    let talk = c.in_err-serve_item.field-0.0 in
    let after = c.next_asked.new.self in
    let given = subst (λ (core : Tokens). GivesKept core l.self.intake (Some c.in-Some.asked) after) inv.same_core (subst (λ (next : Option Asked). GivesKept l.self.core l.self.intake next after) c.in-Some.is c.in_ok-asked.ensures.gives) in
    rw (err_of c.from_residual-in_err-serve_item.result talk c.from_residual-in_err-serve_item.ensures.1)
    (record {
      goes = tt;
      halts = (done_then _ _ _ _ _ _ _ _ _ _ _ (Anyway (Carried (hec was.core number)) talk) (λ xs ys p q. g.met.A.Access.ran_more _ _ _ xs ys p q) inv.done
          (served_halt was.core number _ _ _ _ _ l.self.intake after was.met c.in-Some.asked given l.connection.number inv.same_number talk call.only call.halts));
      only = call.only;
      idle = tt;
      extent = tt;
      terms = tt;
      number = call.number ∙ inv.same_number;
      may = tt;
      writes = counts_passed _ _ _ _ _ _ _ inv.writes call.writes;
      same = g.L.Object.same_trans _ _ _ inv.same call.same;
      apart = g.met.L.Sink.apart_trans _ _ _ inv.apart call.apart;
    })

pub returns-clause-halts : goal.returns-clause-halts
returns-clause-halts g c = tt

pub returns-clause-only : goal.returns-clause-only
returns-clause-only g c = tt

pub returns-clause-terms : goal.returns-clause-terms
returns-clause-terms g c = ap terms_with c.loop-asked.invariant.same_core

pub returns-clause-number : goal.returns-clause-number
returns-clause-number g c = c.loop-asked.invariant.same_number

pub returns-clause-writes : goal.returns-clause-writes
returns-clause-writes g c = counts_fine _ _ _ _ _ c.loop-asked.invariant.writes

pub returns-clause-same : goal.returns-clause-same
returns-clause-same g c = c.loop-asked.invariant.same

pub returns-clause-apart : goal.returns-clause-apart
returns-clause-apart g c = c.loop-asked.invariant.apart

pub next_asked-requires-clause-sound : goal.next_asked-requires-clause-sound
next_asked-requires-clause-sound g c =
    let l = c.loop-asked in
    subst (λ (core : Tokens). IsSound core l.self.intake.window l.self.intake.refused) (sym l.invariant.same_core) (kept_sound c.args.self.now.core c.args.connection.now.number l.self.intake c.args.self.now.met l.connection.taken 0 l.invariant.so_far)

pub next_asked-requires-clause-read : goal.next_asked-requires-clause-read
next_asked-requires-clause-read g c =
    let l = c.loop-asked in
    kept_read c.args.self.now.core c.args.connection.now.number l.self.intake c.args.self.now.met l.connection.taken 0 l.invariant.so_far
