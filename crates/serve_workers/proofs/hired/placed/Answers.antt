use Rattle.std.proofs.Common.{ℕ, arith, ◌∷◌, [], length, length-append, refl, sym, ap, subst, ◌∙◌}
use Rattle.std.specs.Prelude.{Some}
use Rattle.std.proofs.lemmas.Iterator.{YieldsList-from_zip}
use Rattle.std.proofs.lemmas.Iterator.Adapters.{YieldsList-from_vec}
use Rattle.std.proofs.lemmas.Iterator.Consumers.{YieldsList-turn, YieldsList-end}
use Rattle.desk_access.proofs.Dividing.{callers_few}
use Rattle.serve_workers.specs.Crews.{IsReady}
use Rattle.serve_workers.specs.Answering.{MayAnswer}
use Rattle.serve_workers.proofs.Placing.{firsts, seconds, zip_few, pushed, ready_pushed, new_at, first_at}
use Rattle.serve_workers.proofs.hired.placed.Goals as goal

pub overflow_add-number : goal.overflow_add-number
overflow_add-number g c =
    let a = c.into_iter.ensures in
    let b = c.zip-post-items.ensures in
    let d = c.into_iter-post-iterator.ensures.into_iter_gives in
    let it = c.into_iter-post-iterator.result in
    let posts = YieldsList-from_vec {s = it.a} c.args.posts.items (ap (λ z. z.a.rest.items) d ∙ ap (λ z. z.rest.items) b.first ∙ a.rest) (ap (λ z. z.a.rest.len) d ∙ ap (λ z. z.rest.len) b.first ∙ a.len ∙ c.args.posts.ok.0) in
    let passes = YieldsList-from_vec {s = it.b} c.args.passes.items (ap (λ z. z.b.rest.items) d ∙ b.second.0) (ap (λ z. z.b.rest.len) d ∙ b.second.1 ∙ c.args.passes.ok.0) in
    let turn = YieldsList-turn (YieldsList-from_zip {s = it} posts passes) c.loop-post.yielded c.loop-post.post-iterator c.loop-post.yielded_by c.next.result c.next.new.self (c.in-Some.post, c.in-Some.pass) c.in-Some.is c.next.ensures.steps in
    omega (arith, turn.0, zip_few c.args.posts.items c.args.passes.items, c.args.posts.ok.0, c.requires.many.1, c.loop-post.invariant.number, callers_few g.S.Seat.of_run.division)

pub loop-post-preserved : goal.loop-post-preserved
loop-post-preserved g c =
    let a = c.into_iter.ensures in
    let b = c.zip-post-items.ensures in
    let d = c.into_iter-post-iterator.ensures.into_iter_gives in
    let it = c.into_iter-post-iterator.result in
    let posts = YieldsList-from_vec {s = it.a} c.args.posts.items (ap (λ z. z.a.rest.items) d ∙ ap (λ z. z.rest.items) b.first ∙ a.rest) (ap (λ z. z.a.rest.len) d ∙ ap (λ z. z.rest.len) b.first ∙ a.len ∙ c.args.posts.ok.0) in
    let passes = YieldsList-from_vec {s = it.b} c.args.passes.items (ap (λ z. z.b.rest.items) d ∙ b.second.0) (ap (λ z. z.b.rest.len) d ∙ b.second.1 ∙ c.args.passes.ok.0) in
    let turn = YieldsList-turn (YieldsList-from_zip {s = it} posts passes) c.loop-post.yielded c.loop-post.post-iterator c.loop-post.yielded_by c.next.result c.next.new.self (c.in-Some.post, c.in-Some.pass) c.in-Some.is c.next.ensures.steps in
    let i = c.loop-post.invariant in
    let p = c.push_reserved.ensures in
    let many = zip_few c.args.posts.items c.args.passes.items in
    let seat = g.S.Seat in
    let sits = c.beside.ensures in
    let at = new_at seat.pass_knows 0 c.args.posts.items c.args.passes.items (length c.loop-post.yielded) (c.in-Some.post, c.in-Some.pass) c.requires.new turn.0 in
    let new : IsReady seat.of_run c.loop-post.number (seat.pass_knows c.in-Some.pass) = (omega (arith, i.number, ap (λ z. (seat.pass_knows z.1).number) turn.1, at.0), omega (arith, turn.0, many, c.args.posts.ok.0, c.requires.many.1, i.number), ap (λ z. (seat.pass_knows z.1).own) turn.1 ∙ at.1) in
    let ready = subst (IsReady seat.of_run c.loop-post.number) (sym sits) new in
    let post = first_at c.args.posts.items c.args.passes.items (length c.loop-post.yielded) (c.in-Some.post, c.in-Some.pass) turn.0 ∙ ap (λ z. Some z.0) (sym turn.1) in
    let says = subst (λ (n : ℕ). MayAnswer seat.is_real seat.start seat.of_run n (g.P.Door.permits c.in-Some.post.door) c.in-Some.post.rules) (sym i.number) (c.requires.says (length c.loop-post.yielded) c.in-Some.post post) in
    record {
      doors = pushed (λ w. w.door) (λ y. y.0.door) c.loop-post.workers.items c.push_reserved.new.self.items _ c.loop-post.yielded (c.in-Some.post, c.in-Some.pass) p.items i.doors refl;
      rules = pushed (λ w. w.rules) (λ y. y.0.rules) c.loop-post.workers.items c.push_reserved.new.self.items _ c.loop-post.yielded (c.in-Some.post, c.in-Some.pass) p.items i.rules refl;
      passes = pushed (λ w. seat.knows w.seat) (λ y. seat.pass_knows y.1) c.loop-post.workers.items c.push_reserved.new.self.items _ c.loop-post.yielded (c.in-Some.post, c.in-Some.pass) p.items i.passes sits;
      ready = ready_pushed (λ w. IsReady seat.of_run w.number (seat.knows w.seat)) c.loop-post.workers.items c.push_reserved.new.self.items _ p.items i.ready ready;
      says = ready_pushed (λ w. MayAnswer seat.is_real seat.start seat.of_run w.number (g.P.Door.permits w.door) w.rules) c.loop-post.workers.items c.push_reserved.new.self.items _ p.items i.says says;
      many = omega (arith, p.len, i.many, length-append c.loop-post.yielded ((c.in-Some.post, c.in-Some.pass) ∷ []));
      number = omega (arith, i.number, length-append c.loop-post.yielded ((c.in-Some.post, c.in-Some.pass) ∷ []));
      room = omega (arith, p.capacity, i.room);
    }

pub returns-clause-doors : goal.returns-clause-doors
returns-clause-doors g c =
    let a = c.into_iter.ensures in
    let b = c.zip-post-items.ensures in
    let d = c.into_iter-post-iterator.ensures.into_iter_gives in
    let it = c.into_iter-post-iterator.result in
    let posts = YieldsList-from_vec {s = it.a} c.args.posts.items (ap (λ z. z.a.rest.items) d ∙ ap (λ z. z.rest.items) b.first ∙ a.rest) (ap (λ z. z.a.rest.len) d ∙ ap (λ z. z.rest.len) b.first ∙ a.len ∙ c.args.posts.ok.0) in
    let passes = YieldsList-from_vec {s = it.b} c.args.passes.items (ap (λ z. z.b.rest.items) d ∙ b.second.0) (ap (λ z. z.b.rest.len) d ∙ b.second.1 ∙ c.args.passes.ok.0) in
    let end = YieldsList-end (YieldsList-from_zip {s = it} posts passes) c.loop-post.yielded c.loop-post.post-iterator c.loop-post.yielded_by c.next.result c.next.new.self c.in-None.is c.next.ensures.steps in
    c.loop-post.invariant.doors ∙ firsts (λ p. p.door) c.loop-post.yielded c.args.posts.items c.args.passes.items end.0 (omega (arith, c.args.posts.ok.0, c.args.passes.ok.0, c.requires.many.0))

pub returns-clause-rules : goal.returns-clause-rules
returns-clause-rules g c =
    let a = c.into_iter.ensures in
    let b = c.zip-post-items.ensures in
    let d = c.into_iter-post-iterator.ensures.into_iter_gives in
    let it = c.into_iter-post-iterator.result in
    let posts = YieldsList-from_vec {s = it.a} c.args.posts.items (ap (λ z. z.a.rest.items) d ∙ ap (λ z. z.rest.items) b.first ∙ a.rest) (ap (λ z. z.a.rest.len) d ∙ ap (λ z. z.rest.len) b.first ∙ a.len ∙ c.args.posts.ok.0) in
    let passes = YieldsList-from_vec {s = it.b} c.args.passes.items (ap (λ z. z.b.rest.items) d ∙ b.second.0) (ap (λ z. z.b.rest.len) d ∙ b.second.1 ∙ c.args.passes.ok.0) in
    let end = YieldsList-end (YieldsList-from_zip {s = it} posts passes) c.loop-post.yielded c.loop-post.post-iterator c.loop-post.yielded_by c.next.result c.next.new.self c.in-None.is c.next.ensures.steps in
    c.loop-post.invariant.rules ∙ firsts (λ p. p.rules) c.loop-post.yielded c.args.posts.items c.args.passes.items end.0 (omega (arith, c.args.posts.ok.0, c.args.passes.ok.0, c.requires.many.0))

pub returns-clause-passes : goal.returns-clause-passes
returns-clause-passes g c =
    let a = c.into_iter.ensures in
    let b = c.zip-post-items.ensures in
    let d = c.into_iter-post-iterator.ensures.into_iter_gives in
    let it = c.into_iter-post-iterator.result in
    let posts = YieldsList-from_vec {s = it.a} c.args.posts.items (ap (λ z. z.a.rest.items) d ∙ ap (λ z. z.rest.items) b.first ∙ a.rest) (ap (λ z. z.a.rest.len) d ∙ ap (λ z. z.rest.len) b.first ∙ a.len ∙ c.args.posts.ok.0) in
    let passes = YieldsList-from_vec {s = it.b} c.args.passes.items (ap (λ z. z.b.rest.items) d ∙ b.second.0) (ap (λ z. z.b.rest.len) d ∙ b.second.1 ∙ c.args.passes.ok.0) in
    let end = YieldsList-end (YieldsList-from_zip {s = it} posts passes) c.loop-post.yielded c.loop-post.post-iterator c.loop-post.yielded_by c.next.result c.next.new.self c.in-None.is c.next.ensures.steps in
    c.loop-post.invariant.passes ∙ seconds g.S.Seat.pass_knows c.loop-post.yielded c.args.posts.items c.args.passes.items end.0 (omega (arith, c.args.posts.ok.0, c.args.passes.ok.0, c.requires.many.0))

pub returns-clause-says : goal.returns-clause-says
returns-clause-says g c = c.loop-post.invariant.says

pub returns-clause-ready : goal.returns-clause-ready
returns-clause-ready g c = c.loop-post.invariant.ready
