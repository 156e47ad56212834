-- What a piece, and the bytes before it that weren't read, do of a body that is read past.
use Rattle.std.proofs.Common.{◌+◌, ◌-◌, ◌∙◌, refl, ap, arith}
use Rattle.http_edge.specs.declared.past.Past.{Past}
use Rattle.http_edge.proofs.NextLaws.{window}
use Rattle.http_edge.proofs.PastLaws.{breaks_past, ends_after, ends_past, goes_past, pass_inside, place_few}
use Rattle.http_edge.proofs.past.Past.read_all.Goals as goal

pub overflow_sub-result : goal.overflow_sub-result
overflow_sub-result c =
    let b = c.requires.begins in
    let had = c.requires.had in
    let later = ends_after c.args.self.now c.args.all.now b.0 c.pass-used.result c.requires.past b.1 c.pass-used.ensures c.in-Whole.is in
    omega (arith, later, had)

pub overflow_add-result : goal.overflow_add-result
overflow_add-result c =
    let inside = pass_inside _ _ _ _ c.pass-used.ensures in
    let room = c.requires.room in
    omega (arith, inside, room)

pub overflow_add-result-in-Whole : goal.overflow_add-result-in-Whole
overflow_add-result-in-Whole c =
    let inside = pass_inside _ _ _ _ c.pass-used.ensures in
    let room = c.requires.room in
    omega (arith, inside, room)

pub overflow_add-self : goal.overflow_add-self
overflow_add-self c =
    let inside = pass_inside _ _ _ _ c.pass-used.ensures in
    let room = c.requires.room in
    omega (arith, inside, room)

pub overflow_add-self-in-Bad : goal.overflow_add-self-in-Bad
overflow_add-self-in-Bad c =
    let inside = pass_inside _ _ _ _ c.pass-used.ensures in
    let room = c.requires.room in
    omega (arith, inside, room)

pub overflow_add-at : goal.overflow_add-at
overflow_add-at c =
    let inside = pass_inside _ _ _ _ c.pass-used.ensures in
    let room = c.requires.room in
    let few = place_few c.in-Bad.why (c.args.self.now.read + c.pass-used.result.used) in
    let is = c.place.ensures in
    omega (arith, inside, room, few, is)

pub returns-in-Whole-clause-passes : goal.returns-in-Whole-clause-passes
returns-in-Whole-clause-passes c = λ piece e.
    let h = c.args.self.now in
    let p = c.pass-used.result in
    ends_past h c.args.all.now piece p (p.used - c.args.had) (h.at + (h.read + p.used)) c.requires.past e c.pass-used.ensures c.in-Whole.is (ap (λ n. p.used - n) c.requires.had) refl

pub returns-in_ok-unread-in-Open-clause-passes : goal.returns-in_ok-unread-in-Open-clause-passes
returns-in_ok-unread-in-Open-clause-passes c = λ piece e.
    let h = c.args.self.now in
    let all = c.args.all.now in
    let p = c.pass-used.result in
    let new : Past = record h { unread = c.in_ok-unread-in-Open.unread; stage = c.in-Open.stage; held = p.held; read = h.read + p.used } in
    (goes_past h new all piece p c.in-Open.stage c.requires.past e c.pass-used.ensures c.in-Open.is c.requires.room refl refl refl refl refl (c.in_ok-unread-in-Open.ensures.items ∙ window all p.used)).1

pub returns-in_ok-unread-in-Open-clause-past : goal.returns-in_ok-unread-in-Open-clause-past
returns-in_ok-unread-in-Open-clause-past c =
    let h = c.args.self.now in
    let all = c.args.all.now in
    let p = c.pass-used.result in
    let b = c.requires.begins in
    let new : Past = record h { unread = c.in_ok-unread-in-Open.unread; stage = c.in-Open.stage; held = p.held; read = h.read + p.used } in
    (goes_past h new all b.0 p c.in-Open.stage c.requires.past b.1 c.pass-used.ensures c.in-Open.is c.requires.room refl refl refl refl refl (c.in_ok-unread-in-Open.ensures.items ∙ window all p.used)).0

pub returns-in-Bad-clause-passes : goal.returns-in-Bad-clause-passes
returns-in-Bad-clause-passes c = λ piece e.
    let h = c.args.self.now in
    breaks_past h c.args.all.now piece c.pass-used.result c.in-Bad.why c.place.result (h.at + c.place.result) e c.pass-used.ensures c.in-Bad.is c.place.ensures refl
