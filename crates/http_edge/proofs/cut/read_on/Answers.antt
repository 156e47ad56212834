-- What has been read of a cut head.
use Rattle.std.proofs.Common.{◌≡◌, ℕ, ◌+◌, ◌∙◌, List, length, sym, subst, arith}
use Rattle.http_edge.specs.declared.look.Look.{Look}
use Rattle.http_edge.specs.declared.look.Look.TheVariants.{Open, Bad}
use Rattle.http_edge.specs.Parts.{IsPart}
use Rattle.http_edge.specs.Steps.{Looks}
use Rattle.http_edge.proofs.CutLaws.{joined_one, joined_run, long_open, run_inside}
use Rattle.http_edge.proofs.PartLaws.{part_open}
use Rattle.http_edge.proofs.cut.read_on.Goals as goal

-- what a look at the bytes tells
seen : (b v : List ℕ) (r s : Look) → v ≡ b → r ≡ s → Looks v r → Looks b s
seen b v r s e f x = subst (Looks b) f (subst (λ (w : List ℕ). Looks w r) e x)

pub returns-then-len-eq-MOST_HEAD-clause-goes_on : goal.returns-then-len-eq-MOST_HEAD-clause-goes_on
returns-then-len-eq-MOST_HEAD-clause-goes_on c =
    let l = c.parts in
    let r = c.add_run-ran in
    let e = joined_run c.args.unread.now.items l.unread.items r.new.unread.items c.args.piece.now l.from r.result.used l.invariant.1 r.ensures.items in
    let n : length r.new.unread.items ≡ 16384 = sym (c.len.ensures ∙ r.new.unread.ok.0) ∙ c.if-len-eq-MOST_HEAD.true in
    ((l.from + r.result.used, run_inside c.args.piece.now l.from r.result.used l.invariant.0 r.ensures.inside, e), long_open r.new.unread.items (part_open r.result.part r.new.unread.items r.ensures.part) n)

pub returns-then-len-eq-MOST_HEAD-clause-added : goal.returns-then-len-eq-MOST_HEAD-clause-added
returns-then-len-eq-MOST_HEAD-clause-added c =
    let l = c.parts in
    let r = c.add_run-ran in
    (l.from + r.result.used, joined_run c.args.unread.now.items l.unread.items r.new.unread.items c.args.piece.now l.from r.result.used l.invariant.1 r.ensures.items)

pub returns-in_err-look_at-clause-added : goal.returns-in_err-look_at-clause-added
returns-in_err-look_at-clause-added c =
    let l = c.parts in
    let r = c.add_run-ran in
    let e = joined_run c.args.unread.now.items l.unread.items r.new.unread.items c.args.piece.now l.from r.result.used l.invariant.1 r.ensures.items in
    (l.from + r.result.used + 1, joined_one c.args.unread.now.items r.new.unread.items c.append.new.bytes.items c.args.piece.now (l.from + r.result.used) e c.append.ensures.items)

pub parts-preserved : goal.parts-preserved
parts-preserved c =
    let l = c.parts in
    let r = c.add_run-ran in
    let new = c.append.new.bytes.items in
    let e = joined_run c.args.unread.now.items l.unread.items r.new.unread.items c.args.piece.now l.from r.result.used l.invariant.1 r.ensures.items in
    let i = run_inside c.args.piece.now l.from r.result.used l.invariant.0 r.ensures.inside in
    let more = c.if-from-piece.false in
    let x = seen new c.deref.result.now c.in_ok-look_at.field-0 Open c.deref.ensures.value c.in-Open.is c.in_ok-look_at.ensures in
    let k = c.append.ensures.capacity in
    let j = r.ensures.room in (
      omega (arith, i, more),
      joined_one c.args.unread.now.items r.new.unread.items new c.args.piece.now (l.from + r.result.used) e c.append.ensures.items,
      x.0,
      omega (arith, j, k),
      subst (IsPart c.part_of-now.result) c.deref-in-Open.ensures.value c.part_of-now.ensures,
    )

pub returns-in-Bad-clause-goes_on : goal.returns-in-Bad-clause-goes_on
returns-in-Bad-clause-goes_on c =
    let l = c.parts in
    let r = c.add_run-ran in
    let new = c.append.new.bytes.items in
    let e = joined_run c.args.unread.now.items l.unread.items r.new.unread.items c.args.piece.now l.from r.result.used l.invariant.1 r.ensures.items in
    let i = run_inside c.args.piece.now l.from r.result.used l.invariant.0 r.ensures.inside in
    let more = c.if-from-piece.false in
    let x = seen new c.deref.result.now c.in_ok-look_at.field-0 (Bad c.in-Bad.why) c.deref.ensures.value c.in-Bad.is c.in_ok-look_at.ensures in
    ((l.from + r.result.used + 1, omega (arith, i, more), joined_one c.args.unread.now.items r.new.unread.items new c.args.piece.now (l.from + r.result.used) e c.append.ensures.items), x)

pub returns-in-Bad-clause-added : goal.returns-in-Bad-clause-added
returns-in-Bad-clause-added c =
    let l = c.parts in
    let r = c.add_run-ran in
    let e = joined_run c.args.unread.now.items l.unread.items r.new.unread.items c.args.piece.now l.from r.result.used l.invariant.1 r.ensures.items in
    (l.from + r.result.used + 1, joined_one c.args.unread.now.items r.new.unread.items c.append.new.bytes.items c.args.piece.now (l.from + r.result.used) e c.append.ensures.items)

pub returns-in-Whole-clause-goes_on : goal.returns-in-Whole-clause-goes_on
returns-in-Whole-clause-goes_on c =
    let l = c.parts in
    let r = c.add_run-ran in
    let p = c.args.piece.now in
    let e = joined_run c.args.unread.now.items l.unread.items r.new.unread.items p l.from r.result.used l.invariant.1 r.ensures.items in
    let i = run_inside p l.from r.result.used l.invariant.0 r.ensures.inside in
    let more = c.if-from-piece.false in
    (omega (arith, i, more), joined_one c.args.unread.now.items r.new.unread.items c.append.new.bytes.items p (l.from + r.result.used) e c.append.ensures.items)

pub returns-in-Whole-clause-added : goal.returns-in-Whole-clause-added
returns-in-Whole-clause-added c =
    let l = c.parts in
    let r = c.add_run-ran in
    let e = joined_run c.args.unread.now.items l.unread.items r.new.unread.items c.args.piece.now l.from r.result.used l.invariant.1 r.ensures.items in
    (l.from + r.result.used + 1, joined_one c.args.unread.now.items r.new.unread.items c.append.new.bytes.items c.args.piece.now (l.from + r.result.used) e c.append.ensures.items)
