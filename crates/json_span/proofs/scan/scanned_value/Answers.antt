-- The scan's exits.
use Rattle.std.proofs.Common.{◌≡◌, ◌+◌, ◌-◌, length, get_or, true, arith, subst, None, inl, inr}
use Rattle.std.proofs.lemmas.Bool.{cases_eq}
use Rattle.std.specs.Prelude.{Ok, Err}
use Rattle.json_span.specs.Strings.{is_plain}
use Rattle.json_span.specs.Plain.{ArePlain}
use Rattle.json_span.specs.Reading.{state_of}
use Rattle.json_span.specs.Spans.{IsFaultPlace}
use Rattle.json_span.specs.declared.span.JsonFault.TheVariants.{Cut, NotJson, TooDeep}
use Rattle.json_span.proofs.ScanLaws.{Found, Scan, scan_stays, runs_more, found_more, first_bad, first_end, cut_here, not_json_here, deep_here}
use Rattle.json_span.proofs.Values.{first_within}
use Rattle.json_span.proofs.FaultPlaces.{fault_found}
use Rattle.json_span.proofs.Exact.{exact}
use Rattle.json_span.proofs.scan.scanned_value.Goals as goal

pub returns-in-Some : goal.returns-in-Some
returns-in-Some c =
    let l = c.loop-i in
    let v = l.invariant in
    let b = c.args.bytes.now in
    let w = c.after_space-start in
    let f = first_bad c.args.levels b c.args.at w.result l.i c.in-Some.end (state_of l.reading) l.end w.ensures.spaces v.order c.loop-i-test.true v.runs c.in-Bad.ensures.turn v.found c.in-Some.is in
    let e = exact c.args.levels b c.args.at (Ok (record { start = w.result; end = c.in-Some.end })) in
    record { ok = λ x. e (Ok x) f; within = first_within c.args.levels b c.args.at (record { start = w.result; end = c.in-Some.end }) f; cut = e (Err Cut) f; not_json = λ p. e (Err (NotJson p)) f; too_deep = λ p. e (Err (TooDeep p)) f }

pub returns-in-None : goal.returns-in-None
returns-in-None c =
    let l = c.loop-i in
    let v = l.invariant in
    let b = c.args.bytes.now in
    let w = c.after_space-start in
    let s = state_of l.reading in
    let found : Found c.args.levels b w.result l.i None = subst (Found c.args.levels b w.result l.i) c.in-None.is v.found in
    let p : IsFaultPlace b c.args.at l.i c.fault_place.result = fault_found c.args.levels b c.args.at w.result l.i c.fault_place.result s w.ensures.spaces v.order (omega (arith, c.loop-i-test.true)) v.runs c.fault_place.ensures.tail c.fault_place.ensures.other in
    let f = not_json_here c.args.levels b c.args.at w.result l.i c.fault_place.result s w.ensures.spaces w.ensures.stops v.order c.loop-i-test.true v.runs c.in-Bad.ensures.turn found p in
    let e = exact c.args.levels b c.args.at (Err (NotJson c.fault_place.result)) in
    record { ok = λ x. e (Ok x) f; within = tt; cut = e (Err Cut) f; not_json = λ p. e (Err (NotJson p)) f; too_deep = λ p. e (Err (TooDeep p)) f }

pub returns-in-Deep : goal.returns-in-Deep
returns-in-Deep c =
    let l = c.loop-i in
    let v = l.invariant in
    let b = c.args.bytes.now in
    let w = c.after_space-start in
    let f = deep_here c.args.levels b c.args.at w.result l.i (state_of l.reading) w.ensures.spaces w.ensures.stops v.order c.loop-i-test.true v.runs c.in-Deep.ensures.turn in
    let e = exact c.args.levels b c.args.at (Err (TooDeep l.i)) in
    record { ok = λ x. e (Ok x) f; within = tt; cut = e (Err Cut) f; not_json = λ p. e (Err (NotJson p)) f; too_deep = λ p. e (Err (TooDeep p)) f }

pub returns-in-Some-end : goal.returns-in-Some-end
returns-in-Some-end c =
    let l = c.loop-i in
    let v = l.invariant in
    let b = c.args.bytes.now in
    let w = c.after_space-start in
    let f = first_end c.args.levels b c.args.at w.result l.i c.in-Some-end.end l.end w.ensures.spaces (omega (arith, c.loop-i-test.false)) v.found c.in-Some-end.is in
    let e = exact c.args.levels b c.args.at (Ok (record { start = w.result; end = c.in-Some-end.end })) in
    record { ok = λ x. e (Ok x) f; within = first_within c.args.levels b c.args.at (record { start = w.result; end = c.in-Some-end.end }) f; cut = e (Err Cut) f; not_json = λ p. e (Err (NotJson p)) f; too_deep = λ p. e (Err (TooDeep p)) f }

pub returns-in-None-end : goal.returns-in-None-end
returns-in-None-end c =
    let l = c.loop-i in
    let v = l.invariant in
    let b = c.args.bytes.now in
    let w = c.after_space-start in
    let q : l.i ≡ length b = omega (arith, c.loop-i-test.false, v.bound) in
    let f = cut_here c.args.levels b c.args.at w.result l.i (state_of l.reading) w.ensures.spaces w.ensures.stops q v.runs (subst (Found c.args.levels b w.result l.i) c.in-None-end.is v.found) in
    let e = exact c.args.levels b c.args.at (Err Cut) in
    record { ok = λ x. e (Ok x) f; within = tt; cut = e (Err Cut) f; not_json = λ p. e (Err (NotJson p)) f; too_deep = λ p. e (Err (TooDeep p)) f }

pub loop-i-preserved : goal.loop-i-preserved
loop-i-preserved c =
    let l = c.loop-i in
    let v = l.invariant in
    let b = c.args.bytes.now in
    let w = c.after_space-start in
    let n = c.in-Go.next in
    let r = runs_more c.args.levels b w.result l.i (state_of l.reading) (state_of n) v.order c.loop-i-test.true v.runs c.in-Go.ensures.turn in
    record {
      order = omega (arith, v.order);
      bound = omega (arith, c.loop-i-test.true);
      fits = c.in-Go.ensures.fits;
      top = c.in-Go.ensures.top;
      runs = r;
      found = found_more c.args.levels b w.result l.i (state_of n) l.end c.longest-end.result v.order c.loop-i-test.true (w.ensures.stops (omega (arith, v.order, c.loop-i-test.true))) r v.found c.longest-end.ensures.yes c.longest-end.ensures.no;
    }

pub loop-i-preserved-then-stays : goal.loop-i-preserved-then-stays
loop-i-preserved-then-stays c =
    let l = c.loop-i in
    let b = c.args.bytes.now in
    let p = c.after_plain-i.ensures in
    let n : l.i + (c.after_plain-i.result - l.i) ≡ c.after_plain-i.result = omega (arith, p.order) in
    let plain : ArePlain b l.i (l.i + (c.after_plain-i.result - l.i)) = λ k from to. elim (cases_eq l.i k) [
      | inl here ↦ subst (λ j. is_plain (get_or b j 0) ≡ true) here (c.stays.ensures.plain c.if-stays.true)
      | inr other ↦ p.plain k (omega (arith, from, other)) (omega (arith, to, n))
    ] in
    subst (λ m. Scan c.args.levels b c.after_space-start.result m l.reading l.end) n
    (scan_stays c.args.levels b c.after_space-start.result l.i l.reading l.end (c.after_plain-i.result - l.i) (omega (arith, n, p.bound)) plain c.after_space-start.ensures.stops (c.stays.ensures.step c.if-stays.true) (c.stays.ensures.inside c.if-stays.true) l.invariant)
