-- After a start line, the fields are read from their first byte on.
use Rattle.std.proofs.Common.{◌≡◌, ℕ, ◌+◌, ◌-◌, ◌<◌, ◌++◌, Bool, true, false, ap, subst, arith, get_or, take, drop, length, length-drop, length-take-le}
use Rattle.std.specs.Prelude.{IsUtf8}
use Rattle.std.specs.Bool.{OnTrue}
use Rattle.std.proofs.lemmas.List.{take_all}
use Rattle.http_edge.specs.Parts.{IsPart, IsVersion}
use Rattle.http_edge.proofs.PartLaws.{part_all, target_passed}
use Rattle.http_edge.proofs.part.after_target.Goals as goal

-- a test that is true
on_true : (b : Bool) (P : Type 0) → OnTrue b P → b ≡ true → P
on_true true P h e = h
on_true false P h e = absurd (cc)

pub returns : goal.returns
returns c =
    let b = c.args.buf.now in
    let to = c.args.to in
    let end = c.in-Some.end in
    let line = take (length b - to) (drop to b) in
    let fields = take (length line - (end + 1)) (drop (end + 1) line) in
    let inside = c.requires.inside in
    let line_is : line ≡ drop to b = take_all (length b - to) (drop to b) (let k = length-drop to b in omega (arith, k)) in
    let fields_is : fields ≡ drop (end + 1) line = take_all (length line - (end + 1)) (drop (end + 1) line) (let k = length-drop (end + 1) line in omega (arith, k)) in
    let space : get_or line 0 0 ≡ 32 = c.if-line-ne32.false in
    let some : c.args.from < to = omega (arith, c.if-from-to.false) in
    let text : IsUtf8 (take (to - c.args.from) (drop c.args.from b)) = c.in-Ok.ensures.cases.1 in
    let n : end + 1 - 1 ≡ end = omega arith in
    let version : IsVersion (take (end + 1 - 1) (drop 1 line)) = on_true c.is_version.result (IsVersion (take (end + 1 - 1) (drop 1 line))) c.is_version.ensures c.if-not-is_version.false in
    let passed = target_passed b line c.args.from to end c.requires.target inside line_is space some text (subst (λ (i : ℕ). IsVersion (take i (drop 1 line))) n version) in
    let bound = c.in-Some.ensures.bound in
    let m = length-drop to b in
    let k : length line ≡ length (drop to b) = ap length line_is in
    let at : length (take (to + end + 1) b) ≡ to + end + 1 = length-take-le (to + end + 1) b (omega (arith, bound, m, k, inside)) in
    let q : to + end + 1 ≡ to + (end + 1) = omega arith in
    part_all b line fields to (end + 1) c.run-ran.result.used c.run-ran.result.part line_is fields_is c.if-ran-fields.false (subst (λ (i : ℕ). IsPart c.run-ran.result.part (take i b ++ take c.run-ran.result.used fields)) q (c.run-ran.ensures.part (take (to + end + 1) b) at passed))
