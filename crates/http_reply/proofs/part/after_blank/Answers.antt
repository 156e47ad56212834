-- After a version and a code, the head is read on from there.
use Rattle.std.proofs.Common.{◌≡◌, ◌+◌, ◌-◌, Bool, true, false, ap, arith, take, drop, length, length-drop, ◌∙◌}
use Rattle.std.specs.Bool.{OnTrue}
use Rattle.std.proofs.lemmas.List.{take_all, drop-drop}
use Rattle.http_reply.specs.Parts.{IsCode, IsVersion}
use Rattle.http_reply.proofs.PartLaws.{code_passed, part_all}
use Rattle.http_reply.proofs.part.after_blank.Goals as goal

-- a test that is true
on_true : (b : Bool) (P : Type 0) → OnTrue b P → b ≡ true → P
on_true true P h e = h
on_true false P h e = absurd (cc)

pub returns : goal.returns
returns c =
    let b = c.args.buf.now in
    let from = c.args.from in
    let line = take (length b - from) (drop from b) in
    let rest = take (length line - 12) (drop 12 line) in
    let inside = c.requires.inside in
    let line_is : line ≡ drop from b = take_all (length b - from) (drop from b) (let k = length-drop from b in omega (arith, k)) in
    let rest_is : rest ≡ drop 12 line = take_all (length line - 12) (drop 12 line) (let k = length-drop 12 line in omega (arith, k)) in
    let version = on_true c.is_version.result (IsVersion (take 9 line)) c.is_version.ensures c.if-not-is_version.false in
    let code = on_true c.is_code.result (IsCode (take 3 (drop 9 line))) c.is_code.ensures c.if-not-is_code.false in
    let at = code_passed b line from c.requires.blank line_is version code in
    let e : rest ≡ drop (from + 12) b = rest_is ∙ ap (drop 12) line_is ∙ drop-drop 12 from b in
    part_all b rest (from + 12) c.run-ran.result.used c.run-ran.result.part e c.if-ran-rest.false (c.run-ran.ensures.part (take (from + 12) b) at)
