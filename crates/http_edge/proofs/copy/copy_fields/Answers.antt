use Rattle.std.proofs.Common.{◌≡◌, ◌∙◌, ℕ, ◌+◌, ◌<◌, List, [], ◌∷◌, ◌++◌, length, map, take, get_or, sym, ap, arith}
use Rattle.std.proofs.lemmas.List.{map-append, take_more}
use Rattle.httparse.specs.declared.spans.HeaderSpan.{HeaderSpan}
use Rattle.httparse.specs.Spans.{header_bytes}
use Rattle.http_edge.specs.declared.field.Field.{Field}
use Rattle.http_edge.specs.Heads.{field_of}
use Rattle.http_edge.proofs.BuildLaws.{within_at}
use Rattle.http_edge.proofs.copy.copy_fields.Goals as goal

-- the fields that the first so many spans cover
abbrev covered : List ℕ → List HeaderSpan → List Field
covered buf spans = map field_of (map (header_bytes buf) spans)

-- one field more
one_more : (buf : List ℕ) (spans : List HeaderSpan) (i : ℕ) (d : HeaderSpan) → i < length spans
    → covered buf (take i spans) ++ field_of (header_bytes buf (get_or spans i d)) ∷ [] ≡ covered buf (take (i + 1) spans)
one_more buf spans i d inside =
    let last = get_or spans i d ∷ [] in
    sym (ap (covered buf) (take_more spans i d inside)
    ∙ ap (map field_of) (map-append (header_bytes buf) (take i spans) last)
    ∙ map-append field_of (map (header_bytes buf) (take i spans)) (map (header_bytes buf) last))

pub copy-requires : goal.copy-requires
copy-requires c = (within_at (length c.args.buf.now) c.args.spans.now c.args.count c.loop-i.i _ c.loop-i-test.true c.requires.inside c.requires.within).0

pub copy-requires-in-loop-i : goal.copy-requires-in-loop-i
copy-requires-in-loop-i c = (within_at (length c.args.buf.now) c.args.spans.now c.args.count c.loop-i.i _ c.loop-i-test.true c.requires.inside c.requires.within).1

pub loop-i-preserved : goal.loop-i-preserved
loop-i-preserved c =
    let before = c.loop-i-test.true in
    let few = c.requires.inside in
    let field : Field = record { name = c.in_ok-name.name; value = c.in_ok-value.value } in
    c.in_ok-push.ensures.items ∙ (λ j. c.loop-i.invariant j ++ record { name = c.in_ok-name.ensures j; value = c.in_ok-value.ensures j } ∷ [])
    ∙ one_more c.args.buf.now c.args.spans.now c.loop-i.i _ (omega (arith, before, few))
