-- What the first bytes of a reply are.
use Rattle.std.proofs.Common.{sym, ◌∙◌}
use Rattle.httparse.specs.Grammar.{HasNoResponse, MayBecomeResponse}
use Rattle.http_edge.proofs.HeadLaws.{on_partial}
use Rattle.http_reply.proofs.HeadLaws.{head_judged, head_bad, head_open}
use Rattle.http_reply.proofs.head.read_head.Goals as goal

pub returns-then-too_many_lines : goal.returns-then-too_many_lines
returns-then-too_many_lines c =
    let w = c.in-Ok-Partial in
    let b = c.args.buf.now in
    let none = on_partial (HasNoResponse b) c.parse_response.result w.field-0 w.is w.field-0-is c.parse_response.ensures.partial in
    let goes = on_partial (MayBecomeResponse b) c.parse_response.result w.field-0 w.is w.field-0-is c.parse_response.ensures.unfinished in
    head_bad b (head_judged b none goes) (sym c.too_many_lines.ensures ∙ c.if-too_many_lines.true)

pub returns-else-too_many_lines : goal.returns-else-too_many_lines
returns-else-too_many_lines c =
    let w = c.in-Ok-Partial in
    let b = c.args.buf.now in
    let none = on_partial (HasNoResponse b) c.parse_response.result w.field-0 w.is w.field-0-is c.parse_response.ensures.partial in
    let goes = on_partial (MayBecomeResponse b) c.parse_response.result w.field-0 w.is w.field-0-is c.parse_response.ensures.unfinished in
    record { none = λ h rest x. none h rest x.reads; going = head_open b (head_judged b none goes) (sym c.too_many_lines.ensures ∙ c.if-too_many_lines.false) }
