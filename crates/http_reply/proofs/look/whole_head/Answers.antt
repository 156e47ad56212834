-- What a whole head says of its body.
use Rattle.std.proofs.Common.{◌≡◌, ◌∙◌, ap, arith, drop}
use Rattle.std.specs.Prelude.{map}
use Rattle.http_edge.specs.Heads.{field_of}
use Rattle.http_reply.specs.Heads.{head_fields}
use Rattle.http_reply.specs.Sizes.{size_of}
use Rattle.http_reply.proofs.OpeningLaws.{begun, refused, sized, some_head}
use Rattle.http_reply.proofs.look.whole_head.Goals as goal

pub returns-in-Err : goal.returns-in-Err
returns-in-Err c = λ b e.
    let m = c.requires.1 in
    let g = begun b c.args.window.now c.args.spans.now c.args.found m.0 e m.1 m.2 c.requires.0.section.len_fits in
    let fields : c.as_slice.result.now ≡ head_fields m.0 = c.as_slice.ensures ∙ c.in_ok-fields.ensures ∙ ap (map field_of) m.1.fields in
    refused b m.0 (drop c.args.found.len b) c.in-Err.why g.0
    (c.in-Err.ensures (size_of m.0) (sized c.reply_size-size.result c.args.found.code c.args.found.version c.as_slice.result.now m.0 m.1.code m.1.version fields c.reply_size-size.ensures))

pub returns : goal.returns
returns c = λ b e.
    let m = c.requires.1 in
    let g = begun b c.args.window.now c.args.spans.now c.args.found m.0 e m.1 m.2 c.requires.0.section.len_fits in
    let fields : c.as_slice.result.now ≡ head_fields m.0 = c.as_slice.ensures ∙ c.in_ok-fields.ensures ∙ ap (map field_of) m.1.fields in
    let s = c.in-Ok.ensures (size_of m.0) (sized c.reply_size-size.result c.args.found.code c.args.found.version c.as_slice.result.now m.0 m.1.code m.1.version fields c.reply_size-size.ensures) in
    let n = some_head m.0 in
    record {
      head = m.0;
      begins = g.0;
      len_is = m.1.len;
      some = omega (arith, n, m.1.len);
      inside = g.1;
      status_is = m.1.code;
      reaches = s.0;
      fits = s.1;
    }
