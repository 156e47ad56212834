use Rattle.json_span.proofs.Following.{first_followed}
use Rattle.json_span.proofs.object.value_at.Goals as goal

pub returns-in-Ok : goal.returns-in-Ok
returns-in-Ok c = λ start end w v f. let e = (c.in-Ok.ensures.ok (record { start = start; end = end })).1 (first_followed 127 c.args.bytes.now c.args.at start end w v f) in cc

pub returns-in-Err : goal.returns-in-Err
returns-in-Err c = λ start end w v f. let e = (c.in-Err.ensures.ok (record { start = start; end = end })).1 (first_followed 127 c.args.bytes.now c.args.at start end w v f) in cc
