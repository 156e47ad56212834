-- The fields are those of a JSON frame.
use Rattle.std.proofs.Common.{arith}
use Rattle.lumber_frame.proofs.JsonLaws.{json_ends}
use Rattle.lumber_frame.proofs.json.first_json.Goals as goal

pub returns : goal.returns
returns c = json_ends c.args.bytes.now c.number.result c.number-len.result (omega (arith, c.if-bytes-lt-TEXT.false, c.if-len-bytes.false)) c.if-bytes-ne50.false c.if-bytes-ne74.false c.number.ensures c.number-len.ensures (omega (arith, c.if-len-gt-MOST_TEXT.false))
