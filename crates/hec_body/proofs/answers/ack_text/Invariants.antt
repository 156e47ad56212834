use Rattle.std.proofs.Common.{◌≡◌, ◌++◌, codes, map, take}
use Rattle.std.specs.List.{join_with_byte, zip}
use Rattle.hec_body.specs.Acks.{ack_member}
use Rattle.hec_body.proofs.answers.ack_text.Given as goal

abbrev pub invariant-loop-i : goal.invariant-loop-i
invariant-loop-i l = l.text.items ≡ codes "{\"acks\":{" ++ join_with_byte 44 (map ack_member (take l.i (zip l.ids l.known)))
