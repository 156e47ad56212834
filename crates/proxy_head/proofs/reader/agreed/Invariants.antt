use Rattle.std.proofs.Common.{◌≡◌, take}
use Rattle.proxy_head.proofs.reader.agreed.Given as goal

abbrev pub invariant-loop-count : goal.invariant-loop-count
invariant-loop-count l = take l.count l.bytes ≡ take l.count l.sign
