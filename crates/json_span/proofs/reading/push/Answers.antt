use Rattle.std.proofs.Common.{◌<◌, ◌^◌, arith}
use Rattle.json_span.proofs.BitLaws.{bits_small}
use Rattle.json_span.proofs.reading.push.Goals as goal

pub overflow_mul-result : goal.overflow_mul-result
overflow_mul-result c = let l : c.args.r.depth < 127 = omega (arith, c.requires.fits.levels, c.if-r-eq0.false) in let h : c.args.r.bits < 2 ^ 127 = bits_small c.args.r.bits c.args.r.depth c.requires.fits.bits l in omega arith

pub overflow_add-result-else-r-eq0 : goal.overflow_add-result-else-r-eq0
overflow_add-result-else-r-eq0 c = let l : c.args.r.depth < 127 = omega (arith, c.requires.fits.levels, c.if-r-eq0.false) in let h : c.args.r.bits < 2 ^ 127 = bits_small c.args.r.bits c.args.r.depth c.requires.fits.bits l in omega (arith, h, c.requires.bit)
