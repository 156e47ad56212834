use Rattle.std.proofs.Common.{arith}
use Rattle.std.proofs.lemmas.List.Sums.{count_by-le-length}
use Rattle.cli_parts.proofs.tally.Tally.read.Goals as goal

pub returns-clause-most : goal.returns-clause-most
returns-clause-most c = let most = count_by-le-length (λ is_read. is_read) c.args.self.now.parts.items in grind (arith, most)
