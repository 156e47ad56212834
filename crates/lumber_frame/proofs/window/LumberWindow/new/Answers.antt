-- Nothing was read.
use Rattle.std.proofs.Common.{List, ℕ, [], refl, sym, subst}
use Rattle.stream_grammar.specs.FieldFaults.{IsFieldStream}
use Rattle.lumber_frame.specs.declared.side.Side.TheVariants.{Receiver}
use Rattle.lumber_frame.specs.Broken.{Broken}
use Rattle.lumber_frame.specs.Spelling.{Spells}
use Rattle.lumber_frame.proofs.ReadingLaws.{nothing_read}
use Rattle.lumber_frame.proofs.window.LumberWindow.new.Goals as goal

pub returns-clause-reads : goal.returns-clause-reads
returns-clause-reads c = ([], refl, subst (λ (v : List ℕ). IsFieldStream (Spells Receiver) (Broken Receiver) [] [] 0 v) (sym c.in_ok-bytes.ensures.items) (nothing_read Receiver))
