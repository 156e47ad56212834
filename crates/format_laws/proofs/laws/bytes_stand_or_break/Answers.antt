use Rattle.spool_state.proofs.Exact.{image_stands}
use Rattle.spool_state.proofs.Laws.{stands_unbroken, one_state}
use Rattle.spool_state.proofs.Unbroken.{unbroken_stands}
use Rattle.format_laws.proofs.laws.bytes_stand_or_break.Goals as goal

pub returns : goal.returns
returns c = record {
  stands = λ s bytes is at. stands_unbroken s bytes is at;
  unbroken = λ bytes opened small has none. unbroken_stands bytes none opened small has;
  rules = λ cell bytes opened small head has chain among. image_stands cell opened bytes small head has chain among;
  one = one_state;
}
