-- For a reader and for a window.
use Rattle.stream_grammar.proofs.OneReading.{one_dropped, one_kept}
use Rattle.lumber_frame.specs.Reading.{format}
use Rattle.lumber_frame.proofs.ReadingLaws as laws
use Rattle.lumber_frame.proofs.laws.one_reading.Goals as goal

pub returns : goal.returns
returns c = record { reader = λ side. one_dropped (format side) (laws.decides side); window = λ side. one_kept (format side) (laws.decides side) }
