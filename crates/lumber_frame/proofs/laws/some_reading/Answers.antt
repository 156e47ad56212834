-- For a reader and for a window.
use Rattle.lumber_frame.proofs.ReadingLaws as laws
use Rattle.lumber_frame.proofs.laws.some_reading.Goals as goal

pub returns : goal.returns
returns c = record { reader = laws.some_dropped; window = laws.some_kept }
