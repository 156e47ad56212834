-- The frame that a lent one is.
use Rattle.lumber_frame.specs.declared.frame.LumberFrame.{LumberFrame}
use Rattle.lumber_frame.specs.declared.frame.LumberFrame.TheVariants as owned
use Rattle.lumber_frame.specs.declared.lent.LumberRef.{LumberRef}
use Rattle.lumber_frame.specs.declared.lent.LumberRef.TheVariants.{Window, Pairs, Json}

abbrev pub frame_lent : LumberRef → LumberFrame
frame_lent (Window size) = owned.Window size
frame_lent (Pairs seq text) = owned.Pairs seq text.now
frame_lent (Json seq text) = owned.Json seq text.now
