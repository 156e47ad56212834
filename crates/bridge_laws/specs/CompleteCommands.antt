-- Each command ends well where no call failed and nothing stands in its way.
use Rattle.bridge_laws.specs.Complete.{FormatEndsWell, ListEndsWell, LoadEndsWell}
use Rattle.bridge_laws.specs.CompleteDrain.{DrainEndsWell, DrainThereEndsWell}
use Rattle.bridge_laws.specs.CompleteReplay.{ReplayEndsWell}
use Rattle.bridge_parts.specs.Run.{Run}

-- of one call of `bridge`, of which this was told
pub record EachEndsWell (run : Run) : Type 0 where
  pub format : FormatEndsWell run
  pub list : ListEndsWell run
  pub load : LoadEndsWell run
  pub replay : ReplayEndsWell run
  pub drain : DrainEndsWell run
  pub drain_there : DrainThereEndsWell run
