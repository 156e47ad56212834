-- A load comes to its numbers.
use Rattle.std.specs.Prelude.{◌≡◌, ◌≤◌, ℕ}
use Rattle.edge_io.specs.declared.proto.Proto.{Proto}
use Rattle.load_run.specs.declared.loaded.Loaded.{Loaded}
use Rattle.load_run.specs.declared.loaded.LoadFault.{LoadFault}
use Rattle.load_run.specs.declared.loaded.LoadFault.TheVariants.{NoMemory}
use Rattle.load_run.specs.Load.{IsFailed, IsLoaded}

-- all events were taken, and all of them are confirmed
pub record AllConfirmed (count : ℕ) (loaded : Loaded) : Type 0 where
  pub events : loaded.events ≡ count
  pub confirmed : loaded.confirmed ≡ count
  pub left : loaded.left ≡ 0

-- By each protocol a load of so many events comes to these numbers, and nothing but want of memory is in its way.
abbrev pub LoadsAll : Type 0
LoadsAll =
    (proto : Proto) (number count : ℕ) → count ≤ 100000
    → ((loaded : Loaded) → IsLoaded proto number count loaded → AllConfirmed count loaded)
    × ((fault : LoadFault) → IsFailed proto number count fault → fault ≡ NoMemory)
