-- What a door and a net tell of one more that is done with.
use Rattle.std.proofs.Common.{◌≡◌, ◌∷◌, List, [], ◌++◌, map, ◌∙◌, ap}
use Rattle.std.proofs.lemmas.List.{map-append}
use Rattle.edge_io.specs.MemDoor.{talked_of}
use Rattle.edge_io.specs.declared.mem_door.Finished.{Finished}

pub talks_added : (old new : List Finished) (one : Finished) → new ≡ old ++ one ∷ [] → map talked_of new ≡ map talked_of old ++ talked_of one ∷ []
talks_added old new one is = ap (map talked_of) is ∙ map-append talked_of old (one ∷ [])
