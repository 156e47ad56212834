-- Links and doors that were not used yet: the fact of each, and the test of all.
use Rattle.std.proofs.Common.{◌∷◌, IsTrue, List, [], All, length, refl, ap, eq-eqb}
use Rattle.std.proofs.lemmas.List.Elements.{All-head, All-tail}
use Rattle.std.specs.List.{list_all}
use Rattle.edge_io.specs.MemLink.{source_of, sink_of, IsUnused, is_unused}
use Rattle.edge_io.specs.MemSource.{given_of}
use Rattle.edge_io.specs.MemSink.{taken_of}
use Rattle.edge_io.specs.declared.mem_link.MemLink.{MemLink}

link_tested : (link : MemLink) → IsUnused link → IsTrue (is_unused link)
link_tested link is =
    let given = eq-eqb (length (given_of (source_of link))) 0 (ap length is.given) in
    let taken = eq-eqb (length (taken_of (sink_of link))) 0 (ap length is.taken) in
    rw (given, taken)

pub links_tested : (links : List MemLink) → All IsUnused links → IsTrue (list_all is_unused links)
links_tested [] all = refl
links_tested (link ∷ links) all = rw (link_tested link (All-head IsUnused link links all), links_tested links (All-tail IsUnused link links all))
