use Rattle.std.proofs.Common.{IsTrue, List, sym, subst}
use Rattle.std.specs.List.{list_all}
use Rattle.edge_io.specs.MemLink.{is_unused}
use Rattle.edge_io.specs.declared.mem_link.MemLink.{MemLink}
use Rattle.edge_io.proofs.Unused.{links_tested}
use Rattle.edge_io.proofs.mem_door.MemDoor.of.Goals as goal

pub invariant_of-result-clause-unused : goal.invariant_of-result-clause-unused
invariant_of-result-clause-unused c =
    subst (λ (links : List MemLink). IsTrue (list_all is_unused links)) (sym c.from_vec.ensures.items) (links_tested c.args.links.items c.requires)
