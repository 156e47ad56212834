use Rattle.edge_net.proofs.Named.{canonical_is}
use Rattle.edge_net.proofs.proxies.canonical.Goals as goal

pub returns : goal.returns
returns c = canonical_is c.args.address c.to_canonical.result c.to_canonical.ensures
