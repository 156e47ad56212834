use Rattle.std.proofs.Common.{map, sym, subst}
use Rattle.edge_io.specs.declared.proto.Proto.TheVariants.{Relp}
use Rattle.bridge_serve.specs.Doors.{ruled_by, AddsDoors, AreUnused}
use Rattle.bridge_serve.proofs.Doors.{all_bound, any_err, first_unused, second_unused, tells_all}
use Rattle.bridge_serve.proofs.binding.bind_doors.Goals as goal

pub returns-clause-bound : goal.returns-clause-bound
returns-clause-bound g c =
    let server = c.args.server.now in
    let told = g.N.P.Door.told in
    let one = ruled_by told c.bind_at.new.posts.items in
    let first = subst (λ (l : _). AddsDoors server Relp server.relp (ruled_by told l) one) c.requires.room.0 c.in_ok-bind_at.ensures.bound in
    all_bound server one (ruled_by told c.bind_at-2.new.posts.items) (ruled_by told c.bind_at-3.new.posts.items) first
    c.in_ok-bind_at-2.ensures.bound c.in_ok-bind_at-3.ensures.bound

pub returns-clause-told : goal.returns-clause-told
returns-clause-told g c = tells_all c.args.server.now _ _ _ _ c.in_ok-bind_at.ensures.told c.in_ok-bind_at-2.ensures.told c.in_ok-bind_at-3.ensures.told

pub returns-in_err-bind_at-2-clause-err : goal.returns-in_err-bind_at-2-clause-err
returns-in_err-bind_at-2-clause-err g c =
    let server = c.args.server.now in
    let told = g.N.P.Door.told in
    let one = ruled_by told c.bind_at.new.posts.items in
    let first = subst (λ (l : _). AddsDoors server Relp server.relp (ruled_by told l) one) c.requires.room.0 c.in_ok-bind_at.ensures.bound in
    let failed = c.in_err-bind_at-2.ensures.err in
    any_err _ c.from_residual-in_err-bind_at-2.result
    (subst (λ (p : _). AreUnused server (g.N.Net.told c.args.net.now).bound (g.N.Net.told c.bind_at-2.new.net).bound (map (λ (post : _). told post.door) p.items)) (sym failed.0)
    (first_unused server _ _ _ one first c.in_ok-bind_at.ensures.told failed.1))

pub returns-in_err-bind_at-3-clause-err : goal.returns-in_err-bind_at-3-clause-err
returns-in_err-bind_at-3-clause-err g c =
    let server = c.args.server.now in
    let told = g.N.P.Door.told in
    let one = ruled_by told c.bind_at.new.posts.items in
    let two = ruled_by told c.bind_at-2.new.posts.items in
    let first = subst (λ (l : _). AddsDoors server Relp server.relp (ruled_by told l) one) c.requires.room.0 c.in_ok-bind_at.ensures.bound in
    let failed = c.in_err-bind_at-3.ensures.err in
    any_err _ c.from_residual-in_err-bind_at-3.result
    (subst (λ (p : _). AreUnused server (g.N.Net.told c.args.net.now).bound (g.N.Net.told c.bind_at-3.new.net).bound (map (λ (post : _). told post.door) p.items)) (sym failed.0)
    (second_unused server _ _ _ _ one two first c.in_ok-bind_at-2.ensures.bound c.in_ok-bind_at.ensures.told c.in_ok-bind_at-2.ensures.told failed.1))
