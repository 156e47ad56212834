use Rattle.std.proofs.Common.{◌≡◌, ◌++◌, ◌∙◌, map, refl, sym, subst, arith}
use Rattle.std.specs.Prelude.{All, Ok}
use Rattle.edge_io.specs.Door.{IsNewDoor}
use Rattle.edge_io.specs.Net.{AddsBound}
use Rattle.bridge_serve.specs.Answered.{StandsAt}
use Rattle.bridge_serve.specs.Doors.{rules_of, ruled_by}
use Rattle.bridge_serve.proofs.Doors.{adds_bound, adds_default, map_more, more_stand, at_less, tells_at, tells_default}
use Rattle.bridge_serve.proofs.binding.bind_at.Goals as goal

pub bind-requires : goal.bind-requires
bind-requires g c = record { named = subst g.N.Net.may_bind (sym c.as_str.ensures) (c.requires.binds.0 c.args.proto _ (sym c.requires.named ∙ c.in-Some.is)) }

-- there is no place
pub returns-in_default-clause-bound : goal.returns-in_default-clause-bound
returns-in_default-clause-bound g c = adds_default _ _ _ _ c.in_default.not-Some

pub returns-in_default-clause-told : goal.returns-in_default-clause-told
returns-in_default-clause-told g c = tells_default _ _ _ c.in_default.not-Some

pub returns-clause-bound : goal.returns-clause-bound
returns-clause-bound g c =
    let told = g.N.P.Door.told in
    let made = c.in_ok-doors.doors.items in
    let fresh = subst (λ (at : _). All (λ door. IsNewDoor at (told door)) made) c.as_str.ensures c.in_ok-doors.ensures.fresh in
    let rules = subst (λ (r : _). map (λ (post : _). post.rules) c.add_doors.new.posts.items
    ≡ map (λ (post : _). post.rules) c.args.posts.now.items ++ map (λ (door : _). r) made)
    c.rules_of.ensures c.add_doors.ensures.rules in
    adds_bound told c.args.server.now c.args.proto _ _ made (ruled_by told c.args.posts.now.items) (ruled_by told c.add_doors.new.posts.items) c.in-Some.is c.in_ok-doors.ensures.count fresh
    (map_more (λ (post : _). post.door) told c.args.posts.now.items c.add_doors.new.posts.items made c.add_doors.ensures.doors) rules

pub returns-clause-told : goal.returns-clause-told
returns-clause-told g c =
    let place = subst (λ (at : _). AddsBound at c.args.server.now.workers (Ok c.in_ok-doors.doors) (g.N.Net.told c.args.net.now).bound (g.N.Net.told c.bind.new.self).bound)
    c.as_str.ensures c.in_ok-doors.ensures.bound in
    tells_at c.args.server.now.workers c.args.place.now _ c.in_ok-doors.doors _ _ c.in-Some.is place

pub returns-clause-stand : goal.returns-clause-stand
returns-clause-stand g c =
    let server = c.args.server.now in
    let made = c.in_ok-doors.doors.items in
    let rules = subst (λ (r : _). map (λ (post : _). post.rules) c.add_doors.new.posts.items
    ≡ map (λ (post : _). post.rules) c.args.posts.now.items ++ map (λ (door : _). r) made)
    c.rules_of.ensures c.add_doors.ensures.rules in
    more_stand (λ (post : _). post.door) (λ (post : _). post.rules) (λ i r door. StandsAt server g.N.Net.permits i r (g.N.P.Door.permits door))
    (rules_of server c.args.proto) c.args.posts.now.items c.add_doors.new.posts.items made c.add_doors.ensures.doors rules c.requires.stand
    (λ i door at. record {
      proto = c.args.proto;
      place = _;
      door = i;
      named = sym c.requires.named ∙ c.in-Some.is;
      few = omega (arith, (at_less made i door at), c.in_ok-doors.ensures.count);
      number_is = omega (arith, c.requires.first, c.args.posts.now.ok.0);
      rules_are = refl;
      permits = λ k read text may. c.in_ok-doors.ensures.permits i door at k read text
          (subst (λ (p : _). g.N.Net.permits p i k read text) (sym c.as_str.ensures) may);
    })
