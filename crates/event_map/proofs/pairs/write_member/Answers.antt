use Rattle.std.proofs.Common.{rules, ◌≡◌, [], ◌∷◌, ◌++◌}
use Rattle.event_map.specs.Strings.{string_of}
use Rattle.event_map.proofs.Members.{member_written}
use Rattle.event_map.proofs.pairs.write_member.Goals as goal

pub returns : goal.returns
returns c =
    let key : c.extend_from_slice.new.self.items ≡ c.args.object.now.items ++ string_of c.args.key.now = search rules in
    let colon : c.push.new.self.items ≡ c.extend_from_slice.new.self.items ++ 58 ∷ [] = search rules in
    let value : c.extend_from_slice-2.new.self.items ≡ c.push.new.self.items ++ string_of c.args.value.now = search rules in
    member_written c.args.object.now.items c.extend_from_slice.new.self.items c.push.new.self.items c.extend_from_slice-2.new.self.items (c.args.key.now, c.args.value.now) key colon value
