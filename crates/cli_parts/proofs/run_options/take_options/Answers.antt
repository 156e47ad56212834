use Rattle.std.proofs.Common.{◌<◌, Global, length, string_bytes, inl, arith}
use Rattle.cli_parts.proofs.Options.{first_and_rest, none_of, begun, taken_all}
use Rattle.cli_parts.proofs.run_options.take_options.Goals as goal

-- the command's name
pub loop-left-init : goal.loop-left-init
loop-left-init c =
    let whole = first_and_rest (string_bytes {Z = Global}) c.args.words.now c.name-item.result c.as_str-name.result.now c.in-len1-up.len_at_least c.name-item.is c.as_str-name.ensures.value in
    begun _ _ _ _ _ whole c.in_ok-keep.ensures.options (rw c.new.ensures.items at c.in_ok-keep.ensures.kept)

-- all words
pub returns-clause-taken : goal.returns-clause-taken
returns-clause-taken c =
    let few : length c.loop-left.left.now < 1 = omega (arith, c.in_default-left.len_below) in
    inl (taken_all _ _ _ _ _ c.loop-left.invariant (none_of (string_bytes {Z = Global}) c.loop-left.left.now few))
