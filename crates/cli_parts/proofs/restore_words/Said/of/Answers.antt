use Rattle.std.proofs.Common.{◌<◌, Global, length, string_bytes, arith}
use Rattle.cli_parts.specs.RestoreWords.{nothing}
use Rattle.cli_parts.proofs.Options.{first_and_rest, none_of}
use Rattle.cli_parts.proofs.Restoring.{said_none, said_next, said_all}
use Rattle.cli_parts.proofs.restore_words.Said.of.Goals as goal

pub loop-left-init : goal.loop-left-init
loop-left-init c = said_none _ _ nothing

pub loop-left-preserved : goal.loop-left-preserved
loop-left-preserved c =
    let left = c.loop-left.left.now in
    let whole = first_and_rest (string_bytes {Z = Global}) left c.word-item.result c.as_str.result.now c.in-len1-up.len_at_least c.word-item.is c.as_str.ensures.value in
    said_next _ _ _ _ _ _ _ c.loop-left.invariant whole c.in-Some.ensures.read

-- all words
pub returns : goal.returns
returns c =
    let few : length c.loop-left.left.now < 1 = omega (arith, c.in_default.len_below) in
    said_all _ _ _ c.loop-left.invariant (none_of (string_bytes {Z = Global}) c.loop-left.left.now few)
