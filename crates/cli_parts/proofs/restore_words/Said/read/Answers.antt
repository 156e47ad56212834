use Rattle.std.proofs.Common.{Global, string_bytes}
use Rattle.cli_parts.proofs.Options.{first_and_rest}
use Rattle.cli_parts.proofs.Restoring.{next_place, next_target, next_target_with, next_tag, next_tag_with}
use Rattle.cli_parts.proofs.restore_words.Said.read.Goals as goal

-- `--into=TARGET`
pub returns-in-Some-clause-read : goal.returns-in-Some-clause-read
returns-in-Some-clause-read c =
    next_target_with c.args.self c.in-Some.said c.args.word.now c.in-IntoWith.value.now _ c.in-IntoWith.ensures c.in-Some.ensures

-- `--into TARGET`
pub returns-in-Some-with_target-clause-read : goal.returns-in-Some-with_target-clause-read
returns-in-Some-with_target-clause-read c =
    let whole = first_and_rest (string_bytes {Z = Global}) c.args.more.now c.value-item.result c.as_str.result.now c.in-len1-up.len_at_least c.value-item.is c.as_str.ensures.value in
    next_target c.args.self c.in-Some-with_target.said c.args.word.now c.as_str.result.now _ _ whole c.in-Into.ensures c.in-Some-with_target.ensures

-- `--tag=TAG`
pub returns-in-Some-with_tag-clause-read : goal.returns-in-Some-with_tag-clause-read
returns-in-Some-with_tag-clause-read c =
    next_tag_with c.args.self c.in-Some-with_tag.said c.args.word.now c.in-TagWith.value.now _ c.in-TagWith.ensures c.in-Some-with_tag.ensures

-- `--tag TAG`
pub returns-in-Some-with_tag-2-clause-read : goal.returns-in-Some-with_tag-2-clause-read
returns-in-Some-with_tag-2-clause-read c =
    let whole = first_and_rest (string_bytes {Z = Global}) c.args.more.now c.value-item-in-Tag.result c.as_str-in-Tag.result.now c.in-len1-up-more.len_at_least c.value-item-in-Tag.is c.as_str-in-Tag.ensures.value in
    next_tag c.args.self c.in-Some-with_tag-2.said c.args.word.now c.as_str-in-Tag.result.now _ _ whole c.in-Tag.ensures c.in-Some-with_tag-2.ensures

-- any other word
pub returns-in-Some-with_place-clause-read : goal.returns-in-Some-with_place-clause-read
returns-in-Some-with_place-clause-read c = next_place c.args.self c.in-Some-with_place.said c.args.word.now _ c.in-Place.ensures c.in-Some-with_place.ensures
