use Rattle.std.proofs.Common.{rules, None, Some, arith}
use Rattle.std.proofs.lemmas.Str.Pattern.{split_parts}
use Rattle.cli_parts.specs.ProxyWords.{between_commas}
use Rattle.cli_parts.proofs.Addresses.{first_text, last_text, naming_ends, naming_next, naming_none, naming_stops}
use Rattle.cli_parts.proofs.proxy_words.proxies.Goals as goal

pub loop-first-init : goal.loop-first-init
loop-first-init c = (c.utf8.word, naming_none _ _ c.none-named.ensures)

-- a text that writes no address, or one too many
pub returns-in-None : goal.returns-in-None
returns-in-None c =
    let left = c.loop-first.left.now in
    let parts = split_parts 44 left (Some (c.in-Some.first, c.in-Some.more)) c.in-Some.ensures.cases (omega arith) in
    let are = first_text left c.in-Some.first.now c.in-Some.more.now parts.0 parts.1 in
    naming_stops c.args.word.now left c.in-Some.first.now (between_commas c.in-Some.more.now) c.loop-first.named c.loop-first.invariant.1 are c.in-None.ensures

pub loop-first-preserved : goal.loop-first-preserved
loop-first-preserved c =
    let left = c.loop-first.left.now in
    let parts = split_parts 44 left (Some (c.in-Some.first, c.in-Some.more)) c.in-Some.ensures.cases (omega arith) in
    let are = first_text left c.in-Some.first.now c.in-Some.more.now parts.0 parts.1 in
    let next = naming_next c.args.word.now left c.in-Some.first.now c.in-Some.more.now _ _ c.loop-first.invariant.1 are c.in-Some-with_address.ensures in
    (search rules, next)

-- the last address
pub returns : goal.returns
returns c =
    let left = c.loop-first.left.now in
    let none = split_parts 44 left None c.in_default.ensures.cases (omega arith) in
    naming_ends c.args.word.now left c.loop-first.named c.with_address-2.result c.loop-first.invariant.1 (last_text left none) c.with_address-2.ensures
