use Rattle.std.proofs.Common.{◌≡◌, ◌∙◌, Global, length, map, string_bytes, sym, arith, codes}
use Rattle.std.proofs.lemmas.Slice.Eq.{bytes_eq-Decides}
use Rattle.cli_parts.proofs.Skipping.{two_of, skips_if}
use Rattle.cli_parts.proofs.skip_words.skip_of.Goals as goal

pub returns-then-eq : goal.returns-then-eq
returns-then-eq c =
    let name = c.as_str.result.now in
    let word = c.as_str-then-eq.result.now in
    let two : length c.args.words.now ≡ 2 = omega arith in
    let are = two_of (string_bytes {Z = Global}) c.args.words.now c.name-item.result c.word-item.result name word two c.name-item.is c.word-item.is c.as_str.ensures.value c.as_str-then-eq.ensures.value in
    let is : name ≡ codes "skip" = (bytes_eq-Decides name (codes "skip")).0 (sym c.eq.ensures ∙ c.if-eq.true) in
    skips_if (map (string_bytes {Z = Global}) c.args.words.now) name word c.entry_number.result are is c.entry_number.ensures
