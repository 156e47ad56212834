use Rattle.std.proofs.Common.{◌≡◌, ◌∙◌, Global, map, string_bytes, sym, codes}
use Rattle.std.proofs.lemmas.Slice.Eq.{bytes_eq-Decides}
use Rattle.cli_parts.proofs.Options.{first_and_rest}
use Rattle.cli_parts.proofs.Restoring.{restores_if, some_as}
use Rattle.cli_parts.proofs.restore_words.restore_of.Goals as goal

pub returns-in-Some : goal.returns-in-Some
returns-in-Some c =
    let words = map (string_bytes {Z = Global}) c.args.words.now in
    let name = c.as_str.result.now in
    let whole = first_and_rest (string_bytes {Z = Global}) c.args.words.now c.name-item.result name c.in-len1-up.len_at_least c.name-item.is c.as_str.ensures.value in
    let is : name ≡ codes "rescue" = (bytes_eq-Decides name (codes "rescue")).0 (sym c.eq.ensures ∙ c.if-eq.true) in
    some_as c.asked_by.result _ _ (λ restore asks. restores_if words name _ c.in-Some.said restore whole is c.in-Some.ensures asks) c.asked_by.ensures
