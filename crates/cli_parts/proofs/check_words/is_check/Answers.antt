use Rattle.std.proofs.Common.{◌≡◌, ◌∙◌, Global, [], ◌∷◌, List, IsTrue, length, map, string_bytes, sym, ap, arith, codes}
use Rattle.std.proofs.lemmas.Slice.Eq.{bytes_eq-Decides}
use Rattle.std.specs.Prelude.{get_or}
use Rattle.cli_parts.specs.RunOptions.{Text}
use Rattle.cli_parts.proofs.Rescuing.{one_of}
use Rattle.cli_parts.proofs.check_words.is_check.Goals as goal

pub returns-in-len1 : goal.returns-in-len1
returns-in-len1 c =
    let words = c.args.words.now in
    let texts = map (string_bytes {Z = Global}) words in
    let name = c.as_str.result.now in
    let one : length words ≡ 1 = omega arith in
    let is : texts ≡ name ∷ [] = one_of (string_bytes {Z = Global}) words c.name-item.result name one c.name-item.is c.as_str.ensures.value in
    let same = bytes_eq-Decides name (codes "check") in
    let checks : IsTrue c.eq.result → texts ≡ codes "check" ∷ [] = λ eq. is ∙ ap (λ (t : Text). t ∷ []) (same.0 (sym c.eq.ensures ∙ eq)) in
    let is_one : texts ≡ codes "check" ∷ [] → IsTrue c.eq.result =
    λ (are : texts ≡ codes "check" ∷ []). c.eq.ensures ∙ same.1 (ap (λ (l : List Text). get_or l 0 name) (sym is ∙ are)) in
    (checks, is_one)
