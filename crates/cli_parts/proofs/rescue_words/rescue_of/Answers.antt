use Rattle.std.proofs.Common.{◌≡◌, ◌∙◌, Global, [], ◌∷◌, length, map, string_bytes, sym, ap, arith, codes}
use Rattle.std.proofs.lemmas.Slice.Eq.{bytes_eq-Decides}
use Rattle.cli_parts.specs.RunOptions.{Text}
use Rattle.cli_parts.proofs.Rescuing.{one_of, three_of, rescues_if, asks_for}
use Rattle.cli_parts.proofs.rescue_words.rescue_of.Goals as goal

-- the name alone
pub returns-then-eq : goal.returns-then-eq
returns-then-eq c =
    let name = c.as_str.result.now in
    let one : length c.args.words.now ≡ 1 = omega arith in
    let is : name ≡ codes "rescue" = (bytes_eq-Decides name (codes "rescue")).0 (sym c.eq.ensures ∙ c.if-eq.true) in
    one_of (string_bytes {Z = Global}) c.args.words.now c.name-item.result name one c.name-item.is c.as_str.ensures.value ∙ ap (λ (t : Text). t ∷ []) is

-- the name, and two words more
pub returns-then-eq-2 : goal.returns-then-eq-2
returns-then-eq-2 c =
    let words = c.args.words.now in
    let texts = map (string_bytes {Z = Global}) words in
    let name = c.as_str-in-len3.result.now in
    let slots = c.as_str-then-eq-2.result.now in
    let size = c.as_str-then-eq-2-2.result.now in
    let three : length words ≡ 3 = omega arith in
    let are : texts ≡ name ∷ slots ∷ size ∷ [] = three_of (string_bytes {Z = Global}) words c.name-item-then-words-lt4.result c.slots-item.result c.size-item.result name slots size
    three c.name-item-then-words-lt4.is c.slots-item.is c.size-item.is c.as_str-in-len3.ensures.value c.as_str-then-eq-2.ensures.value c.as_str-then-eq-2-2.ensures.value in
    let is : name ≡ codes "rescue" = (bytes_eq-Decides name (codes "rescue")).0 (sym c.eq-in-len3.ensures ∙ c.if-eq-2.true) in
    asks_for texts c.layout_of.result c.by_layout.result c.by_layout.ensures (rescues_if texts name slots size c.layout_of.result are is c.layout_of.ensures)
