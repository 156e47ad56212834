use Rattle.std.proofs.Common.{◌≡◌, false, List, ℕ, Option, None, sym, refl, codes, nat_eq}
use Rattle.std.specs.List.{ends_with}
use Rattle.std.proofs.lemmas.Str.Pattern.{ends_text}
use Rattle.cli_parts.specs.RunOptions.{Text}
use Rattle.cli_parts.specs.Sizes.{bytes_in}
use Rattle.cli_parts.proofs.sizes.bytes_in.Goals as goal

-- a word that ends with none of the units
none_of : (word : Text) → false ≡ ends_with nat_eq word (codes "K") → false ≡ ends_with nat_eq word (codes "M") → false ≡ ends_with nat_eq word (codes "G")
    → None ≡ bytes_in word
none_of word k m g = rw (← k) (rw (← m) (rw (← g) refl))

pub returns-in-None : goal.returns-in-None
returns-in-None c =
    let word = c.args.word.now in
    none_of word (ends_text false (codes "K") word c.in_default.ensures.cases) (ends_text false (codes "M") word c.in_default-strip_suffix.ensures.cases)
    (ends_text false (codes "G") word c.in-None.ensures.cases)
