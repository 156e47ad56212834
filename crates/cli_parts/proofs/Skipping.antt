-- How the words of a skip are read.
use Rattle.std.proofs.Common.{◌≡◌, ◌∙◌, ℕ, List, [], ◌∷◌, length, get_or, map, sym, ap, subst, arith, codes}
use Rattle.std.specs.Prelude.{Option, Some, None, MatchOption}
use Rattle.cli_parts.specs.SkipWords.{IsEntryNumber, IsNoEntryNumber, IsSkip, IsNoSkip}

-- two elements, as a pattern has them
pub two_of : {X : Type 0} (f : X → List ℕ) (xs : List X) (x y : X) (text other : List ℕ) → length xs ≡ 2 → x ≡ get_or xs 0 x → y ≡ get_or xs 1 y → text ≡ f x → other ≡ f y
    → map f xs ≡ text ∷ other ∷ []
two_of f [] x y text other two at next is same = absurd (omega (arith, two))
two_of f (a ∷ []) x y text other two at next is same = absurd (omega (arith, two))
two_of f (a ∷ b ∷ []) x y text other two at next is same =
    ap (λ z. z ∷ f b ∷ []) (ap f (sym at) ∙ sym is) ∙ ap (λ z. text ∷ z ∷ []) (ap f (sym next) ∙ sym same)
two_of f (a ∷ b ∷ c ∷ more) x y text other two at next is same = absurd (omega (arith, two))

-- two words, of which the first is the name
pub skips_if : (words : List (List ℕ)) (name word : List ℕ) (found : Option ℕ) → words ≡ name ∷ word ∷ [] → name ≡ codes "skip"
    → MatchOption found (IsNoEntryNumber word) (λ number. IsEntryNumber number word) → MatchOption found (IsNoSkip words) (λ number. IsSkip number words)
skips_if words name word None are is none = λ number skips.
    let both : codes "skip" ∷ skips.word ∷ [] ≡ codes "skip" ∷ word ∷ [] = sym skips.words_are ∙ are ∙ ap (λ (t : List ℕ). t ∷ word ∷ []) is in
    let same : skips.word ≡ word = ap (λ (l : List (List ℕ)). get_or l 1 word) both in
    none number (subst (IsEntryNumber number) same skips.writes)
skips_if words name word (Some n) are is one = record { word = word; words_are = are ∙ ap (λ (t : List ℕ). t ∷ word ∷ []) is; writes = one }
