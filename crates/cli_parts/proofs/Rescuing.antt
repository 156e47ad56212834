-- How the words of a rescue are read.
use Rattle.std.proofs.Common.{◌≡◌, ◌∙◌, List, [], ◌∷◌, length, get_or, map, sym, ap, subst, arith, codes}
use Rattle.std.specs.Prelude.{Option, Some, None, MatchOption}
use Rattle.bridge_rescue.specs.declared.layout.Layout.{Layout}
use Rattle.cli_parts.specs.declared.rescue_words.RescueWords.{RescueWords}
use Rattle.cli_parts.specs.RunOptions.{Text}
use Rattle.cli_parts.specs.RescueWords.{IsLayoutWords, IsNoLayoutWords, IsRescue, IsNoRescue}

-- one element, as a pattern has it
pub one_of : {X : Type 0} (f : X → Text) (xs : List X) (x : X) (text : Text) → length xs ≡ 1 → x ≡ get_or xs 0 x → text ≡ f x → map f xs ≡ text ∷ []
one_of f [] x text one at is = absurd (omega (arith, one))
one_of f (a ∷ []) x text one at is = ap (λ z. z ∷ []) (ap f (sym at) ∙ sym is)
one_of f (a ∷ b ∷ more) x text one at is = absurd (omega (arith, one))

-- three elements
pub three_of : {X : Type 0} (f : X → Text) (xs : List X) (x y z : X) (text other last : Text) → length xs ≡ 3 → x ≡ get_or xs 0 x → y ≡ get_or xs 1 y → z ≡ get_or xs 2 z
    → text ≡ f x → other ≡ f y → last ≡ f z → map f xs ≡ text ∷ other ∷ last ∷ []
three_of f [] x y z text other last three at next third is same too = absurd (omega (arith, three))
three_of f (a ∷ []) x y z text other last three at next third is same too = absurd (omega (arith, three))
three_of f (a ∷ b ∷ []) x y z text other last three at next third is same too = absurd (omega (arith, three))
three_of f (a ∷ b ∷ c ∷ []) x y z text other last three at next third is same too =
    ap (λ w. w ∷ f b ∷ f c ∷ []) (ap f (sym at) ∙ sym is)
    ∙ ap (λ w. text ∷ w ∷ f c ∷ []) (ap f (sym next) ∙ sym same)
    ∙ ap (λ w. text ∷ other ∷ w ∷ []) (ap f (sym third) ∙ sym too)
three_of f (a ∷ b ∷ c ∷ d ∷ more) x y z text other last three at next third is same too = absurd (omega (arith, three))

-- three words, of which the first is the name
pub rescues_if : (words : List Text) (name slots size : Text) (found : Option Layout) → words ≡ name ∷ slots ∷ size ∷ [] → name ≡ codes "rescue"
    → MatchOption found (IsNoLayoutWords slots size) (λ layout. IsLayoutWords layout slots size)
    → MatchOption found (IsNoRescue words) (λ layout. IsRescue (Some layout) words)
rescues_if words name slots size None are is none = none_of where
  none_of : IsNoRescue words
  none_of None rescues = absurd (omega (arith, ap length (sym are ∙ rescues)))
  none_of (Some layout) rescues =
      let both : codes "rescue" ∷ rescues.0 ∷ rescues.1 ∷ [] ≡ name ∷ slots ∷ size ∷ [] = sym rescues.2 ∙ are in
      let first : rescues.0 ≡ slots = ap (λ (l : List Text). get_or l 1 slots) both in
      let second : rescues.1 ≡ size = ap (λ (l : List Text). get_or l 2 size) both in
      none layout (subst (λ (w : Text). IsLayoutWords layout w size) first (subst (IsLayoutWords layout rescues.0) second rescues.3))
rescues_if words name slots size (Some layout) are is one = (slots, size, are ∙ ap (λ (t : Text). t ∷ slots ∷ size ∷ []) is, one)

-- what is asked for then
pub asks_for : (words : List Text) (found : Option Layout) (asked : Option RescueWords)
    → MatchOption found (asked ≡ None) (λ given. asked ≡ Some (record { layout = Some given }))
    → MatchOption found (IsNoRescue words) (λ layout. IsRescue (Some layout) words)
    → MatchOption asked (IsNoRescue words) (λ rescue. IsRescue rescue.layout words)
asks_for words None asked is none = subst (λ (o : Option RescueWords). MatchOption o (IsNoRescue words) (λ rescue. IsRescue rescue.layout words)) (sym is) none
asks_for words (Some layout) asked is one = subst (λ (o : Option RescueWords). MatchOption o (IsNoRescue words) (λ rescue. IsRescue rescue.layout words)) (sym is) one
