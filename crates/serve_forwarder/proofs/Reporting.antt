-- The entry that a session offered alone.
use Rattle.std.proofs.Common.{◌≡◌, ◌∙◌, ℕ, ◌+◌, ◌≤◌, List, [], ◌∷◌, length, sym, ap, subst, arith}
use Rattle.std.specs.Prelude.{Option, Some, None, Ok, min, slice_get}
use Rattle.spool_answers.specs.declared.numbered.Numbered.{Numbered}
use Rattle.forward_core.specs.Forwarded.{until_by}
use Rattle.serve_forwarder.specs.Looks.{Offer, Every, First, first_of, offer_at, upto_of}

-- the first of no more than one entry is all that was given
pub one_given : (given : List Numbered) (first : Numbered) → length given ≤ 1 → slice_get given 0 ≡ Some first → given ≡ first ∷ []
one_given [] first few is = absurd (cc is)
one_given (one ∷ []) first few is = let same : one ≡ first = cc is in ap (λ (n : Numbered). n ∷ []) same
one_given (one ∷ two ∷ given) first few is = absurd (omega (arith, few))

-- its number is the one that was asked for
pub one_number : (given : List Numbered) (first : Numbered) (n : ℕ) → given ≡ first ∷ [] → Some n ≡ first_of (Ok given) → n ≡ first.number
one_number given first n one is = let same : Some n ≡ Some first.number = is ∙ ap (λ (l : List Numbered). first_of (Ok l)) one in cc same

-- a session that was to end at a number ends at the one after the first entry's, or before it
pub ends_low : (stuck upto : Option ℕ) (n until end : ℕ) → upto ≡ upto_of (offer_at stuck (Some n)) (Some n) → (upto ≡ None → ⊥) → until ≡ until_by upto end
    → until ≤ n + 1
ends_low stuck upto n until end is some until_is = by (offer_at stuck (Some n)) is where
  by : (offer : Offer) → upto ≡ upto_of offer (Some n) → until ≤ n + 1
  by Every none = absurd (some none)
  by First at = let least : until ≡ min (n + 1) end = until_is ∙ ap (λ (u : Option ℕ). until_by u end) at in omega (arith, least)
