-- The answer to whether an entry is pending, and what a look offers by it.
use Rattle.std.proofs.Common.{◌≡◌, ◌∙◌, ℕ, ◌<◌, ◌^◌, List, [], ◌∷◌, refl, sym, ap, subst}
use Rattle.std.specs.Prelude.{Option, Some, None, Ok, slice_get}
use Rattle.event_form.specs.Event.{IsEvent}
use Rattle.spool_answers.specs.declared.numbered.Numbered.{Numbered}
use Rattle.spool_answers.specs.Pend.{AreNumbered}
use Rattle.serve_forwarder.specs.Looks.{IsPending, first_of, offer_at, upto_of}

-- no entry comes first, or one does
pub none_pending : (given : List Numbered) → first_of (Ok given) ≡ None → given ≡ []
none_pending [] none = refl
none_pending (one ∷ given) none = absurd (cc none)

pub some_pending : (given : List Numbered) (first : ℕ) → first_of (Ok given) ≡ Some first → IsPending (Ok given)
some_pending [] first some = absurd (cc some)
some_pending (one ∷ given) first some = tt

-- its number is below the limit
pub first_within : (given : List Numbered) (first : ℕ) → AreNumbered 0 (2 ^ 63) given → first_of (Ok given) ≡ Some first → first < 2 ^ 63
first_within [] first numbered some = absurd (cc some)
first_within (one ∷ given) first numbered some = let same : one.number ≡ first = cc some in subst (λ (n : ℕ). n < 2 ^ 63) same numbered.1

-- what is offered by the number of the first entry is so by the answer that gave it
pub offered : (stuck first : Option ℕ) (n : ℕ) (upto : Option ℕ) → first ≡ Some n → upto ≡ upto_of (offer_at stuck (Some n)) (Some n) → upto ≡ upto_of (offer_at stuck first) first
offered stuck first n upto is made = made ∙ ap (λ (f : Option ℕ). upto_of (offer_at stuck f) f) (sym is)

-- it is within its limits
pub first_is_event : (given all : List Numbered) (first : Numbered) → AreNumbered 0 (2 ^ 63) given → all ≡ given → Some first ≡ slice_get all 0 → IsEvent first.entry.event
first_is_event given all first numbered same is = first_of_given given numbered (is ∙ ap (λ (l : List Numbered). slice_get l 0) same) where
  first_of_given : (given : List Numbered) → AreNumbered 0 (2 ^ 63) given → Some first ≡ slice_get given 0 → IsEvent first.entry.event
  first_of_given [] numbered is = absurd (cc is)
  first_of_given (one ∷ given) numbered is = let same : one ≡ first = cc is in subst (λ (n : Numbered). IsEvent n.entry.event) same numbered.2.event
