-- How a spool is kept.
use Rattle.std.proofs.Common.{◌≡◌, inl, ℕ, List, refl}
use Rattle.spool_state.specs.SpoolState.{SpoolState, IsKnownIn, Follows}
use Rattle.spool_state.specs.Image.{StandsFor}
use Rattle.spool_state.specs.Keeping.{KeepsSpool}
use Rattle.spool_state.proofs.Following.{follows_self}

-- in the same state
pub keeps_same : (Released : ℕ → Type 0) (s : SpoolState) (now next : List ℕ) → StandsFor s now → StandsFor s next → KeepsSpool Released now next
keeps_same Released s now next here there = record {
  state = s;
  later = s;
  stands = here;
  stands_later = there;
  slots = refl;
  size = refl;
  follows = follows_self s here.sound.from_base;
  earned = λ n is. inl is;
}

-- in a later one that knows the same numbers
pub keeps_later : (Released : ℕ → Type 0) (s t : SpoolState) (now next : List ℕ) → StandsFor s now → StandsFor t next → t.slots ≡ s.slots → t.size ≡ s.size → Follows s t → ((n : ℕ) → IsKnownIn t n → IsKnownIn s n) → KeepsSpool Released now next
keeps_later Released s t now next here there slots size follows known = record {
  state = s;
  later = t;
  stands = here;
  stands_later = there;
  slots = slots;
  size = size;
  follows = follows;
  earned = λ n is. inl (known n is);
}
