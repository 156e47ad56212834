-- The register written: the state after it.
use Rattle.std.proofs.Common.{◌≡◌, ℕ, ◌<◌, ◌≤◌, List, arith}
use Rattle.known_numbers.specs.declared.stretch.Stretch.{Stretch}
use Rattle.known_numbers.specs.Numbers.{EndBy, IsSound as IsSoundKnown, numbers_of as known_of, marked}
use Rattle.known_numbers.proofs.Marking.{marked_sound, marked_keeps, marked_reaches, marked_ends}
use Rattle.spool_state.specs.Layout.{most_run, most_number}
use Rattle.spool_state.specs.SpoolState.{SpoolState, list, base, end, numbers_of, IsKnownIn, Follows, IsSound}
use Rattle.spool_state.specs.Left.{numbered, unknown, left}
use Rattle.spool_state.specs.Change.{registered}
use Rattle.spool_state.proofs.Following.{follows_registered}
use Rattle.spool_state.proofs.Unknown.{unknown_thinned}

-- any run, cursor and stretches
module _ (s : SpoolState) (run cursor : ℕ) (known : List Stretch) where
  pub sound-registered : IsSound s → run ≤ most_run → s.ordinal < most_number → base s ≤ cursor → cursor ≤ end s → IsSoundKnown (known_of cursor known) → EndBy (end s) known → IsSound (registered s run cursor known)
  sound-registered sound few fits from to is ends = record {
    some = sound.some;
    few = sound.few;
    large = sound.large;
    small = sound.small;
    run = few;
    ordinal = omega arith;
    older = sound.older;
    active = sound.active;
    apart = sound.apart;
    apart_active = sound.apart_active;
    consecutive = sound.consecutive;
    ends = sound.ends;
    from_base = from;
    to_end = to;
    known = is;
    known_to_end = ends;
  }

  -- Of what isn't known exactly what is newly known goes.
  pub left-registered : ((n : ℕ) → IsKnownIn s n → IsKnownIn (registered s run cursor known) n) → left (registered s run cursor known) ≡ unknown (known_of cursor known) (left s)
  left-registered stays = unknown_thinned (numbers_of s) (known_of cursor known) (numbered (base s) (list s)) stays

-- with the numbers of stretches added to the known ones
abbrev pub with_marked : SpoolState → List Stretch → SpoolState
with_marked s more = registered s s.run (marked (numbers_of s) more).cursor (marked (numbers_of s) more).stretches

module _ (s : SpoolState) (more : List Stretch) (sound : IsSound s) where
  -- it follows
  pub follows_marked : Follows s (with_marked s more)
  follows_marked =
      let now = marked (numbers_of s) more in
      follows_registered s s.run now.cursor now.stretches sound.from_base (omega arith) (marked_reaches (numbers_of s) more sound.known) (marked_keeps (numbers_of s) more)

  -- it is sound where these stretches end at or below the end
  pub sound-marked : s.ordinal < most_number → EndBy (end s) more → IsSound (with_marked s more)
  sound-marked fits ends =
      let now = marked (numbers_of s) more in
      let within = marked_ends (end s) (numbers_of s) more sound.to_end sound.known_to_end ends in
      sound-registered s s.run now.cursor now.stretches sound sound.run fits (omega (arith, sound.from_base, marked_reaches (numbers_of s) more sound.known)) within.0 (marked_sound (numbers_of s) more sound.known) within.1

  -- and of what isn't known exactly the marked numbers go, but those of stretches that weren't added
  pub left-marked : left (with_marked s more) ≡ unknown (marked (numbers_of s) more) (left s)
  left-marked =
      let now = marked (numbers_of s) more in
      left-registered s s.run now.cursor now.stretches (marked_keeps (numbers_of s) more)
