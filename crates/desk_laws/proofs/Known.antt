-- The stage by which numbers become known.
use Rattle.std.proofs.Common.{zero, suc, List, [], ◌∷◌, arith}
use Rattle.std.specs.Prelude.{nat_le}
use Rattle.std.proofs.lemmas.Bool.{cond_both}
use Rattle.known_numbers.specs.declared.stretch.Stretch.{Stretch}
use Rattle.known_numbers.specs.Numbers.{marked}
use Rattle.known_numbers.proofs.Marking.{marked_keeps, marked_reaches}
use Rattle.spool_state.specs.SpoolState.{SpoolState, numbers_of, Follows, IsSound}
use Rattle.spool_state.specs.Change.{registered}
use Rattle.spool_state.proofs.Following.{follows_registered}
use Rattle.spool_answers.specs.Stages.{AllFollow, known_stages, total_of}

none_of : (s : SpoolState) → AllFollow s []
none_of s = λ k d lt. absurd (omega arith)

one_of : (s t : SpoolState) → Follows s t → AllFollow s (t ∷ [])
one_of s t here zero d lt = here
one_of s t here (suc k) d lt = absurd (omega arith)

pub known_follow : (s : SpoolState) (more : List Stretch) → IsSound s → AllFollow s (known_stages s more)
known_follow s more sound =
    let numbers = marked (numbers_of s) more in
    let then = registered s s.run numbers.cursor numbers.stretches in
    cond_both (nat_le (total_of numbers) (total_of (numbers_of s))) [] (then ∷ []) (AllFollow s) (λ yes. none_of s) (λ no.
    one_of s then (follows_registered s s.run numbers.cursor numbers.stretches sound.from_base (omega arith) (marked_reaches (numbers_of s) more sound.known) (marked_keeps (numbers_of s) more)))
