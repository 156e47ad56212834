-- A value with a byte after it that may follow one goes no further.
use Rattle.std.proofs.Common.{◌≡◌, ℕ, ◌+◌, ◌≤◌, ◌<◌, true, List, [], ◌∷◌, ◌++◌, get_or, refl, sym, ap, ◌∙◌, subst, append_assoc, arith, None}
use Rattle.std.specs.Prelude.{slice_range}
use Rattle.json_span.specs.Json.{AreSpaces, Json}
use Rattle.json_span.specs.Machine.{State, Value, First, Names, Name, InName, In, next, after_value, Follows, Fails, Bad, step, accepts, Going, Stopped, onward, run}
use Rattle.json_span.specs.Spans.{Stretch, IsFirst}
use Rattle.json_span.specs.Walk.{IsFollowed}
use Rattle.json_span.proofs.TextLaws.{spaced_now}
use Rattle.json_span.proofs.TokenLaws.{token_stops}
use Rattle.json_span.proofs.RunLaws.{run_push}
use Rattle.json_span.proofs.Fronts.{top, value_run, bad_none, begins_value}
use Rattle.json_span.proofs.Stretches.{range_split}
use Rattle.json_span.proofs.Values.{range_head}

stops : (t : State) (c : ℕ) → accepts t ≡ true → Follows c → step t c ≡ Fails Bad
unfolding step after_value
stops (In k d []) c a f = let n : next k c ≡ None = token_stops k c a f in rw (n, a) refl
stops (In k d (b ∷ st)) c a f = cc
stops (Value d st) c a f = cc
stops (First d st) c a f = cc
stops (Names d st) c a f = cc
stops (Name d st) c a f = cc
stops (InName k d st) c a f = cc

pub no_longer : (d n : ℕ) (x z : List ℕ) (c : ℕ) → Json d x → Follows c → Json n (x ++ c ∷ z) → ⊥
no_longer d n x z c i f j =
    let v = value_run d x (spaced_now (Json d) x i) in
    let s : run (top d) (x ++ c ∷ []) ≡ Stopped Bad = run_push (top d) v.0 x c v.1 ∙ ap (λ p. onward p (λ u. Going u)) (stops v.0 c v.2 f) in
    bad_none d n (x ++ c ∷ []) s (begins_value n (x ++ c ∷ []) z (subst (Json n) (sym (append_assoc x (c ∷ []) z)) j))

-- such a value is the first one
pub first_followed : (levels : ℕ) (bytes : List ℕ) (at start end : ℕ) → Stretch AreSpaces bytes at start → Stretch (Json levels) bytes start end → IsFollowed bytes end → IsFirst levels bytes at (record { start = start; end = end })
first_followed levels bytes at start end w v f = record { space = w; value = v; longest = longest }
  where
    longest : (d e : ℕ) → Stretch (Json d) bytes start e → e ≤ end
    longest d e s =
        let no : end < e → ⊥ = λ h.
        let p : slice_range bytes start e ≡ slice_range bytes start end ++ slice_range bytes end e = range_split bytes start end e v.order (omega (arith, h)) in
        let q : slice_range bytes end e ≡ get_or bytes end 0 ∷ slice_range bytes (end + 1) e = range_head bytes end e h s.bound in
        no_longer levels d (slice_range bytes start end) (slice_range bytes (end + 1) e) (get_or bytes end 0) v.text (f (omega (arith, h, s.bound))) (subst (Json d) (p ∙ ap (λ z. slice_range bytes start end ++ z) q) s.text) in
        omega (arith, no)
