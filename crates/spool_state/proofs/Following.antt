-- States that follow others.
use Rattle.std.proofs.Common.{◌≡◌, ℕ, ◌-◌, ◌<◌, ◌≤◌, List, ◌++◌, length, take, drop, refl, ◌∙◌, ap, arith}
use Rattle.std.proofs.lemmas.List.{take-append-le, drop-append-le}
use Rattle.std.proofs.lemmas.Grind.{common_steps}
use Rattle.known_numbers.specs.declared.stretch.Stretch.{Stretch}
use Rattle.event_form.specs.declared.event.Entry.{Entry}
use Rattle.spool_state.specs.SpoolState.{SpoolState, list, base, IsKnownIn, Follows}
use Rattle.spool_state.specs.Change.{added, registered}
use Rattle.spool_state.proofs.Texts.{list-added, end-added}

pub follows_self : (s : SpoolState) → base s ≤ s.cursor → Follows s s
follows_self s h = record { run = omega arith; cursor = omega arith; known = λ n is. is; base_rises = omega arith; end_rises = omega arith; kept = λ n ge lt. refl; confirmed = h }

pub follows_then : (a b c : SpoolState) → Follows a b → Follows b c → Follows a c
follows_then a b c p q = record {
  run = omega (arith, p.run, q.run);
  cursor = omega (arith, p.cursor, q.cursor);
  known = λ n is. q.known n (p.known n is);
  base_rises = omega (arith, p.base_rises, q.base_rises);
  end_rises = omega (arith, p.end_rises, q.end_rises);
  kept = λ n ge lt. q.kept n ge (omega (arith, p.end_rises)) ∙ p.kept n (omega (arith, q.base_rises)) lt;
  confirmed = q.confirmed;
}

-- what stood at a place of a list stands there in a longer one
kept_before : (i : ℕ) (xs ys : List Entry) → i < length xs → take 1 (drop i (xs ++ ys)) ≡ take 1 (drop i xs)
kept_before i xs ys lt = ap (λ (l : List Entry). take 1 l) (drop-append-le i xs ys (omega arith)) ∙ take-append-le 1 (drop i xs) ys (grind (arith, common_steps))

pub follows_added : (s : SpoolState) (group : List Entry) → base s ≤ s.cursor → Follows s (added s group)
follows_added s group h = record {
  run = omega arith;
  cursor = omega arith;
  known = λ n is. is;
  base_rises = omega arith;
  end_rises = omega (arith, end-added s group);
  kept = λ n ge lt. ap (λ (l : List Entry). take 1 (drop (n - base s) l)) (list-added s group) ∙ kept_before (n - base s) (list s) group (omega arith);
  confirmed = h;
}

pub follows_registered : (s : SpoolState) (run cursor : ℕ) (known : List Stretch) → base s ≤ s.cursor → s.run ≤ run → s.cursor ≤ cursor → ((n : ℕ) → IsKnownIn s n → IsKnownIn (registered s run cursor known) n) → Follows s (registered s run cursor known)
follows_registered s run cursor known h r c stays = record {
  run = r;
  cursor = c;
  known = stays;
  base_rises = omega arith;
  end_rises = omega arith;
  kept = λ n ge lt. refl;
  confirmed = omega arith;
}
