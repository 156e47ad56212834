-- A target that takes entries.
use Rattle.std.proofs.Common.{◌≡◌, ◌⊎◌, inl, inr, ℕ, ◌+◌, ◌<◌, ◌≤◌, List, [], ◌∷◌, ◌++◌, length, get_or, Option, None, Some, refl, sym, ◌∙◌, ap, arith, append_assoc, length-append}
use Rattle.std.specs.Prelude.{All, nat_le}
use Rattle.std.proofs.lemmas.Bool.{cond_both, leb-true}
use Rattle.std.proofs.lemmas.List.{append-nil}
use Rattle.known_numbers.specs.Numbers.{EndBy}
use Rattle.event_form.specs.declared.event.Entry.{Entry}
use Rattle.spool_state.specs.Segment.{need_of}
use Rattle.spool_state.specs.SpoolState.{OpenSlot, SpoolState, base, end, list, room, numbers_of, IsSound}
use Rattle.spool_state.specs.Change.{added, begun, shut}
use Rattle.spool_state.specs.Left.{NumberedEntry, left, numbered, unknown}
use Rattle.spool_state.specs.Free.{is_confirmed, end_of, lowest_closed}
use Rattle.spool_state.specs.Image.{StandsFor}
use Rattle.spool_state.proofs.Adding.{end_later}
use Rattle.spool_state.proofs.Begun.{base-begun, end-begun, left-begun, follows_begun}
use Rattle.spool_state.proofs.Following.{follows_self, follows_then, follows_added}
use Rattle.spool_state.proofs.Shut.{end-shut, follows_shut, left-shut, sound-shut}
use Rattle.spool_state.proofs.Texts.{list-added, end-added}
use Rattle.spool_state.proofs.Unknown.{numbered_append, numbered_of, unknown_append, unknown_all, known_below}
use Rattle.spool_answers.specs.Stages.{begin_stages, closed_stages, replace_stages, first_stages, group_stages, last_of, StandsForOne, IsMidway}
use Rattle.desk_access.proofs.Stages.{none_of, cons_of, head_of, tail_of}
use Rattle.spool_move.specs.Stands.{HasTaken}

-- ---- none, or some and then others

pub taken_none : (u : SpoolState) → base u ≤ u.cursor → HasTaken u [] u
taken_none u from = record { known_same = refl; run_same = refl; follows = follows_self u from; ends = omega arith; left_is = sym (append-nil (left u)) }

pub taken_then : (u t v : SpoolState) (xs ys : List Entry) → HasTaken u xs t → HasTaken t ys v → HasTaken u (xs ++ ys) v
taken_then u t v xs ys p q = record {
  known_same = q.known_same ∙ p.known_same;
  run_same = q.run_same ∙ p.run_same;
  follows = follows_then u t v p.follows q.follows;
  ends = omega (arith, p.ends, q.ends, length-append xs ys);
  left_is = q.left_is
      ∙ ap (λ (l : List NumberedEntry). l ++ numbered (end t) ys) p.left_is
      ∙ append_assoc (left u) (numbered (end u) xs) (numbered (end t) ys)
      ∙ ap (λ (n : ℕ). left u ++ (numbered (end u) xs ++ numbered n ys)) p.ends
      ∙ ap (λ (l : List NumberedEntry). left u ++ l) (sym (numbered_append (end u) xs ys));
}

-- ---- the stages of a group

-- the known numbers are those of entries
record IsBounded (s : SpoolState) : Type 0 where
  from_base : base s ≤ s.cursor
  to_end : s.cursor ≤ end s
  known : EndBy (end s) s.known

bounded : (s : SpoolState) → IsSound s → IsBounded s
bounded s sound = record { from_base = sound.from_base; to_end = sound.to_end; known = sound.known_to_end }

begun_bounded : (s : SpoolState) (place : ℕ) → IsBounded s → IsBounded (begun s place)
begun_bounded s place b = record {
  from_base = omega (arith, base-begun s place, b.from_base);
  to_end = omega (arith, end-begun s place, b.to_end);
  known = end_later (end s) (end (begun s place)) s.known (omega (arith, end-begun s place)) b.known;
}

left_added : (s : SpoolState) (group : List Entry) → IsBounded s → left (added s group) ≡ left s ++ numbered (end s) group
left_added s group b =
    let numbers = numbers_of s in
    ap (λ (l : List Entry). unknown numbers (numbered (base s) l)) (list-added s group)
    ∙ ap (unknown numbers) (numbered_append (base s) (list s) group)
    ∙ unknown_append numbers (numbered (base s) (list s)) (numbered (end s) group)
    ∙ ap (λ (l : List NumberedEntry). left s ++ l)
    (unknown_all numbers (end s) (end s + length group) (numbered (end s) group) (numbered_of (end s) group)
    (λ n ge lt known. absurd (omega (arith, known_below (end s) numbers n b.to_end b.known known))))

added_taken : (s : SpoolState) (group : List Entry) → IsBounded s → HasTaken s group (added s group)
added_taken s group b = record {
  known_same = refl;
  run_same = refl;
  follows = follows_added s group b.from_base;
  ends = end-added s group;
  left_is = left_added s group b;
}

begun_taken : (s : SpoolState) (place : ℕ) → IsBounded s → HasTaken s [] (begun s place)
begun_taken s place b = record {
  known_same = refl;
  run_same = refl;
  follows = follows_begun s place b.from_base;
  ends = omega (arith, end-begun s place);
  left_is = left-begun s place ∙ sym (append-nil (left s));
}

shut_taken : (s : SpoolState) (slot : OpenSlot) (rest : List OpenSlot) → s.older ≡ slot ∷ rest → IsSound s → end_of slot ≤ s.cursor → HasTaken s [] (shut s rest)
shut_taken s slot rest is sound confirmed = record {
  known_same = refl;
  run_same = refl;
  follows = follows_shut s slot rest is sound confirmed;
  ends = omega (arith, end-shut s slot rest is sound);
  left_is = left-shut s slot rest is sound confirmed ∙ sym (append-nil (left s));
}

-- the state has taken nothing, or the group
abbrev IsStep : SpoolState → List Entry → SpoolState → Type 0
IsStep s group t = HasTaken s [] t ⊎ HasTaken s group t

step_behind : (s t v : SpoolState) (group : List Entry) → HasTaken s [] t → IsStep t group v → IsStep s group v
step_behind s t v group first (inl none) = inl (taken_then s t v [] [] first none)
step_behind s t v group first (inr some) = inr (taken_then s t v [] group first some)

-- what the stages of a take are
pub record AreSteps (s : SpoolState) (group : List Entry) (stages : List SpoolState) : Type 0 where
  pub each : All (λ t. HasTaken s [] t ⊎ HasTaken s group t) stages
  pub last : 0 < length stages → HasTaken s group (last_of s stages)

no_steps : (s : SpoolState) (group : List Entry) → AreSteps s group []
no_steps s group = record { each = none_of (IsStep s group); last = λ some. absurd (omega arith) }

begin_steps : (s : SpoolState) (place : ℕ) (group : List Entry) → IsBounded s → AreSteps s group (begin_stages s place group)
begin_steps s place group b =
    let first = begun_taken s place b in
    let then = added_taken (begun s place) group (begun_bounded s place b) in
    let all = taken_then s (begun s place) (added (begun s place) group) [] group first then in
    record {
      each = cons_of (IsStep s group) (begun s place) (added (begun s place) group ∷ []) (inl first) (cons_of (IsStep s group) (added (begun s place) group) [] (inr all) (none_of (IsStep s group)));
      last = λ some. all;
    }

first_steps : (s : SpoolState) (group : List Entry) (older : List OpenSlot) → s.older ≡ older → IsSound s → AreSteps s group (first_stages s older group)
first_steps s group [] is sound = no_steps s group
first_steps s group (slot ∷ rest) is sound =
    let t = shut s rest in
    cond_both (is_confirmed s slot) (replace_stages s (slot ∷ rest) group) [] (AreSteps s group) (λ yes.
    let confirmed = leb-true (end_of slot) s.cursor yes in
    let first = shut_taken s slot rest is sound confirmed in
    let behind = begin_steps t slot.place group (bounded t (sound-shut s slot rest is sound confirmed)) in
    record {
      each = cons_of (IsStep s group) t (begin_stages t slot.place group) (inl first) (λ k d lt. step_behind s t (get_or (begin_stages t slot.place group) k d) group first (behind.each k d lt));
      last = λ some. taken_then s t (last_of t (begin_stages t slot.place group)) [] group first (behind.last (omega arith));
    }) (λ no. no_steps s group)

closed_steps : (s : SpoolState) (group : List Entry) (place : Option ℕ) → IsSound s → AreSteps s group (closed_stages place s group)
closed_steps s group (Some place) sound = begin_steps s place group (bounded s sound)
closed_steps s group None sound = first_steps s group s.older refl sound

pub group_steps : (s : SpoolState) (group : List Entry) → IsSound s → AreSteps s group (group_stages s group)
group_steps s group sound =
    cond_both (nat_le (need_of group) (room s)) (added s group ∷ []) (closed_stages (lowest_closed s s.slots) s group) (AreSteps s group) (λ yes. record {
      each = cons_of (IsStep s group) (added s group) [] (inr (added_taken s group (bounded s sound))) (none_of (IsStep s group));
      last = λ some. added_taken s group (bounded s sound);
    }) (λ no. closed_steps s group (lowest_closed s s.slots) sound)

-- ---- what a device stands for meanwhile

one_stands : (P : SpoolState → Type 0) (s : SpoolState) (stages : List SpoolState) (c : List ℕ) → P s → All P stages → StandsForOne s stages c → (t : SpoolState) × StandsFor t c × P t
one_stands P s [] c here all stands = (s, stands, here)
one_stands P s (stage ∷ stages) c here all (inl stands) = (s, stands, here)
one_stands P s (stage ∷ stages) c here all (inr rest) = one_stands P stage stages c (head_of P stage stages all) (tail_of P stage stages all) rest

pub midway_stands : (P : SpoolState → Type 0) (s : SpoolState) (stages : List SpoolState) (c : List ℕ) → P s → All P stages → IsMidway s stages c → (t : SpoolState) × StandsFor t c × P t
midway_stands P s [] c here all midway = absurd midway
midway_stands P s (stage ∷ stages) c here all midway = one_stands P s (stage ∷ stages) c here all midway
