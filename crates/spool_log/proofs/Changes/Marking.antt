-- Numbers made known.
use Rattle.std.proofs.Common.{◌≡◌, ◌⊎◌, ◌↔◌, IsTrue, Bool, true, false, inl, inr, ℕ, ◌+◌, min, length, take, zero, suc, ◌^◌, ◌<◌, ◌≤◌, List, [], ◌∷◌, ◌++◌, refl, sym, ◌∙◌, ap, subst, arith, get_or}
use Rattle.std.specs.Prelude.{nat_le, not, Ok, Err}
use Rattle.std.proofs.lemmas.Bool.{cond-true, cond-false, le-leb, lt-leb, false≢true}
use Rattle.std.proofs.lemmas.List.{take_more}
use Rattle.known_numbers.specs.declared.stretch.Stretch.{Stretch}
use Rattle.known_numbers.specs.Numbers.{Numbers, EndBy, IsWithin, IsInSome, IsKnown, IsSound as IsSoundKnown, count_of, marked}
use Rattle.known_numbers.proofs.Marking.{marked_ends, marked_only, marked_reaches, marked_rises}
use Rattle.spool_state.specs.SpoolState.{SpoolState, base, end, numbers_of, Follows, IsSound}
use Rattle.spool_state.specs.Change.{registered}
use Rattle.spool_state.proofs.Following.{follows_self}
use Rattle.spool_state.proofs.Registered.{with_marked, follows_marked}
use Rattle.edge_disk.specs.Disk.{LeavesOnly}
use Rattle.spool_faults.specs.declared.fault.ConfirmFault.TheVariants.{Worn, DiskFault}
use Rattle.spool_log.specs.State.{View, IsIn, LeavesStages}
use Rattle.spool_answers.specs.Stages.{last_of, total_of, known_stages, StandsForOne, AllFollow}
use Rattle.spool_log.specs.Changing.Mark.{MarksTo}
use Rattle.spool_answers.specs.Mark.{EndsBy, IsNothingNew}
use Rattle.spool_log.specs.declared.memory.Memory.{Memory}
use Rattle.disk_cell.specs.declared.content.Content.{Content}
use Rattle.spool_log.specs.Device.{numbers_in, MayFollow}
use Rattle.spool_log.specs.Knows.{Knows}
use Rattle.spool_log.specs.Memory.{cursor_of, end_of, numbers_of as known_numbers_of}
use Rattle.spool_log.proofs.Numbers.{end_known}
use Rattle.spool_log.proofs.Stored.{none_follow, leaves_stages}

-- one more stretch
pub marked_more : (a : Numbers) (more : List Stretch) (one : Stretch) → marked a (more ++ one ∷ []) ≡ marked (marked a more) (one ∷ [])
marked_more a [] one = refl
marked_more a (first ∷ more) one = marked_more (marked a (first ∷ [])) more one

-- the known numbers of memory are the state's
pub numbers_known : (s : SpoolState) (memory : Memory) → Knows s memory → known_numbers_of memory ≡ numbers_of s
numbers_known s memory knows = λ i. record { cursor = knows.cursor i; stretches = knows.known i }

-- numbers that may follow those that memory has
pub may_lie : (s : SpoolState) (memory : Memory) (numbers : Numbers) → Knows s memory → IsSound s → MayFollow (cursor_of memory) (end_of memory) numbers → (base s ≤ numbers.cursor) × (numbers.cursor ≤ end s) × EndBy (end s) numbers.stretches
may_lie s memory numbers knows sound may =
    let ends = end_known s memory.active sound knows.active in
    (omega (arith, may.reaches, knows.cursor, sound.from_base), omega (arith, may.within, ends), subst (λ (e : ℕ). EndBy e numbers.stretches) ends may.stretches)

module _ (s : SpoolState) (more : List Stretch) (sound : IsSound s) where
  abbrev numbers : Numbers
  numbers = marked (numbers_of s) more

  abbrev after : SpoolState
  after = with_marked s more

  -- nothing new
  pub nothing_stage : IsNothingNew s more → known_stages s more ≡ []
  nothing_stage same = cond-true (nat_le (total_of numbers) (total_of (numbers_of s))) [] (after ∷ []) (le-leb (total_of numbers) (total_of (numbers_of s)) (omega (arith, ap total_of same)))

  pub nothing_new : (numbers ≡ numbers_of s → ⊥) → total_of (numbers_of s) < total_of numbers
  nothing_new differ = elim (marked_rises (numbers_of s) more sound.known) [ inl same ↦ absurd (differ same) | inr rises ↦ rises ]

  -- something new
  module _ (new : total_of (numbers_of s) < total_of numbers) where
    pub is_new : IsNothingNew s more → ⊥
    is_new same = omega (arith, new, ap total_of same)

    one_stage : known_stages s more ≡ after ∷ []
    one_stage = cond-false (nat_le (total_of numbers) (total_of (numbers_of s))) [] (after ∷ []) (lt-leb (total_of numbers) (total_of (numbers_of s)) new)

    follows : Follows s after
    follows = follows_marked s more sound

    one_follow : AllFollow s (after ∷ [])
    one_follow zero d lt = follows
    one_follow (suc k) d lt = absurd (omega arith)

    pub all_follow : AllFollow s (after ∷ [])
    all_follow = one_follow

    pub done : (old new : View) → s.ordinal < 2 ^ 63 → IsIn after [] new → LeavesOnly (StandsForOne s (after ∷ [])) old.moment new.moment → MarksTo s more (Ok tt) old new
    done old new fits reached run =
        let is = sym one_stage in record {
          answer = inr fits;
          follows = subst (λ (l : List SpoolState). Follows s (last_of s l)) is follows;
          stages_follow = subst (AllFollow s) is one_follow;
          reached = subst (λ (l : List SpoolState). IsIn (last_of s l) [] new) is reached;
          any_moment = subst (λ (l : List SpoolState). LeavesStages s l old.moment new.moment) is (leaves_stages s (after ∷ []) old.moment new.moment (omega arith) run);
        }

    pub failed : (old new : View) → s.ordinal < 2 ^ 63 → IsIn s (after ∷ []) new → LeavesOnly (StandsForOne s (after ∷ [])) old.moment new.moment → MarksTo s more (Err DiskFault) old new
    failed old new fits reached run =
        let is = sym one_stage in record {
          answer = (is_new, fits);
          follows = follows_self s sound.from_base;
          stages_follow = subst (AllFollow s) is one_follow;
          reached = subst (λ (l : List SpoolState). IsIn s l new) is reached;
          any_moment = subst (λ (l : List SpoolState). LeavesStages s l old.moment new.moment) is (leaves_stages s (after ∷ []) old.moment new.moment (omega arith) run);
        }

    pub worn : (ordinal : ℕ) (old new : View) → ordinal ≡ s.ordinal → s.ordinal ≡ 2 ^ 63 → IsIn s [] new → LeavesStages s [] old.moment new.moment → MarksTo s more (Err (Worn ordinal)) old new
    worn ordinal old new is last reached run = record { answer = (is_new, is, last); follows = follows_self s sound.from_base; stages_follow = none_follow s; reached = reached; any_moment = run }

-- ---- as memory joined them

module _ (s : SpoolState) (memory : Memory) (numbers : Numbers) (more : List Stretch) (knows : Knows s memory) (is : numbers ≡ marked (known_numbers_of memory) more) where
  pub marked_as : numbers ≡ marked (numbers_of s) more
  marked_as = is ∙ ap (λ (n : Numbers). marked n more) (numbers_known s memory knows)

  pub marked_rises_as : total_of (known_numbers_of memory) < total_of numbers → total_of (numbers_of s) < total_of (marked (numbers_of s) more)
  marked_rises_as new = omega (arith, new, ap total_of (numbers_known s memory knows), ap total_of marked_as)

-- the state after it
pub state_as : (s : SpoolState) (more : List Stretch) (numbers : Numbers) (run : ℕ) (P : SpoolState → Type 0) → run ≡ s.run → numbers ≡ marked (numbers_of s) more → P (registered s run numbers.cursor numbers.stretches) → P (with_marked s more)
state_as s more numbers run P is same p = subst (λ (n : Numbers). P (registered s s.run n.cursor n.stretches)) same (subst (λ (r : ℕ). P (registered s r numbers.cursor numbers.stretches)) is p)

-- ---- joined one after another

-- a stretch as far as it is below an end
module _ (cursor end : ℕ) (numbers : Numbers) (sound : IsSoundKnown numbers) (one : Stretch) (within : one.to ≤ end) (may : MayFollow cursor end numbers) where
  pub join_may : MayFollow cursor end (marked numbers (one ∷ []))
  join_may =
      let ends = marked_ends end numbers (one ∷ []) may.within may.stretches (within, tt) in record {
        reaches = omega (arith, may.reaches, marked_reaches numbers (one ∷ []) sound);
        within = ends.0;
        stretches = ends.1;
      }

-- more than at the start, or the same
pub join_rises : (start numbers : Numbers) (one : Stretch) → IsSoundKnown numbers → (numbers ≡ start) ⊎ (total_of start < total_of numbers) → (marked numbers (one ∷ []) ≡ start) ⊎ (total_of start < total_of (marked numbers (one ∷ [])))
join_rises start numbers one sound (inl same) = elim (marked_rises numbers (one ∷ []) sound) [ inl is ↦ inl (is ∙ same) | inr more ↦ inr (omega (arith, more, ap total_of same)) ]
join_rises start numbers one sound (inr rose) = elim (marked_rises numbers (one ∷ []) sound) [ inl is ↦ inr (omega (arith, rose, ap total_of is)) | inr more ↦ inr (omega (arith, rose, more)) ]

-- a stretch that ends by the end is the same as far as it is below it
pub whole_stretch : (end : ℕ) (one : Stretch) (from to : ℕ) → EndsBy end one → from ≡ min one.from end → to ≡ min one.to end → record { from = from; to = to } ≡ one
whole_stretch end one from to ends f t =
    let from_is : from ≡ one.from = omega (arith, f, ends.order, ends.within) in
    let to_is : to ≡ one.to = omega (arith, t, ends.within) in
    λ i. record { from = from_is i; to = to_is i }

-- of the first so many stretches one more
pub join_more : (start numbers : Numbers) (more : List Stretch) (i : ℕ) (d other : Stretch) → i < length more → other ≡ get_or more i d → numbers ≡ marked start (take i more) → marked numbers (other ∷ []) ≡ marked start (take (i + 1) more)
join_more start _ more i d other lt same joined =
    (λ k. marked (joined k) (same k ∷ [])) ∙ sym (marked_more start (take i more) (get_or more i d)) ∙ ap (λ (l : List Stretch). marked start l) (sym (take_more more i d lt))

-- a number of some stretches is one of more of them
in_more : (xs ys : List Stretch) (n : ℕ) → IsInSome xs n → IsInSome (xs ++ ys) n
in_more [] ys n is = absurd is
in_more (x ∷ xs) ys n (inl here) = inl here
in_more (x ∷ xs) ys n (inr there) = inr (in_more xs ys n there)

in_last : (xs : List Stretch) (y : Stretch) (n : ℕ) → IsWithin y n → IsInSome (xs ++ y ∷ []) n
in_last [] y n is = inl is
in_last (x ∷ xs) y n is = inr (in_last xs y n is)

-- no more become known than those of the stretches
pub join_only : (start numbers : Numbers) (more : List Stretch) (i : ℕ) (d one : Stretch) (end : ℕ) → i < length more → one.from ≡ min (get_or more i d).from end → one.to ≡ min (get_or more i d).to end → (n : ℕ)
    → (IsKnown numbers n → IsKnown start n ⊎ IsInSome (take i more) n) → IsKnown (marked numbers (one ∷ [])) n → IsKnown start n ⊎ IsInSome (take (i + 1) more) n
join_only start numbers more i d one end lt from to n before known =
    let longer : (IsInSome (take i more ++ get_or more i d ∷ []) n) → IsInSome (take (i + 1) more) n = λ h. subst (λ (l : List Stretch). IsInSome l n) (sym (take_more more i d lt)) h in
    elim (marked_only numbers (one ∷ []) n known) [
      | inl was ↦ elim (before was) [
        | inl at_start ↦ inl at_start
        | inr earlier ↦ inr (longer (in_more (take i more) (get_or more i d ∷ []) n earlier))
      ]
      | inr new ↦ elim new [
        | inl within ↦ inr (longer (in_last (take i more) (get_or more i d) n (omega (arith, within.0, within.1, from, to), omega (arith, within.0, within.1, from, to))))
        | inr none ↦ absurd none
      ]
    ]

-- as many numbers up to the same cursor are the same numbers
pub same_or_more : (start numbers : Numbers) → (numbers ≡ start) ⊎ (total_of start < total_of numbers) → numbers.cursor ≡ start.cursor → count_of numbers.stretches ≡ count_of start.stretches → numbers ≡ start
same_or_more start numbers (inl same) cursor count = same
same_or_more start numbers (inr more) cursor count = absurd (omega (arith, more, cursor, count))

-- what the counts say of the numbers
pub judged_same : (start numbers : Numbers) (b : Bool) (count : ℕ) → count ≡ count_of start.stretches → (numbers ≡ start) ⊎ (total_of start < total_of numbers) → (IsTrue b ↔ ((numbers.cursor ≡ start.cursor) × (count_of numbers.stretches ≡ count)))
    → (IsTrue (not b) ↔ (total_of start < total_of numbers)) × ((IsTrue (not b) → ⊥) → numbers ≡ start)
judged_same start numbers true count is rises h =
    let equal = h.0 refl in
    let same = same_or_more start numbers rises equal.0 (equal.1 ∙ is) in
    (((λ t. absurd (false≢true t)), (λ lt. absurd (omega (arith, lt, ap total_of same)))), (λ off. same))
judged_same start numbers false count is rises h =
    (((λ t. elim rises [ inl same ↦ absurd (false≢true (h.1 (ap (λ (n : Numbers). n.cursor) same, ap (λ (n : Numbers). count_of n.stretches) same ∙ sym is))) | inr more ↦ more ]), (λ lt. refl)), (λ off. absurd (off refl)))

-- ---- as a spool has them

-- nothing new
pub nothing_as : (s : SpoolState) (memory : Memory) (content : Content) (numbers : Numbers) (more : List Stretch) → Knows s memory → content ≡ memory.register.content → numbers ≡ marked (numbers_in content) more → numbers ≡ numbers_in content → IsNothingNew s more
nothing_as s memory content _ more knows is joined same =
    let start : numbers_in content ≡ numbers_of s = ap numbers_in is ∙ numbers_known s memory knows in
    ap (λ (n : Numbers). marked n more) (sym start) ∙ sym joined ∙ same ∙ start
