-- The stages of a change.
use Rattle.std.proofs.Common.{◌≡◌, ◌⊎◌, inl, inr, ℕ, zero, suc, ◌+◌, ◌-◌, ◌^◌, ◌≤◌, ◌<◌, List, [], ◌∷◌, length, flat_map, get_or, Option, None, Some, refl, sym, ◌∙◌, ap, subst, arith, length-append}
use Rattle.std.specs.Prelude.{All, false, nat_le}
use Rattle.std.proofs.lemmas.Bool.{cond_both, leb-true, leb-false}
use Rattle.event_form.specs.declared.event.Entry.{Entry}
use Rattle.spool_state.specs.Segment.{IsGroup, entries_of, need_of, segment_text}
use Rattle.known_numbers.specs.declared.stretch.Stretch.{Stretch}
use Rattle.known_numbers.specs.Numbers.{marked}
use Rattle.spool_state.specs.SpoolState.{OpenSlot, SpoolState, base, end, room, numbers_of, AreConsecutive, Follows, IsSound}
use Rattle.spool_state.specs.Change.{added, begun, shut}
use Rattle.spool_state.proofs.Segments.{empty_length}
use Rattle.spool_state.proofs.Adding.{sound-added}
use Rattle.spool_state.proofs.Following.{follows_self, follows_then}
use Rattle.spool_state.specs.Free.{is_confirmed, first_is_confirmed, end_of, lowest_closed, IsClosed, IsFree}
use Rattle.spool_state.proofs.Frees.{found_closed, none_free}
use Rattle.spool_state.proofs.Begun.{base-begun, end-begun, sound-begun}
use Rattle.spool_state.proofs.Shut.{base-shut, end-shut, sound-shut, shut_closed}
use Rattle.spool_state.proofs.Registered.{with_marked, sound-marked, follows_marked}
use Rattle.spool_answers.specs.Stages.{begin_stages, closed_stages, replace_stages, first_stages, group_stages, known_stages, total_of, last_of, IsOneOf, AllFollow}
use Rattle.spool_answers.specs.Take.{HasPlace, Fits}
use Rattle.spool_answers.specs.Mark.{EndsBy, IsNothingNew}
use Rattle.spool_answers.proofs.Adding.{adding_follow}
use Rattle.spool_answers.proofs.Marking.{end_by}
use Rattle.desk_access.specs.declared.standing.Standing.{Standing}
use Rattle.desk_access.specs.Standing.{standing_of}
use Rattle.desk_access.specs.History.{IsLater, AreTold, Grown}
use Rattle.desk_access.proofs.Growth.{grown_same, grown_begun, grown_added, grown_shut, grown_end, grown_then}

pub later_self : (s : SpoolState) → IsSound s → IsLater s s
later_self s sound = record { sound = sound; follows = follows_self s sound.from_base; slots = refl; size = refl; run = refl }

pub later_then : (a b c : SpoolState) → IsLater a b → IsLater b c → IsLater a c
later_then a b c p q = record { sound = q.sound; follows = follows_then a b c p.follows q.follows; slots = q.slots ∙ p.slots; size = q.size ∙ p.size; run = q.run ∙ p.run }

pub none_of : (P : SpoolState → Type 0) → All P []
none_of P = λ k d lt. absurd (omega arith)

pub cons_of : (P : SpoolState → Type 0) (s : SpoolState) (stages : List SpoolState) → P s → All P stages → All P (s ∷ stages)
cons_of P s stages here more zero d lt = here
cons_of P s stages here more (suc k) d lt = more k d (omega arith)

pub head_of : (P : SpoolState → Type 0) (s : SpoolState) (stages : List SpoolState) → All P (s ∷ stages) → P s
head_of P s stages all = all 0 s (omega arith)

pub tail_of : (P : SpoolState → Type 0) (s : SpoolState) (stages : List SpoolState) → All P (s ∷ stages) → All P stages
tail_of P s stages all = λ k d lt. all (suc k) d (omega arith)

last_by : (P : SpoolState → Type 0) (s : SpoolState) (stages : List SpoolState) → P s → All P stages → P (last_of s stages)
last_by P s [] here all = here
last_by P s (stage ∷ stages) here all = last_by P stage stages (head_of P stage stages all) (tail_of P stage stages all)

pub last_in : (P : SpoolState → Type 0) (s : SpoolState) (stages : List SpoolState) → 0 < length stages → All P stages → P (last_of s stages)
last_in P s [] some all = absurd (omega arith)
last_in P s (stage ∷ stages) some all = last_by P stage stages (head_of P stage stages all) (tail_of P stage stages all)

pub one_in : (P : SpoolState → Type 0) (s m : SpoolState) (stages : List SpoolState) → P s → All P stages → IsOneOf s stages m → P m
one_in P s m [] here all one = subst P (sym one) here
one_in P s m (stage ∷ stages) here all (inl one) = subst P (sym one) here
one_in P s m (stage ∷ stages) here all (inr one) = one_in P stage m stages (head_of P stage stages all) (tail_of P stage stages all) one

-- The stage is one of a change by which the group is added: of the same device in the same run, with the group or without it.
pub record IsStage (s : SpoolState) (group : List Entry) (t : SpoolState) : Type 0 where
  pub grown : Grown s [] t ⊎ Grown s group t
  pub slots : t.slots ≡ s.slots
  pub size : t.size ≡ s.size
  pub run : t.run ≡ s.run

stage_behind : (s t u : SpoolState) (group : List Entry) → Grown s [] t → t.slots ≡ s.slots → t.size ≡ s.size → t.run ≡ s.run → IsStage t group u → IsStage s group u
stage_behind s t u group first slots size run p = record {
  grown = elim p.grown [ inl none ↦ inl (grown_then s t u [] [] first none) | inr some ↦ inr (grown_then s t u [] group first some) ];
  slots = p.slots ∙ slots;
  size = p.size ∙ size;
  run = p.run ∙ run;
}

-- what the stages of a change that adds a group are
pub record AreStages (s : SpoolState) (group : List Entry) (stages : List SpoolState) : Type 0 where
  pub each : All (IsStage s group) stages
  pub last : 0 < length stages → Grown s group (last_of s stages)

pub no_stages : (s : SpoolState) (group : List Entry) → AreStages s group []
no_stages s group = record { each = none_of (IsStage s group); last = λ some. absurd (omega arith) }

added_stage : (s : SpoolState) (group : List Entry) → IsStage s group (added s group)
added_stage s group = record { grown = inr (grown_added s group); slots = refl; size = refl; run = refl }

begun_stage : (s : SpoolState) (place : ℕ) (group : List Entry) → IsStage s group (begun s place)
begun_stage s place group = record { grown = inl (grown_begun s place); slots = refl; size = refl; run = refl }

begin_are : (s : SpoolState) (place : ℕ) (group : List Entry) → AreStages s group (begin_stages s place group)
begin_are s place group = record {
  each = cons_of (IsStage s group) (begun s place) (added (begun s place) group ∷ []) (begun_stage s place group) (cons_of (IsStage s group) (added (begun s place) group) []
      (stage_behind s (begun s place) (added (begun s place) group) group (grown_begun s place) refl refl refl (added_stage (begun s place) group)) (none_of (IsStage s group)));
  last = λ some. grown_then s (begun s place) (added (begun s place) group) [] group (grown_begun s place) (grown_added (begun s place) group);
}

first_are : (s : SpoolState) (group : List Entry) (older : List OpenSlot) → s.older ≡ older → IsSound s → AreStages s group (first_stages s older group)
first_are s group [] is sound = no_stages s group
first_are s group (slot ∷ rest) is sound =
    let t = shut s rest in
    let first = grown_shut s slot rest is sound in
    let behind = begin_are t slot.place group in
    cond_both (is_confirmed s slot) (replace_stages s (slot ∷ rest) group) [] (AreStages s group) (λ yes. record {
      each = cons_of (IsStage s group) t (begin_stages t slot.place group) (record { grown = inl first; slots = refl; size = refl; run = refl })
          (λ k d lt. stage_behind s t (get_or (begin_stages t slot.place group) k d) group first refl refl refl (behind.each k d lt));
      last = λ some. grown_then s t (last_of t (begin_stages t slot.place group)) [] group first (behind.last (omega arith));
    }) (λ no. no_stages s group)

closed_are : (s : SpoolState) (group : List Entry) (place : Option ℕ) → IsSound s → AreStages s group (closed_stages place s group)
closed_are s group (Some place) sound = begin_are s place group
closed_are s group None sound = first_are s group s.older refl sound

pub group_are : (s : SpoolState) (group : List Entry) → IsSound s → AreStages s group (group_stages s group)
group_are s group sound =
    cond_both (nat_le (need_of group) (room s)) (added s group ∷ []) (closed_stages (lowest_closed s s.slots) s group) (AreStages s group) (λ yes. record {
      each = cons_of (IsStage s group) (added s group) [] (added_stage s group) (none_of (IsStage s group));
      last = λ some. grown_added s group;
    }) (λ no. closed_are s group (lowest_closed s s.slots) sound)

-- ---- there is one, where the group has a place

first_place : (s : SpoolState) (group : List Entry) (older : List OpenSlot) → s.older ≡ older → (first_is_confirmed s older ≡ false → ⊥) → 0 < length (first_stages s older group)
first_place s group [] is none = absurd (none refl)
first_place s group (slot ∷ rest) is none =
    cond_both (is_confirmed s slot) (replace_stages s (slot ∷ rest) group) [] (λ (l : List SpoolState). 0 < length l) (λ yes. omega arith) (λ no. absurd (none no))

closed_place : (s : SpoolState) (group : List Entry) (found : Option ℕ) → lowest_closed s s.slots ≡ found → IsSound s → (place : ℕ) → IsFree s place → 0 < length (closed_stages found s group)
closed_place s group (Some p) is sound place free = omega arith
closed_place s group None is sound place free = first_place s group s.older refl (λ no. none_free s sound is no place free)

pub group_some : (s : SpoolState) (group : List Entry) → IsSound s → HasPlace s group → 0 < length (group_stages s group)
group_some s group sound has =
    cond_both (nat_le (need_of group) (room s)) (added s group ∷ []) (closed_stages (lowest_closed s s.slots) s group) (λ (l : List SpoolState). 0 < length l)
    (λ yes. omega arith)
    (λ no. elim has [
      | inl le ↦ absurd (omega (arith, le, leb-false (need_of group) (room s) no))
      | inr free ↦ closed_place s group (lowest_closed s s.slots) refl sound free.0 free.1
    ])

-- ---- they are sound, where the group fits

-- a segment that has less room than an empty one has an entry
some_by : (ordinal first : ℕ) (groups : List (List Entry)) (size need : ℕ) → All IsGroup groups → need ≤ size - 18 → size - length (segment_text (record { ordinal = ordinal; first = first; groups = groups })) - 1 < need → 0 < length (flat_map (λ group. group) groups)
some_by ordinal first [] size need sound small full = absurd (omega (arith, empty_length ordinal first))
some_by ordinal first (group ∷ groups) size need sound small full = omega (arith, (sound 0 group (omega arith)).some, length-append group (flat_map (λ g. g) groups))

begin_sound : (s : SpoolState) (place : ℕ) (group : List Entry) → IsSound s → IsClosed s place → 0 < length (entries_of s.active.segment) → IsGroup group → end s + length group ≤ 2 ^ 63 → All IsSound (begin_stages s place group)
begin_sound s place group sound closed some is numbers =
    let first = sound-begun s place sound closed some in
    cons_of IsSound (begun s place) (added (begun s place) group ∷ []) first (cons_of IsSound (added (begun s place) group) [] (sound-added (begun s place) group first is (omega (arith, end-begun s place, numbers))) (none_of IsSound))

first_sound : (s : SpoolState) (group : List Entry) (older : List OpenSlot) → s.older ≡ older → IsSound s → 0 < length (entries_of s.active.segment) → IsGroup group → end s + length group ≤ 2 ^ 63 → All IsSound (first_stages s older group)
first_sound s group [] is sound some group_is numbers = none_of IsSound
first_sound s group (slot ∷ rest) is sound some group_is numbers =
    cond_both (is_confirmed s slot) (replace_stages s (slot ∷ rest) group) [] (All IsSound) (λ yes.
    let confirmed = leb-true (end_of slot) s.cursor yes in
    let first = sound-shut s slot rest is sound confirmed in
    cons_of IsSound (shut s rest) (begin_stages (shut s rest) slot.place group) first (begin_sound (shut s rest) slot.place group first (shut_closed s slot rest is sound confirmed) some group_is (omega (arith, end-shut s slot rest is sound, numbers)))) (λ no. none_of IsSound)

closed_sound : (s : SpoolState) (group : List Entry) (place : Option ℕ) → lowest_closed s s.slots ≡ place → IsSound s → 0 < length (entries_of s.active.segment) → IsGroup group → end s + length group ≤ 2 ^ 63 → All IsSound (closed_stages place s group)
closed_sound s group (Some place) found sound some is numbers = begin_sound s place group sound (found_closed s place found) some is numbers
closed_sound s group None found sound some is numbers = first_sound s group s.older refl sound some is numbers

pub group_sound : (s : SpoolState) (group : List Entry) → IsSound s → IsGroup group → Fits s group → All IsSound (group_stages s group)
group_sound s group sound is fits =
    cond_both (nat_le (need_of group) (room s)) (added s group ∷ []) (closed_stages (lowest_closed s s.slots) s group) (All IsSound)
    (λ yes. cons_of IsSound (added s group) [] (sound-added s group sound is fits.numbers) (none_of IsSound))
    (λ no. closed_sound s group (lowest_closed s s.slots) refl sound
    (some_by s.active.segment.ordinal s.active.segment.first s.active.segment.groups s.size (need_of group) sound.active.groups fits.small (leb-false (need_of group) (room s) no)) is fits.numbers)

-- each of them is later than the state
pub group_later : (s : SpoolState) (group : List Entry) → IsSound s → IsGroup group → Fits s group → All (IsLater s) (group_stages s group)
group_later s group sound is fits = λ k d lt.
    let stage = (group_are s group sound).each k d lt in
    record { sound = group_sound s group sound is fits k d lt; follows = adding_follow s group sound k d lt; slots = stage.slots; size = stage.size; run = stage.run }

-- ---- more numbers known

-- with as many numbers known as before, nothing is done
on_marked : (P : List SpoolState → Type 0) (s : SpoolState) (more : List Stretch) → P [] → (total_of (numbers_of s) < total_of (marked (numbers_of s) more) → P (with_marked s more ∷ [])) → P (known_stages s more)
on_marked P s more none some =
    cond_both (nat_le (total_of (marked (numbers_of s) more)) (total_of (numbers_of s))) [] (with_marked s more ∷ []) P (λ yes. none) (λ no. some (leb-false (total_of (marked (numbers_of s) more)) (total_of (numbers_of s)) no))

marked_stage : (s : SpoolState) (more : List Stretch) → IsStage s [] (with_marked s more)
marked_stage s more = record { grown = inl (grown_same s (with_marked s more) refl refl); slots = refl; size = refl; run = refl }

pub known_are : (s : SpoolState) (more : List Stretch) → AreStages s [] (known_stages s more)
known_are s more = on_marked (AreStages s []) s more (no_stages s []) (λ new. record {
  each = cons_of (IsStage s []) (with_marked s more) [] (marked_stage s more) (none_of (IsStage s []));
  last = λ some. grown_same s (with_marked s more) refl refl;
})

pub known_follow : (s : SpoolState) (more : List Stretch) → IsSound s → AllFollow s (known_stages s more)
known_follow s more sound = on_marked (AllFollow s) s more (none_of (Follows s)) (λ new. cons_of (Follows s) (with_marked s more) [] (follows_marked s more sound) (none_of (Follows s)))

pub known_later : (s : SpoolState) (more : List Stretch) → IsSound s → All (EndsBy (end s)) more → IsNothingNew s more ⊎ (s.ordinal < 2 ^ 63) → All (IsLater s) (known_stages s more)
known_later s more sound ends fits =
    on_marked (All (IsLater s)) s more (none_of (IsLater s)) (λ new.
    let free : s.ordinal < 2 ^ 63 = elim fits [ inl same ↦ absurd (omega (arith, new, ap total_of same)) | inr free ↦ free ] in
    cons_of (IsLater s) (with_marked s more) [] (record {
      sound = sound-marked s more sound free (end_by (end s) more ends);
      follows = follows_marked s more sound;
      slots = refl;
      size = refl;
      run = refl;
    }) (none_of (IsLater s)))

-- ---- no two of a change's states have the same numbers

-- the first of the older slots has an entry
first_some : (s : SpoolState) (slot : OpenSlot) (rest : List OpenSlot) → s.older ≡ slot ∷ rest → IsSound s → 0 < length (entries_of slot.segment)
first_some s slot rest is sound = (subst (λ (l : List OpenSlot). AreConsecutive l s.active.segment.ordinal s.active.segment.first) is sound.consecutive).2

-- a state and later ones that differ from it, and of which no two have the same numbers
pub told_cons : (s t : SpoolState) (stages : List SpoolState) → ((n : SpoolState) → IsOneOf t stages n → standing_of s ≡ standing_of n → ⊥) → AreTold t stages → AreTold s (t ∷ stages)
told_cons s t stages differ told m n (inl a) (inl b) same = a ∙ sym b
told_cons s t stages differ told m n (inl a) (inr b) same = absurd (differ n b (ap standing_of (sym a) ∙ same))
told_cons s t stages differ told m n (inr a) (inl b) same = absurd (differ m a (ap standing_of (sym b) ∙ sym same))
told_cons s t stages differ told m n (inr a) (inr b) same = told m n a b same

pub told_one : (s : SpoolState) → AreTold s []
told_one s m n a b same = a ∙ sym b

pub told_two : (s t : SpoolState) → (standing_of s ≡ standing_of t → ⊥) → AreTold s (t ∷ [])
told_two s t differ = told_cons s t [] (λ n is same. differ (same ∙ ap standing_of is)) (told_one t)

added_told : (s : SpoolState) (group : List Entry) → 0 < length group → standing_of s ≡ standing_of (added s group) → ⊥
added_told s group some same = omega (arith, ap (λ (n : Standing). n.end) same, grown_end s (added s group) group (grown_added s group), some)

begun_room : (s : SpoolState) (place : ℕ) → room (begun s place) ≡ s.size - 18
begun_room s place = omega (arith, empty_length (s.active.segment.ordinal + 1) (end s))

begun_told : (s : SpoolState) (place need : ℕ) → room s < need → need ≤ s.size - 18 → standing_of s ≡ standing_of (begun s place) → ⊥
begun_told s place need full small same = omega (arith, ap (λ (n : Standing). n.room) same, begun_room s place, full, small)

begin_told : (s : SpoolState) (place : ℕ) (group : List Entry) → 0 < length group → room s < need_of group → need_of group ≤ s.size - 18 → AreTold s (begin_stages s place group)
begin_told s place group some full small =
    let t = begun s place in
    told_cons s t (added t group ∷ [])
    (λ n is same. elim is [
      | inl first ↦ begun_told s place (need_of group) full small (same ∙ ap standing_of first)
      | inr last ↦ omega (arith, ap (λ (k : Standing). k.end) (same ∙ ap standing_of last), end-begun s place, grown_end t (added t group) group (grown_added t group), some)
    ])
    (told_two t (added t group) (added_told t group some))

first_told : (s : SpoolState) (group : List Entry) (older : List OpenSlot) → s.older ≡ older → IsSound s → 0 < length group → room s < need_of group → need_of group ≤ s.size - 18 → AreTold s (first_stages s older group)
first_told s group [] is sound some full small = told_one s
first_told s group (slot ∷ rest) is sound some full small =
    cond_both (is_confirmed s slot) (replace_stages s (slot ∷ rest) group) [] (AreTold s) (λ yes.
    let t = shut s rest in
    let u = begun t slot.place in
    let higher : base s < base t = omega (arith, base-shut s slot rest is sound, first_some s slot rest is sound) in
    told_cons s t (u ∷ added u group ∷ [])
    (λ n one same.
    let at : base n ≡ base t = elim one [
      | inl first ↦ ap base first
      | inr (inl second) ↦ ap base second ∙ base-begun t slot.place
      | inr (inr third) ↦ ap base third ∙ base-begun t slot.place
    ] in
    omega (arith, ap (λ (k : Standing). k.base) same, at, higher))
    (begin_told t slot.place group some full small)) (λ no. told_one s)

closed_told : (s : SpoolState) (group : List Entry) (place : Option ℕ) → IsSound s → 0 < length group → room s < need_of group → need_of group ≤ s.size - 18 → AreTold s (closed_stages place s group)
closed_told s group (Some place) sound some full small = begin_told s place group some full small
closed_told s group None sound some full small = first_told s group s.older refl sound some full small

pub group_told : (s : SpoolState) (group : List Entry) → IsSound s → IsGroup group → need_of group ≤ s.size - 18 → AreTold s (group_stages s group)
group_told s group sound is small =
    cond_both (nat_le (need_of group) (room s)) (added s group ∷ []) (closed_stages (lowest_closed s s.slots) s group) (AreTold s)
    (λ yes. told_two s (added s group) (added_told s group is.some))
    (λ no. closed_told s group (lowest_closed s s.slots) sound is.some (leb-false (need_of group) (room s) no) small)

pub known_told : (s : SpoolState) (more : List Stretch) → AreTold s (known_stages s more)
known_told s more = on_marked (AreTold s) s more (told_one s) (λ new. told_two s (with_marked s more) (λ same. omega (arith, new, ap (λ (k : Standing). k.cursor) same, ap (λ (k : Standing). k.known_count) same)))
