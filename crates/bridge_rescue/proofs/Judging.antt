-- The slots of a device, looked at one after another.
use Rattle.std.proofs.Common.{◌≡◌, ◌≢◌, ◌⊎◌, ◌↔◌, inl, inr, ℕ, zero, suc, ◌+◌, ◌^◌, ◌<◌, ◌≤◌, nat_le, List, [], ◌∷◌, ◌++◌, length, get_or, take, drop, refl, sym, ap, subst, add-one, arith, length-append, take-append-drop}
use Rattle.std.specs.Prelude.{All}
use Rattle.std.specs.List.{Any, prefix_len, insert}
use Rattle.std.proofs.lemmas.Bool.{cases_lt}
use Rattle.std.proofs.lemmas.List.{append-nil}
use Rattle.std.proofs.lemmas.List.Elements.{All-nil, All-cons, All-head, All-tail, All-append}
use Rattle.spool_state.specs.SpoolState.{OpenSlot, AreElsewhere}
use Rattle.spool_state.specs.Image.{slot_at, HoldsSegment}
use Rattle.spool_state.specs.Segment.{Segment}
use Rattle.spool_slots.specs.declared.slot.Slot.{Slot}
use Rattle.spool_log.proofs.Scans.Scanned.{All-insert, all_split}
use Rattle.bridge_rescue.specs.declared.fault.Why.{Why}
use Rattle.bridge_rescue.specs.declared.fault.Why.TheVariants.{Cut, Broken, Unheld, TooHigh, Unread}
use Rattle.bridge_rescue.specs.declared.fault.SlotFault.{SlotFault}
use Rattle.bridge_rescue.specs.declared.found.Found.{Found}
use Rattle.bridge_rescue.specs.declared.looking.Looked.{Looked}
use Rattle.bridge_rescue.specs.Faults.{IsWhy, IsFault, IsBefore, OfBroken, one_if_broken, broken_in, AreNotAt, HasUnread}
use Rattle.bridge_rescue.specs.Slots.{IsSound, IsFoundOf, IsClosed, AreByPlace, AreInTurn, AreJudged}
use Rattle.bridge_rescue.specs.Looking.{IsReadableSlot, AreReadable, KnowsFound, IsKnownSound, IsKnownFront, IsLost, AreKnown, KnowsAll, whole, front}
use Rattle.bridge_rescue.proofs.Anys.{any_here, any_before, any_behind, any_inserted, any_kept}
use Rattle.bridge_rescue.proofs.Inserting.{kept, all_inserted}

-- ---- one place more

sound_wider : (slots size : ℕ) (c : List ℕ) (slot : OpenSlot) → IsSound slots size c slot → IsSound (slots + 1) size c slot
sound_wider slots size c slot one =
    let f = one.found in
    record {
      found = record { place = omega (arith, f.place); holds = f.holds; groups = f.groups; ordinal = f.ordinal; first = f.first };
      inside = one.inside;
      ends = one.ends;
    }

-- what was found is so of one place more, and beside more faults
module _ (slots size : ℕ) (c : List ℕ) (faults more : List SlotFault) where
  found_wider : (slot : OpenSlot) → IsFoundOf slots size c faults slot → IsFoundOf (slots + 1) size c (faults ++ more) slot
  found_wider slot (inl sound) = inl (sound_wider slots size c slot sound)
  found_wider slot (inr front) = inr (any_before (λ fault. IsBefore size c fault slot) faults more front)

  each_wider : (found : List OpenSlot) → All (IsFoundOf slots size c faults) found → All (IsFoundOf (slots + 1) size c (faults ++ more)) found
  each_wider found each k d lt = found_wider (get_or found k d) (each k d lt)

faults_wider : (slots size : ℕ) (c : List ℕ) (faults : List SlotFault) → All (IsFault slots size c) faults → All (IsFault (slots + 1) size c) faults
faults_wider slots size c faults all k d lt =
    let one = all k d lt in
    record { place = omega (arith, one.place); is = one.is }

-- it is of a place among those that were looked at
found_place : (slots size : ℕ) (c : List ℕ) (faults : List SlotFault) (slot : OpenSlot) → All (IsFault slots size c) faults → IsFoundOf slots size c faults slot → slot.place < slots
found_place slots size c faults slot wrong (inl sound) = sound.found.place
found_place slots size c faults slot wrong (inr front) =
    let fault = subst (λ (f : SlotFault). f.place < slots) front.3 (wrong front.0 front.1 front.2).place in
    omega (arith, front.4.place, fault)

found_below : (slots size : ℕ) (c : List ℕ) (faults : List SlotFault) (found : List OpenSlot) → All (IsFault slots size c) faults → All (IsFoundOf slots size c faults) found
    → All (λ s. s.place < slots) found
found_below slots size c faults found wrong each k d lt = found_place slots size c faults (get_or found k d) wrong (each k d lt)

-- a fault of a later place
by_place_then : (faults : List SlotFault) (fault : SlotFault) → AreByPlace faults → All (λ other. other.place < fault.place) faults → AreByPlace (faults ++ fault ∷ [])
by_place_then [] fault rise lower = (All-nil (λ (other : SlotFault). fault.place < other.place), tt)
by_place_then (one ∷ more) fault rise lower =
    let later = λ (other : SlotFault). one.place < other.place in
    let below = λ (other : SlotFault). other.place < fault.place in (
      All-append later more (fault ∷ []) rise.0 (All-cons later fault [] (All-head below one more lower) (All-nil later)),
      by_place_then more fault rise.1 (All-tail below one more lower),
    )

unread_then : (faults : List SlotFault) (fault : SlotFault) → HasUnread (faults ++ fault ∷ []) → HasUnread faults ⊎ HasUnread (fault ∷ [])
unread_then [] fault is = inr is
unread_then (one ∷ more) fault (inl here) = inl (inl here)
unread_then (one ∷ more) fault (inr there) = elim (unread_then more fault there) [ inl before ↦ inl (inr before) | inr last ↦ inr last ]

unread_first : (faults : List SlotFault) (fault : SlotFault) → HasUnread faults → HasUnread (faults ++ fault ∷ [])
unread_first [] fault is = absurd is
unread_first (one ∷ more) fault (inl here) = inl here
unread_first (one ∷ more) fault (inr there) = inr (unread_first more fault there)

unread_last : (faults : List SlotFault) (fault : SlotFault) → HasUnread (fault ∷ []) → HasUnread (faults ++ fault ∷ [])
unread_last [] fault is = is
unread_last (one ∷ more) fault is = inr (unread_last more fault is)

-- as many were not read as before, or one more

pub same_unread : (old new : List SlotFault) (P : Type 0) → new ≡ old → (P → ⊥) → HasUnread new ↔ (HasUnread old ⊎ P)
same_unread old new P same never = (
  λ has. inl (subst HasUnread same has),
  λ either. elim either [ inl has ↦ subst HasUnread (sym same) has | inr p ↦ absurd (never p) ],
)

pub more_unread : (old new : List SlotFault) (fault : SlotFault) → new ≡ old ++ fault ∷ [] → HasUnread new ↔ (HasUnread old ⊎ (fault.why ≡ Unread))
more_unread old new fault pushed = (
  λ has. elim (unread_then old fault (subst HasUnread pushed has)) [
    | inl before ↦ inl before
    | inr last ↦ elim last [ inl here ↦ inr here | inr never ↦ absurd never ]
  ],
  λ either. subst HasUnread (sym {A = List SlotFault} pushed) (elim either [ inl before ↦ unread_first old fault before | inr here ↦ unread_last old fault (inl here) ]),
)

-- what holds where a slot is broken

of_broken : (why : Why) (P Q : Type 0) → (P → Q) → OfBroken why P → OfBroken why Q
of_broken Cut P Q f is = tt
of_broken (Broken before) P Q f is = f is
of_broken Unheld P Q f is = tt
of_broken TooHigh P Q f is = tt
of_broken Unread P Q f is = tt

not_broken : (why : Why) → OfBroken why ⊥ → one_if_broken why ≡ 0
not_broken Cut lost = refl
not_broken (Broken before) lost = absurd lost
not_broken Unheld lost = refl
not_broken TooHigh lost = refl
not_broken Unread lost = refl

broken_then : (faults : List SlotFault) (fault : SlotFault) → broken_in (faults ++ fault ∷ []) ≡ broken_in faults + one_if_broken fault.why
broken_then [] fault = omega arith
broken_then (one ∷ more) fault = omega (arith, broken_then more fault)

-- none was looked at
judged_none : (size : ℕ) (c : List ℕ) (faults : List SlotFault) → faults ≡ [] → AreJudged 0 size c [] faults
judged_none size c faults none_wrong =
    subst (AreJudged 0 size c []) (sym none_wrong) (record {
      each = All-nil (IsFoundOf 0 size c []);
      turn = tt;
      wrong = All-nil (IsFault 0 size c);
      fronts = All-nil (λ (fault : SlotFault). OfBroken fault.why (Any (IsBefore size c fault) []));
      by_place = tt;
      others = λ place lt elsewhere not_at. absurd (omega (arith, lt));
    })

-- nothing more is found
no_more : (faults : List SlotFault) → faults ++ [] ≡ faults
no_more faults = append-nil faults

module _ (slots size : ℕ) (c : List ℕ) (found : List OpenSlot) (faults : List SlotFault) (judged : AreJudged slots size c found faults) where
  each_more : All (IsFoundOf (slots + 1) size c faults) found
  each_more = subst (λ (l : List SlotFault). All (IsFoundOf (slots + 1) size c l) found) (no_more faults) (each_wider slots size c faults [] found judged.each)

  -- a closed slot
  pub judged_closed : IsClosed size slots c → AreJudged (slots + 1) size c found faults
  judged_closed closed = record {
    each = each_more;
    turn = judged.turn;
    wrong = faults_wider slots size c faults judged.wrong;
    fronts = judged.fronts;
    by_place = judged.by_place;
    others = λ place lt elsewhere not_at. elim (cases_lt place slots) [
      | inl less ↦ judged.others place less elsewhere not_at
      | inr ge ↦ subst (λ (p : ℕ). IsClosed size p c) (omega arith) closed
    ];
  }

  -- one at fault
  module _ (fault : SlotFault) (here : fault.place ≡ slots) (is : IsWhy fault.why (slot_at size slots) size c fault.at) where
    wrong_more : All (IsFault (slots + 1) size c) (faults ++ fault ∷ [])
    wrong_more =
        All-append (IsFault (slots + 1) size c) faults (fault ∷ []) (faults_wider slots size c faults judged.wrong)
        (All-cons (IsFault (slots + 1) size c) fault []
        (record { place = omega (arith, here); is = subst (λ (p : ℕ). IsWhy fault.why (slot_at size p) size c fault.at) (sym here) is })
        (All-nil (IsFault (slots + 1) size c)))

    by_place_more : AreByPlace (faults ++ fault ∷ [])
    by_place_more = by_place_then faults fault judged.by_place (λ k d lt. let one = judged.wrong k d lt in omega (arith, one.place, here))

    others_more : (place : ℕ) → place < slots + 1 → AreElsewhere place found → AreNotAt place (faults ++ fault ∷ []) → IsClosed size place c
    others_more place lt elsewhere not_at =
        let split = all_split (λ (f : SlotFault). f.place ≢ place) faults (fault ∷ []) not_at in
        let other : fault.place ≢ place = All-head (λ (f : SlotFault). f.place ≢ place) fault [] split.1 in
        judged.others place (omega (arith, lt, other, here)) elsewhere split.0

    fronts_more : (list : List OpenSlot) → ((f : SlotFault) → Any (IsBefore size c f) found → Any (IsBefore size c f) list) → OfBroken fault.why (Any (IsBefore size c fault) list)
        → All (λ f. OfBroken f.why (Any (IsBefore size c f) list)) (faults ++ fault ∷ [])
    fronts_more list keeps last =
        let P = λ (f : SlotFault). OfBroken f.why (Any (IsBefore size c f) list) in
        All-append P faults (fault ∷ [])
        (λ k d lt. let f = get_or faults k d in of_broken f.why (Any (IsBefore size c f) found) (Any (IsBefore size c f) list) (keeps f) (judged.fronts k d lt))
        (All-cons P fault [] last (All-nil P))

    pub judged_wrong : OfBroken fault.why ⊥ → AreJudged (slots + 1) size c found (faults ++ fault ∷ [])
    judged_wrong lost = record {
      each = each_wider slots size c faults (fault ∷ []) found judged.each;
      turn = judged.turn;
      wrong = wrong_more;
      fronts = fronts_more found (λ f is. is) (of_broken fault.why ⊥ (Any (IsBefore size c fault) found) (λ never. absurd never) lost);
      by_place = by_place_more;
      others = others_more;
    }

  -- something found
  module _ (items : List Found) (known : AreKnown found items c) (item : Found) (segment : Segment) (knows : KnowsFound item segment c) where
    abbrev new : OpenSlot
    new = record { place = slots; segment = segment }

    abbrev index : ℕ
    index = prefix_len (λ other. nat_le other.slot.first item.slot.first) items

    abbrev list : List OpenSlot
    list = insert found index new

    both : AreKnown list (insert items index item) c × AreInTurn list
    both = kept c new item knows found items known judged.turn (found_below slots size c faults found judged.wrong judged.each)

    apart : (place : ℕ) → AreElsewhere place list → AreElsewhere place found × (slots ≢ place)
    apart place elsewhere = all_inserted (λ (s : OpenSlot). s.place ≢ place) found index new elsewhere

    -- a sound slot
    pub known_sound : IsSound (slots + 1) size c new → AreKnown list (insert items index item) c × AreJudged (slots + 1) size c list faults
    known_sound here = (
      both.0,
      record {
        each = All-insert (IsFoundOf (slots + 1) size c faults) found index new each_more (inl here);
        turn = both.1;
        wrong = faults_wider slots size c faults judged.wrong;
        fronts = λ k d lt.
            let f = get_or faults k d in
            of_broken f.why (Any (IsBefore size c f) found) (Any (IsBefore size c f) list) (any_kept (IsBefore size c f) found index new) (judged.fronts k d lt);
        by_place = judged.by_place;
        others = λ place lt elsewhere not_at.
            let split = apart place elsewhere in
            judged.others place (omega (arith, lt, split.1)) split.0 not_at;
      },
    )

    -- what stands before a fault
    pub known_front : (fault : SlotFault) → fault.place ≡ slots → IsBefore size c fault new
        → AreKnown list (insert items index item) c × AreJudged (slots + 1) size c list (faults ++ fault ∷ [])
    known_front fault here before =
        let is : IsWhy fault.why (slot_at size slots) size c fault.at = subst (λ (w : Why). IsWhy w (slot_at size slots) size c fault.at) (sym before.why) before.breaks.0 in
        let among : Any (IsBefore size c fault) list = any_inserted (IsBefore size c fault) found index new before in
        let told : Any (λ f. IsBefore size c f new) (faults ++ fault ∷ []) =
        any_behind (λ (f : SlotFault). IsBefore size c f new) faults (fault ∷ []) (any_here (λ (f : SlotFault). IsBefore size c f new) fault [] before) in (
          both.0,
          record {
            each = All-insert (IsFoundOf (slots + 1) size c (faults ++ fault ∷ [])) found index new (each_wider slots size c faults (fault ∷ []) found judged.each) (inr told);
            turn = both.1;
            wrong = wrong_more fault here is;
            fronts = fronts_more fault here is list (λ f. any_kept (IsBefore size c f) found index new)
                (subst (λ (w : Why). OfBroken w (Any (IsBefore size c fault) list)) (sym before.why) among);
            by_place = by_place_more fault here is;
            others = λ place lt elsewhere not_at. let split = apart place elsewhere in others_more fault here is place lt split.0 not_at;
          },
        )

-- ---- whether a slot was not read

pub unread_at : (faults : List SlotFault) (i : ℕ) (d : SlotFault) → i < length faults → (get_or faults i d).why ≡ Unread → HasUnread faults
unread_at [] i d lt why = absurd (omega arith)
unread_at (one ∷ more) zero d lt why = inl why
unread_at (one ∷ more) (suc i) d lt why = inr (unread_at more i d (omega arith) why)

unread_next : (faults : List SlotFault) (i : ℕ) (d : SlotFault) → i < length faults → HasUnread (take (suc i) faults)
    → HasUnread (take i faults) ⊎ ((get_or faults i d).why ≡ Unread)
unread_next [] i d lt has = absurd (omega arith)
unread_next (one ∷ more) zero d lt (inl here) = inr here
unread_next (one ∷ more) zero d lt (inr there) = absurd there
unread_next (one ∷ more) (suc i) d lt (inl here) = inl (inl here)
unread_next (one ∷ more) (suc i) d lt (inr there) = elim (unread_next more i d (omega arith) there) [
  | inl before ↦ inl (inr before)
  | inr why ↦ inr why
]

pub unread_more : (faults : List SlotFault) (i : ℕ) (d : SlotFault) → i < length faults → HasUnread (take (i + 1) faults)
    → HasUnread (take i faults) ⊎ ((get_or faults i d).why ≡ Unread)
unread_more faults i d lt has = unread_next faults i d lt (subst (λ (n : ℕ). HasUnread (take n faults)) (add-one i) has)

-- ---- none at first

pub no_items : {X : Type 0} (xs : List X) → length xs ≤ 0 → xs ≡ []
no_items [] none = refl
no_items (x ∷ xs) none = absurd (omega arith)

pub unread_some : (faults : List SlotFault) → HasUnread faults → length faults ≤ 0 → ⊥
unread_some [] has none = has
unread_some (fault ∷ more) has none = omega arith

pub knows_none : (size : ℕ) (c : List ℕ) (looked : Looked) → length looked.found.items ≤ 0 → length looked.faults.items ≤ 0 → looked.sound ≤ 0 → KnowsAll 0 size c looked
knows_none size c looked none none_wrong none_sound =
    let no_faults = no_items looked.faults.items none_wrong in
    record {
      found = [];
      known = subst (λ (l : List Found). AreKnown [] l c) (sym (no_items looked.found.items none)) tt;
      judged = judged_none size c looked.faults.items no_faults;
      counted = omega (arith, none_sound, ap broken_in no_faults);
    }

pub length-insert : {X : Type 0} (xs : List X) (k : ℕ) (y : X) → length (insert xs k y) ≡ length xs + 1
length-insert xs k y = omega (arith, length-append (take k xs) (y ∷ drop k xs), ap length (take-append-drop k xs), length-append (take k xs) (drop k xs))

-- ---- one slot more, in memory

abbrev place_of : Slot → List Found → ℕ
place_of slot items = prefix_len (λ found. nat_le found.slot.first slot.first) items

module _ (place size : ℕ) (c : List ℕ) (old new : Looked) (known : KnowsAll place size c old) where
  pub knows_closed : new ≡ old → IsClosed size place c → KnowsAll (place + 1) size c new
  knows_closed is closed = subst (KnowsAll (place + 1) size c) (sym is) (record {
    found = known.found;
    known = known.known;
    judged = judged_closed place size c known.found old.faults.items known.judged closed;
    counted = known.counted;
  })

  pub knows_wrong : (fault : SlotFault) → new.found.items ≡ old.found.items → new.faults.items ≡ old.faults.items ++ fault ∷ [] → new.sound ≡ old.sound
      → IsLost size place c fault → KnowsAll (place + 1) size c new
  knows_wrong fault same pushed sound wrong = record {
    found = known.found;
    known = subst (λ (l : List Found). AreKnown known.found l c) (sym same) known.known;
    judged = subst (AreJudged (place + 1) size c known.found) (sym pushed)
        (judged_wrong place size c known.found old.faults.items known.judged fault wrong.here wrong.is wrong.lost);
    counted = omega (arith, known.counted, sound, ap broken_in pushed, broken_then old.faults.items fault, not_broken fault.why wrong.lost);
  }

  pub knows_sound : (slot : Slot) → new.found.items ≡ insert old.found.items (place_of slot old.found.items) (whole slot) → new.faults.items ≡ old.faults.items
      → new.sound ≡ old.sound + 1 → slot.ordinal < 2 ^ 64 → slot.first < 2 ^ 64 → IsKnownSound size place c slot → KnowsAll (place + 1) size c new
  knows_sound slot inserted same sound ordinal_fits first_fits is =
      let index = place_of slot old.found.items in
      let k = is.knows.1 in
      let one : OpenSlot = record { place = place; segment = is.knows.0 } in
      let here : IsSound (place + 1) size c one = record {
        found = record {
          place = omega arith;
          holds = subst (λ (n : ℕ). HoldsSegment n size is.knows.0 c) is.at_is (subst (λ (n : ℕ). HoldsSegment slot.at n is.knows.0 c) is.size_is k.holds);
          groups = k.sound;
          ordinal = omega (arith, ordinal_fits, k.ordinal);
          first = omega (arith, first_fits, k.first);
        };
        inside = is.inside;
        ends = omega (arith, k.first, k.count, is.ends);
      } in
      let knows : KnowsFound (whole slot) is.knows.0 c = record { stands = k.holds; sound = k.sound; ordinal = k.ordinal; first = k.first; gate = k.gate; count = k.count } in
      let more = known_sound place size c known.found old.faults.items known.judged old.found.items known.known (whole slot) is.knows.0 knows here in
      record {
        found = insert known.found index one;
        known = subst (λ (l : List Found). AreKnown (insert known.found index one) l c) (sym inserted) more.0;
        judged = subst (AreJudged (place + 1) size c (insert known.found index one)) (sym same) more.1;
        counted = omega (arith, known.counted, sound, ap broken_in same, length-insert known.found index one);
      }

  pub knows_front : (slot : Slot) (fault : SlotFault) → new.found.items ≡ insert old.found.items (place_of slot old.found.items) (front slot)
      → new.faults.items ≡ old.faults.items ++ fault ∷ [] → new.sound ≡ old.sound → IsKnownFront size place c slot fault → KnowsAll (place + 1) size c new
  knows_front slot fault inserted pushed sound is =
      let index = place_of slot old.found.items in
      let one : OpenSlot = record { place = place; segment = is.segment } in
      let more = known_front place size c known.found old.faults.items known.judged old.found.items known.known (front slot) is.segment is.known fault is.here is.before in
      record {
        found = insert known.found index one;
        known = subst (λ (l : List Found). AreKnown (insert known.found index one) l c) (sym inserted) more.0;
        judged = subst (AreJudged (place + 1) size c (insert known.found index one)) (sym pushed) more.1;
        counted = omega (arith, known.counted, sound, ap broken_in pushed, broken_then old.faults.items fault, ap one_if_broken is.before.why, length-insert known.found index one);
      }

-- what is found more is readable too
pub readable_more : (len : ℕ) (items new : List Found) (k : ℕ) (item : Found) → new ≡ insert items k item → AreReadable len items → IsReadableSlot len item.slot → AreReadable len new
readable_more len items new k item inserted all one =
    subst (AreReadable len) (sym inserted) (All-insert (λ (found : Found). IsReadableSlot len found.slot) items k item all one)

-- the first of them, and the others
pub first_fault : (faults : List SlotFault) (d : SlotFault) → 1 ≤ length faults → faults ≡ get_or faults 0 d ∷ drop 1 faults
first_fault [] d some = absurd (omega arith)
first_fault (fault ∷ more) d some = refl
