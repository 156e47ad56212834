-- Counts of the ids of each channel.
use Rattle.std.proofs.Common.{◌≡◌, ◌≢◌, inl, inr, ℕ, ◌+◌, ◌-◌, ◌<◌, ◌≤◌, Bool, true, false, cond, List, [], ◌∷◌, map, Option, None, Some, is_some, Result, Ok, Err, is_err, OnOk, OnErr, refl, sym, ◌∙◌, ap, subst, arith}
use Rattle.std.specs.Prelude.{◌==◌, ◌||◌, nat_eq, unwrap_or}
use Rattle.std.specs.List.{IsDistinct, list_any}
use Rattle.std.specs.Set.{is_member}
use Rattle.std.specs.Ordering.{nat_cmp, eq_by_cmp}
use Rattle.std.specs.Cmp.{nat_eq_equiv}
use Rattle.std.specs.BTreeMap.{BTreeMap, get, keys, is_at, btree_map_len, IsOrdered, Updates}
use Rattle.std.proofs.lemmas.Bool.{cases_eq, eq-eqb, ne_eqb, le-leb, lt-leb}
use Rattle.std.proofs.lemmas.Bool.Decides.{nat_tests}
use Rattle.std.proofs.lemmas.List.Sums.{sum_by-cons}
use Rattle.std.proofs.lemmas.Map.Entries.{length-keys_of}
use Rattle.std.proofs.lemmas.Map.Keys.{IsDistinct-from_sorted}
use Rattle.std.proofs.lemmas.Map.Made.{length-from_keys, is_some-lookup}
use Rattle.hec_ids.specs.Table.{Held, count_of, channel_count}
use Rattle.hec_ids.specs.Rows.{busy}
use Rattle.hec_ids.specs.declared.fault.IssueFault.TheVariants.{Busy}
use Rattle.hec_ids.specs.Kept.{counted, AreCounted, HasOneMore}

pub count_of-cons : (q : ℕ) (h : Held) (held : List Held) → count_of q (h ∷ held) ≡ cond (h.channel == q) 1 0 + count_of q held
count_of-cons q h held = sum_by-cons (λ x. cond (x.channel == q) 1 0) h held

same_test : (x y : ℕ) → eq_by_cmp nat_cmp x y ≡ nat_eq x y
same_test x y = grind (arith, nat_tests)

pub counted_above : (n : ℕ) → 0 < n → counted n ≡ Some n
counted_above n lt = ap (λ b. cond b None (Some n)) (ne_eqb n 0 (λ e. omega arith))

-- a count, and 0 where there is none
counted_back : (n : ℕ) → unwrap_or (counted n) 0 ≡ n
counted_back n = elim (cases_eq n 0) [
  | inl none ↦ ap (λ k. unwrap_or (counted k) 0) none ∙ sym none
  | inr some ↦ ap (λ (o : Option ℕ). unwrap_or o 0) (counted_above n (omega arith))
]

pub counted_none : (n : ℕ) → counted n ≡ None → n ≡ 0
counted_none n h = sym (counted_back n) ∙ ap (λ (o : Option ℕ). unwrap_or o 0) h

-- a channel is among those that hold ids where its count is above 0
pub has_channel : (q : ℕ) (held : List Held) → is_some (counted (count_of q held)) ≡ list_any (nat_eq q) (map (λ h. h.channel) held)
has_channel q [] = refl
has_channel q (h ∷ held) = elim (cases_eq q h.channel) [
  | inl same ↦
      let e : nat_eq q h.channel ≡ true = eq-eqb q h.channel same in
      let f : (h.channel == q) ≡ true = eq-eqb h.channel q (sym same) in
      ap (λ n. is_some (counted n)) (count_of-cons q h held) ∙ ap (λ b. is_some (counted (cond b 1 0 + count_of q held))) f ∙ above (count_of q held) ∙ sym (ap (λ b. b || list_any (nat_eq q) (map (λ x. x.channel) held)) e)
  | inr differ ↦
      let e : nat_eq q h.channel ≡ false = ne_eqb q h.channel differ in
      let f : (h.channel == q) ≡ false = ne_eqb h.channel q (λ s. differ (sym s)) in
      ap (λ n. is_some (counted n)) (count_of-cons q h held) ∙ ap (λ b. is_some (counted (cond b 1 0 + count_of q held))) f ∙ ap (λ n. is_some (counted n)) (zero_add (count_of q held)) ∙ has_channel q held ∙ sym (ap (λ b. b || list_any (nat_eq q) (map (λ x. x.channel) held)) e)
] where
  above : (n : ℕ) → is_some (counted (1 + n)) ≡ true
  above n = grind (arith, nat_tests)

  zero_add : (n : ℕ) → 0 + n ≡ n
  zero_add n = omega arith

-- the map has as many entries as channels hold ids
pub length-channels : (m : BTreeMap ℕ ℕ) (held : List Held) → IsOrdered nat_cmp m → AreCounted m held → btree_map_len m ≡ channel_count held
length-channels m held ordered counts =
    let distinct : IsDistinct nat_eq (keys m) = subst (λ (e : ℕ → ℕ → Bool). IsDistinct e (keys m)) (λ i x y. same_test x y i) (IsDistinct-from_sorted nat_cmp (keys m) ordered) in
    let members : (q : ℕ) → is_member nat_eq (keys m) q ≡ is_member nat_eq (map (λ h. h.channel) held) q = λ q.
    ap (λ (t : ℕ → Bool). list_any t (keys m)) (λ i k. sym (same_test q k) i) ∙ sym (is_some-lookup (is_at (nat_cmp q)) m.entries) ∙ ap is_some (counts q) ∙ has_channel q held in
    sym (length-keys_of m.entries) ∙ length-from_keys nat_eq_equiv (keys m) (map (λ h. h.channel) held) distinct members

-- a map whose entry of one channel is changed, where that channel's count alone is
counted_at : (m n : BTreeMap ℕ ℕ) (channel : ℕ) (w : Option ℕ) (held after : List Held) → AreCounted m held → Updates nat_cmp m n channel w → w ≡ counted (count_of channel after) → ((q : ℕ) → channel ≢ q → count_of q after ≡ count_of q held) → AreCounted n after
counted_at m n channel w held after counts updates here others q = elim (cases_eq channel q) [
  | inl same ↦ subst (λ (k : ℕ). get nat_cmp n k ≡ counted (count_of k after)) same (updates.1 ∙ here)
  | inr differ ↦ updates.2 q (same_test channel q ∙ ne_eqb channel q differ) ∙ counts q ∙ ap counted (sym (others q differ))
]

one_here : (channel : ℕ) (less more : List Held) → HasOneMore channel less more → count_of channel more ≡ count_of channel less + 1
one_here channel less more one = one channel ∙ ap (λ b. count_of channel less + cond b 1 0) (eq-eqb channel channel refl)

one_there : (channel : ℕ) (less more : List Held) → HasOneMore channel less more → (q : ℕ) → channel ≢ q → count_of q more ≡ count_of q less
one_there channel less more one q differ = let e = one q ∙ ap (λ b. count_of q less + cond b 1 0) (ne_eqb q channel (λ s. differ (sym s))) in omega arith

count_is : (m : BTreeMap ℕ ℕ) (channel count : ℕ) (held : List Held) → AreCounted m held → count ≡ unwrap_or (get nat_cmp m channel) 0 → count ≡ count_of channel held
count_is m channel count held counts is = is ∙ ap (λ (o : Option ℕ). unwrap_or o 0) (counts channel) ∙ counted_back (count_of channel held)

pub counted_up : (m n : BTreeMap ℕ ℕ) (channel count : ℕ) (less more : List Held) → AreCounted m less → HasOneMore channel less more → count ≡ unwrap_or (get nat_cmp m channel) 0 → Updates nat_cmp m n channel (Some (count + 1)) → AreCounted n more
counted_up m n channel count less more counts one is updates =
    let before = count_is m channel count less counts is in
    let after = one_here channel less more one in
    let here : count_of channel more ≡ count + 1 = omega arith in
    counted_at m n channel (Some (count + 1)) less more counts updates (sym (counted_above (count + 1) (omega arith)) ∙ ap counted (sym here)) (one_there channel less more one)

pub counted_down : (m n : BTreeMap ℕ ℕ) (channel count : ℕ) (less more : List Held) → AreCounted m more → HasOneMore channel less more → count ≡ unwrap_or (get nat_cmp m channel) 0 → 1 < count → Updates nat_cmp m n channel (Some (count - 1)) → AreCounted n less
counted_down m n channel count less more counts one is above updates =
    let before = count_is m channel count more counts is in
    let after = one_here channel less more one in
    let here : count_of channel less ≡ count - 1 = omega arith in
    counted_at m n channel (Some (count - 1)) more less counts updates (sym (counted_above (count - 1) (omega arith)) ∙ ap counted (sym here)) (λ q differ. sym (one_there channel less more one q differ))

pub counted_out : (m n : BTreeMap ℕ ℕ) (channel count : ℕ) (less more : List Held) → AreCounted m more → HasOneMore channel less more → count ≡ unwrap_or (get nat_cmp m channel) 0 → count ≤ 1 → Updates nat_cmp m n channel None → AreCounted n less
counted_out m n channel count less more counts one is last updates =
    let before = count_is m channel count more counts is in
    let after = one_here channel less more one in
    let here : count_of channel less ≡ 0 = omega arith in
    counted_at m n channel None more less counts updates (ap counted (sym here)) (λ q differ. sym (one_there channel less more one q differ))

-- an insertion at a key that is there succeeds
pub sure : {T E P Q : Type 0} (r : Result T E) → OnOk r P → OnErr r Q → (Q → ⊥) → P
sure (Ok x) ok err never = ok
sure (Err e) ok err never = absurd (never err)

pub sure_ok : {T E P : Type 0} (r : Result T E) → OnOk r P → is_err r ≡ false → P
sure_ok (Ok x) ok no_err = ok
sure_ok (Err e) ok no_err = absurd (cc)

pub is_there : (m : BTreeMap ℕ ℕ) (channel count : ℕ) → count ≡ unwrap_or (get nat_cmp m channel) 0 → 1 < count → get nat_cmp m channel ≡ None → ⊥
is_there m channel count is above none = let e = is ∙ ap (λ (o : Option ℕ). unwrap_or o 0) none in omega arith

pub busy_full : (channel : ℕ) (held : List Held) → count_of channel held ≡ 0 → 1000 ≤ channel_count held → Some (Busy 1000) ≡ busy channel held
busy_full channel held none full = rw (none, le-leb 1000 (channel_count held) full) refl

pub busy_free : (channel : ℕ) (held : List Held) → count_of channel held ≡ 0 → channel_count held < 1000 → None ≡ busy channel held
busy_free channel held none free = rw (none, lt-leb 1000 (channel_count held) free) refl
