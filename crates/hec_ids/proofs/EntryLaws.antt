-- Changes of the map of ids as changes of the list of ids held.
use Rattle.std.proofs.Common.{◌≡◌, ◌≢◌, inl, inr, ℕ, ◌+◌, ◌<◌, Bool, true, false, cond, List, [], ◌∷◌, ◌++◌, map, Option, None, Some, is_some, refl, sym, ◌∙◌, ap, arith, Ordering, Greater}
use Rattle.std.specs.Prelude.{◌==◌, ◌&&◌, ◌||◌, not, filter}
use Rattle.std.specs.List.{list_any}
use Rattle.std.specs.Map.{lookup, remove_entry, set_value}
use Rattle.std.specs.Ordering.{nat_cmp, match_ordering}
use Rattle.std.specs.BTreeMap.{is_at, insert_entry}
use Rattle.std.proofs.lemmas.Bool.{cases_eq, eq-eqb, ne_eqb, and_right}
use Rattle.std.proofs.lemmas.Bool.Decides.{nat_tests}
use Rattle.std.proofs.lemmas.List.{map-append}
use Rattle.hec_ids.specs.declared.issued.Issued.{Issued}
use Rattle.hec_ids.specs.Table.{Held, AreRising, is_of, holds}
use Rattle.hec_ids.specs.Rows.{unsettled, settled_at}
use Rattle.hec_ids.specs.Kept.{held_at, held_of, state_at, is_some_that}
use Rattle.hec_ids.proofs.HeldLaws.{none_below, none_passes, filter_none, settle_none}

at_same : (n k : ℕ) → n ≡ k → is_at (nat_cmp n) k ≡ true
at_same n k e = grind (arith, nat_tests)

at_other : (n k : ℕ) → n ≢ k → is_at (nat_cmp n) k ≡ false
at_other n k e = grind (arith, nat_tests)

behind : (n k : ℕ) → k < n → nat_cmp n k ≡ Greater
behind n k lt = grind (arith, nat_tests)

first : (a b : Bool) → b ≡ false → (a || b) ≡ true → a ≡ true
first true b n t = refl
first false b n t = absurd (cc)

-- an id above all goes to the end
pub insert_last : (from id : ℕ) (es : List (ℕ × Issued)) (v : Issued) → AreRising from id (held_of es) → insert_entry nat_cmp es id v ≡ es ++ (id, v) ∷ []
insert_last from id [] v h = refl
insert_last from id (e ∷ es) v h =
    ap (λ (o : Ordering). match_ordering o ((id, v) ∷ e ∷ es) ((e.0, v) ∷ es) (e ∷ insert_entry nat_cmp es id v)) (behind id e.0 h.1)
    ∙ ap (λ (l : List (ℕ × Issued)). e ∷ l) (insert_last (e.0 + 1) id es v h.2)

-- and is taken from there
pub remove_last : (from id : ℕ) (es : List (ℕ × Issued)) (v : Issued) → AreRising from id (held_of es) → remove_entry (is_at (nat_cmp id)) (es ++ (id, v) ∷ []) ≡ es
remove_last from id [] v h = ap (λ b. cond b [] ((id, v) ∷ [])) (at_same id id refl)
remove_last from id (e ∷ es) v h =
    ap (λ b. cond b (es ++ (id, v) ∷ []) (e ∷ remove_entry (is_at (nat_cmp id)) (es ++ (id, v) ∷ []))) (at_other id e.0 (λ s. omega (arith, h.1)))
    ∙ ap (λ (l : List (ℕ × Issued)). e ∷ l) (remove_last (e.0 + 1) id es v h.2)

pub held_of-push : (es : List (ℕ × Issued)) (channel id : ℕ) (v : Issued) → v ≡ record { channel = channel; settled = false } → held_of (es ++ (id, v) ∷ []) ≡ held_of es ++ unsettled channel id ∷ []
held_of-push es channel id v is = map-append (λ e. held_at e) es ((id, v) ∷ []) ∙ ap (λ (w : Issued). held_of es ++ held_at (id, w) ∷ []) is

or_false : (b : Bool) → (b || false) ≡ b
or_false true = refl
or_false false = refl

-- what the list says of an id is what the map has of it
pub answer_is : (p : Bool → Bool) (channel id from to : ℕ) (es : List (ℕ × Issued)) → AreRising from to (held_of es) → list_any (λ h. is_of channel id h && p h.settled) (held_of es) ≡ is_some_that p (state_at channel (lookup (is_at (nat_cmp id)) es))
answer_is p channel id from to [] h = refl
answer_is p channel id from to (e ∷ es) h = elim (cases_eq id e.0) [
  | inl same ↦
      here (e.1.channel == channel) (e.0 == id) (list_any (λ x. is_of channel id x && p x.settled) (held_of es)) (eq-eqb e.0 id (sym same)) (none_passes (λ x. p x.settled) channel id (held_of es) (none_below channel id (e.0 + 1) to (held_of es) h.2 (omega (arith, same))))
      ∙ sym (ap (λ b. is_some_that p (state_at channel (cond b (Some e.1) (lookup (is_at (nat_cmp id)) es)))) (at_same id e.0 same))
  | inr differ ↦
      ap (λ b. (b && p e.1.settled) || (list_any (λ x. is_of channel id x && p x.settled) (held_of es))) (and_right (e.1.channel == channel) (e.0 == id) (ne_eqb e.0 id (λ s. differ (sym s))))
      ∙ answer_is p channel id (e.0 + 1) to es h.2
      ∙ sym (ap (λ b. is_some_that p (state_at channel (cond b (Some e.1) (lookup (is_at (nat_cmp id)) es)))) (at_other id e.0 differ))
] where
  here : (b t r : Bool) → t ≡ true → r ≡ false → (((b && t) && p e.1.settled) || r) ≡ is_some_that p (cond b (Some e.1.settled) None)
  here true t r is none = ap (λ x. (x && p e.1.settled) || r) is ∙ ap (λ y. p e.1.settled || y) none ∙ or_false (p e.1.settled)
  here false t r is none = none

and_true : (b : Bool) → b ≡ (b && true)
and_true true = refl
and_true false = refl

some_that_true : (o : Option Bool) → is_some_that (λ _. true) o ≡ is_some o
some_that_true None = refl
some_that_true (Some b) = refl

pub holds_is : (channel id from to : ℕ) (es : List (ℕ × Issued)) → AreRising from to (held_of es) → holds channel id (held_of es) ≡ is_some (state_at channel (lookup (is_at (nat_cmp id)) es))
holds_is channel id from to es h =
    ap (λ (t : Held → Bool). list_any t (held_of es)) (λ i x. and_true (is_of channel id x) i)
    ∙ answer_is (λ _. true) channel id from to es h ∙ some_that_true (state_at channel (lookup (is_at (nat_cmp id)) es))

-- an id that the channel holds is taken out
pub remove_held : (channel id from to : ℕ) (es : List (ℕ × Issued)) → AreRising from to (held_of es) → holds channel id (held_of es) ≡ true → held_of (remove_entry (is_at (nat_cmp id)) es) ≡ filter (λ h. not (is_of channel id h)) (held_of es)
remove_held channel id from to [] h is = refl
remove_held channel id from to (e ∷ es) h is = elim (cases_eq id e.0) [
  | inl same ↦
      let none = none_below channel id (e.0 + 1) to (held_of es) h.2 (omega (arith, same)) in
      let this : is_of channel id (held_at e) ≡ true = first (is_of channel id (held_at e)) (holds channel id (held_of es)) none is in
      ap (λ b. held_of (cond b es (e ∷ remove_entry (is_at (nat_cmp id)) es))) (at_same id e.0 same)
      ∙ sym (filter_none channel id (held_of es) none)
      ∙ sym (ap (λ b. cond (not b) (held_at e ∷ (filter (λ x. not (is_of channel id x)) (held_of es))) (filter (λ x. not (is_of channel id x)) (held_of es))) this)
  | inr differ ↦
      let other : is_of channel id (held_at e) ≡ false = and_right (e.1.channel == channel) (e.0 == id) (ne_eqb e.0 id (λ s. differ (sym s))) in
      let more : holds channel id (held_of es) ≡ true = sym (ap (λ b. b || holds channel id (held_of es)) other) ∙ is in
      ap (λ b. held_of (cond b es (e ∷ remove_entry (is_at (nat_cmp id)) es))) (at_other id e.0 differ)
      ∙ ap (λ (l : List Held). held_at e ∷ l) (remove_held channel id (e.0 + 1) to es h.2 more)
      ∙ sym (ap (λ b. cond (not b) (held_at e ∷ (filter (λ x. not (is_of channel id x)) (held_of es))) (filter (λ x. not (is_of channel id x)) (held_of es))) other)
]

-- an id that the channel holds is settled
pub settle_held : (channel id from to : ℕ) (es : List (ℕ × Issued)) (v w : Issued) → AreRising from to (held_of es) → holds channel id (held_of es) ≡ true → lookup (is_at (nat_cmp id)) es ≡ Some v → w ≡ record { channel = v.channel; settled = true } → held_of (set_value (is_at (nat_cmp id)) es w) ≡ map (λ h. settled_at channel id h) (held_of es)
settle_held channel id from to [] v w h is found is_settled = refl
settle_held channel id from to (e ∷ es) v w h is found is_settled = elim (cases_eq id e.0) [
  | inl same ↦
      let none = none_below channel id (e.0 + 1) to (held_of es) h.2 (omega (arith, same)) in
      let this : is_of channel id (held_at e) ≡ true = first (is_of channel id (held_at e)) (holds channel id (held_of es)) none is in
      let one : Some e.1 ≡ Some v = sym (ap (λ b. cond b (Some e.1) (lookup (is_at (nat_cmp id)) es)) (at_same id e.0 same)) ∙ found in
      let it : e.1 ≡ v = cc in
      ap (λ b. held_of (cond b ((e.0, w) ∷ es) (e ∷ set_value (is_at (nat_cmp id)) es w))) (at_same id e.0 same)
      ∙ ap (λ (u : Issued). held_at (e.0, u) ∷ held_of es) (is_settled ∙ ap (λ (u : Issued). record { channel = u.channel; settled = true }) (sym it))
      ∙ ap (λ (l : List Held). record { channel = e.1.channel; id = e.0; settled = true } ∷ l) (sym (settle_none channel id (held_of es) (none_passes (λ x. not x.settled) channel id (held_of es) none)))
      ∙ sym (ap (λ b. cond b (record { channel = e.1.channel; id = e.0; settled = true }) (held_at e) ∷ map (λ x. settled_at channel id x) (held_of es)) this)
  | inr differ ↦
      let other : is_of channel id (held_at e) ≡ false = and_right (e.1.channel == channel) (e.0 == id) (ne_eqb e.0 id (λ s. differ (sym s))) in
      let more : holds channel id (held_of es) ≡ true = sym (ap (λ b. b || holds channel id (held_of es)) other) ∙ is in
      let later : lookup (is_at (nat_cmp id)) es ≡ Some v = sym (ap (λ b. cond b (Some e.1) (lookup (is_at (nat_cmp id)) es)) (at_other id e.0 differ)) ∙ found in
      ap (λ b. held_of (cond b ((e.0, w) ∷ es) (e ∷ set_value (is_at (nat_cmp id)) es w))) (at_other id e.0 differ)
      ∙ ap (λ (l : List Held). held_at e ∷ l) (settle_held channel id (e.0 + 1) to es v w h.2 more later is_settled)
      ∙ sym (ap (λ b. cond b (record { channel = e.1.channel; id = e.0; settled = true }) (held_at e) ∷ map (λ x. settled_at channel id x) (held_of es)) other)
]
