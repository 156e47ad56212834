-- What memory has of a spool, and what stands on its device.
use Rattle.std.proofs.Common.{◌≡◌, ℕ, Bool, true, false, cond, List, [], refl, sym, ◌∙◌, ap, subst, arith}
use Rattle.std.specs.Prelude.{◌==◌, ◌||◌}
use Rattle.std.specs.BTreeMap.{is_at}
use Rattle.std.specs.List.{list_any}
use Rattle.std.specs.BTreeSet.{BTreeSet, IsEmpty, contains, Updates}
use Rattle.std.specs.Ordering.{nat_cmp, is_eq}
use Rattle.std.specs.Cmp.{Equal-is}
use Rattle.std.proofs.lemmas.Bool.{both_ways, eq-eqb, ne_eqb}
use Rattle.std.proofs.lemmas.Cmp.{nat_cmp_total, tied_itself}
use Rattle.std.proofs.lemmas.Map.Lookups.{exact_unsigned}
use Rattle.spool_state.specs.SpoolState.{SpoolState, end, IsSound}
use Rattle.spool_state.specs.Image.{StandsFor}
use Rattle.edge_disk.specs.Disk.{Moment, IsSettled}
use Rattle.spool_log.specs.declared.memory.Memory.{Memory}
use Rattle.spool_log.specs.Knows.{Knows, IsStored}
use Rattle.spool_log.specs.Memory.{end_of}
use Rattle.spool_log.specs.State.{view, IsIn}
use Rattle.spool_log.proofs.Numbers.{end_known}

pub end_is : (s : SpoolState) (memory : Memory) → Knows s memory → IsSound s → end_of memory ≡ end s
end_is s memory knows sound = end_known s memory.active sound knows.active

-- outside doubt, what is stored is the state
pub is_in : (s : SpoolState) (memory : Memory) (doubt : Bool) (m : Moment) → IsStored s memory m.reads → IsSettled m → doubt ≡ false → IsIn s [] (view memory doubt m)
is_in s memory doubt m stored settled sure = record {
  sound = stored.stands.sound;
  knows = stored.knows;
  each = λ c image. subst (λ (d : List ℕ). StandsFor s d) (sym (settled.only c image)) stored.stands;
  follow = λ k d lt. absurd (omega arith);
  doubtful = (λ is. absurd (both_ways doubt sure is), λ lt. absurd (omega arith));
}

-- ---- the set of numbers

same_test : (a b : ℕ) (t : Bool) → is_eq (nat_cmp a b) ≡ t → t ≡ (a == b)
same_test a b true e = sym (eq-eqb a b (exact_unsigned a b ((Equal-is (nat_cmp a b)).0 e)))
same_test a b false e = sym (ne_eqb a b (λ same.
    let tied : is_eq (nat_cmp a b) ≡ true = subst (λ (c : ℕ). is_eq (nat_cmp a c) ≡ true) same ((Equal-is (nat_cmp a a)).1 (tied_itself nat_cmp_total a)) in
    cc))

or_else : (t x : Bool) → cond t true x ≡ (x || t)
or_else true true = refl
or_else true false = refl
or_else false true = refl
or_else false false = refl

pub inserted : (old new : BTreeSet ℕ) (key n : ℕ) → Updates nat_cmp old new key true → contains nat_cmp new n ≡ (contains nat_cmp old n || key == n)
inserted old new key n updates =
    updates.0 n ∙ ap (λ (t : Bool). cond t true (contains nat_cmp old n)) (same_test key n (is_eq (nat_cmp key n)) refl) ∙ or_else (key == n) (contains nat_cmp old n)

pub contains_none : (set : BTreeSet ℕ) → IsEmpty set → (n : ℕ) → contains nat_cmp set n ≡ false
contains_none set none n = ap (λ (keys : List ℕ). list_any (is_at (nat_cmp n)) keys) none
