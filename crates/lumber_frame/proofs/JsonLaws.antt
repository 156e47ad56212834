-- A JSON frame that is read at once.
use Rattle.std.proofs.Common.{◌≡◌, ℕ, suc, ◌+◌, ◌-◌, ◌≤◌, ◌∙◌, List, [], ◌∷◌, ◌++◌, length, take, drop, get_or, refl, sym, ap, subst, w32, arith, length-take-le, length-drop}
use Rattle.std.specs.Prelude.{slice_range}
use Rattle.std.specs.Int.{from_be_bytes}
use Rattle.std.proofs.lemmas.List.{drop-drop, drop-take}
use Rattle.std.proofs.Math.Seq.{take-add, drop-append-add}
use Rattle.lumber_frame.specs.declared.field.Whole.TheVariants.{Json}
use Rattle.lumber_frame.specs.declared.frame.LumberFrame.TheVariants as frame
use Rattle.lumber_frame.specs.declared.side.Side.TheVariants.{Receiver}
use Rattle.lumber_frame.specs.Running.{Ended}
use Rattle.lumber_frame.specs.Spelling.{IsSpelling}

pub json_ends : (b : List ℕ) (seq len : ℕ) → 10 + len ≤ length b → get_or b 0 0 ≡ 50 → get_or b 1 0 ≡ 74 → seq ≡ from_be_bytes w32 (slice_range b 2 6) → len ≡ from_be_bytes w32 (slice_range b 6 10) → len ≤ 131072 → Ended Receiver b (Json seq) (10 + len)
json_ends [] seq len l p q s n k = absurd (omega (arith, l))
json_ends (c ∷ []) seq len l p q s n k = absurd (omega (arith, l))
json_ends (c ∷ d ∷ r) seq len l p q s n k =
    let b = c ∷ d ∷ r in
    let x = take 4 r in
    let y = take 4 (drop 4 r) in
    let z = take len (drop 8 r) in
    let eight : drop 4 (drop 4 r) ≡ drop 8 r = drop-drop 4 4 r in
    let parts : take (4 + (4 + len)) r ≡ x ++ (y ++ z) = take-add 4 (4 + len) r ∙ ap (λ v. x ++ v) (take-add 4 len (drop 4 r) ∙ ap (λ v. y ++ take len v) eight) in
    let two : 10 + len ≡ suc (suc (4 + (4 + len))) = omega arith in
    let whole : take (10 + len) b ≡ 50 ∷ 74 ∷ (x ++ (y ++ z)) = ap (λ m. take m b) two ∙ ap (λ v. c ∷ d ∷ v) parts ∙ ap (λ v. v ∷ d ∷ (x ++ (y ++ z))) p ∙ ap (λ v. 50 ∷ v ∷ (x ++ (y ++ z))) q in
    let text : drop 10 (take (10 + len) b) ≡ z = drop-take 10 len b in
    let long : length z ≡ len = length-take-le len (drop 8 r) (omega (arith, l, length-drop 8 r)) in
    record {
      some = omega arith;
      inside = l;
      behind = omega arith;
      spelled = (
        tt,
        subst (λ v. IsSpelling (frame.Json seq v) (take (10 + len) b)) (sym text) (
          x ++ (y ++ z),
          whole,
          record {
            sequence = x;
            number = y;
            whole = refl;
            sequence_is = record { four = length-take-le 4 r (omega (arith, l)); value = sym s };
            number_is = record { four = length-take-le 4 (drop 4 r) (omega (arith, l, length-drop 4 r)); value = sym n ∙ sym long };
            short = omega (arith, long, k);
          },
        ),
      );
    }

-- what stands from a place on that lies in the second list
pub drop_back : (a b : List ℕ) (n : ℕ) → length a ≤ n → drop n (a ++ b) ≡ drop (n - length a) b
drop_back a b n l =
    let e : n ≡ length a + (n - length a) = omega (arith, l) in
    ap (λ k. drop k (a ++ b)) e ∙ drop-append-add a b (n - length a)
