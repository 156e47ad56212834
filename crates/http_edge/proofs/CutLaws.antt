-- How a cut head goes on, and how it ends.
use Rattle.std.proofs.Common.{◌≡◌, ℕ, ◌+◌, ◌-◌, ◌≤◌, List, [], ◌++◌, length, take, drop, refl, sym, ap, ◌∙◌, subst, arith, inl, length-drop, length-take-le, append_assoc}
use Rattle.std.proofs.lemmas.List.{take_all}
use Rattle.std.proofs.Math.Seq.{take-add}
use Rattle.http_edge.specs.declared.fault.HttpWhy.TheVariants.{TooLong}
use Rattle.http_edge.specs.Heads.{IsOpenHead}
use Rattle.http_edge.specs.HttpStream.{IsFault}

window : (p : List ℕ) (f : ℕ) → take (length p - f) (drop f p) ≡ drop f p
window p f = let n = length-drop f p in take_all (length p - f) (drop f p) (omega (arith, n))

pub joined_run : (old now new p : List ℕ) (f used : ℕ) → now ≡ old ++ take f p → new ≡ now ++ take used (take (length p - f) (drop f p)) → new ≡ old ++ take (f + used) p
joined_run old now new p f used e g = g ∙ (λ i. e i ++ take used (window p f i)) ∙ append_assoc old (take f p) (take used (drop f p)) ∙ ap (λ (v : List ℕ). old ++ v) (sym (take-add f used p))

pub run_inside : (p : List ℕ) (f used : ℕ) → f ≤ length p → used ≤ length (take (length p - f) (drop f p)) → f + used ≤ length p
run_inside p f used i u =
    let n : length (take (length p - f) (drop f p)) ≡ length (drop f p) = ap length (window p f) in
    let m = length-drop f p in
    omega (arith, i, u, n, m)

-- one byte more
pub joined_one : (old now new p : List ℕ) (n : ℕ) → now ≡ old ++ take n p → new ≡ now ++ take (n + 1 - n) (drop n p) → new ≡ old ++ take (n + 1) p
joined_one old now new p n e g =
    let k : n + 1 - n ≡ 1 = omega arith in
    g ∙ (λ i. e i ++ take (k i) (drop n p)) ∙ append_assoc old (take n p) (take 1 (drop n p)) ∙ ap (λ (v : List ℕ). old ++ v) (sym (take-add n 1 p))

pub one_long : (p : List ℕ) (n : ℕ) → n + 1 ≤ length p → length (take (n + 1 - n) (drop n p)) ≡ 1
one_long p n i =
    let m = length-drop n p in
    let k : n + 1 - n ≡ 1 = omega arith in
    length-take-le (n + 1 - n) (drop n p) (omega (arith, m, i)) ∙ k

pub long_open : (b : List ℕ) → IsOpenHead b → length b ≡ 16384 → IsFault b TooLong 0 []
long_open b x e = inl (omega (arith, e), subst IsOpenHead (sym (take_all 16384 b (omega (arith, e)))) x, refl, refl)
