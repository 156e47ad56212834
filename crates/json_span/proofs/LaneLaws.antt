-- From the mask of a load to the bytes that stand for themselves.
use Rattle.std.proofs.Common.{◌≡◌, ℕ, ◌+◌, ◌%◌, ◌^◌, ◌≤◌, eqb, Bool, true, false, not, cond, List, map, length, get_or, replicate, Fits, w8, refl, ap, ◌∙◌, sym, arith}
use Rattle.std.proofs.lemmas.Bool.{agree_below, agree_below_at, not-false, not-true, eqb-true}
use Rattle.std.proofs.lemmas.Simd.{map-map, zip2_splat, mask_l-mod, length-chunk, first_set_mask_l, run_in_chunk_le, run_in_chunk_fails, run_in_chunk_stops, none_from_empty_mask}
use Rattle.std.proofs.lemmas.List.{length-map}
use Rattle.std.specs.Bool.{OnTrue}
use Rattle.std.specs.List.{prefix_len}
use Rattle.std.specs.Int.{w64, trailing_zeros}
use lib.Lanes.{chunk, mask_l, top, zip2}
use Rattle.json_span.specs.Strings.{is_plain}
use Rattle.json_span.specs.Plain.{ArePlain, IsPlainRun}

-- the mask of lanes that a load's bytes give
masked : (d : List ℕ) (i n : ℕ) (z : List ℕ) (f : ℕ → ℕ) → i + n ≤ length d → n ≤ 64 → z ≡ map f (chunk i n d)
    → mask_l (map (top 7) z) % 2 ^ 64 ≡ mask_l (map (λ x. top 7 (f x)) (chunk i n d))
masked d i n z f room few lanes =
    let v = chunk i n d in
    ap (λ l. mask_l l % 2 ^ 64) (ap (map (top 7)) lanes ∙ map-map (top 7) f v) ∙ mask_l-mod (map (λ x. top 7 (f x)) v) 64 (omega (arith, length-map v (λ x. top 7 (f x)), length-chunk i n d room))

on_true : (b : Bool) (P : Type 0) → (b ≡ true → P) → OnTrue b P
on_true true P f = f refl
on_true false P f = tt

-- a comparison of lanes that are made one by one from others
pub splat_of_map : (f : ℕ → ℕ → ℕ) (g : ℕ → ℕ) (v : List ℕ) (n y : ℕ) {xs : List ℕ} → length v ≡ n → xs ≡ map g v
    → zip2 f xs (replicate n y) ≡ map (λ x. f (g x) y) v
splat_of_map f g v n y long lanes =
    ap (λ l. zip2 f l (replicate n y)) lanes ∙ zip2_splat f (map g v) n y (omega (arith, length-map v g, long)) ∙ map-map (λ x. f x y) g v

-- where the mask of sixty-four lanes f is empty, each byte stands for itself
pub none_in : (d : List ℕ) (i : ℕ) (z : List ℕ) (f : ℕ → ℕ) → i + 64 ≤ length d → ((k : ℕ) → Fits w8 (get_or d k 0))
    → z ≡ map f (chunk i 64 d) → agree_below (λ x. top 7 (f x)) (λ x. not (is_plain x)) 256 ≡ true
    → OnTrue (eqb (mask_l (map (top 7) z) % 2 ^ 64) 0) (ArePlain d i (i + 64))
none_in d i z f room fits lanes all =
    let stops : ℕ → Bool = λ x. top 7 (f x) in
    on_true _ (ArePlain d i (i + 64)) (λ none k from to.
    not-false _ (sym (agree_below_at stops (λ x. not (is_plain x)) 256 (get_or d k 0) all (fits k).fits)
    ∙ none_from_empty_mask stops d i 64 0 room (sym (masked d i 64 z f room (omega arith) lanes) ∙ eqb-true _ 0 none) k from to))

-- the lanes f of a load stop just where a byte doesn't stand for itself
pub run_in : (d : List ℕ) (i r : ℕ) (z : List ℕ) (f : ℕ → ℕ) → i + 16 ≤ length d → ((k : ℕ) → Fits w8 (get_or d k 0))
    → r ≡ cond (eqb (mask_l (map (top 7) z) % 2 ^ 64) 0) 16 (trailing_zeros w64 (mask_l (map (top 7) z) % 2 ^ 64))
    → z ≡ map f (chunk i 16 d) → agree_below (λ x. top 7 (f x)) (λ x. not (is_plain x)) 256 ≡ true → IsPlainRun d i (i + 16) (i + r)
run_in d i r z f room fits found lanes all =
    let stops : ℕ → Bool = λ x. top 7 (f x) in
    let v = chunk i 16 d in
    let long : length v ≡ 16 = length-chunk i 16 d room in
    let mask = masked d i 16 z f room (omega arith) lanes in
    let counted : r ≡ prefix_len (λ x. not (stops x)) v = found ∙ ap (λ m. cond (eqb m 0) 16 (trailing_zeros w64 m)) mask ∙ first_set_mask_l stops v 16 long (omega arith) in
    record {
      order = omega arith;
      bound = omega (arith, run_in_chunk_le stops d i 16 r 0 room counted);
      plain = λ k from to. not-false _ (sym (agree_below_at stops (λ x. not (is_plain x)) 256 (get_or d k 0) all (fits k).fits) ∙ run_in_chunk_fails stops d i 16 r 0 room counted k from to);
      stops = λ short. not-true _ (sym (agree_below_at stops (λ x. not (is_plain x)) 256 (get_or d (i + r) 0) all (fits (i + r)).fits) ∙ run_in_chunk_stops stops d i 16 r 0 room counted (omega (arith, short)));
    }
