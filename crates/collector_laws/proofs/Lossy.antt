-- What is read of bytes as a text is UTF-8, and is empty for no bytes alone.
use Rattle.std.proofs.Common.{◌≡◌, ℕ, zero, suc, ◌+◌, ◌<◌, ◌≤◌, Bool, true, false, cond, List, ◌++◌, length, take, drop, refl, sym, ◌∙◌, ap, subst, arith, length-append, length-drop, if◌then◌else◌, ◌==◌}
use Rattle.std.specs.Prelude.{IsUtf8, Option, Some, None, nat_lt, slice_index, unwrap_or}
use Rattle.std.specs.Int.{is_in_range}
use Rattle.std.specs.Char.{encode_utf8}
use Rattle.std.specs.Str.{chars, is_utf8}
use Rattle.std.specs.Str.Lossy.{after_first_chunk, error_len_after_one, error_len_after_two, error_len_of_some, replacement_bytes, utf8_error_len, utf8_invalid_len, utf8_lossy, utf8_valid_len, valid_len_up_to}
use Rattle.std.proofs.lemmas.Bool.{eqb-false, eqb-true}
use Rattle.std.proofs.lemmas.List.{take_all}
use Rattle.std.proofs.lemmas.Str.{IsUtf8-append, IsUtf8-from_is_utf8, IsUtf8-nil, utf8_lossy-IsUtf8, utf8_lossy_step, utf8_valid_len_le}

front_is : (bs : List ℕ) (n : ℕ) → IsUtf8 (take (valid_len_up_to bs n) bs)
front_is bs zero = IsUtf8-nil
front_is bs (suc n) = by (is_utf8 (take (suc n) bs)) refl (front_is bs n)
  where
    by : (b : Bool) → is_utf8 (take (suc n) bs) ≡ b → IsUtf8 (take (valid_len_up_to bs n) bs) → IsUtf8 (take (cond b (suc n) (valid_len_up_to bs n)) bs)
    by true is h = IsUtf8-from_is_utf8 (take (suc n) bs) is
    by false is h = h

valid_front : (bs : List ℕ) → IsUtf8 (take (utf8_valid_len bs) bs)
unfolding utf8_valid_len
valid_front bs = front_is bs (length bs)

replaced : IsUtf8 replacement_bytes
unfolding is_utf8 chars encode_utf8
replaced = IsUtf8-from_is_utf8 replacement_bytes refl

-- at least one byte stands after each U+FFFD
some_either : (n : ℕ) (b : Bool) (x y : Option ℕ) → 0 < unwrap_or x n → 0 < unwrap_or y n → 0 < unwrap_or (if b then x else y) n
some_either n true x y h k = h
some_either n false x y h k = k

invalid_some : (bytes : List ℕ) → 0 < length bytes → 0 < utf8_invalid_len bytes
unfolding utf8_error_len
invalid_some bytes h =
    let n = length bytes in
    let cut : 0 < unwrap_or None n = h in
    let one : 0 < unwrap_or (Some 1) n = omega arith in
    let two : 0 < unwrap_or (Some 2) n = omega arith in
    let three : 0 < unwrap_or (Some 3) n = omega arith in
    some_either n (n == 0) None (error_len_of_some bytes) cut
    (some_either n _ (error_len_after_one bytes) (Some 1) (some_either n (nat_lt n 2) None _ cut
    (some_either n _ (error_len_after_two bytes) (Some 1) (some_either n (nat_lt n 3) None _ cut
    (some_either n (is_in_range 128 191 (slice_index bytes 2)) (if nat_lt n 4 then None else Some 3) (Some 2) (some_either n (nat_lt n 4) None (Some 3) cut three) two)) one)) one)

rest_shorter : (bs : List ℕ) → (utf8_valid_len bs ≡ length bs → ⊥) → length (after_first_chunk bs) < length bs
rest_shorter bs faulty =
    let v = utf8_valid_len bs in
    let valid : v ≤ length bs = utf8_valid_len_le bs in
    let left : 0 < length (drop v bs) = omega (arith, valid, faulty, length-drop v bs) in
    omega (arith, left, length-drop v bs, invalid_some (drop v bs) left, length-drop (v + utf8_invalid_len (drop v bs)) bs)

lossy_within : (k : ℕ) (bs : List ℕ) → length bs < k → IsUtf8 (utf8_lossy bs)
lossy_within zero bs short = absurd (omega (arith, short))
lossy_within (suc k) bs short = by (utf8_valid_len bs == length bs) refl (λ less. lossy_within k (after_first_chunk bs) (omega (arith, less, short)))
  where
    by : (b : Bool) → (utf8_valid_len bs == length bs) ≡ b → (length (after_first_chunk bs) < length bs → IsUtf8 (utf8_lossy (after_first_chunk bs))) → IsUtf8 (utf8_lossy bs)
    by true is others =
        let all : take (utf8_valid_len bs) bs ≡ bs = ap (λ (n : ℕ). take n bs) (eqb-true (utf8_valid_len bs) (length bs) is) ∙ take_all (length bs) bs (omega arith) in
        let text : IsUtf8 bs = subst IsUtf8 all (valid_front bs) in
        subst IsUtf8 (sym (utf8_lossy-IsUtf8 bs text)) text
    by false is others =
        let faulty : utf8_valid_len bs ≡ length bs → ⊥ = eqb-false (utf8_valid_len bs) (length bs) is in
        let rest = others (rest_shorter bs faulty) in
        subst IsUtf8 (sym (utf8_lossy_step bs faulty))
        (IsUtf8-append (take (utf8_valid_len bs) bs) (replacement_bytes ++ utf8_lossy (after_first_chunk bs)) (valid_front bs)
        (IsUtf8-append replacement_bytes (utf8_lossy (after_first_chunk bs)) replaced rest))

pub lossy_text : (bs : List ℕ) → IsUtf8 (utf8_lossy bs)
lossy_text bs = lossy_within (suc (length bs)) bs (omega arith)

pub lossy_some : (bs : List ℕ) → 0 < length bs → 0 < length (utf8_lossy bs)
lossy_some bs some = by (utf8_valid_len bs == length bs) refl
  where
    by : (b : Bool) → (utf8_valid_len bs == length bs) ≡ b → 0 < length (utf8_lossy bs)
    by true is =
        let all : take (utf8_valid_len bs) bs ≡ bs = ap (λ (n : ℕ). take n bs) (eqb-true (utf8_valid_len bs) (length bs) is) ∙ take_all (length bs) bs (omega arith) in
        omega (arith, some, ap length (utf8_lossy-IsUtf8 bs (subst IsUtf8 all (valid_front bs))))
    by false is =
        let front = take (utf8_valid_len bs) bs in
        let rest = utf8_lossy (after_first_chunk bs) in
        omega (arith, ap length (utf8_lossy_step bs (eqb-false (utf8_valid_len bs) (length bs) is)), length-append front (replacement_bytes ++ rest), length-append replacement_bytes rest)
