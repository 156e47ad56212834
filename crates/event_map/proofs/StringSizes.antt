-- How long a JSON string may be: each byte of a text takes at most six.
use Rattle.std.proofs.Common.{◌≡◌, ℕ, zero, suc, ◌+◌, ◌*◌, ◌<◌, ◌≤◌, Bool, true, false, ◌==◌, Option, Some, None, if◌then◌else◌, List, [], ◌∷◌, ◌++◌, length, take, drop, refl, arith, length-append, length-drop}
use Rattle.std.specs.Prelude.{◌/◌, ◌%◌, unwrap_or, flat_map, nat_lt, slice_index}
use Rattle.std.specs.Int.{is_in_range}
use Rattle.std.specs.Char.{digit_char}
use Rattle.std.specs.Str.Lossy.{utf8_lossy, utf8_lossy_within, utf8_valid_len, utf8_invalid_len, utf8_error_len, error_len_of_some, error_len_after_one, error_len_after_two, after_first_chunk, replacement_bytes}
use Rattle.std.proofs.lemmas.Str.{utf8_valid_len_le}
use Rattle.std.proofs.lemmas.Bool.{eqb-false}
use Rattle.std.proofs.lemmas.List.{length-take-le}
use Rattle.json.specs.Print.{escape_byte, escape_letter}
use Rattle.event_map.specs.Strings.{string_of, event_string}

-- how many bytes stand in a string for these
abbrev escaped : List ℕ → ℕ
escaped bytes = length (flat_map escape_byte bytes)

at_most_six : (b : Bool) (x y : List ℕ) → length x ≤ 6 → length y ≤ 6 → length (if b then x else y) ≤ 6
at_most_six true x y h k = h
at_most_six false x y h k = k

byte_size : (x : ℕ) → length (escape_byte x) ≤ 6
unfolding escape_byte
byte_size x =
    let short : length (92 ∷ escape_letter x ∷ []) ≤ 6 = omega arith in
    let long : length (92 ∷ 117 ∷ 48 ∷ 48 ∷ digit_char (x / 16) ∷ digit_char (x % 16) ∷ []) ≤ 6 = omega arith in
    let plain : length (x ∷ []) ≤ 6 = omega arith in
    at_most_six (nat_lt 0 (escape_letter x)) _ _ short (at_most_six (nat_lt x 32) _ _ long plain)

escaped_size : (bytes : List ℕ) → escaped bytes ≤ 6 * length bytes
escaped_size [] = omega arith
escaped_size (x ∷ bytes) = omega (arith, byte_size x, escaped_size bytes, length-append (escape_byte x) (flat_map escape_byte bytes))

escaped-append : (xs ys : List ℕ) → escaped (xs ++ ys) ≡ escaped xs + escaped ys
escaped-append [] ys = omega arith
escaped-append (x ∷ xs) ys = omega (arith, escaped-append xs ys, length-append (escape_byte x) (flat_map escape_byte xs), length-append (escape_byte x) (flat_map escape_byte (xs ++ ys)))

escaped-replacement : escaped replacement_bytes ≡ 3
unfolding escape_byte
escaped-replacement = refl

-- at least one byte stands after each U+FFFD
some_either : (n : ℕ) (b : Bool) (x y : Option ℕ) → 0 < unwrap_or x n → 0 < unwrap_or y n → 0 < unwrap_or (if b then x else y) n
some_either n true x y h k = h
some_either n false x y h k = k

invalid_some : (bytes : List ℕ) → 0 < length bytes → 0 < utf8_invalid_len bytes
unfolding utf8_error_len
invalid_some bytes h =
    let n = length bytes in
    let cut : 0 < unwrap_or None n = h in
    let one : 0 < unwrap_or (Some 1) n = omega arith in
    let two : 0 < unwrap_or (Some 2) n = omega arith in
    let three : 0 < unwrap_or (Some 3) n = omega arith in
    some_either n (n == 0) None (error_len_of_some bytes) cut
    (some_either n _ (error_len_after_one bytes) (Some 1) (some_either n (nat_lt n 2) None _ cut
    (some_either n _ (error_len_after_two bytes) (Some 1) (some_either n (nat_lt n 3) None _ cut
    (some_either n (is_in_range 128 191 (slice_index bytes 2)) (if nat_lt n 4 then None else Some 3) (Some 2) (some_either n (nat_lt n 4) None (Some 3) cut three) two)) one)) one)

within_size : (k : ℕ) (bytes : List ℕ) → escaped (utf8_lossy_within k bytes) ≤ 6 * length bytes
within_size zero bytes = escaped_size bytes
within_size (suc k) bytes = go (utf8_valid_len bytes == length bytes) refl (within_size k (after_first_chunk bytes))
  where
    v : ℕ
    v = utf8_valid_len bytes

    go : (b : Bool) → (v == length bytes) ≡ b → escaped (utf8_lossy_within k (after_first_chunk bytes)) ≤ 6 * length (after_first_chunk bytes) → escaped (if b then bytes else (take v bytes ++ (replacement_bytes ++ utf8_lossy_within k (after_first_chunk bytes)))) ≤ 6 * length bytes
    go true e h = escaped_size bytes
    go false e h =
        let rest = utf8_lossy_within k (after_first_chunk bytes) in
        let valid : v ≤ length bytes = utf8_valid_len_le bytes in
        let left : 0 < length (drop v bytes) = omega (arith, valid, eqb-false v (length bytes) e, length-drop v bytes) in
        let one : 0 < utf8_invalid_len (drop v bytes) = invalid_some (drop v bytes) left in
        let behind = length-drop (v + utf8_invalid_len (drop v bytes)) bytes in
        let front : length (take v bytes) ≡ v = length-take-le v bytes valid in
        let sum = escaped-append (take v bytes) (replacement_bytes ++ rest) in
        let more = escaped-append replacement_bytes rest in
        omega (arith, h, left, length-drop v bytes, one, behind, front, escaped_size (take v bytes), sum, more, escaped-replacement)

pub string_size : (text : List ℕ) → length (string_of text) ≤ 6 * length text + 2
unfolding utf8_lossy
string_size text = omega (arith, within_size (length text) text, length-append (flat_map escape_byte (utf8_lossy text)) (34 ∷ []))

pub event_string_size : (text : List ℕ) → length text ≤ 131072 → length (event_string text) ≤ 6 * 131072 + 2
event_string_size [] h = omega arith
event_string_size (b ∷ text) h = omega (arith, h, string_size (b ∷ text))
