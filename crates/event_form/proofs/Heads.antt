-- What a head alone says of the entry.
use Rattle.std.proofs.Common.{◌≡◌, ℕ, ◌+◌, ◌<◌, ◌≤◌, false, List, length, get_or, take, drop, sym, ◌∙◌, ap, arith}
use Rattle.std.specs.Int.{w32, from_be_bytes}
use Rattle.std.proofs.lemmas.Bool.{both_ways}
use Rattle.std.proofs.lemmas.List.{drop-take, take-take, get_or-take}
use Rattle.event_form.specs.declared.event.Origin.{Origin}
use Rattle.event_form.specs.declared.limits.TheConstants.{HEAD_BYTES, MOST_TEXT}
use Rattle.event_form.specs.Entry.{origin_code}
use Rattle.event_form.specs.Reading.{BeginsNone, HasLength, is_origin, told_length}
use Rattle.event_form.proofs.Faults.{code_is_origin, begins_origin, begins_told}

-- what stands in the head stands in the bytes
first : (head bytes : List ℕ) → take HEAD_BYTES bytes ≡ head → get_or bytes 0 0 ≡ get_or head 0 0
first head bytes front = sym (get_or-take HEAD_BYTES bytes 0 0 (omega arith)) ∙ ap (λ (l : List ℕ). get_or l 0 0) front

told : (head bytes : List ℕ) → take HEAD_BYTES bytes ≡ head → told_length bytes ≡ told_length head
told head bytes front =
    let whole : take 4 (drop 25 bytes) ≡ drop 25 (take HEAD_BYTES bytes) = sym (drop-take 25 4 bytes) in
    let again : take 4 (drop 25 head) ≡ take 4 (drop 25 bytes) = ap (λ (l : List ℕ). take 4 (drop 25 l)) (sym front) ∙ ap (take 4) (sym whole) ∙ take-take 4 4 (drop 25 bytes) (omega arith) in
    ap (from_be_bytes w32) (sym again)

pub by_head : (head : List ℕ) (origin : Origin) (length size : ℕ) → get_or head 0 0 ≡ origin_code origin → length ≡ told_length head → length ≤ MOST_TEXT → size ≡ HEAD_BYTES + length → HasLength head size
by_head head origin length size is long short all = record {
  origin = ap is_origin is ∙ code_is_origin origin;
  short = omega (arith, long, short);
  told = omega (arith, long, all);
  only = λ e bytes rest front begins. omega (arith, long, all, told head bytes front, begins_told e bytes rest begins);
}

pub none_of_origin : (head : List ℕ) → is_origin (get_or head 0 0) ≡ false → BeginsNone head
none_of_origin head not_one = λ bytes front e rest begins.
    both_ways (is_origin (get_or head 0 0)) not_one (ap is_origin (sym (first head bytes front) ∙ begins_origin e bytes rest begins) ∙ code_is_origin e.event.origin)

pub none_of_length : (head : List ℕ) → MOST_TEXT < told_length head → BeginsNone head
none_of_length head long = λ bytes front e rest begins.
    absurd (omega (arith, long, told head bytes front, begins_told e bytes rest begins, begins.limits.event.short))
