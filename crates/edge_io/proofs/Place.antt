-- A list of bytes before and after a place, when the place moves on by the bytes read there.
use Rattle.std.proofs.Common.{◌≡◌, ℕ, ◌+◌, ◌-◌, ◌<◌, min, length, List, [], ◌++◌, take, drop, sym, ◌∙◌, ap, arith}
use Rattle.std.proofs.Math.Seq.{take-add}
use Rattle.std.proofs.lemmas.List.{take-append-drop, drop-drop, drop_all}

-- before it: the bytes read are added
pub take_moved : (bytes seen out : List ℕ) (at n : ℕ) → seen ≡ bytes → take n out ≡ take n (drop at seen) → take (at + n) bytes ≡ take at bytes ++ take n out
take_moved bytes seen out at n same read =
    take-add at n bytes ∙ ap (λ l. take at bytes ++ l) (sym (read ∙ ap (λ l. take n (drop at l)) same))

-- after it: the bytes read were the first
pub drop_moved : (bytes seen out : List ℕ) (at n : ℕ) → seen ≡ bytes → take n out ≡ take n (drop at seen) → drop at bytes ≡ take n out ++ drop (at + n) bytes
drop_moved bytes seen out at n same read =
    sym (take-append-drop n (drop at bytes)) ∙ ap (λ l. take n (drop at bytes) ++ l) (drop-drop n at bytes) ∙ ap (λ l. l ++ drop (at + n) bytes) (sym (read ∙ ap (λ l. take n (drop at l)) same))

-- nothing is after it where none of some bytes was read
pub drop_ended : (bytes seen : List ℕ) (at n step room : ℕ) → seen ≡ bytes → n ≡ min step (min room (length seen - at)) → n ≡ 0 → 0 < step → 0 < room → drop (at + n) bytes ≡ []
drop_ended bytes seen at n step room same count none steps rooms = drop_all (at + n) bytes (omega (arith, ap length same))
