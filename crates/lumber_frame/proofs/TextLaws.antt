-- The bytes after the first ten, as a field comes.
use Rattle.std.proofs.Common.{◌≡◌, ℕ, ◌+◌, ◌-◌, ◌≤◌, ◌∙◌, List, [], ◌++◌, length, drop, sym, arith, length-append, length-drop}
use Rattle.std.proofs.lemmas.List.{drop-append-le, nil_from_length}

pub drop_whole : (h : List ℕ) → length h ≤ 10 → drop 10 h ≡ []
drop_whole h l = nil_from_length (drop 10 h) (omega (arith, length-drop 10 h))

-- before the text there are none
pub drop_early : (h b : List ℕ) → length h + length b ≤ 10 → drop 10 (h ++ b) ≡ drop 10 h
drop_early h b l = drop_whole (h ++ b) (omega (arith, length-append h b)) ∙ sym (drop_whole h (omega arith))

-- in the text the field is added
pub drop_text : (h b : List ℕ) → 10 ≤ length h → drop 10 (h ++ b) ≡ drop 10 h ++ b
drop_text h b l = drop-append-le 10 h b l

pub length_text : (h : List ℕ) → length (drop 10 h) ≡ length h - 10
length_text h = length-drop 10 h
