-- The fields of an entry's text, each at its offset, whatever follows the text.
use Rattle.std.proofs.Common.{◌≡◌, ℕ, ◌+◌, ◌^◌, ◌<◌, List, ◌++◌, length, get_or, take, drop, refl, ◌∙◌, ap, arith, append_assoc, length-append}
use Rattle.std.specs.Int.{w32, w64, from_be_bytes, to_be_bytes}
use Rattle.std.proofs.lemmas.List.{take_at, drop_at}
use Rattle.event_form.specs.declared.event.Entry.{Entry}
use Rattle.event_form.specs.Event.{IsEvent}
use Rattle.event_form.specs.Entry.{origin_code, head_text, entry_text, size_of}
use Rattle.event_form.proofs.Numbers.{four_back, eight_back}

pub length-head_text : (e : Entry) → length (head_text e) ≡ 29
unfolding head_text
length-head_text e = refl

pub length-entry_text : (e : Entry) → length (entry_text e) ≡ size_of e
unfolding entry_text
length-entry_text e = length-append (head_text e) e.event.text ∙ ap (λ n. n + length e.event.text) (length-head_text e)

-- ---- what stands at each offset

pub entry_parts : (e : Entry) (rest : List ℕ) → entry_text e ++ rest ≡ head_text e ++ (e.event.text ++ rest)
unfolding entry_text
entry_parts e rest = append_assoc (head_text e) e.event.text rest

pub head_at : (e : Entry) (rest : List ℕ) → take 29 (entry_text e ++ rest) ≡ head_text e
head_at e rest = ap (take 29) (entry_parts e rest) ∙ take_at (head_text e) (e.event.text ++ rest) 29 (length-head_text e)

pub behind_head : (e : Entry) (rest : List ℕ) → drop 29 (entry_text e ++ rest) ≡ e.event.text ++ rest
behind_head e rest = ap (drop 29) (entry_parts e rest) ∙ drop_at (head_text e) (e.event.text ++ rest) 29 (length-head_text e)

pub text_at : (e : Entry) (rest : List ℕ) → take (length e.event.text) (drop 29 (entry_text e ++ rest)) ≡ e.event.text
text_at e rest = ap (take (length e.event.text)) (behind_head e rest) ∙ take_at e.event.text rest (length e.event.text) refl

pub origin_at : (e : Entry) (rest : List ℕ) → get_or (entry_text e ++ rest) 0 0 ≡ origin_code e.event.origin
unfolding head_text entry_text
origin_at e rest = refl

pub conn_at : (e : Entry) (rest : List ℕ) → take 8 (drop 1 (entry_text e ++ rest)) ≡ to_be_bytes w64 e.conn
unfolding head_text entry_text
conn_at e rest = refl

pub index_at : (e : Entry) (rest : List ℕ) → take 8 (drop 9 (entry_text e ++ rest)) ≡ to_be_bytes w64 e.index
unfolding head_text entry_text
index_at e rest = refl

pub unit_at : (e : Entry) (rest : List ℕ) → take 8 (drop 17 (entry_text e ++ rest)) ≡ to_be_bytes w64 e.unit
unfolding head_text entry_text
unit_at e rest = refl

pub length_at : (e : Entry) (rest : List ℕ) → take 4 (drop 25 (entry_text e ++ rest)) ≡ to_be_bytes w32 (length e.event.text)
unfolding head_text entry_text
length_at e rest = refl

-- ---- the numbers that are read there

pub conn_read : (e : Entry) (rest : List ℕ) → e.conn < 2 ^ 64 → from_be_bytes w64 (take 8 (drop 1 (entry_text e ++ rest))) ≡ e.conn
conn_read e rest h = ap (from_be_bytes w64) (conn_at e rest) ∙ eight_back e.conn h

pub index_read : (e : Entry) (rest : List ℕ) → e.index < 2 ^ 64 → from_be_bytes w64 (take 8 (drop 9 (entry_text e ++ rest))) ≡ e.index
index_read e rest h = ap (from_be_bytes w64) (index_at e rest) ∙ eight_back e.index h

pub unit_read : (e : Entry) (rest : List ℕ) → e.unit < 2 ^ 64 → from_be_bytes w64 (take 8 (drop 17 (entry_text e ++ rest))) ≡ e.unit
unit_read e rest h = ap (from_be_bytes w64) (unit_at e rest) ∙ eight_back e.unit h

pub length_read : (e : Entry) (rest : List ℕ) → IsEvent e.event → from_be_bytes w32 (take 4 (drop 25 (entry_text e ++ rest))) ≡ length e.event.text
length_read e rest h = ap (from_be_bytes w32) (length_at e rest) ∙ four_back (length e.event.text) (omega (arith, h.short))
