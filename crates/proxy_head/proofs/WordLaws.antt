-- Words of a line: where one ends, and the number that digits write.
use Rattle.std.proofs.Common.{◌≡◌, ℕ, ◌+◌, ◌-◌, ◌*◌, ◌<◌, ◌≤◌, ◌∙◌, List, [], true, false, take, drop, length, get_or, inr, sym, ap, subst, arith, take_all}
use Rattle.std.proofs.lemmas.List.{drop_all}
use Rattle.std.proofs.lemmas.List.Sums.{position_or_len_is}
use Rattle.std.proofs.lemmas.Str.{digit_value_digit}
use Rattle.std.proofs.lemmas.Str.Parse.{digit_at, digits_value-take-le}
use Rattle.std.proofs.lemmas.Int.Digits.{digits_more, digits_value_more}
use Rattle.std.specs.Char.{digit_value}
use Rattle.std.specs.Int.{IsInRange}
use Rattle.std.specs.Str.Parse.{AllDigits, digits_value}
use Rattle.proxy_head.specs.declared.fault.HeadFault.{HeadFault}
use Rattle.proxy_head.specs.declared.head.Family.{Family}
use Rattle.proxy_head.specs.Line.{first_word, more_words, name_of, is_space, IsNumberUpTo, AddressFault, LineFault}

-- a space with none before it
pub word_before : (text : List ℕ) (at : ℕ) → at ≤ length text → ((k : ℕ) → k < at → is_space (get_or text k 0) ≡ false) → (at < length text → is_space (get_or text at 0) ≡ true) → (take at text ≡ first_word text) × (drop (at + 1) text ≡ more_words text)
unfolding first_word more_words
word_before text at l none here =
    let found = sym (position_or_len_is is_space text at 0 l none here) in
    (ap (λ (n : ℕ). take n text) found, ap (λ (n : ℕ). drop (n + 1) text) found)

-- no space at all
pub one_word : (text : List ℕ) → ((k : ℕ) → k < length text → is_space (get_or text k 0) ≡ false) → (text ≡ first_word text) × ([] ≡ more_words text)
one_word text none =
    let w = word_before text (length text) (omega arith) none (λ l. absurd (omega (arith, l))) in
    (sym (take_all (length text) text (omega arith)) ∙ w.0, sym (drop_all (length text + 1) text (omega arith)) ∙ w.1)

-- a text with a byte that is no digit
pub no_digit : (text : List ℕ) (i : ℕ) → i < length text → (IsInRange 48 57 (get_or text i 0) → ⊥) → (n : ℕ) → IsNumberUpTo text n → ⊥
no_digit text i l other n h = other (digit_at text i h.number.0.1 l)

next_is : (value next before after digit byte : ℕ) → value ≡ before → next ≡ value * 10 + (byte - 48) → after ≡ before * 10 + digit → digit + 48 ≡ byte → next ≡ after
next_is value next before after digit byte is step more d = omega (arith, is, step, more, d)

is_small : (digit byte : ℕ) → digit + 48 ≡ byte → byte ≤ 57 → digit < 10
is_small digit byte d l = omega (arith, d, l)

-- one more digit
pub one_more : (text : List ℕ) (i value next : ℕ) → i < length text → IsInRange 48 57 (get_or text i 0) → AllDigits 10 (take i text) → value ≡ digits_value 10 (take i text) → next ≡ value * 10 + (get_or text i 0 - 48) → (next ≡ digits_value 10 (take (i + 1) text)) × AllDigits 10 (take (i + 1) text)
one_more text i value next l digit all is step =
    let d : digit_value (get_or text i 0) + 48 ≡ get_or text i 0 = digit_value_digit (get_or text i 0) digit in (
      next_is value next (digits_value 10 (take i text)) (digits_value 10 (take (i + 1) text)) (digit_value (get_or text i 0)) (get_or text i 0) is step (digits_value_more 10 text i l) d,
      digits_more 10 text i l all (is_small (digit_value (get_or text i 0)) (get_or text i 0) d digit.1),
    )

is_over : (part whole n : ℕ) → 65535 < part → part ≤ whole → whole ≡ n → n ≤ 65535 → ⊥
is_over part whole n large part_of is fits = omega (arith, large, part_of, is, fits)

-- the first digits write too large a number
pub too_large : (text : List ℕ) (i value next : ℕ) → i < length text → IsInRange 48 57 (get_or text i 0) → AllDigits 10 (take i text) → value ≡ digits_value 10 (take i text) → next ≡ value * 10 + (get_or text i 0 - 48) → 65535 < next → (n : ℕ) → IsNumberUpTo text n → ⊥
too_large text i value next l digit all is step large n h =
    let more = (one_more text i value next l digit all is step).0 in
    is_over (digits_value 10 (take (i + 1) text)) (digits_value 10 text) n (subst (λ v. 65535 < v) more large) (digits_value-take-le 10 text (i + 1) (omega arith)) h.number.1 h.fits

-- what is wrong with the words after a family's name
pub fault_in_words : (text words : List ℕ) (family other : Family) (fault : HeadFault) → other ≡ family → words ≡ more_words text → first_word text ≡ name_of family → AddressFault other words fault → LineFault text fault
fault_in_words text words family other fault same rest name h =
    let P : Family → Type 0 = λ f. AddressFault f words fault in
    let Q : List ℕ → Type 0 = λ ws. AddressFault family ws fault in
    inr (family, name, subst Q rest (subst P same h))
