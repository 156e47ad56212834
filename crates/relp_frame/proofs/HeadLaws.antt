-- A head that is read at once is what the machine reads of it.
use Rattle.std.proofs.Common.{◌≡◌, ℕ, ◌+◌, ◌-◌, ◌*◌, ◌^◌, ◌<◌, ◌≤◌, ◌∙◌, true, List, [], ◌∷◌, ◌++◌, inl, inr, length, take, drop, get_or, refl, sym, ap, subst, add-one, length-take-le, arith, append_assoc, length-append, length-drop}
use Rattle.std.specs.Prelude.{slice_range}
use Rattle.std.specs.Char.{is_ascii_alphabetic, digit_value}
use Rattle.std.specs.Str.Parse.{digits_value, AllDigits}
use Rattle.std.proofs.lemmas.Bool.{ltb-true}
use Rattle.std.proofs.lemmas.Int.Digits.{digits_push}
use Rattle.std.proofs.lemmas.Str.Parse.{numerals_by_value, tells_digits, digits_value_short}
use Rattle.std.proofs.lemmas.List.{append-nil, take_at, drop_at}
use Rattle.std.proofs.Math.Nat.{pow-suc}
use Rattle.std.proofs.Math.Seq.{drop-cons}
use Rattle.relp_frame.specs.declared.limits.TheConstants.{MOST_DATA, MOST_DIGITS, MOST_LETTERS}
use Rattle.relp_frame.specs.declared.phase.Head.{Head}
use Rattle.relp_frame.specs.declared.phase.Phase.{Phase}
use Rattle.relp_frame.specs.declared.phase.Phase.TheVariants.{Txnr, Body}
use Rattle.stream_grammar.specs.Automaton.{Going, run}
use Rattle.relp_frame.specs.Spelling.{AllLetters, is_digit}
use Rattle.relp_frame.specs.Head.{DigitsTo, NumberAt, LettersTo, CommandAt, HeadAt, Begun}
use Rattle.relp_frame.specs.Machine.{State, step, start}
use Rattle.relp_frame.specs.Machine as m
use Rattle.relp_frame.specs.Places.{Fits, state_of}
use Rattle.relp_frame.specs.Running.{RunsTo}
use Rattle.relp_frame.proofs.ReasonLaws.{letters_push, value_push}
use Rattle.relp_frame.proofs.RunLaws.{onward, both, run_txnr, txnr_space, run_letters, command_space, run_length, length_space}
use Rattle.foundation.proofs.Joined.{join_more}
use Rattle.stream_grammar.proofs.Windows.{two_parts, part_whole}

-- what stands at a place, in front of the rest
at_place : (bytes : List ℕ) (from i : ℕ) → from ≤ i → i < length bytes → drop from bytes ≡ slice_range bytes from i ++ get_or bytes i 0 ∷ drop (i + 1) bytes
at_place bytes from i o l = two_parts bytes from i o ∙ ap (λ v. slice_range bytes from i ++ v) (rw add-one (drop-cons bytes i 0 l))

-- one byte more
slice_push : (bytes : List ℕ) (from i : ℕ) → from ≤ i → i < length bytes → slice_range bytes from (i + 1) ≡ slice_range bytes from i ++ get_or bytes i 0 ∷ []
slice_push bytes from i o l =
    let s = slice_range bytes from i in
    let c = get_or bytes i 0 in
    let e : drop from bytes ≡ (s ++ c ∷ []) ++ drop (i + 1) bytes = at_place bytes from i o l ∙ sym (append_assoc s (c ∷ []) (drop (i + 1) bytes)) in
    ap (take (i + 1 - from)) e ∙ take_at (s ++ c ∷ []) (drop (i + 1) bytes) (i + 1 - from) (omega (arith, length-append s (c ∷ []), part_whole bytes from i o (omega arith)))

pub digits_on : (bytes : List ℕ) (from i value digit : ℕ) → DigitsTo bytes from i value → i < length bytes → i - from < MOST_DIGITS → is_digit (get_or bytes i 0) ≡ true → digit ≡ digit_value (get_or bytes i 0) → digit < 10 → DigitsTo bytes from (i + 1) (value * 10 + digit)
digits_on bytes from i value digit d l few is v small =
    let s = slice_push bytes from i d.order l in
    let c = get_or bytes i 0 in
    let k = i - from in
    let n : i + 1 - from ≡ k + 1 = omega (arith, d.order) in
    let p : 10 ^ (k + 1) ≡ 10 ^ k * 10 = rw add-one (pow-suc 10 k) in
    let q : value * 10 + digit < 10 ^ (k + 1) = omega (arith, p, d.small, small) in
    record {
      order = omega (arith, d.order);
      inside = omega arith;
      digits = subst (AllDigits 10) (sym s) (digits_push 10 (slice_range bytes from i) c d.digits (ltb-true (digit_value c) 10 is));
      few = omega (arith, few, d.order);
      small = subst (λ j. value * 10 + digit < 10 ^ j) (sym n) q;
      value_is = ap (digits_value 10) s ∙ value_push (slice_range bytes from i) c value d.value_is ∙ ap (λ n. value * 10 + n) (sym v);
    }

pub letters_on : (bytes : List ℕ) (from i : ℕ) → LettersTo bytes from i → i < length bytes → i - from < MOST_LETTERS → is_ascii_alphabetic (get_or bytes i 0) ≡ true → LettersTo bytes from (i + 1)
letters_on bytes from i d l few is = record {
  order = omega (arith, d.order);
  inside = omega arith;
  letters = subst AllLetters (sym (slice_push bytes from i d.order l)) (letters_push (slice_range bytes from i) (get_or bytes i 0) d.letters is);
  few = omega (arith, few, d.order);
}

-- what ends with a space, in front of the rest
at_space : (bytes : List ℕ) (from to : ℕ) → from ≤ to → to < length bytes → get_or bytes to 0 ≡ 32 → drop from bytes ≡ slice_range bytes from to ++ 32 ∷ drop (to + 1) bytes
at_space bytes from to o l s = at_place bytes from to o l ∙ ap (λ c. slice_range bytes from to ++ c ∷ drop (to + 1) bytes) s

pub head_at : (bytes : List ℕ) (txnr first to value last : ℕ) → NumberAt bytes 0 txnr first → CommandAt bytes (first + 1) to → NumberAt bytes (to + 1) value last → value ≤ MOST_DATA → HeadAt bytes (Body (record { txnr = txnr; from = first + 1; to = to }) (last + 1) value) (last + 1)
head_at bytes txnr first to value last a k b l =
    let head : Head = record { txnr = txnr; from = first + 1; to = to } in
    let x = slice_range bytes 0 first in
    let y = slice_range bytes (first + 1) to in
    let z = slice_range bytes (to + 1) last in
    let r = drop (last + 1) bytes in
    let nx : length x ≡ first = part_whole bytes 0 first a.text.order a.text.inside ∙ omega arith in
    let ny : length y ≡ to - (first + 1) = part_whole bytes (first + 1) to k.text.order k.text.inside in
    let nz : length z ≡ last - (to + 1) = part_whole bytes (to + 1) last b.text.order b.text.inside in
    let tail = z ++ 32 ∷ [] in
    let w = x ++ 32 ∷ (y ++ 32 ∷ tail) in
    let whole : bytes ≡ x ++ 32 ∷ (y ++ 32 ∷ (z ++ 32 ∷ r)) = at_space bytes 0 first a.text.order a.inside a.space ∙ ap (λ v. x ++ 32 ∷ v) (at_space bytes (first + 1) to k.text.order k.inside k.space ∙ ap (λ v. y ++ 32 ∷ v) (at_space bytes (to + 1) last b.text.order b.inside b.space)) in
    let parts : w ++ r ≡ x ++ 32 ∷ (y ++ 32 ∷ (z ++ 32 ∷ r)) = append_assoc x (32 ∷ (y ++ 32 ∷ tail)) r ∙ ap (λ v. x ++ 32 ∷ v) (append_assoc y (32 ∷ tail) r ∙ ap (λ v. y ++ 32 ∷ v) (append_assoc z (32 ∷ []) r)) in
    let nw : length w ≡ last + 1 = omega (arith, nx, ny, nz, k.text.order, b.text.order, length-append x (32 ∷ (y ++ 32 ∷ tail)), length-append y (32 ∷ tail), length-append z (32 ∷ [])) in
    let t : take (last + 1) bytes ≡ w = ap (take (last + 1)) (whole ∙ sym parts) ∙ take_at w r (last + 1) nw in
    let vx : digits_value 10 x ≡ txnr = a.text.value_is in
    let vz : digits_value 10 z ≡ value = b.text.value_is in
    let own = numerals_by_value (AllDigits 10) tells_digits in
    let short = digits_value_short own x MOST_DIGITS a.text.digits (omega (arith, nx, a.text.few)) in
    let rz : run step (m.InLength txnr y 0 0) tail ≡ Going (m.InBody txnr y value []) =
    both (m.InLength txnr y 0 0) (m.InLength txnr y (length z) value) (m.InBody txnr y value []) z (32 ∷ [])
    (run_length txnr y 0 0 z b.text.digits (omega (arith, nz, b.text.few)) (omega (arith, vz, l)) ∙ ap (λ j. Going (m.InLength txnr y j (digits_value 10 z))) (omega arith) ∙ ap (λ j. Going (m.InLength txnr y (length z) j)) vz)
    (onward (m.InLength txnr y (length z) value) (m.InBody txnr y value []) (m.InBody txnr y value []) 32 [] (length_space txnr y (length z) value (omega (arith, nz, b.some))) refl) in
    let ry : run step (m.InCommand txnr []) (y ++ 32 ∷ tail) ≡ Going (m.InBody txnr y value []) =
    both (m.InCommand txnr []) (m.InCommand txnr y) (m.InBody txnr y value []) y (32 ∷ tail)
    (run_letters txnr [] y k.text.letters (omega (arith, ny, k.text.few)))
    (onward (m.InCommand txnr y) (m.InLength txnr y 0 0) (m.InBody txnr y value []) 32 tail (command_space txnr y (omega (arith, ny, k.some))) rz) in
    let rx : run step start w ≡ Going (m.InBody txnr y value []) =
    both start (m.InTxnr (length x) txnr) (m.InBody txnr y value []) x (32 ∷ (y ++ 32 ∷ tail))
    (run_txnr 0 0 x a.text.digits (omega (arith, nx, a.text.few)) ∙ ap (λ j. Going (m.InTxnr j (digits_value 10 x))) (omega arith) ∙ ap (λ j. Going (m.InTxnr (length x) j)) vx)
    (onward (m.InTxnr (length x) txnr) (m.InCommand txnr []) (m.InBody txnr y value []) 32 (y ++ 32 ∷ tail) (txnr_space (length x) txnr (omega (arith, nx, a.some))) ry) in
    let front : w ≡ (x ++ 32 ∷ []) ++ (y ++ 32 ∷ tail) = sym (append_assoc x (32 ∷ []) (y ++ 32 ∷ tail)) in
    let cut : drop (first + 1) w ≡ y ++ 32 ∷ tail = ap (drop (first + 1)) front ∙ drop_at (x ++ 32 ∷ []) (y ++ 32 ∷ tail) (first + 1) (omega (arith, nx, length-append x (32 ∷ []))) in
    let command : slice_range w (first + 1) to ≡ y = ap (take (to - (first + 1))) cut ∙ take_at y (32 ∷ tail) (to - (first + 1)) ny in
    let none : drop (last + 1) w ≡ [] = ap (drop (last + 1)) (sym (append-nil w)) ∙ drop_at w [] (last + 1) nw in
    let state : Going (m.InBody txnr y value []) ≡ Going (state_of (Body head (last + 1) value) w) = ap (λ v. Going (m.InBody txnr v value [])) (sym command) ∙ ap (λ v. Going (m.InBody txnr (slice_range w (first + 1) to) value v)) (sym none) in
    record {
      inside = omega (arith, b.inside);
      fits = (record { first = omega (arith, a.text.few); order = omega (arith, k.some); few = omega (arith, k.text.few); txnr = omega (arith, short, vx) }, omega (arith, b.some), omega (arith, b.text.few), omega arith, omega (arith, l));
      runs = subst (λ v. run step start v ≡ Going (state_of (Body head (last + 1) value) v)) (sym t) (rx ∙ state);
    }

-- a run that begins with it
pub runs_begun : (held piece : List ℕ) (from : ℕ) (phase : Phase) (begin : ℕ) (now : Phase) (n : ℕ) → begin ≤ length held + from → from ≤ length piece → Fits phase (length held + from - begin) → Begun phase (drop from piece) now n → RunsTo held piece from phase begin (from + n) now
runs_begun held piece from phase begin now n order inside fits (inl b) =
    let e : from ≡ from + n = omega (arith, b.1) in
    subst (λ k. RunsTo held piece from phase begin k now) e (subst (λ p. RunsTo held piece from phase begin from p) (sym b.0) (record { onward = omega arith; within = inside; fits = fits; scan = λ frames s. s }))
runs_begun held piece from phase begin now n order inside fits (inr b) =
    let f : Fits (Txnr 0 b.0) (length held + from - begin) = subst (λ p. Fits p (length held + from - begin)) b.1 fits in
    let h = b.2 in
    let xs = take n (drop from piece) in
    let k : length xs ≡ n = length-take-le n (drop from piece) h.inside in
    let z : 0 ≡ length held + from - begin = f.0 in
    record {
      onward = omega arith;
      within = omega (arith, h.inside, length-drop from piece);
      fits = subst (Fits now) (omega (arith, z)) h.fits;
      scan = λ frames s.
          let none : s.rest ≡ [] = empty s.rest (omega (arith, s.count, z)) in
          let r : s.rest ++ xs ≡ xs = ap (λ v. v ++ xs) none in
          record {
            within = omega (arith, h.inside, length-drop from piece);
            spelt = s.spelt;
            rest = s.rest ++ xs;
            spelled = s.spelled;
            limits = s.limits;
            ends = s.ends;
            joined = join_more held piece s.spelt s.rest xs from n s.joined refl;
            count = omega (arith, s.count, k, length-append s.rest xs);
            fits = subst (Fits now) (sym (ap length r ∙ k)) h.fits;
            runs = subst (λ v. run step start v ≡ Going (state_of now v)) (sym r) h.runs;
          };
    }
  where
    empty : (h : List ℕ) → length h ≡ 0 → h ≡ []
    empty [] p = refl
    empty (c ∷ h) p = absurd (omega (arith, p))
