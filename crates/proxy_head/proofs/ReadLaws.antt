-- Bytes are read in one way, and stay so read.
use Rattle.std.proofs.Common.{◌≡◌, ℕ, ◌+◌, ◌≤◌, List, ◌++◌, Result, Ok, Err, length, take, drop, inl, inr, refl, sym, ap, subst, arith, take_all, length-take-le}
use Rattle.std.proofs.lemmas.List.{take-append-le, take-append-drop}
use Rattle.std.proofs.lemmas.Bool.{cases_lt}
use Rattle.proxy_head.specs.declared.fault.HeadFault.{HeadFault}
use Rattle.proxy_head.specs.declared.head.Head.{Head}
use Rattle.proxy_head.specs.declared.head.Kind.{Kind}
use Rattle.proxy_head.specs.declared.head.Reading.{Reading}
use Rattle.proxy_head.specs.declared.head.Reading.TheVariants.{Whole, More}
use Rattle.proxy_head.specs.Line.{LineTells, LineFault, text_of}
use Rattle.proxy_head.specs.Block.{BlockTells}
use Rattle.proxy_head.specs.Head.{HasFrame, HasHead, IsBeginning, IsFault, IsReason, Reads}
use Rattle.proxy_head.specs.Laws.{LooksAtFew, OneReading, StaysRead}
use Rattle.proxy_head.proofs.Cuts.{not_both, line_cut, line_one, text_cut, block_cut, block_one, frame_few}
use Rattle.proxy_head.proofs.Beginnings.{frame_no_beginning, break_no_frame, break_no_beginning, break_one, break_cut, reason_one}
use Rattle.proxy_head.proofs.TellLaws.{tells_one, line_fault_one, tells_no_fault, block_tells_one, block_tells_cut}

-- a head is a line or a block
head_frame : (bytes : List ℕ) (head : Head) → HasHead bytes head → HasFrame bytes head.len
head_frame bytes head (inl h) = inl (h.0, h.1, h.2)
head_frame bytes head (inr h) = inr (h.0, h.1)

head_one : (bytes : List ℕ) (one other : Head) → HasHead bytes one → HasHead bytes other → one ≡ other
head_one bytes one other (inl h) (inl k) =
    let e : k.0 ≡ h.0 = line_one bytes k.0 h.0 k.1 h.1 in
    let P : ℕ → Type 0 = λ end. LineTells (text_of bytes end) other.source in
    let source = tells_one (text_of bytes h.0) one.source other.source h.3 (subst P e k.3) in
    let len : one.len ≡ other.len = omega (arith, e, h.2, k.2) in
    λ i. record { source = source i; len = len i }
head_one bytes one other (inl h) (inr k) = absurd (not_both bytes h.1.starts k.1.starts)
head_one bytes one other (inr h) (inl k) = absurd (not_both bytes k.1.starts h.1.starts)
head_one bytes one other (inr h) (inr k) =
    let e = block_one bytes k.0 h.0 other.len one.len k.1 h.1 in
    let P : Kind → Type 0 = λ kind. BlockTells kind bytes other.source in
    let source = block_tells_one h.0 bytes one.source other.source h.2 (subst P e.0 k.2) in
    let len : one.len ≡ other.len = sym e.1 in
    λ i. record { source = source i; len = len i }

head_no_fault : (bytes : List ℕ) (head : Head) (fault : HeadFault) → HasHead bytes head → IsFault bytes fault → ⊥
head_no_fault bytes head fault h (inl k) = break_no_frame bytes fault.at head.len k.0 (head_frame bytes head h)
head_no_fault bytes head fault (inl h) (inr k) =
    let e : k.0 ≡ h.0 = line_one bytes k.0 h.0 k.1 h.1 in
    let P : ℕ → Type 0 = λ end. LineFault (text_of bytes end) fault in
    tells_no_fault (text_of bytes h.0) head.source fault h.3 (subst P e k.2)
head_no_fault bytes head fault (inr h) (inr k) = not_both bytes k.1.starts h.1.starts

beginning_no_fault : (bytes : List ℕ) (fault : HeadFault) → IsBeginning bytes → IsFault bytes fault → ⊥
beginning_no_fault bytes fault h (inl k) = break_no_beginning bytes fault.at k.0 h
beginning_no_fault bytes fault h (inr k) = frame_no_beginning bytes (k.0 + 2) (inl (k.0, k.1, refl)) h

fault_one : (bytes : List ℕ) (one other : HeadFault) → IsFault bytes one → IsFault bytes other → one ≡ other
fault_one bytes one other (inl h) (inl k) =
    let at : other.at ≡ one.at = break_one bytes other.at one.at k.0 h.0 in
    let P : ℕ → Type 0 = λ n. IsReason (take n bytes) n other.why in
    let why : one.why ≡ other.why = reason_one (take one.at bytes) one.at one.why other.why h.1 (subst P at k.1) in
    let place : one.at ≡ other.at = sym at in
    λ i. record { at = place i; why = why i }
fault_one bytes one other (inl h) (inr k) = absurd (break_no_frame bytes one.at (k.0 + 2) h.0 (inl (k.0, k.1, refl)))
fault_one bytes one other (inr h) (inl k) = absurd (break_no_frame bytes other.at (h.0 + 2) k.0 (inl (h.0, h.1, refl)))
fault_one bytes one other (inr h) (inr k) =
    let e : k.0 ≡ h.0 = line_one bytes k.0 h.0 k.1 h.1 in
    let P : ℕ → Type 0 = λ end. LineFault (text_of bytes end) other in
    line_fault_one (text_of bytes h.0) one other h.2 (subst P e k.2)

pub one_reading : OneReading
one_reading bytes (Ok (Whole x)) (Ok (Whole y)) h k = ap (λ z. Ok (Whole z)) (head_one bytes x y h k)
one_reading bytes (Ok (Whole x)) (Ok More) h k = absurd (frame_no_beginning bytes x.len (head_frame bytes x h) k)
one_reading bytes (Ok (Whole x)) (Err f) h k = absurd (head_no_fault bytes x f h k)
one_reading bytes (Ok More) (Ok (Whole y)) h k = absurd (frame_no_beginning bytes y.len (head_frame bytes y k) h)
one_reading bytes (Ok More) (Ok More) h k = refl
one_reading bytes (Ok More) (Err f) h k = absurd (beginning_no_fault bytes f h k)
one_reading bytes (Err e) (Ok (Whole y)) h k = absurd (head_no_fault bytes y e k h)
one_reading bytes (Err e) (Ok More) h k = absurd (beginning_no_fault bytes e k h)
one_reading bytes (Err e) (Err f) h k = ap Err (fault_one bytes e f h k)

head_cut : (bytes more : List ℕ) (head : Head) → HasHead bytes head → HasHead (bytes ++ more) head
head_cut bytes more head (inl h) =
    let P : List ℕ → Type 0 = λ text. LineTells text head.source in
    inl (h.0, line_cut bytes more h.0 h.1, h.2, subst P (sym (text_cut bytes more h.0 h.1)) h.3)
head_cut bytes more head (inr h) = inr (h.0, block_cut bytes more h.0 head.len h.1, block_tells_cut h.0 bytes more head.len head.source h.1 h.2)

fault_cut : (bytes more : List ℕ) (fault : HeadFault) → IsFault bytes fault → IsFault (bytes ++ more) fault
fault_cut bytes more fault (inl h) =
    let P : List ℕ → Type 0 = λ before. IsReason before fault.at fault.why in
    let e = take-append-le fault.at bytes more (omega (arith, h.0.inside)) in
    inl (break_cut bytes more fault.at h.0, subst P (sym e) h.1)
fault_cut bytes more fault (inr h) =
    let P : List ℕ → Type 0 = λ text. LineFault text fault in
    inr (h.0, line_cut bytes more h.0 h.1, subst P (sym (text_cut bytes more h.0 h.1)) h.2)

pub stays_read : StaysRead
stays_read bytes more (Ok (Whole head)) other h = head_cut bytes more head h
stays_read bytes more (Ok More) other h = absurd (other refl)
stays_read bytes more (Err fault) other h = fault_cut bytes more fault h

-- so many bytes are never too few
enough : (bytes : List ℕ) → 4111 ≤ length bytes → IsBeginning (take 4111 bytes) → ⊥
enough bytes many h =
    let n : length (take 4111 bytes) ≡ 4111 = length-take-le 4111 bytes many in
    omega (arith, n, h.longer, frame_few (take 4111 bytes ++ h.more) h.len h.frame)

-- what the first bytes decide where there are more
decided : (bytes : List ℕ) (one : Result Reading HeadFault) → 4111 ≤ length bytes → Reads (take 4111 bytes) one → Reads bytes one
decided bytes (Ok More) many h = absurd (enough bytes many h)
decided bytes (Ok (Whole head)) many h =
    let P : List ℕ → Type 0 = λ xs. HasHead xs head in
    subst P (take-append-drop 4111 bytes) (head_cut (take 4111 bytes) (drop 4111 bytes) head h)
decided bytes (Err fault) many h =
    let P : List ℕ → Type 0 = λ xs. IsFault xs fault in
    subst P (take-append-drop 4111 bytes) (fault_cut (take 4111 bytes) (drop 4111 bytes) fault h)

pub looks_at_few : LooksAtFew
looks_at_few bytes one h = elim (cases_lt (length bytes) 4111) [
  | inl l ↦ let P : List ℕ → Type 0 = λ xs. Reads xs one in subst P (take_all 4111 bytes (omega (arith, l))) h
  | inr m ↦ decided bytes one m h
]
