-- Bytes that more could make begin with a line or a block, and those that none can.
use Rattle.std.proofs.Common.{◌≡◌, ℕ, ◌+◌, ◌<◌, ◌≤◌, ◌∙◌, List, ◌++◌, length, take, drop, inl, inr, sym, subst, arith, append_assoc, length-append}
use Rattle.std.proofs.lemmas.List.{take-append-le, take-append-drop, take-take}
use Rattle.std.proofs.lemmas.Bool.{cases_lt}
use Rattle.proxy_head.specs.declared.fault.HeadWhy.{HeadWhy}
use Rattle.proxy_head.specs.Head.{HasFrame, IsBeginning, BeginsNothing, BreaksAt, IsReason}
use Rattle.proxy_head.proofs.Cuts.{frame_cut, frame_one, frame_fits}

-- a front of a beginning is one
pub begins_front : (bytes rest : List ℕ) → IsBeginning (bytes ++ rest) → IsBeginning bytes
begins_front bytes rest h =
    let P : List ℕ → Type 0 = λ xs. HasFrame xs h.len in
    record {
      more = rest ++ h.more;
      len = h.len;
      frame = subst P (append_assoc bytes rest h.more) h.frame;
      longer = omega (arith, h.longer, length-append bytes rest);
    }

pub begins_take : (bytes : List ℕ) (n : ℕ) → IsBeginning bytes → IsBeginning (take n bytes)
begins_take bytes n h = begins_front (take n bytes) (drop n bytes) (subst IsBeginning (sym (take-append-drop n bytes)) h)

-- what agrees with a sign from the front on
pub sign_begins : (bytes sign : List ℕ) (n : ℕ) → take n bytes ≡ take n sign → IsBeginning sign → IsBeginning (take n bytes)
sign_begins bytes sign n same h = subst IsBeginning (sym same) (begins_take sign n h)

pub frame_no_beginning : (bytes : List ℕ) (len : ℕ) → HasFrame bytes len → IsBeginning bytes → ⊥
frame_no_beginning bytes len f h =
    let e : len ≡ h.len = frame_one (bytes ++ h.more) len h.len (frame_cut bytes h.more len f) h.frame in
    omega (arith, e, h.longer, frame_fits bytes len f)

pub break_no_frame : (bytes : List ℕ) (at len : ℕ) → BreaksAt bytes at → HasFrame bytes len → ⊥
break_no_frame bytes at len h f =
    let P : List ℕ → Type 0 = λ xs. HasFrame xs len in
    h.broken (drop (at + 1) bytes) len (subst P (sym (take-append-drop (at + 1) bytes)) f)

pub break_no_beginning : (bytes : List ℕ) (at : ℕ) → BreaksAt bytes at → IsBeginning bytes → ⊥
break_no_beginning bytes at h g =
    let k = begins_take bytes (at + 1) g in
    h.broken k.more k.len k.frame

break_before : (bytes : List ℕ) (i j : ℕ) → BreaksAt bytes i → BreaksAt bytes j → i < j → ⊥
break_before bytes i j h k l =
    let m : i + 1 ≤ j = omega (arith, l) in
    let g : IsBeginning (take (i + 1) bytes) = subst IsBeginning (take-take (i + 1) j bytes m) (begins_take (take j bytes) (i + 1) k.before) in
    h.broken g.more g.len g.frame

pub break_one : (bytes : List ℕ) (i j : ℕ) → BreaksAt bytes i → BreaksAt bytes j → i ≡ j
break_one bytes i j h k = elim (cases_lt i j) [
  | inl l ↦ absurd (break_before bytes i j h k l)
  | inr m ↦ elim (cases_lt j i) [ inl l ↦ absurd (break_before bytes j i k h l) | inr n ↦ omega (arith, m, n) ]
]

pub break_cut : (bytes more : List ℕ) (at : ℕ) → BreaksAt bytes at → BreaksAt (bytes ++ more) at
break_cut bytes more at h =
    let l : at + 1 ≤ length bytes = omega (arith, h.inside) in
    record {
      inside = omega (arith, h.inside, length-append bytes more);
      before = subst IsBeginning (sym (take-append-le at bytes more (omega (arith, l)))) h.before;
      broken = subst BeginsNothing (sym (take-append-le (at + 1) bytes more l)) h.broken;
    }

pub reason_one : (before : List ℕ) (at : ℕ) (one other : HeadWhy) → IsReason before at one → IsReason before at other → one ≡ other
reason_one before at one other (inl h) (inl k) = h.1 ∙ sym k.1
reason_one before at one other (inl h) (inr k) = absurd (k.0 h.0)
reason_one before at one other (inr h) (inl k) = absurd (h.0 k.0)
reason_one before at one other (inr h) (inr k) = h.1 ∙ sym k.1
