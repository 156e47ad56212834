-- What bytes begin with, they begin with whatever follows.
use Rattle.std.proofs.Common.{◌≡◌, ℕ, ◌+◌, ◌-◌, ◌<◌, ◌≤◌, ◌∙◌, List, ◌++◌, Some, length, take, drop, get_or, inl, inr, sym, ap, subst, arith, length-append, length-take-le}
use Rattle.std.proofs.lemmas.List.{length-take, length-drop, get_or_append_left, get_or-take, take-append-le, drop-append-le, take-append-drop, take-take}
use Rattle.std.proofs.lemmas.Bool.{cases_lt}
use Rattle.std.specs.Net.Addr.{HasPrefix}
use Rattle.proxy_head.specs.declared.limits.TheConstants.{LINE, SIGNATURE}
use Rattle.proxy_head.specs.declared.head.Kind.{Kind}
use Rattle.proxy_head.specs.Line.{EndsAt, HasLine, text_of}
use Rattle.proxy_head.specs.Block.{HasBlock, kind_of, number_at}
use Rattle.proxy_head.specs.Head.{HasFrame}

-- a byte of the first ones, whatever stands after them
pub cut_index : (bytes more : List ℕ) (n i : ℕ) → i < n → n ≤ length bytes → get_or (take n bytes ++ more) i 0 ≡ get_or bytes i 0
cut_index bytes more n i l m =
    let e : length (take n bytes) ≡ n = length-take-le n bytes m in
    get_or_append_left (take n bytes) more 0 i (omega (arith, e, l)) ∙ get_or-take n bytes i 0 l

pub prefix_long : (bytes sign : List ℕ) → HasPrefix bytes sign → length sign ≤ length bytes
prefix_long bytes sign h =
    let e : length (take (length sign) bytes) ≡ length sign = ap length h in
    omega (arith, e, length-take (length sign) bytes)

pub prefix_cut : (bytes more sign : List ℕ) → HasPrefix bytes sign → HasPrefix (bytes ++ more) sign
prefix_cut bytes more sign h = take-append-le (length sign) bytes more (prefix_long bytes sign h) ∙ h

pub prefix_take : (bytes sign : List ℕ) (n : ℕ) → length sign ≤ n → HasPrefix bytes sign → HasPrefix (take n bytes) sign
prefix_take bytes sign n l h = take-take (length sign) n bytes l ∙ h

pub prefix_untake : (bytes sign : List ℕ) (n : ℕ) → HasPrefix (take n bytes) sign → HasPrefix bytes sign
prefix_untake bytes sign n h =
    let P : List ℕ → Type 0 = λ xs. HasPrefix xs sign in
    subst P (take-append-drop n bytes) (prefix_cut (take n bytes) (drop n bytes) sign h)

pub prefix_index : (bytes sign : List ℕ) (i : ℕ) → HasPrefix bytes sign → i < length sign → get_or bytes i 0 ≡ get_or sign i 0
prefix_index bytes sign i h l = sym (get_or-take (length sign) bytes i 0 l) ∙ ap (λ (xs : List ℕ). get_or xs i 0) h

-- No bytes begin as a line and as a block.
pub not_both : (bytes : List ℕ) → HasPrefix bytes LINE → HasPrefix bytes SIGNATURE → ⊥
not_both bytes line block =
    let p : get_or bytes 0 0 ≡ 80 = prefix_index bytes LINE 0 line (omega arith) in
    let b : get_or bytes 0 0 ≡ 13 = prefix_index bytes SIGNATURE 0 block (omega arith) in
    omega (arith, p, b)

ends_cut : (bytes more : List ℕ) (at : ℕ) → EndsAt bytes at → EndsAt (bytes ++ more) at
ends_cut bytes more at h = record {
  inside = omega (arith, length-append bytes more, h.inside);
  cr = get_or_append_left bytes more 0 at (omega (arith, h.inside)) ∙ h.cr;
  lf = get_or_append_left bytes more 0 (at + 1) h.inside ∙ h.lf;
}

pub ends_uncut : (bytes more : List ℕ) (at : ℕ) → at + 1 < length bytes → EndsAt (bytes ++ more) at → EndsAt bytes at
ends_uncut bytes more at l h = record {
  inside = l;
  cr = sym (get_or_append_left bytes more 0 at (omega (arith, l))) ∙ h.cr;
  lf = sym (get_or_append_left bytes more 0 (at + 1) l) ∙ h.lf;
}

-- an end among the first bytes
pub ends_untake : (bytes : List ℕ) (n at : ℕ) → n ≤ length bytes → EndsAt (take n bytes) at → (at + 1 < n) × EndsAt bytes at
ends_untake bytes n at m h =
    let e : length (take n bytes) ≡ n = length-take-le n bytes m in
    let l : at + 1 < n = omega (arith, e, h.inside) in (
      l,
      record {
        inside = omega (arith, l, m);
        cr = sym (get_or-take n bytes at 0 (omega (arith, l))) ∙ h.cr;
        lf = sym (get_or-take n bytes (at + 1) 0 l) ∙ h.lf;
      },
    )

pub line_cut : (bytes more : List ℕ) (end : ℕ) → HasLine bytes end → HasLine (bytes ++ more) end
line_cut bytes more end h = record {
  starts = prefix_cut bytes more LINE h.starts;
  ends = ends_cut bytes more end h.ends;
  first = λ at e. elim (cases_lt at end) [ inl l ↦ h.first at (ends_uncut bytes more at (omega (arith, l, h.ends.inside)) e) | inr m ↦ m ];
  short = h.short;
}

pub line_one : (bytes : List ℕ) (i j : ℕ) → HasLine bytes i → HasLine bytes j → i ≡ j
line_one bytes i j h k =
    let a : i ≤ j = h.first j k.ends in
    let b : j ≤ i = k.first i h.ends in
    omega (arith, a, b)

pub text_cut : (bytes more : List ℕ) (end : ℕ) → HasLine bytes end → text_of (bytes ++ more) end ≡ text_of bytes end
text_cut bytes more end h =
    let six : 6 ≤ length bytes = prefix_long bytes LINE h.starts in
    ap (take (end - 6)) (drop-append-le 6 bytes more six) ∙ take-append-le (end - 6) (drop 6 bytes) more (omega (arith, length-drop 6 bytes, h.ends.inside))

pub block_long : (bytes : List ℕ) (kind : Kind) (len : ℕ) → HasBlock bytes kind len → 16 ≤ length bytes
block_long bytes kind len h = omega (arith, h.len_is, h.inside)

pub number_cut : (bytes more : List ℕ) (at : ℕ) → at + 1 < length bytes → number_at (bytes ++ more) at ≡ number_at bytes at
number_cut bytes more at l =
    let a : get_or (bytes ++ more) at 0 ≡ get_or bytes at 0 = get_or_append_left bytes more 0 at (omega (arith, l)) in
    let b : get_or (bytes ++ more) (at + 1) 0 ≡ get_or bytes (at + 1) 0 = get_or_append_left bytes more 0 (at + 1) l in
    omega (arith, a, b)

pub block_cut : (bytes more : List ℕ) (kind : Kind) (len : ℕ) → HasBlock bytes kind len → HasBlock (bytes ++ more) kind len
block_cut bytes more kind len h =
    let long = block_long bytes kind len h in
    let n : number_at (bytes ++ more) 14 ≡ number_at bytes 14 = number_cut bytes more 14 (omega (arith, long)) in
    let c : get_or (bytes ++ more) 12 0 ≡ get_or bytes 12 0 = get_or_append_left bytes more 0 12 (omega (arith, long)) in
    let f : get_or (bytes ++ more) 13 0 ≡ get_or bytes 13 0 = get_or_append_left bytes more 0 13 (omega (arith, long)) in
    record {
      starts = prefix_cut bytes more SIGNATURE h.starts;
      kind_is = ap (λ (v : ℕ). kind_of v (get_or (bytes ++ more) 13 0)) c ∙ ap (λ (v : ℕ). kind_of (get_or bytes 12 0) v) f ∙ h.kind_is;
      room = omega (arith, n, h.room);
      few = omega (arith, n, h.few);
      len_is = omega (arith, n, h.len_is);
      inside = omega (arith, h.inside, length-append bytes more);
    }

pub block_one : (bytes : List ℕ) (kind other : Kind) (len n : ℕ) → HasBlock bytes kind len → HasBlock bytes other n → (kind ≡ other) × (len ≡ n)
block_one bytes kind other len n h k =
    let e : Some kind ≡ Some other = sym h.kind_is ∙ k.kind_is in
    let same : kind ≡ other = cc in
    (same, h.len_is ∙ sym k.len_is)

pub frame_cut : (bytes more : List ℕ) (len : ℕ) → HasFrame bytes len → HasFrame (bytes ++ more) len
frame_cut bytes more len (inl h) = inl (h.0, line_cut bytes more h.0 h.1, h.2)
frame_cut bytes more len (inr h) = inr (h.0, block_cut bytes more h.0 len h.1)

pub frame_one : (bytes : List ℕ) (m n : ℕ) → HasFrame bytes m → HasFrame bytes n → m ≡ n
frame_one bytes m n (inl h) (inl k) =
    let e : h.0 ≡ k.0 = line_one bytes h.0 k.0 h.1 k.1 in
    omega (arith, e, h.2, k.2)
frame_one bytes m n (inl h) (inr k) = absurd (not_both bytes h.1.starts k.1.starts)
frame_one bytes m n (inr h) (inl k) = absurd (not_both bytes k.1.starts h.1.starts)
frame_one bytes m n (inr h) (inr k) = (block_one bytes h.0 k.0 m n h.1 k.1).1

pub frame_fits : (bytes : List ℕ) (len : ℕ) → HasFrame bytes len → len ≤ length bytes
frame_fits bytes len (inl h) = omega (arith, h.2, h.1.ends.inside)
frame_fits bytes len (inr h) = h.1.inside

pub frame_few : (bytes : List ℕ) (len : ℕ) → HasFrame bytes len → len ≤ 4111
frame_few bytes len (inl h) = omega (arith, h.2, h.1.short)
frame_few bytes len (inr h) = omega (arith, h.1.len_is, h.1.few)
