-- Bytes that begin as a line does and have no end of one.
use Rattle.std.proofs.Common.{◌≡◌, ◌≢◌, ℕ, ◌+◌, ◌<◌, ◌≤◌, ◌∙◌, List, [], ◌∷◌, ◌++◌, length, take, get_or, inl, inr, refl, sym, subst, arith, length-append, length-take-le}
use Rattle.std.proofs.lemmas.List.{get_or_append_left, get_or-append-add, get_or_at, get_or-take}
use Rattle.std.proofs.lemmas.Bool.{cases_lt}
use Rattle.std.specs.Net.Addr.{HasPrefix}
use Rattle.proxy_head.specs.declared.limits.TheConstants.{LINE}
use Rattle.proxy_head.specs.declared.fault.HeadWhy.TheVariants.{TooLong}
use Rattle.proxy_head.specs.Line.{EndsAt, HasLine, NoEnd, fault_of}
use Rattle.proxy_head.specs.Head.{IsBeginning, BeginsNothing, BreaksAt, IsFault}
use Rattle.proxy_head.proofs.Cuts.{cut_index, prefix_index, prefix_cut, prefix_take, not_both, ends_uncut, ends_untake}

-- none of `PROXY` and a space is CR
letters : (i : ℕ) → i < 6 → get_or LINE i 0 ≡ 13 → ⊥
letters i l e =
    let P : ℕ → Type 0 = λ n. get_or LINE n 0 ≡ 13 → ⊥ in
    elim (cases_lt i 1) [
      | inl a ↦ let z : i ≡ 0 = omega (arith, a) in subst P (sym z) (λ (v : 80 ≡ 13). omega (arith, v)) e
      | inr a ↦ elim (cases_lt i 2) [
        | inl b ↦ let z : i ≡ 1 = omega (arith, a, b) in subst P (sym z) (λ (v : 82 ≡ 13). omega (arith, v)) e
        | inr b ↦ elim (cases_lt i 3) [
          | inl c ↦ let z : i ≡ 2 = omega (arith, b, c) in subst P (sym z) (λ (v : 79 ≡ 13). omega (arith, v)) e
          | inr c ↦ elim (cases_lt i 4) [
            | inl d ↦ let z : i ≡ 3 = omega (arith, c, d) in subst P (sym z) (λ (v : 88 ≡ 13). omega (arith, v)) e
            | inr d ↦ elim (cases_lt i 5) [
              | inl f ↦ let z : i ≡ 4 = omega (arith, d, f) in subst P (sym z) (λ (v : 89 ≡ 13). omega (arith, v)) e
              | inr f ↦ let z : i ≡ 5 = omega (arith, f, l) in subst P (sym z) (λ (v : 32 ≡ 13). omega (arith, v)) e
            ]
          ]
        ]
      ]
    ]

-- `PROXY` and a space have none
pub end_after : (bytes : List ℕ) (at : ℕ) → HasPrefix bytes LINE → EndsAt bytes at → 6 ≤ at
end_after bytes at h e = elim (cases_lt at 6) [
  | inl l ↦ absurd (letters at l (sym (prefix_index bytes LINE at h l) ∙ e.cr))
  | inr m ↦ m
]

-- CR and LF end a line that is short enough.
pub line_begins : (bytes : List ℕ) → HasPrefix bytes LINE → NoEnd bytes → length bytes ≤ 105 → IsBeginning bytes
line_begins bytes h none short =
    let more : List ℕ = 13 ∷ 10 ∷ [] in
    let n : length (bytes ++ more) ≡ length bytes + 2 = length-append bytes more in
    let cr : get_or (bytes ++ more) (length bytes) 0 ≡ 13 = get_or_at bytes 13 (10 ∷ []) 0 (length bytes) refl in
    let lf : get_or (bytes ++ more) (length bytes + 1) 0 ≡ 10 = get_or-append-add bytes more 1 0 in
    let first : (at : ℕ) → EndsAt (bytes ++ more) at → length bytes ≤ at = λ at e. elim (cases_lt at (length bytes)) [
      | inl l ↦ elim (cases_lt (at + 1) (length bytes)) [
        | inl m ↦ absurd (none.none at (omega (arith, l, short)) (ends_uncut bytes more at m e))
        | inr m ↦
            let j : at + 1 ≡ length bytes = omega (arith, l, m) in
            let P : ℕ → Type 0 = λ i. get_or (bytes ++ more) i 0 ≡ 10 in
            let k : get_or (bytes ++ more) (length bytes) 0 ≡ 10 = subst P j e.lf in
            omega (arith, cr, k)
      ]
      | inr m ↦ m
    ] in
    let ends : EndsAt (bytes ++ more) (length bytes) = record { inside = omega (arith, n); cr = cr; lf = lf } in
    let line : HasLine (bytes ++ more) (length bytes) = record { starts = prefix_cut bytes more LINE h; ends = ends; first = first; short = short } in
    record { more = more; len = length bytes + 2; frame = inl (length bytes, line, refl); longer = omega arith }

-- LF ends the longest one after its CR.
pub line_begins_cr : (bytes : List ℕ) → HasPrefix bytes LINE → NoEnd bytes → length bytes ≡ 106 → get_or bytes 105 0 ≡ 13 → IsBeginning bytes
line_begins_cr bytes h none len cr =
    let more : List ℕ = 10 ∷ [] in
    let n : length (bytes ++ more) ≡ length bytes + 1 = length-append bytes more in
    let lf : get_or (bytes ++ more) 106 0 ≡ 10 = get_or_at bytes 10 [] 0 106 len in
    let first : (at : ℕ) → EndsAt (bytes ++ more) at → 105 ≤ at = λ at e. elim (cases_lt at 105) [
      | inl l ↦ absurd (none.none at (omega (arith, l)) (ends_uncut bytes more at (omega (arith, l, len)) e))
      | inr m ↦ m
    ] in
    let ends : EndsAt (bytes ++ more) 105 = record { inside = omega (arith, n, len); cr = get_or_append_left bytes more 0 105 (omega (arith, len)) ∙ cr; lf = lf } in
    let line : HasLine (bytes ++ more) 105 = record { starts = prefix_cut bytes more LINE h; ends = ends; first = first; short = omega arith } in
    record { more = more; len = 107; frame = inl (105, line, refl); longer = omega (arith, len) }

none_take : (bytes : List ℕ) (n : ℕ) → n ≤ length bytes → NoEnd bytes → NoEnd (take n bytes)
none_take bytes n m h = record { none = λ at l e. h.none at l (ends_untake bytes n at m e).1 }

-- no block follows, and no line whose end doesn't
line_none : (bytes : List ℕ) (n : ℕ) → 6 ≤ n → n ≤ length bytes → HasPrefix bytes LINE → ((more : List ℕ) (end : ℕ) → end ≤ 105 → EndsAt (take n bytes ++ more) end → ⊥) → BeginsNothing (take n bytes)
line_none bytes n six m h never more len f =
    let starts = prefix_cut (take n bytes) more LINE (prefix_take bytes LINE n six h) in
    elim f [ inl p ↦ never more p.0 p.1.short p.1.ends | inr p ↦ not_both (take n bytes ++ more) starts p.1.starts ]

too_long : (bytes : List ℕ) (at : ℕ) → 6 ≤ at → HasPrefix bytes LINE → BreaksAt bytes at → IsFault bytes (fault_of at TooLong)
too_long bytes at six h b = inl (b, inl (prefix_take bytes LINE at six h, refl))

-- the last byte that may be a CR is none
pub no_cr_in_time : (bytes : List ℕ) → HasPrefix bytes LINE → NoEnd bytes → 105 < length bytes → get_or bytes 105 0 ≢ 13 → IsFault bytes (fault_of 105 TooLong)
no_cr_in_time bytes h none long other =
    let m : 106 ≤ length bytes = omega (arith, long) in
    let before = line_begins (take 105 bytes) (prefix_take bytes LINE 105 (omega arith) h) (none_take bytes 105 (omega (arith, m)) none) (omega (arith, length-take-le 105 bytes (omega (arith, m)))) in
    let x = take 106 bytes in
    let nx : length x ≡ 106 = length-take-le 106 bytes m in
    let never : (more : List ℕ) (end : ℕ) → end ≤ 105 → EndsAt (x ++ more) end → ⊥ = λ more end l e. elim (cases_lt end 105) [
      | inl a ↦ none.none end l (ends_untake bytes 106 end m (ends_uncut x more end (omega (arith, a, nx)) e)).1
      | inr a ↦
          let j : end ≡ 105 = omega (arith, a, l) in
          let P : ℕ → Type 0 = λ i. get_or (x ++ more) i 0 ≡ 13 in
          other (sym (cut_index bytes more 106 105 (omega arith) m) ∙ subst P j e.cr)
    ] in
    too_long bytes 105 (omega arith) h (record { inside = long; before = before; broken = line_none bytes 106 (omega arith) m h never })

-- the byte after that CR isn't LF
pub no_lf_in_time : (bytes : List ℕ) → HasPrefix bytes LINE → NoEnd bytes → 106 < length bytes → get_or bytes 105 0 ≡ 13 → IsFault bytes (fault_of 106 TooLong)
no_lf_in_time bytes h none long cr =
    let m : 107 ≤ length bytes = omega (arith, long) in
    let n : length (take 106 bytes) ≡ 106 = length-take-le 106 bytes (omega (arith, m)) in
    let before = line_begins_cr (take 106 bytes) (prefix_take bytes LINE 106 (omega arith) h) (none_take bytes 106 (omega (arith, m)) none) n (get_or-take 106 bytes 105 0 (omega arith) ∙ cr) in
    let x = take 107 bytes in
    let nx : length x ≡ 107 = length-take-le 107 bytes m in
    let never : (more : List ℕ) (end : ℕ) → end ≤ 105 → EndsAt (x ++ more) end → ⊥ = λ more end l e. none.none end l (ends_untake bytes 107 end m (ends_uncut x more end (omega (arith, l, nx)) e)).1 in
    too_long bytes 106 (omega arith) h (record { inside = long; before = before; broken = line_none bytes 107 (omega arith) m h never })
