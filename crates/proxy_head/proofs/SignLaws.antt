-- Bytes that are fewer than a sign, and those that agree with neither.
use Rattle.std.proofs.Common.{◌≡◌, ◌≢◌, ℕ, ◌+◌, ◌<◌, ◌≤◌, ◌∙◌, List, ◌++◌, length, take, inl, inr, refl, sym, ap, subst, arith, take_all, ne_eqb}
use Rattle.std.proofs.lemmas.Bool.{cases_lt}
use Rattle.std.specs.Net.Addr.{HasPrefix}
use Rattle.proxy_head.specs.declared.limits.TheConstants.{LINE, SIGNATURE}
use Rattle.proxy_head.specs.declared.fault.HeadWhy.TheVariants.{Signature}
use Rattle.proxy_head.specs.Line.{NoEnd, fault_of}
use Rattle.proxy_head.specs.Signs.{Agrees}
use Rattle.proxy_head.specs.Head.{IsBeginning, BeginsNothing, IsFault, reason_at}
use Rattle.proxy_head.proofs.Cuts.{cut_index, prefix_index, prefix_untake}
use Rattle.proxy_head.proofs.Beginnings.{sign_begins}
use Rattle.proxy_head.proofs.LineLaws.{end_after, line_begins}
use Rattle.proxy_head.proofs.BlockLaws.{signature_begins}

-- `PROXY` and a space begin a line
pub line_itself : IsBeginning LINE
line_itself =
    let six : length LINE ≡ 6 = refl in
    let none : NoEnd LINE = record { none = λ at l e. let m = end_after LINE at refl e in omega (arith, m, six, e.inside) } in
    line_begins LINE refl none (omega (arith, six))

-- the signature begins a block
pub signature_itself : IsBeginning SIGNATURE
signature_itself = signature_begins SIGNATURE refl refl

-- all of the bytes agree with a sign
pub all_agree : (bytes sign : List ℕ) (count : ℕ) → Agrees bytes sign count → count ≡ length bytes → IsBeginning sign → IsBeginning bytes
all_agree bytes sign count h all g = subst IsBeginning (take_all count bytes (omega (arith, all))) (sign_begins bytes sign count h.same g)

-- a byte that agrees with no sign ends what could begin one
no_sign : (bytes sign : List ℕ) (count n : ℕ) → Agrees bytes sign count → count < n → n ≤ length bytes → count < length sign → (more : List ℕ) → HasPrefix (take n bytes ++ more) sign → ⊥
no_sign bytes sign count n h l m few more p =
    h.other (omega (arith, l, m)) few (sym (cut_index bytes more n count l m) ∙ prefix_index (take n bytes ++ more) sign count p few)

reason_early : (at : ℕ) → at < 12 → Signature ≡ reason_at at
reason_early at l =
    let a : at ≢ 12 = λ e. omega (arith, e, l) in
    let b : at ≢ 13 = λ e. omega (arith, e, l) in
    let c : at ≢ 14 = λ e. omega (arith, e, l) in
    let d : at ≢ 15 = λ e. omega (arith, e, l) in
    rw (ne_eqb at 12 a, ne_eqb at 13 b, ne_eqb at 14 c, ne_eqb at 15 d) refl

-- The bytes are longer than what agrees of them with either.
pub no_signature : (bytes : List ℕ) (line block at : ℕ) → Agrees bytes LINE line → Agrees bytes SIGNATURE block → line < 6 → block < 12 → line ≤ at → block ≤ at → at < 12 → at < length bytes → IsBeginning (take at bytes) → IsFault bytes (fault_of at Signature)
no_signature bytes line block at l b few few_too within within_too early inside before =
    let short : at + 1 ≤ length bytes = omega (arith, inside) in
    let no_line : (more : List ℕ) → HasPrefix (take (at + 1) bytes ++ more) LINE → ⊥ = λ more. no_sign bytes LINE line (at + 1) l (omega (arith, within)) short few more in
    let no_block : (more : List ℕ) → HasPrefix (take (at + 1) bytes ++ more) SIGNATURE → ⊥ = λ more. no_sign bytes SIGNATURE block (at + 1) b (omega (arith, within_too)) short few_too more in
    let broken : BeginsNothing (take (at + 1) bytes) = λ more len f. elim f [ inl p ↦ no_line more p.1.starts | inr p ↦ no_block more p.1.starts ] in
    let here : HasPrefix (take at bytes) LINE → ⊥ = λ p. l.other (omega (arith, within, inside)) few (prefix_index bytes LINE line (prefix_untake bytes LINE at p) few) in
    inl (record { inside = inside; before = before; broken = broken }, inr (here, reason_early at early))

-- a sign that agrees as a whole
pub whole_sign : (bytes sign : List ℕ) (count : ℕ) → Agrees bytes sign count → count ≡ length sign → HasPrefix bytes sign
whole_sign bytes sign count h all = ap (λ (n : ℕ). take n bytes) (sym all) ∙ h.same ∙ take_all count sign (omega (arith, all))

-- all that there is agrees with one of the signs
pub too_few : (bytes : List ℕ) (line block at : ℕ) → Agrees bytes LINE line → Agrees bytes SIGNATURE block → line ≤ at → (line < at → at ≡ block) → at ≡ length bytes → IsBeginning bytes
too_few bytes line block at l b low other all = elim (cases_lt line at) [
  | inl m ↦ all_agree bytes SIGNATURE block b (sym (other m) ∙ all) signature_itself
  | inr m ↦ all_agree bytes LINE line l (omega (arith, m, low, all)) line_itself
]

-- there is more, and it agrees with neither
pub no_head : (bytes : List ℕ) (line block at : ℕ) → Agrees bytes LINE line → Agrees bytes SIGNATURE block → line ≤ at → block ≤ at → (line < at → at ≡ block) → line < 6 → block < 12 → at < length bytes → IsFault bytes (fault_of at Signature)
no_head bytes line block at l b low low_too other few few_too inside =
    let P : ℕ → Type 0 = λ n. IsBeginning (take n bytes) in
    let early : at < 12 = elim (cases_lt line at) [ inl m ↦ let e : at ≡ block = other m in omega (arith, e, few_too) | inr m ↦ omega (arith, m, few) ] in
    let before : IsBeginning (take at bytes) = elim (cases_lt line at) [
      | inl m ↦ subst P (sym (other m)) (sign_begins bytes SIGNATURE block b.same signature_itself)
      | inr m ↦ let e : line ≡ at = omega (arith, m, low) in subst P e (sign_begins bytes LINE line l.same line_itself)
    ] in
    no_signature bytes line block at l b few few_too low low_too early inside before
