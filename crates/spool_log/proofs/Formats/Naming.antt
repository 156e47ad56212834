-- The magic, written and erased.
use Rattle.std.proofs.Common.{◌≡◌, ◌≢◌, ◌⊎◌, inl, inr, ℕ, ◌≤◌, List, [], ◌∷◌, length, get_or, refl, sym, ◌∙◌, ap, subst, arith}
use Rattle.std.proofs.lemmas.Bool.{cases_eq, cases_lt}
use Rattle.std.proofs.lemmas.List.{ext_get_or}
use Rattle.foundation.specs.Bytes.{part, put, SameBut}
use Rattle.foundation.proofs.Bytes.{same_but_refl, get_or-part, length-put, put_at, put_above}
use Rattle.edge_disk.specs.Disk.{Moment, IsLawful, IsSettled, IsUntouched, IsTorn, LeavesOnly}
use Rattle.edge_disk.proofs.Moments.{started_settled, untouched, torn, still_settled}
use Rattle.spool_state.specs.Image.{magic}
use Rattle.spool_log.specs.Making.Format.{HasNoName, IsEraseStep, IsNameStep}

same_or_not : (xs ys : List ℕ) → (xs ≡ ys) ⊎ (xs ≢ ys)
same_or_not [] [] = inl refl
same_or_not [] (y ∷ ys) = inr (λ is. cc is)
same_or_not (x ∷ xs) [] = inr (λ is. cc is)
same_or_not (x ∷ xs) (y ∷ ys) = elim (cases_eq x y) [
  | inl first ↦ elim (same_or_not xs ys) [ inl rest ↦ inl (cc (first, rest)) | inr off ↦ inr (λ is. off (cc is)) ]
  | inr off ↦ inr (λ is. off (cc is))
]

-- bytes that begin with the magic, and are as others after it
with_name : (old c : List ℕ) → 8 ≤ length old → SameBut 0 8 old c → part 0 8 c ≡ magic → c ≡ put 0 magic old
with_name old c room same name =
    let long : length (put 0 magic old) ≡ length old = length-put 0 magic old (omega arith) in
    ext_get_or 0 c (put 0 magic old) (same.len ∙ sym long) (λ i lt. elim (cases_lt i 8) [
      | inl less ↦ sym (get_or-part 0 8 c i i less (omega arith)) ∙ ap (λ (l : List ℕ). get_or l i 0) name ∙ sym (put_at 0 magic old i i (omega arith) less (omega arith))
      | inr ge ↦ same.above i ge ∙ sym (put_above 0 magic old i (omega arith) ge)
    ])

name_step : (old c : List ℕ) → 8 ≤ length old → SameBut 0 8 old c → IsNameStep old c
name_step old c room same = elim (same_or_not (part 0 8 c) magic) [
  | inl name ↦ inr (with_name old c room same name)
  | inr off ↦ inl off
]

erase_step : (old c : List ℕ) → 8 ≤ length old → part 0 8 old ≡ magic → SameBut 0 8 old c → IsEraseStep old c
erase_step old c room name same = elim (name_step old c room same) [
  | inl off ↦ inr off
  | inr is ↦ inl (is ∙ sym (with_name old old room (same_but_refl 0 8 old) name))
]

-- a write of eight bytes over the magic
pub name_erased : (m m1 m2 : Moment) → IsLawful m → 12288 ≤ m.size → IsSettled m → IsUntouched m m1 → part 0 8 m.reads ≡ magic → IsTorn 0 8 m1 m2 → LeavesOnly (IsEraseStep m.reads) m m2
name_erased m m1 m2 lawful room settled read name write =
    let P = IsEraseStep m.reads in
    let start = started_settled P m lawful settled (inl refl) in
    let one = untouched P m m m1 start read in
    torn P m m1 m2 0 8 one (still_settled m m1 settled read) write
    (λ c same. erase_step m.reads c (omega (arith, lawful.reads_size)) name (subst (λ (l : List ℕ). SameBut 0 8 l c) read.same same))

-- and one of the magic
pub name_written : (m m1 : Moment) → IsLawful m → 12288 ≤ m.size → IsSettled m → HasNoName m.reads → IsTorn 0 8 m m1 → LeavesOnly (IsNameStep m.reads) m m1
name_written m m1 lawful room settled none write =
    let P = IsNameStep m.reads in
    torn P m m m1 0 8 (started_settled P m lawful settled (inl none)) settled write (λ c same. name_step m.reads c (omega (arith, lawful.reads_size)) same)
