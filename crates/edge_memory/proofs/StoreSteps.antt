-- What a store in memory is seen as after a write.
use Rattle.std.proofs.Common.{◌≡◌, ℕ, ◌<◌, Bool, true, false, List, [], ◌∷◌, length, refl, sym, ◌∙◌, ap, arith}
use Rattle.std.specs.Prelude.{Result, Ok, Err, OnOk, is_err}
use Rattle.foundation.specs.Bytes.{put}
use Rattle.edge_memory.specs.Held.{Epoch, Held, with_note, with_piece, after_write}
use Rattle.edge_memory.specs.StoreView.{durable_bytes}

-- a clause on success where the result was tested
pub of_ok : {T E : Type 0} (r : Result T E) (P : Type 0) → is_err r ≡ false → OnOk r P → P
of_ok (Ok x) P e h = h
of_ok (Err x) P e h = absurd (cc e)

view : Bool → List ℕ → List ℕ → List (ℕ × ℕ) → List Epoch → Held
view recorded bytes copy ranges past = record { recorded = recorded; reads = bytes; durable = durable_bytes ranges copy bytes; ranges = ranges; past = past }

put_view : (recorded : Bool) (at : ℕ) (piece bytes copy : List ℕ) (ranges : List (ℕ × ℕ)) (past : List Epoch) → (recorded ≡ true → 0 < length ranges) → (recorded ≡ false → length ranges ≡ 0) → view recorded (put at piece bytes) copy ranges past ≡ with_piece recorded at piece (view recorded bytes copy ranges past)
unfolding view
put_view true at piece bytes copy [] past some none = absurd (omega (arith, some refl))
put_view true at piece bytes copy (r ∷ ranges) past some none = refl
put_view false at piece bytes copy [] past some none = refl
put_view false at piece bytes copy (r ∷ ranges) past some none = absurd (omega (arith, none refl))

note_recorded : (recorded : Bool) (at n : ℕ) (h : Held) → (with_note recorded at n h).recorded ≡ h.recorded
note_recorded true at n h = refl
note_recorded false at n h = refl

note_some : (recorded : Bool) (at n : ℕ) (h : Held) → recorded ≡ true → 0 < length (with_note recorded at n h).ranges
note_some true at n h is = omega arith
note_some false at n h is = absurd (cc is)

note_none : (recorded : Bool) (at n : ℕ) (h : Held) → recorded ≡ false → length h.ranges ≡ 0 → length (with_note recorded at n h).ranges ≡ 0
note_none true at n h is none = absurd (cc is)
note_none false at n h is none = none

-- the bytes of a store in which the range is noted are written
pub written : (at n : ℕ) (piece : List ℕ) (h : Held) (recorded : Bool) (bytes new copy : List ℕ) (ranges : List (ℕ × ℕ)) (past : List Epoch) → (h.recorded ≡ false → length h.ranges ≡ 0)
    → record { recorded = recorded; reads = bytes; durable = durable_bytes ranges copy bytes; ranges = ranges; past = past } ≡ with_note h.recorded at n h → new ≡ put at piece bytes
    → record { recorded = recorded; reads = new; durable = durable_bytes ranges copy new; ranges = ranges; past = past } ≡ after_write at n piece h
unfolding view
written at n piece h recorded bytes new copy ranges past none is put_is =
    let kept : recorded ≡ h.recorded = ap (λ (x : Held). x.recorded) is ∙ note_recorded h.recorded at n h in
    let noted = ap (λ (x : Held). length x.ranges) is in
    ap (λ (b : List ℕ). view recorded b copy ranges past) put_is
    ∙ put_view recorded at piece bytes copy ranges past (λ yes. omega (arith, noted, note_some h.recorded at n h (sym kept ∙ yes))) (λ no. noted ∙ note_none h.recorded at n h (sym kept ∙ no) (none (sym kept ∙ no)))
    ∙ ap (λ (x : Held). with_piece recorded at piece x) is
    ∙ ap (λ (b : Bool). with_piece b at piece (with_note h.recorded at n h)) kept
