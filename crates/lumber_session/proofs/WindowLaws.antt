-- What is to come in a window.
use Rattle.std.proofs.Common.{◌≡◌, ℕ, ◌+◌, ◌-◌, ◌<◌, ◌≤◌, inl, inr, ◌∙◌, List, [], ◌∷◌, ◌++◌, length, refl, sym, ap, subst, arith, append_assoc, length-append}
use Rattle.std.specs.List.{All}
use Rattle.std.proofs.lemmas.List.{append-nil}
use Rattle.std.proofs.lemmas.List.Elements.{All-nil, All-push}
use Rattle.lumber_frame.specs.declared.frame.LumberFrame.{LumberFrame}
use Rattle.lumber_frame.specs.declared.frame.LumberFrame.TheVariants.{Window}
use Rattle.lumber_session.specs.Staged.{staged_by, staged}
use Rattle.lumber_session.specs.Windows.{BeginsNone, HasWindow, NextCompletes, HasLeft}
use Rattle.lumber_session.proofs.ListLaws.{Same, Later, Earlier, two_cuts, all_at}

pub staged-append : (a b : List LumberFrame) → staged (a ++ b) ≡ staged a ++ staged b
staged-append [] b = refl
staged-append (f ∷ a) b = ap (λ v. staged_by f ++ v) (staged-append a b) ∙ sym (append_assoc (staged_by f) (staged a) (staged b))

pub staged_push : (a : List LumberFrame) (f : LumberFrame) → staged (a ++ f ∷ []) ≡ staged a ++ staged_by f
staged_push a f = staged-append a (f ∷ []) ∙ ap (λ v. staged a ++ v) (append-nil (staged_by f))

-- frames that begin no window have none
none_begun : {G : Type 0} (frames : List LumberFrame) (size : ℕ) (since : List LumberFrame) → All BeginsNone frames → HasWindow frames size since → G
none_begun frames size since none w =
    let z : size ≡ 0 = all_at BeginsNone w.earlier (Window size) since (subst (All BeginsNone) w.whole none) in
    absurd (omega (arith, z, w.above))

size_of_window : (a b : ℕ) → Window a ≡ Window b → a ≡ b
size_of_window a b e = cc

-- frames have one last window
window_once : (frames : List LumberFrame) (a b : ℕ) (x y : List LumberFrame) → HasWindow frames a x → HasWindow frames b y → (a ≡ b) × (x ≡ y)
window_once frames a b x y v w =
    elim (two_cuts v.earlier (Window a) x w.earlier (Window b) y (sym v.whole ∙ w.whole)) [
      | Same p q r ↦ (size_of_window a b q, r)
      | Later z p q ↦ let n : a ≡ 0 = all_at BeginsNone z (Window a) x (subst (All BeginsNone) q w.last) in absurd (omega (arith, n, v.above))
      | Earlier z p q ↦ let n : b ≡ 0 = all_at BeginsNone z (Window b) y (subst (All BeginsNone) q v.last) in absurd (omega (arith, n, w.above))
    ]

-- with at most one frame to come the next one completes its window
pub completes : (frames : List LumberFrame) (n : ℕ) → HasLeft frames n → n ≤ 1 → NextCompletes frames
completes frames n (inl h) few = λ size since w. none_begun frames size since h.0 w
completes frames n (inr h) few = λ size since w.
    let o = window_once frames h.0 size h.1 since h.2 w in
    let l : length (staged h.1) ≡ length (staged since) = ap (λ v. length (staged v)) o.1 in
    omega (arith, h.3, few, o.0, l)

-- and only then
pub completes_only : (frames : List LumberFrame) (n : ℕ) → HasLeft frames n → NextCompletes frames → n ≤ 1
completes_only frames n (inl h) c = omega (arith, h.1)
completes_only frames n (inr h) c = omega (arith, h.3, c h.0 h.1 h.2)

-- a frame that begins no window
pub left_on : (frames : List LumberFrame) (n : ℕ) (f : LumberFrame) → HasLeft frames n → BeginsNone f → HasLeft (frames ++ f ∷ []) (n - length (staged_by f))
left_on frames n f (inl h) b = inl (All-push BeginsNone frames f h.0 b, omega (arith, h.1))
left_on frames n f (inr (size, since, w, e)) b =
    let s : length (staged (since ++ f ∷ [])) ≡ length (staged since) + length (staged_by f) = ap length (staged_push since f) ∙ length-append (staged since) (staged_by f) in
    inr (
      size,
      since ++ f ∷ [],
      record {
        earlier = w.earlier;
        whole = ap (λ v. v ++ f ∷ []) w.whole ∙ append_assoc w.earlier (Window size ∷ since) (f ∷ []);
        above = w.above;
        last = All-push BeginsNone since f w.last b;
      },
      omega (arith, e, s),
    )

-- a W above 0
pub left_new : (frames : List LumberFrame) (size : ℕ) → 0 < size → HasLeft (frames ++ Window size ∷ []) size
left_new frames size above = inr (size, [], record { earlier = frames; whole = refl; above = above; last = All-nil BeginsNone }, omega arith)
