-- How frames are cut into batches.
use Rattle.std.proofs.Common.{◌≡◌, ◌+◌, ◌<◌, ◌≤◌, inl, inr, ◌∙◌, List, [], ◌∷◌, ◌++◌, length, refl, sym, ap, subst, arith, append_assoc, length-append}
use Rattle.std.specs.List.{All}
use Rattle.std.proofs.lemmas.List.{append-nil, append_cancel_right}
use Rattle.std.proofs.lemmas.List.Elements.{All-nil, All-cons}
use Rattle.lumber_frame.specs.declared.frame.LumberFrame.{LumberFrame}
use Rattle.lumber_frame.specs.declared.frame.LumberFrame.TheVariants.{Window, Pairs, Json, Ack}
use Rattle.lumber_session.specs.declared.limits.TheConstants.{BATCH_FRAMES, BATCH_BYTES}
use Rattle.lumber_session.specs.Staged.{Staged, staged_by, staged, bytes_of}
use Rattle.lumber_session.specs.Batches.{AreEnough, Ends, EndsNowhere, IsBatch, AreBatches, OneCut, HasEvents, BatchSizes}
use Rattle.lumber_session.proofs.ListLaws.{Same, Later, Earlier, two_cuts, not_empty}
use Rattle.lumber_session.proofs.WindowLaws.{staged_push}

pub nowhere_none : (before : List LumberFrame) → EndsNowhere before []
nowhere_none before x f m e i = not_empty x f m e

-- one more frame with which nowhere batch ends
pub nowhere_on : (before rest : List LumberFrame) (f : LumberFrame) → EndsNowhere before rest → ¬ Ends before rest f → EndsNowhere before (rest ++ f ∷ [])
nowhere_on before rest f nowhere n x g m e i =
    elim (two_cuts rest f [] x g m e) [
      | Same p q r ↦ n (subst (λ v. Ends before rest v) (sym q) (subst (λ v. Ends before v g) (sym p) i))
      | Later z p q ↦ nowhere x g z p i
      | Earlier z p q ↦ not_empty z g m q
    ]

-- what stands before the rest
pub cut_whole : (before frames : List LumberFrame) (bs : List (List LumberFrame)) (rest : List LumberFrame) → AreBatches before frames bs rest → (front : List LumberFrame) × (frames ≡ front ++ rest)
cut_whole before frames [] rest c = ([], c.0)
cut_whole before frames (b ∷ bs) rest (more, e, i, c) =
    let w = cut_whole (before ++ b) more bs rest c in
    (b ++ w.0, e ∙ ap (λ v. b ++ v) w.1 ∙ sym (append_assoc b w.0 rest))

deeper : (before b more frames front rest : List LumberFrame) → frames ≡ b ++ more → before ++ frames ≡ front ++ rest → (before ++ b) ++ more ≡ front ++ rest
deeper before b more frames front rest e w = append_assoc before b more ∙ ap (λ v. before ++ v) (sym e) ∙ w

same_front : (before frames front rest : List LumberFrame) → frames ≡ rest → before ++ frames ≡ front ++ rest → front ≡ before
same_front before frames front rest e w = sym (append_cancel_right before front rest (ap (λ v. before ++ v) (sym e) ∙ w))

-- one more frame with which nowhere batch ends
pub cut_on : (before frames : List LumberFrame) (bs : List (List LumberFrame)) (rest front : List LumberFrame) (f : LumberFrame) → AreBatches before frames bs rest → before ++ frames ≡ front ++ rest → ¬ Ends front rest f → AreBatches before (frames ++ f ∷ []) bs (rest ++ f ∷ [])
cut_on before frames [] rest front f (e, nowhere) w n =
    let s : front ≡ before = same_front before frames front rest e w in
    (ap (λ v. v ++ f ∷ []) e, nowhere_on before rest f nowhere (subst (λ v. ¬ Ends v rest f) s n))
cut_on before frames (b ∷ bs) rest front f (more, e, i, c) w n =
    (more ++ f ∷ [], ap (λ v. v ++ f ∷ []) e ∙ append_assoc b more (f ∷ []), i, cut_on (before ++ b) more bs rest front f c (deeper before b more frames front rest e w) n)

-- one more frame with which a batch ends
pub cut_end : (before frames : List LumberFrame) (bs : List (List LumberFrame)) (rest front : List LumberFrame) (f : LumberFrame) → AreBatches before frames bs rest → before ++ frames ≡ front ++ rest → Ends front rest f → AreBatches before (frames ++ f ∷ []) (bs ++ (rest ++ f ∷ []) ∷ []) []
cut_end before frames [] rest front f (e, nowhere) w n =
    let s : front ≡ before = same_front before frames front rest e w in
    let i : IsBatch before (rest ++ f ∷ []) = record { front = rest; last = f; whole = refl; open_before = nowhere; ends = subst (λ v. Ends v rest f) s n } in
    ([], ap (λ v. v ++ f ∷ []) e ∙ sym (append-nil (rest ++ f ∷ [])), i, (refl, nowhere_none (before ++ (rest ++ f ∷ []))))
cut_end before frames (b ∷ bs) rest front f (more, e, i, c) w n =
    (more ++ f ∷ [], ap (λ v. v ++ f ∷ []) e ∙ append_assoc b more (f ∷ []), i, cut_end (before ++ b) more bs rest front f c (deeper before b more frames front rest e w) n)

-- a batch at the front ends within the frames
batch_ends : {G : Type 0} (before frames b more : List LumberFrame) → EndsNowhere before frames → frames ≡ b ++ more → IsBatch before b → G
batch_ends before frames b more nowhere e i =
    let w : frames ≡ i.front ++ i.last ∷ more = e ∙ ap (λ v. v ++ more) i.whole ∙ append_assoc i.front (i.last ∷ []) more in
    absurd (nowhere i.front i.last more w i.ends)

-- two batches at the front are one
same_batch : (before b c m n : List LumberFrame) → IsBatch before b → IsBatch before c → b ++ m ≡ c ++ n → (b ≡ c) × (m ≡ n)
same_batch before b c m n i j e =
    let p : b ++ m ≡ i.front ++ i.last ∷ m = ap (λ v. v ++ m) i.whole ∙ append_assoc i.front (i.last ∷ []) m in
    let q : c ++ n ≡ j.front ++ j.last ∷ n = ap (λ v. v ++ n) j.whole ∙ append_assoc j.front (j.last ∷ []) n in
    elim (two_cuts i.front i.last m j.front j.last n (sym p ∙ e ∙ q)) [
      | Same x y z ↦ let u : b ≡ c = i.whole ∙ ap (λ v. v ++ i.last ∷ []) x ∙ ap (λ v. j.front ++ v ∷ []) y ∙ sym j.whole in (u, z)
      | Later z x y ↦ absurd (i.open_before j.front j.last z x j.ends)
      | Earlier z x y ↦ absurd (j.open_before i.front i.last z x i.ends)
    ]

batches_once : (before frames : List LumberFrame) (bs cs : List (List LumberFrame)) (r s : List LumberFrame) → AreBatches before frames bs r → AreBatches before frames cs s → (bs ≡ cs) × (r ≡ s)
batches_once before frames [] [] r s (e, nowhere) (d, on) = (refl, sym e ∙ d)
batches_once before frames [] (c ∷ cs) r s (e, nowhere) (more, d, j, k) = batch_ends before r c more nowhere (sym e ∙ d) j
batches_once before frames (b ∷ bs) [] r s (more, e, i, k) (d, nowhere) = batch_ends before s b more nowhere (sym d ∙ e) i
batches_once before frames (b ∷ bs) (c ∷ cs) r s (m, e, i, k) (n, d, j, l) =
    let o = same_batch before b c m n i j (sym e ∙ d) in
    let k2 = subst (λ v. AreBatches (before ++ v) m bs r) o.0 k in
    let k3 = subst (λ v. AreBatches (before ++ c) v bs r) o.1 k2 in
    let t = batches_once (before ++ c) n bs cs r s k3 l in
    let h : b ∷ bs ≡ c ∷ cs = ap (λ v. v ∷ bs) o.0 ∙ ap (λ v. c ∷ v) t.0 in
    (h, t.1)

pub one_cut : OneCut
one_cut frames bs cs r s = batches_once [] frames bs cs r s

-- fewer than a batch are staged
pub record IsFew (events : List Staged) : Type 0 where
  pub frames : length events < BATCH_FRAMES
  pub bytes : bytes_of events < BATCH_BYTES

few_more : (events : List Staged) → ¬ AreEnough events → IsFew events
few_more events n = record { frames = omega (arith, λ (h : BATCH_FRAMES ≤ length events). n (inl h)); bytes = omega (arith, λ (h : BATCH_BYTES ≤ bytes_of events). n (inr h)) }

-- a frame with which nowhere batch ends
few_on : (before x : List LumberFrame) (f : LumberFrame) → ¬ Ends before x f → IsFew (staged x) → IsFew (staged (x ++ f ∷ []))
few_on before x (Window size) n few = subst IsFew (sym (staged_push x (Window size) ∙ append-nil (staged x))) few
few_on before x (Ack seq) n few = subst IsFew (sym (staged_push x (Ack seq) ∙ append-nil (staged x))) few
few_on before x (Pairs seq text) n few = few_more (staged (x ++ Pairs seq text ∷ [])) (λ h. n (inr h))
few_on before x (Json seq text) n few = few_more (staged (x ++ Json seq text ∷ [])) (λ h. n (inr h))

-- frames in which nowhere batch ends stage few
few_along : (before frames x y : List LumberFrame) → EndsNowhere before frames → frames ≡ x ++ y → IsFew (staged x) → IsFew (staged frames)
few_along before frames x [] nowhere e few = subst (λ v. IsFew (staged v)) (sym (e ∙ append-nil x)) few
few_along before frames x (f ∷ y) nowhere e few =
    few_along before frames (x ++ f ∷ []) y nowhere (e ∙ sym (append_assoc x (f ∷ []) y)) (few_on before x f (nowhere x f y e) few)

pub nowhere_few : (before frames : List LumberFrame) → EndsNowhere before frames → IsFew (staged frames)
nowhere_few before frames nowhere = few_along before frames [] frames nowhere refl (record { frames = omega arith; bytes = omega arith })

-- the last frame of a batch stages one event at most, and what is staged isn't nothing
last_has : (before x : List LumberFrame) (f : LumberFrame) → Ends before x f → IsFew (staged x) → HasEvents (x ++ f ∷ [])
last_has before x (Window size) i few =
    let l : length (staged (x ++ Window size ∷ [])) ≡ length (staged x) = ap length (staged_push x (Window size) ∙ append-nil (staged x)) in
    (omega (arith, l, i.1), omega (arith, l, few.frames))
last_has before x (Ack seq) i few = absurd i
last_has before x (Pairs seq text) i few =
    let l : length (staged (x ++ Pairs seq text ∷ [])) ≡ length (staged x) + 1 = ap length (staged_push x (Pairs seq text)) ∙ length-append (staged x) (staged_by (Pairs seq text)) in
    (omega (arith, l), omega (arith, l, few.frames))
last_has before x (Json seq text) i few =
    let l : length (staged (x ++ Json seq text ∷ [])) ≡ length (staged x) + 1 = ap length (staged_push x (Json seq text)) ∙ length-append (staged x) (staged_by (Json seq text)) in
    (omega (arith, l), omega (arith, l, few.frames))

sizes : (before frames : List LumberFrame) (bs : List (List LumberFrame)) (rest : List LumberFrame) → AreBatches before frames bs rest → All HasEvents bs × IsFew (staged rest)
sizes before frames [] rest (e, nowhere) = (All-nil HasEvents, nowhere_few before rest nowhere)
sizes before frames (b ∷ bs) rest (more, e, i, c) =
    let t = sizes (before ++ b) more bs rest c in
    let h = subst HasEvents (sym i.whole) (last_has before i.front i.last i.ends (nowhere_few before i.front i.open_before)) in
    (All-cons HasEvents b bs h t.0, t.1)

pub batch_sizes : BatchSizes
batch_sizes frames batches rest c =
    let s = sizes [] frames batches rest c in
    (s.0, s.1.frames, s.1.bytes)
