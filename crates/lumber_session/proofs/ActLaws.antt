-- The acts for a list of frames make its batches; any list is cut in some way; and a frame has one act.
use Rattle.std.proofs.Common.{◌≡◌, ℕ, ◌-◌, ◌<◌, ◌≤◌, ◌⊎◌, ◌↔◌, inl, inr, ◌∙◌, Bool, true, false, List, [], ◌∷◌, ◌++◌, map, length, refl, sym, ap, subst, arith, append_assoc}
use Rattle.std.specs.Prelude.{IsTrue}
use Rattle.std.proofs.lemmas.List.{append-nil, append_cancel_right}
use Rattle.std.proofs.lemmas.List.Elements.{All-nil}
use Rattle.std.proofs.lemmas.Bool.{false≢true, cases_lt}
use Rattle.lumber_frame.specs.declared.frame.LumberFrame.{LumberFrame}
use Rattle.lumber_frame.specs.declared.frame.LumberFrame.TheVariants.{Window, Pairs, Json, Ack}
use Rattle.lumber_session.specs.declared.act.LumberAct.{LumberAct}
use Rattle.lumber_session.specs.declared.limits.TheConstants.{BATCH_FRAMES, BATCH_BYTES}
use Rattle.lumber_session.specs.Staged.{Staged, staged_by, staged, bytes_of}
use Rattle.lumber_session.specs.Windows.{BeginsNone, NextCompletes, HasLeft}
use Rattle.lumber_session.specs.Batches.{EndsData, Ends, IsCut, SomeCut}
use Rattle.lumber_session.specs.Acts.{Tells, AreTold, Batch, batch_of, act_of, stored, waiting, ActsMakeBatches, OneAct}
use Rattle.lumber_session.proofs.WindowLaws.{staged_push, completes, completes_only, left_on, left_new}
use Rattle.lumber_session.proofs.CutLaws.{nowhere_none, cut_whole, cut_on, cut_end, one_cut}

-- the batch of some frames
abbrev batch_from : List LumberFrame → Batch
batch_from frames = batch_of (staged frames)

-- a frame with which no batch ends
stored_on : (so_far : List Staged) (f : LumberFrame) (acts : List LumberAct) → stored so_far (act_of f false ∷ acts) ≡ stored (so_far ++ staged_by f) acts
stored_on so_far (Window size) acts = ap (λ v. stored v acts) (sym (append-nil so_far))
stored_on so_far (Pairs seq text) acts = refl
stored_on so_far (Json seq text) acts = refl
stored_on so_far (Ack seq) acts = ap (λ v. stored v acts) (sym (append-nil so_far))

waiting_on : (so_far : List Staged) (f : LumberFrame) (acts : List LumberAct) → waiting so_far (act_of f false ∷ acts) ≡ waiting (so_far ++ staged_by f) acts
waiting_on so_far (Window size) acts = ap (λ v. waiting v acts) (sym (append-nil so_far))
waiting_on so_far (Pairs seq text) acts = refl
waiting_on so_far (Json seq text) acts = refl
waiting_on so_far (Ack seq) acts = ap (λ v. waiting v acts) (sym (append-nil so_far))

-- a frame with which one ends
stored_end : (so_far : List Staged) (f : LumberFrame) (acts : List LumberAct) (before front : List LumberFrame) → Ends before front f → stored so_far (act_of f true ∷ acts) ≡ batch_of (so_far ++ staged_by f) ∷ stored [] acts
stored_end so_far (Window size) acts before front i = ap (λ v. batch_of v ∷ stored [] acts) (sym (append-nil so_far))
stored_end so_far (Pairs seq text) acts before front i = refl
stored_end so_far (Json seq text) acts before front i = refl
stored_end so_far (Ack seq) acts before front i = absurd i

waiting_end : (so_far : List Staged) (f : LumberFrame) (acts : List LumberAct) (before front : List LumberFrame) → Ends before front f → waiting so_far (act_of f true ∷ acts) ≡ waiting [] acts
waiting_end so_far (Window size) acts before front i = refl
waiting_end so_far (Pairs seq text) acts before front i = refl
waiting_end so_far (Json seq text) acts before front i = refl
waiting_end so_far (Ack seq) acts before front i = absurd i

-- What acts make of further frames, after frames that are cut.
record Made (frames more : List LumberFrame) (bs : List (List LumberFrame)) (rest : List LumberFrame) (acts : List LumberAct) : Type 0 where
  pub batches : List (List LumberFrame)
  pub last : List LumberFrame
  pub cut : IsCut (frames ++ more) (bs ++ batches) last
  pub stores : stored (staged rest) acts ≡ map batch_from batches
  pub waits : waiting (staged rest) acts ≡ staged last

made_on : (frames more : List LumberFrame) (bs : List (List LumberFrame)) (rest : List LumberFrame) (f : LumberFrame) (acts : List LumberAct) → Made (frames ++ f ∷ []) more bs (rest ++ f ∷ []) acts → Made frames (f ∷ more) bs rest (act_of f false ∷ acts)
made_on frames more bs rest f acts m = record {
  batches = m.batches;
  last = m.last;
  cut = subst (λ v. IsCut v (bs ++ m.batches) m.last) (append_assoc frames (f ∷ []) more) m.cut;
  stores = stored_on (staged rest) f acts ∙ ap (λ v. stored v acts) (sym (staged_push rest f)) ∙ m.stores;
  waits = waiting_on (staged rest) f acts ∙ ap (λ v. waiting v acts) (sym (staged_push rest f)) ∙ m.waits;
}

made_end : (frames more : List LumberFrame) (bs : List (List LumberFrame)) (rest : List LumberFrame) (f : LumberFrame) (acts : List LumberAct) (before : List LumberFrame)
    → Ends before rest f → Made (frames ++ f ∷ []) more (bs ++ (rest ++ f ∷ []) ∷ []) [] acts → Made frames (f ∷ more) bs rest (act_of f true ∷ acts)
made_end frames more bs rest f acts before i m =
    let c = subst (λ v. IsCut v ((bs ++ (rest ++ f ∷ []) ∷ []) ++ m.batches) m.last) (append_assoc frames (f ∷ []) more) m.cut in
    record {
      batches = (rest ++ f ∷ []) ∷ m.batches;
      last = m.last;
      cut = subst (λ v. IsCut (frames ++ f ∷ more) v m.last) (append_assoc bs ((rest ++ f ∷ []) ∷ []) m.batches) c;
      stores = stored_end (staged rest) f acts before rest i ∙ ap (λ v. batch_of v ∷ stored [] acts) (sym (staged_push rest f)) ∙ ap (λ v. batch_from (rest ++ f ∷ []) ∷ v) m.stores;
      waits = waiting_end (staged rest) f acts before rest i ∙ m.waits;
    }

-- the act of a frame by whether a batch ends with it, and what comes after
told_next : (frames more : List LumberFrame) (bs : List (List LumberFrame)) (rest before : List LumberFrame) (f : LumberFrame) (acts : List LumberAct) (ends : Bool)
    → IsCut frames bs rest → frames ≡ before ++ rest → IsTrue ends ↔ Ends before rest f → ((cs : List (List LumberFrame)) (r : List LumberFrame) → IsCut (frames ++ f ∷ []) cs r
    → Made (frames ++ f ∷ []) more cs r acts) → Made frames (f ∷ more) bs rest (act_of f ends ∷ acts)
told_next frames more bs rest before f acts true c w x k =
    let i = x.0 refl in
    made_end frames more bs rest f acts before i (k (bs ++ (rest ++ f ∷ []) ∷ []) [] (cut_end [] frames bs rest before f c w i))
told_next frames more bs rest before f acts false c w x k =
    made_on frames more bs rest f acts (k bs (rest ++ f ∷ []) (cut_on [] frames bs rest before f c w (λ i. false≢true (x.1 i))))

made : (frames more : List LumberFrame) (bs : List (List LumberFrame)) (rest : List LumberFrame) (acts : List LumberAct) → IsCut frames bs rest → AreTold frames more acts → Made frames more bs rest acts
made frames [] bs rest [] c t = record {
  batches = [];
  last = rest;
  cut = subst (λ v. IsCut v (bs ++ []) rest) (sym (append-nil frames)) (subst (λ v. IsCut frames v rest) (sym (append-nil bs)) c);
  stores = refl;
  waits = refl;
}
made frames [] bs rest (a ∷ acts) c t = absurd t
made frames (f ∷ more) bs rest [] c t = absurd t
made frames (f ∷ more) bs rest (a ∷ acts) c (t, k) =
    let o = one_cut frames t.batches bs t.rest rest t.cut c in
    let w : frames ≡ t.before ++ rest = t.whole ∙ ap (λ v. t.before ++ v) o.1 in
    let x : IsTrue t.ends ↔ Ends t.before rest f = subst (λ v. IsTrue t.ends ↔ Ends t.before v f) o.1 t.exactly in
    let m = told_next frames more bs rest t.before f acts t.ends c w x (λ cs r d. made (frames ++ f ∷ []) more cs r acts d k) in
    subst (λ v. Made frames (f ∷ more) bs rest (v ∷ acts)) (sym t.told) m

pub acts_make_batches : ActsMakeBatches
acts_make_batches frames acts batches rest t c =
    let m = made [] frames [] [] acts (refl, nowhere_none []) t in
    let o = one_cut frames m.batches batches m.last rest m.cut c in
    (m.stores ∙ ap (map batch_from) o.0, m.waits ∙ ap staged o.1)

-- the act of one more frame
pub told_push : (before frames : List LumberFrame) (acts : List LumberAct) (f : LumberFrame) (a : LumberAct) → AreTold before frames acts → Tells (before ++ frames) f a → AreTold before (frames ++ f ∷ []) (acts ++ a ∷ [])
told_push before [] [] f a t k = (subst (λ v. Tells v f a) (append-nil before) k, tt)
told_push before [] (b ∷ acts) f a t k = absurd t
told_push before (g ∷ frames) [] f a t k = absurd t
told_push before (g ∷ frames) (b ∷ acts) f a (i, t) k = (i, told_push (before ++ g ∷ []) frames acts f a t (subst (λ v. Tells v f a) (sym (append_assoc before (g ∷ []) frames)) k))

-- some cut

abbrev Decided : Type 0 → Type 0
Decided P = P ⊎ ¬ P

decide_lt : (m n : ℕ) → Decided (m < n)
decide_lt m n = elim (cases_lt m n) [ inl h ↦ inl h | inr h ↦ inr (λ (k : m < n). absurd (omega (arith, h, k))) ]

decide_le : (m n : ℕ) → Decided (m ≤ n)
decide_le m n = elim (cases_lt n m) [ inl h ↦ inr (λ (k : m ≤ n). absurd (omega (arith, h, k))) | inr h ↦ inl h ]

decide_or : {P Q : Type 0} → Decided P → Decided Q → Decided (P ⊎ Q)
decide_or (inl p) q = inl (inl p)
decide_or (inr n) (inl q) = inl (inr q)
decide_or (inr n) (inr m) = inr (elim [ inl p ↦ n p | inr q ↦ m q ])

decide_and : {P Q : Type 0} → Decided P → Decided Q → Decided (P × Q)
decide_and (inl p) (inl q) = inl (p, q)
decide_and (inl p) (inr m) = inr (λ i. m i.1)
decide_and (inr n) q = inr (λ i. n i.0)

decide_completes : (frames : List LumberFrame) (n : ℕ) → HasLeft frames n → Decided (NextCompletes frames)
decide_completes frames n l = elim (decide_le n 1) [ inl h ↦ inl (completes frames n l h) | inr h ↦ inr (λ c. h (completes_only frames n l c)) ]

decide_data : (before front : List LumberFrame) (f : LumberFrame) (n : ℕ) → HasLeft (before ++ front) n → Decided (EndsData before front f)
decide_data before front f n l =
    let s = staged (front ++ f ∷ []) in
    decide_or (decide_completes (before ++ front) n l) (decide_or (decide_le BATCH_FRAMES (length s)) (decide_le BATCH_BYTES (bytes_of s)))

decide_ends : (before front : List LumberFrame) (f : LumberFrame) (n : ℕ) → HasLeft (before ++ front) n → Decided (Ends before front f)
decide_ends before front (Window size) n l = decide_and (decide_lt 0 size) (decide_lt 0 (length (staged front)))
decide_ends before front (Pairs seq text) n l = decide_data before front (Pairs seq text) n l
decide_ends before front (Json seq text) n l = decide_data before front (Json seq text) n l
decide_ends before front (Ack seq) n l = inr (λ i. i)

-- frames with their cut, and what is to come in their last window
record Known (frames : List LumberFrame) : Type 0 where
  pub batches : List (List LumberFrame)
  pub rest : List LumberFrame
  pub cut : IsCut frames batches rest
  pub left : ℕ
  pub has_left : HasLeft frames left

known_left : (frames : List LumberFrame) (n : ℕ) (f : LumberFrame) → HasLeft frames n → (m : ℕ) × HasLeft (frames ++ f ∷ []) m
known_left frames n (Window size) l = elim (decide_lt 0 size) [ inl h ↦ (size, left_new frames size h) | inr h ↦ (n - 0, left_on frames n (Window size) l (omega (arith, h))) ]
known_left frames n (Pairs seq text) l = (n - 1, left_on frames n (Pairs seq text) l tt)
known_left frames n (Json seq text) l = (n - 1, left_on frames n (Json seq text) l tt)
known_left frames n (Ack seq) l = (n - 0, left_on frames n (Ack seq) l tt)

known_next : (frames : List LumberFrame) (f : LumberFrame) → Known frames → Known (frames ++ f ∷ [])
known_next frames f k =
    let w = cut_whole [] frames k.batches k.rest k.cut in
    let l = known_left frames k.left f k.has_left in
    elim (decide_ends w.0 k.rest f k.left (subst (λ v. HasLeft v k.left) w.1 k.has_left)) [
      | inl i ↦ record { batches = k.batches ++ (k.rest ++ f ∷ []) ∷ []; rest = []; cut = cut_end [] frames k.batches k.rest w.0 f k.cut w.1 i; left = l.0; has_left = l.1 }
      | inr n ↦ record { batches = k.batches; rest = k.rest ++ f ∷ []; cut = cut_on [] frames k.batches k.rest w.0 f k.cut w.1 n; left = l.0; has_left = l.1 }
    ]

known : (frames more : List LumberFrame) → Known frames → Known (frames ++ more)
known frames [] k = subst Known (sym (append-nil frames)) k
known frames (f ∷ more) k = subst Known (append_assoc frames (f ∷ []) more) (known (frames ++ f ∷ []) more (known_next frames f k))

known_all : (frames : List LumberFrame) → Known frames
known_all frames = known [] frames (record { batches = []; rest = []; cut = (refl, nowhere_none []); left = 0; has_left = inl (All-nil BeginsNone, refl) })

pub some_cut : SomeCut
some_cut frames =
    let k = known_all frames in
    (k.batches, k.rest, k.cut)

-- one act

some_act : (frames : List LumberFrame) (f : LumberFrame) → (act : LumberAct) × Tells frames f act
some_act frames f =
    let k = known_all frames in
    let w = cut_whole [] frames k.batches k.rest k.cut in
    elim (decide_ends w.0 k.rest f k.left (subst (λ v. HasLeft v k.left) w.1 k.has_left)) [
      | inl i ↦ (act_of f true, record { batches = k.batches; before = w.0; rest = k.rest; cut = k.cut; whole = w.1; ends = true; exactly = (λ t. i, λ e. refl); told = refl })
      | inr n ↦ (act_of f false, record { batches = k.batches; before = w.0; rest = k.rest; cut = k.cut; whole = w.1; ends = false; exactly = (λ t. absurd (false≢true t), λ e. absurd (n e)); told = refl })
    ]

-- what holds exactly where the same fact does is the same
same_test : {P : Type 0} (a b : Bool) → IsTrue a ↔ P → IsTrue b ↔ P → a ≡ b
same_test true true p q = refl
same_test true false p q = sym (q.1 (p.0 refl))
same_test false true p q = p.1 (q.0 refl)
same_test false false p q = refl

told_once : (frames : List LumberFrame) (f : LumberFrame) (a b : LumberAct) → Tells frames f a → Tells frames f b → b ≡ a
told_once frames f a b t u =
    let rests : u.rest ≡ t.rest = (one_cut frames u.batches t.batches u.rest t.rest u.cut t.cut).1 in
    let whole : frames ≡ u.before ++ t.rest = u.whole ∙ ap (λ v. u.before ++ v) rests in
    let befores : u.before ≡ t.before = append_cancel_right u.before t.before t.rest (sym whole ∙ t.whole) in
    let there : IsTrue u.ends ↔ Ends u.before t.rest f = subst (λ v. IsTrue u.ends ↔ Ends u.before v f) rests u.exactly in
    let here : IsTrue u.ends ↔ Ends t.before t.rest f = subst (λ v. IsTrue u.ends ↔ Ends v t.rest f) befores there in
    u.told ∙ ap (act_of f) (same_test u.ends t.ends here t.exactly) ∙ sym t.told

pub one_act : OneAct
one_act frames f =
    let some = some_act frames f in
    (some.0, some.1, λ other t. told_once frames f some.0 other some.1 t)
