-- Marks, and the places that have none.
use Rattle.std.proofs.Common.{◌≡◌, ◌≢◌, inl, inr, ℕ, zero, suc, ◌+◌, ◌-◌, ◌<◌, ◌≤◌, ◌∙◌, Bool, true, false, List, [], ◌∷◌, ◌++◌, length, take, get_or, refl, sym, ap, arith, append_assoc}
use Rattle.std.specs.Prelude.{◌⊎◌, All, replicate, slice_index}
use Rattle.std.specs.List.{remove}
use Rattle.std.proofs.lemmas.Bool.{false≢true}
use Rattle.std.proofs.lemmas.Grind.{common_steps, replicate_next}
use Rattle.std.proofs.lemmas.List.Elements.{All-head, All-tail}
use Rattle.std.proofs.Math.ListN.{length-append}
use Rattle.relp_sender.specs.Texts.{txnr_of}
use Rattle.relp_sender.specs.Marks.{IsEarliest, NoneAwaits, count_known, known_front, marked_at, open_from, grown, allowed}
use Rattle.relp_sender.specs.Window.{IsFirstOf, first_open}

pub count_open : (m : List Bool) (i : ℕ) → count_known m + length (open_from i m) ≡ length m
count_open [] i = refl
count_open (true ∷ m) i = omega (arith, count_open m (i + 1))
count_open (false ∷ m) i = omega (arith, count_open m (i + 1))

pub front_open : (m : List Bool) (i : ℕ) → first_open (open_from i m) (i + length m) ≡ i + known_front m
front_open [] i = refl
front_open (true ∷ m) i =
    let e : i + length (true ∷ m) ≡ i + 1 + length m = omega arith in
    ap (λ (n : ℕ). first_open (open_from (i + 1) m) n) e ∙ front_open m (i + 1) ∙ omega arith
front_open (false ∷ m) i = omega arith

-- no entry without a mark has a frame of this number, the first mark's place given
abbrev pub NoneIn : ℕ → List Bool → ℕ → Type 0
NoneIn place [] txnr = Unit {0}
NoneIn place (true ∷ marks) txnr = NoneIn (place + 1) marks txnr
NoneIn place (false ∷ marks) txnr = (txnr_of place ≢ txnr) × NoneIn (place + 1) marks txnr

none_in : (m : List Bool) (i txnr : ℕ) → All (λ (p : ℕ). txnr_of p ≢ txnr) (open_from i m) → NoneIn i m txnr
none_in [] i txnr all = tt
none_in (true ∷ m) i txnr all = none_in m (i + 1) txnr all
none_in (false ∷ m) i txnr all =
    (All-head (λ (p : ℕ). txnr_of p ≢ txnr) i (open_from (i + 1) m) all, none_in m (i + 1) txnr (All-tail (λ (p : ℕ). txnr_of p ≢ txnr) i (open_from (i + 1) m) all))

not_in : (m : List Bool) (i q txnr : ℕ) → NoneIn i m txnr → q < length m → get_or m q false ≡ false → txnr_of (i + q) ≡ txnr → ⊥
not_in [] i q txnr none lt free is = omega (arith, lt)
not_in (true ∷ m) i zero txnr none lt free is = false≢true (sym free)
not_in (true ∷ m) i (suc q) txnr none lt free is = let e : i + 1 + q ≡ i + suc q = omega arith in not_in m (i + 1) q txnr none (omega (arith, lt)) free (ap txnr_of e ∙ is)
not_in (false ∷ m) i zero txnr none lt free is = let e : i ≡ i + 0 = omega arith in none.0 (ap txnr_of e ∙ is)
not_in (false ∷ m) i (suc q) txnr none lt free is = let e : i + 1 + q ≡ i + suc q = omega arith in not_in m (i + 1) q txnr none.1 (omega (arith, lt)) free (ap txnr_of e ∙ is)

-- the marks with one more, at the first place that awaits that number
pub record Marked (i : ℕ) (m : List Bool) (txnr : ℕ) (left : List ℕ) (place : ℕ) : Type 0 where
  pub before : List Bool
  pub after : List Bool
  pub was : m ≡ before ++ false ∷ after
  pub left_is : open_from i (before ++ true ∷ after) ≡ left
  pub number : txnr_of (i + length before) ≡ txnr
  pub earliest : NoneIn i before txnr
  pub place_is : place ≡ i + length before

pub mark_first : (m : List Bool) (i txnr index : ℕ) → IsFirstOf (open_from i m) txnr index → Marked i m txnr (remove (open_from i m) index) (slice_index (open_from i m) index)
mark_first [] i txnr index h = absurd (omega (arith, h.inside))
mark_first (true ∷ m) i txnr index h =
    let r = mark_first m (i + 1) txnr index h in record {
      before = true ∷ r.before;
      after = r.after;
      was = ap (λ (l : List Bool). true ∷ l) r.was;
      left_is = r.left_is;
      number = let e : i + length (true ∷ r.before) ≡ i + 1 + length r.before = omega arith in ap txnr_of e ∙ r.number;
      earliest = r.earliest;
      place_is = r.place_is ∙ omega arith;
    }
mark_first (false ∷ m) i txnr zero h = record { before = []; after = m; was = refl; left_is = refl; number = let e : i + 0 ≡ i = omega arith in ap txnr_of e ∙ h.has; earliest = tt; place_is = omega arith }
mark_first (false ∷ m) i txnr (suc k) h =
    let P : ℕ → Type 0 = λ (p : ℕ). txnr_of p ≢ txnr in
    let rest = open_from (i + 1) m in
    let r = mark_first m (i + 1) txnr k (record { inside = omega (arith, h.inside); has = h.has; none = All-tail P i (take k rest) h.none }) in record {
      before = false ∷ r.before;
      after = r.after;
      was = ap (λ (l : List Bool). false ∷ l) r.was;
      left_is = ap (λ (l : List ℕ). i ∷ l) r.left_is;
      number = let e : i + length (false ∷ r.before) ≡ i + 1 + length r.before = omega arith in ap txnr_of e ∙ r.number;
      earliest = (All-head P i (take k rest) h.none, r.earliest);
      place_is = r.place_is ∙ omega arith;
    }

count_append : (a b : List Bool) → count_known (a ++ b) ≡ count_known a + count_known b
count_append [] b = omega arith
count_append (true ∷ a) b = omega (arith, count_append a b)
count_append (false ∷ a) b = count_append a b

count_none : (n : ℕ) → count_known (replicate n false) ≡ 0
count_none zero = refl
count_none (suc n) = count_none n

front_none : (n : ℕ) → known_front (replicate n false) ≡ 0
front_none zero = refl
front_none (suc n) = refl

front_append : (m : List Bool) (n : ℕ) → known_front (m ++ replicate n false) ≡ known_front m
front_append [] n = front_none n
front_append (true ∷ m) n = ap (λ (k : ℕ). k + 1) (front_append m n)
front_append (false ∷ m) n = refl

pub count_grown : (w : ℕ) (m : List Bool) → count_known (grown w m) ≡ count_known m
count_grown w m = omega (arith, count_append m (replicate (w - length m) false), count_none (w - length m))

pub front_grown : (w : ℕ) (m : List Bool) → known_front (grown w m) ≡ known_front m
front_grown w m = front_append m (w - length m)

append_none : {A : Type 0} (xs : List A) → xs ++ [] ≡ xs
append_none {A = A} [] = refl
append_none {A = A} (x ∷ xs) = ap (λ (l : List A). x ∷ l) (append_none xs)

-- marks that are as many have none to be added
pub grown_whole : (w : ℕ) (m : List Bool) → length m ≡ w → grown w m ≡ m
grown_whole w m is = let e : w - length m ≡ 0 = omega (arith, is) in ap (λ (k : ℕ). m ++ replicate k false) e ∙ append_none m

pub grown_short : (w : ℕ) (m : List Bool) → length (grown w m) ≡ w → length m ≤ w
grown_short w m is = omega (arith, is, length-append m (replicate (w - length m) false))

pub grown_one : (w : ℕ) (m : List Bool) → length (grown w m) ≡ w → grown (w + 1) m ≡ grown w m ++ false ∷ []
grown_one w m is =
    let le = grown_short w m is in
    let e : w + 1 - length m ≡ w - length m + 1 = omega (arith, le) in
    ap (λ (k : ℕ). m ++ replicate k false) e ∙ ap (λ (l : List Bool). m ++ l) (replicate_next (w - length m) false) ∙ sym (append_assoc m (replicate (w - length m) false) (false ∷ []))

pub open_append : (a b : List Bool) (i : ℕ) → open_from i (a ++ b) ≡ open_from i a ++ open_from (i + length a) b
open_append [] b i = let e : i ≡ i + 0 = omega arith in ap (λ (k : ℕ). open_from k b) e
open_append (true ∷ a) b i = let e : i + 1 + length a ≡ i + length (true ∷ a) = omega arith in open_append a b (i + 1) ∙ ap (λ (k : ℕ). open_from (i + 1) a ++ open_from k b) e
open_append (false ∷ a) b i = let e : i + 1 + length a ≡ i + length (false ∷ a) = omega arith in ap (λ (l : List ℕ). i ∷ l) (open_append a b (i + 1) ∙ ap (λ (k : ℕ). open_from (i + 1) a ++ open_from k b) e)

pub marked_length : (before after : List Bool) → length (before ++ true ∷ after) ≡ length (before ++ false ∷ after)
marked_length [] after = refl
marked_length (b ∷ before) after = ap suc (marked_length before after)

-- as many may be written as were, where the window is full, or all that there are were written
pub allowed_full : (n w : ℕ) (m : List Bool) → length (grown w m) ≡ w → length (open_from 0 (grown w m)) ≡ 1024 → w ≤ n → allowed n m ≡ w
allowed_full n w m is full le = grind (arith, common_steps, is, full, le, count_open (grown w m) 0, count_grown w m)

pub allowed_all : (n w : ℕ) (m : List Bool) → length (grown w m) ≡ w → length (open_from 0 (grown w m)) ≤ 1024 → w ≡ n → allowed n m ≡ w
allowed_all n w m is few e = grind (arith, common_steps, is, few, e, count_open (grown w m) 0, count_grown w m)

-- as many as were written may be written
pub allowed_least : (n w : ℕ) (m : List Bool) → w ≤ n → w ≤ 1024 + count_known m → w ≤ allowed n m
allowed_least n w m a b = omega (arith, a, b)

-- ---- which entries are acknowledged

-- with one mark more, those before and that one are
pub known_now : (before after : List Bool) (q : ℕ) → get_or (before ++ true ∷ after) q false ≡ true → (get_or (before ++ false ∷ after) q false ≡ true) ⊎ (q ≡ length before)
known_now [] after zero h = inr refl
known_now [] after (suc q) h = inl h
known_now (b ∷ before) after zero h = inl h
known_now (b ∷ before) after (suc q) h = elim (known_now before after q h) [ inl k ↦ inl k | inr e ↦ inr (ap suc e) ]

pub known_still : (before after : List Bool) (q : ℕ) → get_or (before ++ false ∷ after) q false ≡ true → get_or (before ++ true ∷ after) q false ≡ true
known_still [] after zero h = refl
known_still [] after (suc q) h = h
known_still (b ∷ before) after zero h = h
known_still (b ∷ before) after (suc q) h = known_still before after q h

pub known_here : (before after : List Bool) → get_or (before ++ true ∷ after) (length before) false ≡ true
known_here [] after = refl
known_here (b ∷ before) after = known_here before after

pub not_known : (before after : List Bool) → get_or (before ++ false ∷ after) (length before) false ≡ true → ⊥
not_known [] after h = false≢true h
not_known (b ∷ before) after h = not_known before after h

none_known : (n q : ℕ) → get_or (replicate n false) q false ≡ false
none_known zero q = refl
none_known (suc n) zero = refl
none_known (suc n) (suc q) = none_known n q

known_append : (m : List Bool) (n q : ℕ) → get_or (m ++ replicate n false) q false ≡ get_or m q false
known_append [] n q = none_known n q
known_append (b ∷ m) n zero = refl
known_append (b ∷ m) n (suc q) = known_append m n q

pub known_grown : (w : ℕ) (m : List Bool) (q : ℕ) → get_or (grown w m) q false ≡ get_or m q false
known_grown w m q = known_append m (w - length m) q

pub front_known : (m : List Bool) (q : ℕ) → q < known_front m → get_or m q false ≡ true
front_known [] q lt = absurd (omega (arith, lt))
front_known (true ∷ m) zero lt = refl
front_known (true ∷ m) (suc q) lt = front_known m q (omega (arith, lt))
front_known (false ∷ m) q lt = absurd (omega (arith, lt))

-- ---- the first entry that awaits a number

pub none_awaits : (w txnr : ℕ) (marks : List Bool) → length (grown w marks) ≡ w → All (λ (p : ℕ). txnr_of p ≢ txnr) (open_from 0 (grown w marks)) → NoneAwaits w marks txnr
none_awaits w txnr marks len all = λ q a.
    let at : 0 + q ≡ q = omega arith in
    not_in (grown w marks) 0 q txnr (none_in (grown w marks) 0 txnr all) (omega (arith, a.within, len)) (known_grown w marks q ∙ a.unanswered) (ap txnr_of at ∙ a.number)

at_front : (before rest : List Bool) (q : ℕ) → q < length before → get_or before q false ≡ get_or (before ++ rest) q false
at_front [] rest q lt = absurd (omega (arith, lt))
at_front (b ∷ before) rest zero lt = refl
at_front (b ∷ before) rest (suc q) lt = at_front before rest q (omega (arith, lt))

at_here : (before after : List Bool) (b : Bool) → get_or (before ++ b ∷ after) (length before) false ≡ b
at_here [] after b = refl
at_here (c ∷ before) after b = at_here before after b

-- of the entries that may be written, of which so many were
pub earliest_of : (w v txnr : ℕ) (marks before after : List Bool) → length (grown w marks) ≡ w → grown w marks ≡ before ++ false ∷ after → txnr_of (0 + length before) ≡ txnr → NoneIn 0 before txnr → w ≤ v → IsEarliest v marks txnr (length before)
earliest_of w v txnr marks before after len parts number none le =
    let at : length before ≡ 0 + length before = omega arith in
    let long : length (grown w marks) ≡ length before + length (false ∷ after) = ap length parts ∙ length-append before (false ∷ after) in
    let same : (q : ℕ) → get_or marks q false ≡ get_or (before ++ false ∷ after) q false = λ q. sym (known_grown w marks q) ∙ ap (λ (l : List Bool). get_or l q false) parts in
    record {
      awaits = record { within = omega (arith, long, len, le); unanswered = same (length before) ∙ at_here before after false; number = ap txnr_of at ∙ number };
      earlier = λ q a. (let at_q : 0 + q ≡ q = omega arith in
          not_in before 0 q txnr none a.within (at_front before (false ∷ after) q a.within ∙ sym (same q) ∙ a.unanswered) (ap txnr_of at_q ∙ a.number));
    }

-- with its mark
pub grown_marked : (before marks after : List Bool) (w : ℕ) → length marks ≤ w → grown w marks ≡ before ++ false ∷ after → grown w (marked_at (length before) marks) ≡ before ++ true ∷ after
grown_marked [] [] after zero le is = absurd (omega (arith, ap length is))
grown_marked [] [] after (suc w) le is =
    let all : suc w - 0 ≡ suc w = omega arith in
    let rest : suc w - length (true ∷ []) ≡ w = omega arith in
    let grew : false ∷ replicate w false ≡ false ∷ after = ap (λ (k : ℕ). replicate k false) (sym all) ∙ is in
    let tail : replicate w false ≡ after = cc in
    ap (λ (k : ℕ). true ∷ replicate k false) rest ∙ ap (λ (l : List Bool). true ∷ l) tail
grown_marked [] (b ∷ marks) after w le is =
    let tail : marks ++ replicate (w - length (b ∷ marks)) false ≡ after = cc in
    ap (λ (l : List Bool). true ∷ l) tail
grown_marked (c ∷ before) [] after zero le is = absurd (omega (arith, ap length is))
grown_marked (c ∷ before) [] after (suc w) le is =
    let all : suc w - 0 ≡ suc w = omega arith in
    let none : w - 0 ≡ w = omega arith in
    let grew : false ∷ replicate w false ≡ c ∷ (before ++ false ∷ after) = ap (λ (k : ℕ). replicate k false) (sym all) ∙ is in
    let head : false ≡ c = cc in
    let tail : replicate w false ≡ before ++ false ∷ after = cc in
    let next = grown_marked before [] after w (omega arith) (ap (λ (k : ℕ). replicate k false) none ∙ tail) in
    let x = marked_at (length before) [] in
    let less : suc w - length (false ∷ x) ≡ w - length x = omega arith in
    ap (λ (k : ℕ). false ∷ (x ++ replicate k false)) less ∙ ap (λ (l : List Bool). false ∷ l) next ∙ ap (λ (b : Bool). b ∷ (before ++ true ∷ after)) head
grown_marked (c ∷ before) (b ∷ marks) after zero le is = absurd (omega (arith, le))
grown_marked (c ∷ before) (b ∷ marks) after (suc w) le is =
    let same : w - length marks ≡ suc w - length (b ∷ marks) = omega arith in
    let head : b ≡ c = cc in
    let tail : marks ++ replicate (suc w - length (b ∷ marks)) false ≡ before ++ false ∷ after = cc in
    let next = grown_marked before marks after w (omega (arith, le)) (ap (λ (k : ℕ). marks ++ replicate k false) same ∙ tail) in
    let x = marked_at (length before) marks in
    let less : suc w - length (b ∷ x) ≡ w - length x = omega arith in
    ap (λ (k : ℕ). b ∷ (x ++ replicate k false)) less ∙ ap (λ (l : List Bool). b ∷ l) next ∙ ap (λ (d : Bool). d ∷ (before ++ true ∷ after)) head
