-- Which entries are acknowledged, as the peer's frames come and as they are told.
use Rattle.std.proofs.Common.{◌≡◌, ◌≢◌, inl, inr, ℕ, zero, suc, ◌+◌, ◌<◌, ◌≤◌, ◌∙◌, Bool, true, false, List, [], ◌∷◌, ◌++◌, length, get_or, sym, ap, subst, arith}
use Rattle.std.specs.Prelude.{◌⊎◌, All, Contains, Option, Some, None, slice_index, ◌==◌, if◌then◌else◌}
use Rattle.std.specs.List.{AllPairs, remove}
use Rattle.std.proofs.lemmas.Bool.{false≢true, ne_eqb}
use Rattle.std.proofs.lemmas.List.Elements.{All-head, All-get_or, Contains-get_or, Contains-push, Contains-push_cases, Contains-append_left}
use Rattle.std.proofs.lemmas.List.Quantifiers.{all_pairs_push}
use Rattle.relp_sender.specs.Marks.{grown, open_from, known_front}
use Rattle.relp_sender.specs.Window.{first_open, beyond_of}
use Rattle.relp_sender.specs.Progress.{Progress, Unopened, Opened, IsKnown}
use Rattle.relp_sender.specs.Sends.{Knows}
use Rattle.relp_sender.proofs.Marking.{known_now, known_still, known_here, not_known, known_grown, front_known, front_open}
use Rattle.relp_sender.proofs.TextLaws.{append_none}

-- a progress with the same marks
pub knows_same : (also : List ℕ) (p q : Progress) (first : ℕ) (beyond : Option ℕ) → ((place : ℕ) → IsKnown q place → IsKnown p place) → ((place : ℕ) → IsKnown p place → IsKnown q place) → Knows also p first beyond → Knows also q first beyond
knows_same also p q first beyond to from k = record {
  known = λ place x. k.known place (to place x);
  told = λ place x. from place (k.told place x);
  once = k.once;
  next = λ place x. (let n = k.next place x in (from place n.0, n.1));
}

pub known_marks : (p : Progress) (marks : List Bool) (w place : ℕ) → p ≡ Opened marks → IsKnown p place → get_or (grown w marks) place false ≡ true
known_marks p marks w place is h = known_grown w marks place ∙ subst (λ (q : Progress). IsKnown q place) is h

pub marks_known : (p : Progress) (marks : List Bool) (w place : ℕ) → p ≡ Opened marks → get_or (grown w marks) place false ≡ true → IsKnown p place
marks_known p marks w place is h = subst (λ (q : Progress). IsKnown q place) (sym is) (sym (known_grown w marks place) ∙ h)

-- the session is open: no entry is acknowledged yet
pub knows_opened : (also : List ℕ) (p : Progress) (first : ℕ) (beyond : Option ℕ) → p ≡ Unopened → Knows also p first beyond → Knows also (Opened []) first beyond
knows_opened also p first beyond is k =
    let none : (place : ℕ) → IsKnown p place → ⊥ = λ place h. subst (λ (q : Progress). IsKnown q place) is h in
    record {
      known = λ place x. absurd (false≢true x);
      told = λ place x. absurd (none place (k.told place x));
      once = k.once;
      next = λ place x. absurd (none place (k.next place x).0);
    }

pub beyond_some : (index x place : ℕ) → beyond_of index x ≡ Some place → x ≡ place
beyond_some index x place h = go (index == 0) h
  where
    go : (b : Bool) → (if b then None else Some x) ≡ Some place → x ≡ place
    go true e = absurd cc
    go false e = cc

pub front_rises : (ps : List ℕ) (w index : ℕ) → AllPairs (λ (a b : ℕ). a < b) ps → All (λ (p : ℕ). p < w) ps → index < length ps → first_open ps w ≤ first_open (remove ps index) w
front_rises [] w index order below lt = absurd (omega (arith, lt))
front_rises (p ∷ []) w zero order below lt = let h = All-head (λ (q : ℕ). q < w) p [] below in omega (arith, h)
front_rises (p ∷ q ∷ ps) w zero order below lt = let h : p < q = order 0 1 0 (omega arith) (omega arith) in omega (arith, h)
front_rises (p ∷ ps) w (suc k) order below lt = omega arith

-- the place that is acknowledged: the first ones grow past it, or it is to be told by itself
new_place : (ps : List ℕ) (w index place : ℕ) → AllPairs (λ (a b : ℕ). a < b) ps → All (λ (p : ℕ). p < w) ps → index < length ps → place ≡ slice_index ps index → (place < first_open (remove ps index) w) ⊎ (beyond_of index (slice_index ps index) ≡ Some place)
new_place [] w index place order below lt is = absurd (omega (arith, lt))
new_place (p ∷ []) w zero place order below lt is = let h = All-head (λ (q : ℕ). q < w) p [] below in inl (omega (arith, h, is))
new_place (p ∷ q ∷ ps) w zero place order below lt is = let h : p < q = order 0 1 0 (omega arith) (omega arith) in inl (omega (arith, h, is))
new_place (p ∷ ps) w (suc k) place order below lt is =
    let no : (suc k == 0) ≡ false = ne_eqb (suc k) 0 (λ q. omega arith) in
    inr (ap (λ (b : Bool). if b then None else Some (slice_index (p ∷ ps) (suc k))) no ∙ ap Some (sym is))

-- one that is to be told by itself comes after the first that isn't acknowledged
pub beyond_at : (ps : List ℕ) (w index place : ℕ) → AllPairs (λ (a b : ℕ). a < b) ps → All (λ (p : ℕ). p < w) ps → index < length ps → beyond_of index (slice_index ps index) ≡ Some place → (first_open (remove ps index) w < place) × (place < w)
beyond_at [] w index place order below lt h = absurd (omega (arith, lt))
beyond_at (p ∷ ps) w zero place order below lt h = absurd cc
beyond_at (p ∷ ps) w (suc k) place order below lt h =
    let x = slice_index (p ∷ ps) (suc k) in
    let e : x ≡ place = beyond_some (suc k) x place h in
    let o : p < x = order 0 (suc k) 0 (omega arith) lt in
    let b : x < w = All-get_or (λ (q : ℕ). q < w) (p ∷ ps) (suc k) 0 lt below in
    (omega (arith, o, e), omega (arith, b, e))

-- one mark more, of the entry at an index of those that were not acknowledged
pub knows_marked : (also : List ℕ) (p : Progress) (marks before after : List Bool) (ps : List ℕ) (w index : ℕ) (was : Option ℕ) → p ≡ Opened marks → grown w marks ≡ before ++ false ∷ after → slice_index ps index ≡ length before
    → AllPairs (λ (a b : ℕ). a < b) ps → All (λ (q : ℕ). q < w) ps → index < length ps → was ≡ None → Knows also p (first_open ps w) was
    → Knows also (Opened (before ++ true ∷ after)) (first_open (remove ps index) w) (beyond_of index (slice_index ps index))
knows_marked also p marks before after ps w index was is parts place_is order below lt none k =
    let x = slice_index ps index in
    let old : (q : ℕ) → get_or (before ++ false ∷ after) q false ≡ true → IsKnown p q = λ q h. marks_known p marks w q is (ap (λ (l : List Bool). get_or l q false) parts ∙ h) in
    let in_marks : (q : ℕ) → IsKnown p q → get_or (before ++ false ∷ after) q false ≡ true = λ q h. sym (ap (λ (l : List Bool). get_or l q false) parts) ∙ known_marks p marks w q is h in
    let rises = front_rises ps w index order below lt in
    record {
      known = λ q h. elim (known_now before after q h) [
        | inl y ↦ elim (k.known q (old q y)) [
          | inl low ↦ inl (omega (arith, low, rises))
          | inr rest ↦ elim rest [ inl c ↦ inr (inl c) | inr e ↦ absurd (let f : None ≡ Some q = sym none ∙ e in cc) ]
        ]
        | inr e ↦ elim (new_place ps w index q order below lt (e ∙ sym place_is)) [ inl low ↦ inl low | inr b ↦ inr (inr b) ]
      ];
      told = λ q c. known_still before after q (in_marks q (k.told q c));
      once = k.once;
      next = λ q e. (let at : length before ≡ q = sym place_is ∙ beyond_some index x q e in (
        subst (λ (n : ℕ). get_or (before ++ true ∷ after) n false ≡ true) at (known_here before after),
        λ c. not_known before after (subst (λ (n : ℕ). get_or (before ++ false ∷ after) n false ≡ true) (sym at) (in_marks q (k.told q c))),
      ));
    }

-- it is told by itself
pub knows_told : (also : List ℕ) (p : Progress) (first place : ℕ) (beyond : Option ℕ) → beyond ≡ Some place → Knows also p first beyond → Knows (also ++ place ∷ []) p first None
knows_told also p first place beyond is k =
    let n = k.next place is in
    record {
      known = λ q h. elim (k.known q h) [
        | inl low ↦ inl low
        | inr rest ↦ inr (inl (elim rest [
          | inl c ↦ Contains-append_left also (place ∷ []) q c
          | inr e ↦ (let f : place ≡ q = (let g : Some place ≡ Some q = sym is ∙ e in cc) in subst (Contains (also ++ place ∷ [])) f (Contains-push also place))
        ]))
      ];
      told = λ q c. elim (Contains-push_cases also place q c) [ inl d ↦ k.told q d | inr e ↦ subst (IsKnown p) e n.0 ];
      once = all_pairs_push (λ (a b : ℕ). a ≢ b) also place k.once (λ i d lt e. n.1 (subst (Contains also) e (Contains-get_or also i d lt)));
      next = λ q e. absurd cc;
    }

pub knows_also : (also : List ℕ) (p : Progress) (first : ℕ) (beyond : Option ℕ) → Knows also p first beyond → Knows (also ++ []) p first beyond
knows_also also p first beyond k = subst (λ (l : List ℕ). Knows l p first beyond) (sym (append_none also)) k

-- the first ones, up to the first unanswered one, are acknowledged
pub known_below : (p : Progress) (marks : List Bool) (ps : List ℕ) (w place : ℕ) → p ≡ Opened marks → length (grown w marks) ≡ w → ps ≡ open_from 0 (grown w marks) → place < first_open ps w → IsKnown p place
known_below p marks ps w place is len places lt =
    let m = grown w marks in
    let n : 0 + length m ≡ w = omega (arith, len) in
    let front : first_open (open_from 0 m) w ≡ known_front m = subst (λ (k : ℕ). first_open (open_from 0 m) k ≡ known_front m) n (front_open m 0 ∙ omega arith) in
    let e : first_open ps w ≡ known_front m = ap (λ (l : List ℕ). first_open l w) places ∙ front in
    marks_known p marks w place is (front_known m place (omega (arith, lt, e)))
