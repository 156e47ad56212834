-- A page of the source's entries, walked and given up.
use Rattle.std.proofs.Common.{◌≡◌, inl, inr, ℕ, ◌+◌, ◌-◌, ◌<◌, ◌≤◌, List, ◌++◌, length, take, drop, sym, ◌∙◌, ap, subst, arith, length-drop, length-take, length-append, take-append-drop}
use Rattle.std.specs.Prelude.{not}
use Rattle.std.specs.List.{Contains}
use Rattle.std.specs.BTreeSet.{BTreeSet, contains}
use Rattle.std.specs.Ordering.{nat_cmp}
use Rattle.std.proofs.Math.Seq.{take-add}
use Rattle.std.proofs.lemmas.Bool.{cases_lt}
use Rattle.std.proofs.lemmas.List.{drop-drop, map-append, take-take}
use Rattle.std.proofs.lemmas.List.Elements.{All-drop, All-take, Contains-append_cases, filter-append}
use Rattle.event_form.specs.declared.event.Entry.{Entry}
use Rattle.spool_state.specs.SpoolState.{SpoolState}
use Rattle.spool_state.specs.Left.{NumberedEntry, left, left_from}
use Rattle.spool_state.proofs.Following.{follows_then}
use Rattle.spool_state.proofs.Unknown.{filter_like}
use Rattle.spool_move.specs.Moved.{moved, all_moved, is_present, missing}
use Rattle.spool_move.specs.Stands.{AreGivenUp, ArePages, HasTaken, Stands}
use Rattle.spool_move.specs.Reading.{IsSearched}
use Rattle.spool_move.specs.Walking.{absent, after_last, HasGivenTo}
use Rattle.spool_move.proofs.Growing.{taken_then}
use Rattle.spool_move.proofs.Rising.{after_first, before_last, left_rises_from}

module _ (tag : ℕ) (m u : SpoolState) (present : BTreeSet ℕ) (searched : IsSearched tag m (left u) present) (walked : ℕ) (s t : SpoolState) (stands : Stands tag m u walked walked s t) where
  -- of the next entries those that the set hasn't are those that aren't present
  pub absent_missing : (k : ℕ) → absent present (take k (left s)) ≡ missing tag (left u) (take k (drop walked (left m)))
  absent_missing k =
      let P : NumberedEntry → Type 0 = λ one. contains nat_cmp present one.number ≡ is_present tag (left u) one.number in
      ap (λ (l : List NumberedEntry). absent present (take k l)) stands.source.left_is
      ∙ filter_like (λ e. not (contains nat_cmp present e.number)) (λ e. not (is_present tag (left u) e.number)) (take k (drop walked (left m)))
      (λ i d lt. ap not (All-take P k (drop walked (left m)) (All-drop P walked (left m) searched.presence) i d lt))

  missing_more : (k : ℕ) → missing tag (left u) (take walked (left m)) ++ absent present (take k (left s)) ≡ missing tag (left u) (take (walked + k) (left m))
  missing_more k =
      let front = take walked (left m) in
      let next = take k (drop walked (left m)) in
      ap (λ (l : List NumberedEntry). missing tag (left u) front ++ l) (absent_missing k)
      ∙ sym (filter-append (λ e. not (is_present tag (left u) e.number)) front next)
      ∙ ap (missing tag (left u)) (sym (take-add walked k (left m)))

  -- so many entries were taken then
  pub taken_count : (k : ℕ) → length (missing tag (left u) (take walked (left m))) + length (absent present (take k (left s))) ≡ length (missing tag (left u) (take (walked + k) (left m)))
  taken_count k = sym (length-append (missing tag (left u) (take walked (left m))) (absent present (take k (left s)))) ∙ ap length (missing_more k)

  -- the target took the next ones
  pub taken_on : (k : ℕ) (t' : SpoolState) → HasTaken t (all_moved tag (absent present (take k (left s)))) t' → HasTaken u (all_moved tag (missing tag (left u) (take (walked + k) (left m)))) t'
  taken_on k t' more =
      let had = missing tag (left u) (take walked (left m)) in
      let now = absent present (take k (left s)) in
      subst (λ (l : List Entry). HasTaken u l t') (sym (map-append (λ one. moved tag one) had now) ∙ ap (all_moved tag) (missing_more k))
      (taken_then u t t' (all_moved tag had) (all_moved tag now) stands.target more)

  within : (k : ℕ) → k ≤ length (left s) → walked + k ≤ length (left m)
  within k le = omega (arith, le, ap length stands.source.left_is, length-drop walked (left m), stands.within)

  pub stands_taken : (k : ℕ) (t' : SpoolState) → ArePages m walked → k ≤ 128 → k ≤ length (left s) → HasTaken t (all_moved tag (absent present (take k (left s)))) t' → Stands tag m u (walked + k) walked s t'
  stands_taken k t' pages few le more = record {
    within = within k le;
    behind = omega arith;
    soon = omega (arith, few);
    paged = inl pages;
    sure = λ some. searched.none_strange;
    source = stands.source;
    target = taken_on k t' more;
  }

  -- and the source gave them up
  pub stands_given : (k upto : ℕ) (s' t' : SpoolState) → k ≤ length (left s) → HasTaken t (all_moved tag (absent present (take k (left s)))) t' → HasGivenTo s upto s' → left_from s upto ≡ drop k (left s)
      → AreGivenUp tag m u (walked + k) (walked + k) t' → Stands tag m u (walked + k) (walked + k) s' t'
  stands_given k upto s' t' le more given is paged = record {
    within = within k le;
    behind = omega arith;
    soon = omega arith;
    paged = paged;
    sure = λ some. searched.none_strange;
    source = record {
      base_same = given.base_same ∙ stands.source.base_same;
      list_same = given.list_same ∙ stands.source.list_same;
      run_same = given.run_same ∙ stands.source.run_same;
      follows = follows_then m s s' stands.source.follows given.follows;
      left_is = given.left_is ∙ is ∙ ap (drop k) stands.source.left_is ∙ drop-drop k walked (left m);
    };
    target = taken_on k t' more;
  }

-- After one page more whole pages are walked, or all entries.
pub pages_more : (m s : SpoolState) (walked k : ℕ) → left s ≡ drop walked (left m) → walked ≤ length (left m) → k ≡ length (take 128 (left s))
    → ArePages m walked → ArePages m (walked + k)
pages_more m s walked k is within page pages =
    let left_is : length (left s) ≡ length (left m) - walked = ap length is ∙ length-drop walked (left m) in
    elim (cases_lt (length (left s)) 128) [
      | inl lt ↦ inr (omega (arith, lt, page, length-take 128 (left s), left_is, within))
      | inr ge ↦ elim pages [
        | inl whole ↦ inl (whole.0 + 1, omega (arith, ge, page, length-take 128 (left s), whole.1))
        | inr all ↦ absurd (omega (arith, ge, all, left_is))
      ]
    ]

-- the first so many of a page are the first of what is left, and behind them the others are
module _ (s : SpoolState) (upto : ℕ) (page : List NumberedEntry) (known : upto ≤ s.cursor) (is : page ≡ take 128 (left s)) where
  pub page_few : length page ≤ 128
  page_few = omega (arith, ap length is, length-take 128 (left s))

  pub page_within : length page ≤ length (left s)
  page_within = omega (arith, ap length is, length-take 128 (left s))

  pub page_first : (k : ℕ) → k ≤ length page → take k page ≡ take k (left s)
  page_first k le = ap (take k) is ∙ take-take k 128 (left s) (omega (arith, le, page_few))

  pub page_behind : (k : ℕ) → k ≤ length page → left_from s (after_last upto (take k page)) ≡ drop k (left s)
  page_behind k le = ap (λ (l : List NumberedEntry). left_from s (after_last upto l)) (page_first k le) ∙ after_first upto k (left s) (left_rises_from s upto known)

  -- an entry that is left with a lower number is one of the first
  pub page_has : (k : ℕ) → k ≤ length page → (one : NumberedEntry) → Contains (left s) one → one.number < after_last upto (take k page) → Contains (take k (left s)) one
  page_has k le one here lt =
      elim (Contains-append_cases (take k (left s)) (drop k (left s)) one (subst (λ (l : List NumberedEntry). Contains l one) (sym (take-append-drop k (left s))) here)) [
        | inl front ↦ front
        | inr behind ↦ absurd (before_last upto k (left s) one (left_rises_from s upto known) behind (subst (λ (l : List NumberedEntry). one.number < after_last upto l) (page_first k le) lt))
      ]
