-- A page walked entry by entry.
use Rattle.std.proofs.Common.{◌≡◌, inl, inr, ℕ, ◌+◌, Bool, true, false, cond, List, [], ◌∷◌, ◌++◌, length, take, drop, Ok, Err, refl, sym, ◌∙◌, ap, subst, arith, append_assoc, length-append}
use Rattle.std.specs.Prelude.{not}
use Rattle.std.specs.BTreeSet.{BTreeSet, contains}
use Rattle.std.specs.Ordering.{nat_cmp}
use Rattle.std.proofs.Math.Seq.{take-append-add, take-append_seam, drop-append_seam}
use Rattle.std.proofs.lemmas.List.{map-append, take-append-le, take_all}
use Rattle.std.proofs.lemmas.List.Elements.{filter-append}
use Rattle.event_form.specs.declared.event.Entry.{Entry}
use Rattle.edge_disk.specs.Disk.{Moment, IsLawful, LeavesOnly}
use Rattle.edge_disk.proofs.Moments.{both, started, weaker}
use Rattle.spool_state.specs.Image.{StandsFor}
use Rattle.spool_state.specs.SpoolState.{SpoolState}
use Rattle.spool_state.specs.Left.{NumberedEntry}
use Rattle.spool_faults.specs.declared.fault.TakeFault.{TakeFault}
use Rattle.spool_answers.specs.declared.numbered.Numbered.{Numbered}
use Rattle.spool_answers.specs.Pend.{given_entries}
use Rattle.spool_log.specs.State.{View, IsIn}
use Rattle.spool_move.specs.declared.walking.course.Course.{Course}
use Rattle.spool_move.specs.Moved.{all_moved, moved}
use Rattle.spool_move.specs.Stands.{HasTaken}
use Rattle.spool_move.specs.Reading.{as_entry}
use Rattle.spool_move.specs.Walking.{absent, after_last, IsTaking, IsWalking, TakesOne, TakesPage, WalksOne}
use Rattle.spool_move.proofs.Growing.{taken_none, taken_then}

-- ---- one entry, which the set has or hasn't

pub one_absent : (present : BTreeSet ℕ) (one : NumberedEntry) → contains nat_cmp present one.number ≡ false → absent present (one ∷ []) ≡ one ∷ []
one_absent present one off = ap (λ (b : Bool). cond (not b) (one ∷ []) (let none : List NumberedEntry = [] in none)) off

pub one_present : (present : BTreeSet ℕ) (one : NumberedEntry) → contains nat_cmp present one.number ≡ true → absent present (one ∷ []) ≡ []
one_present present one is = ap (λ (b : Bool). cond (not b) (one ∷ []) (let none : List NumberedEntry = [] in none)) is

module _ (tag : ℕ) (present : BTreeSet ℕ) (one : NumberedEntry) (t : SpoolState) (old new : View) (held : IsIn t [] old) where
  none_walked : (d : List ℕ) (v : SpoolState) → StandsFor v d → HasTaken t [] v → IsWalking tag present (one ∷ []) t d
  none_walked d v stands none = (0, v, stands, record { within = omega arith; taken = none })

  -- the set has it: nothing is done
  pub walks_present : (lawful : IsLawful old.moment) → contains nat_cmp present one.number ≡ true → WalksOne tag present one t (Ok tt) old old
  walks_present lawful is =
      let none = taken_none t held.sound.from_base in
      record {
        walked = (t, held, subst (λ (l : List NumberedEntry). HasTaken t (all_moved tag l) t) (sym (one_present present one is)) none);
        any_moment = started (IsWalking tag present (one ∷ []) t) old.moment lawful (λ d image. none_walked d t (held.each d image) none);
      }

  taken_walking : contains nat_cmp present one.number ≡ false → (d : List ℕ) → IsTaking t (moved tag one ∷ []) d → IsWalking tag present (one ∷ []) t d
  taken_walking off d taking = elim taking.2 [
    | inl none ↦ none_walked d taking.0 taking.1 none
    | inr more ↦ (
      1,
      taking.0,
      taking.1,
      record { within = omega arith; taken = subst (λ (l : List NumberedEntry). HasTaken t (all_moved tag l) taking.0) (sym (one_absent present one off)) more },
    )
  ]

  -- it is taken, or refused
  pub walks_taken : contains nat_cmp present one.number ≡ false → TakesOne t (moved tag one) (Ok tt) old new → WalksOne tag present one t (Ok tt) old new
  walks_taken off takes = record {
    walked = (takes.taken.0, takes.taken.1, subst (λ (l : List NumberedEntry). HasTaken t (all_moved tag l) takes.taken.0) (sym (one_absent present one off)) takes.taken.2);
    any_moment = weaker (IsTaking t (moved tag one ∷ [])) (IsWalking tag present (one ∷ []) t) old.moment new.moment takes.any_moment (taken_walking off);
  }

  pub walks_refused : (fault : TakeFault) → contains nat_cmp present one.number ≡ false → TakesOne t (moved tag one) (Err fault) old new → WalksOne tag present one t (Err fault) old new
  walks_refused fault off takes = record {
    walked = (off, takes.taken.0, takes.taken.1);
    any_moment = weaker (IsTaking t (moved tag one ∷ [])) (IsWalking tag present (one ∷ []) t) old.moment new.moment takes.any_moment (taken_walking off);
  }

-- ---- one entry after others

absent_more : (present : BTreeSet ℕ) (xs ys : List NumberedEntry) → absent present (xs ++ ys) ≡ absent present xs ++ absent present ys
absent_more present xs ys = filter-append (λ e. not (contains nat_cmp present e.number)) xs ys

-- how many that are
pub count_more : (present : BTreeSet ℕ) (xs ys : List NumberedEntry) → length (absent present (xs ++ ys)) ≡ length (absent present xs) + length (absent present ys)
count_more present xs ys = ap length (absent_more present xs ys) ∙ length-append (absent present xs) (absent present ys)

module _ (tag : ℕ) (present : BTreeSet ℕ) (t : SpoolState) where
  pub taken_more : (xs ys : List NumberedEntry) (t' v : SpoolState) → HasTaken t (all_moved tag (absent present xs)) t' → HasTaken t' (all_moved tag (absent present ys)) v → HasTaken t (all_moved tag (absent present (xs ++ ys))) v
  taken_more xs ys t' v so_far more =
      subst (λ (l : List Entry). HasTaken t l v) (sym (map-append (λ e. moved tag e) (absent present xs) (absent present ys)) ∙ ap (all_moved tag) (sym (absent_more present xs ys)))
      (taken_then t t' v (all_moved tag (absent present xs)) (all_moved tag (absent present ys)) so_far more)

  -- a longer page
  walking_longer : (xs ys : List NumberedEntry) (d : List ℕ) → IsWalking tag present xs t d → IsWalking tag present (xs ++ ys) t d
  walking_longer xs ys d walking = (
    walking.0,
    walking.1,
    walking.2,
    record {
      within = omega (arith, walking.3.within, length-append xs ys);
      taken = subst (λ (l : List NumberedEntry). HasTaken t (all_moved tag (absent present l)) walking.1) (sym (take-append-le walking.0 xs ys walking.3.within)) walking.3.taken;
    },
  )

  -- the next ones are walked
  walking_on : (xs ys : List NumberedEntry) (t' : SpoolState) → HasTaken t (all_moved tag (absent present xs)) t' → (d : List ℕ) → IsWalking tag present ys t' d → IsWalking tag present (xs ++ ys) t d
  walking_on xs ys t' so_far d walking = (
    length xs + walking.0,
    walking.1,
    walking.2,
    record {
      within = omega (arith, walking.3.within, length-append xs ys);
      taken = subst (λ (l : List NumberedEntry). HasTaken t (all_moved tag (absent present l)) walking.1) (sym (take-append-add xs ys walking.0))
          (taken_more xs (take walking.0 ys) t' walking.1 so_far walking.3.taken);
    },
  )

  pub run_more : (xs ys : List NumberedEntry) (t' : SpoolState) (old mid new : Moment) → HasTaken t (all_moved tag (absent present xs)) t' → LeavesOnly (IsWalking tag present xs t) old mid → LeavesOnly (IsWalking tag present ys t') mid new
      → LeavesOnly (IsWalking tag present (xs ++ ys) t) old new
  run_more xs ys t' old mid new so_far first next =
      both (IsWalking tag present xs t) (IsWalking tag present ys t') (IsWalking tag present (xs ++ ys) t) old mid new first next (walking_longer xs ys) (walking_on xs ys t' so_far)

  run_longer : (xs ys : List NumberedEntry) (old new : Moment) → LeavesOnly (IsWalking tag present xs t) old new → LeavesOnly (IsWalking tag present (xs ++ ys) t) old new
  run_longer xs ys old new run = weaker (IsWalking tag present xs t) (IsWalking tag present (xs ++ ys) t) old new run (walking_longer xs ys)

  -- all were walked
  pub page_whole : (page : List NumberedEntry) (t' : SpoolState) (before after : Course) (old new : View) → IsIn t' [] new → HasTaken t (all_moved tag (absent present page)) t' → LeavesOnly (IsWalking tag present page t) old.moment new.moment
      → after.upto ≡ after_last before.upto page → after.taken ≡ before.taken + length (absent present page) → TakesPage tag present page t (Ok tt) before after old new
  page_whole page t' before after old new held taken run upto_is taken_is =
      let all : take (length page) page ≡ page = take_all (length page) page (omega arith) in
      record {
        walked = length page;
        t' = t';
        has = record { within = omega arith; taken = subst (λ (l : List NumberedEntry). HasTaken t (all_moved tag (absent present l)) t') (sym all) taken };
        counted = record {
          upto_is = upto_is ∙ ap (after_last before.upto) (sym all);
          taken_is = taken_is ∙ ap (λ (l : List NumberedEntry). before.taken + length (absent present l)) (sym all);
        };
        ends = (held, refl);
        any_moment = run;
      }

  -- the next one was refused
  pub page_cut : (xs : List NumberedEntry) (one : NumberedEntry) (rest page : List NumberedEntry) (t' : SpoolState) (fault : TakeFault) (before after : Course) (old mid new : View) → page ≡ xs ++ (one ∷ rest)
      → HasTaken t (all_moved tag (absent present xs)) t' → LeavesOnly (IsWalking tag present xs t) old.moment mid.moment → WalksOne tag present one t' (Err fault) mid new
      → after.upto ≡ after_last before.upto xs → after.taken ≡ before.taken + length (absent present xs) → TakesPage tag present page t (Err fault) before after old new
  page_cut xs one rest page t' fault before after old mid new is taken run cut upto_is taken_is =
      let front : take (length xs) page ≡ xs = ap (take (length xs)) is ∙ take-append_seam xs (one ∷ rest) in
      record {
        walked = length xs;
        t' = t';
        has = record {
          within = omega (arith, ap length is, length-append xs (one ∷ rest));
          taken = subst (λ (l : List NumberedEntry). HasTaken t (all_moved tag (absent present l)) t') (sym front) taken;
        };
        counted = record {
          upto_is = upto_is ∙ ap (after_last before.upto) (sym front);
          taken_is = taken_is ∙ ap (λ (l : List NumberedEntry). before.taken + length (absent present l)) (sym front);
        };
        ends = record {
          one = one;
          rest = rest;
          next = ap (drop (length xs)) is ∙ drop-append_seam xs (one ∷ rest);
          absent_is = cut.walked.0;
          refused = cut.walked.1;
          reached = cut.walked.2;
        };
        any_moment = subst (λ (l : List NumberedEntry). LeavesOnly (IsWalking tag present l t) old.moment new.moment) (append_assoc xs (one ∷ []) rest ∙ sym is)
            (run_longer (xs ++ one ∷ []) rest old.moment new.moment (run_more xs (one ∷ []) t' old.moment mid.moment new.moment taken run cut.any_moment));
      }

-- the page as it is given
pub given_cut : (yielded : List Numbered) (one : Numbered) (rest page : List Numbered) → page ≡ yielded ++ (one ∷ rest) → given_entries page ≡ given_entries yielded ++ (as_entry one ∷ given_entries rest)
given_cut yielded one rest page is = ap given_entries is ∙ map-append as_entry yielded (one ∷ rest)
