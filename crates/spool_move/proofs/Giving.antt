-- Numbers given up outside doubt.
use Rattle.std.proofs.Common.{◌≡◌, ◌⊎◌, inl, inr, ℕ, ◌≤◌, List, [], ◌∷◌, Ok, Err, refl, sym, ◌∙◌, ap, arith}
use Rattle.std.specs.Prelude.{All, not, nat_le}
use Rattle.std.proofs.lemmas.Bool.{cases_lt, cond_both, leb-true, le-leb, lt-leb}
use Rattle.known_numbers.specs.Numbers.{Numbers, IsKnown, marked}
use Rattle.known_numbers.proofs.Marking.{confirmed_same, confirmed_reaches, marked_only, marked_rises}
use Rattle.edge_disk.specs.Disk.{LeavesOnly}
use Rattle.edge_disk.proofs.Moments.{weaker}
use Rattle.spool_state.specs.SpoolState.{SpoolState, numbers_of, IsSound}
use Rattle.spool_state.specs.Left.{is_known, left, left_from}
use Rattle.spool_state.proofs.Following.{follows_self}
use Rattle.spool_state.proofs.Lefts.{left_unknown, left_from-cursor}
use Rattle.spool_state.proofs.Registered.{with_marked, follows_marked, left-marked}
use Rattle.spool_state.proofs.Unknown.{filter_like, known_from, unknown_from}
use Rattle.spool_faults.specs.declared.fault.ConfirmFault.{ConfirmFault}
use Rattle.spool_faults.specs.declared.fault.ConfirmFault.TheVariants as Confirm
use Rattle.spool_answers.specs.Mark.{all_below}
use Rattle.spool_answers.specs.Stages.{known_stages, last_of, total_of}
use Rattle.spool_log.specs.Outcome.{MarksFrom}
use Rattle.spool_log.specs.State.{View, IsIn, LeavesStages}
use Rattle.desk_access.proofs.Stages.{none_of, cons_of}
use Rattle.spool_move.specs.Fault.{of_confirm}
use Rattle.spool_move.specs.Walking.{HasGivenTo, IsGiving, GivesUp}
use Rattle.spool_move.proofs.Growing.{midway_stands}
use Rattle.spool_move.proofs.Outside.{MarksNow, sure_marks}

module _ (s : SpoolState) (upto : ℕ) (sound : IsSound s) where
  now : Numbers
  now = marked (numbers_of s) (all_below upto)

  -- a number that wasn't known is known then exactly where it is below
  same_test : (n : ℕ) → (IsKnown (numbers_of s) n → ⊥) → not (is_known (marked (numbers_of s) (all_below upto)) n) ≡ nat_le upto n
  same_test n off = elim (cases_lt n upto) [
    | inl lt ↦
        let reaches = confirmed_reaches (numbers_of s) upto sound.known in
        ap not (known_from (marked (numbers_of s) (all_below upto)) n (inl (omega (arith, lt, reaches)))) ∙ sym (lt-leb upto n lt)
    | inr ge ↦
        ap not (unknown_from (marked (numbers_of s) (all_below upto)) n (λ known. elim (marked_only (numbers_of s) (all_below upto) n known) [
          | inl was ↦ off was
          | inr there ↦ elim there [ inl within ↦ omega (arith, within.1, ge) | inr none ↦ none ]
        ])) ∙ sym (le-leb upto n ge)
  ]

  left_given : left (with_marked s (all_below upto)) ≡ left_from s upto
  left_given =
      left-marked s (all_below upto) sound
      ∙ filter_like (λ e. not (is_known (marked (numbers_of s) (all_below upto)) e.number)) (λ e. nat_le upto e.number) (left s)
      (λ k d lt. same_test _ (left_unknown s k d lt))

  -- the register written, or nothing new
  written : HasGivenTo s upto (with_marked s (all_below upto))
  written = record {
    base_same = refl;
    list_same = refl;
    run_same = refl;
    follows = follows_marked s (all_below upto) sound;
    left_is = left_given;
    known = confirmed_reaches (numbers_of s) upto sound.known;
  }

  idle : marked (numbers_of s) (all_below upto) ≡ numbers_of s → HasGivenTo s upto s
  idle same =
      let reaches : upto ≤ s.cursor = omega (arith, confirmed_reaches (numbers_of s) upto sound.known, ap (λ (n : Numbers). n.cursor) same) in
      record {
        base_same = refl;
        list_same = refl;
        run_same = refl;
        follows = follows_self s sound.from_base;
        left_is = sym (left_from-cursor s upto reaches);
        known = reaches;
      }

  is_same : total_of (marked (numbers_of s) (all_below upto)) ≤ total_of (numbers_of s) → marked (numbers_of s) (all_below upto) ≡ numbers_of s
  is_same le = elim (marked_rises (numbers_of s) (all_below upto) sound.known) [ inl same ↦ same | inr rises ↦ absurd (omega (arith, le, rises)) ]

  pub given_last : HasGivenTo s upto (last_of s (known_stages s (all_below upto)))
  given_last =
      cond_both (nat_le (total_of (marked (numbers_of s) (all_below upto))) (total_of (numbers_of s))) [] (with_marked s (all_below upto) ∷ []) (λ (l : List SpoolState). HasGivenTo s upto (last_of s l))
      (λ yes. idle (is_same (leb-true (total_of (marked (numbers_of s) (all_below upto))) (total_of (numbers_of s)) yes))) (λ no. written)

  pub given_each : All (λ s'. (s' ≡ s) ⊎ HasGivenTo s upto s') (known_stages s (all_below upto))
  given_each =
      cond_both (nat_le (total_of (marked (numbers_of s) (all_below upto))) (total_of (numbers_of s))) [] (with_marked s (all_below upto) ∷ []) (All (λ s'. (s' ≡ s) ⊎ HasGivenTo s upto s'))
      (λ yes. none_of (λ s'. (s' ≡ s) ⊎ HasGivenTo s upto s'))
      (λ no. cons_of (λ s'. (s' ≡ s) ⊎ HasGivenTo s upto s') (with_marked s (all_below upto)) [] (inr written) (none_of (λ s'. (s' ≡ s) ⊎ HasGivenTo s upto s')))

module _ (s : SpoolState) (upto : ℕ) (old new : View) (held : IsIn s [] old) where
  giving : LeavesStages s (known_stages s (all_below upto)) old.moment new.moment → LeavesOnly (IsGiving s upto) old.moment new.moment
  giving run =
      weaker _ (IsGiving s upto) old.moment new.moment run
      (λ c o. elim o [
        | inl image ↦ (s, held.each c image, inl refl)
        | inr midway ↦ midway_stands (λ s'. (s' ≡ s) ⊎ HasGivenTo s upto s') s (known_stages s (all_below upto)) c (inl refl) (given_each s upto held.sound) midway
      ])

  still : LeavesStages s [] old.moment new.moment → LeavesOnly (IsGiving s upto) old.moment new.moment
  still run = weaker _ (IsGiving s upto) old.moment new.moment run (λ c o. elim o [ inl image ↦ (s, held.each c image, inl refl) | inr midway ↦ absurd midway ])

  pub gives_ok : MarksFrom s [] (all_below upto) (Ok tt) old new → GivesUp s upto (Ok tt) old new
  gives_ok from =
      let marks = sure_marks s (all_below upto) (Ok tt) old new held from in
      record { given = (_, marks.reached, given_last s upto held.sound); any_moment = giving marks.any_moment }

  gives_by : (fault : ConfirmFault) → MarksNow s (all_below upto) (Err fault) old new → GivesUp s upto (Err (of_confirm fault)) old new
  gives_by (Confirm.Worn ordinal) marks = record {
    given = record {
      reached = marks.reached;
      more = λ le. marks.marks.0 (confirmed_same (numbers_of s) upto held.sound.known le);
      ordinal_is = marks.marks.1;
      worn = marks.marks.2;
    };
    any_moment = still marks.any_moment;
  }
  gives_by (Confirm.NotSpool at) marks = absurd marks.marks
  gives_by Confirm.DiskFault marks = record { given = (known_stages s (all_below upto), marks.reached); any_moment = giving marks.any_moment }
  gives_by Confirm.NoMemory marks = absurd marks.marks

  pub gives_err : (fault : ConfirmFault) → MarksFrom s [] (all_below upto) (Err fault) old new → GivesUp s upto (Err (of_confirm fault)) old new
  gives_err fault from = gives_by fault (sure_marks s (all_below upto) (Err fault) old new held from)
