-- What a page comes to, at each answer.
use Rattle.std.proofs.Common.{◌≡◌, inl, inr, ℕ, ◌+◌, ◌<◌, ◌≤◌, false, List, [], ◌∷◌, ◌++◌, length, take, drop, Ok, Err, refl, sym, ◌∙◌, ap, subst, arith, length-drop, take-append-drop}
use Rattle.std.specs.Prelude.{All, Result}
use Rattle.std.specs.List.{Contains}
use Rattle.std.specs.BTreeSet.{BTreeSet, contains}
use Rattle.std.specs.Ordering.{nat_cmp}
use Rattle.std.proofs.Math.Seq.{take-add}
use Rattle.std.proofs.lemmas.Bool.{cases_lt}
use Rattle.std.proofs.lemmas.List.{drop-drop, drop-append-le, length-take, nil_from_length, take_all}
use Rattle.std.proofs.lemmas.List.Elements.{All-contains, Contains-append_right}
use Rattle.edge_disk.specs.Disk.{Moment, LeavesOnly}
use Rattle.spool_state.specs.Image.{StandsFor}
use Rattle.spool_state.specs.SpoolState.{SpoolState, base, end}
use Rattle.spool_state.specs.Left.{NumberedEntry, left, left_from}
use Rattle.spool_state.proofs.Unknown.{IsOf}
use Rattle.spool_state.proofs.Lefts.{left_of, left_from-cursor}
use Rattle.spool_faults.specs.declared.fault.TakeFault.{TakeFault}
use Rattle.spool_faults.specs.declared.fault.TakeFault.TheVariants as Take
use Rattle.spool_answers.specs.Take.{IsRefusal}
use Rattle.spool_log.specs.State.{View, IsIn}
use Rattle.spool_move.specs.declared.fault.MoveFault.{MoveFault}
use Rattle.spool_move.specs.declared.fault.MoveFault.TheVariants.{Strange, TooLarge, Spent, Full, Worn, NotSpool, SourceFault, TargetFault, NoMemory}
use Rattle.spool_move.specs.declared.walking.course.Course.{Course}
use Rattle.spool_move.specs.Moved.{all_moved, is_present, missing}
use Rattle.spool_move.specs.Stands.{AreGivenUp, ArePages, HasTaken, Stands, IsMoving}
use Rattle.spool_move.specs.Leave.{IsSafe}
use Rattle.spool_move.specs.Moves.{Reaches, Stops, Refuses, IsWorn, IsDone, Moves}
use Rattle.spool_move.specs.Reading.{IsReading}
use Rattle.spool_move.specs.Turns.{LeavesBoth}
use Rattle.spool_move.specs.Walking.{absent, after_last, HasWalked, IsWalking, IsCounted, IsRefused, TakesPage, AfterRefusal, HasGivenTo, IsGiving, IsGiven, IsWornAt, AnswersFault, IsOnCourse, answer_after}
use Rattle.spool_move.proofs.Copies.{copied}
use Rattle.spool_move.proofs.Looking.{cons_here}
use Rattle.spool_move.proofs.Rising.{all_from, left_rises_from}
use Rattle.spool_move.proofs.Turning.{both_then, source_turn, target_turn}
use Rattle.spool_move.proofs.Walks.{pages_more, stands_taken, stands_given, taken_on, taken_count, page_few, page_within, page_first, page_behind, page_has}

-- a state in the midst of the move, from a course
module _ (tag : ℕ) (m u : SpoolState) (present : BTreeSet ℕ) (course : Course) (v w : View) (at : IsOnCourse tag m u present course v w) where
  -- nothing more is left
  pub on_done : left at.reaches.s ≡ [] → IsDone tag m u course.taken v w
  on_done none =
      let all : at.walked ≡ length (left m) =
      omega (arith, at.reaches.stands.within, ap length none, ap length at.reaches.stands.source.left_is, length-drop at.walked (left m)) in
      record {
        none_strange = at.searched.none_strange;
        count_is = at.taken_is ∙ ap (λ (l : List NumberedEntry). length (missing tag (left u) l)) (take_all at.walked (left m) (omega (arith, all)));
        reaches = subst (λ (n : ℕ). Reaches tag m u n n v w) all at.reaches;
      }

  -- numbers that are left lie from the course's on and below the end
  pub none_past : end at.reaches.s ≤ course.upto → left at.reaches.s ≡ []
  none_past le = empty (left at.reaches.s) (left_of at.reaches.s) (all_from course.upto (left at.reaches.s) (left_rises_from at.reaches.s course.upto at.known))
    where
      empty : (xs : List NumberedEntry) → All (IsOf (base at.reaches.s) (end at.reaches.s)) xs → All (λ one. course.upto ≤ one.number) xs → xs ≡ []
      empty [] below above = refl
      empty (x ∷ xs) below above = absurd (omega (arith, (below 0 x (omega arith)).most, above 0 x (omega arith), le))

  pub stop_here : (v' : View) → IsIn at.reaches.s [] v' → Stops tag m u v' w
  stop_here v' held = record {
    s = at.reaches.s;
    t = at.reaches.t;
    source_doubt = [];
    target_doubt = [];
    walked = at.walked;
    given = at.walked;
    source = held;
    target = at.reaches.target;
    stands = at.reaches.stands;
  }

  -- the same, once the source was read
  abbrev pub on_read : (v' : View) → IsIn at.reaches.s [] v' → IsOnCourse tag m u present course v' w
  on_read v' held = record {
    walked = at.walked;
    pages = at.pages;
    reaches = record { s = at.reaches.s; t = at.reaches.t; source = held; target = at.reaches.target; stands = at.reaches.stands };
    searched = at.searched;
    known = at.known;
    taken_is = at.taken_is;
  }

  pub moving_now : (c d : List ℕ) → v.moment.image c → w.moment.image d → IsMoving tag m u c d
  moving_now c d image image' = (at.walked, at.walked, at.reaches.s, at.reaches.t, at.reaches.source.each c image, at.reaches.target.each d image', at.reaches.stands)

pub read_stops : (fault : MoveFault) (tag : ℕ) (m u : SpoolState) (v w : View) → IsReading fault → Stops tag m u v w → Moves tag m u (Err fault) v w
read_stops (Strange n) tag m u v w is stops = absurd is
read_stops (TooLarge need most) tag m u v w is stops = absurd is
read_stops (Spent at) tag m u v w is stops = absurd is
read_stops (Full need free) tag m u v w is stops = absurd is
read_stops (Worn ordinal) tag m u v w is stops = absurd is
read_stops (NotSpool at) tag m u v w is stops = absurd is
read_stops SourceFault tag m u v w is stops = stops
read_stops TargetFault tag m u v w is stops = stops
read_stops NoMemory tag m u v w is stops = stops

-- ---- a page that was read, and is walked

-- the page, and how far it was walked
pub record IsPage (tag : ℕ) (m u : SpoolState) (present : BTreeSet ℕ) (before after : Course) (page : List NumberedEntry) (v w : View) : Type 0 where
  pub at : IsOnCourse tag m u present before v w
  pub is : page ≡ take 128 (left at.reaches.s)
  pub k : ℕ
  pub t' : SpoolState
  pub has : HasWalked tag present page at.reaches.t k t'
  pub counted : IsCounted present page k before after

-- the page of a course that was read and walked
abbrev pub page_of : (tag : ℕ) (m u : SpoolState) (present : BTreeSet ℕ) (before after : Course) (page : List NumberedEntry) (v w w' : View) (result : Result Unit TakeFault) (at : IsOnCourse tag m u present before v w)
    → page ≡ take 128 (left_from at.reaches.s before.upto) → TakesPage tag present page at.reaches.t result before after w w' → IsPage tag m u present before after page v w
page_of tag m u present before after page v w w' result at is takes = record {
  at = at;
  is = is ∙ ap (take 128) (left_from-cursor at.reaches.s before.upto at.known);
  k = takes.walked;
  t' = takes.t';
  has = takes.has;
  counted = takes.counted;
}

-- after a refusal for want of room or of numbers the target isn't in doubt
pub refusal_sure : (fault : TakeFault) (t : SpoolState) (new : View) → IsRefusal fault → AfterRefusal t fault new → IsIn t [] new
refusal_sure (Take.TooLarge need most) t new is reached = reached
refusal_sure (Take.Spent at) t new is reached = reached
refusal_sure (Take.Full need free) t new is reached = reached
refusal_sure (Take.NotSpool at) t new is reached = absurd is
refusal_sure Take.NoMemory t new is reached = absurd is
refusal_sure Take.DiskFault t new is reached = absurd is

-- nothing was left where the page has no entry
pub none_read : (tag : ℕ) (m u : SpoolState) (present : BTreeSet ℕ) (course : Course) (page : List NumberedEntry) (v w : View) (at : IsOnCourse tag m u present course v w) → page ≡ take 128 (left_from at.reaches.s course.upto) → length page ≡ 0
    → left at.reaches.s ≡ []
none_read tag m u present course page v w at is none =
    let whole = is ∙ ap (take 128) (left_from-cursor at.reaches.s course.upto at.known) in
    nil_from_length (left at.reaches.s) (omega (arith, none, ap length whole, length-take 128 (left at.reaches.s)))

module _ (tag : ℕ) (m u : SpoolState) (present : BTreeSet ℕ) (before after : Course) (page : List NumberedEntry) (v w : View) (p : IsPage tag m u present before after page v w) where
  within : p.k ≤ length (left p.at.reaches.s)
  within = omega (arith, p.has.within, page_within p.at.reaches.s before.upto page p.at.known p.is)

  taken_first : (k : ℕ) (t' : SpoolState) → HasWalked tag present page p.at.reaches.t k t' → HasTaken p.at.reaches.t (all_moved tag (absent present (take k (left p.at.reaches.s)))) t'
  taken_first k t' has =
      subst (λ (l : List NumberedEntry). HasTaken p.at.reaches.t (all_moved tag (absent present l)) t') (page_first p.at.reaches.s before.upto page p.at.known p.is k has.within) has.taken

  stands_walked : (k : ℕ) (t' : SpoolState) → HasWalked tag present page p.at.reaches.t k t' → Stands tag m u (p.at.walked + k) p.at.walked p.at.reaches.s t'
  stands_walked k t' has =
      stands_taken tag m u present p.at.searched p.at.walked p.at.reaches.s p.at.reaches.t p.at.reaches.stands k t' p.at.pages
      (omega (arith, has.within, page_few p.at.reaches.s before.upto page p.at.known p.is)) (omega (arith, has.within, page_within p.at.reaches.s before.upto page p.at.known p.is)) (taken_first k t' has)

  behind : left_from p.at.reaches.s after.upto ≡ drop p.k (left p.at.reaches.s)
  behind = ap (left_from p.at.reaches.s) p.counted.upto_is ∙ page_behind p.at.reaches.s before.upto page p.at.known p.is p.k p.has.within

  -- what may be given up
  abbrev pub Gives : Type 0
  Gives = AreGivenUp tag m u (p.at.walked + p.k) (p.at.walked + p.k) p.t'

  whole_pages : p.k ≡ length page → ArePages m (p.at.walked + p.k)
  whole_pages all =
      pages_more m p.at.reaches.s p.at.walked p.k p.at.reaches.stands.source.left_is p.at.reaches.stands.within (all ∙ ap length p.is) p.at.pages

  -- a page that was walked to its end
  pub whole_page : p.k ≡ length page → Gives
  whole_page all = inl (whole_pages all)

  stands_up : (s' : SpoolState) → Gives → HasGivenTo p.at.reaches.s after.upto s' → Stands tag m u (p.at.walked + p.k) (p.at.walked + p.k) s' p.t'
  stands_up s' paged given =
      stands_given tag m u present p.at.searched p.at.walked p.at.reaches.s p.at.reaches.t p.at.reaches.stands p.k after.upto s' p.t' within (taken_first p.k p.t' p.has) given behind
      paged

  -- a number below those that were walked is safe
  pub page_safe : (from onto : Moment) → StandsFor p.at.reaches.s from.reads → ((d : List ℕ) → onto.image d → StandsFor p.t' d) → after.upto ≤ end p.at.reaches.s → (n : ℕ) → n < after.upto → IsSafe tag from onto n
  page_safe from onto stands each le n lt = record {
    state = p.at.reaches.s;
    stands = stands;
    within = omega (arith, lt, le);
    kept = λ one here is d image. (p.t', each d image, copied tag m u p.at.searched.none_strange (p.at.walked + p.k) p.t' taken one (walked_one one here is));
  }
    where
      taken : HasTaken u (all_moved tag (missing tag (left u) (take (p.at.walked + p.k) (left m)))) p.t'
      taken = taken_on tag m u present p.at.searched p.at.walked p.at.reaches.s p.at.reaches.t p.at.reaches.stands p.k p.t' (taken_first p.k p.t' p.has)

      walked_one : (one : NumberedEntry) → Contains (left p.at.reaches.s) one → one.number ≡ n → Contains (take (p.at.walked + p.k) (left m)) one
      walked_one one here is =
          let there = page_has p.at.reaches.s before.upto page p.at.known p.is p.k p.has.within one here (omega (arith, lt, is, p.counted.upto_is)) in
          subst (λ (l : List NumberedEntry). Contains l one) (sym (take-add p.at.walked p.k (left m)))
          (Contains-append_right (take p.at.walked (left m)) (take p.k (drop p.at.walked (left m))) one
          (subst (λ (l : List NumberedEntry). Contains (take p.k l) one) p.at.reaches.stands.source.left_is there))

  -- ---- the answers

  module _ (v' w' : View) where
    -- all of the page was walked, and given up
    pub page_done : p.k ≡ length page → IsIn p.t' [] w' → IsGiven p.at.reaches.s after.upto (Ok tt) v' → IsOnCourse tag m u present after v' w'
    page_done all held given = record {
      walked = p.at.walked + p.k;
      pages = whole_pages all;
      reaches = record { s = given.0; t = p.t'; source = given.1; target = held; stands = stands_up given.0 (whole_page all) given.2 };
      searched = p.at.searched;
      known = given.2.known;
      taken_is =
          p.counted.taken_is
          ∙ ap (λ (n : ℕ). n + length (absent present (take p.k page))) p.at.taken_is
          ∙ ap (λ (l : List NumberedEntry). length (missing tag (left u) (take p.at.walked (left m))) + length (absent present l)) (page_first p.at.reaches.s before.upto page p.at.known p.is p.k p.has.within)
          ∙ taken_count tag m u present p.at.searched p.at.walked p.at.reaches.s p.at.reaches.t p.at.reaches.stands p.k;
    }

    stops : (source_doubt target_doubt : List SpoolState) → IsIn p.at.reaches.s source_doubt v' → IsIn p.t' target_doubt w' → Stops tag m u v' w'
    stops source_doubt target_doubt held held' = record {
      s = p.at.reaches.s;
      t = p.t';
      source_doubt = source_doubt;
      target_doubt = target_doubt;
      walked = p.at.walked + p.k;
      given = p.at.walked;
      source = held;
      target = held';
      stands = stands_walked p.k p.t' p.has;
    }

    worn : (ordinal : ℕ) → IsIn p.t' [] w' → IsWornAt p.at.reaches.s after.upto ordinal v' → IsWorn tag m u ordinal v' w'
    worn ordinal held at = record {
      walked = p.at.walked + p.k;
      given = p.at.walked;
      more = elim (cases_lt 0 p.k) [
        | inl some ↦ omega (arith, some)
        | inr none ↦
            let same : after.upto ≡ before.upto = p.counted.upto_is ∙ ap (λ (n : ℕ). after_last before.upto (take n page)) (let zero : p.k ≡ 0 = omega (arith, none) in zero) in
            absurd (at.more (omega (arith, same, p.at.known)))
      ];
      reaches = record { s = p.at.reaches.s; t = p.t'; source = at.reached; target = held; stands = stands_walked p.k p.t' p.has };
      ordinal_is = at.ordinal_is;
      worn = at.worn;
    }

    -- it couldn't be given up
    pub page_kept : (fault : MoveFault) → IsIn p.t' [] w' → IsGiven p.at.reaches.s after.upto (Err fault) v' → Moves tag m u (Err fault) v' w'
    page_kept (Strange n) held given = absurd given
    page_kept (TooLarge need most) held given = absurd given
    page_kept (Spent at) held given = absurd given
    page_kept (Full need free) held given = absurd given
    page_kept (Worn ordinal) held given = worn ordinal held given
    page_kept (NotSpool at) held given = absurd given
    page_kept SourceFault held given = stops given.0 [] given.1 held
    page_kept TargetFault held given = absurd given
    page_kept NoMemory held given = absurd given

    -- an entry was refused, and those before it given up
    module _ (fault : TakeFault) (refused : IsRefused tag present page p.k p.t' fault w') where
      rest_is : drop (p.at.walked + p.k) (left m) ≡ refused.one ∷ (refused.rest ++ drop 128 (left p.at.reaches.s))
      rest_is =
          sym (drop-drop p.k p.at.walked (left m))
          ∙ ap (drop p.k) (sym p.at.reaches.stands.source.left_is)
          ∙ ap (drop p.k) (sym (take-append-drop 128 (left p.at.reaches.s)) ∙ ap (λ (l : List NumberedEntry). l ++ drop 128 (left p.at.reaches.s)) (sym p.is))
          ∙ drop-append-le p.k page (drop 128 (left p.at.reaches.s)) p.has.within
          ∙ ap (λ (l : List NumberedEntry). l ++ drop 128 (left p.at.reaches.s)) refused.next

      not_present : is_present tag (left u) refused.one.number ≡ false
      not_present =
          let n = p.at.walked + p.k in
          let here : Contains (left m) refused.one =
          subst (λ (l : List NumberedEntry). Contains l refused.one) (take-append-drop n (left m))
          (Contains-append_right (take n (left m)) (drop n (left m)) refused.one
          (subst (λ (l : List NumberedEntry). Contains l refused.one) (sym rest_is) (cons_here refused.one (refused.rest ++ drop 128 (left p.at.reaches.s))))) in
          sym (All-contains (λ (one : NumberedEntry). contains nat_cmp present one.number ≡ is_present tag (left u) one.number) (left m) refused.one p.at.searched.presence here) ∙ refused.absent_is

      pub next_refused : IsRefusal fault → Gives
      next_refused wants = inr (
        refl,
        record {
          one = refused.one;
          rest = refused.rest ++ drop 128 (left p.at.reaches.s);
          next = rest_is;
          absent = not_present;
          fault = fault;
          wants = wants;
          refused = refused.refused;
        },
      )

      pub page_refused : IsRefusal fault → IsIn p.t' [] w' → IsGiven p.at.reaches.s after.upto (Ok tt) v' → Refuses tag m u fault v' w'
      page_refused wants held given = record {
        s = given.0;
        t = p.t';
        walked = p.at.walked + p.k;
        one = refused.one;
        rest = refused.rest ++ drop 128 (left p.at.reaches.s);
        next = rest_is;
        absent = not_present;
        none_strange = p.at.searched.none_strange;
        source = given.1;
        target = held;
        stands = stands_up given.0 (next_refused wants) given.2;
        refused = refused.refused;
      }

    first_by : (answer result : MoveFault) (given : Result Unit MoveFault) → IsIn p.t' [] w' → (IsGiven p.at.reaches.s after.upto (Ok tt) v' → Moves tag m u (Err answer) v' w') → IsGiven p.at.reaches.s after.upto given v'
        → result ≡ answer_after answer given → Moves tag m u (Err result) v' w'
    first_by answer result (Ok done) held then given is = subst (λ (f : MoveFault). Moves tag m u (Err f) v' w') (sym is) (then given)
    first_by answer result (Err fault) held then given is = subst (λ (f : MoveFault). Moves tag m u (Err f) v' w') (sym is) (page_kept fault held given)

    pub page_answers : (fault : TakeFault) (result : MoveFault) (v1 : View) → (fault ≡ Take.DiskFault → IsIn p.at.reaches.s [] v') → IsRefused tag present page p.k p.t' fault w' → AnswersFault p.at.reaches.s after.upto fault result v1 v'
        → Moves tag m u (Err result) v' w'
    page_answers (Take.TooLarge need most) result v1 still refused answers =
        first_by (TooLarge need most) result answers.given refused.reached (page_refused (Take.TooLarge need most) refused tt refused.reached) answers.gives.given answers.result_is
    page_answers (Take.Spent at) result v1 still refused answers =
        first_by (Spent at) result answers.given refused.reached (page_refused (Take.Spent at) refused tt refused.reached) answers.gives.given answers.result_is
    page_answers (Take.Full need free) result v1 still refused answers =
        first_by (Full need free) result answers.given refused.reached (page_refused (Take.Full need free) refused tt refused.reached) answers.gives.given answers.result_is
    page_answers (Take.NotSpool at) result v1 still refused answers = absurd refused.reached
    page_answers Take.NoMemory result v1 still refused answers = absurd refused.reached
    page_answers Take.DiskFault result v1 still refused answers =
        subst (λ (f : MoveFault). Moves tag m u (Err f) v' w') (sym answers) (stops [] refused.reached.0 (still refl) refused.reached.1)

  -- ---- what a crash leaves meanwhile

  module _ {D E : Type 0} (on : D → Moment) (onto : E → Moment) (a a1 : D) (b b1 : E) (was : (c : List ℕ) → (on a).image c → StandsFor p.at.reaches.s c) (was' : (d : List ℕ) → (onto b).image d → StandsFor p.at.reaches.t d)
      (read : LeavesOnly (on a).image (on a) (on a1)) where
    -- the page was read, and walked
    pub page_turns : LeavesOnly (IsWalking tag present page p.at.reaches.t) (onto b) (onto b1) → LeavesBoth on onto (IsMoving tag m u) a b a1 b1
    page_turns walking =
        both_then on onto (IsMoving tag m u) (IsMoving tag m u) (IsMoving tag m u) a a1 a1 b b b1
        (source_turn on onto (IsMoving tag m u) (on a).image a a1 b read
        (λ c d image image'. (p.at.walked, p.at.walked, p.at.reaches.s, p.at.reaches.t, was c image, was' d image', p.at.reaches.stands)))
        (target_turn on onto (IsMoving tag m u) (IsWalking tag present page p.at.reaches.t) a1 b b1 walking
        (λ c d image there. (p.at.walked + there.0, p.at.walked, p.at.reaches.s, there.1, was c (read.now c image), there.2, stands_walked there.0 there.1 there.3)))
        (λ c d h. h) (λ c d h. h)

    -- and then given up
    pub page_turns_up : (a2 : D) → Gives → LeavesOnly (IsWalking tag present page p.at.reaches.t) (onto b) (onto b1) → ((d : List ℕ) → (onto b1).image d → StandsFor p.t' d) → LeavesOnly (IsGiving p.at.reaches.s after.upto) (on a1) (on a2)
        → LeavesBoth on onto (IsMoving tag m u) a b a2 b1
    page_turns_up a2 paged walking now giving =
        both_then on onto (IsMoving tag m u) (IsMoving tag m u) (IsMoving tag m u) a a1 a2 b b1 b1
        (page_turns walking)
        (source_turn on onto (IsMoving tag m u) (IsGiving p.at.reaches.s after.upto) a1 a2 b1 giving
        (λ c d there image. elim there.2 [
          | inl same ↦ (p.at.walked + p.k, p.at.walked, p.at.reaches.s, p.t', subst (λ (x : SpoolState). StandsFor x c) same there.1, now d image, stands_walked p.k p.t' p.has)
          | inr given ↦ (p.at.walked + p.k, p.at.walked + p.k, there.0, p.t', there.1, now d image, stands_up there.0 paged given)
        ]))
        (λ c d h. h) (λ c d h. h)

    -- as it was answered
    pub page_ends : (fault : TakeFault) (result : MoveFault) (a2 : D) (v1 v2 w1 : View) → (fault ≡ Take.DiskFault → a2 ≡ a1) → IsRefused tag present page p.k p.t' fault w1 → ((d : List ℕ) → (onto b1).image d → w1.moment.image d)
        → AnswersFault p.at.reaches.s after.upto fault result v1 v2 → (LeavesOnly (IsGiving p.at.reaches.s after.upto) v1.moment v2.moment → LeavesOnly (IsGiving p.at.reaches.s after.upto) (on a1) (on a2))
        → LeavesOnly (IsWalking tag present page p.at.reaches.t) (onto b) (onto b1) → LeavesBoth on onto (IsMoving tag m u) a b a2 b1
    page_ends (Take.TooLarge need most) result a2 v1 v2 w1 same refused image answers run walking =
        page_turns_up a2 (next_refused v1 w1 (Take.TooLarge need most) refused tt) walking (λ d i. refused.reached.each d (image d i)) (run answers.gives.any_moment)
    page_ends (Take.Spent at) result a2 v1 v2 w1 same refused image answers run walking =
        page_turns_up a2 (next_refused v1 w1 (Take.Spent at) refused tt) walking (λ d i. refused.reached.each d (image d i)) (run answers.gives.any_moment)
    page_ends (Take.Full need free) result a2 v1 v2 w1 same refused image answers run walking =
        page_turns_up a2 (next_refused v1 w1 (Take.Full need free) refused tt) walking (λ d i. refused.reached.each d (image d i)) (run answers.gives.any_moment)
    page_ends (Take.NotSpool at) result a2 v1 v2 w1 same refused image answers run walking = absurd refused.reached
    page_ends Take.NoMemory result a2 v1 v2 w1 same refused image answers run walking = absurd refused.reached
    page_ends Take.DiskFault result a2 v1 v2 w1 same refused image answers run walking = subst (λ (x : D). LeavesBoth on onto (IsMoving tag m u) a b x b1) (sym (same refl)) (page_turns walking)
