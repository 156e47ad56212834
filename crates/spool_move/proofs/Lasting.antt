-- Runs one after another lose nothing.
use Rattle.std.proofs.Common.{◌≡◌, inl, inr, ℕ, zero, suc, ◌+◌, ◌-◌, ◌<◌, ◌≤◌, List, [], ◌∷◌, ◌++◌, length, take, drop, get_or, Ok, refl, sym, ◌∙◌, ap, subst, arith, length-drop, take-append-drop}
use Rattle.std.specs.Prelude.{All, AllPairs, ◌≢◌}
use Rattle.std.specs.List.{Contains}
use Rattle.std.proofs.Math.Seq.{take-add}
use Rattle.std.proofs.lemmas.Bool.{cases_lt}
use Rattle.std.proofs.lemmas.List.{append-nil, drop-drop, drop_all, length-map, map-append, take-take, take_all}
use Rattle.std.proofs.lemmas.List.Elements.{All-cons, All-nil, Contains-append_cases, Contains-append_left, Contains-get_or}
use Rattle.event_form.specs.declared.event.Entry.{Entry}
use Rattle.edge_disk.specs.Disk.{Moment, IsLawful}
use Rattle.spool_state.specs.SpoolState.{SpoolState, end}
use Rattle.spool_state.specs.Left.{NumberedEntry, left, numbered}
use Rattle.spool_state.proofs.Laws.{one_state}
use Rattle.spool_move.specs.Moved.{moved, all_moved, missing}
use Rattle.spool_move.specs.Stands.{Stands}
use Rattle.spool_move.specs.Turns.{Turn, OfSource, OfTarget, AreTurns, WasLeft}
use Rattle.spool_move.specs.Runs.{IsRun, IsNextPair, AreNextPairs, tagged, IsFirst, HasMoved, AreMoved, AllMoved, RunsLoseNothing, MovedStandOnce, RunsMoveAll, last_pair}
use Rattle.spool_move.proofs.Looking.{cons_cases}
use Rattle.spool_move.proofs.Numbers.{tagged_append, tagged_moved, missing_past, missing_none}
use Rattle.spool_move.proofs.Rising.{Rises, rises_parts, left_rises, one_place}

-- ---- a run goes on from where the one before was ended

module _ (tag : ℕ) (first : List NumberedEntry) (rises : Rises 0 first) where
  module _ (given j : ℕ) (m u s t : SpoolState) (w g : ℕ) (was : HasMoved tag first (given + j) given m u) (stands : Stands tag m u w g s t) where
    source_is : left s ≡ drop (given + g) first
    source_is = stands.source.left_is ∙ ap (drop g) was.source ∙ drop-drop g given first

    -- the entries of the tag, where these were missing
    target_is : (more : List NumberedEntry) → missing tag (left u) (take w (drop given first)) ≡ more → tagged tag (left t) ≡ all_moved tag (take (given + j) first) ++ all_moved tag more
    target_is more is =
        let taken = missing tag (left u) (take w (left m)) in
        let same : taken ≡ more = ap (λ (l : List NumberedEntry). missing tag (left u) (take w l)) was.source ∙ is in
        ap (tagged tag) stands.target.left_is
        ∙ tagged_append tag (left u) (numbered (end u) (all_moved tag taken))
        ∙ ap (λ (l : List Entry). l ++ tagged tag (numbered (end u) (all_moved tag taken))) was.target
        ∙ ap (λ (l : List Entry). all_moved tag (take (given + j) first) ++ l) (tagged_moved tag (end u) taken ∙ ap (all_moved tag) same)

    long : given + w ≤ length first
    long = omega (arith, stands.within, ap length was.source, length-drop given first, was.within)

    past : (r : ℕ) → w ≡ j + r → HasMoved tag first (given + j + r) (given + g) s t
    past r is = record {
      within = omega (arith, long, is);
      behind = omega (arith, stands.behind, is);
      source = source_is;
      target =
          target_is (take r (drop (given + j) first)) (ap (λ (n : ℕ). missing tag (left u) (take n (drop given first))) is ∙ missing_past tag first (left u) given j rises was.target r)
          ∙ sym (map-append (λ one. moved tag one) (take (given + j) first) (take r (drop (given + j) first)))
          ∙ ap (all_moved tag) (sym (take-add (given + j) r first));
    }

    short : w ≤ j → HasMoved tag first (given + j) (given + g) s t
    short le = record {
      within = was.within;
      behind = omega (arith, stands.behind, le);
      source = source_is;
      target = target_is [] (missing_none tag first (left u) given j rises was.target w le) ∙ append-nil (all_moved tag (take (given + j) first));
    }

    goes_by : (more : ℕ) × HasMoved tag first more (given + g) s t
    goes_by = elim (cases_lt j w) [ inl lt ↦ (given + j + (w - j), past (w - j) (omega arith)) | inr ge ↦ (given + j, short ge) ]

  goes_on : (walked given : ℕ) (m u s t : SpoolState) (w g : ℕ) → HasMoved tag first walked given m u → Stands tag m u w g s t → (more : ℕ) × HasMoved tag first more (given + g) s t
  goes_on walked given m u s t w g was stands =
      let j = walked - given in
      let is : walked ≡ given + j = omega (arith, was.behind) in
      goes_by given j m u s t w g (subst (λ (n : ℕ). HasMoved tag first n given m u) is was) stands

  -- a run that is done
  done_all : (walked given : ℕ) (m u s t : SpoolState) → HasMoved tag first walked given m u → Stands tag m u (length (left m)) (length (left m)) s t → (left s ≡ []) × (tagged tag (left t) ≡ all_moved tag first)
  done_all walked given m u s t was stands =
      let next = goes_on walked given m u s t (length (left m)) (length (left m)) was stands in
      let all : given + length (left m) ≡ length first = omega (arith, ap length was.source, length-drop given first, was.within, was.behind) in (
        next.1.source ∙ drop_all (given + length (left m)) first (omega (arith, all)),
        next.1.target ∙ ap (all_moved tag) (take_all next.0 first (omega (arith, all, next.1.behind))),
      )

  -- ---- over two disks

  module _ {D E : Type 0} (on : D → Moment) (onto : E → Moment) (lawful : (x : D) → IsLawful (on x)) (lawful' : (y : E) → IsLawful (onto y)) where
    -- in every pair of what a crash leaves now
    abbrev AreKept : D → E → Type 0
    AreKept a b = (c d : List ℕ) → (on a).image c → (onto b).image d → AreMoved tag first c d

    -- what a run began with
    began : (result : _) (a a' : D) (b b' : E) (turns : List (Turn D E)) (run : IsRun on onto tag result a b turns a' b') → AreKept a b → (walked : ℕ) × (given : ℕ) × HasMoved tag first walked given run.s run.t
    began result a a' b b' turns run kept =
        let here = kept (on a).reads (onto b).reads (lawful a).reads_image (lawful' b).reads_image in (
          here.0,
          here.1,
          subst (λ (x : SpoolState). HasMoved tag first here.0 here.1 x run.t) (one_state here.2 run.s (on a).reads here.4 run.source)
              (subst (λ (y : SpoolState). HasMoved tag first here.0 here.1 here.2 y) (one_state here.3 run.t (onto b).reads here.5 run.target) here.6),
        )

    run_keeps : (result : _) (a a' : D) (b b' : E) (turns : List (Turn D E)) → IsRun on onto tag result a b turns a' b' → AreKept a b → (c d : List ℕ) → WasLeft on onto a b turns c d → AreMoved tag first c d
    run_keeps result a a' b b' turns run kept c d was = elim (run.each c d was) [
      | inl before ↦ kept c d before.0 before.1
      | inr moving ↦
          let at = began result a a' b b' turns run kept in
          let next = goes_on at.0 at.1 run.s run.t moving.2 moving.3 moving.0 moving.1 at.2 moving.6 in
          (next.0, at.1 + moving.1, moving.2, moving.3, moving.4, moving.5, next.1)
    ]

    -- what is left at the end is left at some moment
    at_end : (a a' : D) (b b' : E) (turns : List (Turn D E)) (c d : List ℕ) → AreTurns a b turns a' b' → (on a').image c → (onto b').image d → WasLeft on onto a b turns c d
    at_end a a' b b' [] c d are image image' = (subst (λ (x : D). (on x).image c) are.0 image, subst (λ (y : E). (onto y).image d) are.1 image')
    at_end a a' b b' (OfSource x ∷ turns) c d are image image' = inr (at_end x a' b b' turns c d are image image')
    at_end a a' b b' (OfTarget y ∷ turns) c d are image image' = inr (at_end a a' y b' turns c d are image image')

    next_keeps : (a a' : D) (b b' : E) → IsNextPair on onto tag a b a' b' → AreKept a b → AreKept a' b'
    next_keeps a a' b b' (inl run) kept = λ c d image image'. run_keeps run.0 a a' b b' run.1 run.2 kept c d (at_end a a' b b' run.1 c d run.2.are image image')
    next_keeps a a' b b' (inr (inl now)) kept = λ c d image image'. let was = now c d image image' in kept c d was.0 was.1
    next_keeps a a' b b' (inr (inr cut)) kept = λ c d image image'. run_keeps cut.0 a cut.2 b cut.3 cut.1 cut.4 kept c d (cut.5 c d image image')

    all_keep : (a : D) (b : E) (later : List (D × E)) → AreNextPairs on onto tag a b later → AreKept a b → All (λ (pair : D × E). AreKept pair.0 pair.1) ((a, b) ∷ later)
    all_keep a b [] are kept = All-cons (λ (pair : D × E). AreKept pair.0 pair.1) (a, b) [] kept (All-nil (λ (pair : D × E). AreKept pair.0 pair.1))
    all_keep a b (next ∷ later) are kept =
        All-cons (λ (pair : D × E). AreKept pair.0 pair.1) (a, b) (next ∷ later) kept (all_keep next.0 next.1 later are.1 (next_keeps a next.0 b next.1 are.0 kept))

    last_keeps : (a : D) (b : E) (later : List (D × E)) → AreNextPairs on onto tag a b later → AreKept a b → AreKept (last_pair a b later).0 (last_pair a b later).1
    last_keeps a b [] are kept = kept
    last_keeps a b (next ∷ later) are kept = last_keeps next.0 next.1 later are.1 (next_keeps a next.0 b next.1 are.0 kept)

    run_moves : (count : ℕ) (a a' : D) (b b' : E) (turns : List (Turn D E)) → IsRun on onto tag (Ok count) a b turns a' b' → AreKept a b → (c d : List ℕ) → (on a').image c → (onto b').image d → AllMoved tag first c d
    run_moves count a a' b b' turns run kept c d image image' =
        let at = began (Ok count) a a' b b' turns run kept in
        let end_at = run.done count refl c d image image' in
        let all = done_all at.0 at.1 run.s run.t end_at.0 end_at.1 at.2 end_at.4 in
        (end_at.0, end_at.1, end_at.2, end_at.3, all.0, all.1)

-- before the first run
first_moved : (tag : ℕ) (first : List NumberedEntry) (c d : List ℕ) → IsFirst tag first c d → AreMoved tag first c d
first_moved tag first c d at = (0, 0, at.0, at.1, at.2, at.3, record { within = omega arith; behind = omega arith; source = at.4; target = at.5 })

first_rises : (tag : ℕ) (first : List NumberedEntry) (c d : List ℕ) → IsFirst tag first c d → Rises 0 first
first_rises tag first c d at = subst (Rises 0) at.4 (left_rises at.0)

pub lose_nothing : {D E : Type 0} (tells tells' : Type 0) (on : D → Moment) (onto : E → Moment) → (tells → (x : D) → IsLawful (on x)) → (tells' → (y : E) → IsLawful (onto y)) → RunsLoseNothing tells on tells' onto
lose_nothing tells tells' on onto lawful lawful' = λ tag first a b later told told' from are.
    let rises = first_rises tag first _ _ (from (on a).reads (onto b).reads (lawful told a).reads_image (lawful' told' b).reads_image) in
    all_keep tag first rises on onto (lawful told) (lawful' told') a b later are (λ c d image image'. first_moved tag first c d (from c d image image'))

pub move_all_there : {D E : Type 0} (tells tells' : Type 0) (on : D → Moment) (onto : E → Moment) → (tells → (x : D) → IsLawful (on x)) → (tells' → (y : E) → IsLawful (onto y)) → RunsMoveAll tells on tells' onto
move_all_there tells tells' on onto lawful lawful' = λ tag first a a' b b' later count turns told told' from are run.
    let rises = first_rises tag first _ _ (from (on a).reads (onto b).reads (lawful told a).reads_image (lawful' told' b).reads_image) in
    let kept = last_keeps tag first rises on onto (lawful told) (lawful' told') a b later are (λ c d image image'. first_moved tag first c d (from c d image image')) in
    run_moves tag first rises on onto (lawful told) (lawful' told') count (last_pair a b later).0 a' (last_pair a b later).1 b' turns run kept

-- ---- each stands in one of them, and once

moved_index : (tag : ℕ) (xs : List NumberedEntry) (i : ℕ) (e : Entry) (x : NumberedEntry) → i < length xs → (get_or (all_moved tag xs) i e).index ≡ (get_or xs i x).number
moved_index tag [] i e x lt = absurd (omega arith)
moved_index tag (y ∷ xs) zero e x lt = refl
moved_index tag (y ∷ xs) (suc i) e x lt = moved_index tag xs i e x (omega arith)

moved_apart : (tag : ℕ) (xs : List NumberedEntry) → Rises 0 xs → AllPairs (λ e other. e.index ≢ other.index) (all_moved tag xs)
moved_apart tag xs rises i j e before lt same =
    let long : length (all_moved tag xs) ≡ length xs = length-map xs (moved tag) in
    let x : NumberedEntry = record { number = 0; entry = e } in
    let first = moved_index tag xs i e x (omega (arith, before, lt, long)) in
    let second = moved_index tag xs j e x (omega (arith, lt, long)) in
    omega (arith, before, one_place 0 xs i j x rises (omega (arith, before, lt, long)) (omega (arith, lt, long)) (sym first ∙ same ∙ second))

moved_contains : (tag : ℕ) (xs : List NumberedEntry) (one : NumberedEntry) → Contains xs one → Contains (all_moved tag xs) (moved tag one)
moved_contains tag [] one there = absurd (omega (arith, there.1))
moved_contains tag (x ∷ xs) one there = elim (cons_cases x xs one there) [
  | inl same ↦ (0, omega arith, ap (moved tag) same)
  | inr behind ↦ let rest = moved_contains tag xs one behind in (suc rest.0, omega (arith, rest.1), rest.2)
]

pub stand_once : MovedStandOnce
stand_once = λ tag m walked given s t at.
    let first = left m in
    let rises = left_rises m in
    let front = rises_parts 0 (take walked first) (drop walked first) (subst (Rises 0) (sym (take-append-drop walked first)) rises) in
    record {
      somewhere = λ k d lt.
          let one = get_or first k d in
          elim (Contains-append_cases (take given first) (drop given first) one (subst (λ (l : List NumberedEntry). Contains l one) (sym (take-append-drop given first)) (Contains-get_or first k d lt))) [
            | inl before ↦
                let there : Contains (take walked first) one =
                subst (λ (l : List NumberedEntry). Contains l one) (take-append-drop given (take walked first))
                (Contains-append_left (take given (take walked first)) (drop given (take walked first)) one
                (subst (λ (l : List NumberedEntry). Contains l one) (sym (take-take given walked first at.behind)) before)) in
                inr (subst (λ (l : List Entry). Contains l (moved tag one)) (sym at.target) (moved_contains tag (take walked first) one there))
            | inr behind ↦ inl (subst (λ (l : List NumberedEntry). Contains l one) (sym at.source) behind)
          ];
      once_in_source = λ i j d before lt same. omega (arith, before, one_place 0 (left s) i j d (left_rises s) (omega (arith, before, lt)) lt same);
      once_in_target = subst (λ (l : List Entry). AllPairs (λ e other. e.index ≢ other.index) l) (sym at.target) (moved_apart tag (take walked first) front.0);
    }
