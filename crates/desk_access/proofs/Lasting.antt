-- What lasts after the calls of a journal.
use Rattle.std.proofs.Common.{◌≡◌, ◌⊎◌, inl, inr, ℕ, ◌+◌, ◌≤◌, ◌<◌, List, [], ◌∷◌, ◌++◌, length, take, drop, Option, refl, sym, ◌∙◌, ap, subst, arith}
use Rattle.std.specs.Prelude.{Bool, true, false, Result, Ok, Err}
use Rattle.std.proofs.lemmas.Bool.{cases_lt}
use Rattle.std.proofs.lemmas.List.{append-nil}
use Rattle.event_form.specs.declared.event.Entry.{Entry}
use Rattle.known_numbers.specs.declared.stretch.Stretch.{Stretch}
use Rattle.spool_state.specs.SpoolState.{SpoolState, base, end, entry_at, Follows, IsSound}
use Rattle.spool_state.specs.Image.{StandsFor}
use Rattle.spool_state.proofs.Following.{follows_self}
use Rattle.spool_answers.specs.declared.receipt.Receipt.{Receipt}
use Rattle.spool_faults.specs.declared.fault.TakeFault.TheVariants as Take
use Rattle.spool_faults.specs.declared.fault.ConfirmFault.{ConfirmFault}
use Rattle.spool_faults.specs.declared.fault.ConfirmFault.TheVariants as Confirm
use Rattle.spool_answers.specs.Stages.{IsOneOf, StandsForOne, IsMidway, AllFollow, group_stages, known_stages}
use Rattle.spool_answers.specs.Mark.{all_below, mark_stages}
use Rattle.spool_answers.proofs.Adding.{adding_follow}
use Rattle.desk_access.specs.declared.standing.Standing.{Standing}
use Rattle.desk_access.specs.Call.{Call, takes, confirms, marks, Record, calls_of}
use Rattle.desk_access.specs.Desk.{DeskState, Answers, AnswersAs, Goes, changing, StandsWithin, Stood}
use Rattle.desk_access.specs.History.{IsLater, IsDesk, Grown, Grows, IsKept, AreKept, IsCallKept, AllKept, written_by, Was}
use Rattle.desk_access.specs.Journal.{calls_then}
use Rattle.desk_access.proofs.Growth.{grown_self, grown_then, grown_end, grown_entry}
use Rattle.desk_access.proofs.Extending.{grown_extended}
use Rattle.desk_access.proofs.Stages.{IsStage, AreStages, later_then, one_in, group_some, group_are, known_are, known_follow}
use Rattle.desk_access.proofs.Steps.{one_later, steps_as, stage_adds, allowed_later, all_later}

-- Its list grew by what the calls added, in order.
pub goes_grows : (x y : DeskState) (records : List Record) (t : SpoolState) → IsDesk x → Goes x records y → IsOneOf y.spool y.doubt t → Grows x (calls_of records) t
goes_grows x y [] t rules goes one = record {
  mended = t;
  one = subst (λ (d : DeskState). IsOneOf d.spool d.doubt t) goes one;
  more = [];
  adds = refl;
  grown = grown_self t;
}
goes_grows x y (first ∷ records) t rules goes one =
    let rest = goes_grows goes.0 y records t (allowed_later x goes.0 first rules goes.1).0 goes.2 one in
    elim (steps_as first.joins x goes.0 first.call first.met rules goes.1.answers).spool [
      | inl same ↦ record {
        mended = rest.mended;
        one = subst (λ (l : List SpoolState). IsOneOf x.spool l rest.mended) same.2 (subst (λ (s : SpoolState). IsOneOf s goes.0.doubt rest.mended) same.1 rest.one);
        more = rest.more;
        adds = ([], rest.more, same.0, rest.adds, refl);
        grown = rest.grown;
      }
      | inr (inl went) ↦ let here = went.2.adds rest.mended rest.one in record {
        mended = went.0;
        one = went.1;
        more = here.0 ++ rest.more;
        adds = (here.0, rest.more, here.1, rest.adds, refl);
        grown = grown_then went.0 rest.mended t here.0 rest.more here.2 rest.grown;
      }
      | inr (inr longer) ↦ let here = longer.adds rest.mended rest.one in record {
        mended = here.0;
        one = here.1;
        more = here.2 ++ rest.more;
        adds = (here.2, rest.more, here.3, rest.adds, refl);
        grown = grown_then here.0 rest.mended t here.2 rest.more here.4 rest.grown;
      }
    ]

-- ---- a group that was taken stays

-- What a take that was answered Ok led to: from a state that it met, at whose end the group is, to the last stage.
record Took (x : DeskState) (group : List Entry) (receipt : Receipt) (y : DeskState) : Type 0 where
  met : SpoolState
  one : IsOneOf x.spool x.doubt met
  first : receipt.first ≡ end met
  grown : Grown met group y.spool

took_there : (x y : DeskState) (group : List Entry) (receipt : Receipt) (met : Option Standing) → IsDesk x → Answers x (takes group (Ok receipt)) met y → 0 < length group → Took x group receipt y
took_there x y [] receipt met rules answers some = absurd (omega arith)
took_there x y (entry ∷ entries) receipt met rules (limits, inl stayed) some = absurd (cc (stayed.1))
took_there x y (entry ∷ entries) receipt met rules (limits, inr went) some =
    let group = entry ∷ entries in
    let m = went.0 in
    let sound = (one_later x m rules went.1.one).sound in record {
      met = m;
      one = went.1.one;
      first = went.2.0.1;
      grown = subst (Grown m group) (sym (ap (λ (d : DeskState). d.spool) went.2.1)) ((group_are m group sound).last (group_some m group sound went.2.0.0.place));
    }

-- so it is of a take that was stored as one group with the one before it
took_as : (joins : Bool) (x y : DeskState) (group : List Entry) (receipt : Receipt) (met : Option Standing) → IsDesk x → AnswersAs joins x (takes group (Ok receipt)) met y → 0 < length group → Took x group receipt y
took_as false x y group receipt met rules answers some = took_there x y group receipt met rules answers some
took_as true x y [] receipt met rules answers some = absurd answers
took_as true x y (entry ∷ entries) receipt met rules answers some = record {
  met = answers.1;
  one = answers.2.one;
  first = answers.3.2;
  grown = subst (Grown answers.1 (entry ∷ entries)) (sym (ap (λ (d : DeskState). d.spool) answers.3.4)) (grown_extended answers.1 (entry ∷ entries) answers.3.1);
}

-- what has its number in a state is at its number in a later one, or confirmed
kept_later : (s t : SpoolState) (number : ℕ) (entry : List Entry) → IsLater s t → number < end s → (base s ≤ number → entry_at s number ≡ entry) → IsKept t number entry
kept_later s t number entry later lt there = elim (cases_lt number (base t)) [
  | inl gone ↦ inl (omega (arith, gone, later.follows.confirmed))
  | inr ge ↦ inr (later.follows.kept number ge lt ∙ there (omega (arith, ge, later.follows.base_rises)))
]

kept_there : (joins : Bool) (x w y : DeskState) (group : List Entry) (receipt : Receipt) (met : Option Standing) (t : SpoolState) → IsDesk x → AnswersAs joins x (takes group (Ok receipt)) met w → IsLater w.spool t → 0 < length group → AreKept t receipt.first group
kept_there joins x w y group receipt met t rules answers later some =
    let there = took_as joins x w group receipt met rules answers some in
    let m = there.met in
    let grown : Grown m group w.spool = there.grown in
    λ k lt. subst (λ (n : ℕ). IsKept t (n + k) (take 1 (drop k group))) (sym there.first)
    (kept_later w.spool t (end m + k) (take 1 (drop k group)) later (omega (arith, lt, grown_end m w.spool group grown)) (λ ge. grown_entry m w.spool group k grown ge))

call_kept : (joins : Bool) (x w y : DeskState) (call : Call) (met : Option Standing) (t : SpoolState) → IsDesk x → AnswersAs joins x call met w → IsLater w.spool t → IsCallKept t call
call_kept joins x w y (takes group (Ok receipt)) met t rules answers later = λ k lt. kept_there joins x w y group receipt met t rules answers later (omega arith) k lt
call_kept joins x w y _ met t rules answers later = tt

-- Each entry of each group that was taken stands at its number, or is confirmed, in each state after the calls.
pub goes_kept : (x y : DeskState) (records : List Record) (t : SpoolState) → IsDesk x → Goes x records y → IsOneOf y.spool y.doubt t → AllKept t (calls_of records)
goes_kept x y [] t rules goes one = tt
goes_kept x y (first ∷ records) t rules goes one =
    let met = allowed_later x goes.0 first rules goes.1 in
    (call_kept first.joins x goes.0 y first.call first.met t rules goes.1.answers (all_later goes.0 y records t met.0 goes.2 one), goes_kept goes.0 y records t met.0 goes.2 one)

pub kept_parts : (t : SpoolState) (calls more : List Call) → AllKept t (calls ++ more) → AllKept t calls × AllKept t more
kept_parts t [] more all = (tt, all)
kept_parts t (call ∷ calls) more all = let rest = kept_parts t calls more all.1 in ((all.0, rest.0), rest.1)

-- ---- what a crash leaves

pub which_one : (s : SpoolState) (doubt : List SpoolState) (c : List ℕ) → StandsForOne s doubt c → (t : SpoolState) × IsOneOf s doubt t × StandsFor t c
which_one s [] c h = (s, refl, h)
which_one s (stage ∷ stages) c (inl h) = (s, inl refl, h)
which_one s (stage ∷ stages) c (inr h) = let one = which_one stage stages c h in (one.0, inr one.1, one.2)

-- a stage of a change, as it stands
stage_of : (m : SpoolState) (group : List Entry) (stages : List SpoolState) (c : List ℕ) → IsSound m → AreStages m group stages → AllFollow m stages → IsMidway m stages c
    → (t : SpoolState) × StandsFor t c × IsLater m t × ((here : List Entry) × ((here ≡ []) ⊎ (here ≡ group)) × Grown m here t)
stage_of m group [] c sound are follow midway = absurd midway
stage_of m group (first ∷ stages) c sound are follow midway =
    let met = which_one m (first ∷ stages) c midway in
    let t = met.0 in
    let itself : IsStage m group m = record { grown = inl (grown_self m); slots = refl; size = refl; run = refl } in
    let stage = one_in (IsStage m group) m t (first ∷ stages) itself are.each met.1 in
    let follows = one_in (Follows m) m t (first ∷ stages) (follows_self m sound.from_base) follow met.1 in
    (t, met.2, record { sound = met.2.sound; follows = follows; slots = stage.slots; size = stage.size; run = stage.run }, stage_adds m t group stage.grown)

abbrev Stage : SpoolState → List Entry → List ℕ → Type 0
Stage m group c = (t : SpoolState) × StandsFor t c × IsLater m t × ((here : List Entry) × ((here ≡ []) ⊎ (here ≡ group)) × Grown m here t)

group_stage : (m : SpoolState) (group : List Entry) (c : List ℕ) → IsSound m → IsMidway m (group_stages m group) c → Stage m group c
group_stage m group c sound midway = stage_of m group (group_stages m group) c sound (group_are m group sound) (adding_follow m group sound) midway

mark_stage : (m : SpoolState) (more : List Stretch) (result : Result Unit ConfirmFault) (c : List ℕ) → IsSound m → IsMidway m (mark_stages m more result) c → Stage m [] c
mark_stage m more (Ok done) c sound midway = stage_of m [] (known_stages m more) c sound (known_are m more) (known_follow m more sound) midway
mark_stage m more (Err Confirm.DiskFault) c sound midway = stage_of m [] (known_stages m more) c sound (known_are m more) (known_follow m more sound) midway
mark_stage m more (Err _) c sound midway = absurd midway

-- a stage of the change of a call with its answer
stage_stands : (m : SpoolState) (call : Call) (c : List ℕ) → IsSound m → IsMidway m (changing m call) c → Stage m (written_by call) c
stage_stands m (takes (entry ∷ entries) (Ok receipt)) c sound midway = group_stage m (entry ∷ entries) c sound midway
stage_stands m (takes (entry ∷ entries) (Err Take.DiskFault)) c sound midway = group_stage m (entry ∷ entries) c sound midway
stage_stands m (confirms upto result) c sound midway = mark_stage m (all_below upto) result c sound midway
stage_stands m (marks stretches result) c sound midway = mark_stage m stretches result c sound midway
stage_stands m _ c sound midway = absurd midway

was_within : (x met : DeskState) (first rest : List Record) (c : List ℕ) → IsDesk x → Goes x first met → StandsWithin met rest c → Was x (calls_of first ++ calls_of rest) c
was_within x met first [] c rules goes within = absurd within
was_within x met first (one ∷ rest) c rules goes within =
    let m = within.0 in
    let past = all_later x met first m rules goes within.1.one in
    let stage = stage_stands m one.call c past.sound within.3 in
    let step = stage.3 in
    let grows = goes_grows x met first m rules goes within.1.one in
    record {
      state = stage.0;
      stands = stage.1;
      later = later_then x.spool m stage.0 past stage.2;
      first = calls_of first;
      rest = one.call ∷ calls_of rest;
      parts = refl;
      mended = grows.mended;
      one = grows.one;
      more = grows.more;
      adds = grows.adds;
      next = step.0;
      whole = step.1;
      grown = grown_then grows.mended m stage.0 grows.more step.0 grows.grown step.2;
    }

was_there : (x met : DeskState) (first rest : List Record) (c : List ℕ) → IsDesk x → Goes x first met → StandsForOne met.spool met.doubt c → Was x (calls_of first ++ calls_of rest) c
was_there x met first rest c rules goes here =
    let one = which_one met.spool met.doubt c here in
    let grows = goes_grows x met first one.0 rules goes one.1 in
    record {
      state = one.0;
      stands = one.2;
      later = all_later x met first one.0 rules goes one.1;
      first = calls_of first;
      rest = calls_of rest;
      parts = refl;
      mended = grows.mended;
      one = grows.one;
      more = grows.more;
      adds = grows.adds;
      next = [];
      whole = inl refl;
      grown = subst (λ (l : List Entry). Grown grows.mended l one.0) (sym (append-nil grows.more)) grows.grown;
    }

-- What was left of the disk at a moment of the calls is a later state. It has what the first of the calls added, in
-- order, and perhaps the whole group of the one that came next.
pub stood_was : (x : DeskState) (records : List Record) (c : List ℕ) → IsDesk x → Stood x records c → Was x (calls_of records) c
stood_was x records c rules h = subst (λ (l : List Call). Was x l c) (sym (ap calls_of h.parts ∙ calls_then h.first h.rest)) (elim h.stands [
  | inl here ↦ was_there x h.found h.first h.rest c rules h.goes here
  | inr within ↦ was_within x h.found h.first h.rest c rules h.goes within
])
