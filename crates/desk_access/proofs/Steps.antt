-- What one call leads to.
use Rattle.std.proofs.Common.{◌≡◌, ◌⊎◌, inl, inr, ◌<◌, List, [], ◌∷◌, length, get_or, Option, refl, sym, ◌∙◌, ap, subst, arith}
use Rattle.std.specs.Prelude.{Bool, true, false, All, Result, Ok, Err}
use Rattle.known_numbers.specs.declared.stretch.Stretch.{Stretch}
use Rattle.event_form.specs.declared.event.Entry.{Entry}
use Rattle.spool_state.specs.Segment.{IsGroup}
use Rattle.spool_state.specs.SpoolState.{SpoolState, end, IsSound}
use Rattle.spool_answers.specs.declared.receipt.Receipt.{Receipt}
use Rattle.spool_faults.specs.declared.fault.TakeFault.{TakeFault}
use Rattle.spool_faults.specs.declared.fault.TakeFault.TheVariants.{TooLarge, Spent, Full}
use Rattle.spool_faults.specs.declared.fault.TakeFault.TheVariants as Take
use Rattle.spool_faults.specs.declared.fault.PendFault.{PendFault}
use Rattle.spool_faults.specs.declared.fault.PendFault.TheVariants as Pend
use Rattle.spool_faults.specs.declared.fault.ConfirmFault.{ConfirmFault}
use Rattle.spool_faults.specs.declared.fault.ConfirmFault.TheVariants as Confirm
use Rattle.spool_faults.specs.Fault.{as_take}
use Rattle.spool_answers.specs.Stages.{IsOneOf, group_stages, known_stages, last_of}
use Rattle.spool_answers.specs.Take.{Takes, after_take, take_doubt}
use Rattle.spool_answers.specs.Mark.{EndsBy, all_below, Marks, after_mark, mark_doubt}
use Rattle.hec_ids.specs.Table.{Table}
use Rattle.hec_ids.specs.Table as Ids
use Rattle.hec_ids.specs.Laws.{IsCall, issue, settle, forget, ask}
use Rattle.hec_ids.proofs.CallLaws.{calls_keep_sound}
use Rattle.desk_access.specs.declared.standing.Standing.{Standing}
use Rattle.desk_access.specs.Call.{Call, Record, takes, pends, confirms, marks, counts, issues, settles, forgets, asks}
use Rattle.desk_access.specs.Desk.{DeskState, desk_of, Answers, Allowed, Goes, MarksOn, Mending, Joins, AnswersAs}
use Rattle.desk_access.specs.Joint.{extended}
use Rattle.desk_access.proofs.Extending.{end-extended, grown_extended, later_extended}
use Rattle.desk_access.specs.History.{IsLater, IsDesk, AreTold, Grown, Adds, TakeAdds}
use Rattle.desk_access.proofs.Growth.{grown_self}
use Rattle.desk_access.proofs.Stages.{AreStages, later_self, later_then, none_of, cons_of, told_two, last_in, one_in, told_one, group_some, group_are, group_later, group_told, known_are, known_later, known_told}

-- a state that is one of those of a desk is later than the first
pub one_later : (x : DeskState) (m : SpoolState) → IsDesk x → IsOneOf x.spool x.doubt m → IsLater x.spool m
one_later x m rules one = one_in (IsLater x.spool) x.spool m x.doubt (later_self x.spool rules.sound) rules.later one

-- A call led from a mended state to that of a desk, which it and each stage of its doubt are later than.
pub record Moves (m : SpoolState) (call : Call) (y : DeskState) : Type 0 where
  pub later : IsLater m y.spool
  pub doubt : All (IsLater y.spool) y.doubt
  pub told : AreTold y.spool y.doubt
  pub adds : (t : SpoolState) → IsOneOf y.spool y.doubt t → (here : List Entry) × Adds call here × Grown m here t

-- A call made longer the group of the take before it, or the one that is in doubt.
pub record Extends (x : DeskState) (call : Call) (y : DeskState) : Type 0 where
  pub later : IsLater x.spool y.spool
  pub doubt : All (IsLater y.spool) y.doubt
  pub told : AreTold y.spool y.doubt
  pub adds : (t : SpoolState) → IsOneOf y.spool y.doubt t → (m : SpoolState) × IsOneOf x.spool x.doubt m × (here : List Entry) × Adds call here × Grown m here t

-- A call left the spool and its doubt as they were, or led on from a mended state, or made a group longer.
pub record Steps (x : DeskState) (call : Call) (y : DeskState) : Type 0 where
  pub spool : (Adds call [] × (y.spool ≡ x.spool) × (y.doubt ≡ x.doubt)) ⊎ ((m : SpoolState) × IsOneOf x.spool x.doubt m × Moves m call y) ⊎ Extends x call y
  pub ids : (y.ids ≡ x.ids) ⊎ IsCall x.ids y.ids

-- nothing changed but by mending
stays : (m : SpoolState) (call : Call) (ids : Table) → IsSound m → Adds call [] → Moves m call (desk_of m [] ids)
stays m call ids sound none = record {
  later = later_self m sound;
  doubt = none_of (IsLater m);
  told = told_one m;
  adds = λ t is. ([], none, subst (Grown m []) (sym is) (grown_self m));
}

-- the group is in the list
added_ok : (m : SpoolState) (group : List Entry) (receipt : Receipt) (stages : List SpoolState) (ids : Table) → 0 < length stages → AreStages m group stages → All (IsLater m) stages → Moves m (takes group (Ok receipt)) (desk_of (last_of m stages) [] ids)
added_ok m group receipt stages ids some are later = record {
  later = last_in (IsLater m) m stages some later;
  doubt = none_of (IsLater (last_of m stages));
  told = told_one (last_of m stages);
  adds = λ t is. (group, refl, subst (Grown m group) (sym is) (are.last some));
}

-- each of some stages has the group or not
pub stage_adds : (m t : SpoolState) (group : List Entry) → (Grown m [] t ⊎ Grown m group t) → (here : List Entry) × ((here ≡ []) ⊎ (here ≡ group)) × Grown m here t
stage_adds m t group (inl none) = ([], inl refl, none)
stage_adds m t group (inr some) = (group, inr refl, some)

one_adds : (m t : SpoolState) (group : List Entry) (stages : List SpoolState) → AreStages m group stages → IsOneOf m stages t → (here : List Entry) × ((here ≡ []) ⊎ (here ≡ group)) × Grown m here t
one_adds m t group stages are one =
    one_in (λ u. (here : List Entry) × ((here ≡ []) ⊎ (here ≡ group)) × Grown m here u) m t stages ([], inl refl, grown_self m) (λ k d lt. stage_adds m (get_or stages k d) group (are.each k d lt).grown) one

-- a take, answered in a mended state
take_moves : (m : SpoolState) (group : List Entry) (result : Result Receipt TakeFault) (ids : Table) → IsSound m → IsGroup group → Takes m group result → Moves m (takes group result) (desk_of (after_take m group result) (take_doubt m group result) ids)
take_moves m group (Ok receipt) ids sound is takes_it = added_ok m group receipt (group_stages m group) ids (group_some m group sound takes_it.0.place) (group_are m group sound) (group_later m group sound is takes_it.0)
take_moves m group (Err (TooLarge need most)) ids sound is takes_it = stays m (takes group (Err (TooLarge need most))) ids sound refl
take_moves m group (Err (Spent at)) ids sound is takes_it = stays m (takes group (Err (Spent at))) ids sound refl
take_moves m group (Err (Full need free)) ids sound is takes_it = stays m (takes group (Err (Full need free))) ids sound refl
take_moves m group (Err (Take.NotSpool at)) ids sound is takes_it = absurd takes_it
take_moves m group (Err Take.NoMemory) ids sound is takes_it = absurd takes_it
take_moves m group (Err Take.DiskFault) ids sound is takes_it = record {
  later = later_self m sound;
  doubt = group_later m group sound is takes_it;
  told = group_told m group sound is takes_it.small;
  adds = λ t one. one_adds m t group (group_stages m group) (group_are m group sound) one;
}

-- a take that met a doubt which was not mended
unmended_adds : (group : List Entry) (fault : PendFault) → TakeAdds group (Err (as_take fault)) []
unmended_adds group (Pend.NotSpool at) = refl
unmended_adds group Pend.DiskFault = inl refl
unmended_adds group Pend.NoMemory = refl

last_moved : (m : SpoolState) (stages : List SpoolState) → IsSound m → All (IsLater m) stages → IsLater m (last_of m stages)
last_moved m [] sound later = later_self m sound
last_moved m (stage ∷ stages) sound later = last_in (IsLater m) m (stage ∷ stages) (omega arith) later

last_grown : (m : SpoolState) (stages : List SpoolState) → AreStages m [] stages → Grown m [] (last_of m stages)
last_grown m [] are = grown_self m
last_grown m (stage ∷ stages) are = are.last (omega arith)

none_adds : (m t : SpoolState) (stages : List SpoolState) → AreStages m [] stages → IsOneOf m stages t → Grown m [] t
none_adds m t stages are one = one_in (Grown m []) m t stages (grown_self m) (λ k d lt. elim (are.each k d lt).grown [ inl none ↦ none | inr none ↦ none ]) one

-- a mark, answered in a mended state
mark_moves : (m : SpoolState) (more : List Stretch) (result : Result Unit ConfirmFault) (call : Call) (ids : Table) → IsSound m → All (EndsBy (end m)) more → Marks m more result → ((here : List Entry) → here ≡ [] → Adds call here)
    → Moves m call (desk_of (after_mark m more result) (mark_doubt m more result) ids)
mark_moves m more (Ok done) call ids sound ends is none = record {
  later = last_moved m (known_stages m more) sound (known_later m more sound ends is);
  doubt = none_of (IsLater (last_of m (known_stages m more)));
  told = told_one (last_of m (known_stages m more));
  adds = λ t one. ([], none [] refl, subst (Grown m []) (sym one) (last_grown m (known_stages m more) (known_are m more)));
}
mark_moves m more (Err (Confirm.Worn ordinal)) call ids sound ends is none = stays m call ids sound (none [] refl)
mark_moves m more (Err (Confirm.NotSpool at)) call ids sound ends is none = absurd is
mark_moves m more (Err Confirm.NoMemory) call ids sound ends is none = absurd is
mark_moves m more (Err Confirm.DiskFault) call ids sound ends is none = record {
  later = later_self m sound;
  doubt = known_later m more sound ends (inr is.1);
  told = known_told m more;
  adds = λ t one. ([], none [] refl, none_adds m t (known_stages m more) (known_are m more) one);
}

-- ---- a desk

-- the desk is as it was, in its spool and its doubt
same_spool : (x y : DeskState) (call : Call) (ids : Table) → Adds call [] → y ≡ desk_of x.spool x.doubt ids → (ids ≡ x.ids) ⊎ IsCall x.ids ids → Steps x call y
same_spool x y call ids none is how = subst (Steps x call) (sym is) (record { spool = inl (none, refl, refl); ids = how })

ends_later : (x : DeskState) (m : SpoolState) (more : List Stretch) → IsLater x.spool m → All (EndsBy (end x.spool)) more → All (EndsBy (end m)) more
ends_later x m more later ends k d lt = record { order = (ends k d lt).order; within = omega (arith, (ends k d lt).within, later.follows.end_rises) }

went_on : (x y : DeskState) (call : Call) (m : SpoolState) (spool : SpoolState) (doubt : List SpoolState) → IsOneOf x.spool x.doubt m → y ≡ desk_of spool doubt x.ids → Moves m call (desk_of spool doubt x.ids) → Steps x call y
went_on x y call m spool doubt one is moves = subst (Steps x call) (sym is) (record { spool = inr (inl (m, one, moves)); ids = inl refl })

-- the spool is one of the states that a desk may be in
pub one_self : (s : SpoolState) (doubt : List SpoolState) → IsOneOf s doubt s
one_self s [] = refl
one_self s (stage ∷ doubt) = inl refl

-- a take that was stored as one group with the one before it
joins_on : (x y : DeskState) (group : List Entry) (result : Result Receipt TakeFault) (m : SpoolState) → IsDesk x → IsGroup group → IsOneOf x.spool x.doubt m → Joins x group result m y → Extends x (takes group result) y × (y.ids ≡ x.ids)
joins_on x y group (Ok receipt) m rules is one joined =
    let before = one_later x m rules one in
    let t = extended m group in (
      subst (Extends x (takes group (Ok receipt))) (sym joined.4) (record {
        later = later_then x.spool m t before (later_extended m group joined.1 before.sound is.entries);
        doubt = none_of (IsLater t);
        told = told_one t;
        adds = λ u at. (m, one, group, refl, subst (Grown m group) (sym at) (grown_extended m group joined.1));
      }),
      ap (λ (d : DeskState). d.ids) joined.4,
    )
joins_on x y group (Err Take.DiskFault) m rules is one joined =
    let before = one_later x m rules one in
    let t = extended m group in
    let later = later_then x.spool m t before (later_extended m group joined.1 before.sound is.entries) in (
      subst (Extends x (takes group (Err Take.DiskFault))) (sym joined.2) (record {
        later = later_self x.spool rules.sound;
        doubt = cons_of (IsLater x.spool) t [] later (none_of (IsLater x.spool));
        told = told_two x.spool t (λ same. omega (arith, ap (λ (n : Standing). n.end) same, end-extended m group joined.1, before.follows.end_rises, is.some));
        adds = λ u at. elim at [
          | inl stays ↦ (x.spool, one_self x.spool x.doubt, [], inl refl, subst (Grown x.spool []) (sym stays) (grown_self x.spool))
          | inr longer ↦ (m, one, group, inr refl, subst (Grown m group) (sym longer) (grown_extended m group joined.1))
        ];
      }),
      ap (λ (d : DeskState). d.ids) joined.2,
    )
joins_on x y group (Err (TooLarge need most)) m rules is one joined = absurd joined
joins_on x y group (Err (Spent at)) m rules is one joined = absurd joined
joins_on x y group (Err (Full need free)) m rules is one joined = absurd joined
joins_on x y group (Err (Take.NotSpool at)) m rules is one joined = absurd joined
joins_on x y group (Err Take.NoMemory) m rules is one joined = absurd joined

took : (x y : DeskState) (group : List Entry) (result : Result Receipt TakeFault) (met : Option Standing) → IsDesk x → IsGroup group
    → Mending x met (λ fault. result ≡ Err (as_take fault)) (λ m. Takes m group result × (y ≡ desk_of (after_take m group result) (take_doubt m group result) x.ids)) y → Steps x (takes group result) y
took x y group result met rules is (inl stayed) = same_spool x y (takes group result) x.ids (subst (λ (r : Result Receipt TakeFault). TakeAdds group r []) (sym stayed.1) (unmended_adds group stayed.0)) stayed.2.same (inl refl)
took x y group result met rules is (inr went) =
    went_on x y (takes group result) went.0 _ _ went.1.one went.2.1 (take_moves went.0 group result x.ids (one_later x went.0 rules went.1.one).sound is went.2.0)

marked_on : (x y : DeskState) (more : List Stretch) (result : Result Unit ConfirmFault) (met : Option Standing) (call : Call) → IsDesk x → ((here : List Entry) → here ≡ [] → Adds call here) → MarksOn x more result met y → Steps x call y
marked_on x y more result met call rules none (ends, inl stayed) = same_spool x y call x.ids (none [] refl) stayed.2.same (inl refl)
marked_on x y more result met call rules none (ends, inr went) =
    let later = one_later x went.0 rules went.1.one in
    went_on x y call went.0 _ _ went.1.one went.2.1 (mark_moves went.0 more result call x.ids later.sound (ends_later x went.0 more later ends) went.2.0 none)

-- each call that is allowed
pub steps : (x y : DeskState) (call : Call) (met : Option Standing) → IsDesk x → Answers x call met y → Steps x call y
steps x y (takes [] result) met rules answers = same_spool x y (takes [] result) x.ids (subst (λ (r : Result Receipt TakeFault). TakeAdds [] r []) (sym answers.0.ok) refl) answers.1.1 (inl refl)
steps x y (takes (entry ∷ entries) result) met rules answers = took x y (entry ∷ entries) result met rules (record { some = omega arith; entries = answers.0 }) answers.1
steps x y (pends from most result) met rules (inl stayed) = same_spool x y (pends from most result) x.ids refl stayed.2.same (inl refl)
steps x y (pends from most result) met rules (inr went) = went_on x y (pends from most result) went.0 went.0 [] went.1.one went.2.1 (stays went.0 (pends from most result) x.ids (one_later x went.0 rules went.1.one).sound refl)
steps x y (confirms upto result) met rules answers = marked_on x y (all_below upto) result met (confirms upto result) rules (λ here is. is) answers
steps x y (marks stretches result) met rules answers = marked_on x y stretches result met (marks stretches result) rules (λ here is. is) answers
steps x y (counts number) met rules answers = same_spool x y (counts number) x.ids refl answers.1.1 (inl refl)
steps x y (issues channel result) met rules answers = same_spool x y (issues channel result) answers.0 refl answers.2.1 (inr (issue channel result answers.1))
steps x y (settles channel id answer) met rules answers = same_spool x y (settles channel id answer) answers.0 refl answers.2.1 (inr (settle channel id answer answers.1))
steps x y (forgets channel id answer) met rules answers = same_spool x y (forgets channel id answer) answers.0 refl answers.2.1 (inr (forget channel id answer answers.1))
steps x y (asks channel ids known) met rules answers = same_spool x y (asks channel ids known) answers.0 refl answers.2.1 (inr (ask channel ids known answers.1))

-- so does a take that was stored as one group with the one before it
pub steps_as : (joins : Bool) (x y : DeskState) (call : Call) (met : Option Standing) → IsDesk x → AnswersAs joins x call met y → Steps x call y
steps_as false x y call met rules answers = steps x y call met rules answers
steps_as true x y (takes (entry ∷ entries) result) met rules answers =
    let done = joins_on x y (entry ∷ entries) result answers.1 rules (record { some = omega arith; entries = answers.0 }) answers.2.one answers.3 in
    record { spool = inr (inr done.0); ids = inl done.1 }
steps_as true x y _ met rules answers = absurd answers

-- the table stays sound, and of its run
ids_stay : (t u : Table) → Ids.IsSound t → (u ≡ t) ⊎ IsCall t u → Ids.IsSound u × (u.run ≡ t.run)
ids_stay t u sound (inl same) = (subst Ids.IsSound (sym same) sound, ap (λ (v : Table). v.run) same)
ids_stay t u sound (inr call) = let kept = calls_keep_sound t u call sound in (kept.0, kept.1)

-- Calls that are allowed keep the rules, and lead to a later state.
pub steps_later : (x y : DeskState) (call : Call) → IsDesk x → Steps x call y → IsDesk y × IsLater x.spool y.spool
steps_later x y call rules step =
    let table = ids_stay x.ids y.ids rules.ids step.ids in
    elim step.spool [
      | inl same ↦ (
        record {
          sound = subst IsSound (sym same.1) rules.sound;
          later = subst (λ (l : List SpoolState). All (IsLater y.spool) l) (sym same.2) (subst (λ (s : SpoolState). All (IsLater s) x.doubt) (sym same.1) rules.later);
          told = subst (λ (l : List SpoolState). AreTold y.spool l) (sym same.2) (subst (λ (s : SpoolState). AreTold s x.doubt) (sym same.1) rules.told);
          ids = table.0;
          run = table.1 ∙ rules.run ∙ ap (λ (s : SpoolState). s.run) (sym same.1);
        },
        subst (IsLater x.spool) (sym same.1) (later_self x.spool rules.sound),
      )
      | inr (inl went) ↦
          let moves = went.2 in
          let later = later_then x.spool went.0 y.spool (one_later x went.0 rules went.1) moves.later in
          (record { sound = later.sound; later = moves.doubt; told = moves.told; ids = table.0; run = table.1 ∙ rules.run ∙ sym later.run }, later)
      | inr (inr longer) ↦
          (record { sound = longer.later.sound; later = longer.doubt; told = longer.told; ids = table.0; run = table.1 ∙ rules.run ∙ sym longer.later.run }, longer.later)
    ]

pub allowed_later : (x y : DeskState) (one : Record) → IsDesk x → Allowed x one y → IsDesk y × IsLater x.spool y.spool
allowed_later x y one rules allowed = steps_later x y one.call rules (steps_as one.joins x y one.call one.met rules allowed.answers)

pub goes_later : (x y : DeskState) (records : List Record) → IsDesk x → Goes x records y → IsDesk y × IsLater x.spool y.spool
goes_later x y [] rules goes = (subst IsDesk (sym goes) rules, subst (λ (d : DeskState). IsLater x.spool d.spool) (sym goes) (later_self x.spool rules.sound))
goes_later x y (one ∷ records) rules goes =
    let first = allowed_later x goes.0 one rules goes.1 in
    let rest = goes_later goes.0 y records first.0 goes.2 in
    (rest.0, later_then x.spool goes.0.spool y.spool first.1 rest.1)

-- Each state of the desk after them, its doubt's too, is a later one.
pub all_later : (x y : DeskState) (records : List Record) (t : SpoolState) → IsDesk x → Goes x records y → IsOneOf y.spool y.doubt t → IsLater x.spool t
all_later x y records t rules goes one =
    let met = goes_later x y records rules goes in
    later_then x.spool y.spool t met.1 (one_later y t met.0 one)
