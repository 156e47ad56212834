-- What the records of a desk did to its spool.
use Rattle.std.proofs.Common.{◌≡◌, ◌⊎◌, inl, inr, ℕ, List, [], ◌∷◌, Option, None, Some, refl, sym, ◌∙◌, ap, subst}
use Rattle.std.specs.Prelude.{Bool, true, false, All, Result, Ok, Err, nat_le}
use Rattle.std.proofs.lemmas.Bool.{cond_both}
use Rattle.std.proofs.lemmas.List.Elements.{All-nil}
use Rattle.known_numbers.specs.declared.stretch.Stretch.{Stretch}
use Rattle.known_numbers.specs.Numbers.{marked}
use Rattle.event_form.specs.Entry.{IsEntry}
use Rattle.event_form.specs.declared.event.Entry.{Entry}
use Rattle.spool_state.specs.Segment.{need_of}
use Rattle.spool_state.specs.SpoolState.{IsSound, OpenSlot, SpoolState, numbers_of, room}
use Rattle.spool_state.specs.Change.{added, begun, shut}
use Rattle.spool_state.specs.Free.{is_confirmed, lowest_closed}
use Rattle.spool_state.proofs.Registered.{with_marked}
use Rattle.spool_answers.specs.declared.receipt.Receipt.{Receipt}
use Rattle.spool_faults.specs.declared.fault.TakeFault.{TakeFault}
use Rattle.spool_faults.specs.declared.fault.TakeFault.TheVariants.{TooLarge, Spent, Full}
use Rattle.spool_faults.specs.declared.fault.TakeFault.TheVariants as Take
use Rattle.spool_faults.specs.declared.fault.PendFault.{PendFault}
use Rattle.spool_faults.specs.declared.fault.PendFault.TheVariants as Pend
use Rattle.spool_faults.specs.declared.fault.ConfirmFault.{ConfirmFault}
use Rattle.spool_faults.specs.declared.fault.ConfirmFault.TheVariants as Confirm
use Rattle.spool_faults.specs.Fault.{as_take}
use Rattle.spool_answers.specs.Stages.{IsOneOf, begin_stages, closed_stages, first_stages, group_stages, last_of, replace_stages, total_of}
use Rattle.spool_answers.specs.Take.{Takes, after_take, take_doubt}
use Rattle.spool_answers.specs.Mark.{Marks, after_mark, all_below, mark_doubt}
use Rattle.hec_ids.specs.Table.{Table}
use Rattle.desk_access.specs.declared.standing.Standing.{Standing}
use Rattle.desk_access.specs.Call.{Call, asks, confirms, counts, forgets, issues, marks, pends, settles, takes}
use Rattle.desk_access.specs.Desk.{Answers, AnswersAs, DeskState, Joins, MarksOn, Mending, desk_of}
use Rattle.desk_access.specs.History.{Adds, Grown, IsDesk, TakeAdds}
use Rattle.desk_access.specs.Joint.{extended}
use Rattle.desk_access.proofs.Extending.{grown_extended}
use Rattle.desk_access.proofs.Growth.{grown_same, grown_self}
use Rattle.desk_access.proofs.Stages.{cons_of, group_are, group_some, last_in, none_of, one_in}
use Rattle.desk_access.proofs.Steps.{one_later, one_self, stage_adds}
use Rattle.forward_core.proofs.KnownLaw.{last_marked}
use Rattle.session_laws.specs.Led.{Did, KnowsBy, MarksIn, ReadsIn}

-- ---- the stages of a take know the same numbers

abbrev pub KnowsSame : SpoolState → SpoolState → Type 0
KnowsSame s t = numbers_of t ≡ numbers_of s

begin_same : (s : SpoolState) (place : ℕ) (group : List Entry) → All (KnowsSame s) (begin_stages s place group)
begin_same s place group =
    cons_of (KnowsSame s) (begun s place) (added (begun s place) group ∷ []) refl (cons_of (KnowsSame s) (added (begun s place) group) [] refl (none_of (KnowsSame s)))

first_same : (s : SpoolState) (older : List OpenSlot) (group : List Entry) → All (KnowsSame s) (first_stages s older group)
first_same s [] group = none_of (KnowsSame s)
first_same s (slot ∷ rest) group =
    cond_both (is_confirmed s slot) (replace_stages s (slot ∷ rest) group) [] (All (KnowsSame s))
    (λ yes. cons_of (KnowsSame s) (shut s rest) (begin_stages (shut s rest) slot.place group) refl (begin_same (shut s rest) slot.place group))
    (λ no. none_of (KnowsSame s))

closed_same : (s : SpoolState) (place : Option ℕ) (group : List Entry) → All (KnowsSame s) (closed_stages place s group)
closed_same s (Some place) group = begin_same s place group
closed_same s None group = first_same s s.older group

pub group_same : (s : SpoolState) (group : List Entry) → All (KnowsSame s) (group_stages s group)
group_same s group =
    cond_both (nat_le (need_of group) (room s)) (added s group ∷ []) (closed_stages (lowest_closed s s.slots) s group) (All (KnowsSame s))
    (λ yes. cons_of (KnowsSame s) (added s group) [] refl (none_of (KnowsSame s)))
    (λ no. closed_same s (lowest_closed s s.slots) group)

-- ---- one call, from a state that it met

-- what a call did, whatever it added
abbrev DidSome : SpoolState → Call → SpoolState → Type 0
DidSome s call t = (group : List Entry) × Did s call group t

-- nothing, so that the state is the same
did_none : (m t : SpoolState) (call : Call) → IsSound t → Adds call [] → KnowsBy m call m → ReadsIn m call → t ≡ m → DidSome m call t
did_none m t call sound adds knows read is =
    ([], record { sound = sound; entries = All-nil IsEntry; adds = adds; grown = subst (Grown m []) (sym is) (grown_self m); knows = subst (KnowsBy m call) (sym is) knows; read = read })

some_entries : (group here : List Entry) → All IsEntry group → (here ≡ []) ⊎ (here ≡ group) → All IsEntry here
some_entries group here limits (inl none) = subst (All IsEntry) (sym none) (All-nil IsEntry)
some_entries group here limits (inr all) = subst (All IsEntry) (sym all) limits

took : (m t : SpoolState) (group : List Entry) (result : Result Receipt TakeFault) → IsSound m → IsSound t → All IsEntry group → Takes m group result
    → IsOneOf (after_take m group result) (take_doubt m group result) t → DidSome m (takes group result) t
took m t group (Ok receipt) sound after limits takes_it is =
    let some = group_some m group sound takes_it.0.place in
    let same = last_in (KnowsSame m) m (group_stages m group) some (group_same m group) in
    (group, record { sound = after; entries = limits; adds = refl; grown = subst (Grown m group) (sym is) ((group_are m group sound).last some); knows = ap numbers_of is ∙ same; read = tt })
took m t group (Err (TooLarge need most)) sound after limits takes_it is = did_none m t (takes group (Err (TooLarge need most))) after refl refl tt is
took m t group (Err (Spent at)) sound after limits takes_it is = did_none m t (takes group (Err (Spent at))) after refl refl tt is
took m t group (Err (Full need free)) sound after limits takes_it is = did_none m t (takes group (Err (Full need free))) after refl refl tt is
took m t group (Err (Take.NotSpool at)) sound after limits takes_it is = absurd takes_it
took m t group (Err Take.NoMemory) sound after limits takes_it is = absurd takes_it
took m t group (Err Take.DiskFault) sound after limits takes_it one =
    let stages = group_stages m group in
    let adds = one_in (λ u. (here : List Entry) × ((here ≡ []) ⊎ (here ≡ group)) × Grown m here u) m t stages ([], inl refl, grown_self m) (λ k d lt. stage_adds m _ group ((group_are m group sound).each k d lt).grown) one in
    let same = one_in (KnowsSame m) m t stages refl (group_same m group) one in
    (adds.0, record { sound = after; entries = some_entries group adds.0 limits adds.1; adds = adds.1; grown = adds.2; knows = same; read = tt })

-- a mark, or a confirm
record Marked (m : SpoolState) (stretches : List Stretch) (result : Result Unit ConfirmFault) (t : SpoolState) : Type 0 where
  grown : Grown m [] t
  knows : MarksIn m stretches result t

marked_in : (m t : SpoolState) (stretches : List Stretch) (result : Result Unit ConfirmFault) → IsSound m → Marks m stretches result
    → IsOneOf (after_mark m stretches result) (mark_doubt m stretches result) t → Marked m stretches result t
marked_in m t stretches (Ok done) sound marks_it is = record {
  grown = subst (Grown m []) (sym is) (cond_both (nat_le (total_of (marked (numbers_of m) stretches)) (total_of (numbers_of m))) [] (with_marked m stretches ∷ []) (λ (l : List SpoolState). Grown m [] (last_of m l))
      (λ yes. grown_self m) (λ no. grown_same m (with_marked m stretches) refl refl));
  knows = ap numbers_of is ∙ last_marked m stretches sound.known;
}
marked_in m t stretches (Err (Confirm.Worn ordinal)) sound marks_it is = record { grown = subst (Grown m []) (sym is) (grown_self m); knows = inl (ap numbers_of is) }
marked_in m t stretches (Err (Confirm.NotSpool at)) sound marks_it is = absurd marks_it
marked_in m t stretches (Err Confirm.NoMemory) sound marks_it is = absurd marks_it
marked_in m t stretches (Err Confirm.DiskFault) sound marks_it stands =
    cond_both (nat_le (total_of (marked (numbers_of m) stretches)) (total_of (numbers_of m))) [] (with_marked m stretches ∷ []) (λ (l : List SpoolState). IsOneOf m l t → Marked m stretches (Err Confirm.DiskFault) t)
    (λ yes is. record { grown = subst (Grown m []) (sym is) (grown_self m); knows = inl (ap numbers_of is) })
    (λ no one. elim one [
      | inl is ↦ record { grown = subst (Grown m []) (sym is) (grown_self m); knows = inl (ap numbers_of is) }
      | inr is ↦ record { grown = subst (Grown m []) (sym is) (grown_same m (with_marked m stretches) refl refl); knows = inr (ap numbers_of is) }
    ]) stands

-- ---- one call, on a desk

-- A call led from one of a desk's states to this one.
pub record Back (x : DeskState) (call : Call) (t : SpoolState) : Type 0 where
  pub from : SpoolState
  pub one : IsOneOf x.spool x.doubt from
  pub group : List Entry
  pub did : Did from call group t

-- the spool and its doubt stayed
stayed : (x z : DeskState) (call : Call) (ids : Table) (t : SpoolState) → IsSound t → Adds call [] → KnowsBy t call t → ReadsIn t call → z ≡ desk_of x.spool x.doubt ids → IsOneOf z.spool z.doubt t → Back x call t
stayed x z call ids t sound adds knows read is one = record {
  from = t;
  one = subst (λ (d : DeskState). IsOneOf d.spool d.doubt t) is one;
  group = [];
  did = record { sound = sound; entries = All-nil IsEntry; adds = adds; grown = grown_self t; knows = knows; read = read };
}

-- it went on from a state that was found
went : (x z : DeskState) (call : Call) (m s : SpoolState) (doubt : List SpoolState) (t : SpoolState) → IsOneOf x.spool x.doubt m → z ≡ desk_of s doubt x.ids → IsOneOf z.spool z.doubt t → (IsOneOf s doubt t → DidSome m call t) → Back x call t
went x z call m s doubt t found is one did =
    let some = did (subst (λ (d : DeskState). IsOneOf d.spool d.doubt t) is one) in
    record { from = m; one = found; group = some.0; did = some.1 }

unmended : (group : List Entry) (fault : PendFault) → TakeAdds group (Err (as_take fault)) []
unmended group (Pend.NotSpool at) = refl
unmended group Pend.DiskFault = inl refl
unmended group Pend.NoMemory = refl

took_back : (x z : DeskState) (entry : Entry) (entries : List Entry) (result : Result Receipt TakeFault) (met : Option Standing) (t : SpoolState) → IsDesk x → IsSound t → All IsEntry (entry ∷ entries)
    → Mending x met (λ fault. result ≡ Err (as_take fault)) (λ m. Takes m (entry ∷ entries) result × (z ≡ desk_of (after_take m (entry ∷ entries) result) (take_doubt m (entry ∷ entries) result) x.ids)) z
    → IsOneOf z.spool z.doubt t → Back x (takes (entry ∷ entries) result) t
took_back x z entry entries result met t rules sound limits (inl same) one =
    stayed x z (takes (entry ∷ entries) result) x.ids t sound (subst (λ (r : Result Receipt TakeFault). TakeAdds (entry ∷ entries) r []) (sym same.1) (unmended (entry ∷ entries) same.0)) refl tt same.2.same one
took_back x z entry entries result met t rules sound limits (inr w) one =
    went x z (takes (entry ∷ entries) result) w.0 _ _ t w.1.one w.2.1 one (λ is. took w.0 t (entry ∷ entries) result (one_later x w.0 rules w.1.one).sound sound limits w.2.0 is)

marked_back : (x z : DeskState) (stretches : List Stretch) (result : Result Unit ConfirmFault) (met : Option Standing) (call : Call) (t : SpoolState) → IsDesk x → IsSound t → Adds call [] → ((s u : SpoolState) → MarksIn s stretches result u → KnowsBy s call u)
    → ((s : SpoolState) → ReadsIn s call) → MarksOn x stretches result met z → IsOneOf z.spool z.doubt t → Back x call t
marked_back x z stretches result met call t rules sound adds knows reads (ends, inl same) one =
    stayed x z call x.ids t sound adds (knows t t (subst (λ (r : Result Unit ConfirmFault). MarksIn t stretches r t) (sym same.1) (inl refl))) (reads t) same.2.same one
marked_back x z stretches result met call t rules sound adds knows reads (ends, inr w) one =
    went x z call w.0 _ _ t w.1.one w.2.1 one (λ is.
    let h = marked_in w.0 t stretches result (one_later x w.0 rules w.1.one).sound w.2.0 is in
    ([], record { sound = sound; entries = All-nil IsEntry; adds = adds; grown = h.grown; knows = knows w.0 t h.knows; read = reads w.0 }))

read_back : (x z : DeskState) (from most : ℕ) (met : Option Standing) (t : SpoolState) (call : Call) → IsSound t → Adds call [] → ((s : SpoolState) → KnowsBy s call s) → (m : SpoolState) → IsOneOf x.spool x.doubt m → ReadsIn m call → z ≡ desk_of m [] x.ids
    → IsOneOf z.spool z.doubt t → Back x call t
read_back x z from most met t call sound adds knows m found read is one = went x z call m m [] t found is one (λ same. did_none m t call sound adds (knows m) read same)

back : (x z : DeskState) (call : Call) (met : Option Standing) (t : SpoolState) → IsDesk x → IsSound t → Answers x call met z → IsOneOf z.spool z.doubt t → Back x call t
back x z (takes [] result) met t rules sound answers one =
    stayed x z (takes [] result) x.ids t sound (subst (λ (r : Result Receipt TakeFault). TakeAdds [] r []) (sym answers.0.ok) refl) refl tt answers.1.1 one
back x z (takes (entry ∷ entries) result) met t rules sound answers one = took_back x z entry entries result met t rules sound answers.0 answers.1 one
back x z (pends from most (Ok given)) met t rules sound (inl same) one = absurd (cc (same.1))
back x z (pends from most (Ok given)) met t rules sound (inr w) one =
    read_back x z from most met t (pends from most (Ok given)) sound refl (λ s. refl) w.0 w.1.one w.2.0 w.2.1 one
back x z (pends from most (Err fault)) met t rules sound (inl same) one = stayed x z (pends from most (Err fault)) x.ids t sound refl refl tt same.2.same one
back x z (pends from most (Err fault)) met t rules sound (inr w) one =
    read_back x z from most met t (pends from most (Err fault)) sound refl (λ s. refl) w.0 w.1.one tt w.2.1 one
back x z (confirms upto result) met t rules sound answers one = marked_back x z (all_below upto) result met (confirms upto result) t rules sound refl (λ s u m. m) (λ s. tt) answers one
back x z (marks stretches result) met t rules sound answers one = marked_back x z stretches result met (marks stretches result) t rules sound refl (λ s u m. m) (λ s. tt) answers one
back x z (counts number) met t rules sound answers one = stayed x z (counts number) x.ids t sound refl refl tt answers.1.1 one
back x z (issues channel result) met t rules sound answers one = stayed x z (issues channel result) answers.0 t sound refl refl tt answers.2.1 one
back x z (settles channel id answer) met t rules sound answers one = stayed x z (settles channel id answer) answers.0 t sound refl refl tt answers.2.1 one
back x z (forgets channel id answer) met t rules sound answers one = stayed x z (forgets channel id answer) answers.0 t sound refl refl tt answers.2.1 one
back x z (asks channel ids known) met t rules sound answers one = stayed x z (asks channel ids known) answers.0 t sound refl refl tt answers.2.1 one

-- a take that was stored as one group with the one before it made that group longer
joined_back : (x z : DeskState) (group : List Entry) (result : Result Receipt TakeFault) (m t : SpoolState) → IsSound t → All IsEntry group → IsOneOf x.spool x.doubt m → Joins x group result m z → IsOneOf z.spool z.doubt t
    → Back x (takes group result) t
joined_back x z group (Ok receipt) m t sound limits found joined one =
    went x z (takes group (Ok receipt)) m (extended m group) [] t found joined.4 one (λ is.
    (group, record { sound = sound; entries = limits; adds = refl; grown = subst (Grown m group) (sym is) (grown_extended m group joined.1); knows = ap numbers_of is; read = tt }))
joined_back x z group (Err Take.DiskFault) m t sound limits found joined one =
    elim (subst (λ (d : DeskState). IsOneOf d.spool d.doubt t) joined.2 one) [
      | inl stays ↦ record {
        from = x.spool;
        one = one_self x.spool x.doubt;
        group = [];
        did = record { sound = sound; entries = All-nil IsEntry; adds = inl refl; grown = subst (Grown x.spool []) (sym stays) (grown_self x.spool); knows = ap numbers_of stays; read = tt };
      }
      | inr longer ↦ record {
        from = m;
        one = found;
        group = group;
        did = record { sound = sound; entries = limits; adds = inr refl; grown = subst (Grown m group) (sym longer) (grown_extended m group joined.1); knows = ap numbers_of longer; read = tt };
      }
    ]
joined_back x z group (Err (TooLarge need most)) m t sound limits found joined one = absurd joined
joined_back x z group (Err (Spent at)) m t sound limits found joined one = absurd joined
joined_back x z group (Err (Full need free)) m t sound limits found joined one = absurd joined
joined_back x z group (Err (Take.NotSpool at)) m t sound limits found joined one = absurd joined
joined_back x z group (Err Take.NoMemory) m t sound limits found joined one = absurd joined

-- of any record
pub back_as : (joins : Bool) (x z : DeskState) (call : Call) (met : Option Standing) (t : SpoolState) → IsDesk x → IsSound t → AnswersAs joins x call met z → IsOneOf z.spool z.doubt t → Back x call t
back_as false x z call met t rules sound answers one = back x z call met t rules sound answers one
back_as true x z (takes (entry ∷ entries) result) met t rules sound answers one = joined_back x z (entry ∷ entries) result answers.1 t sound answers.0 answers.2.one answers.3 one
back_as true x z _ met t rules sound answers one = absurd answers
