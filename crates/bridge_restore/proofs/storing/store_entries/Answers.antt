use Rattle.std.proofs.Common.{◌≡◌, ◌+◌, ◌++◌, ◌∷◌, [], ◌∙◌, List, length, sym, ap, arith, append_assoc, length-append, subst}
use Rattle.std.specs.Prelude.{All}
use Rattle.std.specs.Vec.Iter.{into_iter_items}
use Rattle.std.proofs.lemmas.List.{append-nil, nil_from_length}
use Rattle.event_form.specs.declared.event.Entry.{Entry}
use Rattle.event_form.specs.Entry.{IsEntry}
use Rattle.edge_disk.proofs.Calls.{calls_none, calls_as, calls_on}
use Rattle.spool_slots.proofs.Faults.{handed}
use Rattle.spool_log.specs.State.{view}
use Rattle.spool_move.specs.Moved.{moved}
use Rattle.bridge_restore.specs.Storing.{HasStored, StopsStoring}
use Rattle.bridge_restore.specs.declared.fault.StoreFault.TheVariants.{Untaken}
use Rattle.bridge_restore.specs.Told.{told_from}
use Rattle.bridge_restore.proofs.Joining.{told_append, stored_none, stored_then, stops_then, stops_more, one_stored, one_refused, item_at, told_push}
use Rattle.bridge_restore.proofs.storing.store_entries.Goals as goal

pub loop-entry-init : goal.loop-entry-init
loop-entry-init g c = record {
  can_next = tt;
  is_finite = tt;
  parts = sym c.into_iter-entry-iterator.ensures.into_iter_gives.0;
  whole = c.into_iter-entry-iterator.ensures.into_iter_gives.1 ∙ c.args.entries.ok.0 ∙ ap length (sym c.into_iter-entry-iterator.ensures.into_iter_gives.0);
  number_is = omega arith;
  calls = calls_none _;
  stored = λ t tells held. stored_none t _ held (g.met.E.Disk.lawful c.args.target.now.disk tells);
}

pub take_one-requires : goal.take_one-requires
take_one-requires g c =
    let parts = c.loop-entry.invariant.parts ∙ ap (λ (l : List Entry). c.loop-entry.yielded ++ l) c.in-Some.ensures.steps.0 in
    record { limits = item_at IsEntry c.loop-entry.yielded c.in-Some.entry (into_iter_items c.next.new.self) (subst (All IsEntry) parts c.requires.limits) }

pub overflow_add-number : goal.overflow_add-number
overflow_add-number g c =
    let parts = c.loop-entry.invariant.parts ∙ ap (λ (l : List Entry). c.loop-entry.yielded ++ l) c.in-Some.ensures.steps.0 in
    omega (arith, c.loop-entry.invariant.number_is, c.requires.ends, ap length parts, length-append c.loop-entry.yielded (c.in-Some.entry ∷ into_iter_items c.next.new.self))

pub returns-in_err-take_one-clause-stored : goal.returns-in_err-take_one-clause-stored
returns-in_err-take_one-clause-stored g c = λ t tells held.
    let inv = c.loop-entry.invariant in
    let old = view c.args.target.now.memory c.args.target.now.doubt (g.E.Disk.moment c.args.target.now.disk) in
    let mid = view c.loop-entry.target.memory c.loop-entry.target.doubt (g.E.Disk.moment c.loop-entry.target.disk) in
    let new = view c.take_one.new.target.memory c.take_one.new.target.doubt (g.E.Disk.moment c.take_one.new.target.disk) in
    let fault = c.in_err-take_one.field-0.0 in
    let xs = c.loop-entry.yielded in
    let e = c.in-Some.entry in
    let rest = into_iter_items c.next.new.self in
    let tag = c.args.tag in
    let first = c.args.first in
    let here = moved tag (record { number = c.loop-entry.number; entry = e }) in
    let parts = inv.parts ∙ ap (λ (l : List Entry). xs ++ l) c.in-Some.ensures.steps.0 ∙ sym (append_assoc xs (e ∷ []) rest) in
    let behind = told_from tag (first + length (xs ++ e ∷ [])) rest in
    let whole : told_from tag first c.args.entries.items ≡ (told_from tag first xs ++ here ∷ []) ++ behind =
    ap (told_from tag first) parts ∙ told_append tag first (xs ++ e ∷ []) rest ∙ ap (λ (l : List Entry). l ++ behind) (told_push tag first c.loop-entry.number xs e inv.number_is) in
    let before = inv.stored t tells held in
    handed _ _ _ _ c.from_residual.ensures.1
    (subst (λ (l : List Entry). StopsStoring t l (Untaken fault) old new) (sym whole)
    (stops_more t (told_from tag first xs ++ here ∷ []) behind (Untaken fault) old new
    (stops_then t (told_from tag first xs) (here ∷ []) old mid new before (Untaken fault)
    (one_refused before.t here mid new fault before.reached (c.in_err-take_one.ensures.taken before.t tells before.reached)))))

pub loop-entry-preserved : goal.loop-entry-preserved
loop-entry-preserved g c =
    let inv = c.loop-entry.invariant in
    let call = c.in_ok-take_one.ensures in
    let xs = c.loop-entry.yielded in
    let e = c.in-Some.entry in
    let old = view c.args.target.now.memory c.args.target.now.doubt (g.E.Disk.moment c.args.target.now.disk) in
    let mid = view c.loop-entry.target.memory c.loop-entry.target.doubt (g.E.Disk.moment c.loop-entry.target.disk) in
    let new = view c.take_one.new.target.memory c.take_one.new.target.doubt (g.E.Disk.moment c.take_one.new.target.disk) in
    let tag = c.args.tag in
    let first = c.args.first in
    let here = moved tag (record { number = c.loop-entry.number; entry = e }) in
    record {
      can_next = tt;
      is_finite = tt;
      parts = inv.parts ∙ ap (λ (l : List Entry). xs ++ l) c.in-Some.ensures.steps.0 ∙ sym (append_assoc xs (e ∷ []) (into_iter_items c.next.new.self));
      whole = omega (arith, inv.whole, ap length c.in-Some.ensures.steps.0, c.in-Some.ensures.steps.1);
      number_is = omega (arith, inv.number_is, length-append xs (e ∷ []));
      calls = calls_on _ _ _ _ _ inv.calls (λ none. none) (calls_as _ _ _ _ call.calls (λ none. absurd none) (λ is. cc));
      stored = λ t tells held.
          let before = inv.stored t tells held in
          subst (λ (l : List Entry). HasStored t l old new) (sym (told_push tag first c.loop-entry.number xs e inv.number_is))
          (stored_then t (told_from tag first xs) (here ∷ []) old mid new before (one_stored before.t here mid new (call.taken before.t tells before.reached)));
    }

pub returns-clause-stored : goal.returns-clause-stored
returns-clause-stored g c = λ t tells held.
    let inv = c.loop-entry.invariant in
    let old = view c.args.target.now.memory c.args.target.now.doubt (g.E.Disk.moment c.args.target.now.disk) in
    let new = view c.loop-entry.target.memory c.loop-entry.target.doubt (g.E.Disk.moment c.loop-entry.target.disk) in
    let none = nil_from_length (into_iter_items c.loop-entry.entry-iterator) (sym inv.whole ∙ c.in-None.ensures.steps.0) in
    let all = inv.parts ∙ ap (λ (l : List Entry). c.loop-entry.yielded ++ l) none ∙ append-nil c.loop-entry.yielded in
    subst (λ (l : List Entry). HasStored t (told_from c.args.tag c.args.first l) old new) (sym all) (inv.stored t tells held)
