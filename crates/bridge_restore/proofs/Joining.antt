-- Entries stored after others.
use Rattle.std.proofs.Common.{◌≡◌, inl, inr, ℕ, suc, ◌+◌, ◌≤◌, List, [], ◌∷◌, ◌++◌, length, refl, sym, ◌∙◌, ap, arith, append_assoc}
use Rattle.std.specs.Prelude.{Ok, Err, All}
use Rattle.std.proofs.lemmas.List.{map-append}
use Rattle.event_form.specs.declared.event.Entry.{Entry}
use Rattle.edge_disk.specs.Disk.{Moment, IsLawful, LeavesOnly}
use Rattle.edge_disk.proofs.Moments.{both, started, weaker}
use Rattle.spool_state.specs.SpoolState.{SpoolState, base}
use Rattle.spool_state.specs.Left.{numbered}
use Rattle.spool_state.proofs.Unknown.{numbered_append}
use Rattle.spool_faults.specs.declared.fault.TakeFault.{TakeFault}
use Rattle.spool_slots.specs.declared.fault.ScanFault.{ScanFault}
use Rattle.spool_slots.specs.Fault.{IsNotBroken}
use Rattle.spool_log.specs.State.{View, IsIn}
use Rattle.spool_move.specs.Moved.{moved, all_moved}
use Rattle.spool_move.specs.Stands.{HasTaken}
use Rattle.spool_move.specs.Walking.{IsTaking, TakesOne}
use Rattle.spool_move.proofs.Growing.{taken_none, taken_then}
use Rattle.bridge_restore.specs.declared.fault.StoreFault.{StoreFault}
use Rattle.bridge_restore.specs.declared.fault.StoreFault.TheVariants.{Strange, Unseen, Unread, Untaken}
use Rattle.bridge_restore.specs.Storing.{HasFront, IsStoring, HasStored, StopsAt, StopsStoring}
use Rattle.bridge_restore.specs.Told.{told_from}

-- ---- the entries of two lists, as they are told

pub told_append : (tag first : ℕ) (xs ys : List Entry) → told_from tag first (xs ++ ys) ≡ told_from tag first xs ++ told_from tag (first + length xs) ys
told_append tag first xs ys = ap (all_moved tag) (numbered_append first xs ys) ∙ map-append (λ one. moved tag one) (numbered first xs) (numbered (first + length xs) ys)

-- ---- fronts

front_none : (u : SpoolState) (entries : List Entry) → base u ≤ u.cursor → HasFront u entries u
front_none u entries from = record { front = []; rest = entries; parts = refl; taken = taken_none u from }

front_first : (u t : SpoolState) (xs ys : List Entry) → HasFront u xs t → HasFront u (xs ++ ys) t
front_first u t xs ys h = record {
  front = h.front;
  rest = h.rest ++ ys;
  parts = ap (λ (l : List Entry). l ++ ys) h.parts ∙ append_assoc h.front h.rest ys;
  taken = h.taken;
}

front_then : (u t v : SpoolState) (xs ys : List Entry) → HasTaken u xs t → HasFront t ys v → HasFront u (xs ++ ys) v
front_then u t v xs ys p h = record {
  front = xs ++ h.front;
  rest = h.rest;
  parts = ap (λ (l : List Entry). xs ++ l) h.parts ∙ sym (append_assoc xs h.front h.rest);
  taken = taken_then u t v xs h.front p h.taken;
}

-- ---- what is left meanwhile

storing_then : (u t : SpoolState) (xs ys : List Entry) (old mid new : Moment) → HasTaken u xs t → LeavesOnly (IsStoring u xs) old mid → LeavesOnly (IsStoring t ys) mid new
    → LeavesOnly (IsStoring u (xs ++ ys)) old new
storing_then u t xs ys old mid new p one two =
    both (IsStoring u xs) (IsStoring t ys) (IsStoring u (xs ++ ys)) old mid new one two
    (λ c s. (s.0, s.1, front_first u s.0 xs ys s.2))
    (λ c s. (s.0, s.1, front_then u t s.0 xs ys p s.2))

pub storing_more : (u : SpoolState) (xs ys : List Entry) (old new : Moment) → LeavesOnly (IsStoring u xs) old new → LeavesOnly (IsStoring u (xs ++ ys)) old new
storing_more u xs ys old new one = weaker (IsStoring u xs) (IsStoring u (xs ++ ys)) old new one (λ c s. (s.0, s.1, front_first u s.0 xs ys s.2))

-- ---- none, or some and then others

pub stored_none : (u : SpoolState) (old : View) → IsIn u [] old → IsLawful old.moment → HasStored u [] old old
stored_none u old held lawful = record {
  t = u;
  reached = held;
  taken = taken_none u held.sound.from_base;
  any_moment = started (IsStoring u []) old.moment lawful (λ d image. (u, held.each d image, front_none u [] held.sound.from_base));
}

module _ (u : SpoolState) (xs ys : List Entry) (old mid new : View) (h : HasStored u xs old mid) where
  pub stored_then : HasStored h.t ys mid new → HasStored u (xs ++ ys) old new
  stored_then k = record {
    t = k.t;
    reached = k.reached;
    taken = taken_then u h.t k.t xs ys h.taken k.taken;
    any_moment = storing_then u h.t xs ys old.moment mid.moment new.moment h.taken h.any_moment k.any_moment;
  }

  pub stops_then : (fault : StoreFault) → StopsStoring h.t ys fault mid new → StopsStoring u (xs ++ ys) fault old new
  stops_then fault k = record {
    front = xs ++ k.front;
    rest = k.rest;
    t = k.t;
    parts = ap (λ (l : List Entry). xs ++ l) k.parts ∙ sym (append_assoc xs k.front k.rest);
    taken = taken_then u h.t k.t xs k.front h.taken k.taken;
    stops = k.stops;
    any_moment = storing_then u h.t xs ys old.moment mid.moment new.moment h.taken h.any_moment k.any_moment;
  }

-- it stops there too where others would follow
stops_at_more : (t : SpoolState) (rest ys : List Entry) (fault : StoreFault) (new : View) → StopsAt t rest fault new → StopsAt t (rest ++ ys) fault new
stops_at_more t rest ys (Strange number) new is = absurd is
stops_at_more t rest ys (Unseen fault) new is = absurd is
stops_at_more t rest ys (Unread fault) new is = is
stops_at_more t rest ys (Untaken fault) new is = (is.0, is.1 ++ ys, ap (λ (l : List Entry). l ++ ys) is.2, is.3, is.4)

pub stops_more : (u : SpoolState) (xs ys : List Entry) (fault : StoreFault) (old new : View) → StopsStoring u xs fault old new → StopsStoring u (xs ++ ys) fault old new
stops_more u xs ys fault old new k = record {
  front = k.front;
  rest = k.rest ++ ys;
  t = k.t;
  parts = ap (λ (l : List Entry). l ++ ys) k.parts ∙ append_assoc k.front k.rest ys;
  taken = k.taken;
  stops = stops_at_more k.t k.rest ys fault new k.stops;
  any_moment = storing_more u xs ys old.moment new.moment k.any_moment;
}

-- ---- one entry

taking : (t : SpoolState) (e : Entry) (old new : Moment) → LeavesOnly (IsTaking t (e ∷ [])) old new → LeavesOnly (IsStoring t (e ∷ [])) old new
taking t e old new one =
    weaker (IsTaking t (e ∷ [])) (IsStoring t (e ∷ [])) old new one
    (λ c s. (
      s.0,
      s.1,
      elim s.2 [
        | inl none ↦ record { front = []; rest = e ∷ []; parts = refl; taken = none }
        | inr some ↦ record { front = e ∷ []; rest = []; parts = refl; taken = some }
      ],
    ))

pub one_stored : (t : SpoolState) (e : Entry) (old new : View) → TakesOne t e (Ok tt) old new → HasStored t (e ∷ []) old new
one_stored t e old new o = record { t = o.taken.0; reached = o.taken.1; taken = o.taken.2; any_moment = taking t e old.moment new.moment o.any_moment }

pub one_refused : (t : SpoolState) (e : Entry) (old new : View) (fault : TakeFault) → IsIn t [] old → TakesOne t e (Err fault) old new → StopsStoring t (e ∷ []) (Untaken fault) old new
one_refused t e old new fault held o = record {
  front = [];
  rest = e ∷ [];
  t = t;
  parts = refl;
  taken = taken_none t held.sound.from_base;
  stops = (e, [], refl, o.taken.0, o.taken.1);
  any_moment = taking t e old.moment new.moment o.any_moment;
}

-- ---- one of the entries

pub item_at : (P : Entry → Type 0) (xs : List Entry) (e : Entry) (rest : List Entry) → All P (xs ++ e ∷ rest) → P e
item_at P [] e rest all = all 0 e (omega arith)
item_at P (x ∷ xs) e rest all = item_at P xs e rest (λ i d lt. all (suc i) d (omega (arith, lt)))

-- the next one is told too
pub told_push : (tag first number : ℕ) (xs : List Entry) (e : Entry) → number ≡ first + length xs
    → told_from tag first (xs ++ e ∷ []) ≡ told_from tag first xs ++ moved tag (record { number = number; entry = e }) ∷ []
told_push tag first number xs e is =
    told_append tag first xs (e ∷ []) ∙ ap (λ (n : ℕ). told_from tag first xs ++ told_from tag n (e ∷ [])) (sym is)

-- nothing was read, and so nothing stored
pub unread_first : (t : SpoolState) (entries : List Entry) (old : View) (fault : ScanFault) → IsIn t [] old → IsLawful old.moment → IsNotBroken fault
    → StopsStoring t entries (Unread fault) old old
unread_first t entries old fault held lawful is = record {
  front = [];
  rest = entries;
  t = t;
  parts = refl;
  taken = taken_none t held.sound.from_base;
  stops = (is, held);
  any_moment = started (IsStoring t entries) old.moment lawful (λ d image. (t, held.each d image, front_none t entries held.sound.from_base));
}
