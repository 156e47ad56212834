-- The entries of a segment, stored in parts.
use Rattle.std.proofs.Common.{◌≡◌, ℕ, zero, suc, ◌+◌, ◌≤◌, List, [], ◌∷◌, ◌++◌, length, take, drop, refl, sym, ◌∙◌, ap, subst, arith, append_assoc}
use Rattle.std.proofs.lemmas.List.{append-nil, drop-drop, drop_all}
use Rattle.event_form.specs.declared.event.Entry.{Entry}
use Rattle.edge_disk.specs.Disk.{IsLawful}
use Rattle.edge_disk.proofs.Moments.{weaker}
use Rattle.spool_state.specs.Segment.{Segment, entries_of}
use Rattle.spool_state.specs.SpoolState.{SpoolState}
use Rattle.spool_slots.specs.declared.fault.ScanFault.{ScanFault}
use Rattle.spool_slots.specs.Fault.{IsNotBroken}
use Rattle.spool_log.specs.State.{View, IsIn}
use Rattle.bridge_restore.specs.declared.fault.StoreFault.{StoreFault}
use Rattle.bridge_restore.specs.declared.fault.StoreFault.TheVariants.{Unread}
use Rattle.bridge_restore.specs.Storing.{HasStored, StopsStoring, IsStoring}
use Rattle.bridge_restore.specs.Told.{told_from, told_of}
use Rattle.bridge_restore.proofs.Joining.{told_append, stored_none, stored_then, stops_then, stops_more, storing_more}

-- the first of them, and the others
parts_of : (m : ℕ) (xs : List Entry) → xs ≡ take m xs ++ drop (length (take m xs)) xs
parts_of zero xs = refl
parts_of (suc m) [] = refl
parts_of (suc m) (x ∷ xs) = ap (λ (l : List Entry). x ∷ l) (parts_of m xs)

-- Of a segment's entries the first `k` were stored, and the others are left.
pub record StoresUpTo (tag : ℕ) (segment : Segment) (k : ℕ) (t : SpoolState) (old new : View) : Type 0 where
  pub first : List Entry
  pub whole : told_of tag segment ≡ first ++ told_from tag (segment.first + k) (drop k (entries_of segment))
  pub stored : HasStored t first old new

module _ (tag : ℕ) (segment : Segment) (t : SpoolState) (old : View) where
  pub upto_none : (k : ℕ) → k ≡ 0 → IsIn t [] old → IsLawful old.moment → StoresUpTo tag segment k t old old
  upto_none k none held lawful =
      subst (λ (n : ℕ). StoresUpTo tag segment n t old old) (sym none)
      (record { first = []; whole = ap (λ (n : ℕ). told_from tag n (entries_of segment)) (omega arith); stored = stored_none t old held lawful })

  module _ (k : ℕ) (mid : View) (up : StoresUpTo tag segment k t old mid) where
    abbrev left_entries : List Entry
    left_entries = drop k (entries_of segment)

    -- the next part, and what is left then
    parted : (m : ℕ) (part : List Entry) → part ≡ take m left_entries
        → told_from tag (segment.first + k) left_entries ≡ told_from tag (segment.first + k) part ++ told_from tag ((segment.first + k) + length part) (drop (length part) left_entries)
    parted m part is =
        ap (told_from tag (segment.first + k)) (parts_of m left_entries ∙ ap (λ (l : List Entry). l ++ drop (length l) left_entries) (sym is))
        ∙ told_append tag (segment.first + k) part (drop (length part) left_entries)

    whole_parted : (m : ℕ) (part : List Entry) → part ≡ take m left_entries
        → told_of tag segment ≡ (up.first ++ told_from tag (segment.first + k) part) ++ told_from tag ((segment.first + k) + length part) (drop (length part) left_entries)
    whole_parted m part is =
        up.whole
        ∙ ap (λ (l : List Entry). up.first ++ l) (parted m part is)
        ∙ sym (append_assoc up.first (told_from tag (segment.first + k) part) (told_from tag ((segment.first + k) + length part) (drop (length part) left_entries)))

    -- a part more
    pub upto_more : (m next : ℕ) (part : List Entry) (new : View) → part ≡ take m left_entries → next ≡ k + length part
        → HasStored up.stored.t (told_from tag (segment.first + k) part) mid new → StoresUpTo tag segment next t old new
    upto_more m next part new is next_is s = record {
      first = up.first ++ told_from tag (segment.first + k) part;
      whole =
          whole_parted m part is
          ∙ ap (λ (n : ℕ). (up.first ++ told_from tag (segment.first + k) part) ++ told_from tag n (drop (length part) left_entries)) (omega (arith, next_is))
          ∙ ap (λ (l : List Entry). (up.first ++ told_from tag (segment.first + k) part) ++ told_from tag (segment.first + next) l)
          (drop-drop (length part) k (entries_of segment) ∙ ap (λ (n : ℕ). drop n (entries_of segment)) (sym next_is));
      stored = stored_then t up.first (told_from tag (segment.first + k) part) old mid new up.stored s;
    }

    -- not all of a part
    pub upto_cut : (m : ℕ) (part : List Entry) (fault : StoreFault) (new : View) → part ≡ take m left_entries
        → StopsStoring up.stored.t (told_from tag (segment.first + k) part) fault mid new → StopsStoring t (told_of tag segment) fault old new
    upto_cut m part fault new is s =
        let first = up.first ++ told_from tag (segment.first + k) part in
        subst (λ (l : List Entry). StopsStoring t l fault old new) (sym (whole_parted m part is))
        (stops_more t first (told_from tag ((segment.first + k) + length part) (drop (length part) left_entries)) fault old new
        (stops_then t up.first (told_from tag (segment.first + k) part) old mid new up.stored fault s))

    -- the next part was not read
    pub upto_unread : (fault : ScanFault) → IsNotBroken fault → StopsStoring t (told_of tag segment) (Unread fault) old mid
    upto_unread fault is =
        let rest = told_from tag (segment.first + k) left_entries in
        subst (λ (l : List Entry). StopsStoring t l (Unread fault) old mid) (sym up.whole)
        (record {
          front = up.first;
          rest = rest;
          t = up.stored.t;
          parts = refl;
          taken = up.stored.taken;
          stops = (is, up.stored.reached);
          any_moment = storing_more t up.first rest old.moment mid.moment up.stored.any_moment;
        })

    -- all were
    pub upto_all : length (entries_of segment) ≤ k → HasStored t (told_of tag segment) old mid
    upto_all all =
        let whole : told_of tag segment ≡ up.first =
        up.whole ∙ ap (λ (l : List Entry). up.first ++ told_from tag (segment.first + k) l) (drop_all k (entries_of segment) all) ∙ append-nil up.first in
        subst (λ (l : List Entry). HasStored t l old mid) (sym whole) up.stored
