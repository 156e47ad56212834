-- The entries of a slot, read in parts, of which the lines are gathered.
use Rattle.std.proofs.Common.{◌≡◌, ℕ, zero, suc, ◌+◌, ◌≤◌, List, [], ◌∷◌, ◌++◌, Option, length, take, drop, refl, sym, ◌∙◌, ap, subst, append_assoc}
use Rattle.std.proofs.lemmas.List.{append-nil, drop-drop, drop_all}
use Rattle.event_form.specs.declared.event.Entry.{Entry}
use Rattle.spool_slots.specs.declared.fault.ScanFault.{ScanFault}
use Rattle.spool_slots.specs.declared.fault.ScanFault.TheVariants as Scan
use Rattle.spool_slots.specs.Fault.{IsNotBroken}
use Rattle.notes.specs.declared.note.Note.{Note}
use Rattle.notes.specs.declared.note.Note.TheVariants.{Fine}
use Rattle.bridge_rescue.specs.Lines.{PrintsFirst, Prints, Gathered}
use Rattle.bridge_rescue.specs.Looking.{note_of_scan}
use Rattle.bridge_rescue.proofs.Gathering.{prints_more}

-- the first of them, and the others
parts_of : (m : ℕ) (xs : List Entry) → xs ≡ take m xs ++ drop (length (take m xs)) xs
parts_of zero xs = refl
parts_of (suc m) [] = refl
parts_of (suc m) (x ∷ xs) = ap (λ (l : List Entry). x ∷ l) (parts_of m xs)

-- The lines of some entries are gathered, and of these entries, of which the first `k` are among them, the others are left.
pub record GathersUpTo (before entries : List Entry) (k : ℕ) (old new : Option (List ℕ)) (held : List ℕ) : Type 0 where
  pub first : List Entry
  pub whole : before ++ entries ≡ first ++ drop k entries
  pub gathered : Gathered first old new held

module _ (before entries : List Entry) (old : Option (List ℕ)) where
  pub up_none : (new : Option (List ℕ)) (held : List ℕ) (k : ℕ) → k ≡ 0 → Gathered before old new held → GathersUpTo before entries k old new held
  up_none new held k none g = subst (λ (n : ℕ). GathersUpTo before entries n old new held) (sym none) (record { first = before; whole = refl; gathered = g })

  module _ (k : ℕ) (mid : Option (List ℕ)) (held : List ℕ) (up : GathersUpTo before entries k old mid held) where
    -- a part more
    pub up_more : (m next : ℕ) (part : List Entry) (new : Option (List ℕ)) (after : List ℕ) → part ≡ take m (drop k entries) → next ≡ k + length part
        → Gathered (up.first ++ part) old new after → GathersUpTo before entries next old new after
    up_more m next part new after is next_is g = record {
      first = up.first ++ part;
      whole =
          up.whole
          ∙ ap (λ (l : List Entry). up.first ++ l) (parts_of m (drop k entries))
          ∙ ap (λ (l : List Entry). up.first ++ (l ++ drop (length l) (drop k entries))) (sym is)
          ∙ sym (append_assoc up.first part (drop (length part) (drop k entries)))
          ∙ ap (λ (l : List Entry). (up.first ++ part) ++ l) (drop-drop (length part) k entries ∙ ap (λ (n : ℕ). drop n entries) (sym next_is));
      gathered = g;
    }

    -- not all of a part
    pub up_cut : (m : ℕ) (part : List Entry) (note : Note) (new : Option (List ℕ)) → part ≡ take m (drop k entries) → (note ≡ Fine → ⊥)
        → Prints note (up.first ++ part) old new → Prints note (before ++ entries) old new
    up_cut m part note new is never p =
        let rest = drop (length part) (drop k entries) in
        let whole : before ++ entries ≡ (up.first ++ part) ++ rest =
        up.whole
        ∙ ap (λ (l : List Entry). up.first ++ l) (parts_of m (drop k entries))
        ∙ ap (λ (l : List Entry). up.first ++ (l ++ drop (length l) (drop k entries))) (sym is)
        ∙ sym (append_assoc up.first part rest) in
        subst (λ (l : List Entry). Prints note l old new) (sym whole) (prints_more note (up.first ++ part) rest old new never p)

    -- nothing more was read
    pub up_first : PrintsFirst (before ++ entries) old mid
    up_first =
        let p = up.gathered.printed in
        record {
          first = p.first;
          rest = p.rest ++ drop k entries;
          parts = up.whole ∙ ap (λ (l : List Entry). l ++ drop k entries) p.parts ∙ append_assoc p.first p.rest (drop k entries);
          printed = p.printed;
        }

    -- all was
    pub up_all : length entries ≤ k → Gathered (before ++ entries) old mid held
    up_all all =
        let whole : before ++ entries ≡ up.first = up.whole ∙ ap (λ (l : List Entry). up.first ++ l) (drop_all k entries all) ∙ append-nil up.first in
        subst (λ (l : List Entry). Gathered l old mid held) (sym whole) up.gathered

-- a reading that stopped after the first lines
pub scan_prints : (fault : ScanFault) (entries : List Entry) (old new : Option (List ℕ)) → IsNotBroken fault → PrintsFirst entries old new → Prints (note_of_scan fault) entries old new
scan_prints (Scan.NotSpool at) entries old new is p = absurd is
scan_prints Scan.DiskFault entries old new is p = p
scan_prints Scan.NoMemory entries old new is p = p
