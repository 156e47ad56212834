use Rattle.std.proofs.Common.{rules, ◌≡◌, ◌+◌, ◌∙◌, ◌++◌, ◌∷◌, [], ◌^◌, ◌<◌, ℕ, inl, inr, List, refl, ap, subst, arith}
use Rattle.bridge_rescue.specs.declared.fault.SlotFault.{SlotFault}
use Rattle.bridge_rescue.specs.Looking.{whole, front}
use Rattle.bridge_rescue.proofs.Judging.{knows_closed, knows_wrong, knows_sound, knows_front, readable_more, same_unread, more_unread}
use Rattle.bridge_rescue.proofs.looking.Looked.add.Goals as goal

-- a closed slot

pub returns-in-Closed-clause-unread : goal.returns-in-Closed-clause-unread
returns-in-Closed-clause-unread c = rw c.in-Closed.is ((λ has. inl has), (λ either. elim either [ inl has ↦ has | inr never ↦ absurd never ]))

pub returns-in-Closed-clause-known : goal.returns-in-Closed-clause-known
returns-in-Closed-clause-known c = λ size place bytes known seen. knows_closed place size bytes c.args.self.now c.args.self.now known refl (rw c.in-Closed.is at seen)

-- a sound one

pub overflow_add-self : goal.overflow_add-self
overflow_add-self c = let room = c.requires.room in omega (arith, c.find.ensures.sound, room.2.few_sound, room.3, room.4)

pub returns-in-Sound-clause-unread : goal.returns-in-Sound-clause-unread
returns-in-Sound-clause-unread c = rw c.in-Sound.is (same_unread _ _ ⊥ (ap (λ v. v.items) c.find.ensures.faults) (λ never. never))

pub returns-in-Sound-clause-readable : goal.returns-in-Sound-clause-readable
returns-in-Sound-clause-readable c = λ len all seen. readable_more len _ _ _ (whole c.in-Sound.slot) c.find.ensures.found all (rw c.in-Sound.is at seen)

pub returns-in-Sound-clause-known : goal.returns-in-Sound-clause-known
returns-in-Sound-clause-known c = λ size place bytes known seen.
    let slot = c.in-Sound.slot in
    let fits : (slot.ordinal < 2 ^ 64) × (slot.first < 2 ^ 64) = search rules in
    knows_sound place size bytes c.args.self.now _ known slot c.find.ensures.found (ap (λ v. v.items) c.find.ensures.faults) (ap (λ (n : ℕ). n + 1) c.find.ensures.sound) fits.0 fits.1
    (rw c.in-Sound.is at seen)

-- one of which something stands before its fault

pub returns-in-Front-clause-unread : goal.returns-in-Front-clause-unread
returns-in-Front-clause-unread c =
    let pushed = subst (λ (l : List SlotFault). c.blame.new.self.faults.items ≡ l ++ c.in-Front.fault ∷ []) (ap (λ v. v.items) c.find-in-Front.ensures.faults) c.blame.ensures.faults in
    rw c.in-Front.is (more_unread _ _ c.in-Front.fault pushed)

pub returns-in-Front-clause-readable : goal.returns-in-Front-clause-readable
returns-in-Front-clause-readable c = λ len all seen.
    readable_more len _ _ _ (front c.in-Front.slot) (ap (λ v. v.items) c.blame.ensures.found ∙ c.find-in-Front.ensures.found) all (rw c.in-Front.is at seen)

pub returns-in-Front-clause-known : goal.returns-in-Front-clause-known
returns-in-Front-clause-known c = λ size place bytes known seen.
    let pushed = subst (λ (l : List SlotFault). c.blame.new.self.faults.items ≡ l ++ c.in-Front.fault ∷ []) (ap (λ v. v.items) c.find-in-Front.ensures.faults) c.blame.ensures.faults in
    knows_front place size bytes c.args.self.now _ known c.in-Front.slot c.in-Front.fault (ap (λ v. v.items) c.blame.ensures.found ∙ c.find-in-Front.ensures.found) pushed
    (c.blame.ensures.sound ∙ c.find-in-Front.ensures.sound) (rw c.in-Front.is at seen)

-- one at fault

pub returns-in-AtFault-clause-unread : goal.returns-in-AtFault-clause-unread
returns-in-AtFault-clause-unread c = rw c.in-AtFault.is (more_unread _ _ c.in-AtFault.fault c.blame-in-AtFault.ensures.faults)

pub returns-in-AtFault-clause-known : goal.returns-in-AtFault-clause-known
returns-in-AtFault-clause-known c = λ size place bytes known seen.
    let blame = c.blame-in-AtFault.ensures in
    knows_wrong place size bytes c.args.self.now _ known c.in-AtFault.fault (ap (λ v. v.items) blame.found) blame.faults blame.sound (rw c.in-AtFault.is at seen)
