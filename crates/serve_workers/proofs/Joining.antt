-- What was done at a door, and then more.
use Rattle.std.proofs.Common.{◌≡◌, ℕ, ◌+◌, ◌∙◌, arith, List, [], ◌∷◌, ◌++◌, length, length-append, refl, sym, ap, subst, append_assoc}
use Rattle.std.proofs.lemmas.Grind.{common_steps}
use Rattle.std.specs.Prelude.{Option, Some, None}
use Rattle.std.specs.List.{AllZip}
use Rattle.std.proofs.lemmas.List.{append-nil}
use Rattle.std.proofs.lemmas.List.Sums.{sum_by-append}
use Rattle.foundation.specs.Faults.{Rose}
use Rattle.event_form.specs.declared.talk.Talk.{Talk}
use Rattle.edge_io.specs.Door.{Talked, DoorState}
use Rattle.desk_access.specs.Call.{Call}
use Rattle.conn_serve.specs.declared.rules.Rules.{Rules}
use Rattle.serve_workers.specs.Served.{Served, Links, AtDoor, links_in, Tells, TellsMore, RisesBy, AreServed, calls_in, how_many, by_read, by_write}

pub calls_then : (xs ys : List Served) → calls_in (xs ++ ys) ≡ calls_in xs ++ calls_in ys
calls_then [] ys = refl
calls_then (x ∷ xs) ys = ap (λ (l : List Call). x.calls ++ l) (calls_then xs ys) ∙ sym (append_assoc x.calls (calls_in xs) (calls_in ys))

served_then : (rules : Rules) (first : ℕ) (xs ys : List Served) → AreServed rules first xs → AreServed rules (first + length xs) ys → AreServed rules first (xs ++ ys)
served_then rules first [] ys p q = subst (λ (n : ℕ). AreServed rules n ys) (omega arith) q
served_then rules first (x ∷ xs) ys p q = (p.0, p.1, served_then rules (first + 1) xs ys p.2 (subst (λ (n : ℕ). AreServed rules n ys) (omega arith) q))

zip_then : {X Y : Type 0} (R : X → Y → Type 0) (xs us : List X) (ys vs : List Y) → AllZip R xs ys → AllZip R us vs → AllZip R (xs ++ us) (ys ++ vs)
zip_then R [] us [] vs p q = q
zip_then R [] us (y ∷ ys) vs p q = absurd p
zip_then R (x ∷ xs) us [] vs p q = absurd p
zip_then R (x ∷ xs) us (y ∷ ys) vs p q = (p.0, zip_then R xs us ys vs p.1 q)

tells_then : (rules : Rules) (xs ys : List Served) (a b c : Option (List Talked)) → TellsMore rules xs a b → TellsMore rules ys b c → TellsMore rules (xs ++ ys) a c
tells_then rules xs ys None b c p q = subst (λ (o : Option (List Talked)). TellsMore rules ys o c) p q
tells_then rules xs ys (Some old) b c p q =
    let more = subst (λ (o : Option (List Talked)). TellsMore rules ys o c) p.2 q in
    (p.0 ++ more.0, zip_then (Tells rules) xs ys p.0 more.0 p.1 more.1, more.2 ∙ ap (λ (l : List Talked). Some l) (append_assoc old p.0 more.0))

pub tells_none : (rules : Rules) (a b : Option (List Talked)) → b ≡ a → TellsMore rules [] a b
tells_none rules None b same = same
tells_none rules (Some old) b same = ([], tt, same ∙ ap (λ (l : List Talked). Some l) (sym (append-nil old)))

pub rises_none : (a b : Option ℕ) → b ≡ a → RisesBy 0 a b
rises_none None b same = same
rises_none (Some n) b same = same ∙ ap (λ (k : ℕ). Some k) (omega arith)

rises_then : (m n : ℕ) (a b c : Option ℕ) → RisesBy m a b → RisesBy n b c → RisesBy (m + n) a c
rises_then m n None b c p q = subst (λ (o : Option ℕ). RisesBy n o c) p q
rises_then m n (Some k) b c p q = subst (λ (o : Option ℕ). RisesBy n o c) p q ∙ ap (λ (j : ℕ). Some j) (omega arith)

rose_then : (m n a b c : ℕ) → Rose m a b → Rose n b c → Rose (m + n) a c
rose_then m n a b c p q = grind (arith, common_steps, p, q)

pub rose_none : (a b : ℕ) → b ≡ a → Rose 0 a b
rose_none a b same = grind (arith, common_steps, same)

many_then : (so : Talk → ℕ) (xs ys : List Served) (a b c : ℕ) → Rose (how_many so xs) a b → Rose (how_many so ys) b c → Rose (how_many so (xs ++ ys)) a c
many_then so xs ys a b c p q = subst (λ (n : ℕ). Rose n a c) (sym (sum_by-append (λ (one : Served). so one.talk) xs ys)) (rose_then (how_many so xs) (how_many so ys) a b c p q)

-- What was done at a door, by the list of its links and by the list of those that were given back.
pub record Done (rules : Rules) (first : ℕ) (old new : DoorState) (made : List Call → Type 0) (links told : List Served) : Type 0 where
  pub calls : made (calls_in links)
  pub served : AreServed rules first links
  pub talks : TellsMore rules told old.talks new.talks
  pub place : new.place ≡ old.place
  pub waiting : RisesBy (length links) new.waiting old.waiting
  pub accepted : RisesBy (length links) old.accepted new.accepted
  pub reads : Rose (how_many by_read links) old.read_faults new.read_faults
  pub writes : Rose (how_many by_write links) old.write_faults new.write_faults

pub at_door_of : (rules : Rules) (first : ℕ) (old new : DoorState) (made : List Call → Type 0) (links : Links) → Done rules first old new made (links_in links) links.finished → AtDoor rules first old new made links
at_door_of rules first old new made links d = record {
  calls = d.calls;
  served = d.served;
  talks = d.talks;
  place = d.place;
  waiting = d.waiting;
  accepted = d.accepted;
  reads = d.reads;
  writes = d.writes;
}

pub done_of : (rules : Rules) (first : ℕ) (old new : DoorState) (made : List Call → Type 0) (links : Links) → AtDoor rules first old new made links → Done rules first old new made (links_in links) links.finished
done_of rules first old new made links d = record {
  calls = d.calls;
  served = d.served;
  talks = d.talks;
  place = d.place;
  waiting = d.waiting;
  accepted = d.accepted;
  reads = d.reads;
  writes = d.writes;
}

-- nothing was done
pub done_none : (rules : Rules) (first : ℕ) (old : DoorState) (made : List Call → Type 0) → made [] → Done rules first old old made [] []
done_none rules first old made none = record {
  calls = none;
  served = tt;
  talks = tells_none rules old.talks old.talks refl;
  place = refl;
  waiting = rises_none old.waiting old.waiting refl;
  accepted = rises_none old.accepted old.accepted refl;
  reads = rose_none old.read_faults old.read_faults refl;
  writes = rose_none old.write_faults old.write_faults refl;
}

-- some links, and then others
pub done_then : (rules : Rules) (first next : ℕ) (old between new : DoorState) (before after made : List Call → Type 0) (xs ys told : List Served)
    → next ≡ first + length xs → ((calls more : List Call) → before calls → after more → made (calls ++ more))
    → Done rules first old between before xs xs → Done rules next between new after ys told → Done rules first old new made (xs ++ ys) (xs ++ told)
done_then rules first next old between new before after made xs ys told is join p q =
    let many : length xs + length ys ≡ length (xs ++ ys) = sym (length-append xs ys) in
    let swapped : length ys + length xs ≡ length (xs ++ ys) = omega (arith, length-append xs ys) in
    record {
      calls = subst made (sym (calls_then xs ys)) (join (calls_in xs) (calls_in ys) p.calls q.calls);
      served = served_then rules first xs ys p.served (subst (λ (n : ℕ). AreServed rules n ys) is q.served);
      talks = tells_then rules xs told old.talks between.talks new.talks p.talks q.talks;
      place = q.place ∙ p.place;
      waiting = subst (λ (n : ℕ). RisesBy n new.waiting old.waiting) swapped (rises_then (length ys) (length xs) new.waiting between.waiting old.waiting q.waiting p.waiting);
      accepted = subst (λ (n : ℕ). RisesBy n old.accepted new.accepted) many (rises_then (length xs) (length ys) old.accepted between.accepted new.accepted p.accepted q.accepted);
      reads = many_then by_read xs ys old.read_faults between.read_faults new.read_faults p.reads q.reads;
      writes = many_then by_write xs ys old.write_faults between.write_faults new.write_faults p.writes q.writes;
    }
