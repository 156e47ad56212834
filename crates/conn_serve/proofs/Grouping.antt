-- The groups that calls took, and their units.
use Rattle.std.proofs.Common.{◌≡◌, ℕ, ◌+◌, ◌<◌, ◌∙◌, arith, List, [], ◌∷◌, ◌++◌, length, refl, sym, ap, subst}
use Rattle.std.specs.Prelude.{Ok, Err}
use Rattle.std.specs.List.{All, flat_map}
use Rattle.std.proofs.lemmas.List.{append-nil}
use Rattle.std.proofs.lemmas.Grind.{flat_map-append}
use Rattle.edge_io.specs.declared.proto.Proto.{Proto}
use Rattle.edge_io.specs.declared.proto.Proto.TheVariants.{Relp}
use Rattle.std.proofs.lemmas.List.Elements.{All-nil, All-cons, All-append, All-head, All-tail}
use Rattle.event_form.specs.declared.event.Entry.{Entry}
use Rattle.spool_answers.specs.declared.receipt.Receipt.{Receipt}
use Rattle.spool_faults.specs.declared.fault.TakeFault.{TakeFault}
use Rattle.desk_access.specs.Call.{Call, takes}
use Rattle.desk_access.specs.Groups.{Group, HasEntries, groups_of}
use Rattle.desk_access.proofs.Groups.{groups_then}
use Rattle.conn_serve.specs.Groups.{last_unit, units}
use Rattle.conn_serve.specs.Acked.{AreOfFirst, acked_by, singles_from}

-- the numbers are the units of these groups, each of which has an entry
pub record Knows (numbers : List ℕ) (groups : List Group) : Type 0 where
  pub some : All HasEntries groups
  pub own : numbers ≡ units groups

-- so they are of the groups that the calls took
abbrev pub Told : List ℕ → List Call → Type 0
Told numbers calls = Knows numbers (groups_of calls)

-- and these of the entries that the calls took, each by itself
abbrev pub ToldEach : List ℕ → List Call → Type 0
ToldEach numbers calls = Knows numbers (acked_by Relp calls)

units_then : (xs ys : List Group) → units (xs ++ ys) ≡ units xs ++ units ys
units_then [] ys = refl
units_then (x ∷ xs) ys = ap (λ (l : List ℕ). last_unit x.entries ∷ l) (units_then xs ys)

pub told_nothing : Knows [] []
told_nothing = record { some = All-nil HasEntries; own = refl }

-- groups after others
pub told_both : (ms ns : List ℕ) (xs ys : List Group) → Knows ms xs → Knows ns ys → Knows (ms ++ ns) (xs ++ ys)
told_both ms ns xs ys a b = record {
  some = All-append HasEntries xs ys a.some b.some;
  own = ap (λ (l : List ℕ). l ++ ns) a.own ∙ ap (λ (l : List ℕ). units xs ++ l) b.own ∙ sym (units_then xs ys);
}

-- no call
pub told_none : (calls : List Call) → calls ≡ [] → Told [] calls
told_none calls is = subst (Told []) (sym is) told_nothing

-- a take that wasn't answered Ok
pub told_refused : (calls : List Call) (entries : List Entry) (fault : TakeFault) → calls ≡ takes entries (Err fault) ∷ [] → Told [] calls
told_refused calls entries fault is = subst (Told []) (sym is) told_nothing

-- a take that was
taking : (entries : List Entry) (receipt : Receipt) → 0 < length entries → Told (last_unit entries ∷ []) (takes entries (Ok receipt) ∷ [])
taking entries receipt some = record { some = All-cons HasEntries (record { first = receipt.first; entries = entries }) [] some (All-nil HasEntries); own = refl }

pub told_taken : (calls : List Call) (entries : List Entry) (receipt : Receipt) → 0 < length entries → calls ≡ takes entries (Ok receipt) ∷ [] → Told (last_unit entries ∷ []) calls
told_taken calls entries receipt some is = subst (Told (last_unit entries ∷ [])) (sym is) (taking entries receipt some)

-- calls after others
pub told_then : (ms ns : List ℕ) (xs ys : List Call) → Told ms xs → Told ns ys → Told (ms ++ ns) (xs ++ ys)
told_then ms ns xs ys a b = subst (Knows (ms ++ ns)) (sym (groups_then xs ys)) (told_both ms ns (groups_of xs) (groups_of ys) a b)

-- ---- each entry by itself

singles_then : (xs ys : List Call) → acked_by Relp (xs ++ ys) ≡ acked_by Relp xs ++ acked_by Relp ys
singles_then xs ys =
    ap (λ (l : List Group). flat_map (λ (group : Group). singles_from group.first group.entries) l) (groups_then xs ys) ∙ flat_map-append (λ (group : Group). singles_from group.first group.entries) (groups_of xs) (groups_of ys)

-- the numbers are the units of the entries
abbrev pub unit_of : List Entry → List ℕ
unit_of [] = []
unit_of (e ∷ entries) = e.unit ∷ unit_of entries

told_singles : (first : ℕ) (entries : List Entry) → Knows (unit_of entries) (singles_from first entries)
told_singles first [] = told_nothing
told_singles first (e ∷ entries) =
    let rest = told_singles (first + 1) entries in
    record {
      some = All-cons HasEntries (record { first = first; entries = e ∷ [] }) (singles_from (first + 1) entries) (omega arith) rest.some;
      own = ap (λ (l : List ℕ). e.unit ∷ l) rest.own;
    }

pub each_none : (calls : List Call) → calls ≡ [] → ToldEach [] calls
each_none calls is = subst (ToldEach []) (sym is) told_nothing

pub each_refused : (calls : List Call) (entries : List Entry) (fault : TakeFault) → calls ≡ takes entries (Err fault) ∷ [] → ToldEach [] calls
each_refused calls entries fault is = subst (ToldEach []) (sym is) told_nothing

pub each_taken : (calls : List Call) (entries : List Entry) (receipt : Receipt) → calls ≡ takes entries (Ok receipt) ∷ [] → ToldEach (unit_of entries) calls
each_taken calls entries receipt is =
    subst (ToldEach (unit_of entries)) (sym is) (subst (Knows (unit_of entries)) (sym (append-nil (singles_from receipt.first entries))) (told_singles receipt.first entries))

pub each_then : (ms ns : List ℕ) (xs ys : List Call) → ToldEach ms xs → ToldEach ns ys → ToldEach (ms ++ ns) (xs ++ ys)
each_then ms ns xs ys a b = subst (Knows (ms ++ ns)) (sym (singles_then xs ys)) (told_both ms ns (acked_by Relp xs) (acked_by Relp ys) a b)

-- groups whose units are two lists are two lists
record Parts (gs : List Group) (us : List ℕ) : Type 0 where
  groups : List Group
  more : List Group
  whole : gs ≡ groups ++ more
  some : All HasEntries groups
  own : us ≡ units groups

parts : (gs : List Group) (us vs : List ℕ) → All HasEntries gs → us ++ vs ≡ units gs → Parts gs us
parts gs [] vs some own = record { groups = []; more = gs; whole = refl; some = All-nil HasEntries; own = refl }
parts [] (u ∷ us) vs some own = cc
parts (g ∷ gs) (u ∷ us) vs some own =
    let first : u ≡ last_unit g.entries = cc in
    let rest : us ++ vs ≡ units gs = cc in
    let r = parts gs us vs (All-tail HasEntries g gs some) rest in
    let behind : us ≡ units r.groups = r.own in
    record {
      groups = g ∷ r.groups;
      more = r.more;
      whole = ap (λ (l : List Group). g ∷ l) r.whole;
      some = All-cons HasEntries g r.groups (All-head HasEntries g gs some) r.some;
      own = ap (λ (n : ℕ). n ∷ us) first ∙ ap (λ (l : List ℕ). last_unit g.entries ∷ l) behind;
    }

-- the first of the numbers are the units of the first groups
pub of_first : (proto : Proto) (calls : List Call) (numbers behind : List ℕ) → Knows (numbers ++ behind) (acked_by proto calls) → AreOfFirst proto calls numbers
of_first proto calls numbers behind told =
    let p = parts (acked_by proto calls) numbers behind told.some told.own in
    record { groups = p.groups; more = p.more; taken = p.whole; some = p.some; own = p.own }
