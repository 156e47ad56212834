-- Doors that are added after others.
use Rattle.std.proofs.Common.{◌≡◌, ℕ, zero, suc, ◌+◌, ◌*◌, ◌<◌, ◌≤◌, List, [], ◌∷◌, ◌++◌, length, map, refl, sym, ◌∙◌, ap, subst, arith, append_assoc, length-append}
use Rattle.std.specs.Prelude.{All, Option, None, Some, Result, Ok, Err, IfErr, IfSome, slice_get}
use Rattle.std.proofs.lemmas.List.{append-nil, length-map, map-append}
use Rattle.std.proofs.lemmas.List.Elements.{All-nil, All-cons, All-head, All-tail}
use Rattle.desk_access.specs.declared.division.Division.{Division}
use Rattle.desk_access.specs.declared.division.Division.TheVariants.{Workers, Connections}
use Rattle.desk_access.specs.Division.{callers_of}
use Rattle.edge_io.specs.declared.proto.Proto.{Proto}
use Rattle.edge_io.specs.declared.proto.Proto.TheVariants.{Relp, Lumberjack, Hec}
use Rattle.edge_io.specs.Door.{DoorState, IsNewDoor}
use Rattle.edge_io.specs.Net.{Bound, AddsBound}
use Rattle.conn_serve.specs.declared.rules.Rules.{Rules}
use Rattle.serve_workers.proofs.Placing.{told_same}
use Rattle.bridge_words.specs.declared.command.Relay.{Relay}
use Rattle.bridge_words.specs.declared.command.Server.{Server}
use Rattle.bridge_words.specs.Words.{most_workers}
use Rattle.bridge_serve.specs.Doors.{rules_of, workers_at, binds_at, binds_of, TellsBound, AreAt, AreNewAt, Ruled, ruled_as, AddsDoors, AreBound, AreUnused, destination_of}

-- what another function has of each then
pub map_more : {X Y Z : Type 0} (f : X → Y) (h : Y → Z) (olds news : List X) (made : List Y)
    → map f news ≡ map f olds ++ made → map (λ x. h (f x)) news ≡ map (λ x. h (f x)) olds ++ map h made
map_more {Z = Z} f h olds news made is =
    told_same f h news (map f olds ++ made) is ∙ map-append h (map f olds) made
    ∙ ap (λ (l : List Z). l ++ map h made) (sym (told_same f h olds (map f olds) refl))

-- the same of each, of what is so for each
pub all_map : {X Y : Type 0} (f : X → Y) (P : Y → Type 0) (xs : List X) → All (λ x. P (f x)) xs → All P (map f xs)
all_map f P [] all = All-nil P
all_map f P (x ∷ xs) all = All-cons P (f x) (map f xs) (All-head (λ x. P (f x)) x xs all) (all_map f P xs (All-tail (λ x. P (f x)) x xs all))

twice : {X Y Z : Type 0} (f : X → Y) (z : Z) (xs : List X) → map (λ (x : X). z) xs ≡ map (λ (y : Y). z) (map f xs)
twice f z [] = refl
twice {X} {Y} {Z} f z (x ∷ xs) = ap (λ (l : List Z). z ∷ l) (twice f z xs)

-- doors that were bound at a place
pub adds_bound : {X : Type 0} (told : X → DoorState) (server : Server) (proto : Proto) (at : Option (List ℕ)) (place : List ℕ) (made : List X)
    (old new : Ruled)
    → at ≡ Some place → length made ≡ server.workers → All (λ door. IsNewDoor place (told door)) made → new.doors ≡ old.doors ++ map told made
    → new.rules ≡ old.rules ++ map (λ door. rules_of server proto) made
    → AddsDoors server proto at old new
adds_bound told server proto at place made old new some count fresh doors_are rules_are = record {
  made = map told made;
  made_at = subst (λ (at : Option (List ℕ)). AreAt server.workers at (map told made)) (sym some)
      (length-map made told ∙ count, all_map told (IsNewDoor place) made fresh);
  doors_are = doors_are;
  rules_are = rules_are ∙ ap (λ (l : List Rules). old.rules ++ l) (twice told (rules_of server proto) made);
}

adds_none : (server : Server) (proto : Proto) (ruled : Ruled) → AddsDoors server proto None ruled ruled
adds_none server proto ruled =
    record { made = []; made_at = refl; doors_are = sym (append-nil ruled.doors); rules_are = sym (append-nil ruled.rules) }

pub adds_default : (server : Server) (proto : Proto) (place : Option (List ℕ)) (ruled : Ruled)
    → ((x : List ℕ) → place ≡ Some x → ⊥) → AddsDoors server proto place ruled ruled
adds_default server proto None ruled none = adds_none server proto ruled
adds_default server proto (Some x) ruled none = absurd (none x refl)

-- ---- each at its place

at_map : {X Y : Type 0} (f : X → Y) (xs : List X) (k : ℕ) (x : X) → slice_get xs k ≡ Some x → slice_get (map f xs) k ≡ Some (f x)
at_map f [] k x is = absurd (cc is)
at_map f (y ∷ ys) zero x is = cc is
at_map f (y ∷ ys) (suc k) x is = at_map f ys k x is

all_at : {X Z : Type 0} (z : Z) (g : X → Z) (xs : List X) {Y : Type 0} (ys : List Y) → map g xs ≡ map (λ (y : Y). z) ys → (k : ℕ) (x : X) → slice_get xs k ≡ Some x → g x ≡ z
all_at z g [] ys are k x is = absurd (cc is)
all_at z g (x ∷ xs) [] are k y is = absurd (cc are)
all_at z g (x ∷ xs) (one ∷ ys) are zero y is = let here : g x ≡ z = cc are in let same : x ≡ y = cc is in ap g (sym same) ∙ here
all_at z g (x ∷ xs) (one ∷ ys) are (suc k) y is = all_at z g xs ys (cc are) k y is

pub at_less : {X : Type 0} (xs : List X) (k : ℕ) (x : X) → slice_get xs k ≡ Some x → k < length xs
at_less [] k x is = absurd (cc is)
at_less (y ∷ ys) zero x is = omega arith
at_less (y ∷ ys) (suc k) x is = omega (arith, at_less ys k x is)

-- What is so of each post by its number, its rules and its door is so of each of more posts, if it is of each door that was added.
pub more_stand : {X Y : Type 0} (door_of : X → Y) (by_of : X → Rules) (Stands : ℕ → Rules → Y → Type 0) (rules : Rules) (olds news : List X) (made : List Y)
    → map door_of news ≡ map door_of olds ++ made → map by_of news ≡ map by_of olds ++ map (λ (door : Y). rules) made
    → ((i : ℕ) (post : X) → slice_get olds i ≡ Some post → Stands i (by_of post) (door_of post))
    → ((i : ℕ) (door : Y) → slice_get made i ≡ Some door → Stands (length olds + i) rules door)
    → (i : ℕ) (post : X) → slice_get news i ≡ Some post → Stands i (by_of post) (door_of post)
more_stand {X} {Y} door_of by_of Stands rules [] news made doors by were are i post is =
    let found : slice_get made i ≡ Some (door_of post) = ap (λ (l : List Y). slice_get l i) (sym doors) ∙ at_map door_of news i post is in
    let zero_more : 0 + i ≡ i = omega arith in
    subst (λ (t : ℕ × Rules). Stands t.0 t.1 (door_of post)) (λ j. (zero_more j, sym (all_at rules by_of news made by i post is) j)) (are i (door_of post) found)
more_stand door_of by_of Stands rules (old ∷ olds) [] made doors by were are i post is = absurd (cc is)
more_stand {X} {Y} door_of by_of Stands rules (old ∷ olds) (new ∷ news) made doors by were are zero post is =
    let door : door_of new ≡ door_of old = cc doors in
    let rule : by_of new ≡ by_of old = cc by in
    let same : new ≡ post = cc is in
    subst (λ (t : Rules × Y). Stands zero t.0 t.1) (λ j. ((sym rule ∙ ap by_of same) j, (sym door ∙ ap door_of same) j)) (were zero old refl)
more_stand door_of by_of Stands rules (old ∷ olds) (new ∷ news) made doors by were are (suc i) post is =
    more_stand door_of by_of (λ k. Stands (suc k)) rules olds news made (cc doors) (cc by) (λ k x at. were (suc k) x at)
    (λ k door at. let one_more : suc (length olds) + k ≡ suc (length olds + k) = omega arith in subst (λ (n : ℕ). Stands n rules door) one_more (are k door at)) i post is

-- ---- what is told of binds

-- doors that were bound at a place
pub tells_at : {T : Type 0} (workers : ℕ) (at : Option (List ℕ)) (place : List ℕ) (made : T) (old new : Option (List Bound))
    → at ≡ Some place → AddsBound place workers (Ok made) old new → TellsBound (binds_at workers at) old new
tells_at workers at place made None new is adds = adds
tells_at workers at place made (Some old) new is adds =
    subst (λ (o : Option (List ℕ)). TellsBound (binds_at workers o) (Some old) new) (sym is) adds

pub tells_none : (old : Option (List Bound)) → TellsBound [] old old
tells_none None = refl
tells_none (Some old) = ap (λ (l : List Bound). Some l) (sym (append-nil old))

pub tells_default : (workers : ℕ) (at : Option (List ℕ)) (old : Option (List Bound)) → ((x : List ℕ) → at ≡ Some x → ⊥) → TellsBound (binds_at workers at) old old
tells_default workers None old none = tells_none old
tells_default workers (Some x) old none = absurd (none x refl)

-- what was told once is told after more
pub tells_then : (first second : List Bound) (a b c : Option (List Bound)) → TellsBound first a b → TellsBound second b c → TellsBound (first ++ second) a c
tells_then first second None b c p q = subst (λ (o : Option (List Bound)). TellsBound second o c) p q
tells_then first second (Some old) b c p q =
    subst (λ (o : Option (List Bound)). TellsBound second o c) p q ∙ ap (λ (l : List Bound). Some l) (append_assoc old first second)

pub tells_same : (more : List Bound) (a b c : Option (List Bound)) → TellsBound more a b → c ≡ b → TellsBound more a c
tells_same more a b c told same = subst (TellsBound more a) (sym same) told

-- ---- doors that have served no link

new_at : (workers : ℕ) (at : Option (List ℕ)) (made : List DoorState) → AreAt workers at made → AreNewAt (binds_at workers at) made
new_at workers None made are = are
new_at workers (Some place) made are = (made, [], sym (append-nil made), are.0, are.1, refl)

new_then : (first second : List Bound) (doors more : List DoorState) → AreNewAt first doors → AreNewAt second more → AreNewAt (first ++ second) (doors ++ more)
new_then [] second doors more none are = subst (λ (l : List DoorState). AreNewAt second (l ++ more)) (sym none) are
new_then (one ∷ first) second doors more (here, rest, parts, count, new, are) others =
    (here, rest ++ more, ap (λ (l : List DoorState). l ++ more) parts ∙ append_assoc here rest more, count, new, new_then first second rest more are others)

pub new_nowhere : AreNewAt [] []
new_nowhere = refl

pub new_more : (server : Server) (proto : Proto) (at : Option (List ℕ)) (bound : List Bound) (old new : Ruled)
    → AreNewAt bound old.doors → AddsDoors server proto at old new → AreNewAt (bound ++ binds_at server.workers at) new.doors
new_more server proto at bound old new fresh adds =
    subst (AreNewAt (bound ++ binds_at server.workers at)) (sym adds.doors_are)
    (new_then bound (binds_at server.workers at) old.doors adds.made fresh (new_at server.workers at adds.made adds.made_at))

pub new_all : (server : Server) (doors : List DoorState) (rules : List Rules) → AreBound server doors rules → AreNewAt (binds_of server) doors
new_all server doors rules bound =
    subst (AreNewAt (binds_of server)) (sym bound.doors_are)
    (new_then (binds_at server.workers server.relp) (binds_at server.workers server.lumberjack ++ binds_at server.workers server.hec) bound.relp (bound.lumberjack ++ bound.hec)
    (new_at server.workers server.relp bound.relp bound.relp_at)
    (new_then (binds_at server.workers server.lumberjack) (binds_at server.workers server.hec) bound.lumberjack bound.hec
    (new_at server.workers server.lumberjack bound.lumberjack bound.lumberjack_at) (new_at server.workers server.hec bound.hec bound.hec_at)))

-- all of them were bound, and no worker began
pub all_unused : (server : Server) (old new : Option (List Bound)) (doors : List DoorState) (rules : List Rules)
    → AreBound server doors rules → TellsBound (binds_of server) old new → AreUnused server old new doors
all_unused server old new doors rules bound told = record {
  made = binds_of server;
  rest = [];
  parts = sym (append-nil (binds_of server));
  told = told;
  new = new_all server doors rules bound;
}

-- none was
pub none_unused : (server : Server) (old new : Option (List Bound)) → new ≡ old → AreUnused server old new []
none_unused server old new same = record {
  made = [];
  rest = binds_of server;
  parts = refl;
  told = tells_same [] old old new (tells_none old) same;
  new = refl;
}

-- a bind failed after that of the first place, or of the second
pub first_unused : (server : Server) (old mid new : Option (List Bound)) (one : Ruled)
    → AddsDoors server Relp server.relp (ruled_as [] []) one → TellsBound (binds_at server.workers server.relp) old mid → new ≡ mid
    → AreUnused server old new one.doors
first_unused server old mid new one adds told same = record {
  made = binds_at server.workers server.relp;
  rest = binds_at server.workers server.lumberjack ++ binds_at server.workers server.hec;
  parts = refl;
  told = tells_same (binds_at server.workers server.relp) old mid new told same;
  new = new_more server Relp server.relp [] (ruled_as [] []) one refl adds;
}

pub second_unused : (server : Server) (old mid more new : Option (List Bound)) (one two : Ruled)
    → AddsDoors server Relp server.relp (ruled_as [] []) one → AddsDoors server Lumberjack server.lumberjack one two
    → TellsBound (binds_at server.workers server.relp) old mid → TellsBound (binds_at server.workers server.lumberjack) mid more → new ≡ more
    → AreUnused server old new two.doors
second_unused server old mid more new one two adds adds' told told' same =
    let first = binds_at server.workers server.relp in
    let second = binds_at server.workers server.lumberjack in
    record {
      made = first ++ second;
      rest = binds_at server.workers server.hec;
      parts = sym (append_assoc first second (binds_at server.workers server.hec));
      told = tells_same (first ++ second) old more new (tells_then first second old mid more told told') same;
      new = new_more server Lumberjack server.lumberjack first one two (new_more server Relp server.relp [] (ruled_as [] []) one refl adds) adds';
    }

pub tells_all : (server : Server) (a b c d : Option (List Bound)) → TellsBound (binds_at server.workers server.relp) a b
    → TellsBound (binds_at server.workers server.lumberjack) b c → TellsBound (binds_at server.workers server.hec) c d → TellsBound (binds_of server) a d
tells_all server a b c d p q r =
    tells_then (binds_at server.workers server.relp) (binds_at server.workers server.lumberjack ++ binds_at server.workers server.hec) a b d p
    (tells_then (binds_at server.workers server.lumberjack) (binds_at server.workers server.hec) b c d q r)

pub few_workers : (server : Server) (place : Option (List ℕ)) → workers_at server place ≤ server.workers
few_workers server None = omega arith
few_workers server (Some place) = omega arith

-- of posts, and of their doors
pub unused_doors : {X Y : Type 0} (server : Server) (old new : Option (List Bound)) (door_of : X → Y) (told : Y → DoorState) (posts : List X) (doors : List Y)
    → doors ≡ map door_of posts → AreUnused server old new (map (λ post. told (door_of post)) posts) → AreUnused server old new (map told doors)
unused_doors server old new door_of told posts doors is = subst (AreUnused server old new) (told_same door_of told posts doors (sym is))

-- ---- at all places

pub all_bound : (server : Server) (one two three : Ruled)
    → AddsDoors server Relp server.relp (ruled_as [] []) one → AddsDoors server Lumberjack server.lumberjack one two
    → AddsDoors server Hec server.hec two three → AreBound server three.doors three.rules
all_bound server one two three a b c = record {
  relp = a.made;
  lumberjack = b.made;
  hec = c.made;
  relp_at = a.made_at;
  lumberjack_at = b.made_at;
  hec_at = c.made_at;
  doors_are = c.doors_are ∙ ap (λ (l : List DoorState). l ++ c.made) (b.doors_are ∙ ap (λ (l : List DoorState). l ++ b.made) a.doors_are)
      ∙ append_assoc a.made b.made c.made;
  rules_are = c.rules_are ∙ ap (λ (l : List Rules). l ++ map (λ door. rules_of server Hec) c.made)
      (b.rules_are ∙ ap (λ (l : List Rules). l ++ map (λ door. rules_of server Lumberjack) b.made) a.rules_are)
      ∙ append_assoc (map (λ door. rules_of server Relp) a.made) (map (λ door. rules_of server Lumberjack) b.made) (map (λ door. rules_of server Hec) c.made);
}

few_at : (workers : ℕ) (place : Option (List ℕ)) (doors : List DoorState) → AreAt workers place doors → length doors ≤ workers
few_at workers None doors at = omega (arith, ap length at)
few_at workers (Some place) doors at = omega (arith, at.0)

pub few_bound : (server : Server) (doors : List DoorState) (rules : List Rules) → AreBound server doors rules → length doors ≤ 3 * server.workers
few_bound server doors rules bound =
    omega (
      arith,
      ap length bound.doors_are,
      length-append bound.relp (bound.lumberjack ++ bound.hec),
      length-append bound.lumberjack bound.hec,
      few_at server.workers server.relp bound.relp bound.relp_at,
      few_at server.workers server.lumberjack bound.lumberjack bound.lumberjack_at,
      few_at server.workers server.hec bound.hec bound.hec_at,
    )

-- ---- of a result

pub any_err : {T E : Type 0} (Q : Type 0) (r : Result T E) → Q → IfErr r (λ e. Q)
any_err Q (Ok v) is = tt
any_err Q (Err e) is = is

-- ---- the place that is dialed

pub may_dial : (forward : Option Relay) (May : List ℕ → Type 0) → IfSome forward (λ relay. May relay.place) → IfSome (destination_of forward) (λ d. May d.place)
may_dial None May may = may
may_dial (Some relay) May may = may

-- ---- how many there are

pub few_each : (division : Division) (workers : ℕ) → workers ≤ most_workers division → workers ≤ 1024
few_each Workers workers few = omega arith
few_each Connections workers few = omega arith

-- at three places there are no more workers than those among whom a run's numbers are divided
pub few_all : (division : Division) (workers : ℕ) → workers ≤ most_workers division → 3 * workers ≤ callers_of division
few_all Workers workers few = omega arith
few_all Connections workers few = omega arith
