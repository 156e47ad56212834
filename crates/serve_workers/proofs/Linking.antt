-- A link that was accepted and served, and what its door reports of it.
use Rattle.std.proofs.Common.{◌≡◌, ℕ, ◌+◌, ◌≤◌, ◌∙◌, arith, List, [], ◌∷◌, length, refl, sym, ap, subst}
use Rattle.std.proofs.lemmas.Grind.{common_steps}
use Rattle.std.specs.Prelude.{Option, Some, None}
use Rattle.std.specs.Io.KnownBytes.{Appends, Consumes, IsAtEnd}
use Rattle.std.proofs.lemmas.List.{append-nil}
use Rattle.foundation.specs.Faults.{Rose}
use Rattle.event_form.specs.declared.talk.Attended.{Attended}
use Rattle.event_form.specs.declared.talk.Talk.{Talk}
use Rattle.event_form.specs.declared.talk.Talk.TheVariants.{Ended, Truncated, ReadFault, WriteFault}
use Rattle.edge_io.specs.declared.proto.Proto.{Proto}
use Rattle.edge_io.specs.declared.proto.Proto.TheVariants.{Relp, Lumberjack, Hec}
use Rattle.edge_io.specs.Counts.{Gains, more}
use Rattle.edge_io.specs.Told.{IsToldAs, IsTold, IsFresh, IsOneMore, Adds}
use Rattle.edge_io.specs.Door.{Talked, DoorState, TakesLink, SameTalks, SameDoor, IsTalk}
use Rattle.desk_access.specs.Call.{Call}
use Rattle.desk_access.specs.Protocol.{Protocol}
use Rattle.desk_access.specs.Carried.{Carried}
use Rattle.desk_access.specs.Endings.{IsAtEndOfInput}
use Rattle.conn_serve.specs.declared.rules.Rules.{Rules}
use Rattle.conn_serve.specs.Endings.{CountsFaults}
use Rattle.conn_serve.specs.Runs.{relp_runs}
use Rattle.conn_serve.specs.Lumber.{lumberjack}
use Rattle.conn_serve.specs.Hec.{hec}
use Rattle.conn_serve.specs.Terms.{Terms, terms_of}
use Rattle.conn_serve.specs.Serves.{CarriedAs, CarriedBy, Serves}
use Rattle.notes.specs.Notes.{status_of, note_of_talk}
use Rattle.serve_workers.specs.Served.{Served, AtDoor, links_as, Tells, TellsMore, RisesBy, by_read, by_write}
use Rattle.serve_workers.proofs.Joining.{Done, tells_none, rises_none, rose_none}

-- ---- the input

ends_there : {F : Type 0} (p : Protocol F) (left : Option (List ℕ)) (b : List ℕ) (calls : List Call) (text : List ℕ) (talk : Talk) → Carried p left b calls text talk → IsAtEndOfInput talk → IsAtEnd left
ends_there p left b calls text Ended c is = c.ending.0.0
ends_there p left b calls text (Truncated at) c is = c.ending.0.0
ends_there p left b calls text talk c is = absurd is

at_end : (proto : Proto) (terms : Terms) (conn : ℕ) (left : Option (List ℕ)) (b : List ℕ) (calls : List Call) (text : List ℕ) (talk : Talk) → CarriedAs proto terms conn left b calls text talk → IsAtEndOfInput talk → IsAtEnd left
at_end Relp terms conn left b calls text talk c is = ends_there (relp_runs terms.most conn) left b calls text talk c is
at_end Lumberjack terms conn left b calls text talk c is = ends_there (lumberjack conn) left b calls text talk c is
at_end Hec terms conn left b calls text talk c is = ends_there (hec terms.tokens conn) left b calls text talk c is

-- ---- the bytes

all_of : (known new : Option (List ℕ)) (bytes all : List ℕ) → known ≡ Some [] → Appends known new bytes → IsToldAs new all → all ≡ bytes
all_of known new bytes all none grown told = elim_of new bytes all (subst (λ (o : Option (List ℕ)). Appends o new bytes) none grown) told where
  elim_of : (new : Option (List ℕ)) (bytes all : List ℕ) → Appends (Some []) new bytes → IsToldAs new all → all ≡ bytes
  elim_of None bytes all grown told = absurd grown
  elim_of (Some ys) bytes all grown told = sym told ∙ grown

still_told : (left left' : Option (List ℕ)) (bytes : List ℕ) → IsTold left → Consumes left left' bytes → (rest : List ℕ) × (left' ≡ Some rest)
still_told None left' bytes told c = absurd told
still_told (Some xs) None bytes told c = absurd c
still_told (Some xs) (Some ys) bytes told c = (ys, refl)

none_left : (left : Option (List ℕ)) (rest : List ℕ) → left ≡ Some rest → IsAtEnd left → length rest ≡ 0
none_left left rest is end = ap length (subst IsAtEnd is end)

-- the link that was served
abbrev pub link_of : ℕ → Option (List ℕ) → List Call → List ℕ → List ℕ → Talk → Served
link_of conn left calls bytes text talk = record { conn = conn; calls = calls; bytes = bytes; left = left; text = text; talk = talk }

-- ---- what is reported

tells_told : (rules : Rules) (conn status : ℕ) (talks talks' : Option (List Talked)) (given given' left left' taken taken' : Option (List ℕ)) (made : List Call → Type 0) (attended : Attended)
    → IsFresh talks given taken left → (s : Serves (CarriedBy rules conn) given given' left left' taken taken' made attended) → status ≡ status_of (note_of_talk attended.talk)
    → Adds talks talks' (IsTalk rules.proto conn status given' taken' left') → TellsMore rules (link_of conn left' s.calls s.bytes s.text attended.talk ∷ []) talks talks'
tells_told rules conn status None talks' given given' left left' taken taken' made attended fresh s is adds = adds
tells_told rules conn status (Some list) talks' given given' left left' taken taken' made attended fresh s is adds =
    let one = adds.0 in
    let told = adds.1 in
    let rest = still_told left left' s.bytes fresh.2 s.consumed in
    let here : Tells rules (link_of conn left' s.calls s.bytes s.text attended.talk) one = record {
      proto = told.proto_is;
      conn = told.conn_is;
      read = all_of given given' s.bytes one.read fresh.0 s.read told.read;
      written = all_of taken taken' s.text one.written fresh.1 s.wrote told.written;
      status = told.status_is ∙ is;
      left = (rest.0, rest.1, told.left_is rest.0 rest.1);
      at_end = λ over. told.left_is rest.0 rest.1 ∙ none_left left' rest.0 rest.1 (at_end rules.proto (terms_of rules) conn left' s.bytes s.calls s.text attended.talk s.carried over);
    } in
    (one ∷ [], (here, tt), adds.2)

-- what the door reports once it was given the link back
pub tells_one : (rules : Rules) (conn status : ℕ) (old between new : DoorState) (given given' left left' taken taken' : Option (List ℕ)) (made : List Call → Type 0) (attended : Attended)
    → IsFresh old.talks given taken left → SameTalks old between → (s : Serves (CarriedBy rules conn) given given' left left' taken taken' made attended) → status ≡ status_of (note_of_talk attended.talk)
    → Adds between.talks new.talks (IsTalk rules.proto conn status given' taken' left') → TellsMore rules (link_of conn left' s.calls s.bytes s.text attended.talk ∷ []) old.talks new.talks
tells_one rules conn status old between new given given' left left' taken taken' made attended fresh rest s is adds =
    tells_told rules conn status old.talks new.talks given given' left left' taken taken' made attended fresh s is
    (subst (λ (talks : Option (List Talked)). Adds talks new.talks (IsTalk rules.proto conn status given' taken' left')) rest.talks adds)

-- ---- counts of faults

least_reads : (talk : Talk) (n : ℕ) → (talk ≡ ReadFault → 1 ≤ n) → by_read talk ≤ n
least_reads ReadFault n h = h refl
least_reads talk n h = omega arith

least_writes : (talk : Talk) (n : ℕ) → (talk ≡ WriteFault → 1 ≤ n) → by_write talk ≤ n
least_writes WriteFault n h = h refl
least_writes talk n h = omega arith

-- a link whose count rose has a count
one_rose : (a b : ℕ) → Rose 1 a b → 1 ≤ b
one_rose a b rose = grind (arith, common_steps, rose)

gained : (m n a b c : ℕ) → m ≤ n → b ≡ a → c ≡ more n b → Rose (0 + m) a c
gained m n a b c le same is = grind (arith, common_steps, le, same, is)

rises_one : (a b c : Option ℕ) → c ≡ a → IsOneMore a b → RisesBy 1 c b
rises_one None b c same more = subst (λ (o : Option ℕ). RisesBy 1 o b) (sym same) more
rises_one (Some n) b c same more = subst (λ (o : Option ℕ). RisesBy 1 o b) (sym same) more

-- ---- one link

-- It was accepted and served, and its door was given it back. What is reported of that is known apart.
pub link_done : (rules : Rules) (conn : ℕ) (old between new : DoorState) (given given' left left' taken taken' : Option (List ℕ)) (made : List Call → Type 0) (attended : Attended) (before now before' now' : ℕ) (told : List Served)
    → TakesLink old between → SameTalks old between → (s : Serves (CarriedBy rules conn) given given' left left' taken taken' made attended)
    → CountsFaults (attended.talk ≡ ReadFault) before now → CountsFaults (attended.talk ≡ WriteFault) before' now' → Gains now between.read_faults new.read_faults → Gains now' between.write_faults new.write_faults → SameDoor between new
    → TellsMore rules told old.talks new.talks → Done rules conn old new made (link_of conn left' s.calls s.bytes s.text attended.talk ∷ []) told
link_done rules conn old between new given given' left left' taken taken' made attended before now before' now' told takes rest s reads writes gain gain' same tells = record {
  calls = subst made (sym (append-nil s.calls)) s.made;
  served = (refl, s.carried, tt);
  talks = tells;
  place = same.place ∙ rest.place;
  waiting = rises_one between.waiting old.waiting new.waiting same.links.waiting takes.waiting;
  accepted = subst (RisesBy 1 old.accepted) (sym same.links.accepted) (rises_one old.accepted between.accepted old.accepted refl takes.accepted);
  reads = gained (by_read attended.talk) now old.read_faults between.read_faults new.read_faults (least_reads attended.talk now (λ is. one_rose before now (reads.cause is))) rest.read_faults gain.by;
  writes = gained (by_write attended.talk) now' old.write_faults between.write_faults new.write_faults (least_writes attended.talk now' (λ is. one_rose before' now' (writes.cause is))) rest.write_faults gain'.by;
}

-- no link was accepted
pub idle_at_door : (rules : Rules) (conn : ℕ) (old new : DoorState) (made : List Call → Type 0) → made [] → new.waiting ≡ old.waiting → new.accepted ≡ old.accepted → SameTalks old new → AtDoor rules conn old new made (links_as [] [])
idle_at_door rules conn old new made none waiting accepted same = record {
  calls = none;
  served = tt;
  talks = tells_none rules old.talks new.talks same.talks;
  place = same.place;
  waiting = rises_none new.waiting old.waiting (sym waiting);
  accepted = rises_none old.accepted new.accepted accepted;
  reads = rose_none old.read_faults new.read_faults same.read_faults;
  writes = rose_none old.write_faults new.write_faults same.write_faults;
}
