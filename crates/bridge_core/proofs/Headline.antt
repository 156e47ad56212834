-- What was acknowledged to a sender is not lost: it follows from what was done.
use Rattle.std.proofs.Common.{◌≡◌, ◌⊎◌, inl, inr, ℕ, ◌+◌, List, [], ◌∷◌, ◌++◌, length, refl, sym, ◌∙◌, ap, subst, map, arith, append_assoc}
use Rattle.std.specs.Prelude.{zero, suc, All, Option, None, Some, slice_get}
use Rattle.std.specs.List.{AllZip}
use Rattle.std.proofs.lemmas.List.Elements.{All-nil, All-cons, All-head, All-tail, All-append, All-weaker, All-same}
use Rattle.edge_io.specs.Door.{DoorState, Talked, IsNewDoor}
use Rattle.edge_io.specs.Net.{Bound}
use Rattle.edge_io.specs.Told.{IsToldAs}
use Rattle.edge_io.specs.declared.proto.Proto.{Proto}
use Rattle.edge_io.specs.declared.proto.Proto.TheVariants.{Relp, Lumberjack, Hec}
use Rattle.edge_disk.specs.Disk.{Moment}
use Rattle.desk_access.specs.Division.{DividedRun, divided, first_conn}
use Rattle.desk_access.specs.Call.{Call, Record, own_of}
use Rattle.conn_serve.specs.declared.rules.Rules.{Rules}
use Rattle.serve_workers.specs.Served.{Served, AreServed, Tells, TellsMore, calls_in}
use Rattle.serve_laws.specs.Durable.{IsLinkDurable}
use Rattle.serve_laws.specs.Parts.{Part, WorkerDoor, worker_door, IsPart, EachPart}
use Rattle.bridge_words.specs.declared.command.Command.{Command}
use Rattle.bridge_words.specs.declared.command.Command.TheVariants.{Format, List as ListCommand, Replay, Drain, Load, Serve}
use Rattle.bridge_words.specs.declared.command.Server.{Server}
use Rattle.notes.specs.declared.note.Note.{Note}
use Rattle.bridge_serve.specs.Answered.{HasLed}
use Rattle.bridge_serve.specs.Doors.{rules_of, AreAt, AreBound, AreNewAt}
use Rattle.bridge_serve.specs.Promised.{LinksAreDurable}
use Rattle.bridge_serve.specs.Served.{IsRun}
use Rattle.bridge_parts.specs.Run.{Run, both_run}
use Rattle.commands.specs.Replayed.{ServesInput, replay_rules}
use Rattle.bridge_core.specs.Done.{IsUndone, Does}
use Rattle.bridge_core.specs.RunOf.{IsRunOf}
use Rattle.bridge_core.specs.Headline.{InputIsKept, TalkIsKept, TalksAreKept, DoorsAreKept, AcknowledgedIsKept, KeepsAcknowledged}

-- the input, where it was served
input_kept : (rules : Rules) (run : Run) (note : Note) → run.disk.tells → ServesInput rules run.disk (both_run run.input run.output) note
    → InputIsKept rules run
input_kept rules run note told replayed =
    let serves = replayed.served.serves in
    record {
      conn = replayed.conn;
      bytes = serves.bytes;
      text = serves.text;
      read = serves.read;
      wrote = serves.wrote;
      left = run.input.left_after;
      calls = serves.calls;
      talk = replayed.served.attended.talk;
      carried = serves.carried;
      made = serves.made told;
      acked = λ numbers says. replayed.acknowledged numbers told says;
      answered = replayed.answered told;
    }

-- ---- one link among those of its worker

-- the list around the element at a place
record IsAround {X : Type 0} (xs : List X) (k : ℕ) (x : X) : Type 0 where
  front : List X
  rest : List X
  parts : xs ≡ front ++ x ∷ rest
  place : length front ≡ k

around : {X : Type 0} (xs : List X) (k : ℕ) (x : X) → slice_get xs k ≡ Some x → IsAround xs k x
around [] k x is = cc
around {X} (y ∷ ys) zero x is =
    let same : y ≡ x = cc in
    record { front = []; rest = ys; parts = ap (λ (z : X). z ∷ ys) same; place = refl }
around {X} (y ∷ ys) (suc k) x is =
    let more = around ys k x is in
    record { front = y ∷ more.front; rest = more.rest; parts = ap (λ (l : List X). y ∷ l) more.parts; place = ap suc more.place }

holds_at : {X : Type 0} (P : X → Type 0) (front rest : List X) (x : X) → All P (front ++ x ∷ rest) → P x
holds_at P [] rest x all = All-head P x rest all
holds_at P (y ∷ front) rest x all = holds_at P front rest x (All-tail P y (front ++ x ∷ rest) all)

-- its number
conn_at : (rules : Rules) (first : ℕ) (front rest : List Served) (one : Served) → AreServed rules first (front ++ one ∷ rest) → one.conn ≡ first + length front
conn_at rules first [] rest one served = omega (arith, served.0)
conn_at rules first (link ∷ front) rest one served = omega (arith, conn_at rules (first + 1) front rest one served.2)

-- its calls
calls_at : (front rest : List Served) (one : Served) → calls_in (front ++ one ∷ rest) ≡ calls_in front ++ (one.calls ++ calls_in rest)
calls_at [] rest one = refl
calls_at (link ∷ front) rest one =
    ap (λ (l : List Call). link.calls ++ l) (calls_at front rest one) ∙ sym (append_assoc link.calls (calls_in front) (one.calls ++ calls_in rest))

-- a link that was served: its number, its calls, and what is durable of it
record IsAmong (log : List Record) (number first : ℕ) (now : Moment) (rules : Rules) (k : ℕ) (one : Served) : Type 0 where
  conn : one.conn ≡ first + k
  earlier : List Call
  later : List Call
  own : own_of number log ≡ earlier ++ (one.calls ++ later)
  durable : IsLinkDurable log number now rules one

among : (log : List Record) (number first : ℕ) (now : Moment) (rules : Rules) (links late : List Served) (k : ℕ) (one : Served) → slice_get links k ≡ Some one
    → AreServed rules first (links ++ late) → own_of number log ≡ calls_in (links ++ late) → All (IsLinkDurable log number now rules) (links ++ late)
    → IsAmong log number first now rules k one
among log number first now rules links late k one is served own all =
    let at = around links k one is in
    let whole : links ++ late ≡ at.front ++ one ∷ (at.rest ++ late) = ap (λ (l : List Served). l ++ late) at.parts ∙ append_assoc at.front (one ∷ at.rest) late in
    record {
      conn = conn_at rules first at.front (at.rest ++ late) one (subst (AreServed rules first) whole served) ∙ ap (λ (n : ℕ). first + n) at.place;
      earlier = calls_in at.front;
      later = calls_in (at.rest ++ late);
      own = own ∙ ap calls_in whole ∙ calls_at at.front (at.rest ++ late) one;
      durable = holds_at (IsLinkDurable log number now rules) at.front (at.rest ++ late) one (subst (All (IsLinkDurable log number now rules)) whole all);
    }

-- what a door tells of the link of that place
told_at : (rules : Rules) (links : List Served) (talks : List Talked) (k : ℕ) (told : Talked) → AllZip (Tells rules) links talks → slice_get talks k ≡ Some told
    → (one : Served) × (slice_get links k ≡ Some one) × Tells rules one told
told_at rules [] [] k told zip is = cc
told_at rules (one ∷ links) (talk ∷ talks) zero told zip is = let same : talk ≡ told = cc in (one, refl, subst (Tells rules one) same zip.0)
told_at rules (one ∷ links) (talk ∷ talks) (suc k) told zip is = told_at rules links talks k told zip.1 is
told_at rules links talks k told zip is = absurd zip

not_some : (o : Option (List Talked)) (talks : List Talked) → o ≡ None → o ≡ Some talks → ⊥
not_some o talks none some = cc

same_some : (xs ys : List Talked) → Some xs ≡ Some ys → xs ≡ ys
same_some xs ys same = cc

-- ---- the doors

-- so it is of each element, with its number, from this one on
abbrev EachFrom : {X : Type 0} → (ℕ → X → Type 0) → ℕ → List X → Type 0
EachFrom P number [] = Unit {0}
EachFrom P number (x ∷ xs) = P number x × EachFrom P (number + 1) xs

each_at : {X : Type 0} (P : ℕ → X → Type 0) (number : ℕ) (xs : List X) (k : ℕ) (x : X) → EachFrom P number xs → slice_get xs k ≡ Some x → P (number + k) x
each_at P number [] k x each is = cc
each_at {X} P number (y ∷ ys) zero x each is =
    let same : y ≡ x = cc in
    subst (λ (n : ℕ). P n x) (omega arith) (subst (P number) same each.0)
each_at P number (y ∷ ys) (suc k) x each is = subst (λ (n : ℕ). P n x) (omega arith) (each_at P (number + 1) ys k x each.1 is)

module _ (server : Server) (run : Run) (numbered : DividedRun) (talks : ℕ) (log : List Record) (led : HasLed run.disk.tells run.disk.old run.disk.new log)
    (of_run : led.start.spool.run ≡ numbered.number) (divided_by : numbered.division ≡ server.division) where
  -- the door tells none of before, or it tells nothing
  door_kept : (at : WorkerDoor) (part : Part) → at.rules ≡ rules_of server at.rules.proto → IsToldAs at.old.talks [] → IsPart numbered talks log at part
      → LinksAreDurable log run.disk.new at part → TalksAreKept server run.disk at.number at.new
  door_kept at part is fresh is_part all told same k talk here = by at.old.talks refl
    where
      by : (before : Option (List Talked)) → at.old.talks ≡ before
          → TalkIsKept run.disk.tells run.disk.old run.disk.new (record { rules = rules_of server talk.proto; division = server.division; worker = at.number; before = k }) talk
      by None none = absurd (not_some at.new.talks told (subst (λ (o : Option (List Talked)). TellsMore at.rules part.links.finished o at.new.talks) none is_part.at_door.talks) same)
      by (Some before) some =
          let empty : before ≡ [] = subst (λ (o : Option (List Talked)). IsToldAs o []) some fresh in
          let more = subst (λ (o : Option (List Talked)). TellsMore at.rules part.links.finished o at.new.talks) some is_part.at_door.talks in
          let whole : told ≡ more.0 = same_some told more.0 (sym same ∙ more.2 ∙ ap (λ (l : List Talked). Some (l ++ more.0)) empty) in
          let found = told_at at.rules part.links.finished more.0 k talk more.1 (subst (λ (l : List Talked). slice_get l k ≡ Some talk) whole here) in
          let link = among log at.number (first_conn numbered at.number) run.disk.new at.rules part.links.finished part.links.late k found.0 found.1 is_part.at_door.served is_part.at_door.calls all in
          let ruled : at.rules ≡ rules_of server talk.proto = is ∙ ap (λ (p : Proto). rules_of server p) (sym found.2.proto) in
          subst (λ (r : Rules). TalkIsKept run.disk.tells run.disk.old run.disk.new (record { rules = r; division = server.division; worker = at.number; before = k }) talk) ruled (record {
            one = found.0;
            told_as = found.2;
            log = log;
            led = led;
            conn_is = link.conn ∙ (λ i. first_conn (divided (divided_by i) (sym of_run i)) at.number + k);
            earlier = link.earlier;
            later = link.later;
            own = link.own;
            durable = link.durable;
          })

  doors_kept : (number : ℕ) (rules : List Rules) (doors doors' : List DoorState) (parts : List Part)
      → EachPart (IsPart numbered talks log) number rules doors doors' parts → EachPart (LinksAreDurable log run.disk.new) number rules doors doors' parts
      → All (λ (r : Rules). r ≡ rules_of server r.proto) rules → All (λ (door : DoorState). IsToldAs door.talks []) doors
      → EachFrom (TalksAreKept server run.disk) number doors'
  doors_kept number [] [] [] [] are each ruled fresh = tt
  doors_kept number (by ∷ rules) (old ∷ doors) (new ∷ doors') (part ∷ parts) are each ruled fresh = (
    door_kept (worker_door number by old new) part (All-head (λ (r : Rules). r ≡ rules_of server r.proto) by rules ruled)
        (All-head (λ (d : DoorState). IsToldAs d.talks []) old doors fresh) are.0 each.0,
    doors_kept (number + 1) rules doors doors' parts are.1 each.1 (All-tail (λ (r : Rules). r ≡ rules_of server r.proto) by rules ruled)
        (All-tail (λ (d : DoorState). IsToldAs d.talks []) old doors fresh),
  )
  doors_kept number rules doors doors' parts are each ruled fresh = absurd are

-- ---- the doors that were bound

fresh_at : (workers : ℕ) (place : Option (List ℕ)) (doors : List DoorState) → AreAt workers place doors → All (λ (door : DoorState). IsToldAs door.talks []) doors
fresh_at workers None doors at = All-same (λ (door : DoorState). IsToldAs door.talks []) doors [] at (All-nil (λ (door : DoorState). IsToldAs door.talks []))
fresh_at workers (Some place) doors at = All-weaker (IsNewDoor place) (λ (door : DoorState). IsToldAs door.talks []) (λ door new. new.talks) doors at.1

ruled_by : (server : Server) (proto : Proto) (doors : List DoorState) → All (λ (r : Rules). r ≡ rules_of server r.proto) (map (λ (door : DoorState). rules_of server proto) doors)
ruled_by server proto [] = All-nil (λ (r : Rules). r ≡ rules_of server r.proto)
ruled_by server proto (door ∷ doors) = All-cons (λ (r : Rules). r ≡ rules_of server r.proto) (rules_of server proto) (map (λ (door : DoorState). rules_of server proto) doors) refl (ruled_by server proto doors)

fresh_bound : (server : Server) (doors : List DoorState) (rules : List Rules) → AreBound server doors rules → All (λ (door : DoorState). IsToldAs door.talks []) doors
fresh_bound server doors rules b =
    let P : DoorState → Type 0 = λ door. IsToldAs door.talks [] in
    All-same P doors (b.relp ++ (b.lumberjack ++ b.hec)) b.doors_are (All-append P b.relp (b.lumberjack ++ b.hec) (fresh_at server.workers server.relp b.relp b.relp_at)
    (All-append P b.lumberjack b.hec (fresh_at server.workers server.lumberjack b.lumberjack b.lumberjack_at) (fresh_at server.workers server.hec b.hec b.hec_at)))

ruled_bound : (server : Server) (doors : List DoorState) (rules : List Rules) → AreBound server doors rules → All (λ (r : Rules). r ≡ rules_of server r.proto) rules
ruled_bound server doors rules b =
    let P : Rules → Type 0 = λ r. r ≡ rules_of server r.proto in
    All-same P rules _ b.rules_are (All-append P (map (λ door. rules_of server Relp) b.relp) _ (ruled_by server Relp b.relp)
    (All-append P (map (λ door. rules_of server Lumberjack) b.lumberjack) _ (ruled_by server Lumberjack b.lumberjack) (ruled_by server Hec b.hec)))

-- ---- the command

server_kept : (server : Server) (run : Run) (note : Note) → run.disk.tells → IsRun server run.disk run.output run.net run.doors note
    → DoorsAreKept server run.disk run.doors
server_kept server run note told ran =
    let over = ran.ran.over in
    let promises = ran.ran.promises in
    let opened = over.opened told in
    let closes = over.served.closes in
    let lead = closes.replays.leads opened.0 opened.1 in
    let led : HasLed run.disk.tells run.disk.old run.disk.new over.served.log = record {
      start = opened.0;
      opened = opened.1;
      after = lead.after;
      goes = lead.goes;
      any_moment = over.any_moment opened.0 opened.1;
    } in
    let each = doors_kept server run over.run server.talks over.served.log led (closes.replays.begins opened.0 opened.1).of_run over.divided_by
    0 ran.rules ran.doors run.doors promises.parts promises.are_parts.each (promises.acknowledged opened.0 opened.1)
    (ruled_bound server ran.doors ran.rules ran.bound) (fresh_bound server ran.doors ran.rules ran.bound) in
    λ worker door here. subst (λ (n : ℕ). TalksAreKept server run.disk n door) (omega arith) (each_at (TalksAreKept server run.disk) 0 run.doors worker door each here)

none_kept : (server : Server) (run : Run) → run.doors ≡ [] → DoorsAreKept server run.disk run.doors
none_kept server run none worker door is = cc

-- no link was accepted at a door that was just bound
fresh_new : (made : List Bound) (doors : List DoorState) → AreNewAt made doors → All (λ (door : DoorState). IsToldAs door.talks []) doors
fresh_new [] doors new = All-same (λ (door : DoorState). IsToldAs door.talks []) doors [] new (All-nil (λ (door : DoorState). IsToldAs door.talks []))
fresh_new (bound ∷ more) doors (first, rest, parts, many, new, others) =
    let P : DoorState → Type 0 = λ door. IsToldAs door.talks [] in
    All-same P doors (first ++ rest) parts (All-append P first rest (All-weaker (IsNewDoor bound.place) P (λ door is. is.talks) first new) (fresh_new more rest others))

none_told : (o : Option (List Talked)) (talks : List Talked) (k : ℕ) (told : Talked) → IsToldAs o [] → o ≡ Some talks → slice_get talks k ≡ Some told → ⊥
none_told o talks k told fresh some here =
    let none : [] ≡ talks = sym (subst (λ (p : Option (List Talked)). IsToldAs p []) some fresh) in
    let found : slice_get [] k ≡ Some told = subst (λ (l : List Talked). slice_get l k ≡ Some told) (sym none) here in
    cc

unused_kept : (server : Server) (run : Run) (made : List Bound) → AreNewAt made run.doors → DoorsAreKept server run.disk run.doors
unused_kept server run made new worker door is talks some k told here =
    let at = around run.doors worker door is in
    let all = subst (All (λ (d : DoorState). IsToldAs d.talks [])) at.parts (fresh_new made run.doors new) in
    absurd (none_told door.talks talks k told (holds_at (λ (d : DoorState). IsToldAs d.talks []) at.front at.rest door all) some here)

done_kept : (command : Command) (run : Run) (note : Note) → run.disk.tells → IsUndone run note ⊎ Does command run note → AcknowledgedIsKept command run
done_kept (Format slots size) run note told done = tt
done_kept (ListCommand form) run note told done = tt
done_kept (Drain receiver place) run note told done = tt
done_kept (Load proto number count) run note told done = tt
done_kept (Replay proto token ack_token) run note told (inl undone) = inl undone.1.output.taken
done_kept (Replay proto token ack_token) run note told (inr does) = elim does.0.replayed [
  | inl unopened ↦ inl unopened.2.taken
  | inr replayed ↦ inr (input_kept (replay_rules proto token ack_token) run note told replayed)
]
done_kept (Serve server) run note told (inl undone) = none_kept server run undone.1.doors
done_kept (Serve server) run note told (inr does) = elim does.0 [
  | inl unopened ↦ none_kept server run unopened.2
  | inr (inl unserved) ↦ unused_kept server run unserved.1.made unserved.1.new
  | inr (inr ran) ↦ server_kept server run note told ran
]

pub keeps_acknowledged : (words : List (List ℕ)) (run : Run) (note : Note) → IsRunOf words run note → KeepsAcknowledged words run
keeps_acknowledged words run note is command asks told = done_kept command run note told (is.done command asks)
