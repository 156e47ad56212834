-- What a connection acknowledged is durable where the disk keeps what its calls took.
use Rattle.std.proofs.Common.{◌≡◌, ℕ, zero, suc, ◌+◌, List, [], ◌∷◌, Option, take, drop, arith, subst}
use Rattle.std.specs.List.{All, flat_map}
use Rattle.std.proofs.lemmas.List.Elements.{All-nil, All-cons, All-append, All-head, All-tail}
use Rattle.event_form.specs.declared.event.Entry.{Entry}
use Rattle.edge_io.specs.declared.proto.Proto.TheVariants.{Relp, Lumberjack, Hec}
use Rattle.spool_state.specs.SpoolState.{SpoolState}
use Rattle.desk_access.specs.History.{IsKept, AreKept, AllKept}
use Rattle.event_form.specs.declared.talk.Talk.{Talk}
use Rattle.edge_io.specs.declared.proto.Proto.{Proto}
use Rattle.edge_disk.specs.Disk.{Moment}
use Rattle.hec_session.specs.declared.tokens.Tokens.{Tokens}
use Rattle.desk_access.specs.Call.{Call}
use Rattle.desk_access.specs.Carried.{Carried}
use Rattle.desk_access.specs.Durable.{IsGroupKept, IsTakenDurably, KeepsCalls}
use Rattle.desk_access.specs.Groups.{Group, groups_of}
use Rattle.desk_access.proofs.Durable.{first_kept, groups_kept, one_durable}
use Rattle.conn_serve.specs.Acked.{Acknowledges, AreOfFirst, acked_by, singles_from}
use Rattle.conn_serve.specs.Durable.{AckedIsDurable}
use Rattle.conn_serve.specs.Hec.{hec}
use Rattle.conn_serve.specs.HecAcked.{AcknowledgesGroup}
use Rattle.conn_serve.specs.Serves.{CarriedAs}
use Rattle.conn_serve.specs.Terms.{Terms}
use Rattle.conn_serve.proofs.Acknowledged.{acked_is_taken}
use Rattle.conn_serve.proofs.HecAcks.{acknowledged_is_taken}

single_kept : (s : SpoolState) (first : ℕ) (e : Entry) (entries : List Entry) → AreKept s first (e ∷ entries) → AreKept s first (e ∷ [])
single_kept s first e entries kept zero few = kept zero (omega arith)
single_kept s first e entries kept (suc k) few = absurd (omega (arith, few))

rest_kept : (s : SpoolState) (first : ℕ) (e : Entry) (entries : List Entry) → AreKept s first (e ∷ entries) → AreKept s (first + 1) entries
rest_kept s first e entries kept k few =
    let same : first + suc k ≡ (first + 1) + k = omega arith in
    subst (λ (n : ℕ). IsKept s n (take 1 (drop k entries))) same (kept (suc k) (omega (arith, few)))

-- an entry of a group that is kept is kept
singles_kept : (s : SpoolState) (first : ℕ) (entries : List Entry) → AreKept s first entries → All (IsGroupKept s) (singles_from first entries)
singles_kept s first [] k = All-nil (IsGroupKept s)
singles_kept s first (e ∷ entries) k = All-cons (IsGroupKept s) (record { first = first; entries = e ∷ [] }) (singles_from (first + 1) entries) (single_kept s first e entries k) (singles_kept s (first + 1) entries (rest_kept s first e entries k))

each_kept : (s : SpoolState) (groups : List Group) → All (IsGroupKept s) groups → All (IsGroupKept s) (flat_map (λ (group : Group). singles_from group.first group.entries) groups)
each_kept s [] k = All-nil (IsGroupKept s)
each_kept s (g ∷ groups) k =
    All-append (IsGroupKept s) (singles_from g.first g.entries) (flat_map (λ (group : Group). singles_from group.first group.entries) groups) (singles_kept s g.first g.entries (All-head (IsGroupKept s) g groups k))
    (each_kept s groups (All-tail (IsGroupKept s) g groups k))

acked_kept : (proto : Proto) (s : SpoolState) (calls : List Call) → AllKept s calls → All (IsGroupKept s) (acked_by proto calls)
acked_kept Relp s calls k = each_kept s (groups_of calls) (groups_kept s calls k)
acked_kept Lumberjack s calls k = groups_kept s calls k
acked_kept Hec s calls k = groups_kept s calls k

-- by numbers
pub acked_durably : (proto : Proto) (terms : Terms) (conn : ℕ) (left : Option (List ℕ)) (b : List ℕ) (calls : List Call) (text : List ℕ) (talk : Talk) (now : Moment) (numbers : List ℕ) → CarriedAs proto terms conn left b calls text talk
    → KeepsCalls now calls → Acknowledges proto text numbers → AckedIsDurable proto calls now numbers
acked_durably proto terms conn left b calls text talk now numbers carried keeps says =
    let taken : AreOfFirst proto calls numbers = acked_is_taken proto terms conn left b calls text talk carried numbers says in record {
      taken = taken;
      durable = λ c image.
          let k = keeps c image in
          (k.0, k.1, first_kept k.0 taken.groups taken.more (subst (All (IsGroupKept k.0)) taken.taken (acked_kept proto k.0 calls k.2)));
    }

-- by a Success without an id
pub stored_durably : (tokens : Tokens) (conn : ℕ) (left : Option (List ℕ)) (b : List ℕ) (calls : List Call) (text : List ℕ) (talk : Talk) (now : Moment) (carried : Carried (hec tokens conn) left b calls text talk)
    → KeepsCalls now calls → (group : Group) → AcknowledgesGroup carried group → IsTakenDurably calls now group
stored_durably tokens conn left b calls text talk now carried keeps group says =
    let taken = acknowledged_is_taken tokens conn left b calls text talk carried group says in record { taken = taken; durable = one_durable now calls group keeps taken }
