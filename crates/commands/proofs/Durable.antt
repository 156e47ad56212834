-- What was acknowledged over a connection that alone uses the spool is durable.
use Rattle.std.proofs.Common.{◌≡◌, ◌*◌, ◌^◌, ℕ, List, Option, refl, subst}
use Rattle.std.specs.Prelude.{Bool, false}
use Rattle.event_form.specs.declared.talk.Talk.{Talk}
use Rattle.edge_io.specs.declared.proto.Proto.{Proto}
use Rattle.edge_io.specs.declared.proto.Proto.TheVariants.{Relp, Lumberjack, Hec}
use Rattle.edge_disk.specs.Disk.{Moment, LeavesOnly}
use Rattle.spool_state.specs.SpoolState.{SpoolState}
use Rattle.spool_log.specs.declared.memory.Memory.{Memory}
use Rattle.spool_log.specs.declared.opening.Opening.TheVariants.{Raise}
use Rattle.spool_log.specs.Memory.{run_of}
use Rattle.spool_log.specs.Opening.{opened, IsOpening, Opens}
use Rattle.spool_log.specs.State.{view}
use Rattle.desk_access.specs.Call.{Call}
use Rattle.desk_access.specs.Durable.{IsIdTakenDurably, KeepsCalls}
use Rattle.desk_access.proofs.Durable.{one_durable}
use Rattle.conn_serve.specs.declared.rules.Rules.{Rules}
use Rattle.conn_serve.specs.Acked.{Acknowledges}
use Rattle.conn_serve.specs.Durable.{AckedIsDurable, AnswersAreDurable}
use Rattle.conn_serve.specs.Serves.{CarriedAs}
use Rattle.conn_serve.specs.Terms.{Terms, terms_of}
use Rattle.conn_serve.proofs.Durable.{acked_durably, stored_durably}
use Rattle.conn_serve.proofs.HecAcks.{told_is_taken}
use Rattle.notes.specs.declared.note.Note.{Note}
use Rattle.bridge_parts.specs.Opened.{desk_in}
use Rattle.bridge_parts.specs.Run.{LinkRun}
use Rattle.commands.specs.Replayed.{ServesLink, IsStored, KeepsFrom, ServesInput}
use Rattle.commands.proofs.Replays.{stored_from}

-- whatever a crash leaves keeps what was taken
pub keeps_calls : (conn : ℕ) (calls : List Call) (old new : Moment) → IsStored old new conn calls → KeepsCalls new calls
keeps_calls conn calls old new stored = λ c image. let kept = stored.reached.each c image in (kept.state, kept.stands, kept.kept)

acked_is_durable : (proto : Proto) (terms : Terms) (conn : ℕ) (left : Option (List ℕ)) (b : List ℕ) (calls : List Call) (text : List ℕ)
    (talk : Talk) (old new : Moment) (numbers : List ℕ) → CarriedAs proto terms conn left b calls text talk → IsStored old new conn calls
    → Acknowledges proto text numbers → AckedIsDurable proto calls new numbers
acked_is_durable proto terms conn left b calls text talk old new numbers carried stored says =
    acked_durably proto terms conn left b calls text talk new numbers carried (keeps_calls conn calls old new stored) says

answers_are_durable : (proto : Proto) (terms : Terms) (conn : ℕ) (left : Option (List ℕ)) (b : List ℕ) (calls : List Call) (text : List ℕ)
    (talk : Talk) (old new : Moment) → (carried : CarriedAs proto terms conn left b calls text talk) → IsStored old new conn calls
    → AnswersAreDurable proto terms conn left b calls text talk carried new (λ channel id. IsIdTakenDurably calls new id)
answers_are_durable Relp terms conn left b calls text talk old new carried stored = tt
answers_are_durable Lumberjack terms conn left b calls text talk old new carried stored = tt
answers_are_durable Hec terms conn left b calls text talk old new carried stored =
    let keeps = keeps_calls conn calls old new stored in (
      stored_durably terms.tokens conn left b calls text talk new carried keeps,
      λ channel id says.
          let group = told_is_taken terms.tokens conn left b calls text talk carried (desk_in (opened Raise stored.state)) stored.reached.after 0
          stored.reached.records refl stored.reached.goes stored.reached.by channel id says in
          (group.0, group.2, record { taken = group.1; durable = one_durable new calls group.0 keeps group.1 }),
    )

-- A link that was served over a spool, which was opened from a device.
module _ (rules : Rules) (tells same : Type 0) (old mid new : Moment) (memory : Memory) (doubt : Bool) (sure : doubt ≡ false)
    (opens : tells → (s : SpoolState) × Opens Raise s old.reads (view memory doubt mid)) (first : tells → LeavesOnly (IsOpening Raise old) old mid) where
  pub stored_so : (calls : List Call)
      → KeepsFrom (record { memory = memory; disk = record { tells = tells; old = mid; new = new; same = same } }) calls → tells
      → IsStored old new (run_of memory * 2 ^ 32) calls
  stored_so calls made told =
      let found = opens told in
      let opening = subst (λ (b : Bool). Opens Raise found.0 old.reads (view memory b mid)) sure found.1 in
      stored_from found.0 old mid new calls (run_of memory) (view memory false mid) refl refl (first told) opening
      (made (opened Raise found.0) told opening.reached)

  pub serves_input : (link : LinkRun) (note : Note)
      → ServesLink rules (run_of memory * 2 ^ 32) link
      (KeepsFrom (record { memory = memory; disk = record { tells = tells; old = mid; new = new; same = same } })) note
      → ServesInput rules (record { tells = tells; old = old; new = new; same = same }) link note
  serves_input link note served =
      let serves = served.serves in
      let talk = served.attended.talk in
      let conn = run_of memory * 2 ^ 32 in
      let terms = terms_of rules in
      let made = stored_so serves.calls serves.made in record {
        conn = conn;
        served = record {
          attended = served.attended;
          note_is = served.note_is;
          serves = record {
            bytes = serves.bytes;
            calls = serves.calls;
            text = serves.text;
            read = serves.read;
            consumed = serves.consumed;
            are_bytes = serves.are_bytes;
            wrote = serves.wrote;
            made = made;
            counted = serves.counted;
            carried = serves.carried;
          };
        };
        acknowledged = λ numbers told says.
            acked_is_durable rules.proto terms conn link.left_after serves.bytes serves.calls serves.text talk old new numbers serves.carried (made told) says;
        answered = λ told. answers_are_durable rules.proto terms conn link.left_after serves.bytes serves.calls serves.text talk old new serves.carried (made told);
      }
