-- A connection served over a spool with one caller.
use Rattle.std.proofs.Common.{◌≡◌, ◌⊎◌, inl, inr, ℕ, ◌*◌, ◌^◌, List, sym, ◌∙◌, ap, subst}
use Rattle.event_form.specs.declared.talk.Talk.{Talk}
use Rattle.edge_disk.specs.Disk.{Moment, LeavesOnly}
use Rattle.edge_disk.proofs.Moments.{both}
use Rattle.spool_state.specs.SpoolState.{SpoolState}
use Rattle.spool_log.specs.declared.opening.Opening.TheVariants.{Raise}
use Rattle.spool_log.specs.Memory.{run_of}
use Rattle.spool_log.specs.State.{View}
use Rattle.spool_log.specs.Opening.{opened as opened_by, IsOpening, Opens}
use Rattle.desk_access.specs.Call.{Call}
use Rattle.desk_access.specs.Desk.{Stood}
use Rattle.desk_access.specs.History.{AllKept, Grows}
use Rattle.spool_desk.specs.Alone.{AloneView, IsAt, Ran}
use Rattle.desk_access.specs.Journal.{calls_by}
use Rattle.spool_desk.proofs.Lasting.{image_kept}
use Rattle.notes.specs.declared.note.Note.{Note}
use Rattle.notes.specs.Notes.{note_of_talk}
use Rattle.commands.specs.Refused.{IsRefusedFirst}
use Rattle.bridge_parts.specs.Opened.{desk_in}
use Rattle.commands.specs.Replayed.{Keeps, IsStored}

-- what calls of a desk with one caller lead to, and that memory knows it
pub record KeepsTo (s : SpoolState) (old new : AloneView) (calls : List Call) : Type 0 where
  pub keeps : Keeps s old.spool.moment new.spool.moment calls
  pub here : IsAt keeps.reached.after new

-- the calls of a desk with one caller keep what they took
pub ran_keeps_to : (s : SpoolState) (tells : Type 0) (old new : AloneView) (calls : List Call) → tells → IsAt (desk_in s) old → Ran tells old calls new → KeepsTo s old new calls
ran_keeps_to s tells old new calls told at ran =
    let leads = ran.runs.leads (desk_in s) told at in
    let own = calls_by 0 calls ran.records ran.by in record {
      keeps = record {
        reached = record {
          records = ran.records;
          by = ran.by;
          after = leads.after;
          goes = leads.goes;
          images = leads.reached.spool.each;
          each = λ c image.
              let kept = image_kept (desk_in s) old new ran.records at leads c image in
              record { state = kept.0; stands = kept.1; later = kept.2; kept = subst (AllKept kept.0) own kept.3; grows = subst (λ (l : List Call). Grows (desk_in s) l kept.0) own kept.4 };
        };
        any_moment = leads.any_moment;
      };
      here = leads.reached;
    }

pub ran_keeps : (s : SpoolState) (tells : Type 0) (old new : AloneView) (calls : List Call) → tells → IsAt (desk_in s) old → Ran tells old calls new → Keeps s old.spool.moment new.spool.moment calls
ran_keeps s tells old new calls told at ran = (ran_keeps_to s tells old new calls told at ran).keeps

-- a spool that was opened from a device, and then served
pub stored_from : (s : SpoolState) (m mid new : Moment) (calls : List Call) (run : ℕ) (v : View) → v.moment ≡ mid → run_of v.memory ≡ run
    → LeavesOnly (IsOpening Raise m) m mid → Opens Raise s m.reads v → Keeps (opened_by Raise s) mid new calls → IsStored m new (run * 2 ^ 32) calls
stored_from s m mid new calls run v now is first opens keeps = record {
  state = s;
  stood = opens.stood;
  could = opens.left;
  conn_is = ap (λ (n : ℕ). n * 2 ^ 32) (sym is ∙ opens.reached.knows.run);
  reached = keeps.reached;
  any_moment = both _ _ (λ c. IsOpening Raise m c ⊎ Stood (desk_in (opened_by Raise s)) keeps.reached.records c) m mid new first keeps.any_moment (λ c o. inl o) (λ c o. inr o);
}

-- the notes of words and devices that are refused are no endings of a connection
pub no_ending : (talk : Talk) (note : Note) → note ≡ note_of_talk talk → IsRefusedFirst note → ⊥
no_ending talk note is first = never talk (subst IsRefusedFirst is first)
  where
    never : (talk : Talk) → IsRefusedFirst (note_of_talk talk) → ⊥
    never Talk.Ended h = h
    never Talk.Closed h = h
    never (Talk.Fault at why) h = h
    never (Talk.Truncated at) h = h
    never (Talk.Full need room) h = h
    never (Talk.TooLarge need most) h = h
    never (Talk.Busy held) h = h
    never (Talk.Spent end) h = h
    never (Talk.NoMore run) h = h
    never (Talk.TooMuch at) h = h
    never Talk.ReadFault h = h
    never Talk.WriteFault h = h
    never Talk.DiskFault h = h
    never (Talk.NotSpool at) h = h
    never Talk.NoMemory h = h
