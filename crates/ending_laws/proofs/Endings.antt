-- How a connection ends where no call failed, none of its bytes is at fault and nothing that they bring is refused.
use Rattle.std.proofs.Common.{◌≡◌, ◌⊎◌, inl, inr, ℕ, ◌<◌, ◌≤◌, ◌^◌, List, [], ◌++◌, length, refl, ◌∙◌, ap, subst, arith, append_assoc, length-append}
use Rattle.std.proofs.lemmas.List.{append-nil}
use Rattle.std.specs.Prelude.{Option, Some, None}
use Rattle.std.specs.Io.KnownBytes.{Consumes, IsAtEnd}
use Rattle.event_form.specs.declared.event.Event.{Event}
use Rattle.event_form.specs.declared.event.Entry.{Entry}
use Rattle.event_form.specs.declared.talk.Talk.{Talk}
use Rattle.event_form.specs.declared.talk.Why.{Why}
use Rattle.edge_io.specs.declared.proto.Proto.{Proto}
use Rattle.edge_disk.specs.Disk.{Moment}
use Rattle.spool_state.specs.SpoolState.{SpoolState}
use Rattle.desk_access.specs.Call.{Call, Record, AreBy, taken_of, failures_of}
use Rattle.desk_access.specs.Carried.{Carried, Ending, EndsAtMove, IsOver}
use Rattle.desk_access.specs.Desk.{DeskState, Goes}
use Rattle.desk_access.specs.History.{Grown}
use Rattle.desk_access.specs.Journal.{calls_by, failures_then, goes_parts}
use Rattle.desk_access.specs.Protocol.{Protocol}
use Rattle.desk_access.specs.Step.{Step, frames_of, calls_of}
use Rattle.conn_serve.specs.Front.{IsFront}
use Rattle.conn_serve.specs.Serves.{CarriedAs}
use Rattle.conn_serve.specs.Terms.{Terms}
use Rattle.conn_serve.proofs.Failing.{disk_fault_is_told}
use Rattle.notes.specs.declared.note.Note.{Note}
use Rattle.notes.specs.Notes.{note_of_talk}
use Rattle.ending_laws.specs.Replaying.{AreFirstMoves, Gains, events_of}
use Rattle.bridge_parts.specs.Opened.{desk_in}
use Rattle.bridge_parts.specs.Reached.{Reaches}
use Rattle.ending_laws.proofs.Desk.{stays_sure, by_parts, adds_taken}

-- ---- endings

-- all was carried
abbrev pub IsDone : Talk → Type 0
IsDone Talk.Ended = Unit {0}
IsDone Talk.Closed = Unit {0}
IsDone talk = ⊥

-- that, or no memory was found, or a count says of the ending that a call failed
abbrev pub IsAllowed : Talk → Type 0
IsAllowed Talk.Ended = Unit {0}
IsAllowed Talk.Closed = Unit {0}
IsAllowed Talk.NoMemory = Unit {0}
IsAllowed Talk.ReadFault = Unit {0}
IsAllowed Talk.WriteFault = Unit {0}
IsAllowed Talk.DiskFault = Unit {0}
IsAllowed talk = ⊥

-- the spool or the table of ids refused something, or the device reads as no spool
abbrev pub IsRefusing : Talk → Type 0
IsRefusing (Talk.Full need room) = Unit {0}
IsRefusing (Talk.TooLarge need most) = Unit {0}
IsRefusing (Talk.Busy held) = Unit {0}
IsRefusing (Talk.Spent end) = Unit {0}
IsRefusing (Talk.NoMore run) = Unit {0}
IsRefusing (Talk.NotSpool at) = Unit {0}
IsRefusing talk = ⊥

module _ {F : Type 0} (p : Protocol F) (left : Option (List ℕ)) (b : List ℕ) (steps : List (Step F)) (held : List F) (at : ℕ) (late : List Call) (part : List ℕ) where
  pub allowed : ((place : ℕ) → IsOver p left b (frames_of steps ++ held) at (Talk.Truncated place) → ⊥) → ((place : ℕ) (why : Why) → IsOver p left b (frames_of steps ++ held) at (Talk.Fault place why) → ⊥)
      → length b < 2 ^ 40 → ((talk : Talk) → IsRefusing talk → EndsAtMove p left b steps held at late part talk → ⊥)
      → (talk : Talk) → Ending p left b steps held at late part talk → IsAllowed talk
  allowed whole sound short granted Talk.Ended e = tt
  allowed whole sound short granted Talk.Closed e = tt
  allowed whole sound short granted (Talk.Fault place why) e = sound place why e.0
  allowed whole sound short granted (Talk.Truncated place) e = whole place e.0
  allowed whole sound short granted (Talk.Full need room) e = granted (Talk.Full need room) tt e
  allowed whole sound short granted (Talk.TooLarge need most) e = granted (Talk.TooLarge need most) tt e
  allowed whole sound short granted (Talk.Busy many) e = granted (Talk.Busy many) tt e
  allowed whole sound short granted (Talk.Spent end) e = granted (Talk.Spent end) tt e
  allowed whole sound short granted (Talk.NoMore run) e = granted (Talk.NoMore run) tt e
  allowed whole sound short granted (Talk.TooMuch place) e = absurd (omega (arith, short, e.1, e.2))
  allowed whole sound short granted Talk.ReadFault e = tt
  allowed whole sound short granted Talk.WriteFault e = tt
  allowed whole sound short granted Talk.DiskFault e = tt
  allowed whole sound short granted (Talk.NotSpool place) e = granted (Talk.NotSpool place) tt e
  allowed whole sound short granted Talk.NoMemory e = tt

-- the note of an ending that is allowed, where no call failed
pub allowed_note : (talk : Talk) (note : Note) → note ≡ note_of_talk talk → IsAllowed talk → (note ≡ Note.DiskFault → ⊥) → (note ≡ Note.ReadFault → ⊥) → (note ≡ Note.WriteFault → ⊥)
    → (note ≡ Note.NoMemory) ⊎ ((note ≡ Note.Fine) × IsDone talk)
allowed_note Talk.Ended note is allows disk read write = inr (is, tt)
allowed_note Talk.Closed note is allows disk read write = inr (is, tt)
allowed_note Talk.NoMemory note is allows disk read write = inl is
allowed_note Talk.ReadFault note is allows disk read write = absurd (read is)
allowed_note Talk.WriteFault note is allows disk read write = absurd (write is)
allowed_note Talk.DiskFault note is allows disk read write = absurd (disk is)
allowed_note talk note is allows disk read write = absurd allows

-- ---- bytes read, and bytes left

-- the input had the bytes read, and those that are left
pub record Kept (left : Option (List ℕ)) (whole b : List ℕ) : Type 0 where
  pub more : List ℕ
  pub left_is : left ≡ Some more
  pub joined : whole ≡ b ++ more

pub kept : (left : Option (List ℕ)) (whole b : List ℕ) → Consumes (Some whole) left b → Kept left whole b
kept None whole b consumed = absurd consumed
kept (Some more) whole b consumed = record { more = more; left_is = refl; joined = consumed }

pub kept_short : (left : Option (List ℕ)) (whole b : List ℕ) → Kept left whole b → length b ≤ length whole
kept_short left whole b k = omega (arith, ap length k.joined, length-append b k.more)

-- an input at its end had those bytes
pub kept_all : (left : Option (List ℕ)) (whole b : List ℕ) → Kept left whole b → IsAtEnd left → whole ≡ b
kept_all left whole b k over = k.joined ∙ ap (λ (l : List ℕ). b ++ l) (subst IsAtEnd k.left_is over) ∙ append-nil b

-- what begins with frames does so with bytes after it
pub front_more : {F : Type 0} (Spells : F → List ℕ → Type 0) (b more : List ℕ) (frames : List F) (at : ℕ) → IsFront Spells b frames at → IsFront Spells (b ++ more) frames at
front_more Spells b more frames at front = record {
  front = front.front;
  rest = front.rest ++ more;
  spelled = front.spelled;
  ends = front.ends;
  whole = ap (λ (l : List ℕ). l ++ more) front.whole ∙ append_assoc front.front front.rest more;
}

-- ---- the desk after the steps

-- The steps are first moves, and lead to this desk, which isn't in doubt; from there the last calls lead on.
pub record AfterSteps {F : Type 0} (p : Protocol F) (s : SpoolState) (steps : List (Step F)) (late : List Call) : Type 0 where
  pub desk : DeskState
  pub course : AreFirstMoves p s steps desk
  pub sure : desk.doubt ≡ []
  pub rest : List Record
  pub by : AreBy 0 late rest
  pub found : DeskState
  pub goes : Goes desk rest found

pub after_steps : {F : Type 0} (p : Protocol F) (s : SpoolState) (now : Moment) (left : Option (List ℕ)) (b : List ℕ) (calls : List Call) (text : List ℕ) (talk : Talk) → (carried : Carried p left b calls text talk)
    → Reaches s now calls → failures_of (calls_of carried.steps) ≡ 0 → AfterSteps p s carried.steps carried.late
after_steps p s now left b calls text talk carried reached none =
    let parts = by_parts (calls_of carried.steps) carried.late reached.records (subst (λ (l : List Call). AreBy 0 l reached.records) carried.made reached.by) in
    let goes = goes_parts (desk_in s) reached.after parts.before parts.after (subst (λ (l : List Record). Goes (desk_in s) l reached.after) parts.are reached.goes) in record {
      desk = goes.0;
      course = record { moves = carried.each; records = parts.before; by = parts.by_before; goes = goes.1 };
      sure = stays_sure (desk_in s) goes.0 parts.before refl (ap failures_of (calls_by 0 (calls_of carried.steps) parts.before parts.by_before) ∙ none) goes.1;
      rest = parts.after;
      by = parts.by_after;
      found = reached.after;
      goes = goes.2;
    }

-- the steps' calls are the first ones, so none failed where none did
pub steps_failures : (calls first late : List Call) → calls ≡ first ++ late → failures_of calls ≡ 0 → failures_of first ≡ 0
steps_failures calls first late made none = omega (arith, none, ap failures_of made, failures_then first late)

-- a connection that ended by no fault of the disk or of a write had no call that failed
pub none_failed : (proto : Proto) (terms : Terms) (conn : ℕ) (left : Option (List ℕ)) (b : List ℕ) (calls : List Call) (text : List ℕ) (talk : Talk) → CarriedAs proto terms conn left b calls text talk
    → (talk ≡ Talk.DiskFault → ⊥) → (talk ≡ Talk.WriteFault → ⊥) → failures_of calls ≡ 0
none_failed proto terms conn left b calls text talk carried disk write =
    elim ((disk_fault_is_told proto terms conn left b calls text talk carried).quiet disk) [ inl none ↦ none | inr cut ↦ absurd (write cut.1) ]

-- ---- what the spool has then

-- the events of the entries that were taken stand at the end of the list
pub gains : (s : SpoolState) (now : Moment) (calls : List Call) (events : List Event) → Reaches s now calls → failures_of calls ≡ 0 → events_of (taken_of calls) ≡ events → Gains s now events
gains s now calls events reached none own = record {
  entries = taken_of calls;
  own = own;
  each = λ c image.
      let kept_in = reached.each c image in
      let grows = kept_in.grows in (
        kept_in.state,
        kept_in.stands,
        kept_in.later,
        subst (λ (l : List Entry). Grown s l kept_in.state) (adds_taken calls grows.more none grows.adds)
            (subst (λ (m : SpoolState). Grown m grows.more kept_in.state) grows.one grows.grown),
      );
}
