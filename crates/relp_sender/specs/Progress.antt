-- What the peer's frames have brought, of a session that is to send n entries.
use Rattle.std.specs.Prelude.{◌≡◌, ◌≢◌, ◌⊎◌, ℕ, Bool, true, false, List, [], ◌∷◌, Some, None}
use Rattle.std.specs.Prelude.{slice_index_or}
use Rattle.relp_frame.specs.declared.frame.Frame.{Frame}
use Rattle.relp_sender.specs.declared.stage.Stop.{Stop}
use Rattle.relp_sender.specs.declared.stage.Stop.TheVariants.{Hint, Refused, BadReply}
use Rattle.relp_sender.specs.Reply.{code_of, IsReply, IsHint}
use Rattle.relp_sender.specs.Marks.{Awaits, IsEarliest, NoneAwaits, allowed, known_front, marked_at}

-- The session isn't open, or it is, and these marks say which entries are acknowledged.
pub data Progress : Type 0 where
  Unopened : Progress
  Opened : List Bool → Progress

-- the entry at this place is acknowledged
abbrev pub IsKnown : Progress → ℕ → Type 0
IsKnown Unopened place = ⊥
IsKnown (Opened marks) place = slice_index_or marks place false ≡ true

-- how many are acknowledged before the first that isn't
abbrev pub known_by : Progress → ℕ
known_by Unopened = 0
known_by (Opened marks) = known_front marks

-- an unanswered frame has this transaction number
abbrev pub IsOutstanding : ℕ → Progress → ℕ → Type 0
IsOutstanding n Unopened txnr = txnr ≡ 1
IsOutstanding n (Opened marks) txnr = (place : ℕ) × Awaits (allowed n marks) marks txnr place

-- a reply to no unanswered frame is ignored; one with code 200 opens the session, or acknowledges the
-- earliest unanswered frame with its transaction number
abbrev pub Takes : ℕ → Progress → Frame → Progress → Type 0
Takes n Unopened f next = IsReply f × (((f.txnr ≢ 1) × (next ≡ Unopened)) ⊎ ((f.txnr ≡ 1) × (code_of f.body ≡ Some 200) × (next ≡ Opened [])))
Takes n (Opened marks) f next = IsReply f × ((NoneAwaits (allowed n marks) marks f.txnr × (next ≡ Opened marks))
    ⊎ ((place : ℕ) × IsEarliest (allowed n marks) marks f.txnr place × (code_of f.body ≡ Some 200) × (next ≡ Opened (marked_at place marks))))

-- the same of frames, one after another
abbrev pub TakesAll : ℕ → Progress → List Frame → Progress → Type 0
TakesAll n p [] next = next ≡ p
TakesAll n p (f ∷ frames) next = (q : Progress) × Takes n p f q × TakesAll n q frames next

-- the session ends at this frame
abbrev pub Stops : ℕ → Progress → Frame → Stop → Type 0
Stops n p f Hint = IsHint f
Stops n p f (Refused unit code) = IsReply f × IsOutstanding n p f.txnr × (unit ≡ f.txnr) × (code_of f.body ≡ Some code) × (code ≢ 200)
Stops n p f (BadReply at) = ((IsHint f → ⊥) × (IsReply f → ⊥)) ⊎ (IsReply f × IsOutstanding n p f.txnr × (code_of f.body ≡ None))
