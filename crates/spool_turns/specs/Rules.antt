-- The rule of the table of seats, and what its steps change and tell.
use Rattle.std.specs.Prelude.{◌≡◌, ℕ, ◌+◌, ◌^◌, ◌<◌, ◌≤◌, List, [], ◌∷◌, ◌++◌, length, Bool, Option, Some, None, if◌then◌else◌, max, nat_lt}
use mathlib.Core.Option.{some}
use lib.ListN.{get_elem?}
use mathlib.Core.List.{IsPrefix}
use Rattle.atomic_table.specs.Table.{Me}
use Rattle.event_form.specs.declared.event.Entry.{Entry}
use Rattle.desk_access.specs.Call.{Call, Record, own_of}

-- What a pass knew when it handed in its entries, the entries, and whether the first of them may be taken alone.
pub record Handed : Type 0 where
  pub seen : List Record
  pub own : List Call
  pub end_known : ℕ
  pub cursor_known : ℕ
  pub entries : List Entry
  pub front : Bool

-- What a pass knows: its number, the journal that it has seen, its own calls, another journal that it was given to compare,
-- the greatest end and cursor that it loaded, and where it is out with entries, what was handed in.
pub record PassView : Type 0 where
  pub number : ℕ
  pub seen : List Record
  pub own : List Call
  pub also : List Record
  pub end_known : ℕ
  pub cursor_known : ℕ
  pub out : Option Handed

abbrev pub pass_view : ℕ → List Record → List Call → List Record → ℕ → ℕ → Option Handed → PassView
pass_view number seen own also end_known cursor_known out =
    record { number = number; seen = seen; own = own; also = also; end_known = end_known; cursor_known = cursor_known; out = out }

-- how many passes were made, the journal, and the words of the end and the cursor
pub record Facts : Type 0 where
  pub made : ℕ
  pub log : List Record
  pub end : ℕ
  pub cursor : ℕ

abbrev pub facts : ℕ → List Record → ℕ → ℕ → Facts
facts made log end cursor = record { made = made; log = log; end = end; cursor = cursor }

-- What a seat knows. The seat under the lock has the facts, and during a call the view of the pass that makes it. A copy
-- is what one pass has seen, on its way to another.
pub data View : Type 0 where
  Locked : Facts → Option PassView → View
  Pass : PassView → View
  Copy : PassView → View
  -- the claim to the pass of that number, which is out with what was handed in; and the pass that came back to its claim
  Claim : ℕ → Handed → View
  Returned : Handed → PassView → View
  Spent : View

-- the record of a call, as one of the caller of that number
abbrev pub made_by : ℕ → Record → Record
made_by number one = record { by = number; call = one.call; joins = one.joins; met = one.met; after = one.after; clock = one.clock }

-- What a pass knows is right: it has seen a beginning of the journal, its own calls are all that the journal has of its
-- number, and the words are no less than what it loaded.
pub record Knows (f : Facts) (m : PassView) : Type 0 where
  pub number : m.number < f.made
  pub seen : IsPrefix m.seen f.log
  pub also : IsPrefix m.also f.log
  pub own : own_of m.number f.log ≡ m.own
  pub own_seen : own_of m.number m.seen ≡ m.own
  pub end_known : m.end_known ≤ f.end
  pub cursor_known : m.cursor_known ≤ f.cursor

-- the same of a copy, which has no number
pub record Saw (f : Facts) (m : PassView) : Type 0 where
  pub seen : IsPrefix m.seen f.log
  pub end_known : m.end_known ≤ f.end
  pub cursor_known : m.cursor_known ≤ f.cursor

-- the seat under the lock, the seat that has each number, what each number is out with and the seat of its claim, and the facts
pub record Whole : Type 0 where
  pub seat : ℕ
  pub who : ℕ → ℕ
  pub out : ℕ → Option Handed
  pub claim : ℕ → ℕ
  pub now : Facts

-- the pass of a number is out with that, or isn't out
abbrev pub IsOut : Whole → PassView → Type 0
IsOut g m = g.out m.number ≡ m.out

abbrev pub HasCaller : Whole → Option PassView → Type 0
HasCaller g None = Unit {0}
HasCaller g (Some m) = (g.who m.number ≡ g.seat) × Knows g.now m × IsOut g m

abbrev pub Fits : Whole → ℕ → View → Type 0
Fits g id (Locked f caller) = (id ≡ g.seat) × (f ≡ g.now) × HasCaller g caller
Fits g id (Pass m) = (g.who m.number ≡ id) × Knows g.now m × IsOut g m
Fits g id (Copy m) = Saw g.now m
Fits g id (Claim number h) = (number < g.now.made) × (g.claim number ≡ id) × (g.out number ≡ Some h)
Fits g id (Returned h m) = (g.who m.number ≡ id) × Knows g.now m × IsOut g m × (g.claim m.number ≡ id) × (g.out m.number ≡ Some h)
Fits g id Spent = Unit {0}

-- the journal has no record of a number that no pass has
abbrev pub Fresh : Facts → Type 0
Fresh f = (n : ℕ) → f.made ≤ n → own_of n f.log ≡ []

-- word 0 is only read
abbrev pub words_of : Facts → List ℕ
words_of f = 0 ∷ f.end ∷ f.cursor ∷ f.made ∷ []

-- there is one journal, and each seat's view fits it
abbrev pub Kept : List ℕ → List View → Type 0
Kept words views = (g : Whole) × (words ≡ words_of g.now) × Fresh g.now × (g.now.end ≤ 2 ^ 63)
    × ((id : ℕ) (v : View) → get_elem? views id ≡ some v → Fits g id v)

abbrev pub first_facts : ℕ → ℕ → Facts
first_facts end cursor = facts 0 [] end cursor

abbrev pub first_view : ℕ × ℕ → View
first_view k = Locked (first_facts k.0 k.1) None

-- a new pass is made, under the lock
abbrev pub one_pass_more : Facts → Facts
one_pass_more f = facts (f.made + 1) f.log f.end f.cursor

abbrev pub new_pass : Facts → PassView
new_pass f = pass_view f.made f.log [] [] f.end f.cursor None

abbrev pub with_pass : View → View
with_pass (Locked f caller) = Locked (one_pass_more f) (Some (new_pass f))
with_pass v = v

-- a pass comes under the lock
abbrev pub admitted : View → View → View
admitted (Locked f caller) (Pass m) = Locked f (Some m)
admitted v w = v

-- and leaves it
abbrev pub released : View → View
released (Locked f caller) = Locked f None
released v = v

abbrev pub pass_or_spent : Option PassView → View
pass_or_spent None = Spent
pass_or_spent (Some m) = Pass m

abbrev pub caller_of : View → View
caller_of (Locked f caller) = pass_or_spent caller
caller_of _ = Spent

-- the record of the caller's call
abbrev pub with_record : Facts → Record → Facts
with_record f one = facts f.made (f.log ++ one ∷ []) f.end f.cursor

abbrev pub after_call : Facts → PassView → Record → PassView
after_call f m one = pass_view m.number (f.log ++ made_by m.number one ∷ []) (m.own ++ one.call ∷ []) [] f.end f.cursor m.out

abbrev pub by_caller : Facts → Record → Option PassView → View
by_caller f one None = Locked f None
by_caller f one (Some m) = Locked (with_record f (made_by m.number one)) (Some (after_call f m one))

abbrev pub recorded : Record → View → View
recorded one (Locked f caller) = by_caller f one caller
recorded one v = v

abbrev pub CallerKnown : Facts → Option PassView → Type 0
CallerKnown f None = Unit {0}
CallerKnown f (Some m) = Knows f m

abbrev pub Learned : View → Type 0
Learned (Locked f caller) = CallerKnown f caller × Fresh f
Learned _ = Unit {0}

-- the word of the end is written, or that of the cursor
abbrev pub end_at : ℕ → Facts → Facts
end_at n f = facts f.made f.log n f.cursor

abbrev pub cursor_at : ℕ → Facts → Facts
cursor_at n f = facts f.made f.log f.end n

abbrev pub with_end : ℕ → View → View
with_end n (Locked f caller) = Locked (end_at n f) caller
with_end n v = v

abbrev pub with_cursor : ℕ → View → View
with_cursor n (Locked f caller) = Locked (cursor_at n f) caller
with_cursor n v = v

-- a pass has loaded the word of the end, or that of the cursor
abbrev pub knowing_end : ℕ → PassView → PassView
knowing_end n m = pass_view m.number m.seen m.own m.also n m.cursor_known m.out

abbrev pub knowing_cursor : ℕ → PassView → PassView
knowing_cursor n m = pass_view m.number m.seen m.own m.also m.end_known n m.out

abbrev pub end_loaded : ℕ → View → View
end_loaded n (Pass m) = Pass (knowing_end n m)
end_loaded n v = v

abbrev pub cursor_loaded : ℕ → View → View
cursor_loaded n (Pass m) = Pass (knowing_cursor n m)
cursor_loaded n v = v

abbrev pub end_known_in : View → ℕ
end_known_in (Pass m) = m.end_known
end_known_in _ = 0

abbrev pub cursor_known_in : View → ℕ
cursor_known_in (Pass m) = m.cursor_known
cursor_known_in _ = 0

-- a copy of what a pass has seen
abbrev pub copy_of : View → View
copy_of (Pass m) = Copy m
copy_of _ = Spent

-- another pass takes the copy in
abbrev pub merged : PassView → PassView → PassView
merged m c = pass_view m.number m.seen m.own c.seen (max m.end_known c.end_known) (max m.cursor_known c.cursor_known) m.out

abbrev pub merging : View → View → View
merging (Pass m) (Copy c) = Pass (merged m c)
merging v w = v

-- and keeps the longer of the two journals
abbrev pub longer : List Record → List Record → List Record
longer xs ys = if nat_lt (length xs) (length ys) then ys else xs

abbrev pub compared_pass : PassView → PassView
compared_pass m = pass_view m.number (longer m.seen m.also) m.own [] m.end_known m.cursor_known m.out

abbrev pub compared : View → View
compared (Pass m) = Pass (compared_pass m)
compared v = v

abbrev pub BothSeen : View → Type 0
BothSeen (Pass m) = IsPrefix m.seen (longer m.seen m.also) × IsPrefix m.also (longer m.seen m.also) × (own_of m.number (longer m.seen m.also) ≡ m.own)
BothSeen _ = Unit {0}

-- a pass under the lock sees the whole journal, and the words as they are
abbrev pub caught_up : Facts → PassView → PassView
caught_up f m = pass_view m.number f.log m.own [] f.end f.cursor m.out

abbrev pub by_seeing : Facts → Option PassView → View
by_seeing f None = Locked f None
by_seeing f (Some m) = Locked f (Some (caught_up f m))

abbrev pub all_seen : View → View
all_seen (Locked f caller) = by_seeing f caller
all_seen v = v

-- ---- a pass that goes out with entries

abbrev pub handed_by : PassView → List Entry → Bool → Handed
handed_by m entries front = record { seen = m.seen; own = m.own; end_known = m.end_known; cursor_known = m.cursor_known; entries = entries; front = front }

abbrev pub sent_out : PassView → List Entry → Bool → PassView
sent_out m entries front = pass_view m.number m.seen m.own m.also m.end_known m.cursor_known (Some (handed_by m entries front))

-- its seat keeps the claim, and another takes its view along
abbrev pub claim_of : List Entry → Bool → View → View
claim_of entries front (Pass m) = Claim m.number (handed_by m entries front)
claim_of entries front v = v

abbrev pub out_of : List Entry → Bool → View → View
out_of entries front (Pass m) = Pass (sent_out m entries front)
out_of entries front v = Spent

-- it comes back to the claim, and is out no more
abbrev pub returning : View → View → View
returning (Claim number h) (Pass m) = Returned h m
returning v w = v

abbrev pub back_again : PassView → PassView
back_again m = pass_view m.number m.seen m.own m.also m.end_known m.cursor_known None

abbrev pub settled : View → View
settled (Returned h m) = Pass (back_again m)
settled v = v

-- it is out with what the claim says
abbrev pub IsClaimed : View → Type 0
IsClaimed (Returned h m) = m.out ≡ Some h
IsClaimed _ = Unit {0}

abbrev pub SettlesClaim : Me ℕ View → Me ℕ View → Type 0
SettlesClaim v w = (w ≡ (settled v.0, v.1)) × IsClaimed v.0

-- what the steps tell
abbrev pub SeesAll : Me ℕ View → Me ℕ View → Type 0
SeesAll v w = w ≡ (all_seen v.0, v.1)

abbrev pub Records : Record → Me ℕ View → Me ℕ View → Type 0
Records one v w = w ≡ (recorded one v.0, v.1)

abbrev pub Learns : Me ℕ View → Me ℕ View → Type 0
Learns v w = (w ≡ v) × Learned v.0

abbrev pub MakesPass : Me ℕ View → Me ℕ View → Type 0
MakesPass v w = w ≡ (with_pass v.0, v.1)

abbrev pub WritesEnd : ℕ → Me ℕ View → Me ℕ View → Type 0
WritesEnd n v w = w ≡ (with_end n v.0, v.1)

abbrev pub WritesCursor : ℕ → Me ℕ View → Me ℕ View → Type 0
WritesCursor n v w = w ≡ (with_cursor n v.0, v.1)

-- the end that was loaded isn't less than one loaded before, nor more than 2^63
abbrev pub LoadsEnd : Me ℕ View → ℕ → Me ℕ View → Type 0
LoadsEnd v n w = (w ≡ (end_loaded n v.0, v.1)) × (end_known_in v.0 ≤ n) × (n ≤ 2 ^ 63)

abbrev pub LoadsCursor : Me ℕ View → ℕ → Me ℕ View → Type 0
LoadsCursor v n w = (w ≡ (cursor_loaded n v.0, v.1)) × (cursor_known_in v.0 ≤ n)

abbrev pub Compares : Me ℕ View → Me ℕ View → Type 0
Compares v w = (w ≡ (compared v.0, v.1)) × BothSeen v.0
