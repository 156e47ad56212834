-- The table of acknowledgement ids: which channel holds which id, and whether it is settled.
use Rattle.std.specs.Prelude.{ℕ, ◌+◌, ◌*◌, ◌^◌, ◌<◌, ◌≤◌, ◌==◌, ◌&&◌, Bool, not, List, [], ◌∷◌, map, nat_eq, count_by}
use Rattle.std.specs.List.{list_any}
use Rattle.std.specs.Set.{distinct_count}

-- an id that a channel holds
pub record Held : Type 0 where
  pub channel : ℕ
  pub id : ℕ
  pub settled : Bool

-- A run, the next id, and the ids held, in the order of issue.
pub record Table : Type 0 where
  pub run : ℕ
  pub next : ℕ
  pub held : List Held

-- whether this is the channel's id
abbrev pub is_of : ℕ → ℕ → Held → Bool
is_of channel id h = (h.channel == channel) && (h.id == id)

-- whether the channel holds the id
abbrev pub holds : ℕ → ℕ → List Held → Bool
holds channel id held = list_any (λ h. is_of channel id h) held

-- whether it holds it settled
abbrev pub holds_settled : ℕ → ℕ → List Held → Bool
holds_settled channel id held = list_any (λ h. is_of channel id h && h.settled) held

-- whether it holds it, not settled yet
abbrev pub holds_unsettled : ℕ → ℕ → List Held → Bool
holds_unsettled channel id held = list_any (λ h. is_of channel id h && not h.settled) held

-- how many ids the channel holds
abbrev pub count_of : ℕ → List Held → ℕ
count_of channel held = count_by (λ h. h.channel == channel) held

-- how many channels hold ids
abbrev pub channel_count : List Held → ℕ
channel_count held = distinct_count nat_eq (map (λ h. h.channel) held)

-- ids from one number on and below another, each above those before it
abbrev pub AreRising : ℕ → ℕ → List Held → Type 0
AreRising from to [] = from ≤ to
AreRising from to (h ∷ held) = (from ≤ h.id) × (h.id < to) × AreRising (h.id + 1) to held

-- A run has 2^32 ids, from its number times 2^32 on. Those held were issued in the order of their numbers,
-- so none is held twice. A channel holds at most 10,000, and at most 1,000 channels hold some.
pub record IsSound (t : Table) : Type 0 where
  pub run : t.run < 2 ^ 32
  pub within : t.next ≤ t.run * 2 ^ 32 + 2 ^ 32
  pub rising : AreRising (t.run * 2 ^ 32) t.next t.held
  pub few : (channel : ℕ) → count_of channel t.held ≤ 10000
  pub few_channels : channel_count t.held ≤ 1000
