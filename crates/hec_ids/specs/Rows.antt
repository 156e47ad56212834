-- What each call answers, and the table after it.
use Rattle.std.specs.Prelude.{◌≡◌, ℕ, ◌+◌, ◌*◌, ◌^◌, ◌==◌, ◌&&◌, Bool, true, false, not, List, [], ◌∷◌, ◌++◌, map, filter, nat_le, if◌then◌else◌, Option, None, Some, Result, Ok, Err}
use Rattle.std.specs.List.{list_any}
use Rattle.hec_ids.specs.declared.fault.IssueFault.{IssueFault}
use Rattle.hec_ids.specs.declared.fault.IssueFault.TheVariants.{NoMore, Busy, NoMemory}
use Rattle.hec_ids.specs.Table.{Held, Table, is_of, holds, holds_settled, holds_unsettled, count_of, channel_count}

-- a table that holds no id, and whose next one is the run's at this place
abbrev pub opened : ℕ → ℕ → Table
opened run first = record { run = run; next = run * 2 ^ 32 + first; held = [] }

-- The channel holds 10,000 ids, or it holds none and 1,000 channels hold some. No table holds more.
abbrev pub busy : ℕ → List Held → Option IssueFault
busy channel held =
    if nat_le 10000 (count_of channel held) then Some (Busy 10000)
    else (if (count_of channel held == 0) && nat_le 1000 (channel_count held) then Some (Busy 1000) else None)

-- Why no id is issued to the channel, if so: first of all, the last id of the run was issued.
abbrev pub refusal : Table → ℕ → Option IssueFault
refusal t channel = if t.next == t.run * 2 ^ 32 + 2 ^ 32 then Some (NoMore t.run) else busy channel t.held

-- an id that is issued and not settled
abbrev pub unsettled : ℕ → ℕ → Held
unsettled channel id = record { channel = channel; id = id; settled = false }

-- the channel holds the next id
abbrev pub issued : Table → ℕ → Table
issued t channel = record { run = t.run; next = t.next + 1; held = t.held ++ unsettled channel t.next ∷ [] }

-- the error is the refusal, or want of memory where nothing refuses
abbrev pub IsToldFor : Option IssueFault → IssueFault → Type 0
IsToldFor why (NoMore run) = why ≡ Some (NoMore run)
IsToldFor why (Busy held) = why ≡ Some (Busy held)
IsToldFor why NoMemory = why ≡ None

-- `issue`: the next id is the channel's, unsettled, where nothing refuses it. After an error nothing changes.
abbrev pub Issues : Table → ℕ → Result ℕ IssueFault → Table → Type 0
Issues t channel (Ok id) after = (refusal t channel ≡ None) × (id ≡ t.next) × (after ≡ issued t channel)
Issues t channel (Err fault) after = IsToldFor (refusal t channel) fault × (after ≡ t)

-- the table with these ids held
abbrev pub holding : Table → List Held → Table
holding t held = record { run = t.run; next = t.next; held = held }

-- the id, settled where it is the channel's
abbrev pub settled_at : ℕ → ℕ → Held → Held
settled_at channel id h = if is_of channel id h then record { channel = h.channel; id = h.id; settled = true } else h

-- `settle`: whether the channel held the id unsettled. It is settled then.
abbrev pub Settles : Table → ℕ → ℕ → Bool → Table → Type 0
Settles t channel id answer after = (answer ≡ holds_unsettled channel id t.held) × (after ≡ holding t (map (λ h. settled_at channel id h) t.held))

-- `forget`: whether the channel held the id. It is gone then.
abbrev pub Forgets : Table → ℕ → ℕ → Bool → Table → Type 0
Forgets t channel id answer after = (answer ≡ holds channel id t.held) × (after ≡ holding t (filter (λ h. not (is_of channel id h)) t.held))

-- whether this is one of the ids, held settled by the channel
abbrev pub is_told : ℕ → List ℕ → Held → Bool
is_told channel ids h = h.settled && list_any (λ id. is_of channel id h) ids

-- `ask`: of each id, whether the channel holds it settled. Those that it does are gone then.
abbrev pub Asks : Table → ℕ → List ℕ → List Bool → Table → Type 0
Asks t channel ids known after = (known ≡ map (λ id. holds_settled channel id t.held) ids) × (after ≡ holding t (filter (λ h. not (is_told channel ids h)) t.held))
