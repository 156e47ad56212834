-- What those are told who ask for numbers.
use Rattle.std.specs.Prelude.{ℕ, List, Bool, true, false, ◌+◌, ◌-◌, ◌*◌, ◌^◌, ◌∷◌, [], min, codes}
use Rattle.edge_io.specs.declared.monitor.SpoolNumbers.{SpoolNumbers}

-- how many entries are not confirmed
abbrev pub pending_of : SpoolNumbers → ℕ
pending_of n = n.end - n.cursor - n.known_count

-- how many bytes of events there is room for; the number stands still at the end of its range
abbrev pub room_of : SpoolNumbers → ℕ
room_of n = min (n.room + n.free_slots * n.most) (2 ^ 64 - 1)

-- how many runs there can be after this one
abbrev pub runs_left : SpoolNumbers → ℕ
runs_left n = 2097151 - n.run

-- 1 for yes, 0 for no
abbrev pub flag : Bool → ℕ
flag true = 1
flag false = 0

-- the values of the spool's metrics, in the order of the page
abbrev pub spool_values : SpoolNumbers → Bool → List ℕ
spool_values n is_full =
    n.end ∷ n.cursor ∷ n.known_count ∷ pending_of n ∷ room_of n ∷ n.slots ∷ n.free_slots ∷ n.most ∷ flag is_full ∷ n.run ∷ runs_left n ∷ []

-- the status of an answer about the health: 200 where no call of FILE fails and there is room
abbrev pub health_status : Bool → Bool → List ℕ
health_status false false = codes "200 OK"
health_status disk_fails is_full = codes "503 Service Unavailable"

-- its line, by whether calls of FILE fail and whether FILE is full
abbrev pub health_line : Bool → Bool → List ℕ
health_line true is_full = codes "a call on FILE failed\n"
health_line false true = codes "FILE has no room\n"
health_line false false = codes "ok\n"
