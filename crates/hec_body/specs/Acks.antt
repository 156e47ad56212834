-- Ack queries and their answers: "HTTP Event Collector indexer acknowledgment".
use Rattle.std.specs.Prelude.{◌≡◌, ℕ, ◌≤◌, ◌==◌, Bool, not, IsUtf8, if◌then◌else◌, List, [], ◌∷◌, ◌++◌, length, map, filter, codes, Some}
use Rattle.std.specs.List.{join_with_byte, zip}
use Rattle.std.specs.Fmt.{decimal}
use Rattle.serde_json.specs.Data.{Data, number, unsigned, array, Items, no_items, item}
use Rattle.serde_json.specs.Read.{read}
use Rattle.serde_json.specs.Find.{get}

-- an array of these numbers; one that `serde_json` reads as unsigned is a whole number from 0 to 2^64 - 1
abbrev pub numbers : List ℕ → Items
numbers [] = no_items
numbers (n ∷ ns) = item (number (unsigned n)) (numbers ns)

-- The body is an object as `serde_json` reads it: its member `acks`, the last of that name, is an array of
-- these numbers, of which there are at most 10,000.
pub record IsQuery (body : List ℕ) (asked : List ℕ) : Type 0 where
  pub value : Data
  pub utf8 : IsUtf8 body
  pub value_is : read body ≡ Some value
  pub acks : get (codes "acks") value ≡ Some (array (numbers asked))
  pub few : length asked ≤ 10000

-- each number where it stands first
abbrev pub distinct : List ℕ → List ℕ
distinct [] = []
distinct (n ∷ ns) = n ∷ filter (λ m. not (m == n)) (distinct ns)

-- the body asks for these ids
abbrev pub AsksFor : List ℕ → List ℕ → Type 0
AsksFor body ids = (asked : List ℕ) × IsQuery body asked × (ids ≡ distinct asked)

-- One body asks for one list of ids.
abbrev pub OneQuery : Type 0
OneQuery = (body ids others : List ℕ) → AsksFor body ids → AsksFor body others → ids ≡ others

-- "N":true or "N":false
abbrev pub ack_member : ℕ × Bool → List ℕ
ack_member ack = codes "\"" ++ (decimal ack.0 ++ (codes "\":" ++ (if ack.1 then codes "true" else codes "false")))

-- {"acks":{"N":true,"M":false}}: the members in the order of the ids, with commas (44) between
abbrev pub acks_object : List (ℕ × Bool) → List ℕ
acks_object acks = codes "{\"acks\":{" ++ (join_with_byte 44 (map ack_member acks) ++ codes "}}")

-- the answer for these ids
abbrev pub answer_of : List ℕ → List Bool → List ℕ
answer_of ids known = acks_object (zip ids known)
