-- Entries of a source as they are moved into a target, and which of them it has.
use Rattle.std.specs.Prelude.{◌≡◌, ℕ, ◌+◌, ◌^◌, ◌==◌, ◌&&◌, not, Bool, List, map}
use Rattle.std.specs.List.{filter, list_any}
use Rattle.event_form.specs.declared.event.Entry.{Entry}
use Rattle.spool_state.specs.Left.{NumberedEntry}

-- the connection number of the entries that are moved with this tag
abbrev pub connection_of : ℕ → ℕ
connection_of tag = 2 ^ 63 + tag

-- An entry of the source, as it is moved with this tag.
abbrev pub moved : ℕ → NumberedEntry → Entry
moved tag one = record { conn = connection_of tag; index = one.number; unit = 0; event = one.entry.event }

abbrev pub all_moved : ℕ → List NumberedEntry → List Entry
all_moved tag entries = map (λ one. moved tag one) entries

-- whether one of these entries has this tag, and the number as its index
abbrev pub is_present : ℕ → List NumberedEntry → ℕ → Bool
is_present tag there number = list_any (λ one. one.entry.conn == connection_of tag && one.entry.index == number) there

-- those of the source's entries that aren't among these
abbrev pub missing : ℕ → List NumberedEntry → List NumberedEntry → List NumberedEntry
missing tag there entries = filter (λ one. not (is_present tag there one.number)) entries

-- The entry is a copy of this one of the source.
pub record IsCopy (tag : ℕ) (one : NumberedEntry) (e : Entry) : Type 0 where
  pub conn : e.conn ≡ connection_of tag
  pub index : e.index ≡ one.number
  pub event : e.event ≡ one.entry.event
