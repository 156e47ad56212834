-- A link in memory.
use Rattle.std.specs.Prelude.{◌≡◌, ℕ, ◌==◌, ◌&&◌, Bool, List, [], Option, length}
use Rattle.std.specs.Option.{option_map}
use Rattle.std.specs.String.{string_bytes}
use Rattle.edge_io.specs.MemSource.{given_of, left_of}
use Rattle.edge_io.specs.MemSource.{faults_of as read_faults_of}
use Rattle.edge_io.specs.MemSink.{taken_of}
use Rattle.edge_io.specs.MemSink.{faults_of as write_faults_of}
use Rattle.edge_io.specs.declared.mem_source.MemSource.{MemSource}
use Rattle.edge_io.specs.declared.mem_sink.MemSink.{MemSink}
use Rattle.edge_io.specs.declared.mem_link.MemLink.{MemLink}
use Rattle.edge_io.specs.declared.mem_link.Used.{Used}

-- the place at which it was dialed, or none
abbrev pub place_of : MemLink → Option (List ℕ)
place_of link = option_map string_bytes link.place

-- what it reads from
abbrev pub source_of : MemLink → MemSource
source_of link = link.source

-- what it writes to
abbrev pub sink_of : MemLink → MemSink
sink_of link = link.sink

-- how many bytes of memory its connection claimed last, and at most
abbrev pub claimed_of : MemLink → ℕ
claimed_of link = link.claimed

abbrev pub most_claimed_of : MemLink → ℕ
most_claimed_of link = link.most_claimed

-- nothing was read from it or written to it
pub record IsUnused (link : MemLink) : Type 0 where
  pub given : given_of (source_of link) ≡ []
  pub taken : taken_of (sink_of link) ≡ []

-- the same as a test
abbrev pub is_unused : MemLink → Bool
is_unused link = (length (given_of (source_of link)) == 0) && (length (taken_of (sink_of link)) == 0)

-- what became of the link
pub record IsUsed (link : MemLink) (used : Used) : Type 0 where
  pub place : option_map string_bytes used.place ≡ place_of link
  pub read : used.read.items ≡ given_of (source_of link)
  pub written : used.written.items ≡ taken_of (sink_of link)
  pub left : used.left ≡ length (left_of (source_of link))
  pub read_faults : used.read_faults ≡ read_faults_of (source_of link)
  pub write_faults : used.write_faults ≡ write_faults_of (sink_of link)
