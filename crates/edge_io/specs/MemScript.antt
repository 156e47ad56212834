-- What a net in memory gives where it is dialed.
use Rattle.std.specs.Prelude.{◌≡◌, ℕ, ◌-◌, ◌^◌, Bool, List, [], Some}
use Rattle.std.specs.Str.{bytes_eq}
use Rattle.std.specs.String.{string_bytes}
use Rattle.edge_io.specs.Script.{call_number, failing_numbers}
use Rattle.edge_io.specs.MemLink.{place_of, source_of, sink_of}
use Rattle.edge_io.specs.MemSource.{given_of, left_of, step_of}
use Rattle.edge_io.specs.MemSource as source
use Rattle.edge_io.specs.MemSink.{taken_of}
use Rattle.edge_io.specs.MemSink as sink
use Rattle.edge_io.specs.declared.mem_link.MemLink.{MemLink}
use Rattle.edge_io.specs.declared.mem_script.MemScript.{MemScript}

-- the script is that of a place of that name
abbrev pub is_for : List ℕ → MemScript → Bool
is_for name script = bytes_eq (string_bytes script.place) name

-- A link with that script, dialed at a place of that name, of which nothing was read or written yet.
pub record IsOfScript (script : MemScript) (name : List ℕ) (link : MemLink) : Type 0 where
  pub place : place_of link ≡ Some name
  pub given : given_of (source_of link) ≡ []
  pub left : left_of (source_of link) ≡ script.bytes.items
  pub taken : taken_of (sink_of link) ≡ []
  pub step : step_of (source_of link) ≡ 2 ^ 64 - 1
  pub read_faults : source.faults_of (source_of link) ≡ 0
  pub write_faults : sink.faults_of (sink_of link) ≡ 0
  pub reads : failing_numbers (source.script_of (source_of link)) ≡ script.reads.items
  pub writes : failing_numbers (sink.script_of (sink_of link)) ≡ script.writes.items
  pub first_read : call_number (source.script_of (source_of link)) ≡ 0
  pub first_write : call_number (sink.script_of (sink_of link)) ≡ 0
