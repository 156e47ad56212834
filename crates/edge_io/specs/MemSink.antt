-- A sink in memory.
use Rattle.std.specs.Prelude.{◌≡◌, ◌⊎◌, ℕ, List, length, Result, IsErr, IfOk, OnOk}
use Rattle.edge_io.specs.Counts.{one_more, CountsFault}
use Rattle.edge_io.specs.Script.{IsFailing, Advances}
use Rattle.edge_io.specs.declared.script.Script.{Script}
use Rattle.edge_io.specs.declared.sink.WriteFault.{WriteFault}
use Rattle.edge_io.specs.declared.mem_sink.MemSink.{MemSink}

-- the bytes that it has taken
abbrev pub taken_of : MemSink → List ℕ
taken_of sink = sink.bytes.items

-- how many writes have failed
abbrev pub faults_of : MemSink → ℕ
faults_of sink = sink.faults

-- how many writes found no memory
abbrev pub starved_of : MemSink → ℕ
starved_of sink = sink.starved

-- which writes fail
abbrev pub script_of : MemSink → Script
script_of sink = sink.script

-- why a write was answered a fault: it was to fail, or it was to pass and found no memory
abbrev pub HasReason : MemSink → MemSink → Type 0
HasReason old new =
    (IsFailing (script_of old) × (starved_of new ≡ starved_of old))
    ⊎ ((¬ IsFailing (script_of old)) × (starved_of new ≡ one_more (starved_of old)))

-- What a write answers and does, beside the bytes that it moves: it fails only where it is to fail or finds no memory.
pub record WritesExactly (old new : MemSink) (piece : List ℕ) (result : Result ℕ WriteFault) : Type 0 where
  pub fails : IsFailing (script_of old) → IsErr result
  pub reason : IsErr result → HasReason old new
  pub whole : IfOk result (λ n. n ≡ length piece)
  pub not_starved : OnOk result (starved_of new ≡ starved_of old)
  pub counts : CountsFault (faults_of old) (faults_of new) result
  pub advances : Advances (script_of old) (script_of new)
