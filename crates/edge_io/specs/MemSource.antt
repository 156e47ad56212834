-- A source in memory.
use Rattle.std.specs.Prelude.{◌≡◌, ◌↔◌, ℕ, min, List, take, drop, length, Result, IsErr, IfOk, OnErr}
use Rattle.edge_io.specs.Counts.{CountsFault}
use Rattle.edge_io.specs.Script.{IsFailing, Advances}
use Rattle.edge_io.specs.declared.script.Script.{Script}
use Rattle.edge_io.specs.declared.source.ReadFault.{ReadFault}
use Rattle.edge_io.specs.declared.mem_source.MemSource.{MemSource}

-- the bytes that it has given
abbrev pub given_of : MemSource → List ℕ
given_of source = take source.at source.bytes.items

-- the bytes that are left
abbrev pub left_of : MemSource → List ℕ
left_of source = drop source.at source.bytes.items

-- how many reads have failed
abbrev pub faults_of : MemSource → ℕ
faults_of source = source.faults

-- how many bytes a read gives at most
abbrev pub step_of : MemSource → ℕ
step_of source = source.step

-- which reads fail
abbrev pub script_of : MemSource → Script
script_of source = source.script

-- What a read answers and does, beside the bytes that it moves: it fails exactly where it is to fail.
pub record ReadsExactly (old new : MemSource) (buf buf' : List ℕ) (result : Result ℕ ReadFault) : Type 0 where
  pub fails : IsErr result ↔ IsFailing (script_of old)
  pub gives : IfOk result (λ n. n ≡ min (step_of old) (min (length buf) (length (left_of old))))
  pub rest : IfOk result (λ n. drop n buf' ≡ drop n buf)
  pub untouched : OnErr result (buf' ≡ buf)
  pub counts : CountsFault (faults_of old) (faults_of new) result
  pub advances : Advances (script_of old) (script_of new)
  pub same_step : step_of new ≡ step_of old
