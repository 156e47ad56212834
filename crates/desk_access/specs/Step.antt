-- What is done for the frames of a connection: the calls on the desk, each with its answer, and the text written.
use Rattle.std.specs.Prelude.{ℕ, List, length, flat_map}
use Rattle.desk_access.specs.Call.{Call, taken_of}

-- what is done for some frames
pub record Step (F : Type 0) : Type 0 where
  pub frames : List F
  pub calls : List Call
  pub text : List ℕ

abbrev pub frames_of : {F : Type 0} → List (Step F) → List F
frames_of steps = flat_map (λ s. s.frames) steps

abbrev pub calls_of : {F : Type 0} → List (Step F) → List Call
calls_of steps = flat_map (λ s. s.calls) steps

abbrev pub text_of : {F : Type 0} → List (Step F) → List ℕ
text_of steps = flat_map (λ s. s.text) steps

-- how many entries these calls took
abbrev pub count : List Call → ℕ
count calls = length (taken_of calls)
