-- What is written to a receiver of Lumberjack, by the entries alone.
use Rattle.std.specs.Prelude.{◌≡◌, ◌⊎◌, ℕ, zero, suc, ◌+◌, ◌/◌, ◌<◌, ◌≤◌, List, [], ◌∷◌, ◌++◌, length, take, drop}
use Rattle.event_form.specs.declared.event.Entry.{Entry}
use Rattle.event_map.proofs.Functions.{json_object_of}
use Rattle.lumber_frame.specs.Spelling.{window_text, json_text}
use Rattle.lumber_sender.specs.declared.limits.TheConstants.{WINDOW}

-- the data frames of these entries, with sequence numbers from this one on, each with its entry's JSON object, which is the one
-- that event_map's relation allows
abbrev pub frames_text : ℕ → List Entry → List ℕ
frames_text seq [] = []
frames_text seq (e ∷ es) = json_text seq (json_object_of e.event) ++ frames_text (seq + 1) es

-- a window of these entries: its size, and their data frames, numbered from 1
abbrev pub batch_text : List Entry → List ℕ
batch_text batch = window_text (length batch) ++ frames_text 1 batch

-- the first n windows of a list: each has WINDOW entries, and the last what is left
abbrev pub windows_text : ℕ → List Entry → List ℕ
windows_text zero entries = []
windows_text (suc n) [] = []
windows_text (suc n) (e ∷ es) = batch_text (take WINDOW (e ∷ es)) ++ windows_text n (drop WINDOW (e ∷ es))

-- what is written of a window once n of its entries are: nothing, or the window's size and their data frames
abbrev pub part_text : List Entry → ℕ → List ℕ
part_text batch zero = []
part_text batch (suc n) = window_text (length batch) ++ frames_text 1 (take (suc n) batch)

-- A text of a window, with the data frames from the entry at one place up to that at another: before each of them but the first one
-- it has fewer than 65,536 bytes, and it ends with the window or has as many.
pub record IsPart (batch : List Entry) (from upto : ℕ) (text : List ℕ) : Type 0 where
  pub some : from < upto
  pub within : upto ≤ length batch
  pub is : part_text batch upto ≡ part_text batch from ++ text
  pub short : (k : ℕ) → from < k → k < upto → length (part_text batch k) < length (part_text batch from) + 65536
  pub full : (upto ≡ length batch) ⊎ (65536 ≤ length text)

-- what stands before the data frame of an entry: before the window's first one its size
abbrev pub text_before : ℕ → ℕ → List ℕ
text_before zero size = window_text size
text_before (suc place) size = []

-- a text has the window of the entry at this place: it begins with the windows up to and with that one
abbrev pub IsSent : List Entry → List ℕ → ℕ → Type 0
IsSent entries out place = (rest : List ℕ) × (out ≡ windows_text (place / WINDOW + 1) entries ++ rest)
