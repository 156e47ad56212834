-- THE TEXT of a list of entries, by what the peer's frames have brought: nothing for no entry; else the
-- frame that opens the session, once it is answered the frames of as many entries as may be written, and
-- once all are acknowledged the frame that closes it, where no more entries come.
use Rattle.std.specs.Prelude.{◌≡◌, ℕ, ◌+◌, Bool, ◌==◌, ◌&&◌, if◌then◌else◌, List, [], ◌∷◌, ◌++◌, length, take}
use Rattle.event_form.specs.declared.event.Entry.{Entry}
use Rattle.relp_sender.specs.Texts.{open_text, close_text, frames_text}
use Rattle.relp_sender.specs.Marks.{count_known, allowed}
use Rattle.relp_sender.specs.Progress.{Progress, Unopened, Opened}

-- the frame that closes the session, once it may be written: no more entries come, and all n are acknowledged
abbrev pub closing_text : ℕ → List Bool → Bool → List ℕ
closing_text n marks over = if over && (count_known marks == n) then close_text n else []

-- the text where there is an entry
abbrev pub text_by : Progress → List Entry → Bool → List ℕ
text_by Unopened entries over = open_text
text_by (Opened marks) entries over = open_text ++ (frames_text 0 (take (allowed (length entries) marks) entries) ++ closing_text (length entries) marks over)

abbrev pub session_text : List Entry → Progress → Bool → List ℕ
session_text [] p over = []
session_text (e ∷ es) p over = text_by p (e ∷ es) over

-- A text has the frame of the entry at this place: after the frame that opens the session it begins with those of all entries
-- up to and with that one.
abbrev pub IsSent : List Entry → List ℕ → ℕ → Type 0
IsSent entries out place = (rest : List ℕ) × (out ≡ open_text ++ (frames_text 0 (take (place + 1) entries) ++ rest))
