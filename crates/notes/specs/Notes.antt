-- Why a run ended, its exit status, and the text that is printed.
use Rattle.std.specs.Prelude.{ℕ, List, [], ◌++◌, codes}
use Rattle.std.specs.Fmt.{decimal}
use Rattle.event_form.specs.declared.talk.Talk.{Talk}
use Rattle.event_form.specs.declared.talk.Why.{Why}
use Rattle.notes.specs.declared.note.Note.{Note}
use Rattle.notes.specs.declared.note.Note.TheVariants.{Fine, Usage, NotSpool, WrongLength, Fault, Full, TooLarge, Busy, Refused, PeerClosed, Unconfirmed, NoMemory, ReadFault, WriteFault, DiskFault, NetFault, Truncated, RunsSpent, Spent, Worn, NoMore, TooMuch, Strange}

abbrev pub status_of : Note → ℕ
status_of Fine = 0
status_of Usage = 64
status_of (NotSpool at) = 65
status_of (WrongLength have want) = 65
status_of (Fault at why) = 66
status_of (Full need room) = 67
status_of (TooLarge need most) = 67
status_of (Busy held) = 67
status_of (Refused unit code) = 68
status_of PeerClosed = 68
status_of (Unconfirmed asked) = 69
status_of NoMemory = 70
status_of ReadFault = 71
status_of WriteFault = 72
status_of DiskFault = 73
status_of NetFault = 74
status_of (Truncated at) = 75
status_of (RunsSpent run) = 76
status_of (Spent end) = 77
status_of (Worn ordinal) = 77
status_of (NoMore run) = 77
status_of (TooMuch at) = 77
status_of (Strange number) = 79

abbrev pub why_word : Why → List ℕ
why_word Why.Digits = codes "digits"
why_word Why.Space = codes "space"
why_word Why.Command = codes "command"
why_word Why.TooLong = codes "too long"
why_word Why.Trailer = codes "trailer"
why_word Why.Version = codes "version"
why_word Why.Kind = codes "type"
why_word Why.Compressed = codes "compressed"
why_word Why.AckFromWriter = codes "ack from writer"
why_word Why.TooMany = codes "too many"
why_word Why.BadHead = codes "bad head"
why_word Why.BadLength = codes "bad length"
why_word Why.BadChunk = codes "bad chunk"
why_word Why.Reply = codes "bad reply"

-- the text has no end of line, and numbers are decimal
abbrev pub text_of : Note → List ℕ
text_of Fine = []
text_of Usage = codes "usage: bridge FILE format|replay|list|drain|serve|load|move"
text_of (NotSpool at) = codes "not a spool at " ++ decimal at
text_of (WrongLength have want) = codes "device has " ++ (decimal have ++ (codes " bytes, " ++ (decimal want ++ codes " wanted")))
text_of (Fault at why) = codes "fault at " ++ (decimal at ++ (codes ": " ++ why_word why))
text_of (Full need room) = codes "spool full: " ++ (decimal need ++ (codes " needed, " ++ (decimal room ++ codes " free")))
text_of (TooLarge need most) = codes "group too large: " ++ (decimal need ++ (codes " needed, " ++ (decimal most ++ codes " at most")))
text_of (Busy held) = codes "id table full: " ++ (decimal held ++ codes " held")
text_of (Refused unit code) = codes "peer refused " ++ (decimal unit ++ (codes " with " ++ decimal code))
text_of PeerClosed = codes "peer closed"
text_of (Unconfirmed asked) = codes "unconfirmed " ++ decimal asked
text_of NoMemory = codes "no memory"
text_of ReadFault = codes "read fault"
text_of WriteFault = codes "write fault"
text_of DiskFault = codes "disk fault"
text_of NetFault = codes "net fault"
text_of (Truncated at) = codes "input ended in a frame at " ++ decimal at
text_of (RunsSpent run) = codes "run " ++ (decimal run ++ codes " was the last")
text_of (Spent end) = codes "history spent at " ++ decimal end
text_of (Worn ordinal) = codes "register spent at " ++ decimal ordinal
text_of (NoMore run) = codes "ids of run " ++ (decimal run ++ codes " spent")
text_of (TooMuch at) = codes "connection spent at " ++ decimal at
text_of (Strange number) = codes "entry " ++ (decimal number ++ codes " is another")

-- what is told of a connection that ended so
abbrev pub note_of_talk : Talk → Note
note_of_talk Talk.Ended = Fine
note_of_talk Talk.Closed = Fine
note_of_talk (Talk.Fault at why) = Fault at why
note_of_talk (Talk.Truncated at) = Truncated at
note_of_talk (Talk.Full need room) = Full need room
note_of_talk (Talk.TooLarge need most) = TooLarge need most
note_of_talk (Talk.Busy held) = Busy held
note_of_talk (Talk.Spent end) = Spent end
note_of_talk (Talk.NoMore run) = NoMore run
note_of_talk (Talk.TooMuch at) = TooMuch at
note_of_talk Talk.ReadFault = ReadFault
note_of_talk Talk.WriteFault = WriteFault
note_of_talk Talk.DiskFault = DiskFault
note_of_talk (Talk.NotSpool at) = NotSpool at
note_of_talk Talk.NoMemory = NoMemory
