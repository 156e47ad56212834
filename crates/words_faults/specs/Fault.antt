-- The text for what is wrong with words.
use Rattle.std.specs.Prelude.{ℕ, List, codes}
use Rattle.words_faults.specs.declared.fault.WordsFault.{WordsFault}
use Rattle.words_faults.specs.declared.fault.WordsFault.TheVariants as fault

-- the text has no end of line
abbrev pub fault_text : WordsFault → List ℕ
fault_text fault.NoCommand = codes "no command is named"
fault_text fault.UnknownWord = codes "unknown word or option"
fault_text fault.MissingWord = codes "a word is missing"
fault_text fault.MissingValue = codes "an option has no value"
fault_text fault.ExtraValue = codes "an option takes no value"
fault_text fault.GivenTwice = codes "an option is given twice"
fault_text fault.Slots = codes "SLOTS: 1 to 1024"
fault_text fault.Size = codes "SIZE: 4096 to 1073741824"
fault_text fault.Proto = codes "PROTO: relp, lumberjack or hec"
fault_text fault.Place = codes "PLACE: empty"
fault_text fault.Number = codes "NUMBER: 0 to 2147483647"
fault_text fault.Count = codes "COUNT: 0 to 100000"
fault_text fault.Tag = codes "TAG: 0 to 4294967295"
fault_text fault.Form = codes "--as: relp, json or hec"
fault_text fault.Token = codes "--token: no GUID"
fault_text fault.AckToken = codes "--ack-token: no GUID"
fault_text fault.Tokens = codes "--tokens: 1 to 1000 lines, each a GUID or a GUID and ack"
fault_text fault.BothTokens = codes "--tokens: not beside --token or --ack-token"
fault_text fault.OutToken = codes "--out-token: no GUID"
fault_text fault.OutChannel = codes "--out-channel: no GUID"
fault_text fault.Polls = codes "--polls: 1 to 1000"
fault_text fault.NoOutToken = codes "hec: --out-token is needed"
fault_text fault.NoOutChannel = codes "hec: --out-channel is needed"
fault_text fault.Workers = codes "--workers: 1 to 16"
fault_text fault.Connections = codes "--connections: 1 to 1024"
fault_text fault.BothCounts = codes "--connections: not beside --workers"
fault_text fault.Talks = codes "--talks: 1 to 67108864"
fault_text fault.TalksOfConnections = codes "--talks: 1 to 1048576 with --connections"
fault_text fault.NoDoor = codes "serve: --relp, --lumberjack or --hec is needed"
fault_text fault.NoTo = codes "--forward: --to is needed"
fault_text fault.NoForward = codes "--to: --forward is needed"
