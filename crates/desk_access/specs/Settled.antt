-- Where ids are settled, by what was taken before.
use Rattle.std.specs.Prelude.{List, [], ◌∷◌, ◌++◌}
use Rattle.desk_access.specs.Call.{Call, settles, Record, own_of}
use Rattle.desk_access.specs.Legal.{IsStored}

-- after these calls the call may come: if it settles an id, one of them is a take of entries of the id that was answered Ok
abbrev pub SettlesStored : List Call → Call → Type 0
SettlesStored own (settles channel id answer) = IsStored own id
SettlesStored own _ = Unit {0}

-- so may each of a caller's calls, after these
abbrev pub AllSettleStored : List Call → List Call → Type 0
AllSettleStored own [] = Unit {0}
AllSettleStored own (call ∷ calls) = SettlesStored own call × AllSettleStored (own ++ call ∷ []) calls

-- and each of a journal's records, after these, by what its caller took
abbrev pub EachSettlesStored : List Record → List Record → Type 0
EachSettlesStored before [] = Unit {0}
EachSettlesStored before (one ∷ records) = SettlesStored (own_of one.by before) one.call × EachSettlesStored (before ++ one ∷ []) records
