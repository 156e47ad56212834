-- What is said of a file that isn't opened.
use Rattle.std.specs.Prelude.{ℕ, List, codes}
use Rattle.edge_file.specs.declared.open_fault.OpenFault.{OpenFault}
use Rattle.edge_file.specs.declared.open_fault.OpenFault.TheVariants.{NotFound, NotAllowed, IsFolder, InUse, Mounted, Unclaimed, NoRoom, OverLimit, Unsynced, NoMemory, NoFile, Other}

-- the text has no end of line
abbrev pub open_text : OpenFault → List ℕ
open_text NotFound = codes "not found"
open_text NotAllowed = codes "not allowed"
open_text IsFolder = codes "a folder"
open_text InUse = codes "in use"
open_text Mounted = codes "its file system is mounted"
open_text Unclaimed = codes "/sys/dev/block doesn't show it, so that others can't be kept off it"
open_text NoRoom = codes "no room on its file system"
open_text OverLimit = codes "no room: longer than this program may write (ulimit -f, LimitFSIZE=)"
open_text Unsynced = codes "a sync failed"
open_text NoMemory = codes "no memory"
open_text NoFile = codes "neither a file nor a block device"
open_text Other = codes "can't be opened"
