-- What is told of a call of `bridge`: by its disk, its input, its output, its net and its doors.
use Rattle.std.specs.Prelude.{List, map}
use Rattle.edge_disk.specs.Disk.{Moment}
use Rattle.edge_io.specs.Door.{DoorState}
use Rattle.bridge_parts.specs.Run.{DiskRun, InputRun, NetRun, OutputRun, Run, disk_run, run_of}

-- A kind of disk: whether it tells what it reads, and what it tells at a moment.
pub record DiskKind (D : Type 0) : Type 1 where
  pub tells : Type 0
  pub moment : D → Moment

abbrev pub disk_kind : {D : Type 0} (tells : Type 0) (moment : D → Moment) → DiskKind D
disk_kind tells moment = record { tells = tells; moment = moment }

-- what a disk of that kind tells of a call, before it and after it
abbrev pub disk_told : {D : Type 0} → DiskKind D → D → D → DiskRun
disk_told kind old new = disk_run kind.tells kind.moment old new

-- Of which kind the disk is; what an input, an output and a net tell of a call, each before it and after it, and a door after it.
pub record Telling (D S K N P : Type 0) : Type 1 where
  pub disk : DiskKind D
  pub input : S → S → InputRun
  pub output : K → K → OutputRun
  pub net : N → N → NetRun
  pub door : P → DoorState

abbrev pub telling : {D S K N P : Type 0} (disk : DiskKind D) (input : S → S → InputRun) (output : K → K → OutputRun) (net : N → N → NetRun)
    (door : P → DoorState) → Telling D S K N P
telling disk input output net door = record { disk = disk; input = input; output = output; net = net; door = door }

-- So it is of each call, whatever the disk, the input, the output and the net were before it and after it, and whatever doors were bound.
abbrev pub OfEachCall : {D S K N P : Type 0} → Telling D S K N P → (Run → Type 0) → Type 0
OfEachCall {D} {S} {K} {N} {P} tell Is =
    (old new : D) (input input' : S) (output output' : K) (net net' : N) (doors : List P)
    → Is (run_of (disk_told tell.disk old new) (tell.input input input') (tell.output output output') (tell.net net net')
    (map tell.door doors))
