-- What the disk, the input and the output of a command tell, by their traits: of each as the command was given it, and as it is then.
use Rattle.edge_disk.specs.declared.disk.Disk.{Ghosts as Disks}
use Rattle.edge_io.specs.declared.sink.Sink.{Ghosts as Sinks}
use Rattle.edge_io.specs.declared.source.Source.{Ghosts as Sources}
use Rattle.bridge_parts.specs.Run.{DiskRun, InputRun, LinkRun, OutputRun, both_run, disk_run, input_run, output_run}

abbrev pub disk_over : {D : Type 0} → Disks D → D → D → DiskRun
disk_over disks old new = disk_run disks.tells disks.moment old new

abbrev pub input_over : {S : Type 0} → Sources S → S → S → InputRun
input_over sources old new = input_run sources.given sources.left sources.read_faults old new

abbrev pub output_over : {K : Type 0} → Sinks K → K → K → OutputRun
output_over sinks old new = output_run sinks.taken sinks.write_faults old new

-- the link that an input and an output make
abbrev pub link_over : {S K : Type 0} → Sources S → Sinks K → S → S → K → K → LinkRun
link_over sources sinks input input' output output' = both_run (input_over sources input input') (output_over sinks output output')
