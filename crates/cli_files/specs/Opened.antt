-- What was done over files, which were opened for it.
use Rattle.std.specs.Prelude.{◌≡◌, ◌⊎◌}
use Rattle.edge_file.specs.declared.open_fault.Sharing.TheVariants.{Exclusive}
use Rattle.notes.specs.declared.note.Note.{Note}
use Rattle.notes.specs.declared.note.Note.TheVariants.{DiskFault, NoMemory}
use Rattle.cli_files.specs.declared.files.How.{How}
use Rattle.cli_files.specs.declared.files.How.TheVariants.{Existing, ToRead}

-- No file was opened: the system refused it, or no memory was found for reading the words. All else is as it was.
abbrev pub IsUnopened : Note → Type 0 → Type 0
IsUnopened note same = (note ≡ DiskFault ⊎ note ≡ NoMemory) × same

-- It was done over the file that was opened so.
abbrev pub OverFile : {D : Type 0} → (How → D → Type 0) → How → (D → D → Type 0) → Type 0
OverFile {D} Opened how Done = (disk after : D) × Opened how disk × Done disk after

-- It was done over both files, each of which the program had alone.
abbrev pub OverFiles : {D : Type 0} → (How → D → Type 0) → (How → D → Type 0) → (D × D → D × D → Type 0) → Type 0
OverFiles {D} Opened Opened' Done =
    (source target source_after target_after : D) × Opened (Existing Exclusive) source × Opened' (Existing Exclusive) target
    × Done (source, target) (source_after, target_after)

-- It was done over two files, the first opened to be read alone, and the other one had by the program alone.
abbrev pub OverBoth : {D : Type 0} → (How → D → Type 0) → (How → D → Type 0) → (D × D → D × D → Type 0) → Type 0
OverBoth {D} Opened Opened' Done =
    (disk target disk_after target_after : D) × Opened ToRead disk × Opened' (Existing Exclusive) target × Done (disk, target) (disk_after, target_after)
