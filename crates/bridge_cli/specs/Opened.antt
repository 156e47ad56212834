-- What was done over files, which were opened as the words want them.
use Rattle.std.specs.Prelude.{◌≡◌, ◌↔◌, ℕ, List}
use Rattle.edge_file.specs.declared.open_fault.Sharing.TheVariants.{Shared}
use Rattle.notes.specs.declared.note.Note.{Note}
use Rattle.bridge_words.specs.declared.need.Need.TheVariants as need
use Rattle.bridge_words.specs.Words.{IsMove, IsNeed}
use Rattle.bridge_core.specs.declared.ended.Ended.{Ended}
use Rattle.bridge_core.specs.Told.{Telling}
use Rattle.cli_parts.specs.Opening.{AreList}
use Rattle.cli_files.specs.declared.files.How.{How}
use Rattle.cli_files.specs.declared.files.How.TheVariants.{Existing, Made, ToRead}
use Rattle.cli_files.specs.Opened.{OverFiles}
use Rattle.bridge_cli.specs.Watched.{KeepsWatched}

-- The words want FILE so: one that is made of that length where it isn't there, or one that exists, which is shared where they list its
-- entries, and by no others.
abbrev pub WantsFile : List (List ℕ) → How → Type 0
WantsFile words (Made len) = IsNeed words (need.Make len)
WantsFile words (Existing sharing) = IsNeed words need.Existing × ((sharing ≡ Shared) ↔ AreList words)
WantsFile words ToRead = ⊥

-- So it was over FILE and the target that the words of a move name.
abbrev pub OverTarget : {D : Type 0} → (List ℕ → How → D → Type 0) → List ℕ → List (List ℕ) → (D × D → D × D → Type 0) → Type 0
OverTarget Opened file words Done =
    (target : List ℕ) × (tag : ℕ) × IsMove target tag words × OverFiles (Opened file) (Opened target) Done

-- The words were done over FILE, which was opened as they want it: the promises are kept of it.
pub record OverOpened {D S K N P : Type 0} (tell : Telling D S K N P) (Opened : How → D → Type 0) (words : List (List ℕ)) (given made : S × K × N)
    (note : Note) : Type 0 where
  pub how : How
  pub wanted : WantsFile words how
  pub disk : D
  pub opened : Opened how disk
  pub ended : Ended D P
  pub note_is : ended.note ≡ note
  pub kept : KeepsWatched tell words (disk, given.0, given.1, given.2) made ended
