-- What the disk, the input, the output and the net of a run tell, before it and after it.
use Rattle.std.specs.Prelude.{◌≡◌, ℕ, List, Option}
use Rattle.edge_disk.specs.Disk.{Moment}
use Rattle.edge_io.specs.Door.{DoorState}
use Rattle.edge_io.specs.Net.{NetState}

-- A disk: whether it tells what it reads, and what it tells before and after. `same`: it is the very one that was given.
pub record DiskRun : Type 1 where
  pub tells : Type 0
  pub old : Moment
  pub new : Moment
  pub same : Type 0

-- An input: the bytes that it gave and those that are left in it, where it tells them, and how many of its reads failed.
pub record InputRun : Type 1 where
  pub given : Option (List ℕ)
  pub given_after : Option (List ℕ)
  pub left : Option (List ℕ)
  pub left_after : Option (List ℕ)
  pub faults : ℕ
  pub faults_after : ℕ
  pub same : Type 0

-- An output: the bytes that it took, where it tells them, and how many of its writes failed.
pub record OutputRun : Type 1 where
  pub taken : Option (List ℕ)
  pub taken_after : Option (List ℕ)
  pub faults : ℕ
  pub faults_after : ℕ
  pub same : Type 0

-- A net: the links that it hung up, with the counts of their faults, and its count of binds and dials that failed.
pub record NetRun : Type 1 where
  pub old : NetState
  pub new : NetState
  pub same : Type 0

-- A link: the bytes that it gave, those that are left in it, and those that it took, where it tells them.
pub record LinkRun : Type 0 where
  pub given : Option (List ℕ)
  pub given_after : Option (List ℕ)
  pub left : Option (List ℕ)
  pub left_after : Option (List ℕ)
  pub taken : Option (List ℕ)
  pub taken_after : Option (List ℕ)

-- All of a run. Of the doors that were bound in it there is no before.
pub record Run : Type 1 where
  pub disk : DiskRun
  pub input : InputRun
  pub output : OutputRun
  pub net : NetRun
  pub doors : List DoorState

-- ---- by what their traits tell

abbrev pub disk_run : {D : Type 0} (tells : Type 0) (moment : D → Moment) (old new : D) → DiskRun
disk_run tells moment old new = record { tells = tells; old = moment old; new = moment new; same = new ≡ old }

abbrev pub input_run : {S : Type 0} (given left : S → Option (List ℕ)) (faults : S → ℕ) (old new : S) → InputRun
input_run given left faults old new = record {
  given = given old;
  given_after = given new;
  left = left old;
  left_after = left new;
  faults = faults old;
  faults_after = faults new;
  same = new ≡ old;
}

abbrev pub output_run : {K : Type 0} (taken : K → Option (List ℕ)) (faults : K → ℕ) (old new : K) → OutputRun
output_run taken faults old new = record {
  taken = taken old;
  taken_after = taken new;
  faults = faults old;
  faults_after = faults new;
  same = new ≡ old;
}

abbrev pub net_run : {N : Type 0} (told : N → NetState) (old new : N) → NetRun
net_run told old new = record { old = told old; new = told new; same = new ≡ old }

abbrev pub link_run : {L : Type 0} (given left taken : L → Option (List ℕ)) (old new : L) → LinkRun
link_run given left taken old new = record {
  given = given old;
  given_after = given new;
  left = left old;
  left_after = left new;
  taken = taken old;
  taken_after = taken new;
}

abbrev pub run_of : DiskRun → InputRun → OutputRun → NetRun → List DoorState → Run
run_of disk input output net doors = record { disk = disk; input = input; output = output; net = net; doors = doors }

-- the link that an input and an output make
abbrev pub both_run : InputRun → OutputRun → LinkRun
both_run input output = record {
  given = input.given;
  given_after = input.given_after;
  left = input.left;
  left_after = input.left_after;
  taken = output.taken;
  taken_after = output.taken_after;
}

-- ---- what was left alone

-- no call of the disk was made
pub record IsUnused (disk : DiskRun) : Type 0 where
  pub same : disk.same
  pub size : disk.new.size ≡ disk.old.size
  pub faults : disk.new.faults ≡ disk.old.faults

-- nothing was read from the input
pub record IsUngiven (input : InputRun) : Type 0 where
  pub same : input.same
  pub given : input.given_after ≡ input.given
  pub left : input.left_after ≡ input.left
  pub faults : input.faults_after ≡ input.faults

-- nothing was written to the output
pub record IsSilent (output : OutputRun) : Type 0 where
  pub same : output.same
  pub taken : output.taken_after ≡ output.taken
  pub faults : output.faults_after ≡ output.faults

-- no place was bound or dialed
pub record IsOffline (net : NetRun) : Type 0 where
  pub same : net.same
  pub told : net.new ≡ net.old
