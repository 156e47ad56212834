-- A device opened.
use Rattle.std.proofs.Common.{false, ◌≡◌, ◌⊎◌, inl, inr, ℕ, ◌+◌, ◌^◌, List, refl, sym, ◌∙◌, ap, subst, arith}
use Rattle.spool_state.specs.SpoolState.{SpoolState, numbers_of, Follows}
use Rattle.spool_state.specs.Image.{StandsFor}
use Rattle.spool_state.proofs.Following.{follows_self, follows_registered}
use Rattle.spool_state.proofs.Laws.{one_state, stands_unbroken}
use Rattle.edge_disk.specs.Disk.{Moment, IsLawful, IsSettled, IsUntouched, LeavesOnly}
use Rattle.edge_disk.proofs.Moments.{untouched_run, both}
use Rattle.disk_cell.specs.Fault.{IsWornAt}
use Rattle.disk_cell.specs.declared.fault.SetFault.{SetFault}
use Rattle.disk_cell.specs.declared.fault.SetFault.TheVariants as Set
use Rattle.spool_log.specs.declared.fault.RecoverFault.{RecoverFault}
use Rattle.spool_log.specs.declared.fault.RecoverFault.TheVariants as Recover
use Rattle.spool_log.specs.declared.opening.Opening.{Opening}
use Rattle.spool_log.specs.declared.opening.Opening.TheVariants.{Keep, Raise}
use Rattle.spool_log.specs.declared.memory.Memory.{Memory}
use Rattle.spool_faults.specs.declared.fault.PendFault.{PendFault}
use Rattle.spool_faults.specs.declared.fault.PendFault.TheVariants.{NotSpool, DiskFault, NoMemory}
use Rattle.spool_log.specs.Reading.{IsReadFault, KnowsState}
use Rattle.spool_log.specs.Fault.{as_recover, of_set}
use Rattle.spool_log.specs.Knows.{Knows, IsStored}
use Rattle.known_numbers.specs.Numbers.{Numbers}
use Rattle.spool_state.specs.Change.{registered}
use Rattle.disk_cell.specs.declared.content.Content.{Content}
use Rattle.spool_log.specs.Device.{numbers_in, MayFollow}
use Rattle.spool_log.specs.Memory.{cursor_of, end_of}
use Rattle.spool_answers.specs.Stages.{StandsForOne}
use Rattle.spool_log.specs.State.{view}
use Rattle.spool_log.specs.Opening.{raise_stages, opened, CanOpen, Refuses, IsRefusedAs, IsOpening, IsRefusing, Opens}
use Rattle.spool_log.proofs.Stored.{in_stored}

-- what a crash could leave before
opening_image : (opening : Opening) (m : Moment) (c : List ℕ) → m.image c → IsOpening opening m c
opening_image Keep m c image = image
opening_image Raise m c image = inl image

refusing_image : (opening : Opening) (fault : RecoverFault) (m : Moment) (c : List ℕ) → m.image c → IsRefusing opening fault m c
refusing_image opening (Recover.NotSpool at) m c image = image
refusing_image opening (Recover.RunsSpent run) m c image = image
refusing_image opening (Recover.Worn ordinal) m c image = image
refusing_image opening Recover.DiskFault m c image = opening_image opening m c image
refusing_image opening Recover.NoMemory m c image = image

-- a device that is read
pub open_read : (opening : Opening) (m new : Moment) → IsLawful m → IsUntouched m new → LeavesOnly (IsOpening opening m) m new
open_read opening m new lawful call = untouched_run (IsOpening opening m) m new lawful (opening_image opening m) call

pub refused_read : (opening : Opening) (fault : RecoverFault) (m new : Moment) → IsLawful m → IsUntouched m new → LeavesOnly (IsRefusing opening fault m) m new
refused_read opening fault m new lawful call = untouched_run (IsRefusing opening fault m) m new lawful (refusing_image opening fault m) call

-- and then raised
open_raised : (s : SpoolState) (m mid new : Moment) → IsLawful m → IsUntouched m mid → StandsFor s m.reads → LeavesOnly (StandsForOne s (raise_stages Raise s)) mid new → LeavesOnly (IsOpening Raise m) m new
open_raised s m mid new lawful call stands run =
    both m.image (StandsForOne s (raise_stages Raise s)) (IsOpening Raise m) m mid new (untouched_run m.image m mid lawful (λ c image. image) call) run (λ c h. inl h) (λ c h. inr (s, stands, h))

-- a fault of reading
pub read_broken : (opening : Opening) (c : List ℕ) (fault : PendFault) → IsReadFault c fault → IsRefusedAs opening c (as_recover fault)
read_broken opening c (NotSpool at) is = is
read_broken opening c DiskFault is = tt
read_broken opening c NoMemory is = tt

pub read_refused : (opening : Opening) (s : SpoolState) (c : List ℕ) (fault : PendFault) → IsReadFault c fault → StandsFor s c → Refuses opening s (as_recover fault)
read_refused opening s c (NotSpool at) is stands = stands_unbroken s c stands at is
read_refused opening s c DiskFault is stands = tt
read_refused opening s c NoMemory is stands = tt

-- the one state that was read
pub same_stored : (s : SpoolState) (known : Memory) (c : List ℕ) → KnowsState c known → StandsFor s c → IsStored s known c
same_stored s known c state stands = subst (λ (t : SpoolState). IsStored t known c) (one_state state.0 s c state.1.stands stands) state.1

follows_opened : (opening : Opening) (s : SpoolState) (c : List ℕ) → StandsFor s c → Follows s (opened opening s)
follows_opened Keep s c stands = follows_self s stands.sound.from_base
follows_opened Raise s c stands = follows_registered s (s.run + 1) s.cursor s.known stands.sound.from_base (omega arith) (omega arith) (λ n known. known)

pub opens : (opening : Opening) (s : SpoolState) (device : List ℕ) (known : Memory) (new : Moment) → StandsFor s device → CanOpen opening s → IsSettled new → IsStored (opened opening s) known new.reads → Opens opening s device (view known false new)
opens opening s device known new stands left settled stored = record {
  stood = stands;
  left = left;
  follows = follows_opened opening s device stands;
  reached = in_stored (opened opening s) known new settled stored;
}

-- a fault of raising the run is none of reading
pub refused_unbroken : (opening : Opening) (s : SpoolState) (c : List ℕ) (fault : RecoverFault) → StandsFor s c → Refuses opening s fault → IsRefusedAs opening c fault
refused_unbroken opening s c (Recover.NotSpool at) stands is = absurd is
refused_unbroken opening s c (Recover.RunsSpent run) stands is = (s, stands, is)
refused_unbroken opening s c (Recover.Worn ordinal) stands is = (s, stands, is)
refused_unbroken opening s c Recover.DiskFault stands is = tt
refused_unbroken opening s c Recover.NoMemory stands is = tt

pub open_raised_as : (opening : Opening) → opening ≡ Raise → (s : SpoolState) (m mid new : Moment) → IsLawful m → IsUntouched m mid → StandsFor s m.reads → LeavesOnly (StandsForOne s (raise_stages Raise s)) mid new → LeavesOnly (IsOpening opening m) m new
open_raised_as opening is s m mid new lawful call stands run = subst (λ (o : Opening). LeavesOnly (IsOpening o m) m new) (sym is) (open_raised s m mid new lawful call stands run)

-- or not raised, since the disk failed or before it was called
pub refused_raised : (opening : Opening) → opening ≡ Raise → (fault : RecoverFault) (s : SpoolState) (m mid new : Moment) → IsLawful m → IsUntouched m mid → StandsFor s m.reads → (fault ≡ Recover.DiskFault) ⊎ (new ≡ mid) → LeavesOnly (StandsForOne s (raise_stages Raise s)) mid new
    → LeavesOnly (IsRefusing opening fault m) m new
refused_raised opening is fault s m mid new lawful call stands why run = elim why [
  | inl failed ↦ subst (λ (f : RecoverFault). LeavesOnly (IsRefusing opening f m) m new) (sym failed) (open_raised_as opening is s m mid new lawful call stands run)
  | inr same ↦ subst (λ (d : Moment). LeavesOnly (IsRefusing opening fault m) m d) (sym same) (refused_read opening fault m mid lawful call)
]

-- a register that is worn is not written
pub unwritten : (ordinal : ℕ) (fault : SetFault) (same : Type 0) → IsWornAt ordinal fault → (ordinal ≡ 2 ^ 63 → same) → (of_set fault ≡ Recover.DiskFault) ⊎ same
unwritten ordinal (Set.Worn last) same worn kept = inr (kept worn.0)
unwritten ordinal Set.DiskFault same worn kept = inl refl

pub refused_as : (opening : Opening) → opening ≡ Raise → (s : SpoolState) (fault : RecoverFault) → Refuses Raise s fault → Refuses opening s fault
refused_as opening is s fault h = subst (λ (o : Opening). Refuses o s fault) (sym is) h

pub found_as : (opening : Opening) → opening ≡ Raise → (s : SpoolState) (c d : List ℕ) (known : Memory) → StandsFor s c → CanOpen Raise s × IsStored (opened Raise s) known d → (t : SpoolState) × StandsFor t c × CanOpen opening t × IsStored (opened opening t) known d
found_as opening is s c d known stands h =
    let left : CanOpen opening s = subst (λ (o : Opening). CanOpen o s) (sym is) h.0 in
    let stored : IsStored (opened opening s) known d = subst (λ (o : Opening). IsStored (opened o s) known d) (sym is) h.1 in
    (s, stands, left, stored)

-- ---- the run raised, by the numbers of memory

-- what is known stays what it is
pub kept_numbers : (memory : Memory) (content : Content) (numbers : Numbers) → content ≡ memory.register.content → numbers ≡ numbers_in content → MayFollow (cursor_of memory) (end_of memory) numbers
kept_numbers memory content numbers is same =
    subst (MayFollow (cursor_of memory) (end_of memory)) (sym (same ∙ ap numbers_in is)) (record { reaches = omega arith; within = memory.cursor_upto; stretches = memory.known_upto })

pub raised_as : (s : SpoolState) (memory : Memory) (content : Content) (run : ℕ) (numbers : Numbers) (P : SpoolState → Type 0) → Knows s memory → content ≡ memory.register.content → run ≡ content.run + 1 → numbers ≡ numbers_in content → P (registered s run numbers.cursor numbers.stretches) → P (opened Raise s)
raised_as s memory content run numbers P knows is next same p =
    let number : run ≡ s.run + 1 = omega (arith, next, ap (λ (x : Content). x.run) is, knows.run) in
    let start : numbers ≡ numbers_of s = same ∙ ap numbers_in is ∙ (λ i. record { cursor = knows.cursor i; stretches = knows.known i }) in
    subst (λ (n : Numbers). P (registered s (s.run + 1) n.cursor n.stretches)) start (subst (λ (r : ℕ). P (registered s r numbers.cursor numbers.stretches)) number p)
