-- Readings one after another, which change nothing.
use Rattle.edge_disk.specs.Disk.{Moment, LeavesOnly}
use Rattle.edge_disk.proofs.Moments.{both}

-- what a crash leaves is what it could leave before
pub read_on : (m mid new : Moment) → LeavesOnly m.image m mid → LeavesOnly mid.image mid new → LeavesOnly m.image m new
read_on m mid new first next = both m.image mid.image m.image m mid new first next (λ c image. image) (λ c image. first.now c image)
