-- How leave to write is handed on, and what a write of a gate's steps asks for.
use Rattle.std.proofs.Common.{◌≡◌, ◌≢◌, ℕ, ◌+◌, ◌≤◌, List, length, get_or, sym, ◌∙◌, subst, arith}
use Rattle.std.proofs.Math.Logic.{∥∥₁_prop, ∥∥₁_elim}
use Rattle.foundation.specs.Bytes.{put, SameBut}
use Rattle.foundation.proofs.Bytes.{same_but_refl, length-put, put_below, put_same}
use Rattle.edge_disk.specs.Disk.{Moment, IsSettled, IsLawful}
use Rattle.edge_disk.specs.Gate.{GoesBehind}
use Rattle.edge_disk.specs.Leave.{TearsOn, Lets}
use Rattle.edge_disk.proofs.GateSteps.{behind, gate_moves, opening}

-- what goes on in one way does so in another
pub tears_as : (P Q : List ℕ → List ℕ → Type 0) (m : Moment) (at n : ℕ) → ((now torn : List ℕ) → P now torn → ∥ Q now torn ∥₁) → TearsOn P m at n → TearsOn Q m at n
tears_as P Q m at n more tears = λ d torn image same.
    ∥∥₁_elim (tears d torn image same) ∥∥₁_prop (λ one. ∥∥₁_elim (more one.0 torn one.2) ∥∥₁_prop (λ q. ∣ (one.0, one.1, q) ∣₁))

-- so leave for what goes on in the one way is leave for what does so in the other
pub lets_as : {D : Type 0} (tells : Type 0) (moment : D → Moment) (may : D → ℕ → ℕ → Type 0) (P Q : List ℕ → List ℕ → Type 0) → (tells → (now torn : List ℕ) → P now torn → ∥ Q now torn ∥₁) → Lets tells moment may Q → Lets tells moment may P
lets_as tells moment may P Q more lets = λ disk at n tears. lets disk at n (λ t. tears_as P Q (moment disk) at n (more t) (tears t))

-- the piece while its gate is closed in each image
pub tears_piece : (gate : ℕ) (piece : List ℕ) (m : Moment) → ((c : List ℕ) → m.image c → get_or c gate 0 ≢ 1) → TearsOn (GoesBehind m gate piece) m (gate + 1) (length piece)
tears_piece gate piece m closed = λ d torn image same.
    let shut = closed d image in
    ∣ (d, image, record { from = d; was = image; before = behind gate piece d d shut (same_but_refl (gate + 1) (length piece) d); closed = shut; after = behind gate piece d torn shut same }) ∣₁

-- and the gate, once the piece is durable
pub tears_gate : (gate : ℕ) (piece : List ℕ) (m mid : Moment) → IsLawful m → gate + length piece + 1 ≤ m.size → ((c : List ℕ) → m.image c → get_or c gate 0 ≢ 1) → IsSettled mid → mid.reads ≡ put (gate + 1) piece m.reads → TearsOn (GoesBehind m gate piece) mid gate 1
tears_gate gate piece m mid lawful room closed settled is = λ d torn image same.
    let fits : gate + length piece + 1 ≤ length m.reads = omega (arith, room, lawful.reads_size) in
    let staged = put (gate + 1) piece m.reads in
    let long : length staged ≡ length m.reads = length-put (gate + 1) piece m.reads (omega arith) in
    let shut = closed m.reads lawful.reads_image in
    let Goes : List ℕ → Type 0 = λ b. SameBut gate 1 b torn → GoesBehind m gate piece b torn in
    let goes : Goes staged = λ there. record {
      from = m.reads;
      was = lawful.reads_image;
      before = behind gate piece m.reads staged shut (put_same (gate + 1) (length piece) piece m.reads (omega arith) (omega arith));
      closed = λ one. shut (sym (put_below (gate + 1) piece m.reads gate (omega arith) (omega arith)) ∙ one);
      after = opening gate piece m.reads torn fits (gate_moves gate staged torn (omega arith) there);
    } in
    ∣ (d, image, subst Goes (sym (settled.only d image ∙ is)) goes same) ∣₁
