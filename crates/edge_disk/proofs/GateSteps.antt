-- What a crash leaves in each step of a write after a gate, and of a gate that is opened or closed.
use Rattle.std.proofs.Common.{◌≡◌, ◌≢◌, ◌⊎◌, inl, inr, ℕ, ◌+◌, ◌<◌, ◌≤◌, List, [], ◌∷◌, length, get_or, sym, ◌∙◌, ap, subst, arith}
use Rattle.std.proofs.lemmas.Bool.{cases_eq, cases_order}
use Rattle.std.proofs.lemmas.List.{ext_get_or}
use Rattle.foundation.specs.Bytes.{put, SameBut}
use Rattle.foundation.proofs.Bytes.{same_but_refl, same_but_wider, length-put, put_below, put_above, put_at, put_head, put_same}
use Rattle.edge_disk.specs.Disk.{Moment, IsSettled, IsTorn, IsLawful, LeavesOnly}
use Rattle.edge_disk.specs.Gate.{IsGateStep, ComesFrom}
use Rattle.edge_disk.proofs.Moments.{started_settled, torn, both, torn_from, weaker, from_settled}

-- a change of the gate alone is told by the gate's byte
pub only_gate : (gate x : ℕ) (old c : List ℕ) → gate < length old → SameBut gate 1 old c → get_or c gate 0 ≡ x → c ≡ put gate (x ∷ []) old
only_gate gate x old c room same is =
    let long : length (put gate (x ∷ []) old) ≡ length old = length-put gate (x ∷ []) old (omega arith) in
    ext_get_or 0 c (put gate (x ∷ []) old) (same.len ∙ sym long) (λ i h. elim (cases_order i gate) [
      | inl at ↦ ap (λ (k : ℕ). get_or c k 0) at ∙ is ∙ sym (put_at gate (x ∷ []) old 0 i (omega arith) (omega arith) (omega arith))
      | inr off ↦ elim off [
        | inl lt ↦ same.below i lt ∙ sym (put_below gate (x ∷ []) old i (omega arith) lt)
        | inr gt ↦ same.above i (omega arith) ∙ sym (put_above gate (x ∷ []) old i (omega arith) (omega arith))
      ]
    ])

-- what a gate reads that was written, with what was put after it
pub gate_reads : (gate x : ℕ) (piece old : List ℕ) → gate + length piece + 1 ≤ length old → get_or (put gate (x ∷ piece) old) gate 0 ≡ x
gate_reads gate x piece old room = put_at gate (x ∷ piece) old 0 gate (omega arith) (omega arith) (omega arith)

-- a gate that is written: any byte there, and so closed or open
pub gate_moves : (gate : ℕ) (old c : List ℕ) → gate < length old → SameBut gate 1 old c → IsGateStep gate [] old c
gate_moves gate old c room same = record {
  outside = same;
  inside = elim (cases_eq (get_or c gate 0) 1) [
    | inl is ↦ inr (only_gate gate 1 old c room same is)
    | inr closed ↦ inl closed
  ];
}

-- where an open gate is closed, a crash leaves it closed or all as before
pub closed_or_before : (gate : ℕ) (old c : List ℕ) → gate < length old → get_or old gate 0 ≡ 1 → IsGateStep gate [] old c → (get_or c gate 0 ≢ 1) ⊎ (c ≡ old)
closed_or_before gate old c room open_before step = elim step.inside [
  | inl closed ↦ inl closed
  | inr is ↦ inr (is ∙ sym (only_gate gate 1 old old room (same_but_refl gate 1 old) open_before))
]

-- bytes that a crash leaves while the piece is written after the closed gate
pub behind : (gate : ℕ) (piece old c : List ℕ) → get_or old gate 0 ≢ 1 → SameBut (gate + 1) (length piece) old c → IsGateStep gate piece old c
behind gate piece old c closed torn = record {
  outside = same_but_wider gate (length piece + 1) (gate + 1) (length piece) old c torn (omega arith) (omega arith);
  inside = inl (λ is. closed (sym (torn.below gate (omega arith)) ∙ is));
}

-- a gate that is opened before the piece makes the whole
pub open_whole : (gate : ℕ) (piece old : List ℕ) → gate + length piece + 1 ≤ length old → put gate (1 ∷ []) (put (gate + 1) piece old) ≡ put gate (1 ∷ piece) old
open_whole gate piece old room =
    let staged = put (gate + 1) piece old in
    let whole = put gate (1 ∷ piece) old in
    let l1 : length staged ≡ length old = length-put (gate + 1) piece old (omega arith) in
    let l2 : length whole ≡ length old = length-put gate (1 ∷ piece) old (omega arith) in
    let l3 : length (put gate (1 ∷ []) staged) ≡ length staged = length-put gate (1 ∷ []) staged (omega arith) in
    ext_get_or 0 _ whole (l3 ∙ l1 ∙ sym l2) (λ i h. elim (cases_order i gate) [
      | inl at ↦ put_at gate (1 ∷ []) staged 0 i (omega arith) (omega arith) (omega arith) ∙ sym (put_at gate (1 ∷ piece) old 0 i (omega arith) (omega arith) (omega arith))
      | inr off ↦ elim off [
        | inl lt ↦ put_below gate (1 ∷ []) staged i (omega arith) lt ∙ put_below (gate + 1) piece old i (omega arith) (omega arith) ∙ sym (put_below gate (1 ∷ piece) old i (omega arith) lt)
        | inr gt ↦ put_above gate (1 ∷ []) staged i (omega arith) (omega arith) ∙ sym (put_head gate 1 piece old i (omega arith) (omega arith))
      ]
    ])

-- and while the gate before the piece is opened
pub opening : (gate : ℕ) (piece old c : List ℕ) → gate + length piece + 1 ≤ length old → IsGateStep gate [] (put (gate + 1) piece old) c → IsGateStep gate piece old c
opening gate piece old c room step =
    let staged = put_same (gate + 1) (length piece) piece old (omega arith) (omega arith) in
    record {
      outside = record {
        len = step.outside.len ∙ staged.len;
        below = λ i h. step.outside.below i h ∙ staged.below i (omega arith);
        above = λ i h. step.outside.above i (omega arith) ∙ staged.above i (omega arith);
      };
      inside = elim step.inside [
        | inl closed ↦ inl closed
        | inr is ↦ inr (is ∙ open_whole gate piece old room)
      ];
    }

-- a piece that is written after a gate that is closed in each image
pub piece_written : (gate : ℕ) (piece : List ℕ) (m new : Moment) → ((c : List ℕ) → m.image c → get_or c gate 0 ≢ 1)
    → LeavesOnly (ComesFrom m (SameBut (gate + 1) (length piece))) m new → LeavesOnly (ComesFrom m (IsGateStep gate piece)) m new
piece_written gate piece m new closed run = weaker _ _ m new run (λ c from. (from.0, from.1, behind gate piece from.0 c (closed from.0 from.1) from.2))

-- and the opening of the gate before it
pub gate_opened : (gate : ℕ) (piece : List ℕ) (m mid new : Moment) → IsLawful m → gate + length piece + 1 ≤ m.size → ((c : List ℕ) → m.image c → get_or c gate 0 ≢ 1)
    → LeavesOnly (ComesFrom m (SameBut (gate + 1) (length piece))) m mid → mid.reads ≡ put (gate + 1) piece m.reads → LeavesOnly (IsGateStep gate [] mid.reads) mid new
    → LeavesOnly (ComesFrom m (IsGateStep gate piece)) m new
gate_opened gate piece m mid new lawful room closed run is opened =
    both _ _ (ComesFrom m (IsGateStep gate piece)) m mid new (piece_written gate piece m mid closed run) opened (λ c p. p)
    (λ c q. (m.reads, lawful.reads_image, opening gate piece m.reads c (omega (arith, room, lawful.reads_size)) (subst (λ b. IsGateStep gate [] b c) is q)))

-- on a settled disk the step starts from what is read
pub step_settled : (gate : ℕ) (piece : List ℕ) (m new : Moment) → IsSettled m → LeavesOnly (ComesFrom m (IsGateStep gate piece)) m new → LeavesOnly (IsGateStep gate piece m.reads) m new
step_settled gate piece m new settled run = from_settled (IsGateStep gate piece) m new settled run

-- the write of a gate on a settled disk
pub gate_written : (gate : ℕ) (m m1 : Moment) → gate < m.size → IsLawful m → IsSettled m → IsTorn gate 1 m m1 → LeavesOnly (IsGateStep gate [] m.reads) m m1
gate_written gate m m1 room lawful settled call =
    let fits : gate < length m.reads = omega (arith, room, lawful.reads_size) in
    let P = IsGateStep gate [] m.reads in
    let at_start = started_settled P m lawful settled (gate_moves gate m.reads m.reads fits (same_but_refl gate 1 m.reads)) in
    torn P m m m1 gate 1 at_start settled call (λ c t. gate_moves gate m.reads c fits t)

-- and on any disk
pub gate_written_from : (gate : ℕ) (m m1 : Moment) → gate < m.size → IsLawful m → IsTorn gate 1 m m1 → LeavesOnly (ComesFrom m (IsGateStep gate [])) m m1
gate_written_from gate m m1 room lawful call =
    torn_from (IsGateStep gate []) m m1 gate 1 lawful call (λ d c i same. gate_moves gate d c (omega (arith, room, lawful.image_size d i)) same)
