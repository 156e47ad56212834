-- What each step of a change of the register leaves in the two cells.
use Rattle.std.proofs.Common.{◌≡◌, ◌≢◌, ◌⊎◌, inl, inr, ℕ, ◌+◌, ◌^◌, ◌<◌, ◌≤◌, List, [], ◌∷◌, length, get_or, refl, sym, ◌∙◌, ap, subst, arith, IsTrue, true, ◌↔◌, Result, Ok, Err, OnOk}
use Rattle.std.specs.Int.{from_be_bytes}
use mir.Syntax.{w64}
use Rattle.foundation.specs.Bytes.{part, put, SameBut}
use Rattle.foundation.proofs.Bytes.{same_but_refl, same_but_then, same_but_wider, same_part, part_put, put_same}
use Rattle.edge_disk.specs.Disk.{Moment, IsLawful, LeavesOnly}
use Rattle.edge_disk.specs.Gate.{IsGateStep, ComesFrom, GoesBehind}
use Rattle.edge_disk.specs.Leave.{TearsOn, Lets}
use Rattle.edge_disk.proofs.Moments.{weaker, both}
use Rattle.edge_disk.proofs.Leaving.{lets_as}
use Rattle.known_numbers.specs.declared.stretch.Stretch.{Stretch}
use Rattle.spool_state.specs.Cells.{content_text, body_text, cell_text, Counts, RegisterHolds}
use Rattle.spool_state.proofs.Places.{length-content_text}
use Rattle.spool_state.proofs.Registers.{opened, ordinal_there}
use Rattle.disk_cell.specs.Cell.{place_of, other_of}
use Rattle.disk_cell.specs.Content.{text_of}
use Rattle.disk_cell.specs.Register.{Knows, IsClosingStep, IsSetStep, GoesSet, IsContent}
use Rattle.disk_cell.specs.declared.cell.Cell.{Cell}
use Rattle.disk_cell.specs.declared.cell.Cell.TheVariants.{First, Second}
use Rattle.disk_cell.specs.declared.register.Register.{Register}
use Rattle.disk_cell.proofs.Contents.{text_short, text_set}

-- the two cells lie apart
pub record AreApart (here other : ℕ) : Type 0 where
  pub here_from : 4096 ≤ here
  pub here_to : here + 4096 ≤ 12288
  pub other_from : 4096 ≤ other
  pub other_to : other + 4096 ≤ 12288
  pub apart : (here + 4096 ≤ other) ⊎ (other + 4096 ≤ here)

pub cells_apart : (cell : Cell) → AreApart (place_of cell) (place_of (other_of cell))
cells_apart First = record { here_from = omega arith; here_to = omega arith; other_from = omega arith; other_to = omega arith; apart = inl (omega arith) }
cells_apart Second = record { here_from = omega arith; here_to = omega arith; other_from = omega arith; other_to = omega arith; apart = inr (omega arith) }

pub length-body_text : (ordinal : ℕ) (content : List ℕ) → length (body_text ordinal content) ≡ 12 + length content
unfolding body_text
length-body_text ordinal content = omega arith

-- the register holds what the counting cell has
pub holds : (cell : Cell) (ordinal : ℕ) (content c : List ℕ) → Counts (place_of cell) (place_of (other_of cell)) ordinal content c → RegisterHolds ordinal content c
holds First ordinal content c counts = inl counts
holds Second ordinal content c counts = inr counts

pub holds_other : (cell : Cell) (ordinal : ℕ) (content c : List ℕ) → Counts (place_of (other_of cell)) (place_of cell) ordinal content c → RegisterHolds ordinal content c
holds_other First ordinal content c counts = inr counts
holds_other Second ordinal content c counts = inl counts

-- the cell that counts, with the other one written
module _ (here other ordinal : ℕ) (content : List ℕ) (apart : AreApart here other) (short : length content ≤ 3859) where
  part_stays : (n : ℕ) (d c : List ℕ) → n ≤ 4096 → 12288 ≤ length d → SameBut other n d c → part here (13 + length content) c ≡ part here (13 + length content) d
  part_stays n d c le room same = same_part other n here (13 + length content) d c same (elim apart.apart [ inl before ↦ inl (omega arith) | inr after ↦ inr (omega arith) ]) (omega (arith, apart.here_to))

  -- a gate that is open, and is being closed
  pub closing_counts : (d c : List ℕ) → 12288 ≤ length d → get_or d other 0 ≡ 1 → Counts here other ordinal content d → SameBut other 1 d c → Counts here other ordinal content c
  closing_counts d c room is_open counts same = record {
    holds = part_stays 1 d c (omega arith) room same ∙ counts.holds;
    other_less = elim counts.other_less [
      | inl shut ↦ absurd (shut is_open)
      | inr less ↦ inr (subst (λ (l : List ℕ). from_be_bytes w64 l < ordinal) (sym (same_part other 1 (other + 1) 8 d c same (inr (omega arith)) (omega (arith, apart.other_to)))) less)
    ];
  }

  -- a body that comes to stand after a closed gate
  pub shut_counts : (n : ℕ) (d c : List ℕ) → n ≤ 4096 → 12288 ≤ length d → Counts here other ordinal content d → SameBut other n d c → get_or c other 0 ≢ 1 → Counts here other ordinal content c
  shut_counts n d c le room counts same shut = record { holds = part_stays n d c le room same ∙ counts.holds; other_less = inl shut }

  -- and the gate that is opened
  module _ (new : List ℕ) (new_short : length new ≤ 3859) (d : List ℕ) (fits : ordinal < 2 ^ 64) (room : 12288 ≤ length d) (counts : Counts here other ordinal content d) where
    written : List ℕ
    written = put other (cell_text (ordinal + 1) new) d

    long : length (cell_text (ordinal + 1) new) ≡ 13 + length new
    long = omega (arith, length-body_text (ordinal + 1) new)

    still : part here (13 + length content) (put other (cell_text (ordinal + 1) new) d) ≡ cell_text ordinal content
    still = part_stays (13 + length new) d _ (omega arith) room (put_same other (13 + length new) (cell_text (ordinal + 1) new) d (omega (arith, apart.other_to)) (omega (arith, long))) ∙ counts.holds

    pub new_counts : Counts other here (ordinal + 1) new (put other (cell_text (ordinal + 1) new) d)
    new_counts = record {
      holds = part_put other (13 + length new) (cell_text (ordinal + 1) new) d (omega (arith, long, apart.other_to)) (sym long);
      other_less = inr (omega (arith, ordinal_there here ordinal content _ still fits));
    }

    pub still_open : get_or (put other (cell_text (ordinal + 1) new) d) here 0 ≡ 1
    still_open = opened here ordinal content _ still

-- the disk before, as the register knows it
pub known_step : (r : Register) (d : List ℕ) → Knows r d → IsClosingStep r d d
known_step r d known = record { outside = same_but_refl 4096 8192 d; counts = known.counts }

pub register_short : (r : Register) → length (text_of r.content) ≤ 3859
register_short r = text_short r.content r.version r.few

-- the other cell's gate while it is closed
pub closing_step : (r : Register) (d c : List ℕ) → 12288 ≤ length d → IsTrue r.other_is_open → Knows r d → SameBut (place_of (other_of r.counting)) 1 d c → IsClosingStep r d c
closing_step r d c room is_open known same =
    let here = place_of r.counting in
    let other = place_of (other_of r.counting) in
    let apart = cells_apart r.counting in
    record {
      outside = same_but_wider 4096 8192 other 1 d c same apart.other_from (omega (arith, apart.other_to));
      counts = closing_counts here other r.ordinal (text_of r.content) apart (register_short r) d c room (known.other_open.0 is_open) known.counts same;
    }

new_knows : (cell : Cell) (r : Register) (c : List ℕ) → r.counting ≡ other_of cell → r.other_is_open ≡ true → get_or c (place_of cell) 0 ≡ 1 → Counts (place_of (other_of cell)) (place_of cell) r.ordinal (text_of r.content) c → Knows r c
new_knows cell r c is is_open gate counts = record {
  counts = subst (λ (x : Cell). Counts (place_of x) (place_of (other_of x)) r.ordinal (text_of r.content) c) (sym is) (subst (λ (x : Cell). Counts (place_of (other_of cell)) (place_of x) r.ordinal (text_of r.content) c) (sym (twice cell)) counts);
  other_open = subst (λ (x : Cell). IsTrue r.other_is_open ↔ (get_or c (place_of (other_of x)) 0 ≡ 1)) (sym is) (subst (λ (x : Cell). IsTrue r.other_is_open ↔ (get_or c (place_of x) 0 ≡ 1)) (sym (twice cell)) ((λ t. gate), (λ o. is_open)));
}
  where
    twice : (cell : Cell) → other_of (other_of cell) ≡ cell
    twice First = refl
    twice Second = refl

-- a change to a content of version 2
module _ (r : Register) (run cursor : ℕ) (known : List Stretch) (few : length known ≤ 240) where
  new_short : length (content_text run cursor known) ≤ 3859
  new_short = omega (arith, length-content_text run cursor known)

  pub closing_holds : (d c : List ℕ) → IsClosingStep r d c → IsSetStep r run cursor known d c
  closing_holds d c step = record { outside = step.outside; inside = inl (holds r.counting r.ordinal (text_of r.content) c step.counts) }

  -- the new cell written after its gate
  pub gate_step : (d mid c : List ℕ) → 12288 ≤ length d → r.ordinal < 2 ^ 64 → IsClosingStep r d mid → IsGateStep (place_of (other_of r.counting)) (body_text (r.ordinal + 1) (content_text run cursor known)) mid c → IsSetStep r run cursor known d c
  gate_step d mid c room fits step gated =
      let here = place_of r.counting in
      let other = place_of (other_of r.counting) in
      let apart = cells_apart r.counting in
      let new = content_text run cursor known in
      let body = body_text (r.ordinal + 1) new in
      let long : length body + 1 ≤ 4096 = omega (arith, length-body_text (r.ordinal + 1) new, new_short) in
      let room_mid : 12288 ≤ length mid = omega (arith, step.outside.len) in
      record {
        outside = same_but_then 4096 8192 4096 8192 other (length body + 1) d mid c step.outside gated.outside (omega arith) (omega arith) apart.other_from (omega (arith, apart.other_to));
        inside = elim gated.inside [
          | inl shut ↦ inl (holds r.counting r.ordinal (text_of r.content) c (shut_counts here other r.ordinal (text_of r.content) apart (register_short r) (length body + 1) mid c long room_mid step.counts gated.outside shut))
          | inr whole ↦ inr (subst (RegisterHolds (r.ordinal + 1) new) (sym whole) (holds_other r.counting (r.ordinal + 1) new _ (new_counts here other r.ordinal (text_of r.content) apart (register_short r) new new_short mid fits room_mid step.counts)))
        ];
      }

  -- where its gate isn't open yet
  pub closing_behind : (d mid c : List ℕ) → 12288 ≤ length d → IsClosingStep r d mid → IsGateStep (place_of (other_of r.counting)) (body_text (r.ordinal + 1) (content_text run cursor known)) mid c → get_or c (place_of (other_of r.counting)) 0 ≢ 1 → IsClosingStep r d c
  closing_behind d mid c room step gated shut =
      let here = place_of r.counting in
      let other = place_of (other_of r.counting) in
      let apart = cells_apart r.counting in
      let body = body_text (r.ordinal + 1) (content_text run cursor known) in
      let long : length body + 1 ≤ 4096 = omega (arith, length-body_text (r.ordinal + 1) (content_text run cursor known), new_short) in
      let room_mid : 12288 ≤ length mid = omega (arith, step.outside.len) in
      record {
        outside = same_but_then 4096 8192 4096 8192 other (length body + 1) d mid c step.outside gated.outside (omega arith) (omega arith) apart.other_from (omega (arith, apart.other_to));
        counts = shut_counts here other r.ordinal (text_of r.content) apart (register_short r) (length body + 1) mid c long room_mid step.counts gated.outside shut;
      }

  -- what a crash may tear while the other cell's gate is closed
  pub tears_closing : (m : Moment) → IsLawful m → 12288 ≤ m.size → IsTrue r.other_is_open → ((d : List ℕ) → m.image d → Knows r d) → TearsOn (GoesSet m r run cursor known) m (place_of (other_of r.counting)) 1
  tears_closing m lawful room is_open knows = λ d torn image same.
      let is = knows d image in
      ∣ (d, image, record { from = d; was = image; before = known_step r d is; after = closing_holds d torn (closing_step r d torn (omega (arith, room, lawful.image_size d image)) is_open is same) }) ∣₁

  -- leave to change the register is leave to write the new cell after that
  pub lets_cell : {D : Type 0} (tells : Type 0) (moment : D → Moment) (may : D → ℕ → ℕ → Type 0) (m mid : Moment) → (tells → IsLawful m) → 12288 ≤ m.size → r.ordinal < 2 ^ 64 → (tells → LeavesOnly (ComesFrom m (IsClosingStep r)) m mid)
      → (gate : ℕ) → gate ≡ place_of (other_of r.counting) → Lets tells moment may (GoesSet m r run cursor known) → Lets tells moment may (GoesBehind mid gate (body_text (r.ordinal + 1) (content_text run cursor known)))
  lets_cell tells moment may m mid lawful room fits closing gate is_gate lets =
      let body = body_text (r.ordinal + 1) (content_text run cursor known) in
      subst (λ (k : ℕ). Lets tells moment may (GoesBehind mid k body)) (sym is_gate)
      (lets_as tells moment may (GoesBehind mid (place_of (other_of r.counting)) body) (GoesSet m r run cursor known) (λ t now torn goes.
      let first = (closing t).now goes.from goes.was in
      let long : 12288 ≤ length first.0 = omega (arith, room, (lawful t).image_size first.0 first.1) in
      ∣ record { from = first.0; was = first.1; before = closing_behind first.0 goes.from now long first.2 goes.before goes.closed; after = gate_step first.0 goes.from torn long fits first.2 goes.after } ∣₁) lets)

  -- what is read when all is written
  pub known_then : (new : Register) (d mid c : List ℕ) → 12288 ≤ length d → r.ordinal < 2 ^ 64 → IsClosingStep r d mid → (gate : ℕ) → gate ≡ place_of (other_of r.counting) → c ≡ put gate (1 ∷ body_text (r.ordinal + 1) (content_text run cursor known)) mid
      → new.counting ≡ other_of r.counting → new.other_is_open ≡ true → new.ordinal ≡ r.ordinal + 1 → IsContent run cursor known new.content → Knows new c
  known_then new d mid c room fits step gate is_gate is is_counting is_open is_ordinal is_content =
      let here = place_of r.counting in
      let other = place_of (other_of r.counting) in
      let apart = cells_apart r.counting in
      let content = content_text run cursor known in
      let written = put other (cell_text (r.ordinal + 1) content) mid in
      let room_mid : 12288 ≤ length mid = omega (arith, step.outside.len) in
      let counts = new_counts here other r.ordinal (text_of r.content) apart (register_short r) content new_short mid fits room_mid step.counts in
      subst (Knows new) (sym (is ∙ ap (λ (k : ℕ). put k (cell_text (r.ordinal + 1) content) mid) is_gate)) (new_knows r.counting new written is_counting is_open (still_open here other r.ordinal (text_of r.content) apart (register_short r) content new_short mid fits room_mid step.counts)
      (subst (λ (n : ℕ). Counts other here n (text_of new.content) written) (sym is_ordinal) (subst (λ (l : List ℕ). Counts other here (r.ordinal + 1) l written) (sym (text_set new.content run cursor known is_content)) counts)))

  -- all moments of a change
  pub set_moments : (m mid new : Moment) → IsLawful m → 12288 ≤ m.size → r.ordinal < 2 ^ 64 → LeavesOnly (ComesFrom m (IsClosingStep r)) m mid
      → (gate : ℕ) → gate ≡ place_of (other_of r.counting) → LeavesOnly (ComesFrom mid (IsGateStep gate (body_text (r.ordinal + 1) (content_text run cursor known)))) mid new → LeavesOnly (ComesFrom m (IsSetStep r run cursor known)) m new
  set_moments m mid new lawful room fits closing gate is_gate opening =
      both _ _ (ComesFrom m (IsSetStep r run cursor known)) m mid new closing (subst (λ (k : ℕ). LeavesOnly (ComesFrom mid (IsGateStep k (body_text (r.ordinal + 1) (content_text run cursor known)))) mid new) is_gate opening)
      (λ c from. (from.0, from.1, closing_holds from.0 c from.2))
      (λ c from. let first = closing.now from.0 from.1 in (first.0, first.1, gate_step first.0 from.0 c (omega (arith, lawful.image_size first.0 first.1)) fits first.2 from.2))

-- all moments while the gate is closed
pub closing_moments : (r : Register) (m new : Moment) → IsLawful m → 12288 ≤ m.size → IsTrue r.other_is_open → ((d : List ℕ) → m.image d → Knows r d)
    → (gate : ℕ) → gate ≡ place_of (other_of r.counting) → LeavesOnly (ComesFrom m (IsGateStep gate [])) m new → LeavesOnly (ComesFrom m (IsClosingStep r)) m new
closing_moments r m new lawful room is_open known gate is run =
    weaker _ (ComesFrom m (IsClosingStep r)) m new run (λ c from. (from.0, from.1, closing_step r from.0 c (omega (arith, lawful.image_size from.0 from.1)) is_open (known from.0 from.1) (subst (λ (k : ℕ). SameBut k 1 from.0 c) is from.2.outside)))

-- a piece that is put into the other cell changes nothing outside the two
pub put_outside : (cell : Cell) (gate : ℕ) (piece old new : List ℕ) → gate ≡ place_of (other_of cell) → length piece ≤ 4096 → 12288 ≤ length old → new ≡ put gate piece old → SameBut 4096 8192 old new
put_outside cell gate piece old new is short room written =
    let apart = cells_apart cell in
    let other = place_of (other_of cell) in
    let same = put_same other 4096 piece old (omega (arith, apart.other_to)) short in
    subst (SameBut 4096 8192 old) (sym (written ∙ ap (λ (k : ℕ). put k piece old) is)) (same_but_wider 4096 8192 other 4096 old (put other piece old) same apart.other_from (omega (arith, apart.other_to)))

pub closing_outside : {X E : Type 0} (result : Result X E) (T : Type 0) (cell : Cell) (gate : ℕ) (old new : List ℕ) → gate ≡ place_of (other_of cell) → (T → 12288 ≤ length old) → OnOk result (T → new ≡ put gate (0 ∷ []) old) → OnOk result (T → SameBut 4096 8192 old new)
closing_outside (Ok x) T cell gate old new is room written = λ t. put_outside cell gate (0 ∷ []) old new is (omega arith) (room t) (written t)
closing_outside (Err e) T cell gate old new is room written = tt

-- so a change does, with the cell written after the gate was closed
pub set_outside : (r : Register) (run cursor : ℕ) (known : List Stretch) (old mid new : List ℕ) → length known ≤ 240 → 12288 ≤ length old → SameBut 4096 8192 old mid
    → (gate : ℕ) → gate ≡ place_of (other_of r.counting) → new ≡ put gate (1 ∷ body_text (r.ordinal + 1) (content_text run cursor known)) mid → SameBut 4096 8192 old new
set_outside r run cursor known old mid new few room closing gate is written =
    let body = body_text (r.ordinal + 1) (content_text run cursor known) in
    let short : length (1 ∷ body) ≤ 4096 = omega (arith, length-body_text (r.ordinal + 1) (content_text run cursor known), length-content_text run cursor known) in
    same_but_then 4096 8192 4096 8192 4096 8192 old mid new closing (put_outside r.counting gate (1 ∷ body) mid new is short (omega (arith, closing.len)) written) (omega arith) (omega arith) (omega arith) (omega arith)
