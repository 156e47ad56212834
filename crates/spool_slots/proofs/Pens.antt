-- A text that is written by way of a buffer.
use Rattle.std.proofs.Common.{◌≡◌, inl, inr, ℕ, ◌+◌, ◌-◌, ◌≤◌, List, [], ◌++◌, length, take, drop, refl, sym, ◌∙◌, ap, arith, append_assoc, length-append}
use Rattle.std.proofs.lemmas.Bool.{cases_lt}
use Rattle.std.proofs.lemmas.List.{append-nil, ext_get_or, take_at, length-take-le, get_or_append_left, get_or-append-add}
use Rattle.foundation.specs.Bytes.{put, SameBut}
use Rattle.foundation.proofs.Bytes.{length-put, put_below, put_above, put_at, same_but_then, same_but_wider, same_but_refl}
use Rattle.edge_disk.specs.Disk.{Moment, IsLawful, LeavesOnly}
use Rattle.edge_disk.specs.Gate.{ComesFrom}
use Rattle.edge_disk.specs.Leave.{TearsOn, Lets}
use Rattle.edge_disk.proofs.Moments.{both, started, weaker}
use Rattle.edge_disk.proofs.Leaving.{lets_as}
use Rattle.spool_slots.specs.Pen.{HasWritten, GoesFilling}

-- the buffer's front after a piece was put after it
pub front_put : (filled : ℕ) (piece buffer : List ℕ) → filled + length piece ≤ length buffer → take (filled + length piece) (put filled piece buffer) ≡ take filled buffer ++ piece
front_put filled piece buffer room =
    let front = length-take-le filled buffer (omega arith) in
    let joined : put filled piece buffer ≡ (take filled buffer ++ piece) ++ drop (filled + length piece) buffer = refl in
    ap (take (filled + length piece)) joined ∙ take_at (take filled buffer ++ piece) (drop (filled + length piece) buffer) (filled + length piece) (omega (arith, length-append (take filled buffer) piece))

-- one piece put after another
pub put_then : (at k : ℕ) (first second base : List ℕ) → k ≡ at + length first → k + length second ≤ length base → put k second (put at first base) ≡ put at (first ++ second) base
put_then at k first second base is room =
    let long = length-append first second in
    let l1 : length (put at first base) ≡ length base = length-put at first base (omega arith) in
    let l2 : length (put k second (put at first base)) ≡ length (put at first base) = length-put k second (put at first base) (omega arith) in
    let l3 : length (put at (first ++ second) base) ≡ length base = length-put at (first ++ second) base (omega arith) in
    ext_get_or 0 _ _ (l2 ∙ l1 ∙ sym l3) (λ i lt. elim (cases_lt i at) [
      | inl below ↦ put_below k second (put at first base) i (omega arith) (omega arith) ∙ put_below at first base i (omega arith) below ∙ sym (put_below at (first ++ second) base i (omega arith) below)
      | inr ge ↦ elim (cases_lt i k) [
        | inl within ↦
            put_below k second (put at first base) i (omega arith) within
            ∙ put_at at first base (i - at) i (omega arith) (omega arith) (omega arith)
            ∙ sym (get_or_append_left first second 0 (i - at) (omega arith))
            ∙ sym (put_at at (first ++ second) base (i - at) i (omega arith) (omega arith) (omega arith))
        | inr behind ↦ elim (cases_lt i (k + length second)) [
          | inl in_second ↦
              put_at k second (put at first base) (i - k) i (omega arith) (omega arith) (omega arith)
              ∙ sym (get_or-append-add first second (i - k) 0)
              ∙ sym (put_at at (first ++ second) base (length first + (i - k)) i (omega arith) (omega arith) (omega arith))
          | inr past ↦
              put_above k second (put at first base) i (omega arith) past ∙ put_above at first base i (omega arith) (omega arith) ∙ sym (put_above at (first ++ second) base i (omega arith) (omega arith))
        ]
      ]
    ])

-- before the first byte
pub none_written : (start : ℕ) (base buffer : List ℕ) → start ≤ length base → HasWritten start base [] start 0 buffer base
none_written start base buffer room = record {
  written = [];
  whole = refl;
  here = omega arith;
  fits = omega arith;
  on_disk = ext_get_or 0 base (put start [] base) (sym (length-put start [] base (omega arith))) (λ i lt. elim (cases_lt i start) [
    | inl below ↦ sym (put_below start [] base i (omega arith) below)
    | inr ge ↦ sym (put_above start [] base i (omega arith) (omega arith))
  ]);
}

-- a piece in the buffer
pub more_waits : (start : ℕ) (base text : List ℕ) (at filled n : ℕ) (buffer reads piece : List ℕ) → HasWritten start base text at filled buffer reads → n ≡ length piece → filled + n ≤ length buffer
    → HasWritten start base (text ++ piece) at (filled + n) (put filled piece buffer) reads
more_waits start base text at filled n buffer reads piece has is room = record {
  written = has.written;
  whole = ap (λ (l : List ℕ). l ++ piece) has.whole ∙ append_assoc has.written (take filled buffer) piece
      ∙ ap (λ (l : List ℕ). has.written ++ l) (sym (front_put filled piece buffer (omega arith)) ∙ ap (λ (k : ℕ). take (filled + k) (put filled piece buffer)) (sym is));
  here = has.here;
  fits = has.fits;
  on_disk = has.on_disk;
}

-- the buffer's front written
pub is_written : (start : ℕ) (base text : List ℕ) (at filled : ℕ) (buffer reads now next : List ℕ) → HasWritten start base text at filled buffer reads → at + filled ≤ length reads → filled ≤ length buffer → now ≡ put at (take filled buffer) reads
    → HasWritten start base text (at + filled) 0 next now
is_written start base text at filled buffer reads now next has room le is =
    let front = length-take-le filled buffer le in
    let long : length reads ≡ length base = ap length has.on_disk ∙ length-put start has.written base has.fits in
    record {
      written = has.written ++ take filled buffer;
      whole = has.whole ∙ sym (append-nil (has.written ++ take filled buffer));
      here = omega (arith, has.here, length-append has.written (take filled buffer));
      fits = omega (arith, has.here, length-append has.written (take filled buffer));
      on_disk = is ∙ ap (put at (take filled buffer)) has.on_disk ∙ put_then start at has.written (take filled buffer) base has.here (omega arith);
    }

-- all of it on the disk
pub all_written : (start : ℕ) (base text : List ℕ) (at : ℕ) (buffer reads : List ℕ) → HasWritten start base text at 0 buffer reads → reads ≡ put start text base
all_written start base text at buffer reads has = has.on_disk ∙ ap (λ (l : List ℕ). put start l base) (sym (has.whole ∙ append-nil has.written))

-- ---- what a crash leaves

-- one run of writes after another, both in a range
pub run_then : (at n i k : ℕ) (m mid new : Moment) → at ≤ i → i + k ≤ at + n → LeavesOnly (ComesFrom m (SameBut at n)) m mid → LeavesOnly (ComesFrom mid (SameBut i k)) mid new → LeavesOnly (ComesFrom m (SameBut at n)) m new
run_then at n i k m mid new h1 h2 before after =
    both _ _ (ComesFrom m (SameBut at n)) m mid new before after (λ c p. p) (λ c q.
    let p = before.now q.0 q.1 in
    (p.0, p.1, same_but_then at n at n i k p.0 q.0 c p.2 q.2 (omega arith) (omega arith) h1 h2))

-- in a wider range
pub run_wider : (at n i k : ℕ) (m new : Moment) → at ≤ i → i + k ≤ at + n → LeavesOnly (ComesFrom m (SameBut i k)) m new → LeavesOnly (ComesFrom m (SameBut at n)) m new
run_wider at n i k m new h1 h2 run = weaker _ _ m new run (λ c q. (q.0, q.1, same_but_wider at n i k q.0 c q.2 h1 h2))

-- no call yet
pub none_run : (at n : ℕ) (m : Moment) → IsLawful m → LeavesOnly (ComesFrom m (SameBut at n)) m m
none_run at n m lawful = started (ComesFrom m (SameBut at n)) m lawful (λ c i. (c, i, same_but_refl at n c))

-- ---- leave for it

-- what a write in the range may tear, before any other
pub tears_first : (at n i k : ℕ) (m : Moment) → at ≤ i → i + k ≤ at + n → TearsOn (GoesFilling m at n) m i k
tears_first at n i k m h1 h2 = λ d torn image same. ∣ (d, image, record { from = d; was = image; before = same_but_refl at n d; after = same_but_wider at n i k d torn same h1 h2 }) ∣₁

-- after some writes in a range there is leave for more in it
pub lets_more : {D : Type 0} (tells : Type 0) (moment : D → Moment) (may : D → ℕ → ℕ → Type 0) (at n i k : ℕ) (m mid : Moment) → at ≤ i → i + k ≤ at + n → (tells → LeavesOnly (ComesFrom m (SameBut at n)) m mid) → Lets tells moment may (GoesFilling m at n) → Lets tells moment may (GoesFilling mid i k)
lets_more tells moment may at n i k m mid h1 h2 run lets =
    lets_as tells moment may (GoesFilling mid i k) (GoesFilling m at n) (λ t now torn goes.
    let first = (run t).now goes.from goes.was in
    ∣ record {
      from = first.0;
      was = first.1;
      before = same_but_then at n at n i k first.0 goes.from now first.2 goes.before (omega arith) (omega arith) h1 h2;
      after = same_but_wider at n i k now torn goes.after h1 h2;
    } ∣₁) lets
