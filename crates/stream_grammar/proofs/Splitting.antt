-- What a piece adds to what was read, and to what a window holds, for any layout.
use Rattle.std.proofs.Common.{◌≡◌, ℕ, ◌+◌, ◌-◌, ◌<◌, ◌≤◌, ◌^◌, ◌∙◌, List, [], ◌∷◌, ◌++◌, Option, Some, None, min, length, take, drop, refl, sym, ap, subst, arith, append_assoc, length-append, length-take-le, length-drop}
use Rattle.std.specs.List.{All}
use Rattle.std.specs.Prelude.{slice_range}
use Rattle.std.proofs.lemmas.List.{drop-drop, drop_at, take_all, take_at}
use Rattle.std.proofs.lemmas.List.Elements.{All-append}
use Rattle.std.proofs.Math.Seq.{take-append-add}
use Rattle.stream_grammar.specs.Filling.{window_of}
use Rattle.stream_grammar.specs.Framing.{AreSpelled}
use Rattle.stream_grammar.specs.Reading.{Format, Window, Drops, Keeps, ReadsTo, ReadsOn, taken_of}
use Rattle.stream_grammar.specs.Splitting.{Layout, Splits, Judges, Holds, Fills}
use Rattle.stream_grammar.proofs.Streams.{SpellsFirst, spelled_join}
use Rattle.stream_grammar.proofs.Windows.{first, part_whole, reads_on, split_back, split_front, take_held, takes, two_parts}

-- What ties a layout to its format, with a fault made of its place and reason.
pub record Laws {F P W E : Type 0} (p : Format F E) (l : Layout F P W) (fault_of : ℕ → W → E) : Type 0 where
  -- the rest stands in front of what follows the frames, and is all of it where there is no fault
  pub part : (tail rest : List ℕ) (now : P) (fault : Option W) → l.Stops tail rest now fault → (more : List ℕ) × (tail ≡ rest ++ more)
  pub all : (tail rest : List ℕ) (now : P) → l.Stops tail rest now None → tail ≡ rest
  pub first : SpellsFirst l.Spells
  pub starts : l.IsUnfinished [] l.fresh
  pub short : (rest : List ℕ) (now : P) → l.IsUnfinished rest now → length rest < l.room
  -- a piece goes on to its end, or to a fault
  pub stream : (fed piece held x rest : List ℕ) (before frames : List F) (at : ℕ) (now : P) → p.IsWhole fed before at held → AreSpelled l.Spells frames x → held ++ piece ≡ x ++ rest → l.IsUnfinished rest now → p.IsWhole (fed ++ piece) (before ++ frames) (at + length x) rest
  pub fault : (fed piece held x tail rest : List ℕ) (before frames : List F) (at : ℕ) (now : P) (why : W) → p.IsWhole fed before at held → AreSpelled l.Spells frames x → held ++ piece ≡ x ++ tail → l.IsUnfinished rest now → l.Stops tail rest now (Some why)
      → p.IsFaulty (fed ++ piece) (before ++ frames) (at + length x) rest (fault_of (at + length x + length rest) why)
  -- and a fault stays, whatever comes after it
  pub stays : (fed piece rest : List ℕ) (frames : List F) (at : ℕ) (e : E) → p.IsFaulty fed frames at rest e → p.IsFaulty (fed ++ piece) frames at rest e

module _ {F P W E : Type 0} {p : Format F E} {l : Layout F P W} {fault_of : ℕ → W → E} (laws : Laws p l fault_of) where
  -- what stands before the end or the fault is the frames and the rest
  pub split_parts : (b : List ℕ) (frames : List F) (end : ℕ) (now : P) (fault : Option W) (s : Splits l b frames end now fault) → (more : List ℕ) × (b ≡ (s.spelt ++ s.rest) ++ more)
  split_parts b frames end now fault s =
      let q = laws.part s.tail s.rest now fault s.stops in
      (q.0, s.joined ∙ ap (λ v. s.spelt ++ v) q.1 ∙ sym (append_assoc s.spelt s.rest q.0))

  pub split_room : (b : List ℕ) (frames : List F) (end : ℕ) (now : P) (fault : Option W) (s : Splits l b frames end now fault) → end + length s.rest ≤ length b
  split_room b frames end now fault s =
      let q = split_parts b frames end now fault s in
      omega (arith, ap length q.1, length-append (s.spelt ++ s.rest) q.0, length-append s.spelt s.rest, s.ends)

  kept_parts : (b : List ℕ) (end before : ℕ) (now : P) (fault : Option W) (k : Judges l b end before now fault) → take before b ≡ k.splits.spelt ++ k.splits.rest
  kept_parts b end before now fault k =
      let s = k.splits in
      let q = split_parts b k.frames end now fault s in
      ap (take before) q.1 ∙ take_at (s.spelt ++ s.rest) q.0 before (omega (arith, length-append s.spelt s.rest, s.ends, k.kept))

  -- what was read before, and a piece to its end
  pub splits_stream : (held piece : List ℕ) (frames : List F) (end : ℕ) (now : P) (fault : Option W) (s : Splits l (held ++ piece) frames end now fault) → fault ≡ None → (fed : List ℕ) (before : List F) (at : ℕ) → p.IsWhole fed before at held → p.IsWhole (fed ++ piece) (before ++ frames) (at + end) s.rest
  splits_stream held piece frames end now fault s none fed before at b =
      let q = laws.all s.tail s.rest now (subst (l.Stops s.tail s.rest now) none s.stops) in
      let r = laws.stream fed piece held s.spelt s.rest before frames at now b s.spelled (s.joined ∙ ap (λ v. s.spelt ++ v) q) s.unfinished in
      subst (λ n. p.IsWhole (fed ++ piece) (before ++ frames) (at + n) s.rest) s.ends r

  -- or to a fault
  pub splits_fault : (held piece : List ℕ) (frames : List F) (end : ℕ) (now : P) (fault : Option W) (why : W) (s : Splits l (held ++ piece) frames end now fault) → fault ≡ Some why → (fed : List ℕ) (before : List F) (at place : ℕ) → place ≡ at + (end + length s.rest) → p.IsWhole fed before at held
      → p.IsFaulty (fed ++ piece) (before ++ frames) (at + end) s.rest (fault_of place why)
  splits_fault held piece frames end now fault why s some fed before at place is b =
      let r = laws.fault fed piece held s.spelt s.tail s.rest before frames at now why b s.spelled s.joined s.unfinished (subst (l.Stops s.tail s.rest now) some s.stops) in
      let q : at + length s.spelt + length s.rest ≡ place = omega (arith, s.ends, is) in
      subst (λ n. p.IsFaulty (fed ++ piece) (before ++ frames) n s.rest (fault_of place why)) (ap (λ n. at + n) s.ends) (subst (λ n. p.IsFaulty (fed ++ piece) (before ++ frames) (at + length s.spelt) s.rest (fault_of n why)) q r)

  -- what a reader read goes on by a piece to its end
  pub read_on : (held piece rest : List ℕ) (waiting frames all : List F) (at end at' : ℕ) (now : P) (stop : Option W) (was is : Option E) (s : Splits l (held ++ piece) frames end now stop) → was ≡ None → stop ≡ None → all ≡ waiting ++ frames → at' ≡ at + end → rest ≡ s.rest → is ≡ None
      → (fed : List ℕ) (taken : List F) → ReadsTo p Drops fed (taken ++ waiting) at held was → ReadsTo p Drops (fed ++ piece) (taken ++ all) at' rest is
  read_on held piece rest waiting frames all at end at' now stop was is s whole none waits place left fault fed taken r =
      let b = subst (ReadsTo p Drops fed (taken ++ waiting) at held) whole r in
      let i = splits_stream held piece frames end now stop s none fed (taken ++ waiting) at b in
      let w : (taken ++ waiting) ++ frames ≡ taken ++ all = append_assoc taken waiting frames ∙ ap (λ v. taken ++ v) (sym waits) in
      let j : p.IsWhole (fed ++ piece) (taken ++ all) at' rest = rw (← w, place, left) i in
      subst (ReadsTo p Drops (fed ++ piece) (taken ++ all) at' rest) (sym fault) j

  -- or to a fault
  pub read_fault : (held piece rest : List ℕ) (waiting frames all : List F) (at end place : ℕ) (now : P) (stop : Option W) (why : W) (was is : Option E) (s : Splits l (held ++ piece) frames end now stop) → was ≡ None → stop ≡ Some why → all ≡ waiting ++ frames → place ≡ at + (end + length s.rest) → rest ≡ [] → is ≡ Some (fault_of place why)
      → (fed : List ℕ) (taken : List F) → ReadsTo p Drops fed (taken ++ waiting) at held was → ReadsTo p Drops (fed ++ piece) (taken ++ all) (at + end) rest is
  read_fault held piece rest waiting frames all at end place now stop why was is s whole some waits placed left fault fed taken r =
      let b = subst (ReadsTo p Drops fed (taken ++ waiting) at held) whole r in
      let i = splits_fault held piece frames end now stop why s some fed (taken ++ waiting) at place placed b in
      let w : (taken ++ waiting) ++ frames ≡ taken ++ all = append_assoc taken waiting frames ∙ ap (λ v. taken ++ v) (sym waits) in
      let j : p.IsFaulty (fed ++ piece) (taken ++ all) (at + end) s.rest (fault_of place why) = rw (← w) i in
      subst (ReadsTo p Drops (fed ++ piece) (taken ++ all) (at + end) rest) (sym fault) (s.rest, j, left)

  -- and adds nothing to a fault
  pub read_faulty : (held piece : List ℕ) (waiting : List F) (at : ℕ) (e : E) (was : Option E) → was ≡ Some e → (fed : List ℕ) (taken : List F) → ReadsTo p Drops fed (taken ++ waiting) at held was → ReadsTo p Drops (fed ++ piece) (taken ++ waiting) at held was
  read_faulty held piece waiting at e was q fed taken r =
      let k = subst (ReadsTo p Drops fed (taken ++ waiting) at held) q r in
      subst (ReadsTo p Drops (fed ++ piece) (taken ++ waiting) at held) (sym q) (k.0, laws.stays fed piece k.0 (taken ++ waiting) at e k.1, k.2)

  -- what a reader's fields keep to after a piece to its end
  pub holds_on : (IsFrame : F → Type 0) (b rest : List ℕ) (waiting frames all : List F) (at end : ℕ) (now : P) (fault : Option W) (s : Splits l b frames end now fault) → All IsFrame waiting → All IsFrame frames → at + length b ≤ 2 ^ 40 → all ≡ waiting ++ frames → rest ≡ s.rest → Holds l IsFrame all (at + end) rest now
  holds_on IsFrame b rest waiting frames all at end now fault s limits more room waits left = record {
    limits = rw waits (All-append IsFrame waiting frames limits more);
    room = omega (arith, room, ap length left, split_room b frames end now fault s);
    bound = omega (arith, ap length left, laws.short s.rest now s.unfinished);
    unfinished = subst (λ v. l.IsUnfinished v now) (sym left) s.unfinished;
  }

  -- and to a fault
  pub holds_fault : (IsFrame : F → Type 0) (b rest : List ℕ) (waiting frames all : List F) (at end : ℕ) (now : P) (fault : Option W) → Splits l b frames end now fault → All IsFrame waiting → All IsFrame frames → at + length b ≤ 2 ^ 40 → all ≡ waiting ++ frames → rest ≡ [] → Holds l IsFrame all (at + end) rest l.fresh
  holds_fault IsFrame b rest waiting frames all at end now fault s limits more room waits left = record {
    limits = rw waits (All-append IsFrame waiting frames limits more);
    room = omega (arith, room, ap length left, split_room b frames end now fault s);
    bound = omega (arith, ap length left, laws.short [] l.fresh laws.starts);
    unfinished = subst (λ v. l.IsUnfinished v l.fresh) (sym left) laws.starts;
  }

  -- with no fault, the frames and the rest are all
  pub split_all : (b : List ℕ) (frames : List F) (end : ℕ) (now : P) (fault : Option W) (s : Splits l b frames end now fault) → fault ≡ None → end + length s.rest ≡ length b
  split_all b frames end now fault s none =
      let q = laws.all s.tail s.rest now (subst (l.Stops s.tail s.rest now) none s.stops) in
      omega (arith, ap length s.joined, ap length q, s.ends, length-append s.spelt s.tail)

  -- with no frame whole, the rest is all
  pub rest_grows : (b : List ℕ) (frames : List F) (end : ℕ) (now : P) (fault : Option W) (s : Splits l b frames end now fault) → fault ≡ None → length frames ≡ 0 → (end ≡ 0) × (frames ≡ []) × (s.rest ≡ b)
  rest_grows b [] end now fault s none empty =
      let q = laws.all s.tail s.rest now (subst (l.Stops s.tail s.rest now) none s.stops) in
      (sym s.ends ∙ ap length s.spelled, refl, sym (s.joined ∙ ap (λ v. v ++ s.tail) s.spelled ∙ q))
  rest_grows b (f ∷ frames) end now fault s none empty = absurd (omega arith)

  -- else it is what was copied from after the frames
  pub rest_behind : (b copy : List ℕ) (frames : List F) (end to : ℕ) (now : P) (fault : Option W) (s : Splits l b frames end now fault) → fault ≡ None → to ≡ length b → copy ≡ slice_range b end to → copy ≡ s.rest
  rest_behind b copy frames end to now fault s none long is =
      let q = laws.all s.tail s.rest now (subst (l.Stops s.tail s.rest now) none s.stops) in
      let w : b ≡ s.spelt ++ s.rest = s.joined ∙ ap (λ v. s.spelt ++ v) q in
      let m : length s.rest ≤ to - end = omega (arith, long, s.ends, ap length w, length-append s.spelt s.rest) in
      is ∙ ap (take (to - end)) (ap (drop end) w ∙ drop_at s.spelt s.rest end s.ends) ∙ take_all (to - end) s.rest m

  -- What a piece makes of a window's bytes: how much of it is taken, the frames that waited and those that it completed,
  -- and what is after them.
  pub record Shifts (bytes : List ℕ) (from whole at : ℕ) (fault : Option E) (piece : List ℕ) (n end before : ℕ) (now : P) (stop : Option W) (new : List ℕ) : Type 0 where
    pub judges : Judges l (drop whole bytes ++ take n piece) end before now stop
    pub taken : n ≡ taken_of l.room (window_of bytes from whole at fault) piece
    pub fits : length (take n piece) ≤ l.room - (length bytes - from)
    pub room : at + length (drop whole bytes) + length (take n piece) ≤ 2 ^ 40
    pub front : slice_range new 0 (whole - from + end) ≡ slice_range bytes from whole ++ judges.splits.spelt
    pub back : drop (whole - from + end) new ≡ judges.splits.rest
    pub inside : whole - from + end ≤ length new
    pub count : length new ≡ whole - from + before
    pub most : before ≤ length (drop whole bytes) + length (take n piece)

  pub shifts : (bytes : List ℕ) (space from whole at : ℕ) (phase : P) (fault : Option E) (piece d : List ℕ) (held n end before : ℕ) (now : P) (stop : Option W) (new : List ℕ) → Fills l bytes space from whole at phase → d ≡ bytes → held ≡ length bytes - from → n ≡ min (length piece) (l.room - held)
      → Judges l (take (length d - whole) (drop whole d) ++ take n piece) end before now stop → new ≡ take (whole - from + before) (drop from bytes ++ take n piece) → at + length (drop whole bytes) + length piece ≤ 2 ^ 40 → Shifts bytes from whole at fault piece n end before now stop new
  shifts bytes space from whole at phase fault piece d held n end before now stop new f same holds m judged is limit =
      let x = take n piece in
      let w = slice_range bytes from whole in
      let r = drop whole bytes in
      let o = f.order in
      let i = f.inside in
      let k : Judges l (r ++ x) end before now stop = subst (λ v. Judges l (v ++ x) end before now stop) (take_held bytes d whole same) judged in
      let s = k.splits in
      let long : length x ≡ n = length-take-le n piece (omega (arith, m)) in
      let waits : length w ≡ whole - from = part_whole bytes from whole o i in
      let all : drop from bytes ++ x ≡ w ++ (r ++ x) = ap (λ v. v ++ x) (two_parts bytes from whole o) ∙ append_assoc w r x in
      let e : new ≡ (w ++ s.spelt) ++ s.rest = is ∙ ap (λ v. take (v + before) (drop from bytes ++ x)) (sym waits) ∙ ap (take (length w + before)) all ∙ take-append-add w (r ++ x) before ∙ ap (λ v. w ++ v) (kept_parts (r ++ x) end before now stop k) ∙ sym (append_assoc w s.spelt s.rest) in
      let q : length (w ++ s.spelt) ≡ whole - from + end = omega (arith, length-append w s.spelt, waits, s.ends) in
      record {
        judges = k;
        taken = m ∙ ap (λ z. min (length piece) (l.room - z)) holds ∙ takes l.room bytes from whole at fault piece o i;
        fits = omega (arith, long, holds, m);
        room = omega (arith, long, m, limit);
        front = split_front new (w ++ s.spelt) s.rest (whole - from + end) e q;
        back = split_back new (w ++ s.spelt) s.rest (whole - from + end) e q;
        inside = omega (arith, ap length e, length-append (w ++ s.spelt) s.rest, q);
        count = omega (arith, ap length e, length-append (w ++ s.spelt) s.rest, q, k.kept);
        most = omega (arith, k.kept, split_room (r ++ x) k.frames end now stop s, length-append r x);
      }

  -- the fields keep to their bounds
  pub fills_on : (bytes : List ℕ) (space from whole at : ℕ) (phase : P) (fault : Option E) (piece : List ℕ) (n end before : ℕ) (now : P) (stop : Option W) (new : List ℕ) (space' : ℕ) → Fills l bytes space from whole at phase → Shifts bytes from whole at fault piece n end before now stop new → space ≤ space' → Fills l new space' 0 (whole - from + end) (at + end) now
  fills_on bytes space from whole at phase fault piece n end before now stop new space' f s grows =
      let x = s.judges.splits in
      record {
        enough = omega (arith, f.enough);
        bound = omega (arith, s.count, s.most, s.fits, length-drop whole bytes, f.bound, f.order, f.inside);
        order = omega arith;
        inside = s.inside;
        waiting = f.waiting ++ s.judges.frames;
        spelled = subst (AreSpelled l.Spells (f.waiting ++ s.judges.frames)) (sym s.front) (spelled_join l.Spells f.waiting s.judges.frames (slice_range bytes from whole) x.spelt f.spelled x.spelled);
        room = omega (arith, ap length s.back, s.judges.kept, s.most, s.room);
        short = omega (arith, ap length s.back, laws.short x.rest now x.unfinished);
        unfinished = subst (λ v. l.IsUnfinished v now) (sym s.back) x.unfinished;
      }

  -- what a window read goes on by a piece to its end
  pub window_on : (old new : Window E) (piece : List ℕ) (end before : ℕ) (now : P) (stop : Option W) (k : Judges l (old.rest ++ piece) end before now stop) → old.fault ≡ None → stop ≡ None → new.whole ≡ old.whole ++ k.splits.spelt → new.at ≡ old.at + end → new.rest ≡ k.splits.rest → new.fault ≡ None → ReadsOn p l.Spells old piece new
  window_on old new piece end before now stop k whole none front at rest fault = reads_on p l.Spells old new piece k.splits.spelt k.frames whole k.splits.spelled front (λ fed given b.
      let i = splits_stream old.rest piece k.frames end now stop k.splits none fed given old.at b in
      let v : p.IsWhole (fed ++ piece) (given ++ k.frames) new.at new.rest = rw (at, rest) i in
      subst (ReadsTo p Keeps (fed ++ piece) (given ++ k.frames) new.at new.rest) (sym fault) v)

  -- or to a fault
  pub window_fault : (old new : Window E) (piece : List ℕ) (end before place : ℕ) (now : P) (stop : Option W) (why : W) (k : Judges l (old.rest ++ piece) end before now stop) → old.fault ≡ None → stop ≡ Some why → new.whole ≡ old.whole ++ k.splits.spelt → new.at ≡ old.at + end → new.rest ≡ k.splits.rest
      → place ≡ old.at + (end + length k.splits.rest) → new.fault ≡ Some (fault_of place why) → ReadsOn p l.Spells old piece new
  window_fault old new piece end before place now stop why k whole some front at rest is fault = reads_on p l.Spells old new piece k.splits.spelt k.frames whole k.splits.spelled front (λ fed given b.
      let i = splits_fault old.rest piece k.frames end now stop why k.splits some fed given old.at place is b in
      let v : p.IsFaulty (fed ++ piece) (given ++ k.frames) new.at new.rest (fault_of place why) = rw (at, rest) i in
      subst (ReadsTo p Keeps (fed ++ piece) (given ++ k.frames) new.at new.rest) (sym fault) (new.rest, v, refl))

  -- after the first frame is given the others wait
  pub fills_next : (bytes : List ℕ) (space from whole at n : ℕ) (now : P) (f : F) (text more : List ℕ) → Fills l bytes space from whole at now → l.Spells f text → slice_range bytes from whole ≡ text ++ more → length text ≡ n → Fills l bytes space (from + n) whole at now
  fills_next bytes space from whole at n now f text more k spelled is long =
      let i = first bytes from whole n text more is long k.order k.inside in
      let t = laws.first f k.waiting text more spelled (subst (AreSpelled l.Spells k.waiting) is k.spelled) in
      record {
        enough = k.enough;
        bound = k.bound;
        order = i.order;
        inside = k.inside;
        waiting = t.0;
        spelled = subst (AreSpelled l.Spells t.0) (sym i.others) t.2;
        room = k.room;
        short = k.short;
        unfinished = k.unfinished;
      }

-- ---- what is held, in memory of its own

held_front : (bytes : List ℕ) (from whole : ℕ) → slice_range (drop from bytes) 0 (whole - from) ≡ slice_range bytes from whole
held_front bytes from whole =
    let n : whole - from - 0 ≡ whole - from = omega arith in
    ap (λ (k : ℕ). take k (drop from bytes)) n

held_back : (bytes : List ℕ) (from whole : ℕ) → from ≤ whole → drop (whole - from) (drop from bytes) ≡ drop whole bytes
held_back bytes from whole order =
    let m : from + (whole - from) ≡ whole = omega (arith, order) in
    drop-drop (whole - from) from bytes ∙ ap (λ (k : ℕ). drop k bytes) m

-- it fills that memory as it filled the old one
pub fills_moved : {F P W : Type 0} (l : Layout F P W) (bytes : List ℕ) (space space' from whole at : ℕ) (now : P) → Fills l bytes space from whole at now
    → l.room ≤ space' → Fills l (drop from bytes) space' 0 (whole - from) at now
fills_moved l bytes space space' from whole at now k enough =
    let front = held_front bytes from whole in
    let back = held_back bytes from whole k.order in
    let n = length-drop from bytes in
    record {
      enough = enough;
      bound = omega (arith, k.bound, n);
      order = omega arith;
      inside = omega (arith, k.order, k.inside, n);
      waiting = k.waiting;
      spelled = subst (AreSpelled l.Spells k.waiting) (sym front) k.spelled;
      room = subst (λ (z : List ℕ). at + length z ≤ 2 ^ 40) (sym back) k.room;
      short = subst (λ (z : List ℕ). length z < l.room) (sym back) k.short;
      unfinished = subst (λ (z : List ℕ). l.IsUnfinished z now) (sym back) k.unfinished;
    }

-- and contracts see the same
pub window_moved : {E : Type 0} (bytes : List ℕ) (from whole at : ℕ) (fault : Option E) → from ≤ whole
    → window_of (drop from bytes) 0 (whole - from) at fault ≡ window_of bytes from whole at fault
window_moved bytes from whole at fault order = λ i. record { whole = held_front bytes from whole i; at = at; rest = held_back bytes from whole order i; fault = fault }
