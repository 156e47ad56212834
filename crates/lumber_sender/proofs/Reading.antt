-- The receiver's frames and their places: each is an acknowledgment, of six bytes.
use Rattle.std.proofs.Common.{◌≡◌, ℕ, ◌+◌, ◌*◌, ◌≤◌, ◌^◌, ◌∙◌, List, [], ◌∷◌, ◌++◌, length, refl, sym, ap, subst, arith, length-append}
use Rattle.std.specs.Prelude.{Option, Some, None}
use Rattle.lumber_frame.specs.declared.fault.LumberFault.{LumberFault}
use Rattle.lumber_frame.specs.declared.frame.LumberFrame.{LumberFrame}
use Rattle.lumber_frame.specs.declared.frame.LumberFrame.TheVariants.{Window, Pairs, Json, Ack}
use Rattle.lumber_frame.specs.declared.side.Side.{Side}
use Rattle.lumber_frame.specs.declared.side.Side.TheVariants as side
use Rattle.lumber_frame.specs.Reading.{Reader, Reads, ReadsTo, ReadsOn}
use Rattle.lumber_frame.specs.Spelling.{Spells}
use Rattle.stream_grammar.specs.Framing.{AreSpelled}
use Rattle.lumber_sender.specs.Sender.{Sender, Keeps, HasHeard}
use Rattle.lumber_sender.specs.Sends.{EndAt}

ack_length : (f : LumberFrame) (b : List ℕ) → Spells side.Sender f b → length b ≡ 6
ack_length (Window size) b h = absurd h.0
ack_length (Pairs seq text) b h = absurd h.0
ack_length (Json seq text) b h = absurd h.0
ack_length (Ack seq) b h = omega (arith, ap length h.1.1, h.1.2.four)

pub acks_length : (fs : List LumberFrame) (b : List ℕ) → AreSpelled (Spells side.Sender) fs b → length b ≡ 6 * length fs
acks_length [] b h = ap length h
acks_length (f ∷ fs) b h = omega (arith, ack_length f h.0 h.2, ap length h.3, length-append h.0 h.1, acks_length fs h.1 h.4)

first_spelled : (fs gs : List LumberFrame) (b : List ℕ) → AreSpelled (Spells side.Sender) (fs ++ gs) b → (x : List ℕ) × AreSpelled (Spells side.Sender) fs x
first_spelled [] gs b h = ([], refl)
first_spelled (f ∷ fs) gs b h = let r = first_spelled fs gs h.1 h.4 in (h.0 ++ r.0, (h.0, r.0, h.2, refl, r.1))

spelled_of : (fed : List ℕ) (frames : List LumberFrame) (at : ℕ) (rest : List ℕ) (fault : Option LumberFault) → ReadsTo side.Sender fed frames at rest fault → EndAt frames at
spelled_of fed frames at rest None r = (r.front, r.spelled, r.ends)
spelled_of fed frames at rest (Some e) r = let i = r.1 in (i.front, i.spelled, i.ends)

reads_spelled : (fed : List ℕ) (taken : List LumberFrame) (r : Reader) → r.side ≡ side.Sender → Reads fed taken r → EndAt (taken ++ r.waiting) r.at
reads_spelled fed taken r is h = spelled_of fed (taken ++ r.waiting) r.at r.rest r.fault (subst (λ (s : Side). ReadsTo s fed (taken ++ r.waiting) r.at r.rest r.fault) is h)

-- the place of the frame after those taken
pub place_of : (fed : List ℕ) (taken : List LumberFrame) (r : Reader) (heard : ℕ) → r.side ≡ side.Sender → heard ≡ length taken → Reads fed taken r → EndAt taken (6 * heard)
place_of fed taken r heard is count h =
    let all = reads_spelled fed taken r is h in
    let x = first_spelled taken r.waiting all.0 all.1 in
    (x.0, x.1, acks_length taken x.0 x.1 ∙ ap (λ (n : ℕ). 6 * n) (sym count))

-- so its number fits
pub heard_bound : (s : Sender) → Keeps s → 6 * s.heard ≤ 2 ^ 40
heard_bound s k =
    let h = k.heard in
    let all = reads_spelled h.fed h.taken s.reader k.side h.reads in
    omega (arith, acks_length (h.taken ++ s.reader.waiting) all.0 all.1, all.2, length-append h.taken s.reader.waiting, h.count, k.bound)

-- the frame that was taken from a reader
pub record Took (old : Reader) (f : LumberFrame) (new : Reader) : Type 0 where
  pub reads : (fed : List ℕ) (taken : List LumberFrame) → Reads fed taken old → Reads fed (taken ++ f ∷ []) new
  pub same : new ≡ record old { waiting = new.waiting }

pub heard_more : (s t : Sender) (f : LumberFrame) → Took s.reader f t.reader → t.heard ≤ s.heard + 1 → HasHeard s → HasHeard t
heard_more s t f took count h = record { fed = h.fed; taken = h.taken ++ f ∷ []; reads = took.reads h.fed h.taken h.reads; count = omega (arith, count, h.count, length-append h.taken (f ∷ [])) }

pub heard_fed : (s t : Sender) (piece : List ℕ) → ReadsOn s.reader piece t.reader → t.heard ≡ s.heard → HasHeard s → HasHeard t
heard_fed s t piece on count h = record { fed = h.fed ++ piece; taken = h.taken; reads = on h.fed h.taken h.reads; count = omega (arith, count, h.count) }

pub heard_same : (s t : Sender) → t.reader ≡ s.reader → t.heard ≡ s.heard → HasHeard s → HasHeard t
heard_same s t is count h = record { fed = h.fed; taken = h.taken; reads = subst (Reads h.fed h.taken) (sym is) h.reads; count = omega (arith, count, h.count) }
