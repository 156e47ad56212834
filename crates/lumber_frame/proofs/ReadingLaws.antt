-- The bytes of a stream have one reading.
use Rattle.std.proofs.Common.{◌≡◌, ℕ, ◌+◌, ◌≤◌, ◌∙◌, List, [], ◌++◌, inl, inr, Option, Some, None, length, refl, ap, arith, length-append}
use Rattle.lumber_frame.specs.declared.fault.LumberFault.{LumberFault}
use Rattle.lumber_frame.specs.declared.fault.LumberWhy.{LumberWhy}
use Rattle.lumber_frame.specs.declared.frame.LumberFrame.{LumberFrame}
use Rattle.lumber_frame.specs.declared.side.Side.{Side}
use Rattle.stream_grammar.proofs.FieldFaults.{one_fault, fault_or_none}
use Rattle.stream_grammar.specs.FieldFaults.{IsFieldStream}
use Rattle.stream_grammar.proofs.FieldReadings.{empty_field_stream, one_field_stream, some_field_reading}
use Rattle.lumber_frame.specs.Broken.{Broken}
use Rattle.lumber_frame.specs.Spelling.{Spells}
use Rattle.stream_grammar.specs.Laws.{SomeReading}
use Rattle.stream_grammar.specs.Reading.{Drops, Keeps}
use Rattle.stream_grammar.proofs.OneReading.{Decides}
use Rattle.lumber_frame.specs.Reading.{Reader, Reads, ReadsTo, format}
use Rattle.lumber_frame.proofs.FrameLaws.{lumber}
use Rattle.lumber_frame.proofs.RunLaws.{lumber_breaks}

reads_to_count : (side : Side) (fed : List ℕ) (frames : List LumberFrame) (at : ℕ) (rest : List ℕ) (fault : Option LumberFault) → ReadsTo side fed frames at rest fault → at + length rest ≤ length fed
reads_to_count side fed frames at rest None r = omega (arith, r.ends, ap length r.whole, length-append r.front rest)
reads_to_count side fed frames at rest (Some e) r =
    let i = r.1 in
    omega (arith, i.ends, ap length i.whole, length-append i.front (r.0 ++ (i.field ++ i.more)), ap length r.2)

-- the bytes before the unfinished frame, and those held, were fed
pub reads_count : (fed : List ℕ) (taken : List LumberFrame) (r : Reader) → Reads fed taken r → r.at + length r.rest ≤ length fed
reads_count fed taken r k = reads_to_count r.side fed (taken ++ r.waiting) r.at r.rest r.fault k

-- nothing is no frame and no rest
pub nothing_read : (side : Side) → IsFieldStream (Spells side) (Broken side) [] [] 0 []
nothing_read side = empty_field_stream (lumber side) (lumber_breaks side)

same_fault : (d e : LumberFault) → d.at ≡ e.at → d.why ≡ e.why → d ≡ e
same_fault d e p q =
    let f : ℕ → LumberWhy → LumberFault = λ a w. record { at = a; why = w } in
    ap (λ a. f a d.why) p ∙ ap (λ w. f e.at w) q

pub decides : (side : Side) → Decides (format side)
decides side = record {
  stream = one_field_stream (lumber side);
  fault = λ b fs gs m n h k d e i j.
      let r = one_fault (lumber side) (lumber_breaks side) b fs gs m n d.at e.at h k d.why e.why i j in
      (r.0, r.1, r.2, same_fault d e r.3 r.4);
  apart = λ b fs gs m n h k e i j. fault_or_none (lumber side) (lumber_breaks side) b fs gs m n e.at h k e.why i j;
}

pub some_kept : (side : Side) → SomeReading (format side) Keeps
some_kept side fed = elim (some_field_reading (lumber side) (lumber_breaks side) fed) [
  | inl i ↦ (i.0, i.1, i.2, None, i.3)
  | inr i ↦ (i.0, i.1, i.2, Some (record { at = i.3; why = i.4 }), (i.2, i.5, refl))
]

pub some_dropped : (side : Side) → SomeReading (format side) Drops
some_dropped side fed = elim (some_field_reading (lumber side) (lumber_breaks side) fed) [
  | inl i ↦ (i.0, i.1, i.2, None, i.3)
  | inr i ↦ (i.0, i.1, [], Some (record { at = i.3; why = i.4 }), (i.2, i.5, refl))
]
