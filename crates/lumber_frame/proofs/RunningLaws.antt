-- What runs over frame after frame read.
use Rattle.std.proofs.Common.{◌≡◌, ℕ, ◌+◌, ◌-◌, ◌≤◌, ◌∙◌, List, [], ◌∷◌, ◌++◌, Option, Some, None, length, take, drop, refl, sym, ap, subst, length-take-le, arith, append_assoc, length-append, length-drop}
use Rattle.std.specs.List.{All}
use Rattle.std.specs.Prelude.{slice_range}
use Rattle.std.proofs.lemmas.List.{append-nil, take-append-drop, nil_from_length}
use Rattle.std.proofs.lemmas.List.Elements.{All-append, All-cons, All-nil}
use Rattle.std.proofs.Math.Seq.{take-add}
use Rattle.event_form.proofs.Numbers.{IsBytes, IsBytes-drop, IsBytes-take}
use Rattle.lumber_frame.specs.declared.fault.LumberWhy.{LumberWhy}
use Rattle.lumber_frame.specs.declared.field.Phase.{Phase}
use Rattle.lumber_frame.specs.declared.field.Whole.{Whole}
use Rattle.lumber_frame.specs.declared.frame.LumberFrame.{LumberFrame}
use Rattle.lumber_frame.specs.declared.side.Side.{Side}
use Rattle.stream_grammar.specs.Automaton.{Going, Done, Bad, run}
use Rattle.stream_grammar.specs.Framing.{AreSpelled}
use Rattle.stream_grammar.specs.Splitting.{Splits}
use Rattle.stream_grammar.proofs.FieldFaults.{field_more, field_fault}
use Rattle.stream_grammar.proofs.FieldReadings.{field_fault_stays}
use Rattle.stream_grammar.proofs.Splitting.{Laws}
use Rattle.stream_grammar.proofs.Streams.{spelled_append, spelled_first, spelled_one, spelled_run}
use Rattle.stream_grammar.proofs.Machine.{run_bad}
use Rattle.lumber_frame.specs.Reading.{fault_of, format}
use Rattle.lumber_frame.specs.Spelling.{IsFrameFor, Spells}
use Rattle.lumber_frame.specs.Machine.{At, size_of, step, start}
use Rattle.lumber_frame.specs.Places.{IsUnfinished, frame_of}
use Rattle.lumber_frame.specs.Running.{Ended, Breaks, Spans, Stops, Finds, layout}
use Rattle.lumber_frame.proofs.BytesLaws.{spells_frame}
use Rattle.lumber_frame.proofs.FrameLaws.{lumber, lumber_laws}
use Rattle.lumber_frame.proofs.RunLaws.{lumber_breaks}
use Rattle.lumber_frame.proofs.ScanLaws.{unfinished_run, reaches_front, reaches_start, stands_bound}

-- no frame was read
pub spans_none : (side : Side) (b : List ℕ) → Spans side b [] 0
spans_none side b = record { inside = omega arith; spelled = nil_from_length (take 0 b) (length-take-le 0 b (omega arith)) }

-- another frame
pub spans_on : (side : Side) (b : List ℕ) (frames : List LumberFrame) (end n : ℕ) (w : Whole) → Spans side b frames end → Ended side (drop end b) w n → Spans side b (frames ++ frame_of w (take n (drop end b)) ∷ []) (end + n)
spans_on side b frames end n w s e =
    let x = take n (drop end b) in
    let f = frame_of w x in
    record {
      inside = omega (arith, s.inside, e.inside, length-drop end b);
      spelled = subst (AreSpelled (Spells side) (frames ++ f ∷ [])) (sym (take-add end n b)) (spelled_append (lumber side) frames (f ∷ []) (take end b) x s.spelled (spelled_one (lumber side) f x e.spelled));
    }

-- as it was built
pub built : (b : List ℕ) (end n : ℕ) (w : Whole) (f : LumberFrame) → f ≡ frame_of w (slice_range b end (end + n)) → f ≡ frame_of w (take n (drop end b))
built b end n w f is = let e : end + n - end ≡ n = omega arith in is ∙ ap (λ k. frame_of w (take k (drop end b))) e

pub limits_on : (side : Side) (b : List ℕ) (frames : List LumberFrame) (end n : ℕ) (w : Whole) → IsBytes b → All (IsFrameFor side) frames → Ended side (drop end b) w n → All (IsFrameFor side) (frames ++ frame_of w (take n (drop end b)) ∷ [])
limits_on side b frames end n w bytes limits e =
    let x = take n (drop end b) in
    let f = frame_of w x in
    All-append (IsFrameFor side) frames (f ∷ []) limits (All-cons (IsFrameFor side) f [] (spells_frame side f x e.spelled (IsBytes-take n (drop end b) (IsBytes-drop end b bytes))) (All-nil (IsFrameFor side)))

-- the bytes end in a frame
pub splits_rest : (side : Side) (b : List ℕ) (frames : List LumberFrame) (end : ℕ) (now : Phase) → Spans side b frames end → IsUnfinished side (drop end b) now → (s : Splits (layout side) b frames end now None) × (end + length s.rest ≡ length b)
splits_rest side b frames end now s u = (
  record {
    spelt = take end b;
    tail = drop end b;
    rest = drop end b;
    spelled = s.spelled;
    ends = length-take-le end b s.inside;
    joined = sym (take-append-drop end b);
    unfinished = u;
    stops = refl;
  },
  omega (arith, s.inside, length-drop end b),
)

-- or a field of one breaks a rule
pub splits_bad : (side : Side) (b : List ℕ) (frames : List LumberFrame) (end : ℕ) (now : Phase) (why : LumberWhy) → Spans side b frames end → Breaks side (drop end b) now why → (s : Splits (layout side) b frames end now (Some why)) × (now.at ≡ length s.rest)
splits_bad side b frames end now why s k =
    let t = drop end b in
    let h = take now.at t in
    let n = size_of now.field in
    let f = take n (drop now.at t) in
    let m = drop n (drop now.at t) in
    let l : length h ≡ now.at = length-take-le now.at t k.reaches.inside in (
      record {
        spelt = take end b;
        tail = t;
        rest = h;
        spelled = s.spelled;
        ends = length-take-le end b s.inside;
        joined = sym (take-append-drop end b);
        unfinished = reaches_front side t now k.reaches;
        stops = (f, m, l, sym (take-append-drop now.at t) ∙ ap (λ v. h ++ v) (sym (take-append-drop n (drop now.at t))), k.broken);
      },
      sym l,
    )

-- how what was read ties to the layout's format
stops_part : (side : Side) (tail rest : List ℕ) (now : Phase) (fault : Option LumberWhy) → Stops side tail rest now fault → (more : List ℕ) × (tail ≡ rest ++ more)
stops_part side tail rest now None q = ([], q ∙ sym (append-nil rest))
stops_part side tail rest now (Some why) q = (q.0 ++ q.1, q.3)

pub lumber_splits : (side : Side) → Laws (format side) (layout side) fault_of
lumber_splits side = record {
  part = stops_part side;
  all = λ tail rest now q. q;
  first = spelled_first (lumber side);
  starts = record { reaches = reaches_start side []; short = omega arith };
  short = λ rest now u. omega (arith, u.short, stands_bound now.field now.at u.reaches.stands);
  stream = λ fed piece held x rest before frames at now b a w u. field_more (lumber side) (lumber_breaks side) (At now.field (drop 10 (take now.at rest)) (drop now.at rest)) fed piece x rest held before frames at b a w (unfinished_run side rest now u);
  fault = λ fed piece held x tail rest before frames at now why b a w u q. field_fault (lumber side) (lumber_breaks side) fed piece x rest q.0 q.1 held why before frames at b a (w ∙ ap (λ v. x ++ v) q.3) q.4;
  stays = λ fed piece rest frames at e i. field_fault_stays piece i;
}

-- a place of the bytes held and the piece, and of those from a frame's first one on
pub within : (held piece : List ℕ) (begin n : ℕ) → n ≤ length held + length piece - begin → n ≤ length (drop begin (held ++ piece))
within held piece begin n l = omega (arith, l, length-drop begin (held ++ piece), length-append held piece)

pub within_back : (held piece : List ℕ) (begin n : ℕ) → begin ≤ length (held ++ piece) → n ≤ length (drop begin (held ++ piece)) → begin + n ≤ length held + length piece
within_back held piece begin n o l = omega (arith, o, l, length-drop begin (held ++ piece), length-append held piece)

-- ---- the first of some frames

pub all_of : (b : List ℕ) → drop 0 ([] ++ b) ≡ b
all_of [] = refl
all_of (c ∷ b) = refl

pub finds_ends : (side : Side) (b : List ℕ) (w : Whole) (n : ℕ) → IsBytes b → Ended side b w n → Finds side b w n
finds_ends side b w n bytes e = record {
  text = take n b;
  more = drop n b;
  spelled = e.spelled;
  whole = sym (take-append-drop n b);
  long = length-take-le n b e.inside;
  limits = spells_frame side (frame_of w (take n b)) (take n b) e.spelled (IsBytes-take n b bytes);
  behind = e.behind;
}

-- frames don't end within one
pub finds_rest : (side : Side) (b : List ℕ) (now : Phase) (frames : List LumberFrame) → AreSpelled (Spells side) frames b → IsUnfinished side b now → b ≡ []
finds_rest side b now [] a u = a
finds_rest side b now (f ∷ fs) a u =
    let r : run (step side) start b ≡ Going (At now.field (drop 10 (take now.at b)) (drop now.at b)) = unfinished_run side b now u in
    let d : run (step side) start (a.0 ++ a.1) ≡ Done f a.1 = spelled_run (lumber side) f a.0 a.1 a.2 in
    let q : run (step side) start (a.0 ++ a.1) ≡ run (step side) start b = ap (run (step side) start) (sym a.3) in
    cc

-- nor has one a field that breaks a rule
pub finds_bad : (side : Side) (b : List ℕ) (why : LumberWhy) (now : Phase) (frames : List LumberFrame) → AreSpelled (Spells side) frames b → Breaks side b now why → b ≡ []
finds_bad side b why now [] a k = a
finds_bad side b why now (f ∷ fs) a k =
    let h = take now.at b in
    let n = size_of now.field in
    let x = take n (drop now.at b) in
    let m = drop n (drop now.at b) in
    let w : b ≡ (h ++ x) ++ m = sym (take-append-drop now.at b) ∙ ap (λ v. h ++ v) (sym (take-append-drop n (drop now.at b))) ∙ sym (append_assoc h x m) in
    let r : run (step side) start ((h ++ x) ++ m) ≡ Bad why m = run_bad (lumber_laws side) start why (h ++ x) [] m ((lumber_breaks side).breaks h x why k.broken) in
    let d : run (step side) start (a.0 ++ a.1) ≡ Done f a.1 = spelled_run (lumber side) f a.0 a.1 a.2 in
    let q : run (step side) start (a.0 ++ a.1) ≡ run (step side) start ((h ++ x) ++ m) = ap (run (step side) start) (sym a.3 ∙ w) in
    cc
