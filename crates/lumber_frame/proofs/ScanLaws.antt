-- How a run over a frame goes on by a whole field, and what was read when it stops.
use Rattle.std.proofs.Common.{◌≡◌, ℕ, ◌+◌, ◌-◌, ◌<◌, ◌≤◌, ◌∙◌, List, [], ◌++◌, length, take, drop, refl, sym, ap, subst, length-take-le, arith, length-append, length-drop}
use Rattle.std.specs.Prelude.{slice_range}
use Rattle.std.proofs.lemmas.List.{append-nil, take-append-le, take_all, take-append-drop, drop-drop, nil_from_length}
use Rattle.std.proofs.Math.Seq.{take-add}
use Rattle.lumber_frame.specs.declared.fault.LumberWhy.{LumberWhy}
use Rattle.lumber_frame.specs.declared.field.Field.{Field}
use Rattle.lumber_frame.specs.declared.field.Field.TheVariants.{VersionByte, TypeByte, WindowSize, AckSequence, PairsSequence, JsonSequence, PairCount, PayloadLength, Payload, KeyLength, Key, ValueLength, Value}
use Rattle.lumber_frame.specs.declared.field.Phase.{Phase}
use Rattle.lumber_frame.specs.declared.field.Turn.TheVariants.{Done}
use Rattle.lumber_frame.specs.declared.field.Whole.{Whole}
use Rattle.lumber_frame.specs.declared.side.Side.{Side}
use Rattle.stream_grammar.specs.Automaton.{Goes, Ends, Fails, Going, then, run}
use Rattle.stream_grammar.proofs.Machine.{going_run, completed_run}
use Rattle.lumber_frame.specs.Spelling.{Spells}
use Rattle.lumber_frame.specs.Machine.{At, size_of, value_of, turn, step, start, Completes}
use Rattle.lumber_frame.specs.Places.{Stands, StandsBehind, Reaches, IsUnfinished, frame_of}
use Rattle.lumber_frame.specs.Running.{Ended, Breaks}
use Rattle.lumber_frame.proofs.BeforeLaws.{turn_broken}
use Rattle.lumber_frame.proofs.FrameLaws.{lumber, lumber_laws, start_good}
use Rattle.lumber_frame.proofs.RunLaws.{run_part, run_whole}

-- a field has bytes
pub stands_some : (field : Field) (at : ℕ) → Stands field at → 0 < size_of field
stands_some VersionByte at s = omega arith
stands_some TypeByte at s = omega arith
stands_some WindowSize at s = omega arith
stands_some AckSequence at s = omega arith
stands_some PairsSequence at s = omega arith
stands_some JsonSequence at s = omega arith
stands_some (PairCount seq) at s = omega arith
stands_some (PayloadLength seq) at s = omega arith
stands_some (Payload seq len) at s = s.1
stands_some (KeyLength seq left) at s = omega arith
stands_some (Key seq left len) at s = s.1
stands_some (ValueLength seq left) at s = omega arith
stands_some (Value seq left len) at s = s.1

-- and ends soon enough
pub stands_bound : (field : Field) (at : ℕ) → Stands field at → at + size_of field ≤ 131086
stands_bound VersionByte at s = omega (arith, s)
stands_bound TypeByte at s = omega (arith, s)
stands_bound WindowSize at s = omega (arith, s)
stands_bound AckSequence at s = omega (arith, s)
stands_bound PairsSequence at s = omega (arith, s)
stands_bound JsonSequence at s = omega (arith, s)
stands_bound (PairCount seq) at s = omega (arith, s)
stands_bound (PayloadLength seq) at s = omega (arith, s)
stands_bound (Payload seq len) at s = omega (arith, s.0, s.2)
stands_bound (KeyLength seq left) at s = omega (arith, s.1)
stands_bound (Key seq left len) at s = omega (arith, s.2)
stands_bound (ValueLength seq left) at s = omega (arith, s.1)
stands_bound (Value seq left len) at s = omega (arith, s.2)

-- ---- up to a field

-- at a frame's first byte
pub reaches_start : (side : Side) (b : List ℕ) → Reaches side b (record { field = VersionByte; at = 0 })
reaches_start side b =
    let e : take 0 b ≡ [] = nil_from_length (take 0 b) (length-take-le 0 b (omega arith)) in
    record { stands = refl; inside = omega arith; runs = rw e refl }

-- more bytes change nothing
pub reaches_more : (side : Side) (b c : List ℕ) (now : Phase) → Reaches side b now → Reaches side (b ++ c) now
reaches_more side b c now r =
    let e : take now.at (b ++ c) ≡ take now.at b = take-append-le now.at b c r.inside in
    record {
      stands = r.stands;
      inside = omega (arith, r.inside, length-append b c);
      runs = subst (λ v. run (step side) start v ≡ Going (At now.field (drop 10 v) [])) (sym e) r.runs;
    }

-- nor do fewer, down to the field's place
pub reaches_front : (side : Side) (b : List ℕ) (now : Phase) → Reaches side b now → IsUnfinished side (take now.at b) now
reaches_front side b now r =
    let l : length (take now.at b) ≡ now.at = length-take-le now.at b r.inside in
    let e : take now.at (take now.at b) ≡ take now.at b = take_all now.at (take now.at b) (omega (arith, l)) in
    record {
      reaches = record {
        stands = r.stands;
        inside = omega (arith, l);
        runs = subst (λ v. run (step side) start v ≡ Going (At now.field (drop 10 v) [])) (sym e) r.runs;
      };
      short = omega (arith, l, stands_some now.field now.at r.stands);
    }

-- an unfinished frame leaves the machine going
pub unfinished_run : (side : Side) (b : List ℕ) (now : Phase) → IsUnfinished side b now → run (step side) start b ≡ Going (At now.field (drop 10 (take now.at b)) (drop now.at b))
unfinished_run side b now u =
    let h = take now.at b in
    let own = drop now.at b in
    let r = u.reaches in
    let k : length own ≡ length b - now.at = length-drop now.at b in
    ap (run (step side) start) (sym (take-append-drop now.at b)) ∙ going_run (lumber_laws side) start (At now.field (drop 10 h) []) h own r.runs ∙ run_part side now.field (drop 10 h) [] own (omega (arith, k, u.short, r.inside))

-- ---- a whole field

-- What stands before the field, the field, and what the machine makes of both.
pub record FieldEnd (side : Side) (b : List ℕ) (now : Phase) (h field : List ℕ) : Type 0 where
  pub place : length h ≡ now.at
  pub size : length field ≡ size_of now.field
  pub some : 0 < length field
  pub whole : take (now.at + size_of now.field) b ≡ h ++ field
  pub runs : run (step side) start (h ++ field) ≡ then (turn side now.field (drop 10 h) field (value_of now.field field)) (λ u. run (step side) u []) []

pub field_end : (side : Side) (b : List ℕ) (now : Phase) → Reaches side b now → now.at + size_of now.field ≤ length b → FieldEnd side b now (take now.at b) (take (size_of now.field) (drop now.at b))
field_end side b now r l =
    let h = take now.at b in
    let n = size_of now.field in
    let f = take n (drop now.at b) in
    let k : length f ≡ n = length-take-le n (drop now.at b) (omega (arith, length-drop now.at b)) in
    let some : 0 < length f = omega (arith, k, stands_some now.field now.at r.stands) in
    record {
      place = length-take-le now.at b r.inside;
      size = k;
      some = some;
      whole = take-add now.at n b;
      runs = going_run (lumber_laws side) start (At now.field (drop 10 h) []) h f r.runs ∙ ap (run (step side) (At now.field (drop 10 h) [])) (sym (append-nil f)) ∙ run_whole side now.field (drop 10 h) [] f [] some (omega (arith, k));
    }

-- a field with which the frame goes on
pub reaches_go : (side : Side) (b : List ℕ) (now : Phase) (field : Field) → Reaches side b now → now.at + size_of now.field ≤ length b → Stands field (now.at + size_of now.field) → Goes (At field (drop 10 (take now.at b ++ take (size_of now.field) (drop now.at b))) []) ≡ turn side now.field (drop 10 (take now.at b)) (take (size_of now.field) (drop now.at b)) (value_of now.field (take (size_of now.field) (drop now.at b))) → Reaches side b (record { field = field; at = now.at + size_of now.field })
reaches_go side b now field r l stands q =
    let e = field_end side b now r l in
    record {
      stands = stands;
      inside = l;
      runs = subst (λ v. run (step side) start v ≡ Going (At field (drop 10 v) [])) (sym e.whole) (e.runs ∙ ap (λ p. then p (λ u. run (step side) u []) []) (sym q));
    }

-- one with which it ends
pub ends_done : (side : Side) (b : List ℕ) (now : Phase) (w : Whole) → Reaches side b now → now.at + size_of now.field ≤ length b → StandsBehind (Done w) (now.at + size_of now.field) → Ends (frame_of w (take now.at b ++ take (size_of now.field) (drop now.at b))) ≡ turn side now.field (drop 10 (take now.at b)) (take (size_of now.field) (drop now.at b)) (value_of now.field (take (size_of now.field) (drop now.at b))) → Ended side b w (now.at + size_of now.field)
ends_done side b now w r l stands q =
    let e = field_end side b now r l in
    let h = take now.at b ++ take (size_of now.field) (drop now.at b) in
    let f = frame_of w h in
    let d : run (step side) start h ≡ then (Ends f) (λ u. run (step side) u []) [] = e.runs ∙ ap (λ p. then p (λ u. run (step side) u []) []) (sym q) in
    let c = completed_run (lumber_laws side) start f h [] start_good d in
    let z : Spells side f h = ((lumber side).same f h).1 (subst (Completes side start f) (sym (c.2 ∙ append-nil c.0)) c.1) in
    record {
      some = omega (arith, stands_some now.field now.at r.stands);
      inside = l;
      behind = stands;
      spelled = subst (λ v. Spells side (frame_of w v) v) (sym e.whole) z;
    }

-- one that breaks a rule
pub breaks_bad : (side : Side) (b : List ℕ) (now : Phase) (why : LumberWhy) → Reaches side b now → now.at + size_of now.field ≤ length b → Fails why ≡ turn side now.field (drop 10 (take now.at b)) (take (size_of now.field) (drop now.at b)) (value_of now.field (take (size_of now.field) (drop now.at b))) → Breaks side b now why
breaks_bad side b now why r l q =
    let e = field_end side b now r l in
    let h = take now.at b in
    let reached : run (step side) start (h ++ []) ≡ Going (At now.field (drop 10 h) []) = ap (run (step side) start) (append-nil h) ∙ r.runs in
    record {
      reaches = r;
      whole = l;
      broken = turn_broken side now.field (drop 10 h) h [] (take (size_of now.field) (drop now.at b)) why reached e.size (sym q);
    }

-- the field, as a range of all bytes
pub field_range : (all : List ℕ) (begin at n : ℕ) → take n (drop at (drop begin all)) ≡ slice_range all (begin + at) (begin + at + n)
field_range all begin at n =
    let e : begin + at + n - (begin + at) ≡ n = omega arith in
    ap (take n) (drop-drop at begin all) ∙ ap (λ k. take k (drop (begin + at) all)) (sym e)
