-- What was done goes on, from one moment to the next.
use Rattle.std.proofs.Common.{◌≡◌, ℕ, ◌+◌, ◌≤◌, List, [], ◌++◌, Option, length, sym, subst, arith, append_assoc, length-append}
use Rattle.std.proofs.lemmas.List.{append-nil}
use Rattle.edge_io.proofs.Known.{appends_none, appends_then}
use Rattle.desk_access.specs.Call.{Call}
use Rattle.desk_access.specs.Step.{count}
use Rattle.conn_serve.specs.Done.{Done, Leads, LeadsBy, SoFar}
use Rattle.desk_access.proofs.Moves.{count_then}

-- where nothing was done, what was so is so
pub leads_start : {B : Type 0} (n : ℕ) (From : B → List Call → List ℕ → Type 0) → LeadsBy n From From [] []
leads_start {B} n From fed called said is from =
    subst (λ (l : List Call). From fed l (said ++ [])) (sym (append-nil called)) (subst (λ (l : List ℕ). From fed called l) (sym (append-nil said)) from)

pub done_start : {B : Type 0} (ran : List Call → Type 0) (w : Option (List ℕ)) (n : ℕ) (From : B → List Call → List ℕ → Type 0) → ran [] → Done ran w w n n (LeadsBy n From From)
done_start {B} ran w n From none = record { calls = []; text = []; made = none; wrote = appends_none w; counted = omega arith; is = leads_start n From }

pub done_then : {B : Type 0} (first second both : List Call → Type 0) (u v w : Option (List ℕ)) (l m n : ℕ) (From Between To : B → List Call → List ℕ → Type 0)
    → ((xs ys : List Call) → first xs → second ys → both (xs ++ ys)) → Done first u v l m (LeadsBy l From Between) → Done second v w m n (LeadsBy m Between To) → Done both u w l n (LeadsBy l From To)
done_then {B} first second both u v w l m n From Between To join p q = record {
  calls = p.calls ++ q.calls;
  text = p.text ++ q.text;
  made = join p.calls q.calls p.made q.made;
  wrote = appends_then u v w p.text q.text p.wrote q.wrote;
  counted = omega (arith, p.counted, q.counted, count_then p.calls q.calls);
  is = λ fed called said is from.
      let between = p.is fed called said is from in
      let counted : m ≡ count (called ++ p.calls) = omega (arith, is, p.counted, count_then called p.calls) in
      let to = q.is fed (called ++ p.calls) (said ++ p.text) counted between in
      subst (λ (calls : List Call). To fed calls (said ++ (p.text ++ q.text))) (append_assoc called p.calls q.calls)
      (subst (λ (text : List ℕ). To fed ((called ++ p.calls) ++ q.calls) text) (append_assoc said p.text q.text) to);
}

-- what was so of all that was done so far is so of it now
pub so_far_then : (ran : List Call → Type 0) (w w' : Option (List ℕ)) (n n' : ℕ) (more : ℕ) (From To : List ℕ → List Call → List ℕ → Type 0) → SoFar From n more → Done ran w w' n n' (Leads n From To) → SoFar To n' more
so_far_then ran w w' n n' more From To s d = record {
  bytes = s.bytes;
  calls = s.calls ++ d.calls;
  text = s.text ++ d.text;
  counted = omega (arith, s.counted, d.counted, count_then s.calls d.calls);
  short = s.short;
  served = d.is s.bytes s.calls s.text s.counted s.served;
}

-- a part of what may still come has come
pub so_far_fed : (n more less : ℕ) (piece : List ℕ) (From To : List ℕ → List Call → List ℕ → Type 0) → ((fed : List ℕ) (calls : List Call) (text : List ℕ) → From fed calls text → To (fed ++ piece) calls text) → length piece + less ≤ more → SoFar From n more → SoFar To n less
so_far_fed n more less piece From To on fits s = record {
  bytes = s.bytes ++ piece;
  calls = s.calls;
  text = s.text;
  counted = s.counted;
  short = omega (arith, s.short, fits, length-append s.bytes piece);
  served = on s.bytes s.calls s.text s.served;
}

-- nothing came
pub so_far_less : (n more less : ℕ) (From : List ℕ → List Call → List ℕ → Type 0) → less ≤ more → SoFar From n more → SoFar From n less
so_far_less n more less From fits s = record { bytes = s.bytes; calls = s.calls; text = s.text; counted = s.counted; short = omega (arith, s.short, fits); served = s.served }

-- what is so of what was done follows from what is
pub done_map : (ran : List Call → Type 0) (w w' : Option (List ℕ)) (n n' : ℕ) (Is Is' : List Call → List ℕ → Type 0) → Done ran w w' n n' Is → ((calls : List Call) (text : List ℕ) → Is calls text → Is' calls text) → Done ran w w' n n' Is'
done_map ran w w' n n' Is Is' d on = record { calls = d.calls; text = d.text; made = d.made; wrote = d.wrote; counted = d.counted; is = on d.calls d.text d.is }

-- nothing was done, and what is so now follows
pub done_ends : {B : Type 0} (ran : List Call → Type 0) (w : Option (List ℕ)) (n : ℕ) (From To : B → List Call → List ℕ → Type 0) → ran [] → ((fed : B) (calls : List Call) (text : List ℕ) → From fed calls text → To fed calls text) → Done ran w w n n (LeadsBy n From To)
done_ends {B} ran w n From To none on = done_map ran w w n n (LeadsBy n From From) (LeadsBy n From To) (done_start ran w n From none) (λ calls text leads fed called said counted from. on fed (called ++ calls) (said ++ text) (leads fed called said counted from))
