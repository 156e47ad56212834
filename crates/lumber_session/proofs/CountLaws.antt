-- What a core tells of a frame, and what it counts after it.
use Rattle.std.proofs.Common.{◌≡◌, ℕ, zero, suc, ◌+◌, ◌-◌, ◌↔◌, inl, inr, ◌∙◌, Bool, true, false, List, [], ◌∷◌, ◌++◌, length, refl, sym, ap, subst, arith, length-append}
use Rattle.std.specs.Prelude.{IsTrue}
use Rattle.std.proofs.lemmas.List.{append-nil}
use Rattle.std.proofs.lemmas.List.Elements.{All-nil}
use Rattle.std.proofs.lemmas.List.Sums.{sum_by_push}
use Rattle.std.proofs.lemmas.Bool.{false≢true}
use Rattle.lumber_frame.specs.declared.frame.LumberFrame.{LumberFrame}
use Rattle.lumber_frame.specs.declared.frame.LumberFrame.TheVariants.{Window, Pairs, Json}
use Rattle.lumber_session.specs.Staged.{Staged, data_event, json_event, staged_by, staged, bytes_of}
use Rattle.lumber_session.specs.Windows.{BeginsNone, NextCompletes, HasLeft}
use Rattle.lumber_session.specs.Batches.{Ends, EndsData}
use Rattle.lumber_session.specs.Counting.{Core, unused, CountsFor, IsBehind, Opened, Counted}
use Rattle.lumber_session.specs.Acts.{Tells, act_of}
use Rattle.lumber_session.proofs.WindowLaws.{staged_push, completes, completes_only, left_on, left_new}
use Rattle.lumber_session.proofs.CutLaws.{nowhere_none, cut_whole, cut_on, cut_end}

pub behind_none : IsBehind [] unused
behind_none = record {
  batches = [];
  rest = [];
  cut = (refl, nowhere_none []);
  left = inl (All-nil BeginsNone, refl);
  counts = λ d. record { frames = refl; bytes = refl };
  ended = λ d. refl;
}

-- a frame, and whether a batch ends with it
pub record Next (frames : List LumberFrame) (old : Core) (b : IsBehind frames old) (f : LumberFrame) (ends : Bool) : Type 0 where
  pub before : List LumberFrame
  pub whole : frames ≡ before ++ b.rest
  pub exactly : IsTrue ends ↔ Ends before b.rest f

pub tells_next : (frames : List LumberFrame) (old : Core) (b : IsBehind frames old) (f : LumberFrame) (ends : Bool) → Next frames old b f ends → Tells frames f (act_of f ends)
tells_next frames old b f ends n = record { batches = b.batches; before = n.before; rest = b.rest; cut = b.cut; whole = n.whole; ends = ends; exactly = n.exactly; told = refl }

pub behind_next : (frames : List LumberFrame) (old new : Core) (b : IsBehind frames old) (f : LumberFrame) (ends : Bool) → Next frames old b f ends → HasLeft (frames ++ f ∷ []) new.left → new.due ≡ ends → CountsFor new (b.rest ++ f ∷ []) → IsBehind (frames ++ f ∷ []) new
behind_next frames old new b f true n left due counts = record {
  batches = b.batches ++ (b.rest ++ f ∷ []) ∷ [];
  rest = [];
  cut = cut_end [] frames b.batches b.rest n.before f b.cut n.whole (n.exactly.0 refl);
  left = left;
  counts = λ d. absurd (false≢true (sym d ∙ due));
  ended = λ d. refl;
}
behind_next frames old new b f false n left due counts = record {
  batches = b.batches;
  rest = b.rest ++ f ∷ [];
  cut = cut_on [] frames b.batches b.rest n.before f b.cut n.whole (λ i. false≢true (n.exactly.1 i));
  left = left;
  counts = λ d. counts;
  ended = λ d. absurd (false≢true (sym due ∙ d));
}

-- a W frame

pub window_next : (frames : List LumberFrame) (size : ℕ) (old new : Core) (ends : Bool) (b : IsBehind frames old) → old.due ≡ false → Opened size old ends new → Next frames old b (Window size) ends
window_next frames size old new ends b due o =
    let w = cut_whole [] frames b.batches b.rest b.cut in
    let k : old.frames ≡ length (staged b.rest) = (b.counts due).frames in
    record {
      before = w.0;
      whole = w.1;
      exactly = (
        λ t.
            let i = o.exactly.0 t in
            (i.0, omega (arith, i.1, k)),
        λ i. o.exactly.1 (i.0, omega (arith, i.1, k)),
      );
    }

window_left : (frames : List LumberFrame) (size : ℕ) (old new : Core) (ends : Bool) → HasLeft frames old.left → Opened size old ends new → HasLeft (frames ++ Window size ∷ []) new.left
window_left frames zero old new ends l o =
    let e : old.left - 0 ≡ new.left = omega (arith, o.none refl) in
    subst (HasLeft (frames ++ Window 0 ∷ [])) e (left_on frames old.left (Window 0) l refl)
window_left frames (suc n) old new ends l o = subst (HasLeft (frames ++ Window (suc n) ∷ [])) (sym (o.left (omega arith))) (left_new frames (suc n) (omega arith))

pub window_behind : (frames : List LumberFrame) (size : ℕ) (old new : Core) (ends : Bool) (b : IsBehind frames old) → old.due ≡ false → Opened size old ends new → IsBehind (frames ++ Window size ∷ []) new
window_behind frames size old new ends b due o =
    let k = b.counts due in
    let s : staged (b.rest ++ Window size ∷ []) ≡ staged b.rest = staged_push b.rest (Window size) ∙ append-nil (staged b.rest) in
    behind_next frames old new b (Window size) ends (window_next frames size old new ends b due o) (window_left frames size old new ends b.left o) o.due (record { frames = o.frames ∙ k.frames ∙ ap length (sym s); bytes = o.bytes ∙ k.bytes ∙ ap bytes_of (sym s) })

-- a data frame

pub record IsData (f : LumberFrame) (s : Staged) : Type 0 where
  pub stages : staged_by f ≡ s ∷ []
  pub begins : BeginsNone f
  pub ends : (before front : List LumberFrame) → EndsData before front f → Ends before front f
  pub ends_only : (before front : List LumberFrame) → Ends before front f → EndsData before front f

pub pairs_data : (seq : ℕ) (text : List ℕ) → IsData (Pairs seq text) (record { event = data_event text; seq = seq })
pairs_data seq text = record { stages = refl; begins = tt; ends = λ before front i. i; ends_only = λ before front i. i }

pub json_data : (seq : ℕ) (text : List ℕ) → IsData (Json seq text) (record { event = json_event text; seq = seq })
json_data seq text = record { stages = refl; begins = tt; ends = λ before front i. i; ends_only = λ before front i. i }

-- what is staged with it
data_staged : (rest : List LumberFrame) (f : LumberFrame) (s : Staged) → IsData f s → staged (rest ++ f ∷ []) ≡ staged rest ++ s ∷ []
data_staged rest f s d = staged_push rest f ∙ ap (λ v. staged rest ++ v) d.stages

data_counts : (old new : Core) (rest : List LumberFrame) (f : LumberFrame) (s : Staged) (ends : Bool) → IsData f s → CountsFor old rest → Counted (length s.event.text) old ends new → CountsFor new (rest ++ f ∷ [])
data_counts old new rest f s ends d k c =
    let e = data_staged rest f s d in
    let n : length (staged (rest ++ f ∷ [])) ≡ length (staged rest) + 1 = ap length e ∙ length-append (staged rest) (s ∷ []) in
    let m : bytes_of (staged (rest ++ f ∷ [])) ≡ bytes_of (staged rest) + length s.event.text = ap bytes_of e ∙ sum_by_push (λ (t : Staged). length t.event.text) (staged rest) s in
    record { frames = omega (arith, c.frames, k.frames, n); bytes = omega (arith, c.bytes, k.bytes, m) }

pub data_next : (frames : List LumberFrame) (old new : Core) (f : LumberFrame) (s : Staged) (ends : Bool) (b : IsBehind frames old) → old.due ≡ false → IsData f s → Counted (length s.event.text) old ends new → Next frames old b f ends
data_next frames old new f s ends b due d c =
    let w = cut_whole [] frames b.batches b.rest b.cut in
    let k : CountsFor new (b.rest ++ f ∷ []) = data_counts old new b.rest f s ends d (b.counts due) c in
    record {
      before = w.0;
      whole = w.1;
      exactly = (
        λ t. d.ends w.0 b.rest (elim (c.exactly.0 t) [
          | inl h ↦ inl (subst NextCompletes w.1 (completes frames old.left b.left h))
          | inr h ↦ inr (elim h [
            | inl g ↦ inl (omega (arith, g, k.frames, c.frames))
            | inr g ↦ inr (omega (arith, g, k.bytes, c.bytes))
          ])
        ]),
        λ i. c.exactly.1 (elim (d.ends_only w.0 b.rest i) [
          | inl h ↦ inl (completes_only frames old.left b.left (subst NextCompletes (sym w.1) h))
          | inr h ↦ inr (elim h [
            | inl g ↦ inl (omega (arith, g, k.frames, c.frames))
            | inr g ↦ inr (omega (arith, g, k.bytes, c.bytes))
          ])
        ]),
      );
    }

pub data_behind : (frames : List LumberFrame) (old new : Core) (f : LumberFrame) (s : Staged) (ends : Bool) (b : IsBehind frames old) → old.due ≡ false → IsData f s → Counted (length s.event.text) old ends new → IsBehind (frames ++ f ∷ []) new
data_behind frames old new f s ends b due d c =
    let l : old.left - length (staged_by f) ≡ new.left = omega (arith, c.left, ap length d.stages) in
    behind_next frames old new b f ends (data_next frames old new f s ends b due d c) (subst (HasLeft (frames ++ f ∷ [])) l (left_on frames old.left f b.left d.begins)) c.due (data_counts old new b.rest f s ends d (b.counts due) c)
