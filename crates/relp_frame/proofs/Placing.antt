-- Where frames stand in their stream, as pieces come.
use Rattle.std.proofs.Common.{◌≡◌, ℕ, ◌+◌, ◌∙◌, List, [], ◌∷◌, ◌++◌, Option, None, take, drop, refl, sym, ap, subst, arith, append_assoc, length-append}
use Rattle.std.proofs.lemmas.List.{append-nil, take-append-drop}
use Rattle.relp_frame.specs.declared.frame.Frame.{Frame}
use Rattle.relp_frame.specs.declared.frame.Placed.{Placed}
use Rattle.relp_frame.specs.declared.fault.RelpFault.{RelpFault}
use Rattle.relp_frame.specs.declared.phase.Phase.{Phase}
use Rattle.stream_grammar.specs.Reading.{ReadsTo, Drops}
use Rattle.stream_grammar.proofs.Streams.{spelled_append}
use Rattle.relp_frame.specs.Placing.{frames_of, BeginsAt, ArePlaced, ArePlacedAfter}
use Rattle.relp_frame.specs.Reading.{relp}
use Rattle.relp_frame.specs.Scanning.{Scan}
use Rattle.relp_frame.proofs.FrameLaws.{relp_machine}

pub frames_of-append : (ps qs : List Placed) → frames_of (ps ++ qs) ≡ frames_of ps ++ frames_of qs
frames_of-append [] qs = refl
frames_of-append (p ∷ ps) qs = ap (λ fs. p.frame ∷ fs) (frames_of-append ps qs)

-- frames joined to those that wait
pub joined_frames : (ps qs all : List Placed) → all ≡ ps ++ qs → frames_of all ≡ frames_of ps ++ frames_of qs
joined_frames ps qs all is = ap frames_of is ∙ frames_of-append ps qs

pub begins_more : (bytes more : List ℕ) (before : List Frame) (at : ℕ) → BeginsAt bytes before at → BeginsAt (bytes ++ more) before at
begins_more bytes more before at b = record {
  front = b.front;
  rest = b.rest ++ more;
  spelled = b.spelled;
  whole = ap (λ v. v ++ more) b.whole ∙ append_assoc b.front b.rest more;
  place = b.place;
}

pub placed_more : (bytes more : List ℕ) (before : List Frame) (ps : List Placed) → ArePlaced bytes before ps → ArePlaced (bytes ++ more) before ps
placed_more bytes more before [] h = tt
placed_more bytes more before (p ∷ ps) h = (begins_more bytes more before p.at h.0, placed_more bytes more (before ++ p.frame ∷ []) ps h.1)

pub placed_append : (bytes : List ℕ) (before : List Frame) (ps qs : List Placed) → ArePlaced bytes before ps → ArePlaced bytes (before ++ frames_of ps) qs → ArePlaced bytes before (ps ++ qs)
placed_append bytes before [] qs h k = subst (λ fs. ArePlaced bytes fs qs) (append-nil before) k
placed_append bytes before (p ∷ ps) qs h k = (h.0, placed_append bytes (before ++ p.frame ∷ []) ps qs h.1 (subst (λ fs. ArePlaced bytes fs qs) (sym (append_assoc before (p.frame ∷ []) (frames_of ps))) k))

-- a frame that began where those before it end
pub placed_push : (at : ℕ) (held piece : List ℕ) (i : ℕ) (ps : List Placed) (end : ℕ) (now : Phase) (p : Placed) → p.at ≡ at + end → Scan held piece i (frames_of ps) end now → ArePlacedAfter at held piece ps → ArePlacedAfter at held piece (ps ++ p ∷ [])
placed_push at held piece i ps end now p is s h fed before front spelled whole long =
    let all : held ++ piece ≡ s.spelt ++ (s.rest ++ drop i piece) = ap (λ v. held ++ v) (sym (take-append-drop i piece)) ∙ sym (append_assoc held (take i piece) (drop i piece)) ∙ ap (λ v. v ++ drop i piece) s.joined ∙ append_assoc s.spelt s.rest (drop i piece) in
    let b : BeginsAt (fed ++ piece) (before ++ frames_of ps) p.at = record {
      front = front ++ s.spelt;
      rest = s.rest ++ drop i piece;
      spelled = spelled_append relp_machine before (frames_of ps) front s.spelt spelled s.spelled;
      whole = ap (λ v. v ++ piece) whole ∙ append_assoc front held piece ∙ ap (λ v. front ++ v) all ∙ sym (append_assoc front s.spelt (s.rest ++ drop i piece));
      place = omega (arith, is, long, s.ends, length-append front s.spelt);
    } in
    placed_append (fed ++ piece) before ps (p ∷ []) (h fed before front spelled whole long) (b, tt)

-- a piece after what was read before
pub placed_on : (at : ℕ) (held piece : List ℕ) (waiting ps all : List Placed) (was : Option RelpFault) → was ≡ None → ArePlacedAfter at held piece ps → all ≡ waiting ++ ps → (fed : List ℕ) (taken : List Frame)
    → ReadsTo relp Drops fed (taken ++ frames_of waiting) at held was → ArePlaced fed taken waiting → ArePlaced (fed ++ piece) taken all
placed_on at held piece waiting ps all was none h is fed taken r placed =
    let i = subst (ReadsTo relp Drops fed (taken ++ frames_of waiting) at held) none r in
    subst (ArePlaced (fed ++ piece) taken) (sym is) (placed_append (fed ++ piece) taken waiting ps (placed_more fed piece taken waiting placed) (h fed (taken ++ frames_of waiting) i.front i.spelled i.whole i.ends))
