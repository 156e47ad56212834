-- What waits in front is taken.
use Rattle.std.proofs.Common.{◌≡◌, List, [], ◌∷◌, ◌++◌, Option, Some, None, sym, subst, append_assoc}
use Rattle.std.specs.Prelude.{option_to_list, All}
use Rattle.std.proofs.lemmas.List.Elements.{All-tail}
use Rattle.relp_frame.specs.Spelling.{IsFrame}
use Rattle.relp_frame.specs.declared.frame.Frame.{Frame}
use Rattle.relp_frame.specs.declared.frame.Placed.{Placed}
use Rattle.relp_frame.specs.Placing.{frames_of, ArePlaced}
use Rattle.relp_frame.specs.Reading.{Reader, Reads, TakesPlaced, relp}
use Rattle.stream_grammar.specs.Reading.{ReadsTo, Drops}
use Rattle.relp_frame.proofs.reader.RelpReader.take_placed.Goals as goal

first_placed : (r : Reader) (ps : List Placed) (o : Option Placed) → r.waiting ≡ option_to_list o ++ ps → (fed : List _) (taken : List Frame) → Reads fed taken r → TakesPlaced fed taken o (record r { waiting = ps })
first_placed r ps None is fed taken h = record {
  whole = subst (λ ws. ReadsTo relp Drops fed (taken ++ frames_of ws) r.at r.rest r.fault) is h.whole;
  placed = subst (ArePlaced fed taken) is h.placed;
}
first_placed r ps (Some p) is fed taken h =
    let w = subst (λ ws. ReadsTo relp Drops fed (taken ++ frames_of ws) r.at r.rest r.fault) is h.whole in
    let q = subst (ArePlaced fed taken) is h.placed in
    (q.0, record { whole = subst (λ fs. ReadsTo relp Drops fed fs r.at r.rest r.fault) (sym (append_assoc taken (p.frame ∷ []) (frames_of ps))) w; placed = q.1 })

-- those left keep their limits
limits_left : (o : Option Placed) (was ps : List Placed) → was ≡ option_to_list o ++ ps → All IsFrame (frames_of was) → All IsFrame (frames_of ps)
limits_left None was ps is all = subst (λ ws. All IsFrame (frames_of ws)) is all
limits_left (Some p) was ps is all = All-tail IsFrame p.frame (frames_of ps) (subst (λ ws. All IsFrame (frames_of ws)) is all)

pub invariant_of-self : goal.invariant_of-self
invariant_of-self c =
    let h = c.self.invariant in
    record { limits = limits_left c.pop_front.result c.self.inside.waiting.items c.pop_front.new.self.items c.pop_front.ensures.items h.limits; room = h.room; bound = h.bound; unfinished = h.unfinished }

pub returns-clause-reads : goal.returns-clause-reads
returns-clause-reads c = λ fed taken h.
    let i = c.self.inside in
    let r : Reader = record { waiting = i.waiting.items; at = i.at; rest = i.rest.items; fault = i.fault } in
    first_placed r c.pop_front.new.self.items c.pop_front.result c.pop_front.ensures.items fed taken (rw (← c.self.view_is) at h)
