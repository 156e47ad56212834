-- The first frame is lent.
use Rattle.std.proofs.Common.{◌≡◌, ◌+◌, ◌-◌, ◌∙◌, ◌++◌, take, drop, ap, sym, subst, refl}
use Rattle.std.specs.Prelude.{slice_range}
use Rattle.lumber_frame.specs.declared.fault.LumberFault.{LumberFault}
use Rattle.lumber_frame.specs.declared.side.Side.TheVariants.{Receiver}
use Rattle.stream_grammar.specs.Filling.{window_of}
use Rattle.stream_grammar.specs.Reading.{Window, Gives}
use Rattle.lumber_frame.specs.Lent.{frame_lent}
use Rattle.lumber_frame.specs.Places.{frame_of}
use Rattle.lumber_frame.specs.Reading.{receiver}
use Rattle.lumber_frame.specs.Running.{Finds}
use Rattle.lumber_frame.specs.Spelling.{IsFrameFor, Spells}
use Rattle.stream_grammar.proofs.Streams.{spelled_first}
use Rattle.stream_grammar.proofs.Splitting.{fills_next}
use Rattle.stream_grammar.proofs.Windows.{first, gives_first}
use Rattle.lumber_frame.proofs.FrameLaws.{lumber}
use Rattle.lumber_frame.proofs.RunningLaws.{lumber_splits}
use Rattle.lumber_frame.proofs.window.LumberWindow.next.Goals as goal

pub returns : goal.returns
returns c =
    let i = c.self.inside in
    let p = c.in_ok-whole in
    let w = c.self.invariant in
    let b = i.bytes.items in
    let f = subst (λ v. Finds Receiver (slice_range v i.from i.whole) p.whole p.n) c.deref.ensures.value p.ensures in
    let t = first b i.from i.whole p.n f.text f.more f.whole f.long w.order w.inside in
    let old = window_of b i.from i.whole i.at i.fault in
    let new = window_of b (i.from + p.n) i.whole i.at i.fault in
    let x : take (i.from + p.n - i.from) (drop i.from c.deref-2.result.now) ≡ f.text = ap (λ v. take (i.from + p.n - i.from) (drop i.from v)) c.deref-2.ensures.value ∙ t.front in
    let e : frame_lent c.lend.result ≡ frame_of p.whole f.text = c.lend.ensures ∙ ap (frame_of p.whole) x in
    let g = gives_first receiver (Spells Receiver) (spelled_first (lumber Receiver)) old new (frame_lent c.lend.result) f.text (subst (λ z. Spells Receiver z f.text) (sym e) f.spelled) (f.whole ∙ ap (λ v. f.text ++ v) (sym t.others)) refl in
    let q = subst (λ (z : Window LumberFault). Gives receiver (Spells Receiver) z (frame_lent c.lend.result) new) c.self.view_is g in
    ((refl, (λ _. tt), q), record { after = tt; limits = subst (IsFrameFor Receiver) (sym e) f.limits })

pub invariant_of-self-2 : goal.invariant_of-self-2
invariant_of-self-2 c =
    let i = c.self.inside in
    let p = c.in_ok-whole in
    let f = subst (λ b. Finds Receiver (slice_range b i.from i.whole) p.whole p.n) c.deref.ensures.value p.ensures in
    fills_next (lumber_splits Receiver) i.bytes.items _ i.from i.whole i.at p.n i.phase (frame_of p.whole f.text) f.text f.more c.self.invariant f.spelled f.whole f.long
