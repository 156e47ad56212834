-- What contracts see of a window after a piece.
use Rattle.std.proofs.Common.{◌≡◌, ℕ, ◌+◌, ◌-◌, ◌≤◌, List, length, take, min, ap, ◌∙◌, subst, arith, length-take-le}
use Rattle.std.specs.Prelude.{None, Result, Ok, Err, IsErrAnd}
use Rattle.event_form.specs.declared.feed_fault.FeedFault.{FeedFault}
use Rattle.event_form.specs.declared.feed_fault.FeedFault.TheVariants.{Fault, NoMemory}
use Rattle.http_edge.specs.declared.fault.HttpFault.{HttpFault}
use Rattle.http_edge.specs.declared.held.Held.{Held}
use Rattle.http_edge.specs.Filling.{FeedsHeld, FeedsTo, Fills, counted, window_of}
use Rattle.http_edge.specs.Reading.{come}
use Rattle.http_edge.specs.Window.{Window, Feeds, ReadsOn, held_of, taken_of}
use Rattle.http_edge.proofs.GiveLaws.{beside_short, counted_is}

-- the bound of what contracts see
pub held_bound : (h : Held) → Fills h → held_of (window_of h) ≤ 1064960
held_bound h f =
    let c = counted_is h f in
    let b = f.bound in
    let s = beside_short h h.unread.items f in
    omega (arith, c, b, s.1)

-- so much of a piece is taken
pub takes : (h : Held) (piece : List ℕ) (n count : ℕ) → Fills h → count ≡ counted h → n ≡ min (length piece) (1064960 - count) → n ≡ taken_of (window_of h) piece
takes h piece n count f c e = e ∙ ap (λ (k : ℕ). min (length piece) (1064960 - k)) (c ∙ counted_is h f)

pub feeds_ok : (old new : Window) (piece : List ℕ) (n : ℕ) → n ≡ taken_of old piece → FeedsTo old (take n piece) (Ok tt) new → Feeds old piece (Ok n) new
feeds_ok old new piece n e x = (e, x.0, x.1)

pub feeds_err : (old new : Window) (piece : List ℕ) (n : ℕ) (r : FeedFault HttpFault) → n ≡ taken_of old piece → old.reading.fault ≡ None → FeedsTo old (take n piece) (Err r) new → Feeds old piece (Err r) new
feeds_err old new piece n (Fault f) e clean x = (x.0, λ _. subst (λ (k : ℕ). ReadsOn old (take k piece) new) e x.1)
feeds_err old new piece n NoMemory e clean x = x

-- how far the stream has come
pub room_after : (h new : Held) (piece : List ℕ) (n count : ℕ) (r : Result (Unit {0}) (FeedFault HttpFault)) → Fills h → count ≡ counted h → n ≡ min (length piece) (1064960 - count) → FeedsHeld h (take n piece) r new → new.at + come (window_of new).reading ≤ h.at + come (window_of h).reading + taken_of (window_of h) piece
room_after h new piece n count r f c e x =
    let t = takes h piece n count f c e in
    let k : length (take n piece) ≡ n = length-take-le n piece (omega (arith, e)) in
    let room = x.room in
    omega (arith, t, k, room)

-- an error that is passed on
pub err_is : (r : Result ℕ (FeedFault HttpFault)) (e : FeedFault HttpFault) → IsErrAnd r (λ f. f ≡ e) → r ≡ Err e
err_is (Ok n) e x = absurd x
err_is (Err f) e x = ap (λ (g : FeedFault HttpFault). Err g) x
