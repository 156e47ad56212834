-- What an intake reads of a piece past a body, what it gives, and how it judges a head.
use Rattle.std.proofs.Common.{◌≡◌, ℕ, ◌+◌, ◌<◌, ◌≤◌, Bool, true, false, List, [], ◌∷◌, ◌++◌, Option, Some, None, length, take, refl, sym, ap, ◌∙◌, subst, arith, length-append, take_all}
use Rattle.std.specs.Prelude.{Ok, Err, is_some, if◌then◌else◌}
use Rattle.event_form.specs.declared.feed_fault.FeedFault.{FeedFault}
use Rattle.event_form.specs.declared.feed_fault.FeedFault.TheVariants as feed
use Rattle.http_edge.specs.declared.fault.HttpFault.{HttpFault}
use Rattle.http_edge.specs.declared.head.Head.{Head}
use Rattle.http_edge.specs.declared.past.Past.{Past}
use Rattle.http_edge.specs.declared.past.Way.TheVariants as way
use Rattle.http_edge.specs.declared.request.HttpItem.{HttpItem}
use Rattle.http_edge.specs.declared.request.HttpItem.TheVariants.{Request}
use Rattle.http_edge.specs.Fields.{closes}
use Rattle.http_edge.specs.Lending.{GivesItem}
use Rattle.http_edge.specs.Past.{Becomes, Passes, clear_at, come_to, ended_at, faulty_at, read_past}
use Rattle.http_edge.specs.Reading as reading
use Rattle.http_edge.specs.Reading.{Reading, come}
use Rattle.http_edge.specs.Waits.{with_body}
use Rattle.http_edge.specs.Window.{ReadsOn, Window, held_of}
use Rattle.http_edge.specs.Window.{clear as empty}
use Rattle.http_edge.proofs.FeedLaws.{reads_waiting}
use Rattle.hec_session.specs.Acts.{IsRefusal}
use Rattle.hec_session.specs.Codes.{IsReply}
use Rattle.hec_session.specs.declared.act.HecAct.TheVariants.{Say}
use Rattle.hec_session.specs.declared.tokens.Tokens.{Tokens}
use Rattle.conn_serve.specs.declared.hec.asked.Asked.{Asked}
use Rattle.conn_serve.specs.declared.hec.asked.Asked.TheVariants.{Act}
use Rattle.conn_serve.specs.declared.hec.intake.Intake.{Intake}
use Rattle.conn_serve.specs.declared.hec.intake.Refused.{Refused}
use Rattle.conn_serve.specs.HecServing.{GivesAsked}
use Rattle.conn_serve.specs.HecReading.{FeedsAs, FeedsKept, GivesKept, GivesOne, HoldsBody, IsClear, IsIdle, IsKept, IsLeft, IsOpen, IsRefused, IsSound, extent_of, waits_of, reached_by, waiting_in, window_at}

-- ---- a piece past a body

-- what is kept of the body so far
body_of : (w : Window) (r : Option Refused) (x : Refused) (v : Window) → r ≡ Some x → x.ended ≡ false → IsKept w r v → (body : List ℕ) × (length body ≡ x.past.held) × (v ≡ window_at (read_past x.past body))
body_of w r x v e going kept =
    let k = subst (λ (y : Option Refused). IsKept w y v) e kept in
    let h = subst (λ (b : Bool). HoldsBody b w x.past k.0 v) going k.1 in
    (k.0, h.0, h.1)

sound_of : (tokens : Tokens) (w : Window) (r : Option Refused) (x : Refused) → r ≡ Some x → IsSound tokens w r → IsRefused tokens w x
sound_of tokens w r x e s = subst (λ (y : Option Refused). IsSound tokens w y) e s

reads_on : (v after : Window) (r q : Reading) (piece : List ℕ) → v ≡ window_at r → after.reading ≡ q → reading.ReadsOn r piece q → ReadsOn v piece after
reads_on v after r q piece e f on fed given reads = subst (reading.Reads (fed ++ piece) given) (sym f) (on fed given (subst (reading.Reads fed given) (ap (λ (y : Window). y.reading) e) reads))

-- more is due
pub feeds_open : (o new : Intake) (x : Refused) (p : Past) (piece : List ℕ) → o.refused ≡ Some x → x.ended ≡ false → Passes x.past piece way.Open p → new.window ≡ o.window → new.refused ≡ Some (record x { past = p }) → FeedsKept o piece (Ok (length piece)) new
feeds_open o new x p piece e going g window refused = λ tokens v sound kept.
    let b = body_of o.window o.refused x v e going kept in
    let s = sound_of tokens o.window o.refused x e sound in
    let got = g.0 in
    let after = window_at (read_past p (b.0 ++ got)) in
    let held = g.3 in
    let sum = length-append b.0 got in
    let long = b.1 in
    let now : Refused = record x { past = p } in
    let is_sound : IsRefused tokens o.window now = record { refused = subst (λ (h : Head). IsRefusal tokens h x.reply) (sym g.1) s.refused; reply = s.reply; closing = λ body. subst (λ (h : Head). x.closing ≡ closes (with_body h body)) (sym g.1) (s.closing body); clear = s.clear } in
    let is_kept : IsKept o.window (Some now) after = (b.0 ++ got, subst (λ (z : Bool). HoldsBody z o.window p (b.0 ++ got) after) (sym going) (omega (arith, sum, long, held), refl)) in
    let on : ReadsOn v (take (length piece) piece) after = subst (λ (l : List ℕ). ReadsOn v l after) (sym (take_all (length piece) piece (omega arith))) (reads_on v after (read_past x.past b.0) (read_past p (b.0 ++ got)) piece b.2 refl (g.5 b.0 b.1)) in
    record {
      after = after;
      sound = subst (λ (w : Window). IsSound tokens w new.refused) (sym window) (subst (IsSound tokens o.window) (sym refused) is_sound);
      is_kept = subst (λ (w : Window). IsKept w new.refused after) (sym window) (subst (λ (y : Option Refused). IsKept o.window y after) (sym refused) is_kept);
      feeds = (ap (λ (y : Window). y.reading.fault) b.2, refl, on);
    }

moved_clear : (w w' : Window) (at : ℕ) (fault : Option HttpFault) → IsClear w → w' ≡ record w { reading = record w.reading { at = at; fault = fault } } → (w'.reading ≡ record (clear_at at) { fault = fault }) × (held_of w' ≡ 0)
moved_clear w w' at fault (clear, none) e = (
  ap (λ (y : Window). y.reading) e ∙ ap (λ (r : Reading). record r { at = at; fault = fault }) clear,
  ap held_of e ∙ none,
)

-- the request ends
pub feeds_whole : (o new : Intake) (x : Refused) (p : Past) (piece : List ℕ) (used end : ℕ) → o.refused ≡ Some x → x.ended ≡ false → IsClear o.window → Passes x.past piece (way.Whole used end) p → new.window ≡ record o.window { reading = record o.window.reading { at = end; fault = None } } → new.refused ≡ Some (record x { past = p; ended = true }) → FeedsKept o piece (Ok used) new
feeds_whole o new x p piece used end e going clear g window refused = λ tokens v sound kept.
    let b = body_of o.window o.refused x v e going kept in
    let s = sound_of tokens o.window o.refused x e sound in
    let got = g.4.0 in
    let head : p.head ≡ x.past.head = ap (λ (y : Past). y.head) g.0 in
    let m = moved_clear o.window new.window end None clear window in
    let at : new.window.reading.at ≡ end = ap (λ (r : Reading). r.at) m.0 in
    let after = window_at (ended_at end x.past.head (b.0 ++ got)) in
    let now : Refused = record x { past = p; ended = true } in
    let is_sound : IsRefused tokens new.window now = record { refused = subst (λ (h : Head). IsRefusal tokens h x.reply) (sym head) s.refused; reply = s.reply; closing = λ body. subst (λ (h : Head). x.closing ≡ closes (with_body h body)) (sym head) (s.closing body); clear = (m.0 ∙ ap clear_at (sym at), m.1) } in
    let is_kept : IsKept new.window (Some now) after = (b.0 ++ got, λ j. window_at (ended_at (sym at j) (sym head j) (b.0 ++ got))) in
    record {
      after = after;
      sound = subst (IsSound tokens new.window) (sym refused) is_sound;
      is_kept = subst (λ (y : Option Refused). IsKept new.window y after) (sym refused) is_kept;
      feeds = (ap (λ (y : Window). y.reading.fault) b.2, refl, reads_on v after (read_past x.past b.0) (ended_at end x.past.head (b.0 ++ got)) (take used piece) b.2 refl (g.4.1 b.0 b.1));
    }

-- it has a fault
pub feeds_faulty : (o new : Intake) (x : Refused) (p : Past) (piece : List ℕ) (fault : HttpFault) → o.refused ≡ Some x → x.ended ≡ false → IsClear o.window → Passes x.past piece (way.Bad fault) p → new.window ≡ record o.window { reading = record o.window.reading { at = p.at; fault = Some fault } } → new.refused ≡ None → FeedsKept o piece (Err (feed.Fault fault)) new
feeds_faulty o new x p piece fault e going clear g window refused = λ tokens v sound kept.
    let b = body_of o.window o.refused x v e going kept in
    let m = moved_clear o.window new.window p.at (Some fault) clear window in
    let at : p.at ≡ x.past.at = ap (λ (y : Past). y.at) g.0 in
    let is : new.window.reading ≡ faulty_at x.past.at fault = m.0 ∙ ap (λ (n : ℕ). faulty_at n fault) at in
    record {
      after = new.window;
      sound = subst (IsSound tokens new.window) (sym refused) tt;
      is_kept = subst (λ (y : Option Refused). IsKept new.window y new.window) (sym refused) refl;
      feeds = (ap (λ (r : Reading). r.fault) is, reads_on v new.window (read_past x.past b.0) (faulty_at x.past.at fault) piece b.2 is (g.1 b.0 b.1));
    }

-- no memory was found
pub feeds_starved : (o new : Intake) (x : Refused) (piece : List ℕ) → o.refused ≡ Some x → x.ended ≡ false → new.window ≡ o.window → new.refused ≡ o.refused → FeedsKept o piece (Err feed.NoMemory) new
feeds_starved o new x piece e going window refused = λ tokens v sound kept.
    let b = body_of o.window o.refused x v e going kept in
    record {
      after = v;
      sound = subst (λ (w : Window). IsSound tokens w new.refused) (sym window) (subst (IsSound tokens o.window) (sym refused) sound);
      is_kept = subst (λ (w : Window). IsKept w new.refused v) (sym window) (subst (λ (y : Option Refused). IsKept o.window y v) (sym refused) kept);
      feeds = (refl, ap (λ (y : Window). y.reading.fault) b.2);
    }

-- where nothing is read past, the window reads it
pub feeds_window : (o new : Intake) (piece : List ℕ) (r : _) → o.refused ≡ None → new.refused ≡ None → FeedsAs o.window piece r new.window → FeedsKept o piece r new
feeds_window o new piece r e refused f = λ tokens v sound kept.
    let is : v ≡ o.window = subst (λ (y : Option Refused). IsKept o.window y v) e kept in
    record {
      after = new.window;
      sound = subst (IsSound tokens new.window) (sym refused) tt;
      is_kept = subst (λ (y : Option Refused). IsKept new.window y new.window) (sym refused) refl;
      feeds = subst (λ (w : Window). FeedsAs w piece r new.window) (sym is) f;
    }

-- ---- the request that was read past is given

pub gives_ended : (tokens : Tokens) (o new : Intake) (x : Refused) → o.refused ≡ Some x → x.ended ≡ true → IsSound tokens o.window o.refused → new.window ≡ o.window → new.refused ≡ None → GivesKept tokens o (Some (Act (Say x.reply) x.closing)) new
gives_ended tokens o new x e ended sound window refused = λ v kept.
    let s = sound_of tokens o.window o.refused x e sound in
    let k = subst (λ (y : Option Refused). IsKept o.window y v) e kept in
    let body = k.0 in
    let w = o.window in
    let is : v ≡ window_at (ended_at w.reading.at x.past.head body) = subst (λ (b : Bool). HoldsBody b w x.past body v) ended k.1 in
    let item : HttpItem = Request (with_body x.past.head body) in
    let clear = s.clear.0 in
    let none : w.reading.waiting ≡ [] = ap (λ (r : Reading). r.waiting) clear in
    let at = w.reading.at in
    let ended_r = ended_at at x.past.head body in
    let same : w.reading ≡ record ended_r { waiting = w.reading.waiting } = clear ∙ ap (λ (l : List HttpItem). record ended_r { waiting = l }) (sym none) in
    let few = s.clear.1 in
    let gives : GivesItem (window_at ended_r) item w = record {
      first = ap (λ (l : List HttpItem). item ∷ l) (sym none);
      same = same;
      at_is = refl;
      come_is = ap come clear;
      less = omega (arith, few);
      reads = λ fed given r. subst (reading.Reads fed (given ++ item ∷ [])) (sym same) (reads_waiting fed (given ++ item ∷ []) ((given ++ item ∷ []) ++ w.reading.waiting) ended_r w.reading.waiting None (sym (append_nil (given ++ item ∷ [])) ∙ ap (λ (l : List HttpItem). (given ++ item ∷ []) ++ l) (sym none)) r);
    } in
    record {
      item = item;
      after = new.window;
      sound = subst (IsSound tokens new.window) (sym refused) tt;
      is_kept = subst (λ (y : Option Refused). IsKept new.window y new.window) (sym refused) refl;
      gives = subst (λ (y : Window). GivesItem y item new.window) (sym is) (subst (GivesItem (window_at ended_r) item) (sym window) gives);
      asks = (s.refused body, s.closing body);
    }
  where
    append_nil : (l : List HttpItem) → l ++ [] ≡ l
    append_nil [] = refl
    append_nil (i ∷ l) = ap (λ (m : List HttpItem). i ∷ m) (append_nil l)

-- ---- the next item in the window is given

some_none : (x : Refused) → Some x ≡ None → ⊥
some_none x e = cc

pub gives_held : (tokens : Tokens) (o new : Intake) (asked : Asked) → IsOpen o.window o.refused → GivesAsked tokens o.window (Some asked) new.window → new.refused ≡ o.refused → GivesKept tokens o (Some asked) new
gives_held tokens o new asked going (i, g, asks) refused = λ v kept. go o.refused refl going v kept
  where
    go : (r : Option Refused) → o.refused ≡ r → IsOpen o.window r → (v : Window) → IsKept o.window o.refused v → GivesOne tokens v asked new
    go None e going v kept =
        let is : v ≡ o.window = subst (λ (y : Option Refused). IsKept o.window y v) e kept in
        record {
          item = i;
          after = new.window;
          sound = subst (IsSound tokens new.window) (sym (refused ∙ e)) tt;
          is_kept = subst (λ (y : Option Refused). IsKept new.window y new.window) (sym (refused ∙ e)) refl;
          gives = subst (λ (y : Window). GivesItem y i new.window) (sym is) g;
          asks = asks;
        }
    go (Some x) e (going, clear) v kept = let none : i ∷ new.window.reading.waiting ≡ [] = sym g.first ∙ ap (λ (r : Reading). r.waiting) clear.0 in absurd (cc)

-- none waits, and nothing is judged
pub stays_read : (tokens : Tokens) (o new : Intake) → IsSound tokens o.window o.refused → new.window ≡ o.window → new.refused ≡ o.refused → GivesKept tokens o None new
stays_read tokens o new sound window refused = λ v kept. record {
  after = v;
  sound = subst (λ (w : Window). IsSound tokens w new.refused) (sym window) (subst (IsSound tokens o.window) (sym refused) sound);
  is_kept = subst (λ (w : Window). IsKept w new.refused v) (sym window) (subst (λ (y : Option Refused). IsKept o.window y v) (sym refused) kept);
  same = refl;
}

-- the unfinished request is refused, and leaves
pub judges : (tokens : Tokens) (o new : Intake) (x : Refused) (head : Head) → o.refused ≡ None → o.window.reading.begun ≡ Some head → Becomes o.window.reading x.past → IsRefusal tokens head x.reply → IsReply x.reply → ((body : List ℕ) → x.closing ≡ closes (with_body head body)) → x.ended ≡ false
    → (new.window.reading ≡ clear_at o.window.reading.at) × (held_of new.window ≡ 0) → new.refused ≡ Some x → GivesKept tokens o None new
judges tokens o new x head none begun becomes refusal reply closing going emptied refused = λ v kept.
    let w = o.window in
    let is : v ≡ w = subst (λ (y : Option Refused). IsKept w y v) none kept in
    let same_head : x.past.head ≡ head = some_same x.past.head head (ap (λ (r : Reading). r.begun) becomes.0 ∙ begun) in
    let at : new.window.reading.at ≡ w.reading.at = ap (λ (r : Reading). r.at) emptied.0 in
    let after = window_at (read_past x.past w.reading.body) in
    let is_sound : IsRefused tokens new.window x = record { refused = subst (λ (h : Head). IsRefusal tokens h x.reply) (sym same_head) refusal; reply = reply; closing = λ body. subst (λ (h : Head). x.closing ≡ closes (with_body h body)) (sym same_head) (closing body); clear = (emptied.0 ∙ ap clear_at (sym at), emptied.1) } in
    let is_kept : IsKept new.window (Some x) after = (w.reading.body, subst (λ (b : Bool). HoldsBody b new.window x.past w.reading.body after) (sym going) (sym becomes.1, refl)) in
    record {
      after = after;
      sound = subst (IsSound tokens new.window) (sym refused) is_sound;
      is_kept = subst (λ (y : Option Refused). IsKept new.window y after) (sym refused) is_kept;
      same = becomes.0 ∙ ap (λ (y : Window). y.reading) (sym is);
    }
  where
    some_same : (h k : Head) → Some h ≡ Some k → h ≡ k
    some_same h k e = cc

-- ---- how far the bytes have come

extent_open : (w : Window) (x : Refused) → x.ended ≡ false → reached_by w (Some x) ≡ come_to x.past
extent_open w x going = ap (λ (b : Bool). if b then w.reading.at + come w.reading else come_to x.past) going

extent_past : (o : Intake) (x : Refused) → o.refused ≡ Some x → x.ended ≡ false → extent_of o ≡ come_to x.past
extent_past o x e going = ap (reached_by o.window) e ∙ extent_open o.window x going

pub open_of : (w : Window) (r : Option Refused) (x : Refused) → r ≡ Some x → IsOpen w r → (x.ended ≡ false) × IsClear w
open_of w r x e going = subst (IsOpen w) e going

-- a piece that the intake may read may be read past the body
pub fits_past : (o : Intake) (x : Refused) (n most : ℕ) → o.refused ≡ Some x → x.ended ≡ false → extent_of o + n ≤ most → come_to x.past + n ≤ most
fits_past o x n most e going fits = omega (arith, extent_past o x e going, fits)

-- and by the window
pub fits_window : (o : Intake) (n most : ℕ) → o.refused ≡ None → extent_of o + n ≤ most → o.window.reading.at + come o.window.reading + n ≤ most
fits_window o n most e fits = let is : extent_of o ≡ o.window.reading.at + come o.window.reading = ap (reached_by o.window) e in omega (arith, is, fits)

pub extent_more : (o new : Intake) (x : Refused) (p : Past) (n : ℕ) → o.refused ≡ Some x → x.ended ≡ false → come_to p ≡ come_to x.past + n → new.refused ≡ Some (record x { past = p }) → extent_of new ≤ extent_of o + n
extent_more o new x p n e going sum refused =
    omega (arith, extent_past o x e going, extent_past new (record x { past = p }) refused going, sum)

pub extent_whole : (o new : Intake) (x : Refused) (p : Past) (used end : ℕ) → o.refused ≡ Some x → x.ended ≡ false → IsClear o.window → end ≡ come_to x.past + used
    → new.window ≡ record o.window { reading = record o.window.reading { at = end; fault = None } } → new.refused ≡ Some (record x { past = p; ended = true }) → extent_of new ≤ extent_of o + used
extent_whole o new x p used end e going clear sum window refused =
    let m = moved_clear o.window new.window end None clear window in
    let is : extent_of new ≡ new.window.reading.at + come new.window.reading = ap (reached_by new.window) refused in
    let at : new.window.reading.at ≡ end = ap (λ (r : Reading). r.at) m.0 in
    let none : come new.window.reading ≡ 0 = ap come m.0 in
    omega (arith, is, at, none, sum, extent_past o x e going)

pub extent_faulty : (o new : Intake) (x : Refused) (at n : ℕ) (fault : HttpFault) → o.refused ≡ Some x → x.ended ≡ false → IsClear o.window → at ≡ x.past.at
    → new.window ≡ record o.window { reading = record o.window.reading { at = at; fault = Some fault } } → new.refused ≡ None → extent_of new ≤ extent_of o + n
extent_faulty o new x at n fault e going clear same window refused =
    let m = moved_clear o.window new.window at (Some fault) clear window in
    let is : extent_of new ≡ new.window.reading.at + come new.window.reading = ap (reached_by new.window) refused in
    let begins : new.window.reading.at ≡ at = ap (λ (r : Reading). r.at) m.0 in
    let none : come new.window.reading ≡ 0 = ap come m.0 in
    omega (arith, is, begins, none, same, extent_past o x e going)

pub extent_same : (o new : Intake) (n : ℕ) → new.window ≡ o.window → new.refused ≡ o.refused → extent_of new ≤ extent_of o + n
extent_same o new n window refused =
    let is : extent_of new ≡ extent_of o = λ j. reached_by (window j) (refused j) in
    omega (arith, is)

pub extent_fed : (o new : Intake) (n : ℕ) → o.refused ≡ None → new.refused ≡ None → new.window.reading.at + come new.window.reading ≤ o.window.reading.at + come o.window.reading + n → extent_of new ≤ extent_of o + n
extent_fed o new n none none' room =
    let was : extent_of o ≡ o.window.reading.at + come o.window.reading = ap (reached_by o.window) none in
    let is : extent_of new ≡ new.window.reading.at + come new.window.reading = ap (reached_by new.window) none' in
    omega (arith, was, is, room)

-- the request that was read past is given
pub extent_ended : (o new : Intake) (x : Refused) → o.refused ≡ Some x → x.ended ≡ true → new.window ≡ o.window → new.refused ≡ None → extent_of new ≤ extent_of o
extent_ended o new x e ended window refused =
    let was : extent_of o ≡ o.window.reading.at + come o.window.reading = ap (reached_by o.window) e ∙ ap (λ (b : Bool). if b then o.window.reading.at + come o.window.reading else come_to x.past) ended in
    let is : extent_of new ≡ o.window.reading.at + come o.window.reading = ap (reached_by new.window) refused ∙ ap (λ (w : Window). w.reading.at + come w.reading) window in
    omega (arith, was, is)

pub waits_ended : (o new : Intake) (x : Refused) → o.refused ≡ Some x → x.ended ≡ true → new.window ≡ o.window → new.refused ≡ None → waits_of new < waits_of o
waits_ended o new x e ended window refused =
    let n = length o.window.reading.waiting in
    let was : waits_of o ≡ n + 1 = ap (waiting_in o.window) e ∙ ap (λ (b : Bool). if b then n + 1 else n) ended in
    let is : waits_of new ≡ n = ap (waiting_in new.window) refused ∙ ap (λ (w : Window). length w.reading.waiting) window in
    omega (arith, was, is)

-- the next item in the window is given
pub extent_held : (tokens : Tokens) (o new : Intake) (asked : Asked) → IsOpen o.window o.refused → GivesAsked tokens o.window (Some asked) new.window → new.refused ≡ o.refused → (extent_of new ≤ extent_of o) × (waits_of new < waits_of o)
extent_held tokens o new asked going (i, g, asks) refused = go o.refused refl going
  where
    go : (r : Option Refused) → o.refused ≡ r → IsOpen o.window r → (extent_of new ≤ extent_of o) × (waits_of new < waits_of o)
    go None e going =
        let was : extent_of o ≡ o.window.reading.at + come o.window.reading = ap (reached_by o.window) e in
        let is : extent_of new ≡ new.window.reading.at + come new.window.reading = ap (reached_by new.window) (refused ∙ e) in
        let waited : waits_of o ≡ length o.window.reading.waiting = ap (waiting_in o.window) e in
        let waits : waits_of new ≡ length new.window.reading.waiting = ap (waiting_in new.window) (refused ∙ e) in
        (omega (arith, was, is, g.at_is, g.come_is), omega (arith, waited, waits, ap length g.first))
    go (Some x) e (going, clear) = let none : i ∷ new.window.reading.waiting ≡ [] = sym g.first ∙ ap (λ (r : Reading). r.waiting) clear.0 in absurd (cc)

-- the unfinished request leaves
pub extent_left : (o new : Intake) (x : Refused) → o.refused ≡ None → Becomes o.window.reading x.past → x.ended ≡ false → new.refused ≡ Some x → extent_of new ≤ extent_of o
extent_left o new x none becomes going refused =
    let r = o.window.reading in
    let was : extent_of o ≡ r.at + come r = ap (reached_by o.window) none in
    let at : x.past.at ≡ r.at = ap (λ (y : Reading). y.at) becomes.0 in
    let has : x.past.read + length x.past.unread.items ≡ come r = ap come becomes.0 in
    omega (arith, was, at, has, extent_past new x refused going)

-- and nothing waits then
pub left_past : (new : Intake) (x : Refused) (at : ℕ) → (new.window.reading ≡ clear_at at) × (held_of new.window ≡ 0) → new.refused ≡ Some x → x.ended ≡ false → IsLeft new
left_past new x at (clear, none) refused going =
    let same : new.window.reading.at ≡ at = ap (λ (r : Reading). r.at) clear in
    record {
      none = ap (λ (r : Reading). r.waiting) clear;
      space = omega (arith, none);
      going = subst (IsOpen new.window) (sym refused) (going, (clear ∙ ap clear_at (sym same), none));
    }

-- of a request that hasn't ended nothing is held in the window
pub open_past : (tokens : Tokens) (w : Window) (r : Option Refused) (x : Refused) → r ≡ Some x → x.ended ≡ false → IsSound tokens w r → IsOpen w r
open_past tokens w r x e going sound = subst (IsOpen w) (sym e) (going, (sound_of tokens w r x e sound).clear)

-- ---- an intake that was fed nothing

pub idle_new : (o : Intake) (met : Option (FeedFault HttpFault)) → o.window ≡ empty → o.refused ≡ None → met ≡ None → IsIdle o met
idle_new o met window none sound = record {
  none = ap (λ (w : Window). w.reading.waiting) window;
  space = let held : held_of o.window ≡ 0 = ap held_of window in omega (arith, held);
  going = subst (IsOpen o.window) (sym none) tt;
  found = λ is. cc;
}

pub extent_new : (o : Intake) → o.window ≡ empty → o.refused ≡ None → extent_of o ≡ 0
extent_new o window none = ap (reached_by o.window) none ∙ ap (λ (w : Window). w.reading.at + come w.reading) window

-- ---- what the next item asks for

-- the same of an intake that is the same
pub gives_from : (tokens : Tokens) (o mid new : Intake) (asked : Option Asked) → mid ≡ o → GivesKept tokens mid asked new → GivesKept tokens o asked new
gives_from tokens o mid new asked same g = subst (λ (y : Intake). GivesKept tokens y asked new) same g

-- the answer to a request that was read past can be written
pub reply_of : (tokens : Tokens) (w : Window) (r : Option Refused) (x : Refused) → r ≡ Some x → IsSound tokens w r → IsReply x.reply
reply_of tokens w r x e sound = (sound_of tokens w r x e sound).reply

-- an item of the window is given, where no request waits for its answer that was read past
pub given_next : (tokens : Tokens) (o mid : Intake) (w : Window) (wanted : Bool) (asked : Asked) → (mid ≡ o) × IsOpen o.window o.refused → GivesAsked tokens mid.window (Some asked) w
    → GivesKept tokens o (Some asked) (record mid { window = w; wanted = wanted }) × (extent_of (record mid { window = w; wanted = wanted }) ≤ extent_of o) × (waits_of (record mid { window = w; wanted = wanted }) < waits_of o)
given_next tokens o mid w wanted asked (same, going) g =
    let new : Intake = record mid { window = w; wanted = wanted } in
    let still : IsOpen mid.window mid.refused = subst (λ (y : Intake). IsOpen y.window y.refused) (sym same) going in
    let few = extent_held tokens mid new asked still g refl in
    let was : extent_of mid ≡ extent_of o = ap extent_of same in
    let waited : waits_of mid ≡ waits_of o = ap waits_of same in
    (gives_from tokens o mid new (Some asked) same (gives_held tokens mid new asked still g refl), omega (arith, few.0, was), omega (arith, few.1, waited))

-- none waits in the window, and the unfinished request is judged
pub at_judge : (tokens : Tokens) (o mid : Intake) (w : Window) → (mid ≡ o) × IsOpen o.window o.refused → GivesAsked tokens mid.window None w
    → (record mid { window = w } ≡ o) × (w.reading.waiting ≡ []) × (held_of w < 1064960) × IsOpen w mid.refused
at_judge tokens o mid w (same, going) (none, stays, few) =
    let is : record mid { window = w } ≡ o = (λ j. record mid { window = stays j }) ∙ same in
    (is, ap (λ (y : Window). y.reading.waiting) stays ∙ none, few, subst (λ (y : Intake). IsOpen y.window y.refused) (sym is) going)

-- it stays in the window
pub left_open : (o : Intake) → o.window.reading.waiting ≡ [] → held_of o.window < 1064960 → IsOpen o.window o.refused → IsLeft o
left_open o none space going = record { none = none; space = space; going = going }

pub none_of : (r : Option Refused) → is_some r ≡ false → r ≡ None
none_of None e = refl
none_of (Some x) e = absurd (cc)
