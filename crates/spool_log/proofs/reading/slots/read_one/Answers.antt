use Rattle.std.proofs.Common.{rules, ◌≡◌, ◌≢◌, ℕ, ◌+◌, ◌*◌, ◌^◌, ◌<◌, nat_le, get_or, List, arith, subst, sym, ◌∙◌, ap}
use Rattle.std.specs.Prelude.{Option, IfSome, MatchOption}
use Rattle.std.specs.List.{prefix_len}
use Rattle.std.proofs.lemmas.List.Elements.{All-same}
use Rattle.spool_state.specs.Image.{slot_at}
use Rattle.spool_state.proofs.Frames.{inside}
use Rattle.spool_slots.specs.declared.slot.Slot.{Slot}
use Rattle.spool_slots.specs.Scan.{KnowsSome, IsScanFault}
use Rattle.spool_log.specs.Reading.{IsPlaced, KnowsOpened}
use Rattle.spool_log.proofs.Scans.Scanned.{All-insert, known_open}
use Rattle.spool_log.proofs.Scans.Faults.{if_err, slots_fault}
use Rattle.spool_log.proofs.reading.slots.read_one.Goals as goal

pub returns-in_err-slot-clause-broken : goal.returns-in_err-slot-clause-broken
returns-in_err-slot-clause-broken g c =
    let reads = (g.D.Disk.moment c.args.disk.now).reads in
    if_err c.from_residual.result _ _ c.from_residual.ensures.1 (λ slots tells lt known.
    slots_fault slots c.args.size c.args.place c.args.opened.now.items reads c.in_err-slot.field-0.0 lt known
    (subst (λ (n : ℕ). IsScanFault (12288 + n * c.args.size) c.args.size reads c.in_err-slot.field-0.0) c.from.ensures (c.in_err-slot.ensures.broken tells)))

pub returns-clause-placed : goal.returns-clause-placed
returns-clause-placed g c = λ slots lt all.
    let slot = c.in-Some.slot in
    let items = c.args.opened.now.items in
    let at = subst (λ (o : Option Slot). IfSome o (λ x. (x.at ≡ 12288 + c.from.result * c.args.size) × (x.size ≡ c.args.size))) c.in-Some.is c.in_ok-slot.ensures.slot in
    let here : IsPlaced slots c.args.size slot = record { wide = at.1; inside = omega (arith, at.0, ap (λ (n : ℕ). 12288 + n * c.args.size) c.from.ensures, inside c.args.size c.args.place slots lt) } in
    All-same (IsPlaced slots c.args.size) c.keep.new.opened.items _ c.in_ok-keep.ensures.kept (All-insert (IsPlaced slots c.args.size) items (prefix_len (λ other. nat_le other.ordinal slot.ordinal) items) slot all here)

pub returns-clause-known : goal.returns-clause-known
returns-clause-known g c = λ tells known.
    let slot = c.in-Some.slot in
    let size = c.args.size in
    let reads = (g.D.Disk.moment c.args.disk.now).reads in
    let is : c.from.result ≡ c.args.place = c.from.ensures in
    let at = subst (λ (o : Option Slot). IfSome o (λ x. (x.at ≡ 12288 + c.from.result * size) × (x.size ≡ size))) c.in-Some.is c.in_ok-slot.ensures.slot in
    let knows = subst (λ (o : Option Slot). MatchOption o (get_or reads (12288 + c.from.result * size) 0 ≢ 1) (λ x. KnowsSome x reads)) c.in-Some.is (c.in_ok-slot.ensures.found tells) in
    let at_is : slot.at ≡ slot_at size c.args.place = at.0 ∙ ap (λ (n : ℕ). 12288 + n * size) is in
    let fits : (slot.ordinal < 2 ^ 64) × (slot.first < 2 ^ 64) = search rules in
    subst (λ (l : List Slot). KnowsOpened (c.args.place + 1) size l reads) (sym {A = List Slot} c.in_ok-keep.ensures.kept)
    (known_open size c.args.place c.args.opened.now.items reads known slot knows.0 at_is at.1 knows.1 fits.0 fits.1)
