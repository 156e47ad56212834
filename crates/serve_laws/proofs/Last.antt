-- The last look of a run is the last of all.
use Rattle.std.proofs.Common.{◌≡◌, ℕ, ◌-◌, ◌≤◌, List, [], ◌∷◌, ◌++◌, length, refl, sym, ap, ◌∙◌, subst, arith, append_assoc}
use Rattle.std.specs.Prelude.{All, Option, None, Some, Result, Ok, Err}
use Rattle.std.proofs.lemmas.List.Elements.{All-nil, All-cons, All-head}
use Rattle.event_form.specs.declared.event.Entry.{Entry}
use Rattle.edge_io.specs.Net.{NetState}
use Rattle.spool_state.specs.SpoolState.{SpoolState, end}
use Rattle.spool_faults.specs.declared.fault.PendFault.{PendFault}
use Rattle.spool_answers.specs.declared.numbered.Numbered.{Numbered}
use Rattle.spool_answers.specs.Stages.{IsOneOf}
use Rattle.spool_desk.specs.Alone.{AloneView}
use Rattle.desk_access.specs.Call.{Call, Record, own_of, calls_of, pends}
use Rattle.desk_access.specs.Desk.{DeskState, Goes}
use Rattle.desk_access.specs.History.{IsDesk}
use Rattle.desk_access.specs.Journal.{goes_parts}
use Rattle.desk_access.proofs.Added.{AllWritten, groups_all}
use Rattle.desk_access.proofs.Growth.{grown_end}
use Rattle.desk_access.proofs.Lasting.{goes_grows}
use Rattle.desk_access.proofs.Nexts.{all_left, all_right}
use Rattle.desk_access.proofs.OneState.{one_state}
use Rattle.desk_access.proofs.Steps.{goes_later}
use Rattle.forward_core.specs.declared.outward.Outward.{Outward}
use Rattle.desk_seats.specs.Passes.{Known}
use Rattle.desk_seats.specs.Ran.{Ran}
use Rattle.serve_forwarder.specs.declared.destination.Destination.{Destination}
use Rattle.serve_forwarder.specs.declared.looking.Outcome.{Outcome}
use Rattle.serve_forwarder.specs.Sessions.{Session, IsHeld}
use Rattle.serve_forwarder.specs.Looks.{Forwarder, Found, Idle, Unread, Undialed, Held, Look, forwarder_at, held_in, calls_at, Every, Offer, first_of, upto_of, IsFound, IsLook, IsPending}
use Rattle.serve_forwarder.proofs.Chain.{look_is_ran}
use Rattle.serve_run.specs.Running.{Forwarded}
use Rattle.serve_desk.specs.Serving.{Seating}
use Rattle.serve_laws.specs.Last.{EndsWith, IsFoundBy, SendsUpTo, IsLastOfAll, LastLookIsLast}
use Rattle.serve_laws.specs.Runs.{ServerRun}
use Rattle.serve_laws.proofs.Behind.{all_own}
use Rattle.serve_laws.proofs.Contributing.{in_groups}
use Rattle.serve_laws.proofs.Drained.{read_sure}
use Rattle.serve_laws.proofs.Meeting.{behind_met, sees_all}
use Rattle.serve_laws.proofs.Runs.{passes_ran, forwarder_new, workers_stand, forwarder_stands, last_number, by_passes}
use Rattle.serve_laws.proofs.Taken.{first_one}
use Rattle.serve_laws.proofs.Whole.{session_written}

-- ---- calls that write no entry

abbrev NoEntry : Entry → Type 0
NoEntry entry = ⊥

none_of : (entries : List Entry) → All NoEntry entries → entries ≡ []
none_of [] all = refl
none_of (entry ∷ entries) all = absurd (All-head NoEntry entry entries all)

-- the end stays over them
end_stays : (x y : DeskState) (records : List Record) → IsDesk x → x.doubt ≡ [] → Goes x records y → AllWritten NoEntry (calls_of records) → end y.spool ≡ end x.spool
end_stays x y records rules sure goes written =
    let grows = goes_grows x y records y.spool rules goes (first_one y.spool y.doubt) in
    let mended : grows.mended ≡ x.spool = subst (λ (l : List SpoolState). IsOneOf x.spool l grows.mended) sure grows.one in
    let g = in_groups (calls_of records) grows.more grows.adds in
    let none : grows.more ≡ [] = none_of grows.more (subst (All NoEntry) (sym g.2) (groups_all NoEntry (calls_of records) g.0 g.1 written)) in
    let rose = grown_end grows.mended y.spool grows.more grows.grown in
    omega (arith, rose, ap (λ (l : List Entry). length l) none, ap (λ (s : SpoolState). end s) mended)

-- ---- the last look

answered : (start : DeskState → Type 0) (outward : Outward) (look : Look) (found : Found) (a b : Known) → IsFound start outward look found a b → IsFoundBy look.given found
answered start outward look Idle a b f = f.0
answered start outward look (Unread _) a b f = f.0
answered start outward look (Undialed _) a b f = f.0
answered start outward look (Held one) a b f = f.0

module _ (start : DeskState → Type 0) (log : List Record) (met last : Known) (whole : last.seen ≡ log) (only : (rest : List Record) → met.seen ++ rest ≡ log → All (λ (one : Record). one.by ≡ met.number) rest) where
  ends_with : (calls : List Call) → Ran start met calls last → EndsWith met.number calls log
  ends_with calls ran =
      let parts : met.seen ++ ran.between ≡ log = sym ran.seen ∙ whole in
      let mine = only ran.between parts in
      record { before = met.seen; ending = ran.between; parts = sym parts; by = mine; are = all_own met.number ran.between mine ∙ ran.own_between }

  module _ (x y : DeskState) (s : start x) (rules : IsDesk x) (goes : Goes x log y) where
    -- a session's end is the end after the question, and its calls add nothing
    held_to_end : (outward : Outward) (given : List Numbered) (one : Session) (asked : Known) → Ran start met (pends 0 1 (Ok given) ∷ []) asked → IsHeld start outward None one asked last → SendsUpTo (end y.spool) one
    held_to_end outward given one asked ran held =
        let to_begun : held.begun.seen ≡ asked.seen = held.asked.end_ran.quiet refl ∙ held.asked.cursor_ran.quiet refl in
        let looked = ran.between in
        let session = held.made.between in
        let asked_is : asked.seen ≡ met.seen ++ looked = ran.seen in
        let parts : asked.seen ++ session ≡ log = ap (λ (l : List Record). l ++ session) (sym to_begun) ∙ sym held.made.seen ∙ whole in
        let from_met : met.seen ++ (looked ++ session) ≡ log = sym (append_assoc met.seen looked session) ∙ ap (λ (l : List Record). l ++ session) (sym asked_is) ∙ parts in
        let P : Record → Type 0 = λ r. r.by ≡ met.number in
        let mine : All P (looked ++ session) = only (looked ++ session) from_met in
        let number : held.begun.number ≡ met.number = held.asked.end_ran.number ∙ held.asked.cursor_ran.number ∙ ran.number in
        let session_is : calls_of session ≡ one.calls = all_own met.number session (all_right P looked session mine) ∙ ap (λ (n : ℕ). own_of n session) (sym number) ∙ held.made.own_between in
        let looked_is : calls_of looked ≡ pends 0 1 (Ok given) ∷ [] = all_own met.number looked (all_left P looked session mine) ∙ ran.own_between in
        let g = goes_parts x y asked.seen session (subst (λ (l : List Record). Goes x l y) (sym parts) goes) in
        let z = g.0 in
        let h = goes_parts x z met.seen looked (subst (λ (l : List Record). Goes x l z) asked_is g.1) in
        let sure = read_sure h.0 z given looked looked_is h.2 in
        let written = subst (AllWritten NoEntry) (sym session_is) (session_written NoEntry one.until one.start one.calls held.ended.session) in
        let ends = end_stays z y session (goes_later x z asked.seen rules g.1).0 sure g.2 written in
        let seen = held.asked.end_seen x held.asked.between.seen (s, rules, refl) in
        let at_end : seen.0 ≡ z = one_state x seen.0 z asked.seen rules (subst (λ (l : List Record). Goes x l seen.0) (held.asked.cursor_ran.quiet refl) seen.1) g.1 in
        let below : end z.spool ≤ held.end = subst (λ (d : DeskState). end d.spool ≤ held.end) at_end seen.2 in
        let least : end z.spool ≤ one.until = omega (arith, below, held.until_is) in (
          omega (arith, ends, least),
          λ some.
              let after = held.made.lawful some x s in
              let here : after.0 ≡ y = one_state x after.0 y log rules (subst (λ (l : List Record). Goes x l after.0) whole after.1) goes in
              let most : one.until ≤ end y.spool = subst (λ (d : DeskState). one.until ≤ end d.spool) here (omega (arith, after.2, held.asked.end_is, held.until_is)) in
              omega (arith, ends, least, most),
        )

    pending_to_end : (outward : Outward) (given : Result (List Numbered) PendFault) (one : Session) (asked : Known) → Ran start met (pends 0 1 given ∷ []) asked → IsPending given → IsHeld start outward None one asked last → SendsUpTo (end y.spool) one
    pending_to_end outward (Ok given) one asked ran some held = held_to_end outward given one asked ran held
    pending_to_end outward (Err fault) one asked ran some held = absurd some

    found_to_end : (outward : Outward) (look : Look) (found : Found) (asked : Known) → look.offer ≡ Every → Ran start met (pends 0 1 look.given ∷ []) asked → IsFound start outward look found asked last → All (SendsUpTo (end y.spool)) (held_in found)
    found_to_end outward look Idle asked every ran f = All-nil (SendsUpTo (end y.spool))
    found_to_end outward look (Unread _) asked every ran f = All-nil (SendsUpTo (end y.spool))
    found_to_end outward look (Undialed _) asked every ran f = All-nil (SendsUpTo (end y.spool))
    found_to_end outward look (Held one) asked every ran f =
        All-cons (SendsUpTo (end y.spool)) one []
        (pending_to_end outward look.given one asked ran f.0 (subst (λ (o : Offer). IsHeld start outward (upto_of o (first_of look.given)) one asked last) every f.1))
        (All-nil (SendsUpTo (end y.spool)))

  looked_last : (destination : Destination) (look : Look) (net net' : NetState) → ((x : DeskState) → start x → IsDesk x) → look.offer ≡ Every → IsLook start destination look (forwarder_at met net) (forwarder_at last net')
      → IsLastOfAll start met.number log look
  looked_last destination look net net' desk every l = record {
    ends = ends_with (calls_at look) (look_is_ran start destination look (forwarder_at met net) (forwarder_at last net') l);
    answered = answered start destination.outward look look.found l.asked last l.found;
    to_end = λ x y s goes. found_to_end x y s (desk x s) goes destination.outward look look.found l.asked every l.asks l.found;
  }

-- ---- of a run

-- so it is of a forwarder's last look
abbrev pub IsLastOf : (start : DeskState → Type 0) (number : ℕ) (log : List Record) (destination : Option Destination) (workers : List Known) (old new : Forwarder)
    (last : Option Outcome) → Forwarded start destination workers old new last → Type 0
IsLastOf start number log destination workers old new last forwarded =
    elim destination as (λ destination. Forwarded start destination workers old new last → Type 0) [
      | None ↦ λ none. Unit {0}
      | Some destination ↦ λ forwarded. IsLastOfAll start number log forwarded.2.look
    ] forwarded

module _ (tells : Type 0) (start : DeskState → Type 0) (seating : Seating) (new : AloneView) (r : ServerRun tells start seating new) where
  forwarded_last : (destination : Option Destination) (net net' : NetState) (last : Option Outcome) (f : Forwarded start destination r.served.workers' (forwarder_at r.served.forwarder net) (forwarder_at r.served.forwarder' net') last)
      → IsLastOf start (seating.seats - 1) r.served.log destination r.served.workers' (forwarder_at r.served.forwarder net) (forwarder_at r.served.forwarder' net') last f
  forwarded_last None net net' last f = tt
  forwarded_last (Some destination) net net' last f =
      let served = r.served in
      let old = forwarder_at served.forwarder net in
      let left = forwarder_at served.forwarder' net' in
      let ran = passes_ran tells start seating new r in
      let fresh = forwarder_new tells start seating new r in
      let workers = workers_stand tells start seating new r in
      let stands = forwarder_stands tells start seating new r in
      let each = by_passes tells start seating new r in
      let h = f.2 in
      let whole = sees_all start served.log served.workers' old left ran fresh workers stands each destination f.0 h in
      let only = behind_met start served.log served.workers' old left ran fresh workers stands each destination f.0 h in
      let look = look_is_ran start destination h.look (forwarder_at h.met h.beside.net) left h.looked_last in
      let number : h.met.number ≡ seating.seats - 1 = omega (arith, look.number, last_number tells start seating new r, served.count.1, r.seats_are) in
      subst (λ (n : ℕ). IsLastOfAll start n served.log h.look) number
      (looked_last start served.log h.met served.forwarder' whole only destination h.look h.beside.net net' (λ x s. (served.closes.replays.begins x s).rules) h.every h.looked_last)

pub last_look_is_last : (tells : Type 0) (start : DeskState → Type 0) (seating : Seating) (new : AloneView) → LastLookIsLast tells start seating new
last_look_is_last tells start seating new r = forwarded_last tells start seating new r r.given.destination r.given.net r.left.net r.left.last r.served.forwarded
