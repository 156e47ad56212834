use Rattle.std.proofs.Common.{◌≡◌, inl, inr, Option, ℕ, ◌+◌, ◌-◌, ◌<◌, ◌++◌, List, ◌∷◌, length, take, drop, get_or, sym, ◌∙◌, ap, subst, arith, add-one, drop-cons}
use Rattle.std.specs.Prelude.{Result, MatchResult}
use Rattle.std.specs.Global.{Vec}
use Rattle.known_numbers.specs.Numbers.{Numbers}
use Rattle.edge_disk.proofs.Calls.{calls_none, calls_on, calls_as}
use Rattle.edge_disk.proofs.Moments.{untouched_refl, untouched_then}
use Rattle.spool_state.specs.Segment.{entries_of}
use Rattle.spool_state.specs.SpoolState.{base, list, numbers_of}
use Rattle.spool_state.specs.Left.{NumberedEntry, numbered, left_from}
use Rattle.spool_faults.specs.declared.fault.PendFault.{PendFault}
use Rattle.spool_log.specs.declared.reading.bookmark.Bookmark.{Bookmark}
use Rattle.spool_answers.specs.declared.numbered.Numbered.{Numbered}
use Rattle.spool_log.specs.Device.{first_in}
use Rattle.spool_log.specs.Knows.{IsStored}
use Rattle.spool_answers.specs.Pend.{given_entries, IsNotBroken, AreNumbered}
use Rattle.spool_log.specs.Reading.Marked.{IsMarked}
use Rattle.spool_log.specs.Reading.Wanted.{wanted_from}
use Rattle.spool_log.proofs.Opens.Mending.{err_is}
use Rattle.spool_log.proofs.Scans.Chained.{go_on-at}
use Rattle.spool_log.proofs.Changes.Lowest.{length-knows}
use Rattle.spool_log.proofs.Scans.Known.{numbered_earlier, wanted_next}
use Rattle.spool_log.proofs.Scans.Marked.{marked_at, kept_older, kept_active}
use Rattle.spool_log.proofs.Scans.Listing.{length-given, wanted_so_far, wanted_none, knows_slot, knows_active, read_next, read_last}
use Rattle.spool_log.proofs.memory.Memory.read_from.Goals as goal

pub loop-slot-init : goal.loop-slot-init
loop-slot-init g c = record {
  calls = calls_none _;
  told = λ tells. untouched_refl _;
  few = omega (arith, ap length c.new-given.ensures.items);
  go_on = c.args.self.now.go_on;
  numbered = subst (AreNumbered c.next_unknown-least.result (first_in c.args.self.now.older.items c.args.self.now.active.first)) (sym c.new-given.ensures.items) tt;
  marked = λ s tells stored. stored.knows.bookmark;
  read = λ s tells stored. ap given_entries c.new-given.ensures.items ∙ sym (wanted_none s c.args.numbers.now c.next_unknown-least.result c.args.most);
}

pub loop-slot-preserved : goal.loop-slot-preserved
loop-slot-preserved g c =
    let memory = c.args.self.now in
    let items = memory.older.items in
    let inv = c.loop-slot.invariant in
    let i = c.loop-slot.slot-index in
    let slot = c.slot-item.result in
    let least = c.next_unknown-least.result in
    let lt : i < length items = omega (arith, c.loop-slot-test.true, ap length c.deref-slot-items.ensures.value) in
    let is : slot ≡ get_or items i slot = cc (c.slot-item.is, c.deref-slot-items.ensures.value) in
    let split : drop i items ≡ slot ∷ drop (i + 1) items = drop-cons items i slot lt ∙ cc (sym is, ap (λ (n : ℕ). drop n items) (sym (add-one i))) in
    let on = go_on-at items memory.active.first i slot split inv.go_on in
    record {
      calls = calls_on ⊥ ⊥ _ _ _ inv.calls (λ f. f) (calls_as _ ⊥ _ _ c.in_ok-read.ensures.calls (λ f. absurd f) (λ h. absurd (cc h)));
      told = λ tells. untouched_then _ _ _ (g.met.D.Disk.lawful c.args.disk.now tells) (inv.told tells) (c.in_ok-read.ensures.told tells);
      few = c.in_ok-read.ensures.few;
      go_on = on.1;
      numbered = subst (λ (n : ℕ). AreNumbered least n c.read_slot.new.given.items) (sym on.0) c.in_ok-read.ensures.numbered;
      marked = λ s tells stored.
          let here = subst (λ (d : List ℕ). IsStored s memory d) (sym (inv.told tells).same) stored in
          let knows = knows_slot s items _ here.stands here.knows.older c.args.numbers.now least c.args.most i slot lt is in
          let lt' : i < length s.older = omega (arith, lt, length-knows s.size s.older items stored.knows.older) in
          let read = c.in_ok-read.ensures.read _ tells knows (c.start_in-start.ensures.mark _ _ knows (marked_at memory.bookmark s.older i s.active lt' stored.knows.bookmark.older_marked)) in
          elim c.moved-bookmark.ensures [
            | inl same ↦ subst (IsMarked s.older s.active) (sym same) (inv.marked s tells stored)
            | inr new ↦ subst (IsMarked s.older s.active) (sym new) (kept_older s.older s.active stored.stands.sound.consecutive i c.in_ok-read.read lt' (c.in_ok-read.ensures.ordinal ∙ knows.ordinal) read.0)
          ];
      read = λ s tells stored.
          let here = subst (λ (d : List ℕ). IsStored s memory d) (sym (inv.told tells).same) stored in
          let knows = knows_slot s items _ here.stands here.knows.older c.args.numbers.now c.next_unknown-least.result c.args.most i slot lt is in
          let before = inv.read s tells stored in
          let read = c.in_ok-read.ensures.read _ tells knows (c.start_in-start.ensures.mark _ _ knows (marked_at memory.bookmark s.older i s.active (omega (arith, lt, length-knows s.size s.older items stored.knows.older)) stored.knows.bookmark.older_marked)) in
          read.1
          ∙ ap (λ (n : ℕ). given_entries c.loop-slot.given.items ++ take (c.args.most - n) (wanted_from c.args.numbers.now least (numbered (get_or s.older i s.active).segment.first (entries_of (get_or s.older i s.active).segment)))) (sym (length-given c.loop-slot.given.items))
          ∙ read_next s items _ here.stands here.knows.older c.args.numbers.now least c.args.most i (given_entries c.loop-slot.given.items) lt before;
    }

pub returns-in_err-read-clause-read : goal.returns-in_err-read-clause-read
returns-in_err-read-clause-read g c = λ s tells stored.
    let memory = c.args.self.now in
    let items = memory.older.items in
    let i = c.loop-slot.slot-index in
    let slot = c.slot-item.result in
    let lt : i < length items = omega (arith, c.loop-slot-test.true, ap length c.deref-slot-items.ensures.value) in
    let is : slot ≡ get_or items i slot = cc (c.slot-item.is, c.deref-slot-items.ensures.value) in
    let here = subst (λ (d : List ℕ). IsStored s memory d) (sym (c.loop-slot.invariant.told tells).same) stored in
    let knows = knows_slot s items _ here.stands here.knows.older c.args.numbers.now c.next_unknown-least.result c.args.most i slot lt is in
    subst (λ (r : Result (Vec Numbered × Option Bookmark) PendFault). MatchResult r (λ read. (given_entries read.0.items ≡ take c.args.most (left_from s c.args.from)) × IsMarked s.older s.active read.1) IsNotBroken) (sym (err_is _ _ c.from_residual.ensures.1))
    (c.in_err-read.ensures.read _ tells knows (c.start_in-start.ensures.mark _ _ knows (marked_at memory.bookmark s.older i s.active (omega (arith, lt, length-knows s.size s.older items stored.knows.older)) stored.knows.bookmark.older_marked)))

pub returns-in_err-read-2-clause-read : goal.returns-in_err-read-2-clause-read
returns-in_err-read-2-clause-read g c = λ s tells stored.
    let memory = c.args.self.now in
    let items = memory.older.items in
    let here = subst (λ (d : List ℕ). IsStored s memory d) (sym (c.loop-slot.invariant.told tells).same) stored in
    let knows = knows_active s items _ here.stands here.knows.older c.args.numbers.now c.next_unknown-least.result c.args.most memory.active here.knows.active in
    subst (λ (r : Result (Vec Numbered × Option Bookmark) PendFault). MatchResult r (λ read. (given_entries read.0.items ≡ take c.args.most (left_from s c.args.from)) × IsMarked s.older s.active read.1) IsNotBroken) (sym (err_is _ _ c.from_residual-in_err-read-2.ensures.1))
    (c.in_err-read-2.ensures.read _ tells knows (c.start_in-start-2.ensures.mark _ _ knows stored.knows.bookmark.active_marked))

pub returns-clause-numbered : goal.returns-clause-numbered
returns-clause-numbered g c = numbered_earlier c.args.from c.next_unknown-least.result _ _ c.next_unknown-least.ensures.above c.in_ok-read-2.ensures.numbered

pub returns-clause-read : goal.returns-clause-read
returns-clause-read g c = λ s tells stored.
    let memory = c.args.self.now in
    let items = memory.older.items in
    let from = c.args.from in
    let least = c.next_unknown-least.result in
    let most = c.args.most in
    let given = given_entries c.loop-slot.given.items in
    let here = subst (λ (d : List ℕ). IsStored s memory d) (sym (c.loop-slot.invariant.told tells).same) stored in
    let knows = knows_active s items _ here.stands here.knows.older c.args.numbers.now c.next_unknown-least.result c.args.most memory.active here.knows.active in
    let all : c.loop-slot.slot-index ≡ length items = omega (arith, c.loop-slot-test.false, c.loop-slot.auto.slot-index-end, ap length c.deref-slot-items.ensures.value) in
    let before : given ≡ wanted_so_far s c.args.numbers.now least most (length items) = c.loop-slot.invariant.read s tells stored ∙ ap (λ (n : ℕ). wanted_so_far s c.args.numbers.now least most n) all in
    let read = c.in_ok-read-2.ensures.read _ tells knows (c.start_in-start-2.ensures.mark _ _ knows stored.knows.bookmark.active_marked) in
    let numbers : c.args.numbers.now ≡ numbers_of s = c.requires.known ∙ (λ j. record { cursor = stored.knows.cursor j; stretches = stored.knows.known j }) in
    let marked : IsMarked s.older s.active c.moved.result = elim c.moved.ensures [
      | inl same ↦ subst (IsMarked s.older s.active) (sym same) (c.loop-slot.invariant.marked s tells stored)
      | inr new ↦ subst (IsMarked s.older s.active) (sym new) (kept_active s.older s.active stored.stands.sound.consecutive c.in_ok-read-2.read (c.in_ok-read-2.ensures.ordinal ∙ knows.ordinal) read.0)
    ] in (
      read.1
          ∙ ap (λ (n : ℕ). given ++ take (most - n) (wanted_from c.args.numbers.now least (numbered s.active.segment.first (entries_of s.active.segment)))) (sym (length-given c.loop-slot.given.items))
          ∙ read_last s items _ here.stands here.knows.older c.args.numbers.now least most given before
          ∙ ap (λ (l : List NumberedEntry). take most l) (wanted_next c.args.numbers.now from least (numbered (base s) (list s)) c.next_unknown-least.ensures.above c.next_unknown-least.ensures.passed)
          ∙ ap (λ (n : Numbers). take most (wanted_from n from (numbered (base s) (list s)))) numbers,
      marked,
    )
