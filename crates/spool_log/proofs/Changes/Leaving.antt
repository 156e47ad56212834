-- What a write within a change may tear keeps the spool.
use Rattle.std.proofs.Common.{◌≡◌, ◌⊎◌, inl, inr, ℕ, ◌+◌, ◌-◌, ◌^◌, ◌<◌, ◌≤◌, List, [], ◌∷◌, ◌++◌, length, get_or, refl, sym, ◌∙◌, ap, subst, arith}
use Rattle.std.specs.Prelude.{All}
use Rattle.std.proofs.lemmas.List.Elements.{All-head}
use Rattle.foundation.specs.Bytes.{SameBut}
use Rattle.event_form.specs.declared.event.Entry.{Entry}
use Rattle.known_numbers.specs.Numbers.{Numbers, IsKnown}
use Rattle.spool_state.specs.Segment.{IsGroup, Segment, empty_segment, group_text, need_of}
use Rattle.spool_state.specs.SpoolState.{OpenSlot, SpoolState, IsOpenSlot, end, numbers_of, IsKnownIn, IsSound}
use Rattle.spool_state.specs.Change.{added, begun, shut, registered}
use Rattle.spool_state.specs.Cells.{RegisterHas}
use Rattle.spool_state.specs.Image.{slot_at, HoldsSegment, StandsFor}
use Rattle.spool_state.specs.Keeping.{KeepsSpool}
use Rattle.spool_state.proofs.Keeping.{keeps_same, keeps_later}
use Rattle.spool_state.proofs.Adding.{adding, with_active}
use Rattle.spool_state.proofs.Begun.{follows_begun}
use Rattle.spool_state.proofs.Following.{follows_added, follows_registered}
use Rattle.spool_state.proofs.Frames.{inside}
use Rattle.spool_state.proofs.Shut.{follows_shut}
use Rattle.edge_disk.specs.Disk.{Moment, IsSettled}
use Rattle.edge_disk.specs.Gate.{GoesBehind}
use Rattle.edge_disk.specs.Leave.{TearsOn}
use Rattle.edge_disk.proofs.GateSteps.{gate_moves}
use Rattle.disk_cell.specs.Register.{GoesSet}
use Rattle.disk_cell.specs.declared.register.Register.{Register}
use Rattle.disk_cell.specs.Content.{text_of}
use Rattle.disk_cell.proofs.Contents.{text_is}
use Rattle.disk_cell.proofs.Setting.{holds}
use Rattle.disk_cell.proofs.Frames.{step_has}
use Rattle.spool_slots.specs.declared.slot.Slot.{Slot}
use Rattle.spool_slots.specs.Slot.{IsClosedOrHolds, HoldsOldOrNew, GoesBegun}
use Rattle.spool_slots.proofs.Steps.{old_holds, new_holds, shut_step}
use Rattle.spool_log.specs.Knows.{KnowsSlot, Knows}
use Rattle.spool_log.specs.Changing.Next.{IsNext}
use Rattle.spool_log.specs.declared.changing.begin.Head.{Head}
use Rattle.spool_log.specs.declared.memory.Memory.{Memory}
use Rattle.spool_log.specs.Memory.{run_of, cursor_of, numbers_of as known_numbers_of}
use Rattle.spool_log.proofs.Changes.Added.{holds_images}
use Rattle.spool_log.proofs.Changes.Begun.{closed_stands, beginning_stands}
use Rattle.spool_log.proofs.Changes.Marking.{numbers_known}
use Rattle.spool_log.proofs.Changes.Registered.{has_as, register_same, registering}
use Rattle.spool_log.proofs.Changes.Replacing.{First, first_images}
use Rattle.spool_log.proofs.Changes.Shut.{shutting_stands}

-- on a settled disk, whose bytes stand for a state
module _ (Released : ℕ → Type 0) (s : SpoolState) (m : Moment) (settled : IsSettled m) (stands : StandsFor s m.reads) where
  stands_each : (c : List ℕ) → m.image c → StandsFor s c
  stands_each c image = subst (StandsFor s) (sym (settled.only c image)) stands

  -- ---- a group added to the active slot
  module _ (slot : Slot) (knows : KnowsSlot s.size s.active slot) where
    at_place : (P : ℕ → ℕ → Type 0) → P slot.at slot.size → P (slot_at s.size s.active.place) s.size
    at_place P p = subst (λ (x : ℕ). P x s.size) knows.at_is (subst (λ (y : ℕ). P slot.at y) knows.size_is p)

    room_in : (c : List ℕ) → StandsFor s c → slot.at + slot.size ≤ length c
    room_in c there = omega (arith, knows.at_is, knows.size_is, there.long, inside s.size s.active.place s.slots there.sound.active.place)

    pub adding_keeps : (group : List Entry) → IsGroup group → end s + length group ≤ 2 ^ 63 → need_of group ≤ slot.size - slot.gate - 1 → (now torn : List ℕ) → GoesBehind m (slot.at + slot.gate) (group_text group ++ 0 ∷ []) now torn → KeepsSpool Released now torn
    adding_keeps group is fits le now torn goes =
        let old = goes.from in
        let there = stands_each old goes.was in
        let known = holds_images s slot m settled stands knows old goes.was in
        let kept = old_holds slot s.active.segment group old now (room_in old there) le known goes.before goes.closed in
        let here : StandsFor s now = with_active s s.active old now (omega (arith, stands.sound.large)) refl there
        (at_place (λ x y. SameBut x y old now) kept.0) (at_place (λ x y. HoldsSegment x y s.active.segment now) kept.1) stands.sound in
        let new = at_place (λ x y. HoldsOldOrNew x y s.active.segment group old torn) (new_holds slot s.active.segment group old torn (room_in old there) le known goes.after) in
        elim (adding s group old torn is fits there new.outside new.inside) [
          | inl same ↦ keeps_same Released s now torn here same
          | inr more ↦ keeps_later Released s (added s group) now torn here more refl refl (follows_added s group stands.sound.from_base) (λ n k. k)
        ]

  -- ---- a segment begun in a closed slot
  pub begun_keeps : (place : ℕ) (head : Head) → IsNext s place head → (now torn : List ℕ) → GoesBegun m head.at head.size (empty_segment head.ordinal head.first) now torn → KeepsSpool Released now torn
  begun_keeps place head next now torn goes =
      let old = goes.from in
      let there = stands_each old goes.was in
      let At : (ℕ → ℕ → Type 0) → Type 0 = λ P. P (slot_at s.size place) s.size in
      let at_place : (P : ℕ → ℕ → Type 0) → P head.at head.size → At P = λ P p. subst (λ (x : ℕ). P x s.size) next.at_is (subst (λ (y : ℕ). P head.at y) next.size_is p) in
      let outside = at_place (λ x y. SameBut x y old now) goes.before in
      let shut_here = at_place (λ x y. get_or now x 0 ≡ 1 → ⊥) goes.closed in
      let here = closed_stands s place old now there next.closed outside shut_here in
      let new = at_place (λ x y. IsClosedOrHolds x y (empty_segment (s.active.segment.ordinal + 1) (end s)) old torn)
      (subst (λ (o : ℕ). IsClosedOrHolds head.at head.size (empty_segment o (end s)) old torn) next.ordinal_is (subst (λ (f : ℕ). IsClosedOrHolds head.at head.size (empty_segment head.ordinal f) old torn) next.first_is goes.after)) in
      elim (beginning_stands s place old torn there next.closed new.outside next.some new.inside) [
        | inl same ↦ keeps_same Released s now torn here same
        | inr more ↦ keeps_later Released s (begun s place) now torn here more refl refl (follows_begun s place stands.sound.from_base) (λ n k. k)
      ]

  -- ---- the first slot shut
  pub tears_shut : {older : List Slot} {number : Slot} (first : First s older number) → TearsOn (KeepsSpool Released) m number.at 1
  tears_shut {older} {number} first = λ d torn image same.
      let there = stands_each d image in
      let here = first_images s first m settled stands d image in
      let room : number.at + number.size ≤ length d = omega (arith, first.knows.at_is, first.knows.size_is, there.long, inside s.size first.slot.place s.slots (first_within first)) in
      let some : 0 < number.size = omega (arith, first.knows.size_is, stands.sound.large) in
      let step = shut_step number.at number.size first.slot.segment d torn room some here (gate_moves number.at d torn (omega arith) same) in
      let at = subst (λ (x : ℕ). IsClosedOrHolds x s.size first.slot.segment d torn) first.knows.at_is (subst (λ (y : ℕ). IsClosedOrHolds number.at y first.slot.segment d torn) first.knows.size_is step) in
      elim (shutting_stands s first.slot first.rest first.is stands.sound first.confirmed d torn there at.outside at.inside) [
        | inl still ↦ ∣ (d, image, keeps_same Released s d torn there still) ∣₁
        | inr closed ↦ ∣ (d, image, keeps_later Released s (shut s first.rest) d torn there closed refl refl (follows_shut s first.slot first.rest first.is stands.sound first.confirmed) (λ n k. k)) ∣₁
      ]
    where
      first_within : First s older number → first.slot.place < s.slots
      first_within f = (All-head (IsOpenSlot s.slots) first.slot first.rest (subst (λ (l : List OpenSlot). All (IsOpenSlot s.slots) l) first.is stands.sound.older)).place

  -- ---- the register written
  pub set_keeps : (memory : Memory) (run : ℕ) (numbers : Numbers) → Knows s memory → IsSound (registered s run numbers.cursor numbers.stretches) → run_of memory ≤ run → cursor_of memory ≤ numbers.cursor
      → ((n : ℕ) → IsKnown (known_numbers_of memory) n → IsKnown numbers n) → ((n : ℕ) → IsKnown numbers n → IsKnown (known_numbers_of memory) n ⊎ Released n)
      → (now torn : List ℕ) → GoesSet m memory.register run numbers.cursor numbers.stretches now torn → KeepsSpool Released now torn
  set_keeps memory run numbers knows sound rises reaches keeps earned now torn goes =
      let r = memory.register in
      let old = goes.from in
      let there = stands_each old goes.was in
      let after = registered s run numbers.cursor numbers.stretches in
      let is = numbers_known s memory knows in
      let here = register_same s old now there goes.before.outside
      (has_as r.ordinal s.ordinal r.content.run s.run r.content.cursor s.cursor r.content.known.items s.known now knows.ordinal knows.run knows.cursor knows.known
      (text_of r.content, text_is r.content r.version, holds r.counting r.ordinal (text_of r.content) now goes.before.counts)) in
      let has : RegisterHas s.ordinal s.run s.cursor s.known torn ⊎ RegisterHas (s.ordinal + 1) run numbers.cursor numbers.stretches torn = elim (step_has r run numbers.cursor numbers.stretches old torn goes.after) [
        | inl was ↦ inl (has_as r.ordinal s.ordinal r.content.run s.run r.content.cursor s.cursor r.content.known.items s.known torn knows.ordinal knows.run knows.cursor knows.known was)
        | inr more ↦ inr (subst (λ (n : ℕ). RegisterHas (n + 1) run numbers.cursor numbers.stretches torn) knows.ordinal more)
      ] in
      elim (registering s old torn there goes.after.outside run numbers sound has) [
        | inl same ↦ keeps_same Released s now torn here same
        | inr new ↦ record {
          state = s;
          later = after;
          stands = here;
          stands_later = new;
          slots = refl;
          size = refl;
          follows = follows_registered s run numbers.cursor numbers.stretches stands.sound.from_base (omega (arith, rises, knows.run)) (omega (arith, reaches, knows.cursor)) (λ n k. keeps n (subst (λ (a : Numbers). IsKnown a n) (sym is) k));
          earned = λ n k. elim (earned n k) [ inl was ↦ inl (subst (λ (a : Numbers). IsKnown a n) is was) | inr may ↦ inr may ];
        }
      ]
