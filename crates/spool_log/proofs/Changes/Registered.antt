-- The register written, seen from the disk.
use Rattle.std.proofs.Common.{◌≡◌, ◌⊎◌, inl, inr, ℕ, ◌+◌, ◌<◌, List, [], ◌∷◌, get_or, sym, ◌∙◌, subst, arith}
use Rattle.std.specs.Prelude.{All}
use Rattle.foundation.specs.Bytes.{part, SameBut}
use Rattle.foundation.proofs.Bytes.{same_part}
use Rattle.known_numbers.specs.declared.stretch.Stretch.{Stretch}
use Rattle.known_numbers.specs.Numbers.{Numbers}
use Rattle.spool_state.specs.SpoolState.{OpenSlot, SpoolState, IsOpenSlot, IsSound}
use Rattle.spool_state.specs.Change.{registered}
use Rattle.spool_state.specs.Cells.{RegisterHas}
use Rattle.spool_state.specs.Image.{slot_at, HoldsSlot, StandsFor}
use Rattle.spool_state.proofs.Frames.{byte_frame, segment_frame, inside}
use Rattle.edge_disk.specs.Disk.{Moment, IsSettled, LeavesOnly}
use Rattle.edge_disk.specs.Gate.{ComesFrom}
use Rattle.edge_disk.proofs.Moments.{weaker, from_settled}
use Rattle.disk_cell.specs.Register.{IsSetStep}
use Rattle.disk_cell.specs.declared.register.Register.{Register}
use Rattle.disk_cell.proofs.Frames.{step_has}
use Rattle.spool_answers.specs.Stages.{StandsForOne}

-- a change of the two cells
module _ (s : SpoolState) (old c : List ℕ) (stands : StandsFor s old) (same : SameBut 4096 8192 old c) where
  slot_stays : (slot : OpenSlot) → slot.place < s.slots → HoldsSlot s.size slot old → HoldsSlot s.size slot c
  slot_stays slot within holds = segment_frame 4096 8192 (slot_at s.size slot.place) s.size slot.segment old c same (inr (omega arith)) (omega (arith, inside s.size slot.place s.slots within, stands.long)) holds

  slots_stay : (slots : List OpenSlot) → All (IsOpenSlot s.slots) slots → All (λ slot. HoldsSlot s.size slot old) slots → All (λ slot. HoldsSlot s.size slot c) slots
  slots_stay slots within hold = λ k d lt. slot_stays (get_or slots k d) (within k d lt).place (hold k d lt)

  header_stays : part 0 20 c ≡ part 0 20 old
  header_stays = same_part 4096 8192 0 20 old c same (inl (omega arith)) (omega (arith, stands.long))

  gate_stays : (place : ℕ) → get_or c (slot_at s.size place) 0 ≡ get_or old (slot_at s.size place) 0
  gate_stays place = byte_frame 4096 8192 old c (slot_at s.size place) same (inr (omega arith))

  pub register_same : RegisterHas s.ordinal s.run s.cursor s.known c → StandsFor s c
  register_same holds = record {
    long = same.len ∙ stands.long;
    header = header_stays ∙ stands.header;
    register = holds;
    older = slots_stay s.older stands.sound.older stands.older;
    active = slot_stays s.active stands.sound.active.place stands.active;
    closed = λ place within away others one. stands.closed place within away others (sym (gate_stays place) ∙ one);
    sound = stands.sound;
  }

  pub register_new : (run : ℕ) (numbers : Numbers) → IsSound (registered s run numbers.cursor numbers.stretches) → RegisterHas (s.ordinal + 1) run numbers.cursor numbers.stretches c → StandsFor (registered s run numbers.cursor numbers.stretches) c
  register_new run numbers sound holds = record {
    long = same.len ∙ stands.long;
    header = header_stays ∙ stands.header;
    register = holds;
    older = slots_stay s.older stands.sound.older stands.older;
    active = slot_stays s.active stands.sound.active.place stands.active;
    closed = λ place within away others one. stands.closed place within away others (sym (gate_stays place) ∙ one);
    sound = sound;
  }

  pub registering : (run : ℕ) (numbers : Numbers) → IsSound (registered s run numbers.cursor numbers.stretches) → RegisterHas s.ordinal s.run s.cursor s.known c ⊎ RegisterHas (s.ordinal + 1) run numbers.cursor numbers.stretches c
      → StandsFor s c ⊎ StandsFor (registered s run numbers.cursor numbers.stretches) c
  registering run numbers sound (inl holds) = inl (register_same holds)
  registering run numbers sound (inr holds) = inr (register_new run numbers sound holds)

-- ---- as the register in memory says

-- what it has, by the words of the state
pub has_as : (ordinal ordinal' run run' cursor cursor' : ℕ) (known known' : List Stretch) (c : List ℕ) → ordinal ≡ ordinal' → run ≡ run' → cursor ≡ cursor' → known ≡ known' → RegisterHas ordinal run cursor known c → RegisterHas ordinal' run' cursor' known' c
has_as ordinal ordinal' run run' cursor cursor' known known' c o r n k has =
    subst (λ (x : ℕ). RegisterHas x run' cursor' known' c) o (subst (λ (x : ℕ). RegisterHas ordinal x cursor' known' c) r (subst (λ (x : ℕ). RegisterHas ordinal run x known' c) n (subst (λ (l : List Stretch). RegisterHas ordinal run cursor l c) k has)))

pub set_moments : (s : SpoolState) (register : Register) (run : ℕ) (numbers : Numbers) (m new : Moment) → IsSettled m → StandsFor s m.reads → register.ordinal ≡ s.ordinal → register.content.run ≡ s.run → register.content.cursor ≡ s.cursor → register.content.known.items ≡ s.known
    → IsSound (registered s run numbers.cursor numbers.stretches) → LeavesOnly (ComesFrom m (IsSetStep register run numbers.cursor numbers.stretches)) m new → LeavesOnly (StandsForOne s (registered s run numbers.cursor numbers.stretches ∷ [])) m new
set_moments s register run numbers m new settled stands ordinal run_is cursor_is known_is sound leaves =
    weaker _ (StandsForOne s (registered s run numbers.cursor numbers.stretches ∷ [])) m new (from_settled (IsSetStep register run numbers.cursor numbers.stretches) m new settled leaves) (λ c step.
    registering s m.reads c stands step.outside run numbers sound (elim (step_has register run numbers.cursor numbers.stretches m.reads c step) [
      | inl old ↦ inl (has_as register.ordinal s.ordinal register.content.run s.run register.content.cursor s.cursor register.content.known.items s.known c ordinal run_is cursor_is known_is old)
      | inr more ↦ inr (subst (λ (n : ℕ). RegisterHas (n + 1) run numbers.cursor numbers.stretches c) ordinal more)
    ]))

-- the numbers as they were handed on
pub step_as : (register : Register) (run cursor cursor' : ℕ) (known known' : List Stretch) (m new : Moment) → cursor ≡ cursor' → known ≡ known' → LeavesOnly (ComesFrom m (IsSetStep register run cursor known)) m new → LeavesOnly (ComesFrom m (IsSetStep register run cursor' known')) m new
step_as register run cursor cursor' known known' m new is same leaves =
    subst (λ (l : List Stretch). LeavesOnly (ComesFrom m (IsSetStep register run cursor' l)) m new) same (subst (λ (n : ℕ). LeavesOnly (ComesFrom m (IsSetStep register run n known)) m new) is leaves)
