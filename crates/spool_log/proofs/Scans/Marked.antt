-- The marks at which the last reading began and ended, where slots change.
use Rattle.std.proofs.Common.{◌≡◌, ℕ, zero, suc, ◌+◌, ◌<◌, Option, Some, None, List, [], ◌∷◌, ◌++◌, length, get_or, subst, arith}
use Rattle.event_form.specs.declared.event.Entry.{Entry}
use Rattle.spool_state.specs.Change.{slot_with}
use Rattle.spool_state.specs.SpoolState.{OpenSlot, AreConsecutive, ordinal_of}
use Rattle.spool_slots.proofs.Marks.{mark_stays}
use Rattle.spool_log.specs.declared.reading.bookmark.Bookmark.{Bookmark}
use Rattle.spool_log.specs.Reading.Marked.{AreMarks, IsMarkOf, IsMarkAmong, IsMarked}

-- where none was kept
among_none : (slots : List OpenSlot) → IsMarkAmong None slots
among_none [] = tt
among_none (slot ∷ slots) = (tt, among_none slots)

pub marked_none : (older : List OpenSlot) (active : OpenSlot) → IsMarked older active None
marked_none older active = record { older_marked = among_none older; active_marked = tt; upto = tt }

-- where a group comes after them
pub marked_group : (older : List OpenSlot) (active : OpenSlot) (group : List Entry) (bookmark : Option Bookmark) → IsMarked older active bookmark → IsMarked older (slot_with active group) bookmark
marked_group older active group None h = record { older_marked = h.older_marked; active_marked = tt; upto = tt }
marked_group older active group (Some bookmark) h = record {
  older_marked = h.older_marked;
  active_marked = λ is. record {
    began = mark_stays active.segment group bookmark.began (h.active_marked is).began;
    ended = mark_stays active.segment group bookmark.ended (h.active_marked is).ended;
  };
  upto = h.upto;
}

-- where another slot becomes the active one
among_push : (bookmark : Option Bookmark) (slots : List OpenSlot) (last : OpenSlot) → IsMarkAmong bookmark slots → IsMarkOf bookmark last.segment → IsMarkAmong bookmark (slots ++ last ∷ [])
among_push bookmark [] last h one = (one, tt)
among_push bookmark (slot ∷ slots) last h one = (h.0, among_push bookmark slots last h.1 one)

pub marked_begun : (older : List OpenSlot) (active next : OpenSlot) (bookmark : Option Bookmark) → next.segment.ordinal ≡ active.segment.ordinal + 1 → IsMarked older active bookmark → IsMarked (older ++ active ∷ []) next bookmark
marked_begun older active next None is h = record { older_marked = among_push None older active h.older_marked tt; active_marked = tt; upto = tt }
marked_begun older active next (Some bookmark) is h = record {
  older_marked = among_push (Some bookmark) older active h.older_marked h.active_marked;
  active_marked = λ same. absurd (omega (arith, same, is, h.upto));
  upto = omega (arith, is, h.upto);
}

-- where the first is shut
pub marked_shut : (slot : OpenSlot) (rest : List OpenSlot) (active : OpenSlot) (bookmark : Option Bookmark) → IsMarked (slot ∷ rest) active bookmark → IsMarked rest active bookmark
marked_shut slot rest active bookmark h = record { older_marked = h.older_marked.1; active_marked = h.active_marked; upto = h.upto }

-- of the slot at a place
pub marked_at : (bookmark : Option Bookmark) (slots : List OpenSlot) (i : ℕ) (d : OpenSlot) → i < length slots → IsMarkAmong bookmark slots → IsMarkOf bookmark (get_or slots i d).segment
marked_at bookmark [] i d lt h = absurd (omega arith)
marked_at bookmark (slot ∷ slots) zero d lt h = h.0
marked_at bookmark (slot ∷ slots) (suc i) d lt h = marked_at bookmark slots i d (omega arith) h.1

-- ---- marks that are kept

front : (slots : List OpenSlot) (ordinal first : ℕ) → AreConsecutive slots ordinal first → ordinal_of slots ordinal + length slots ≡ ordinal
front [] ordinal first h = omega arith
front (slot ∷ slots) ordinal first h = omega (arith, h.0, front slots ordinal first h.3)

ordinal_at : (slots : List OpenSlot) (ordinal first i : ℕ) (d : OpenSlot) → AreConsecutive slots ordinal first → i < length slots → (get_or slots i d).segment.ordinal + length slots ≡ ordinal + i
ordinal_at [] ordinal first i d h lt = absurd (omega arith)
ordinal_at (slot ∷ slots) ordinal first zero d h lt = omega (arith, h.0, front slots ordinal first h.3)
ordinal_at (slot ∷ slots) ordinal first (suc i) d h lt = omega (arith, ordinal_at slots ordinal first i d h.3 (omega arith))

among_all : (slots : List OpenSlot) (d : OpenSlot) (bookmark : Bookmark) → ((k : ℕ) → k < length slots → (get_or slots k d).segment.ordinal ≡ bookmark.ordinal → AreMarks (get_or slots k d).segment bookmark) → IsMarkAmong (Some bookmark) slots
among_all [] d bookmark h = tt
among_all (slot ∷ slots) d bookmark h = (h 0 (omega arith), among_all slots d bookmark (λ k lt. h (suc k) (omega (arith, lt))))

module _ (older : List OpenSlot) (active : OpenSlot) (ordered : AreConsecutive older active.segment.ordinal active.segment.first) where
  -- in an older slot
  pub kept_older : (i : ℕ) (bookmark : Bookmark) → i < length older → bookmark.ordinal ≡ (get_or older i active).segment.ordinal → AreMarks (get_or older i active).segment bookmark → IsMarked older active (Some bookmark)
  kept_older i bookmark lt is here =
      let at = ordinal_at older active.segment.ordinal active.segment.first i active ordered lt in
      record {
        older_marked = among_all older active bookmark (λ k less same.
            let one : i ≡ k = omega (arith, at, ordinal_at older active.segment.ordinal active.segment.first k active ordered less, same, is) in
            subst (λ (n : ℕ). AreMarks (get_or older n active).segment bookmark) one here);
        active_marked = λ same. absurd (omega (arith, at, lt, same, is));
        upto = omega (arith, at, lt, is);
      }

  -- in the active one
  pub kept_active : (bookmark : Bookmark) → bookmark.ordinal ≡ active.segment.ordinal → AreMarks active.segment bookmark → IsMarked older active (Some bookmark)
  kept_active bookmark is here = record {
    older_marked = among_all older active bookmark (λ k less same. absurd (omega (arith, ordinal_at older active.segment.ordinal active.segment.first k active ordered less, less, same, is)));
    active_marked = λ same. here;
    upto = omega (arith, is);
  }
