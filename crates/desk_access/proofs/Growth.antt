-- Lists that grow, and lose first entries.
use Rattle.std.proofs.Common.{◌≡◌, ℕ, ◌+◌, ◌-◌, ◌≤◌, List, [], ◌∷◌, ◌++◌, length, take, drop, refl, sym, ◌∙◌, ap, arith, append_assoc, length-append}
use Rattle.std.proofs.lemmas.List.{append-nil, drop-drop, drop-append-le, length-drop}
use Rattle.std.proofs.Math.Seq.{drop-append-add, drop-append_seam}
use Rattle.event_form.specs.declared.event.Entry.{Entry}
use Rattle.spool_state.specs.Segment.{entries_of}
use Rattle.spool_state.specs.SpoolState.{OpenSlot, SpoolState, entries_in, list, base, end, entry_at, IsSound}
use Rattle.spool_state.specs.Change.{added, begun, shut}
use Rattle.spool_state.proofs.Texts.{list-added}
use Rattle.spool_state.proofs.Begun.{list-begun, base-begun}
use Rattle.spool_state.proofs.Shut.{base-shut}
use Rattle.desk_access.specs.History.{Grown}

-- the same list, with the same numbers
pub grown_same : (s t : SpoolState) → base t ≡ base s → list t ≡ list s → Grown s [] t
grown_same s t at is = record {
  base_rises = omega arith;
  within = omega arith;
  list_is = is ∙ sym (append-nil (list s)) ∙ sym (ap (λ (k : ℕ). drop k (list s ++ [])) (let none : base t - base s ≡ 0 = omega arith in none));
}

pub grown_self : (s : SpoolState) → Grown s [] s
grown_self s = grown_same s s refl refl

pub grown_begun : (s : SpoolState) (place : ℕ) → Grown s [] (begun s place)
grown_begun s place = grown_same s (begun s place) (base-begun s place) (list-begun s place)

pub grown_added : (s : SpoolState) (group : List Entry) → Grown s group (added s group)
grown_added s group = record {
  base_rises = omega arith;
  within = omega arith;
  list_is = list-added s group ∙ sym (ap (λ (k : ℕ). drop k (list s ++ group)) (let none : base s - base s ≡ 0 = omega arith in none));
}

-- the first slot's entries are gone
pub grown_shut : (s : SpoolState) (slot : OpenSlot) (rest : List OpenSlot) → s.older ≡ slot ∷ rest → IsSound s → Grown s [] (shut s rest)
grown_shut s slot rest is sound =
    let gone = base-shut s slot rest is sound in
    let whole : list s ≡ entries_of slot.segment ++ list (shut s rest) = ap (λ (l : List OpenSlot). entries_in l ++ entries_of s.active.segment) is ∙ append_assoc (entries_of slot.segment) (entries_in rest) (entries_of s.active.segment) in
    let many : base (shut s rest) - base s ≡ length (entries_of slot.segment) = omega (arith, gone) in
    record {
      base_rises = omega (arith, gone);
      within = omega (arith, gone, ap length whole, length-append (entries_of slot.segment) (list (shut s rest)));
      list_is = sym (
          ap (λ (k : ℕ). drop k (list s ++ [])) many
          ∙ ap (λ (l : List Entry). drop (length (entries_of slot.segment)) l) (append-nil (list s) ∙ whole)
          ∙ drop-append_seam (entries_of slot.segment) (list (shut s rest)));
    }

-- where the list ends then
pub grown_end : (s t : SpoolState) (more : List Entry) → Grown s more t → end t ≡ end s + length more
grown_end s t more p =
    omega (arith, p.base_rises, p.within, ap length p.list_is, length-drop (base t - base s) (list s ++ more), length-append (list s) more)

pub grown_then : (a b c : SpoolState) (xs ys : List Entry) → Grown a xs b → Grown b ys c → Grown a (xs ++ ys) c
grown_then a b c xs ys p q =
    let past = grown_end a b xs p in
    let many = length-append xs ys in
    let room : base b - base a ≤ length (list a ++ xs) = omega (arith, p.within, p.base_rises, length-append (list a) xs) in
    let steps : (base b - base a) + (base c - base b) ≡ base c - base a = omega (arith, p.base_rises, q.base_rises) in
    record {
      base_rises = omega (arith, p.base_rises, q.base_rises);
      within = omega (arith, q.within, past, many);
      list_is =
          q.list_is
          ∙ ap (λ (l : List Entry). drop (base c - base b) (l ++ ys)) p.list_is
          ∙ ap (drop (base c - base b)) (sym (drop-append-le (base b - base a) (list a ++ xs) ys room) ∙ ap (drop (base b - base a)) (append_assoc (list a) xs ys))
          ∙ drop-drop (base c - base b) (base b - base a) (list a ++ (xs ++ ys))
          ∙ ap (λ (k : ℕ). drop k (list a ++ (xs ++ ys))) steps;
    }

-- an entry that was added has its number, while it isn't gone
pub grown_entry : (s t : SpoolState) (group : List Entry) (k : ℕ) → Grown s group t → base t ≤ end s + k → entry_at t (end s + k) ≡ take 1 (drop k group)
grown_entry s t group k p le =
    let past : base s ≤ end s = omega arith in
    let steps : (base t - base s) + (end s + k - base t) ≡ length (list s) + k = omega (arith, p.base_rises) in
    ap (λ (l : List Entry). take 1 l) (
    ap (drop (end s + k - base t)) p.list_is
    ∙ drop-drop (end s + k - base t) (base t - base s) (list s ++ group)
    ∙ ap (λ (i : ℕ). drop i (list s ++ group)) steps
    ∙ drop-append-add (list s) group k)
