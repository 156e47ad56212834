-- Entries with their numbers, as the spool gives them.
use Rattle.std.proofs.Common.{◌≡◌, ℕ, ◌+◌, ◌-◌, ◌<◌, ◌≤◌, List, [], ◌∷◌, ◌++◌, length, take, drop, get_or, refl, sym, ◌∙◌, ap, subst, arith, take-append-drop}
use Rattle.std.specs.Prelude.{zero, suc, All, Option, map}
use Rattle.std.proofs.lemmas.List.{take_more, take_all, map-append}
use Rattle.std.proofs.lemmas.List.Elements.{All-nil, All-cons, All-same, All-drop}
use Rattle.event_form.specs.Entry.{IsEntry}
use Rattle.spool_state.specs.Left.{NumberedEntry}
use Rattle.spool_answers.specs.declared.numbered.Numbered.{Numbered}
use Rattle.spool_answers.specs.Pend.{given_entries, AreNumbered}
use Rattle.bridge_words.specs.declared.command.ListForm.{ListForm}
use Rattle.notes.specs.declared.note.Note.{Note}
use Rattle.notes.specs.declared.note.Note.TheVariants.{Fine}
use Rattle.commands.specs.Listed.{IsLine, ArePrinted}
use Rattle.commands.proofs.Printing.{IsLimited, Gathered, gathered_line, printed_cut}
use Rattle.commands.proofs.Rising.{after_last, after_append}

-- one of them, as an entry and its number
abbrev pub entry_of : Numbered → NumberedEntry
entry_of one = record { number = one.number; entry = one.entry }

-- its number lies between these, and the entry keeps its limits
pub record IsGiven (from end : ℕ) (one : Numbered) : Type 0 where
  pub above : from ≤ one.number
  pub below : one.number < end
  pub limits : IsEntry one.entry

wider : (from least end : ℕ) (one : Numbered) → least ≤ from → IsGiven from end one → IsGiven least end one
wider from least end one le g = record { above = omega (arith, le, g.above); below = g.below; limits = g.limits }

pub each_given : (from end : ℕ) (given : List Numbered) → AreNumbered from end given → All (IsGiven from end) given
each_given from end [] are = All-nil (IsGiven from end)
each_given from end (one ∷ more) are =
    All-cons (IsGiven from end) one more (record { above = are.0; below = are.1; limits = are.2 }) (λ k d lt. wider (one.number + 1) from end _ (omega (arith, are.0)) (each_given (one.number + 1) end more are.3 k d lt))

pub given_limits : (from end : ℕ) (given : List Numbered) → AreNumbered from end given → All IsLimited (given_entries given)
given_limits from end [] are = All-nil IsLimited
given_limits from end (one ∷ more) are = All-cons IsLimited (entry_of one) (given_entries more) are.2 (given_limits (one.number + 1) end more are.3)

-- one more of them
pub given_more : (given : List Numbered) (i : ℕ) (d : Numbered) → i < length given → given_entries (take (i + 1) given) ≡ given_entries (take i given) ++ entry_of (get_or given i d) ∷ []
given_more given i d lt = ap given_entries (take_more given i d lt) ∙ map-append entry_of (take i given) (get_or given i d ∷ [])

-- those before and after
pub given_parts : (given : List Numbered) (i : ℕ) → given_entries given ≡ given_entries (take i given) ++ given_entries (drop i given)
given_parts given i = ap given_entries (sym (take-append-drop i given)) ∙ map-append entry_of (take i given) (drop i given)

pub given_limits_after : (from end : ℕ) (given : List Numbered) (i : ℕ) → AreNumbered from end given → All IsLimited (given_entries (drop i given))
given_limits_after from end given i are =
    All-same IsLimited (given_entries (drop i given)) (drop i (given_entries given)) (sym (drop-map entry_of i given))
    (All-drop IsLimited i (given_entries given) (given_limits from end given are))
  where
    drop-map : (f : Numbered → NumberedEntry) (n : ℕ) (xs : List Numbered) → drop n (map f xs) ≡ map f (drop n xs)
    drop-map f zero xs = refl
    drop-map f (suc n) [] = refl
    drop-map f (suc n) (x ∷ xs) = drop-map f n xs

-- the number after the last one's
pub given_last : (given : List Numbered) (d : Numbered) → 0 < length given → after_last 0 (given_entries given) ≡ (get_or given (length given - 1) d).number + 1
given_last given d some =
    let last = get_or given (length given - 1) d in
    ap (λ (g : List Numbered). after_last 0 (given_entries g)) (sym (take_all (length given - 1 + 1) given (omega arith)))
    ∙ ap (after_last 0) (given_more given (length given - 1) d (omega (arith, some)))
    ∙ after_append 0 (given_entries (take (length given - 1) given)) (entry_of last)

-- the last one of a list of them
pub record IsLast (from end : ℕ) (given : List Numbered) (one : Numbered) : Type 0 where
  pub some : 0 < length given
  pub place : one ≡ get_or given (length given - 1) one
  pub is : IsGiven from end one

pub last_given : (from end : ℕ) (given xs : List Numbered) (one : Numbered) → AreNumbered from end given → xs ≡ given → 0 < length xs → one ≡ get_or xs (length xs - 1) one → IsLast from end given one
last_given from end given xs one are same some place =
    let place_there = subst (λ (l : List Numbered). one ≡ get_or l (length l - 1) one) same place in
    let some_there : 0 < length given = omega (arith, some, ap length same) in
    record { some = some_there; place = place_there; is = subst (IsGiven from end) (sym place_there) (each_given from end given are (length given - 1) one (omega (arith, some_there))) }

-- ---- printed

module _ (form : ListForm) (given : List Numbered) (i : ℕ) (old new : Option (List ℕ)) where
  -- the first of them were not all printed, and so they were not
  pub printed_first : (note : Note) (from end : ℕ) → AreNumbered from end given → (note ≡ Fine → ⊥) → ArePrinted form (given_entries (take i given)) note old new → ArePrinted form (given_entries given) note old new
  printed_first note from end are never p =
      subst (λ (l : List NumberedEntry). ArePrinted form l note old new) (sym (given_parts given i))
      (printed_cut form (given_entries (take i given)) (given_entries (drop i given)) note old new never (given_limits_after from end given i are) p)

  -- all were
  pub printed_whole : length given ≤ i → ArePrinted form (given_entries (take i given)) Fine old new → ArePrinted form (given_entries given) Fine old new
  printed_whole le p = subst (λ (g : List Numbered). ArePrinted form (given_entries g) Fine old new) (take_all i given le) p

  -- a line more was made
  pub gathered_one : (one : Numbered) (left line after : List ℕ) → i < length given → one ≡ get_or given i one → IsLine form one.number one.entry line → after ≡ left ++ line
      → Gathered form (given_entries (take i given)) old new left → Gathered form (given_entries (take (i + 1) given)) old new after
  gathered_one one left line after lt is line_is after_is g =
      subst (λ (l : List NumberedEntry). Gathered form l old new after) (sym (given_more given i one lt ∙ ap (λ (x : Numbered). given_entries (take i given) ++ entry_of x ∷ []) (sym is)))
      (gathered_line form (given_entries (take i given)) (entry_of one) old new line left after line_is after_is g)
