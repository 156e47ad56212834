-- The texts of entries one after another.
use Rattle.std.proofs.Common.{◌≡◌, ℕ, ◌+◌, ◌<◌, ◌≤◌, List, [], ◌∷◌, ◌++◌, length, take, drop, get_or, sym, ◌∙◌, ap, subst, arith, append_assoc, length-append, take-append-drop}
use Rattle.std.specs.Prelude.{All}
use Rattle.std.proofs.lemmas.List.{append-nil, take_more}
use Rattle.std.proofs.lemmas.List.Concat.{flat_map-append}
use Rattle.event_form.specs.declared.event.Entry.{Entry}
use Rattle.event_form.specs.Entry.{IsEntry, head_text as entry_head, entry_text, size_of}
use Rattle.event_form.proofs.Fields.{length-entry_text}
use Rattle.spool_state.specs.Segment.{entries_text}

pub entries_join : (entries more : List Entry) → entries_text (entries ++ more) ≡ entries_text entries ++ entries_text more
entries_join entries more = flat_map-append entry_text entries more

pub entries_more : (entries : List Entry) (i : ℕ) (e : Entry) → i < length entries → e ≡ get_or entries i e → entries_text (take (i + 1) entries) ≡ entries_text (take i entries) ++ entry_text e
entries_more entries i e lt is =
    ap entries_text (take_more entries i e lt ∙ ap (λ (x : Entry). take i entries ++ x ∷ []) (sym is))
    ∙ entries_join (take i entries) (e ∷ [])
    ∙ ap (λ (l : List ℕ). entries_text (take i entries) ++ l) (append-nil (entry_text e))

pub length-entries_more : (entries : List Entry) (i : ℕ) (e : Entry) → i < length entries → e ≡ get_or entries i e → length (entries_text (take (i + 1) entries)) ≡ length (entries_text (take i entries)) + size_of e
length-entries_more entries i e lt is = omega (arith, ap length (entries_more entries i e lt is), length-append (entries_text (take i entries)) (entry_text e), length-entry_text e)

-- some of them are no longer than all
pub entries_within : (entries : List Entry) (i : ℕ) → length (entries_text (take i entries)) ≤ length (entries_text entries)
entries_within entries i = omega (arith, ap length (ap entries_text (take-append-drop i entries)), ap length (entries_join (take i entries) (drop i entries)), length-append (entries_text (take i entries)) (entries_text (drop i entries)))

pub entry_here : (entries : List Entry) (i : ℕ) (e : Entry) → All IsEntry entries → i < length entries → e ≡ get_or entries i e → IsEntry e
entry_here entries i e all lt is = subst IsEntry (sym is) (all i e lt)

-- an entry's text by its two parts, after others
pub parts_more : (before : List ℕ) (entries : List Entry) (i : ℕ) (e : Entry) → i < length entries → e ≡ get_or entries i e
    → ((before ++ entries_text (take i entries)) ++ entry_head e) ++ e.event.text ≡ before ++ entries_text (take (i + 1) entries)
unfolding entry_text
parts_more before entries i e lt is =
    append_assoc (before ++ entries_text (take i entries)) (entry_head e) e.event.text
    ∙ append_assoc before (entries_text (take i entries)) (entry_head e ++ e.event.text)
    ∙ ap (λ (l : List ℕ). before ++ l) (sym (entries_more entries i e lt is))
