-- Entries of a slot, walked one after another.
use Rattle.std.proofs.Common.{◌≡◌, ℕ, ◌+◌, ◌-◌, ◌<◌, ◌≤◌, List, [], ◌∷◌, ◌++◌, length, take, drop, refl, sym, ◌∙◌, ap, subst, arith, append_assoc, length-append, take-append-drop}
use Rattle.std.specs.List.{All}
use Rattle.std.proofs.lemmas.List.{append-nil, length-take-le, length-drop, drop_at, nil_from_length}
use Rattle.std.proofs.lemmas.List.Elements.{All-nil, All-push, All-take, All-drop}
use Rattle.foundation.specs.Bytes.{part}
use Rattle.event_form.specs.declared.event.Entry.{Entry}
use Rattle.event_form.specs.Entry.{IsEntry, entry_text, size_of}
use Rattle.event_form.specs.Reading.{Begins, BeginsNoEntry}
use Rattle.event_form.proofs.Fields.{length-entry_text}
use Rattle.event_form.proofs.Unique.{one_run}
use Rattle.spool_state.specs.Segment.{entries_text}
use Rattle.spool_state.proofs.Entries.{entries_join}
use Rattle.spool_slots.specs.Groups.{AreEntries, BeginsEntries}
use Rattle.spool_slots.proofs.Windows.{drop-part}

pub walk_start : (bytes : List ℕ) → BeginsEntries 0 bytes bytes
walk_start bytes = record { entries = []; sound = All-nil IsEntry; counted = refl; text = refl }

-- an entry more
pub walk_on : (i n : ℕ) (bytes here : List ℕ) (e : Entry) (rest : List ℕ) → BeginsEntries i bytes here → Begins e here rest → n ≡ size_of e → BeginsEntries (i + 1) bytes (drop n here)
walk_on i n bytes here e rest walked begins is =
    let after = drop n here in
    let same : after ≡ rest = ap (drop n) begins.whole ∙ drop_at (entry_text e) rest n (length-entry_text e ∙ sym is) in
    record {
      entries = walked.entries ++ e ∷ [];
      sound = All-push IsEntry walked.entries e walked.sound begins.limits;
      counted = omega (arith, walked.counted, length-append walked.entries (e ∷ []));
      text = walked.text
          ∙ ap (λ (l : List ℕ). entries_text walked.entries ++ l) (begins.whole ∙ ap (λ (l : List ℕ). entry_text e ++ l) (sym same))
          ∙ sym (append_assoc (entries_text walked.entries) (entry_text e) after)
          ∙ ap (λ (l : List ℕ). (entries_text walked.entries ++ l) ++ after) (sym (append-nil (entry_text e)))
          ∙ ap (λ (l : List ℕ). l ++ after) (sym (entries_join walked.entries (e ∷ [])));
    }

pub walk_more : (i p n k : ℕ) (bytes c : List ℕ) (e : Entry) (rest : List ℕ) → BeginsEntries i bytes (part p k c) → Begins e (part p k c) rest → n ≡ size_of e → n ≤ k → BeginsEntries (i + 1) bytes (part (p + n) (k - n) c)
walk_more i p n k bytes c e rest walked begins is le =
    subst (BeginsEntries (i + 1) bytes) (drop-part p n k c le) (walk_on i n bytes (part p k c) e rest walked begins is)

-- the entries that are there go on with what was walked
goes_on : (i count : ℕ) (bytes rest : List ℕ) (walked : BeginsEntries i bytes rest) (all : AreEntries count bytes) → i ≤ count → rest ≡ entries_text (drop i all.entries)
goes_on i count bytes rest walked all le =
    let front = take i all.entries in
    let behind = drop i all.entries in
    let long : length front ≡ i = length-take-le i all.entries (omega (arith, all.counted)) in
    let split : entries_text walked.entries ++ rest ≡ entries_text front ++ entries_text behind = sym walked.text ∙ all.text ∙ ap entries_text (sym (take-append-drop i all.entries)) ∙ entries_join front behind in
    (one_run walked.entries front rest (entries_text behind) walked.sound (All-take IsEntry i all.entries all.sound) (walked.counted ∙ sym long) split).1

begins_first : (entries : List Entry) (rest : List ℕ) → All IsEntry entries → 0 < length entries → rest ≡ entries_text entries → BeginsNoEntry rest → ⊥
begins_first [] rest sound some is none = absurd (omega arith)
begins_first (e ∷ entries) rest sound some is none = none e (entries_text entries) (record { limits = sound 0 e (omega arith); whole = is })

pub walk_none : (i count : ℕ) (bytes rest : List ℕ) → BeginsEntries i bytes rest → i < count → BeginsNoEntry rest → AreEntries count bytes → ⊥
walk_none i count bytes rest walked lt none all =
    begins_first (drop i all.entries) rest (All-drop IsEntry i all.entries all.sound) (omega (arith, length-drop i all.entries, all.counted)) (goes_on i count bytes rest walked all (omega arith)) none

pub walk_end : (count : ℕ) (bytes rest : List ℕ) → BeginsEntries count bytes rest → rest ≡ [] → AreEntries count bytes
walk_end count bytes rest walked none = record {
  entries = walked.entries;
  sound = walked.sound;
  counted = walked.counted;
  text = walked.text ∙ ap (λ (l : List ℕ). entries_text walked.entries ++ l) none ∙ append-nil (entries_text walked.entries);
}

pub walk_all : (count p k : ℕ) (bytes c : List ℕ) → BeginsEntries count bytes (part p k c) → k ≡ 0 → AreEntries count bytes
walk_all count p k bytes c walked is = walk_end count bytes (part p k c) walked (ap (λ (m : ℕ). take m (drop p c)) is)

nothing_left : (count : ℕ) (entries : List Entry) → length entries ≡ count → entries_text (drop count entries) ≡ []
nothing_left count entries is = ap entries_text (nil_from_length (drop count entries) (omega (arith, length-drop count entries)))

pub walk_long : (count : ℕ) (bytes rest : List ℕ) → BeginsEntries count bytes rest → 0 < length rest → AreEntries count bytes → ⊥
walk_long count bytes rest walked some all = absurd (omega (arith, some, ap length (goes_on count count bytes rest walked all (omega arith) ∙ nothing_left count all.entries all.counted)))
