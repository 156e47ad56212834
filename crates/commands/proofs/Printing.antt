-- Lines of entries, printed one after another.
use Rattle.std.proofs.Common.{◌≡◌, ◌⊎◌, inl, inr, ℕ, List, [], ◌∷◌, ◌++◌, Option, refl, sym, ◌∙◌, ap, subst, arith, append_assoc, length-append}
use Rattle.std.specs.Prelude.{All}
use Rattle.std.specs.Io.KnownBytes.{Appends}
use Rattle.std.proofs.lemmas.List.{append-nil}
use Rattle.std.proofs.lemmas.List.Elements.{All-head, All-tail}
use Rattle.edge_io.proofs.Known.{appends_none, appends_then}
use Rattle.event_form.specs.declared.event.Entry.{Entry}
use Rattle.event_form.specs.Entry.{IsEntry}
use Rattle.event_map.proofs.Functions.{text_of, json_object_of, hec_object_of}
use Rattle.event_map.proofs.Exact.{text_of-is, json_object_of-is, hec_object_of-is}
use Rattle.spool_state.specs.Left.{NumberedEntry}
use Rattle.bridge_words.specs.declared.command.ListForm.{ListForm}
use Rattle.bridge_words.specs.declared.command.ListForm.TheVariants.{Plain, Text, JsonObject, HecObject}
use Rattle.notes.specs.declared.note.Note.{Note}
use Rattle.notes.specs.declared.note.Note.TheVariants.{Fine, NoMemory, WriteFault, DiskFault}
use Rattle.bridge_words.specs.Lines.{entry_line}
use Rattle.bridge_parts.specs.Written.{WritesFront, IsCut}
use Rattle.commands.specs.Listed.{IsLine, AreLines, PrintsFirst, ArePrinted}

-- the entry keeps its limits
abbrev pub IsLimited : NumberedEntry → Type 0
IsLimited one = IsEntry one.entry

-- ---- there are lines, and lines of more are those of both

some_line : (form : ListForm) (number : ℕ) (e : Entry) → IsEntry e → (line : List ℕ) × IsLine form number e line
some_line Plain number e limits = (entry_line number e, refl)
some_line Text number e limits = (text_of e.event ++ 10 ∷ [], (text_of e.event, text_of-is e.event limits.event, refl))
some_line JsonObject number e limits = (json_object_of e.event ++ 10 ∷ [], (json_object_of e.event, json_object_of-is e.event limits.event, refl))
some_line HecObject number e limits = (hec_object_of e.event ++ 10 ∷ [], (hec_object_of e.event, hec_object_of-is e.event limits.event, refl))

pub some_lines : (form : ListForm) (entries : List NumberedEntry) → All IsLimited entries → (text : List ℕ) × AreLines form entries text
some_lines form [] limits = ([], refl)
some_lines form (one ∷ more) limits =
    let line = some_line form one.number one.entry (All-head IsLimited one more limits) in
    let rest = some_lines form more (All-tail IsLimited one more limits) in
    (line.0 ++ rest.0, (line.0, rest.0, line.1, rest.1, refl))

pub lines_then : (form : ListForm) (first more : List NumberedEntry) (text next : List ℕ) → AreLines form first text → AreLines form more next → AreLines form (first ++ more) (text ++ next)
lines_then form [] more text next are others = subst (λ (l : List ℕ). AreLines form more (l ++ next)) (sym are) others
lines_then form (one ∷ first) more text next are others =
    (are.0, are.1 ++ next, are.2, lines_then form first more are.1 next are.3 others, ap (λ (l : List ℕ). l ++ next) are.4 ∙ append_assoc are.0 are.1 next)

-- ---- a front of them

-- after a whole text
abbrev front_then : (text next : List ℕ) (old mid new : Option (List ℕ)) → Appends old mid text → WritesFront next mid new → WritesFront (text ++ next) old new
front_then text next old mid new before w = record {
  front = text ++ w.front;
  rest = w.rest;
  whole = ap (λ (l : List ℕ). text ++ l) w.whole ∙ sym (append_assoc text w.front w.rest);
  written = appends_then old mid new text w.front before w.written;
}

-- before more of it
abbrev front_more : (text next : List ℕ) (old new : Option (List ℕ)) → WritesFront text old new → WritesFront (text ++ next) old new
front_more text next old new w = record {
  front = w.front;
  rest = w.rest ++ next;
  whole = ap (λ (l : List ℕ). l ++ next) w.whole ∙ append_assoc w.front w.rest next;
  written = w.written;
}

-- ---- the lines of the first of them

-- nothing was written yet
abbrev pub none_first : (form : ListForm) (entries : List NumberedEntry) (taken : Option (List ℕ)) → PrintsFirst form entries taken taken
none_first form entries taken = record { first = []; rest = entries; parts = refl; text = []; lines = refl; written = appends_none taken }

-- after all lines of others
abbrev first_then : (form : ListForm) (first more : List NumberedEntry) (text : List ℕ) (old mid new : Option (List ℕ))
    → AreLines form first text → Appends old mid text → PrintsFirst form more mid new → PrintsFirst form (first ++ more) old new
first_then form first more text old mid new are before p = record {
  first = first ++ p.first;
  rest = p.rest;
  parts = ap (λ (l : List NumberedEntry). first ++ l) p.parts ∙ sym (append_assoc first p.first p.rest);
  text = text ++ p.text;
  lines = lines_then form first p.first text p.text are p.lines;
  written = appends_then old mid new text p.text before p.written;
}

-- before others
abbrev first_more : (form : ListForm) (entries more : List NumberedEntry) (old new : Option (List ℕ)) → PrintsFirst form entries old new → PrintsFirst form (entries ++ more) old new
first_more form entries more old new p = record {
  first = p.first;
  rest = p.rest ++ more;
  parts = ap (λ (l : List NumberedEntry). l ++ more) p.parts ∙ append_assoc p.first p.rest more;
  text = p.text;
  lines = p.lines;
  written = p.written;
}

-- ---- as the note says

-- entries that were printed, and then more
pub printed_then : (form : ListForm) (first more : List NumberedEntry) (note : Note) (old mid new : Option (List ℕ))
    → ArePrinted form first Fine old mid → ArePrinted form more note mid new → ArePrinted form (first ++ more) note old new
printed_then form first more Fine old mid new p q = (p.0 ++ q.0, lines_then form first more p.0 q.0 p.1 q.1, appends_then old mid new p.0 q.0 p.2 q.2)
printed_then form first more WriteFault old mid new p q =
    (p.0 ++ q.0, lines_then form first more p.0 q.0 p.1 q.1, (front_then p.0 q.0 old mid new p.2 q.2.0, q.2.1))
printed_then form first more DiskFault old mid new p q = first_then form first more p.0 old mid new p.1 p.2 q
printed_then form first more NoMemory old mid new p q = first_then form first more p.0 old mid new p.1 p.2 q
printed_then form first more note old mid new p q = absurd q

pub printed_none : (form : ListForm) (taken : Option (List ℕ)) → ArePrinted form [] Fine taken taken
printed_none form taken = ([], refl, appends_none taken)

text_cut : (text next : List ℕ) (old new : Option (List ℕ)) → IsCut text old new → IsCut (text ++ next) old new
text_cut text next old new w = (front_more text next old new w.0, omega (arith, w.1, length-append w.0.rest next))

-- the first of some entries were not all printed, and so the entries were not
pub printed_cut : (form : ListForm) (first more : List NumberedEntry) (note : Note) (old new : Option (List ℕ)) → (note ≡ Fine → ⊥)
    → All IsLimited more → ArePrinted form first note old new → ArePrinted form (first ++ more) note old new
printed_cut form first more Fine old new never limits p = absurd (never refl)
printed_cut form first more WriteFault old new never limits p =
    let rest = some_lines form more limits in
    (p.0 ++ rest.0, lines_then form first more p.0 rest.0 p.1 rest.1, text_cut p.0 rest.0 old new p.2)
printed_cut form first more DiskFault old new never limits p = first_more form first more old new p
printed_cut form first more NoMemory old new never limits p = first_more form first more old new p
printed_cut form first more note old new never limits p = absurd p

-- ---- lines gathered, and written now and then

-- The lines of these entries are made: those of the first ones were written, and those of the others are left.
pub record Gathered (form : ListForm) (entries : List NumberedEntry) (old new : Option (List ℕ)) (left : List ℕ) : Type 0 where
  pub printed : PrintsFirst form entries old new
  pub waiting : AreLines form printed.rest left

pub gathered_none : (form : ListForm) (taken : Option (List ℕ)) (left : List ℕ) → left ≡ [] → Gathered form [] taken taken left
gathered_none form taken left none = record { printed = none_first form [] taken; waiting = none }

-- the lines of all
all_lines : (form : ListForm) (entries : List NumberedEntry) (old new : Option (List ℕ)) (left : List ℕ) (g : Gathered form entries old new left) → AreLines form entries (g.printed.text ++ left)
all_lines form entries old new left g = subst (λ (l : List NumberedEntry). AreLines form l (g.printed.text ++ left)) (sym g.printed.parts)
    (lines_then form g.printed.first g.printed.rest g.printed.text left g.printed.lines g.waiting)

-- a line more
pub gathered_line : (form : ListForm) (entries : List NumberedEntry) (one : NumberedEntry) (old new : Option (List ℕ)) (line left after : List ℕ) → IsLine form one.number one.entry line → after ≡ left ++ line
    → Gathered form entries old new left → Gathered form (entries ++ one ∷ []) old new after
gathered_line form entries one old new line left after is after_is g = record {
  printed = first_more form entries (one ∷ []) old new g.printed;
  waiting = subst (AreLines form (g.printed.rest ++ one ∷ [])) (sym after_is) (lines_then form g.printed.rest (one ∷ []) left line g.waiting (line, [], is, refl, sym (append-nil line)));
}

-- what is left was written too
pub gathered_all : (form : ListForm) (entries : List NumberedEntry) (old mid new : Option (List ℕ)) (left : List ℕ) → Appends mid new left → Gathered form entries old mid left → ArePrinted form entries Fine old new
gathered_all form entries old mid new left w g = (g.printed.text ++ left, all_lines form entries old mid left g, appends_then old mid new g.printed.text left g.printed.written w)

-- it was, and nothing is left then; or it stays
pub gathered_written : (form : ListForm) (entries : List NumberedEntry) (old mid new : Option (List ℕ)) (left after : List ℕ)
    → ((new ≡ mid) × (after ≡ left)) ⊎ (Appends mid new left × (after ≡ [])) → Gathered form entries old mid left → Gathered form entries old new after
gathered_written form entries old mid new left after (inl stays) g =
    subst (λ (t : Option (List ℕ)). Gathered form entries old t after) (sym stays.0) (subst (λ (l : List ℕ). Gathered form entries old mid l) (sym stays.1) g)
gathered_written form entries old mid new left after (inr all) g =
    let whole = gathered_all form entries old mid new left all.0 g in
    record { printed = record { first = entries; rest = []; parts = sym (append-nil entries); text = whole.0; lines = whole.1; written = whole.2 }; waiting = all.1 }

-- or not all of it
pub gathered_cut : (form : ListForm) (entries : List NumberedEntry) (old mid new : Option (List ℕ)) (left : List ℕ) → IsCut left mid new → Gathered form entries old mid left → ArePrinted form entries WriteFault old new
gathered_cut form entries old mid new left w g = (g.printed.text ++ left, all_lines form entries old mid left g, (front_then g.printed.text left old mid new g.printed.written w.0, w.1))

-- or nothing more
pub gathered_only : (form : ListForm) (entries : List NumberedEntry) (old new : Option (List ℕ)) (left : List ℕ) → Gathered form entries old new left → ArePrinted form entries NoMemory old new
gathered_only form entries old new left g = g.printed
