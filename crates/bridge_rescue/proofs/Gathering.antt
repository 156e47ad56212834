-- Lines of entries, gathered one after another and written now and then.
use Rattle.std.proofs.Common.{◌≡◌, ◌⊎◌, inl, inr, ℕ, ◌+◌, ◌<◌, ◌≤◌, List, [], ◌∷◌, ◌++◌, Option, length, get_or, take, drop, refl, sym, ◌∙◌, ap, subst, append_assoc, take-append-drop}
use Rattle.std.specs.Prelude.{None, Some}
use Rattle.std.specs.Io.KnownBytes.{Appends}
use Rattle.std.proofs.lemmas.List.{append-nil, take_more, take_all}
use Rattle.edge_io.specs.Told.{MayFollow}
use Rattle.edge_io.proofs.Known.{appends_none, appends_then}
use Rattle.event_form.specs.declared.event.Entry.{Entry}
use Rattle.notes.specs.declared.note.Note.{Note}
use Rattle.notes.specs.declared.note.Note.TheVariants.{Fine, NoMemory, WriteFault, DiskFault}
use Rattle.bridge_parts.specs.Written.{WritesFront, IsCut}
use Rattle.bridge_skip.specs.Line.{IsEventLine}
use Rattle.bridge_rescue.specs.Lines.{AreEventLines, PrintsAll, PrintsFirst, PrintsPart, Prints, Gathered}

-- where any text may be printed, any piece may follow what was
pub may_follow : (Permits : List ℕ → Type 0) (written : Option (List ℕ)) (piece : List ℕ) → ((text : List ℕ) → Permits text) → MayFollow Permits written piece
may_follow Permits None piece free = tt
may_follow Permits (Some before) piece free = free (before ++ piece)

-- the lines of more are those of both
pub lines_then : (first more : List Entry) (text next : List ℕ) → AreEventLines first text → AreEventLines more next → AreEventLines (first ++ more) (text ++ next)
lines_then [] more text next are others = subst (λ (l : List ℕ). AreEventLines more (l ++ next)) (sym are) others
lines_then (one ∷ first) more text next are others =
    (are.0, are.1 ++ next, are.2, lines_then first more are.1 next are.3 others, ap (λ (l : List ℕ). l ++ next) are.4 ∙ append_assoc are.0 are.1 next)

-- before more of them
abbrev first_more : (entries more : List Entry) (old new : Option (List ℕ)) → PrintsFirst entries old new → PrintsFirst (entries ++ more) old new
first_more entries more old new p = record {
  first = p.first;
  rest = p.rest ++ more;
  parts = ap (λ (l : List Entry). l ++ more) p.parts ∙ append_assoc p.first p.rest more;
  printed = p.printed;
}

part_more : (entries more : List Entry) (old new : Option (List ℕ)) → PrintsPart entries old new → PrintsPart (entries ++ more) old new
part_more entries more old new p = record {
  first = p.first;
  rest = p.rest ++ more;
  parts = ap (λ (l : List Entry). l ++ more) p.parts ∙ append_assoc p.first p.rest more;
  text = p.text;
  lines = p.lines;
  cut = p.cut;
}

-- the first of some entries were not all printed, and so the entries were not
pub prints_more : (note : Note) (entries more : List Entry) (old new : Option (List ℕ)) → (note ≡ Fine → ⊥) → Prints note entries old new → Prints note (entries ++ more) old new
prints_more Fine entries more old new never p = absurd (never refl)
prints_more WriteFault entries more old new never p = part_more entries more old new p
prints_more DiskFault entries more old new never p = first_more entries more old new p
prints_more NoMemory entries more old new never p = first_more entries more old new p
prints_more note entries more old new never p = absurd p

-- ---- gathered

pub gathered_none : (taken : Option (List ℕ)) (held : List ℕ) → held ≡ [] → Gathered [] taken taken held
gathered_none taken held none = record {
  printed = record { first = []; rest = []; parts = refl; printed = ([], refl, appends_none taken) };
  waiting = none;
}

-- the lines of all
pub gathered_all : (entries : List Entry) (old mid new : Option (List ℕ)) (held : List ℕ) → Appends mid new held → Gathered entries old mid held → PrintsAll entries old new
gathered_all entries old mid new held w g =
    let text = g.printed.printed.0 in (
      text ++ held,
      subst (λ (l : List Entry). AreEventLines l (text ++ held)) (sym g.printed.parts) (lines_then g.printed.first g.printed.rest text held g.printed.printed.1 g.waiting),
      appends_then old mid new text held g.printed.printed.2 w,
    )

-- a line more
pub gathered_line : (entries : List Entry) (one : Entry) (old new : Option (List ℕ)) (line held after : List ℕ) → IsEventLine one.event line → after ≡ held ++ line
    → Gathered entries old new held → Gathered (entries ++ one ∷ []) old new after
gathered_line entries one old new line held after is after_is g = record {
  printed = first_more entries (one ∷ []) old new g.printed;
  waiting = subst (AreEventLines (g.printed.rest ++ one ∷ [])) (sym after_is) (lines_then g.printed.rest (one ∷ []) held line g.waiting (line, [], is, refl, sym (append-nil line)));
}

-- what is held was written, and nothing is held then; or it stays
pub gathered_written : (entries : List Entry) (old mid new : Option (List ℕ)) (held after : List ℕ)
    → ((new ≡ mid) × (after ≡ held)) ⊎ (Appends mid new held × (after ≡ [])) → Gathered entries old mid held → Gathered entries old new after
gathered_written entries old mid new held after (inl stays) g =
    subst (λ (t : Option (List ℕ)). Gathered entries old t after) (sym stays.0) (subst (λ (l : List ℕ). Gathered entries old mid l) (sym stays.1) g)
gathered_written entries old mid new held after (inr all) g = record {
  printed = record { first = entries; rest = []; parts = sym (append-nil entries); printed = gathered_all entries old mid new held all.0 g };
  waiting = all.1;
}

-- after a whole text
abbrev front_then : (text next : List ℕ) (old mid new : Option (List ℕ)) → Appends old mid text → WritesFront next mid new → WritesFront (text ++ next) old new
front_then text next old mid new before w = record {
  front = text ++ w.front;
  rest = w.rest;
  whole = ap (λ (l : List ℕ). text ++ l) w.whole ∙ sym (append_assoc text w.front w.rest);
  written = appends_then old mid new text w.front before w.written;
}

-- not all of it was written
pub gathered_cut : (entries : List Entry) (old mid new : Option (List ℕ)) (held : List ℕ) → IsCut held mid new → Gathered entries old mid held → Prints WriteFault entries old new
gathered_cut entries old mid new held w g =
    let text = g.printed.printed.0 in
    record {
      first = entries;
      rest = [];
      parts = sym (append-nil entries);
      text = text ++ held;
      lines = subst (λ (l : List Entry). AreEventLines l (text ++ held)) (sym g.printed.parts) (lines_then g.printed.first g.printed.rest text held g.printed.printed.1 g.waiting);
      cut = (front_then text held old mid new g.printed.printed.2 w.0, w.1);
    }

-- ---- the lines of some entries, up to one of them

module _ (before entries : List Entry) (i : ℕ) (start : Option (List ℕ)) where
  -- one more
  pub gathered_one : (new : Option (List ℕ)) (one : Entry) (held line after : List ℕ) → i < length entries → one ≡ get_or entries i one → IsEventLine one.event line
      → after ≡ held ++ line → Gathered (before ++ take i entries) start new held → Gathered (before ++ take (i + 1) entries) start new after
  gathered_one new one held line after lt is line_is after_is g =
      let whole : before ++ take (i + 1) entries ≡ (before ++ take i entries) ++ one ∷ [] =
      ap (λ (l : List Entry). before ++ l) (take_more entries i one lt)
      ∙ ap (λ (e : Entry). before ++ (take i entries ++ e ∷ [])) (sym is)
      ∙ sym (append_assoc before (take i entries) (one ∷ [])) in
      subst (λ (l : List Entry). Gathered l start new after) (sym whole) (gathered_line (before ++ take i entries) one start new line held after line_is after_is g)

  -- those up to here were not all printed, and so not all were
  pub prints_front : (new : Option (List ℕ)) (note : Note) → (note ≡ Fine → ⊥) → Prints note (before ++ take i entries) start new → Prints note (before ++ entries) start new
  prints_front new note never p =
      let whole : before ++ entries ≡ (before ++ take i entries) ++ drop i entries =
      ap (λ (l : List Entry). before ++ l) (sym (take-append-drop i entries)) ∙ sym (append_assoc before (take i entries) (drop i entries)) in
      subst (λ (l : List Entry). Prints note l start new) (sym whole) (prints_more note (before ++ take i entries) (drop i entries) start new never p)

  -- they are all
  pub gathered_whole : (new : Option (List ℕ)) (held : List ℕ) → length entries ≤ i → Gathered (before ++ take i entries) start new held → Gathered (before ++ entries) start new held
  gathered_whole new held all g = subst (λ (l : List Entry). Gathered (before ++ l) start new held) (take_all i entries all) g

-- no text but what is held
pub gathered_rest : (before : List Entry) (start new : Option (List ℕ)) (held : List ℕ) → Gathered before start new held → Gathered (before ++ []) start new held
gathered_rest before start new held g = subst (λ (l : List Entry). Gathered l start new held) (sym (append-nil before)) g
