-- The text of a content, by its version.
use Rattle.std.proofs.Common.{◌≡◌, inl, inr, ℕ, ◌≤◌, Bool, List, length, ◌∙◌, ap, arith}
use Rattle.std.specs.Prelude.{if◌then◌else◌}
use Rattle.std.proofs.lemmas.Bool.{cases_eq, eq-eqb, ne_eqb}
use Rattle.std.proofs.lemmas.List.{nil_from_length}
use Rattle.known_numbers.specs.declared.stretch.Stretch.{Stretch}
use Rattle.spool_state.specs.Cells.{content_text, content_text_1, IsContentOf}
use Rattle.spool_state.proofs.Places.{length-content_text, length-content_text_1}
use Rattle.disk_cell.specs.Content.{text_of, HasVersion}
use Rattle.disk_cell.specs.Register.{IsContent}
use Rattle.disk_cell.specs.declared.content.Content.{Content}

module _ (content : Content) where
  by : Bool → List ℕ
  by b = if b then content_text_1 content.run content.cursor else content_text content.run content.cursor content.known.items

  pub text_1 : content.version ≡ 1 → text_of content ≡ content_text_1 content.run content.cursor
  unfolding by
  text_1 is = ap by (eq-eqb content.version 1 is)

  pub text_2 : content.version ≡ 2 → text_of content ≡ content_text content.run content.cursor content.known.items
  unfolding by
  text_2 is = ap by (ne_eqb content.version 1 (λ one. omega arith))

  pub text_is : HasVersion content → IsContentOf content.run content.cursor content.known.items (text_of content)
  text_is version = elim (cases_eq content.version 1) [
    | inl old ↦ inr (text_1 old, nil_from_length content.known.items (version.2 old))
    | inr new ↦ inl (text_2 (omega (arith, version.0, version.1, new)))
  ]

  -- it fits in a cell
  pub text_short : HasVersion content → length content.known.items ≤ 240 → length (text_of content) ≤ 3859
  text_short version few = elim (cases_eq content.version 1) [
    | inl old ↦ omega (arith, ap length (text_1 old), length-content_text_1 content.run content.cursor)
    | inr new ↦ omega (arith, ap length (text_2 (omega (arith, version.0, version.1, new))), length-content_text content.run content.cursor content.known.items, few)
  ]

  -- the text of one that was set
  pub text_set : (run cursor : ℕ) (known : List Stretch) → IsContent run cursor known content → text_of content ≡ content_text run cursor known
  text_set run cursor known is = text_2 is.version ∙ (λ i. content_text (is.run_is i) (is.cursor_is i) (is.known_is i))
