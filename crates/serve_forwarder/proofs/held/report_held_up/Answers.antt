use Rattle.std.proofs.Common.{ℕ, List, refl, sym, ◌∙◌, ap, subst}
use Rattle.std.specs.Prelude.{is_some, not, slice_get}
use Rattle.std.proofs.lemmas.Bool.{false≢true}
use Rattle.edge_io.specs.declared.held_up.HeldUp.{HeldUp}
use Rattle.spool_answers.specs.declared.numbered.Numbered.{Numbered}
use Rattle.serve_forwarder.proofs.Asking.{first_is_event}
use Rattle.serve_forwarder.proofs.held.report_held_up.Goals as goal

pub len_by-requires : goal.len_by-requires
len_by-requires g c = first_is_event c.args.given.now.items _ c.in-Some.first.now c.requires.numbered c.deref.ensures.value c.in-Some.ensures.value

pub report_held_up-requires : goal.report_held_up-requires
report_held_up-requires g c =
    let first = c.in-Some.first.now in
    let proto = c.args.destination.now.outward.proto in
    let held : HeldUp = record { number = first.number; proto = proto; len = c.len_by.result; code = c.code_of.result } in
    record {
      reported = subst (λ (p : List ℕ). g.N.Net.may_report p held) (sym c.as_str.ensures)
          (c.requires.reports first held
          (sym (c.in-Some.ensures.value ∙ ap (λ (l : List Numbered). slice_get l 0) c.deref.ensures.value))
          (λ none. false≢true (sym (ap is_some none) ∙ c.is_none.ensures ∙ ap not c.if-is_none.false))
          (record {
            number_is = refl;
            proto_is = refl;
            len_is = c.len_by.ensures;
            code_is = c.code_of.ensures;
            not_drained = λ is. false≢true (sym c.if-is_drained.false ∙ c.is_drained.ensures.1 is);
          }));
    }
