use Rattle.std.proofs.Common.{◌≡◌, ◌+◌, ◌++◌, ◌∷◌, ◌∙◌, List, [], take, drop, sym, ap, subst, append_assoc}
use Rattle.std.proofs.lemmas.List.{take_all}
use Rattle.edge_disk.proofs.Calls.{calls_as, calls_on}
use Rattle.spool_state.specs.Left.{NumberedEntry}
use Rattle.spool_answers.specs.declared.numbered.Numbered.{Numbered}
use Rattle.spool_answers.specs.Pend.{given_entries}
use Rattle.spool_move.specs.Reading.{as_entry, IsSearched, FindsFault}
use Rattle.spool_move.proofs.Pages.{given_more, given_parts}
use Rattle.spool_move.proofs.Present.{finds_then}
use Rattle.spool_move.proofs.ReadOn.{read_on}
use Rattle.spool_move.proofs.Results.{match_err}
use Rattle.spool_move.proofs.presence.look_at_page.Goals as goal

pub returns-in_err-look_at-clause-looked : goal.returns-in_err-look_at-clause-looked
returns-in_err-look_at-clause-looked g c = λ m before tells held was.
    let page = c.args.page.now in
    let i = c.loop-one.one-index in
    let kept = c.loop-one.invariant.kept m tells held in
    let finds = c.in_err-look_at.ensures.looked m (before ++ given_entries (take i page)) tells kept.0 (c.loop-one.invariant.looked m before tells held was) in
    let one : (before ++ given_entries (take i page)) ++ as_entry c.one-item.result ∷ [] ≡ before ++ given_entries (take (i + 1) page) =
    append_assoc before (given_entries (take i page)) (as_entry c.one-item.result ∷ [])
    ∙ ap (λ (x : Numbered). before ++ (given_entries (take i page) ++ as_entry x ∷ [])) c.one-item.is
    ∙ ap (λ (l : List NumberedEntry). before ++ l) (sym (given_more page i c.one-item.result c.loop-one-test.true)) in
    let whole : (before ++ given_entries (take (i + 1) page)) ++ given_entries (drop (i + 1) page) ≡ before ++ given_entries page =
    append_assoc before (given_entries (take (i + 1) page)) (given_entries (drop (i + 1) page)) ∙ ap (λ (l : List NumberedEntry). before ++ l) (sym (given_parts page (i + 1))) in
    let fault = c.in_err-look_at.field-0.0 in
    match_err c.from_residual.result fault (λ x. IsSearched c.args.tag m (before ++ given_entries page) c.look_at.new.present) (λ f. FindsFault c.args.tag m (before ++ given_entries page) f)
    c.from_residual.ensures.1
    (subst (λ (l : List NumberedEntry). FindsFault c.args.tag m l fault) whole
    (finds_then c.args.tag m (before ++ given_entries (take (i + 1) page)) (given_entries (drop (i + 1) page)) fault
    (subst (λ (l : List NumberedEntry). FindsFault c.args.tag m l fault) one finds)))

pub loop-one-preserved : goal.loop-one-preserved
loop-one-preserved g c =
    let page = c.args.page.now in
    let i = c.loop-one.one-index in
    let inv = c.loop-one.invariant in
    let call = c.in_ok-look_at.ensures in
    record {
      calls = calls_on _ _ _ _ _ inv.calls (λ none. none) (calls_as _ _ _ _ call.calls (λ none. absurd none) (λ is. cc));
      looked = λ m before tells held was.
          let kept = inv.kept m tells held in
          let found = call.looked m (before ++ given_entries (take i page)) tells kept.0 (inv.looked m before tells held was) in
          let one : (before ++ given_entries (take i page)) ++ as_entry c.one-item.result ∷ [] ≡ before ++ given_entries (take (i + 1) page) =
          append_assoc before (given_entries (take i page)) (as_entry c.one-item.result ∷ [])
          ∙ ap (λ (x : Numbered). before ++ (given_entries (take i page) ++ as_entry x ∷ [])) c.one-item.is
          ∙ ap (λ (l : List NumberedEntry). before ++ l) (sym (given_more page i c.one-item.result c.loop-one-test.true)) in
          subst (λ (l : List NumberedEntry). IsSearched c.args.tag m l c.look_at.new.present) one found;
      kept = λ m tells held.
          let kept = inv.kept m tells held in
          let next = call.kept m tells kept.0 in
          (next.0, read_on _ _ _ kept.1 next.1);
    }

pub returns-clause-looked : goal.returns-clause-looked
returns-clause-looked g c = λ m before tells held was.
    subst (λ (l : List Numbered). IsSearched c.args.tag m (before ++ given_entries l) c.loop-one.present) (take_all c.loop-one.one-index c.args.page.now c.loop-one-test.false)
    (c.loop-one.invariant.looked m before tells held was)
