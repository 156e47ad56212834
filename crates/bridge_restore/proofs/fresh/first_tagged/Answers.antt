use Rattle.std.proofs.Common.{◌≡◌, ◌+◌, ◌++◌, ◌∷◌, [], List, take, drop, refl, sym, ◌∙◌, ap, subst, append_assoc}
use Rattle.std.specs.Prelude.{◌≢◌}
use Rattle.std.proofs.lemmas.List.{take_all}
use Rattle.std.proofs.lemmas.List.Elements.{All-nil}
use Rattle.spool_state.specs.Left.{NumberedEntry}
use Rattle.spool_answers.specs.declared.numbered.Numbered.{Numbered}
use Rattle.spool_answers.specs.Pend.{given_entries}
use Rattle.spool_move.specs.Moved.{connection_of}
use Rattle.spool_move.specs.Reading.{as_entry}
use Rattle.spool_move.proofs.Pages.{given_more, given_parts}
use Rattle.bridge_restore.specs.Fresh.{IsFresh}
use Rattle.bridge_restore.proofs.Seeing.{fresh_push}
use Rattle.bridge_restore.proofs.fresh.first_tagged.Goals as goal

pub loop-one-init : goal.loop-one-init
loop-one-init c = record { none_before = All-nil (λ (e : NumberedEntry). e.entry.conn ≢ connection_of c.args.tag) }

pub loop-one-preserved : goal.loop-one-preserved
loop-one-preserved c =
    let page = c.args.page.now in
    let i = c.loop-one.one-index in
    let one = c.one-item.result in
    let more : given_entries (take (i + 1) page) ≡ given_entries (take i page) ++ as_entry one ∷ [] =
    given_more page i one c.loop-one-test.true ∙ ap (λ (x : Numbered). given_entries (take i page) ++ as_entry x ∷ []) (sym c.one-item.is) in
    record {
      none_before = subst (λ (l : List NumberedEntry). IsFresh c.args.tag l) (sym more)
          (fresh_push c.args.tag (given_entries (take i page)) (as_entry one) c.loop-one.invariant.none_before (λ is. c.if-one-own.false (is ∙ sym c.connection-own.ensures)));
    }

pub returns-then-one-own : goal.returns-then-one-own
returns-then-one-own c =
    let page = c.args.page.now in
    let i = c.loop-one.one-index in
    let one = c.one-item.result in
    record {
      before = given_entries (take i page);
      one = as_entry one;
      behind = given_entries (drop (i + 1) page);
      whole =
          given_parts page (i + 1)
          ∙ ap (λ (l : List NumberedEntry). l ++ given_entries (drop (i + 1) page))
          (given_more page i one c.loop-one-test.true ∙ ap (λ (x : Numbered). given_entries (take i page) ++ as_entry x ∷ []) (sym c.one-item.is))
          ∙ append_assoc (given_entries (take i page)) (as_entry one ∷ []) (given_entries (drop (i + 1) page));
      none_before = c.loop-one.invariant.none_before;
      conn = c.if-one-own.true ∙ c.connection-own.ensures;
      number_is = refl;
    }

pub returns : goal.returns
returns c = subst (λ (l : List Numbered). IsFresh c.args.tag (given_entries l)) (take_all c.loop-one.one-index c.args.page.now c.loop-one-test.false) c.loop-one.invariant.none_before
