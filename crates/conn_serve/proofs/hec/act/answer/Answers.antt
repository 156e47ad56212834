use Rattle.std.proofs.Common.{◌≡◌, ◌∙◌, ℕ, Bool, List, [], ◌∷◌, inl, refl, ap, subst, arith, sym}
use Rattle.hec_session.specs.declared.act.HecAct.TheVariants.{Ask}
use Rattle.desk_access.specs.Call.{asks}
use Rattle.conn_serve.specs.Hec.{answers}
use Rattle.conn_serve.proofs.Acting.{done_nothing, err_then}
use Rattle.conn_serve.proofs.HecActing.{left_out, may_same, none_sure, none_conn, ok_any, said_part, unsaid}
use Rattle.conn_serve.proofs.Faults.{counts_other, memory_is_whole, said_counts, said_only}
use Rattle.desk_access.specs.Endings.{IsAtMove}
use Rattle.conn_serve.proofs.hec.act.answer.Goals as goal

pub returns-in-Ok-make_answers-clause-halts : goal.returns-in-Ok-make_answers-clause-halts
returns-in-Ok-make_answers-clause-halts g c =
    let connection = c.args.connection.now in
    let known = c.in-Ok.known.items in
    let calls = asks c.args.channel c.args.ids.items known ∷ [] in
    let made = subst (λ (l : List ℕ). g.A.Access.ran c.args.access.now (asks c.args.channel l known ∷ []) c.ask_each.new.access) c.deref.ensures.value c.in-Ok.ensures.asked in
    let text : c.as_slice.result.now ≡ answers c.args.ids.items known c.args.closing =
    c.as_slice.ensures.value ∙ c.in-Ok-make_answers.ensures.text ∙ ap (λ (l : List ℕ). answers l c.deref-3.result.now c.args.closing) c.deref-2.ensures.value ∙ ap (λ (l : List Bool). answers c.args.ids.items l c.args.closing) c.deref-3.ensures.value in
    err_then c.say.result _ _ c.say.ensures.part (λ talk h. said_part _ _ _ _ _ connection.number connection.taken (Ask c.args.channel c.args.ids) c.args.closing calls (answers c.args.ids.items known c.args.closing) c.as_slice.result.now h.1.0 talk
    made (omega arith) text (inl (known, refl, refl)) h.0 h.1.1 h.1.2)

pub returns-in-Ok-make_answers-clause-may : goal.returns-in-Ok-make_answers-clause-may
returns-in-Ok-make_answers-clause-may g c =
    let connection = c.args.connection.now in
    ok_any c.say.result _ (may_same (g.A.Access.may_take c.ask_each.new.access) connection.number connection.taken (g.met.A.Access.may_take_more _ _ _ connection.number connection.taken c.in-Ok.ensures.asked (none_sure _ tt) none_conn c.requires.may))

pub returns-in_default : goal.returns-in_default
returns-in_default g c =
    record {
      halts = done_nothing _ _ _ _ (left_out c.ask_each.result _ c.in_default.not-Ok c.ask_each.ensures.none) (inl ((refl, refl), refl));
      goes = tt;
      only = tt;
      may = tt;
      writes = counts_other _ _ _ _ _ memory_is_whole refl;
      same = g.L.Object.same_refl _;
      apart = g.met.L.Sink.apart_refl _;
    }

pub returns : goal.returns
returns g c =
    let connection = c.args.connection.now in
    let known = c.in-Ok.known.items in
    let calls = asks c.args.channel c.args.ids.items known ∷ [] in
    record {
      halts = unsaid _ _ _ _ connection.number connection.taken (Ask c.args.channel c.args.ids) c.args.closing calls c.in-Err.talk (subst (λ (l : List ℕ). g.A.Access.ran c.args.access.now (asks
          c.args.channel l known ∷ []) c.ask_each.new.access) c.deref.ensures.value c.in-Ok.ensures.asked) (omega arith) (known, refl) c.in-Err.ensures.starved;
      goes = tt;
      only = subst IsAtMove (sym c.in-Err.ensures.starved) tt;
      may = tt;
      writes = counts_other _ _ _ _ _ (λ is. memory_is_whole (sym c.in-Err.ensures.starved ∙ is)) refl;
      same = g.L.Object.same_refl _;
      apart = g.met.L.Sink.apart_refl _;
    }

pub returns-in-Ok-make_answers-clause-only : goal.returns-in-Ok-make_answers-clause-only
returns-in-Ok-make_answers-clause-only g c = said_only _ (c.say.result) c.say.ensures.part

pub returns-in-Ok-make_answers-clause-writes : goal.returns-in-Ok-make_answers-clause-writes
returns-in-Ok-make_answers-clause-writes g c = said_counts _ (c.say.result) _ _ c.say.ensures.part c.say.ensures.writes

pub returns-in-Ok-make_answers-clause-same : goal.returns-in-Ok-make_answers-clause-same
returns-in-Ok-make_answers-clause-same g c = c.say.ensures.same

pub returns-in-Ok-make_answers-clause-apart : goal.returns-in-Ok-make_answers-clause-apart
returns-in-Ok-make_answers-clause-apart g c = c.say.ensures.apart

pub say-requires : goal.say-requires
say-requires g c =
    let known = c.in-Ok.known.items in
    let calls = asks c.args.channel c.args.ids.items known ∷ [] in
    let made = subst (λ (l : List ℕ). g.A.Access.ran c.args.access.now (asks c.args.channel l known ∷ []) c.ask_each.new.access) c.deref.ensures.value c.in-Ok.ensures.asked in
    let text : c.as_slice.result.now ≡ answers c.args.ids.items known c.args.closing =
    c.as_slice.ensures.value ∙ c.in-Ok-make_answers.ensures.text ∙ ap (λ (l : List ℕ). answers l c.deref-3.result.now c.args.closing) c.deref-2.ensures.value ∙ ap (λ (l : List Bool). answers c.args.ids.items l c.args.closing) c.deref-3.ensures.value in
    record { permitted = c.requires.says _ calls _ made (inl (known, refl, text)) }
