-- What was acknowledged over a link is durable.
use Rattle.std.proofs.Common.{◌≡◌, ℕ, ◌+◌, ◌<◌, Bool, true, false, List, [], ◌∷◌, ◌++◌, length, get_or, Option, refl, sym, ap, ◌∙◌, subst, append_assoc}
use Rattle.std.specs.Prelude.{Some}
use Rattle.std.specs.List.{All, AllZip}
use Rattle.std.proofs.lemmas.List.{append-nil}
use Rattle.std.proofs.lemmas.List.Elements.{All-nil, All-cons, All-head, All-tail}
use Rattle.event_form.specs.declared.event.Entry.{Entry}
use Rattle.event_form.specs.declared.talk.Talk.{Talk}
use Rattle.edge_io.specs.Door.{Talked}
use Rattle.edge_io.specs.declared.proto.Proto.{Proto}
use Rattle.edge_io.specs.declared.proto.Proto.TheVariants.{Relp, Lumberjack, Hec}
use Rattle.edge_disk.specs.Disk.{Moment}
use Rattle.spool_state.specs.Image.{StandsFor}
use Rattle.spool_state.specs.SpoolState.{SpoolState}
use Rattle.desk_access.specs.declared.division.Division.{Division}
use Rattle.desk_access.specs.Division.{DividedRun, divided}
use Rattle.desk_access.specs.Call.{Call, asks, Record, own_of, calls_of}
use Rattle.desk_access.specs.Desk.{DeskState, Goes}
use Rattle.desk_access.specs.Durable.{IsToldTrue, KeepsCalls}
use Rattle.desk_access.specs.History.{IsDesk, AllKept}
use Rattle.desk_access.specs.Journal.{calls_then, goes_parts}
use Rattle.desk_access.specs.Legal.{AddsGroups, IsLegal, Met, IsStored}
use Rattle.desk_access.proofs.Durable.{keeps_some, one_durable, own_kept}
use Rattle.desk_access.proofs.Groups.{stored_group}
use Rattle.desk_access.proofs.Lasting.{kept_parts}
use Rattle.desk_access.proofs.Places.{place_of}
use Rattle.desk_access.proofs.Told.{told_was_taken}
use Rattle.hec_session.specs.declared.tokens.Tokens.{Tokens}
use Rattle.conn_serve.specs.declared.rules.Rules.{Rules}
use Rattle.conn_serve.specs.Acked.{Acknowledges}
use Rattle.conn_serve.specs.Durable.{AnswersAreDurable, IsToldDurably}
use Rattle.conn_serve.specs.HecAcked.{TellsTrue}
use Rattle.conn_serve.specs.Hec.{hec}
use Rattle.conn_serve.specs.Says.{PromisesNothing}
use Rattle.conn_serve.specs.Serves.{CarriedAs}
use Rattle.conn_serve.specs.Terms.{Terms, terms_of}
use Rattle.conn_serve.proofs.Durable.{acked_durably, stored_durably}
use Rattle.conn_serve.proofs.HecAcks.{said_lies_whole}
use Rattle.conn_serve.proofs.Late.{asks_late, kept_late}
use Rattle.desk_access.specs.Carried.{Carried}
use Rattle.serve_workers.specs.Served.{Served, calls_in, IsServed, AreServed, Tells, TellsMore}
use Rattle.serve_laws.specs.Durable.{IsLinkDurable, IsTalkDurable}
use Rattle.serve_laws.proofs.Ids.{id_whole}

-- ---- an id for which true was answered

met_first : (run : DividedRun) (confirming : ℕ) (before log more : List Record) → Met run confirming before (log ++ more) → Met run confirming before log
met_first run confirming before [] more m = tt
met_first run confirming before (one ∷ log) more m = (m.0, met_first run confirming (before ++ one ∷ []) log more m.1)

-- of the desk from which the journal went
module _ (x y : DeskState) (division : Division) (confirming : ℕ) (log : List Record) (rules : IsDesk x) (none : x.ids.held ≡ [])
    (goes : Goes x log y) (met : Met (divided division x.spool.run) confirming [] log)
    (legal : (groups : List (List Entry)) → AddsGroups (calls_of log) groups → IsLegal x.spool.run groups)
    (now : Moment) (keeps : KeepsCalls now (calls_of log)) where
  -- an id for which a question of the journal was answered true
  told_at : (number channel id : ℕ) (before : List Record) (one : Record) (after : List Record) (ids : List ℕ) (known : List Bool) (k : ℕ) → log ≡ before ++ one ∷ after → one.by ≡ number
      → one.call ≡ asks channel ids known → k < length ids → get_or ids k 0 ≡ id → get_or known k false ≡ true → IsToldDurably log number now channel id
  told_at number channel id before one after ids known k parts by is short is_id told =
      let asked : Record = record { by = one.by; call = asks channel ids known; joins = one.joins; met = one.met; after = one.after; clock = one.clock } in
      let same : one ≡ asked = λ i. record { by = one.by; call = is i; joins = one.joins; met = one.met; after = one.after; clock = one.clock } in
      let whole : log ≡ (before ++ one ∷ []) ++ after = parts ∙ sym (append_assoc before (one ∷ []) after) in
      let first = goes_parts x y (before ++ one ∷ []) after (subst (λ (l : List Record). Goes x l y) whole goes) in
      let met_before = met_first (divided division x.spool.run) confirming [] before (one ∷ after) (subst (Met (divided division x.spool.run) confirming []) parts met) in
      let found = told_was_taken x first.0 before division confirming one.by channel ids known one.joins one.met one.after one.clock k rules none (subst (λ (r : Record). Goes x (before ++ r ∷ []) first.0) same first.1) met_before short told in
      let g = stored_group (own_of found.0 before) id (subst (IsStored (own_of found.0 before)) is_id found.1) in
      record {
        before = before;
        question = one;
        after = after;
        parts = parts;
        by = by;
        told = subst (IsToldTrue channel id) (sym is) (refl, (k, short, is_id, told));
        taker = found.0;
        group = g.0;
        of_id = g.2;
        taken = g.1;
        durable = one_durable now (own_of found.0 before) g.0
            (keeps_some now (calls_of log) (own_of found.0 before)
            (λ s kept. own_kept s found.0 before (kept_parts s (calls_of before) (calls_of (one ∷ after)) (subst (AllKept s) (ap calls_of parts ∙ calls_then before (one ∷ after)) kept)).0) keeps) g.1;
        whole = λ large added adds. id_whole x.spool.run found.0 id log before (one ∷ after) g.0 added parts g.1 g.2 large legal adds;
      }

  -- One for which a reply of a connection was. Its calls are among the caller's, but for those that promise nothing, which it may not
  -- have made yet.
  told_durably : (number : ℕ) (first made late behind : List Call) (tokens : Tokens) (conn : ℕ) (left : Option (List ℕ)) (b : List ℕ) (calls : List Call) (text : List ℕ) (talk : Talk) (carried : Carried (hec tokens conn) left b calls text talk)
      → own_of number log ≡ first ++ (made ++ behind) → calls ≡ made ++ late → All PromisesNothing late
      → (channel id : ℕ) → TellsTrue carried channel id → IsToldDurably log number now channel id
  told_durably number first made late behind tokens conn left b calls text talk carried own are nothing channel id (done, said, is_said, (ids, known, closing, k, asked, answered, short, is_id, told)) =
      let w = said_lies_whole tokens conn left b calls text talk carried done said is_said in
      let call = asks channel ids known in
      let stands : made ++ late ≡ w.first ++ call ∷ w.more = sym are ∙ w.calls_are ∙ ap (λ (l : List Call). w.first ++ (l ++ w.more)) asked in
      let there = asks_late made late w.first w.more channel ids known nothing stands in
      let parts : own_of number log ≡ (first ++ w.first) ++ call ∷ (there.0 ++ behind) =
      own ∙ ap (λ (l : List Call). first ++ (l ++ behind)) there.1 ∙ ap (λ (l : List Call). first ++ l) (append_assoc w.first (call ∷ there.0) behind)
      ∙ sym (append_assoc first w.first (call ∷ (there.0 ++ behind))) in
      let p = place_of number log (first ++ w.first) call (there.0 ++ behind) parts in
      told_at number channel id p.before p.one p.after ids known k p.parts p.by p.is short is_id told

  -- ---- a link

  answers : (number : ℕ) (first made late behind : List Call) (proto : Proto) (terms : Terms) (conn : ℕ) (left : Option (List ℕ)) (b : List ℕ) (calls : List Call) (text : List ℕ) (talk : Talk) (carried : CarriedAs proto terms conn left b calls text talk)
      → own_of number log ≡ first ++ (made ++ behind) → calls ≡ made ++ late → All PromisesNothing late → KeepsCalls now calls
      → AnswersAreDurable proto terms conn left b calls text talk carried now (IsToldDurably log number now)
  answers number first made late behind Relp terms conn left b calls text talk carried own are nothing kept = tt
  answers number first made late behind Lumberjack terms conn left b calls text talk carried own are nothing kept = tt
  answers number first made late behind Hec terms conn left b calls text talk carried own are nothing kept = (
    stored_durably terms.tokens conn left b calls text talk now carried kept,
    told_durably number first made late behind terms.tokens conn left b calls text talk carried own are nothing,
  )

  -- A link of which all calls were made, but for those that promise nothing.
  pub link_durable : (number : ℕ) (first made late behind : List Call) (by : Rules) (one : Served) → IsServed by one
      → own_of number log ≡ first ++ (made ++ behind) → one.calls ≡ made ++ late → All PromisesNothing late → IsLinkDurable log number now by one
  link_durable number first made late behind by one served own are nothing =
      let kept = keeps_some now (calls_of log) one.calls
      (λ s k. subst (AllKept s) (sym are)
      (kept_late s made late nothing (kept_parts s made behind (kept_parts s first (made ++ behind) (subst (AllKept s) own (own_kept s number log k))).1).0)) keeps in
      record {
        served = served;
        acked = λ numbers says. acked_durably by.proto (terms_of by) one.conn one.left one.bytes one.calls one.text one.talk now numbers served kept says;
        answers = λ carried. answers number first made late behind by.proto (terms_of by) one.conn one.left one.bytes one.calls one.text one.talk carried own are nothing kept;
      }

  pub links_durable : (number : ℕ) (before : List Call) (by : Rules) (conn : ℕ) (links : List Served) → AreServed by conn links → own_of number log ≡ before ++ calls_in links → All (IsLinkDurable log number now by) links
  links_durable number before by conn [] served own = All-nil (IsLinkDurable log number now by)
  links_durable number before by conn (one ∷ links) served own =
      All-cons (IsLinkDurable log number now by) one links
      (link_durable number before one.calls [] (calls_in links) by one served.1 own (sym (append-nil one.calls)) (All-nil PromisesNothing))
      (links_durable number (before ++ one.calls) by (conn + 1) links served.2 (own ∙ sym (append_assoc before one.calls (calls_in links))))

-- ---- a link for which nothing was made yet

not_empty : (first : List Call) (call : Call) (rest : List Call) → [] ≡ first ++ call ∷ rest → ⊥
not_empty [] call rest is = cc is
not_empty (one ∷ first) call rest is = cc is

told_of_none : (log : List Record) (number : ℕ) (now : Moment) (tokens : Tokens) (conn : ℕ) (left : Option (List ℕ)) (b : List ℕ) (calls : List Call) (text : List ℕ) (talk : Talk)
    (carried : Carried (hec tokens conn) left b calls text talk) → All PromisesNothing calls → (channel id : ℕ) → TellsTrue carried channel id → IsToldDurably log number now channel id
told_of_none log number now tokens conn left b calls text talk carried nothing channel id (done, said, is_said, (ids, known, closing, k, asked, answered, short, is_id, told)) =
    let w = said_lies_whole tokens conn left b calls text talk carried done said is_said in
    let there = asks_late [] calls w.first w.more channel ids known nothing
    (w.calls_are ∙ ap (λ (l : List Call). w.first ++ (l ++ w.more)) asked) in
    absurd (not_empty w.first (asks channel ids known) there.0 there.1)

answers_of_none : (log : List Record) (number : ℕ) (now : Moment) (proto : Proto) (terms : Terms) (conn : ℕ) (left : Option (List ℕ)) (b : List ℕ) (calls : List Call) (text : List ℕ) (talk : Talk)
    (carried : CarriedAs proto terms conn left b calls text talk) → All PromisesNothing calls → KeepsCalls now calls
    → AnswersAreDurable proto terms conn left b calls text talk carried now (IsToldDurably log number now)
answers_of_none log number now Relp terms conn left b calls text talk carried nothing kept = tt
answers_of_none log number now Lumberjack terms conn left b calls text talk carried nothing kept = tt
answers_of_none log number now Hec terms conn left b calls text talk carried nothing kept = (
  stored_durably terms.tokens conn left b calls text talk now carried kept,
  told_of_none log number now terms.tokens conn left b calls text talk carried nothing,
)

-- its text acknowledges nothing, whatever the spool for which a crash leaves the disk
pub none_durable : (log : List Record) (number : ℕ) (now : Moment) (by : Rules) (one : Served) → IsServed by one → All PromisesNothing one.calls
    → ((c : List ℕ) → now.image c → (s : SpoolState) × StandsFor s c) → IsLinkDurable log number now by one
none_durable log number now by one served nothing stands =
    let kept : KeepsCalls now one.calls = λ c image. let found = stands c image in (found.0, found.1, kept_late found.0 [] one.calls nothing tt) in
    record {
      served = served;
      acked = λ numbers says. acked_durably by.proto (terms_of by) one.conn one.left one.bytes one.calls one.text one.talk now numbers served kept says;
      answers = λ carried. answers_of_none log number now by.proto (terms_of by) one.conn one.left one.bytes one.calls one.text one.talk carried nothing kept;
    }

-- ---- what a door reports

tells_durable : (log : List Record) (number : ℕ) (now : Moment) (rules : Rules) (links : List Served) (told : List Talked) → AllZip (Tells rules) links told → All (IsLinkDurable log number now rules) links → All (IsTalkDurable log number now rules) told
tells_durable log number now rules [] [] zip all = All-nil (IsTalkDurable log number now rules)
tells_durable log number now rules (one ∷ links) (talk ∷ told) zip all =
    let P = IsLinkDurable log number now rules in
    let link = All-head P one links all in
    All-cons (IsTalkDurable log number now rules) talk told
    (record { one = one; tells = zip.0; link = link; acked = λ numbers says. link.acked numbers (subst (λ (l : List ℕ). Acknowledges rules.proto l numbers) zip.0.written says) })
    (tells_durable log number now rules links told zip.1 (All-tail P one links all))
tells_durable log number now rules links told zip all = absurd zip

-- Where a door reports its connections, those that it reports more are durable.
pub talks_durable : (log : List Record) (number : ℕ) (now : Moment) (rules : Rules) (finished : List Served) (old new : Option (List Talked)) (before : List Talked) → TellsMore rules finished old new → old ≡ Some before
    → All (IsLinkDurable log number now rules) finished → (more : List Talked) × (new ≡ Some (before ++ more)) × All (IsTalkDurable log number now rules) more
talks_durable log number now rules finished old new before tells is all =
    let t = subst (λ (o : Option (List Talked)). TellsMore rules finished o new) is tells in
    (t.0, t.2, tells_durable log number now rules finished t.0 t.1 all)
