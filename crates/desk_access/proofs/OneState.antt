-- The state after a journal is one.
use Rattle.std.proofs.Common.{◌≡◌, inl, inr, [], ◌∷◌, Option, None, Some, refl, sym, ◌∙◌, ap, subst}
use Rattle.spool_state.specs.SpoolState.{SpoolState}
use Rattle.spool_faults.specs.declared.fault.PendFault.{PendFault}
use Rattle.hec_ids.specs.declared.fault.IssueFault.{IssueFault}
use Rattle.hec_ids.specs.Table.{Table}
use Rattle.hec_ids.specs.Rows.{Issues}
use Rattle.std.specs.Prelude.{ℕ, Bool, true, false, List, Result, Ok, Err}
use Rattle.event_form.specs.declared.event.Entry.{Entry}
use Rattle.spool_answers.specs.declared.receipt.Receipt.{Receipt}
use Rattle.spool_faults.specs.declared.fault.TakeFault.{TakeFault}
use Rattle.spool_faults.specs.declared.fault.TakeFault.TheVariants as Take
use Rattle.desk_access.specs.declared.standing.Standing.{Standing}
use Rattle.desk_access.specs.Standing.{standing_of}
use Rattle.desk_access.specs.Call.{Call, takes, pends, confirms, marks, counts, issues, settles, forgets, asks}
use Rattle.desk_access.specs.Desk.{DeskState, desk_of, Finds, Mending, Leaving, Answers, Joins, AnswersAs, Goes}
use Rattle.desk_access.specs.History.{IsDesk}
use Rattle.desk_access.specs.Laws.{OneState}
use Rattle.desk_access.proofs.Steps.{allowed_later}

no_numbers : (s : SpoolState) (met : Option Standing) → met ≡ None → met ≡ Some (standing_of s) → ⊥
no_numbers s met none some = cc (sym none ∙ some)

some_same : (a b : Standing) → Some a ≡ Some b → a ≡ b
some_same a b is = ap (λ (o : Option Standing). elim o [ None ↦ a | Some c ↦ c ]) is

-- mending found one state
found_one : (x : DeskState) (met : Option Standing) (m n : SpoolState) → IsDesk x → Finds x met m → Finds x met n → m ≡ n
found_one x met m n rules a b = rules.told m n a.one b.one (some_same (standing_of m) (standing_of n) (sym a.numbers ∙ b.numbers))

-- so a call that mends leads to one
mending_one : (x y z : DeskState) (met : Option Standing) (Fails : PendFault → Type 0) (A B : SpoolState → Type 0) (after : SpoolState → DeskState) → IsDesk x → ((m : SpoolState) → A m → y ≡ after m) → ((m : SpoolState) → B m → z ≡ after m)
    → Mending x met Fails A y → Mending x met Fails B z → y ≡ z
mending_one x y z met Fails A B after rules first second (inl a) (inl b) = a.2.same ∙ sym b.2.same
mending_one x y z met Fails A B after rules first second (inl a) (inr b) = absurd (no_numbers b.0 met a.2.none b.1.numbers)
mending_one x y z met Fails A B after rules first second (inr a) (inl b) = absurd (no_numbers a.0 met b.2.none a.1.numbers)
mending_one x y z met Fails A B after rules first second (inr a) (inr b) = first a.0 a.2 ∙ ap after (found_one x met a.0 b.0 rules a.1 b.1) ∙ sym (second b.0 b.2)

issued_one : (t u v : Table) (channel : ℕ) (result : Result ℕ IssueFault) → Issues t channel result u → Issues t channel result v → u ≡ v
issued_one t u v channel (Ok id) a b = a.2 ∙ sym b.2
issued_one t u v channel (Err fault) a b = a.1 ∙ sym b.1

leaving_one : (x y z : DeskState) (met : Option Standing) (t u : Table) → t ≡ u → Leaving x met t y → Leaving x met u z → y ≡ z
leaving_one x y z met t u same a b = a.1 ∙ ap (λ (v : Table). desk_of x.spool x.doubt v) same ∙ sym b.1

answers_one : (x y z : DeskState) (call : Call) (met : Option Standing) → IsDesk x → Answers x call met y → Answers x call met z → y ≡ z
answers_one x y z (takes [] result) met rules a b = leaving_one x y z met x.ids x.ids refl a.1 b.1
answers_one x y z (takes (entry ∷ entries) result) met rules a b = mending_one x y z met _ _ _ _ rules (λ m h. h.1) (λ m h. h.1) a.1 b.1
answers_one x y z (pends from most result) met rules a b = mending_one x y z met _ _ _ _ rules (λ m h. h.1) (λ m h. h.1) a b
answers_one x y z (confirms upto result) met rules a b = mending_one x y z met _ _ _ _ rules (λ m h. h.1) (λ m h. h.1) a.1 b.1
answers_one x y z (marks stretches result) met rules a b = mending_one x y z met _ _ _ _ rules (λ m h. h.1) (λ m h. h.1) a.1 b.1
answers_one x y z (counts number) met rules a b = leaving_one x y z met x.ids x.ids refl a.1 b.1
answers_one x y z (issues channel result) met rules a b = leaving_one x y z met a.0 b.0 (issued_one x.ids a.0 b.0 channel result a.1 b.1) a.2 b.2
answers_one x y z (settles channel id answer) met rules a b = leaving_one x y z met a.0 b.0 (a.1.1 ∙ sym b.1.1) a.2 b.2
answers_one x y z (forgets channel id answer) met rules a b = leaving_one x y z met a.0 b.0 (a.1.1 ∙ sym b.1.1) a.2 b.2
answers_one x y z (asks channel ids known) met rules a b = leaving_one x y z met a.0 b.0 (a.1.1 ∙ sym b.1.1) a.2 b.2

-- a take that was stored as one group with the one before it leads from one state to one
joins_one : (x y z : DeskState) (group : List Entry) (result : Result Receipt TakeFault) (m : SpoolState) → Joins x group result m y → Joins x group result m z → y ≡ z
joins_one x y z group (Ok receipt) m a b = a.4 ∙ sym b.4
joins_one x y z group (Err Take.DiskFault) m a b = a.2 ∙ sym b.2
joins_one x y z group (Err _) m a b = absurd a

answers_as : (joins : Bool) (x y z : DeskState) (call : Call) (met : Option Standing) → IsDesk x → AnswersAs joins x call met y → AnswersAs joins x call met z → y ≡ z
answers_as false x y z call met rules a b = answers_one x y z call met rules a b
answers_as true x y z (takes (entry ∷ entries) result) met rules a b =
    let same = found_one x met b.1 a.1 rules b.2 a.2 in
    joins_one x y z (entry ∷ entries) result a.1 a.3 (subst (λ (m : SpoolState). Joins x (entry ∷ entries) result m z) same b.3)
answers_as true x y z _ met rules a b = absurd a

pub one_state : OneState
one_state x y z [] rules a b = a ∙ sym b
one_state x y z (one ∷ records) rules a b =
    let same = answers_as one.joins x a.0 b.0 one.call one.met rules a.1.answers b.1.answers in
    one_state a.0 y z records (allowed_later x a.0 one rules a.1).0 a.2 (subst (λ (d : DeskState). Goes d records z) (sym same) b.2)
