-- Calls one after another.
use Rattle.std.proofs.Common.{◌≡◌, inl, inr, ℕ, ◌+◌, ◌≤◌, ◌==◌, Bool, true, false, cond, List, [], ◌∷◌, ◌++◌, refl, sym, ◌∙◌, ap, subst, arith, append_assoc}
use Rattle.std.proofs.lemmas.Bool.{cond-true, eq-eqb}
use Rattle.std.proofs.lemmas.Grind.{common_steps}
use Rattle.foundation.specs.Faults.{Rose}
use Rattle.std.specs.Prelude.{Option}
use Rattle.spool_answers.specs.Stages.{StandsForOne}
use Rattle.desk_access.specs.declared.standing.Standing.{Standing}
use Rattle.desk_access.specs.Call.{Call, takes, pends, confirms, marks, counts, issues, settles, forgets, asks, Record, AreBy, IsNoTake, NoneJoins, own_of, calls_of}
use Rattle.desk_access.specs.Call.{failures_in, failures_of, failed_as, failed_of, joined_as, joined_failures}
use Rattle.desk_access.specs.Desk.{DeskState, Answers, AnswersAs, Goes, StandsWithin, Stood}

pub goes_then : (x y z : DeskState) (first more : List Record) → Goes x first y → Goes y more z → Goes x (first ++ more) z
goes_then x y z [] more p q = subst (λ (d : DeskState). Goes d more z) p q
goes_then x y z (one ∷ first) more p q = (p.0, p.1, goes_then p.0 y z first more p.2 q)

pub goes_parts : (x z : DeskState) (first more : List Record) → Goes x (first ++ more) z → (y : DeskState) × Goes x first y × Goes y more z
goes_parts x z [] more p = (x, refl, p)
goes_parts x z (one ∷ first) more p = let rest = goes_parts p.0 z first more p.2 in (rest.0, (p.0, p.1, rest.1), rest.2)

pub calls_then : (first more : List Record) → calls_of (first ++ more) ≡ calls_of first ++ calls_of more
calls_then [] more = refl
calls_then (one ∷ first) more = ap (λ (l : List Call). one.call ∷ l) (calls_then first more)

pub by_then : (number : ℕ) (calls more : List Call) (records others : List Record) → AreBy number calls records → AreBy number more others → AreBy number (calls ++ more) (records ++ others)
by_then number [] more [] others p q = q
by_then number [] more (one ∷ records) others p q = absurd p
by_then number (call ∷ calls) more [] others p q = absurd p
by_then number (call ∷ calls) more (one ∷ records) others p q = (p.0, p.1, p.2, by_then number calls more records others p.3 q)

-- the calls of one caller's records
pub calls_by : (number : ℕ) (calls : List Call) (records : List Record) → AreBy number calls records → calls_of records ≡ calls
calls_by number [] [] by = refl
calls_by number [] (one ∷ records) by = absurd by
calls_by number (call ∷ calls) [] by = absurd by
calls_by number (call ∷ calls) (one ∷ records) by = ap (λ (l : List Call). one.call ∷ l) (calls_by number calls records by.3) ∙ ap (λ (c : Call). c ∷ calls) by.1

pub own_by : (number : ℕ) (calls : List Call) (records : List Record) → AreBy number calls records → own_of number records ≡ calls
own_by number [] [] by = refl
own_by number [] (one ∷ records) by = absurd by
own_by number (call ∷ calls) [] by = absurd by
own_by number (call ∷ calls) (one ∷ records) by =
    cond-true (one.by == number) (one.call ∷ own_of number records) (own_of number records) (eq-eqb one.by number by.0)
    ∙ ap (λ (l : List Call). one.call ∷ l) (own_by number calls records by.3)
    ∙ ap (λ (c : Call). c ∷ calls) by.1

pub own_then : (number : ℕ) (records more : List Record) → own_of number (records ++ more) ≡ own_of number records ++ own_of number more
own_then number [] more = refl
own_then number (one ∷ records) more = by (one.by == number) (own_then number records more) where
  by : (b : Bool) → own_of number (records ++ more) ≡ own_of number records ++ own_of number more → cond b (one.call ∷ own_of number (records ++ more)) (own_of number (records ++ more)) ≡ cond b (one.call ∷ own_of number records) (own_of number records) ++ own_of number more
  by true rest = ap (λ (l : List Call). one.call ∷ l) rest
  by false rest = rest

pub failures_then : (calls more : List Call) → failures_of (calls ++ more) ≡ failures_of calls + failures_of more
failures_then [] more = omega arith
failures_then (call ∷ calls) more = omega (arith, failures_then calls more)

pub failed_then : (first more : List Record) → failed_of (first ++ more) ≡ failed_of first + failed_of more
failed_then [] more = omega arith
failed_then (one ∷ first) more = omega (arith, failed_then first more)

-- the records of one caller that stores alone failed as often as its calls
pub failed_by : (number : ℕ) (calls : List Call) (records : List Record) → AreBy number calls records → failed_of records ≡ failures_of calls
failed_by number [] [] by = refl
failed_by number [] (one ∷ records) by = absurd by
failed_by number (call ∷ calls) [] by = absurd by
failed_by number (call ∷ calls) (one ∷ records) by =
    let here : failed_as one.joins one.call ≡ failures_in call = ap (λ (b : Bool). failed_as b one.call) by.2 ∙ ap failures_in by.1 in
    omega (arith, here, failed_by number calls records by.3)

-- Each answer that the disk failed counts as a change that failed, or as a take stored as one group with the one before it.
split_as : (joins : Bool) (call : Call) → failures_in call ≡ failed_as joins call + joined_as joins call
split_as false call = omega arith
split_as true (takes group result) = omega arith
split_as true (pends from most result) = omega arith
split_as true (confirms upto result) = omega arith
split_as true (marks stretches result) = omega arith
split_as true (counts number) = refl
split_as true (issues channel result) = refl
split_as true (settles channel id answer) = refl
split_as true (forgets channel id answer) = refl
split_as true (asks channel ids known) = refl

pub failures_split : (records : List Record) → failures_of (calls_of records) ≡ failed_of records + joined_failures records
failures_split [] = refl
failures_split (one ∷ records) = omega (arith, split_as one.joins one.call, failures_split records)

-- where no take was stored so, all failures are changes that failed
pub none_joined : (records : List Record) → NoneJoins records → joined_failures records ≡ 0
none_joined [] none = refl
none_joined (one ∷ records) none = omega (arith, ap (λ (b : Bool). joined_as b one.call) none.0, none_joined records none.1)

-- the records of one caller that stores alone: none was stored as one group with the one before it
pub none_joins : (number : ℕ) (calls : List Call) (records : List Record) → AreBy number calls records → NoneJoins records
none_joins number [] [] by = tt
none_joins number [] (one ∷ records) by = absurd by
none_joins number (call ∷ calls) [] by = absurd by
none_joins number (call ∷ calls) (one ∷ records) by = (by.2, none_joins number calls records by.3)

-- such a record is an answer in the state that it met
pub of_alone : (joins : Bool) (x y : DeskState) (call : Call) (met : Option Standing) → joins ≡ false → AnswersAs joins x call met y → Answers x call met y
of_alone joins x y call met alone answers = subst (λ (b : Bool). AnswersAs b x call met y) alone answers

-- and so is each record of a call that is no take
pub of_other : (joins : Bool) (x y : DeskState) (call : Call) (met : Option Standing) → IsNoTake call → AnswersAs joins x call met y → Answers x call met y
of_other false x y call met other answers = answers
of_other true x y (takes group result) met other answers = absurd other
of_other true x y _ met other answers = absurd answers

pub rose_then : (n k a b c : ℕ) → Rose n a b → Rose k b c → a ≤ b → b ≤ c → Rose (n + k) a c
rose_then n k a b c p q le more = grind (arith, common_steps)

within_more : (x : DeskState) (records more : List Record) (c : List ℕ) → StandsWithin x records c → StandsWithin x (records ++ more) c
within_more x [] more c h = absurd h
within_more x (one ∷ records) more c h = h

-- what stood on the way of some calls stood on that of more
pub stood_first : (x : DeskState) (records more : List Record) (c : List ℕ) → Stood x records c → Stood x (records ++ more) c
stood_first x records more c h = record {
  first = h.first;
  rest = h.rest ++ more;
  parts = ap (λ (l : List Record). l ++ more) h.parts ∙ append_assoc h.first h.rest more;
  found = h.found;
  goes = h.goes;
  stands = elim h.stands [ inl here ↦ inl here | inr within ↦ inr (within_more h.found h.rest more c within) ];
}

pub stood_later : (x y : DeskState) (before records : List Record) (c : List ℕ) → Goes x before y → Stood y records c → Stood x (before ++ records) c
stood_later x y before records c goes h = record {
  first = before ++ h.first;
  rest = h.rest;
  parts = ap (λ (l : List Record). before ++ l) h.parts ∙ sym (append_assoc before h.first h.rest);
  found = h.found;
  goes = goes_then x y h.found before h.first goes h.goes;
  stands = h.stands;
}

-- what stands for the desk where it begins
pub stood_here : (x : DeskState) (records : List Record) (c : List ℕ) → StandsForOne x.spool x.doubt c → Stood x records c
stood_here x records c h = record { first = []; rest = records; parts = refl; found = x; goes = refl; stands = inl h }
