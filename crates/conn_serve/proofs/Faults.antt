-- Counts of faults over calls one after another.
use Rattle.std.proofs.Common.{◌≡◌, ◌⊎◌, inl, inr, ℕ, refl, sym, ◌∙◌, ap, subst, arith}
use Rattle.std.specs.Prelude.{Result, Ok, Err, IfErr, IsErr, IsErrAnd, IsErrOf, OnErr, OnOk}
use Rattle.foundation.specs.Faults.{Rose}
use Rattle.event_form.specs.declared.talk.Talk.{Talk}
use Rattle.event_form.specs.declared.talk.Talk.TheVariants.{Closed, NoMemory, ReadFault, WriteFault}
use Rattle.spool_faults.specs.declared.fault.TakeFault.{TakeFault}
use Rattle.spool_faults.specs.declared.fault.TakeFault.TheVariants.{TooLarge, Spent, Full, NotSpool, DiskFault}
use Rattle.conn_serve.specs.Relp.{talk_of}
use Rattle.desk_access.specs.Endings.{IsAtEndOfInput, IsAtMove, IsByFault}
use Rattle.conn_serve.specs.Endings.{CountsFaults}

-- the calls before failed at nothing, and the fault is the same
pub counts_from : (fault same : Type 0) (a b c : ℕ) → b ≡ a → (same → fault) → (fault → same) → CountsFaults fault b c → CountsFaults same a c
counts_from fault same a b c is to back h = record {
  later = omega (arith, is, h.later);
  cause = λ f. subst (λ (n : ℕ). Rose 1 n c) is (h.cause (to f));
  quiet = λ none. h.quiet (λ f. none (back f)) ∙ is;
}

-- no call failed
pub counts_none : (fault : Type 0) (a c : ℕ) → (fault → ⊥) → c ≡ a → CountsFaults fault a c
counts_none fault a c none is = record { later = omega (arith, is); cause = λ f. absurd (none f); quiet = λ f. is }

pub err_of : {T E : Type 0} (r : Result T E) (e : E) → IsErrAnd r (λ x. x ≡ e) → r ≡ Err e
err_of (Ok x) e h = absurd h
err_of (Err x) e h = ap Err h

-- a fault by another word
pub counts_as : (fault same : Type 0) (a b : ℕ) → (same → fault) → (fault → same) → CountsFaults fault a b → CountsFaults same a b
counts_as fault same a b to back h = counts_from fault same a a b refl to back h

-- of an answer that is no error
pub counts_fine : (T : Type 0) (x : T) (fault : Talk) (a c : ℕ) → c ≡ a → CountsFaults (IsErrOf {T = T} (Ok x) fault) a c
counts_fine T x fault a c is = counts_none _ a c (λ e. cc) is

pub quiet_fine : (T : Type 0) (x : T) (fault : Talk) (a c : ℕ) → CountsFaults (IsErrOf {T = T} (Ok x) fault) a c → c ≡ a
quiet_fine T x fault a c h = h.quiet (λ e. cc)

-- the same error is the answer of the caller
pub counts_passed : (T U : Type 0) (talk fault : Talk) (a b c : ℕ) → b ≡ a → CountsFaults (IsErrOf {T = T} (Err talk) fault) b c → CountsFaults (IsErrOf {T = U} (Err talk) fault) a c
counts_passed T U talk fault a b c is h = counts_from _ _ a b c is (λ e. cc) (λ e. cc) h

-- another error is the answer
pub counts_other : (T : Type 0) (talk fault : Talk) (a c : ℕ) → (talk ≡ fault → ⊥) → c ≡ a → CountsFaults (IsErrOf {T = T} (Err talk) fault) a c
counts_other T talk fault a c other is = counts_none _ a c (λ e. other cc) is

pub read_is_no_write : ReadFault ≡ WriteFault → ⊥
read_is_no_write is = cc

-- of a text that was written, or was cut short
module _ (Cut : Type 0) where
  pub said_only : (r : Result (Unit {0}) Talk) → IfErr r (λ talk. (talk ≡ WriteFault) × Cut) → IfErr r IsAtMove
  said_only (Ok x) h = tt
  said_only (Err e) h = subst IsAtMove (sym h.0) tt

  pub said_counts : (r : Result (Unit {0}) Talk) (a b : ℕ) → IfErr r (λ talk. (talk ≡ WriteFault) × Cut) → CountsFaults (IsErr r) a b → CountsFaults (IsErrOf r WriteFault) a b
  said_counts (Ok x) a b h counts = counts_as _ _ a b (λ e. cc) (λ e. cc) counts
  said_counts (Err e) a b h counts = counts_as _ _ a b (λ e. refl) (λ e. ap Err h.0) counts

pub quiet_said : (a b : ℕ) → CountsFaults (IsErr {T = Unit {0}} {E = Talk} (Ok tt)) a b → b ≡ a
quiet_said a b h = h.quiet (λ e. cc)

-- the ending is the error of the answer, and the other way round
pub counts_err : (T : Type 0) (talk fault : Talk) (a b : ℕ) → CountsFaults (talk ≡ fault) a b → CountsFaults (IsErrOf {T = T} (Err talk) fault) a b
counts_err T talk fault a b h = counts_as _ _ a b (λ e. cc) (λ e. cc) h

pub counts_told : (T : Type 0) (talk fault : Talk) (a b c : ℕ) → b ≡ a → CountsFaults (IsErrOf {T = T} (Err talk) fault) b c → CountsFaults (talk ≡ fault) a c
counts_told T talk fault a b c is h = counts_from _ _ a b c is (λ e. cc) (λ e. cc) h

-- an answer that is no fault of a write
pub counts_unwritten : {T : Type 0} (r : Result T Talk) (a c : ℕ) → IfErr r (λ talk. talk ≡ WriteFault → ⊥) → c ≡ a → CountsFaults (IsErrOf r WriteFault) a c
counts_unwritten (Ok x) a c other is = counts_none _ a c (λ e. cc) is
counts_unwritten (Err e) a c other is = counts_none _ a c (λ same. other cc) is

pub closed_is_whole : Closed ≡ WriteFault → ⊥
closed_is_whole is = cc

pub memory_is_whole : NoMemory ≡ WriteFault → ⊥
memory_is_whole is = cc

-- whatever was answered
pub either : {T E : Type 0} (r : Result T E) (P Q G : Type 0) → OnOk r P → OnErr r Q → (P → G) → (Q → G) → G
either (Ok x) P Q G p q f h = f p
either (Err e) P Q G p q f h = h q

-- an ending by a take, or by the input, is none by a write
pub fault_at_move : (fault : TakeFault) → IsAtMove (talk_of fault)
fault_at_move (TooLarge need most) = tt
fault_at_move (Spent end) = tt
fault_at_move (Full need room) = tt
fault_at_move (NotSpool at) = tt
fault_at_move TakeFault.NoMemory = tt
fault_at_move DiskFault = tt

pub fault_is_whole : (fault : TakeFault) → talk_of fault ≡ WriteFault → ⊥
fault_is_whole (TooLarge need most) is = cc
fault_is_whole (Spent end) is = cc
fault_is_whole (Full need room) is = cc
fault_is_whole (NotSpool at) is = cc
fault_is_whole TakeFault.NoMemory is = cc
fault_is_whole DiskFault is = cc

pub over_is_read : (over : Talk) → IsByFault over ⊎ IsAtEndOfInput over → over ≡ ReadFault → ⊥
over_is_read over (inl by) is = subst IsByFault is by
over_is_read over (inr at) is = subst IsAtEndOfInput is at

pub over_is_whole : (over : Talk) → IsByFault over ⊎ IsAtEndOfInput over → over ≡ WriteFault → ⊥
over_is_whole over (inl by) is = subst IsByFault is by
over_is_whole over (inr at) is = subst IsAtEndOfInput is at
