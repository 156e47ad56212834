-- Whether an entry begins a part of a slot, by its head.
use Rattle.std.proofs.Common.{◌≡◌, inl, inr, ℕ, ◌+◌, ◌-◌, ◌<◌, ◌≤◌, List, [], ◌++◌, length, take, drop, sym, ◌∙◌, ap, subst, arith, append_assoc, length-append, take-append-drop}
use Rattle.std.specs.Prelude.{min}
use Rattle.std.proofs.lemmas.List.{append-nil, length-take, take-take, take_at}
use Rattle.foundation.specs.Bytes.{part}
use Rattle.event_form.specs.declared.event.Entry.{Entry}
use Rattle.event_form.specs.Entry.{entry_text, size_of}
use Rattle.event_form.specs.Reading.{Begins, BeginsNoEntry, BeginsNone, HasLength}
use Rattle.event_form.proofs.Fields.{length-entry_text}
use Rattle.spool_slots.specs.Groups.{BeginsNoGroup, HasSize}
use Rattle.spool_slots.specs.declared.fault.ScanFault.TheVariants.{NotSpool}
use Rattle.spool_slots.specs.Fault.{IsPartFault}
use Rattle.spool_slots.proofs.Windows.{clipped}

front : (p n k : ℕ) (c : List ℕ) → n ≤ k → take n (part p k c) ≡ part p n c
front p n k c le = take-take n k (drop p c) le

long : (p k : ℕ) (c : List ℕ) (e : Entry) (rest : List ℕ) → Begins e (part p k c) rest → size_of e ≤ k
long p k c e rest begins = omega (arith, length-take k (drop p c), ap length begins.whole, length-append (entry_text e) rest, length-entry_text e)

-- an entry is no longer than the bytes that it begins
pub entry_within : (bytes : List ℕ) (e : Entry) (rest : List ℕ) → Begins e bytes rest → size_of e ≤ length bytes
entry_within bytes e rest begins = omega (arith, ap length begins.whole, length-append (entry_text e) rest, length-entry_text e)

pub short_none : (p k : ℕ) (c : List ℕ) → k < 29 → BeginsNoEntry (part p k c)
short_none p k c lt = λ e rest begins. absurd (omega (arith, long p k c e rest begins))

-- the first 29 bytes, which were read
module _ (p k : ℕ) (head c : List ℕ) (head_is : head ≡ part p 29 c) (le : 29 ≤ k) where
  head_of : take 29 (part p k c) ≡ head
  head_of = front p 29 k c le ∙ sym head_is

  pub head_none : BeginsNone head → BeginsNoEntry (part p k c)
  head_none none = none (part p k c) head_of

  pub size_told : (n : ℕ) → HasLength head n → HasSize (part p k c) n
  size_told n has = λ e rest begins. has.only e (part p k c) rest head_of begins

  pub long_none : (n : ℕ) → HasLength head n → k < n → BeginsNoEntry (part p k c)
  long_none n has lt = λ e rest begins. absurd (omega (arith, has.only e (part p k c) rest head_of begins, long p k c e rest begins))

-- the entry's own bytes
pub exact : (p n k : ℕ) (c : List ℕ) (e : Entry) (rest : List ℕ) → n ≤ k → Begins e (part p k c) rest → n ≡ size_of e → Begins e (part p n c) []
exact p n k c e rest le begins is = record {
  limits = begins.limits;
  whole = sym (front p n k c le) ∙ ap (take n) begins.whole ∙ take_at (entry_text e) rest n (length-entry_text e ∙ sym is) ∙ sym (append-nil (entry_text e));
}

pub begins_wider : (p n k : ℕ) (c : List ℕ) (e : Entry) (rest : List ℕ) → n ≤ k → Begins e (part p n c) rest → Begins e (part p k c) (rest ++ drop n (part p k c))
begins_wider p n k c e rest le begins = record {
  limits = begins.limits;
  whole = sym (take-append-drop n (part p k c)) ∙ ap (λ (l : List ℕ). l ++ drop n (part p k c)) (front p n k c le ∙ begins.whole) ∙ append_assoc (entry_text e) rest (drop n (part p k c));
}

pub none_wider : (p n k : ℕ) (c : List ℕ) → n ≤ k → HasSize (part p k c) n → BeginsNoEntry (part p n c) → BeginsNoEntry (part p k c)
none_wider p n k c le has none = λ e rest begins. none e [] (exact p n k c e rest le begins (has e rest begins))

-- what was taken of some bytes is no longer than they are
pub used_within : (used : ℕ) (bytes : List ℕ) (e : Entry) → take used bytes ≡ entry_text e → used ≡ size_of e → used ≤ length bytes
used_within used bytes e is size = omega (arith, size, ap length is, length-entry_text e, length-take used bytes)

-- ---- the fault of what is missing

pub no_group_at : (at size from : ℕ) (c : List ℕ) → BeginsNoGroup (part (at + from) (size - from) c) → IsPartFault (at + size) c (NotSpool (at + min from size))
no_group_at at size from c none = inl (subst BeginsNoGroup (sym (clipped at size from c)) none)

pub no_entry_at : (at size from : ℕ) (c : List ℕ) → BeginsNoEntry (part (at + from) (size - from) c) → IsPartFault (at + size) c (NotSpool (at + min from size))
no_entry_at at size from c none = inr (subst BeginsNoEntry (sym (clipped at size from c)) none)
