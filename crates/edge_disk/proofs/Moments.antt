-- How a run of calls on a disk goes on, for the layers above: what each call leaves, one after another.
use Rattle.std.proofs.Common.{inl, inr, ⊎_elim, ℕ, ◌∙◌, List, arith, refl, subst, sym}
use Rattle.foundation.specs.Bytes.{SameBut}
use Rattle.foundation.proofs.Bytes.{same_but_refl}
use Rattle.edge_disk.specs.Disk.{Moment, Elapses, IsSettled, IsUntouched, IsTorn, IsLawful, LeavesOnly}
use Rattle.edge_disk.specs.Gate.{ComesFrom}

-- before the first call: what a crash may leave has P
pub started : (P : List ℕ → Type 0) (m : Moment) → IsLawful m → ((c : List ℕ) → m.image c → P c) → LeavesOnly P m m
started P m lawful here = record {
  later = omega arith;
  each = λ c since. here c (lawful.only_now c since);
  now = here;
  before = λ t c le since. inl since;
}

-- before the first call on a settled disk: what it reads has P
pub started_settled : (P : List ℕ → Type 0) (m : Moment) → IsLawful m → IsSettled m → P m.reads → LeavesOnly P m m
started_settled P m lawful settled here = started P m lawful (λ c i. subst P (sym (settled.only c i)) here)

-- one call more, after which what a crash leaves has P
pub goes_on : (P : List ℕ → Type 0) (old mid new : Moment) → LeavesOnly P old mid → Elapses mid new → ((c : List ℕ) → new.image c → P c) → LeavesOnly P old new
goes_on P old mid new so_far time here = record {
  later = omega (arith, so_far.later, time.later);
  each = λ c since. ⊎_elim (so_far.each c) (here c) (time.nothing_else old.clock c so_far.later since);
  now = here;
  before = λ t c le since. ⊎_elim (so_far.before t c le) (λ n. inr (here c n)) (time.nothing_else t c (omega (arith, le, so_far.later)) since);
}

-- one read or sync more, also one that failed
pub untouched : (P : List ℕ → Type 0) (old mid new : Moment) → LeavesOnly P old mid → IsUntouched mid new → LeavesOnly P old new
untouched P old mid new so_far call = goes_on P old mid new so_far call.time (λ c n. so_far.now c (call.images c n))

-- one write more, on a settled disk: what it may tear of what is read has P
pub torn : (P : List ℕ → Type 0) (old mid new : Moment) (at n : ℕ) → LeavesOnly P old mid → IsSettled mid → IsTorn at n mid new → ((c : List ℕ) → SameBut at n mid.reads c → P c) → LeavesOnly P old new
torn P old mid new at n so_far settled call here = goes_on P old mid new so_far call.time (λ c i. let from = call.images c i in here c (subst (λ d. SameBut at n d c) (settled.only from.0 from.1) from.2))

-- one write more before a sync, by which what has P keeps it
pub torn_more : (P : List ℕ → Type 0) (old mid new : Moment) (at n : ℕ) → LeavesOnly P old mid → IsTorn at n mid new → ((d c : List ℕ) → P d → SameBut at n d c → P c) → LeavesOnly P old new
torn_more P old mid new at n so_far call keeps = goes_on P old mid new so_far call.time (λ c i. let from = call.images c i in keeps from.0 c (so_far.now from.0 from.1) from.2)

-- a write on any disk, seen from the images of before it
pub torn_from : (Q : List ℕ → List ℕ → Type 0) (m new : Moment) (at n : ℕ) → IsLawful m → IsTorn at n m new → ((d c : List ℕ) → m.image d → SameBut at n d c → Q d c) → LeavesOnly (ComesFrom m Q) m new
torn_from Q m new at n lawful call here =
    goes_on (ComesFrom m Q) m m new (started (ComesFrom m Q) m lawful (λ c i. (c, i, here c c i (same_but_refl at n c)))) call.time (λ c i. let from = call.images c i in (from.0, from.1, here from.0 c from.1 from.2))

-- a write on any disk changes nothing outside its range
pub written_from : (m new : Moment) (at n : ℕ) → IsLawful m → IsTorn at n m new → LeavesOnly (ComesFrom m (SameBut at n)) m new
written_from m new at n lawful call = torn_from (SameBut at n) m new at n lawful call (λ d c i same. same)

-- one run after another
pub both : (P Q R : List ℕ → Type 0) (old mid new : Moment) → LeavesOnly P old mid → LeavesOnly Q mid new → ((c : List ℕ) → P c → R c) → ((c : List ℕ) → Q c → R c) → LeavesOnly R old new
both P Q R old mid new first second p q = record {
  later = omega (arith, first.later, second.later);
  each = λ c since. ⊎_elim (λ had. p c (first.each c had)) (q c) (second.before old.clock c first.later since);
  now = λ c n. q c (second.now c n);
  before = λ t c le since. ⊎_elim (λ had. ⊎_elim (λ was. inl was) (λ h. inr (p c h)) (first.before t c le had)) (λ h. inr (q c h)) (second.before t c (omega (arith, le, first.later)) since);
}

-- one run after another that is seen from the images between them
pub both_from : (P R : List ℕ → Type 0) (Q : List ℕ → List ℕ → Type 0) (old mid new : Moment) → LeavesOnly P old mid → LeavesOnly (ComesFrom mid Q) mid new → ((c : List ℕ) → P c → R c) → ((d c : List ℕ) → P d → Q d c → R c) → LeavesOnly R old new
both_from P R Q old mid new first second p q = both P (ComesFrom mid Q) R old mid new first second p (λ c from. q from.0 c (first.now from.0 from.1) from.2)

-- a run that leaves only what has P leaves only what has Q, if P gives Q
pub weaker : (P Q : List ℕ → Type 0) (old new : Moment) → LeavesOnly P old new → ((c : List ℕ) → P c → Q c) → LeavesOnly Q old new
weaker P Q old new run p = record {
  later = run.later;
  each = λ c since. p c (run.each c since);
  now = λ c n. p c (run.now c n);
  before = λ t c le since. ⊎_elim (λ was. inl was) (λ h. inr (p c h)) (run.before t c le since);
}

-- on a settled disk what comes from an image comes from what is read
pub from_settled : (Q : List ℕ → List ℕ → Type 0) (m new : Moment) → IsSettled m → LeavesOnly (ComesFrom m Q) m new → LeavesOnly (Q m.reads) m new
from_settled Q m new settled run = weaker (ComesFrom m Q) (Q m.reads) m new run (λ c from. subst (λ d. Q d c) (settled.only from.0 from.1) from.2)

-- after a run, what is read has P: it is one of the images
pub reads_have : (P : List ℕ → Type 0) (old new : Moment) → IsLawful new → LeavesOnly P old new → P new.reads
reads_have P old new lawful run = run.now new.reads lawful.reads_image

-- no call leaves all untouched
pub untouched_refl : (m : Moment) → IsUntouched m m
untouched_refl m = record {
  same = refl;
  images = λ c i. i;
  time = record { later = omega arith; nothing_else = λ t c le since. inl since };
}

-- and so do reads and syncs one after another
pub untouched_then : (old mid new : Moment) → IsLawful old → IsUntouched old mid → IsUntouched mid new → IsUntouched old new
untouched_then old mid new lawful before call = record {
  same = call.same ∙ before.same;
  images = λ c i. before.images c (call.images c i);
  time = record {
    later = omega (arith, before.time.later, call.time.later);
    nothing_else = λ t c le since. ⊎_elim (λ had. ⊎_elim (λ was. inl was) (λ mid_image. inl (lawful.counts_now t c le (before.images c mid_image))) (before.time.nothing_else t c le had)) (λ now. inr now) (call.time.nothing_else t c (omega (arith, le, before.time.later)) since);
  };
}

-- reads and syncs leave only what a crash before them may leave
pub untouched_run : (P : List ℕ → Type 0) (old new : Moment) → IsLawful old → ((c : List ℕ) → old.image c → P c) → IsUntouched old new → LeavesOnly P old new
untouched_run P old new lawful here call = untouched P old old new (started P old lawful here) call

-- a settled disk stays settled over reads and syncs
pub still_settled : (m new : Moment) → IsSettled m → IsUntouched m new → IsSettled new
still_settled m new settled call = record { only = λ c i. settled.only c (call.images c i) ∙ sym call.same }
