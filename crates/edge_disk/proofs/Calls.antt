-- How what calls over a disk say goes on, one after another.
use Rattle.std.proofs.Common.{◌⊎◌, inr, ⊎_elim, refl, ◌∙◌, arith}
use Rattle.edge_disk.specs.Disk.{Moment}
use Rattle.edge_disk.specs.Calls.{Calls}

-- no call
pub calls_none : (m : Moment) → Calls ⊥ m m
calls_none m = record { size = refl; later = omega arith; cause = λ none. absurd none; quiet = λ _. refl }

-- Some calls and then others. A fault is answered where one of them failed.
pub calls_then : (first second fault : Type 0) (old mid new : Moment) → Calls first old mid → Calls second mid new → (fault → first ⊎ second) → ((fault → ⊥) → (first → ⊥) × (second → ⊥)) → Calls fault old new
calls_then first second fault old mid new a b why none = record {
  size = b.size ∙ a.size;
  later = omega (arith, a.later, b.later);
  cause = λ f. ⊎_elim (λ x. omega (arith, a.cause x, b.later)) (λ y. omega (arith, a.later, b.cause y)) (why f);
  quiet = λ f. b.quiet (none f).1 ∙ a.quiet (none f).0;
}

-- a fault by another word
pub calls_as : (first fault : Type 0) (old new : Moment) → Calls first old new → (fault → first) → (first → fault) → Calls fault old new
calls_as first fault old new a why none = record {
  size = a.size;
  later = a.later;
  cause = λ f. a.cause (why f);
  quiet = λ f. a.quiet (λ x. f (none x));
}

-- some calls of which none failed, and then others
pub calls_on : (first fault : Type 0) (old mid new : Moment) → Calls first old mid → (first → ⊥) → Calls fault mid new → Calls fault old new
calls_on first fault old mid new a passed b = calls_then first fault fault old mid new a b (λ f. inr f) (λ f. (passed, f))
