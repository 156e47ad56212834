-- What further bytes bring a head to.
use Rattle.std.proofs.Common.{◌≡◌, ◌∙◌, ℕ, ◌+◌, ◌<◌, List, [], ◌∷◌, ◌++◌, length, take, get_or, sym, ap, subst, arith, append_assoc, length-append, length-take-le}
use Rattle.std.proofs.lemmas.List.{take_more}
use Rattle.http_edge.specs.Parts.{IsPart}
use Rattle.http_edge.proofs.part.run.Goals as goal

-- one byte more
one_more : (b s : List ℕ) (i : ℕ) → i < length s → (b ++ take i s) ++ get_or s i 0 ∷ [] ≡ b ++ take (i + 1) s
one_more b s i inside = append_assoc b (take i s) (get_or s i 0 ∷ []) ∙ ap (λ (v : List ℕ). b ++ v) (sym (take_more s i 0 inside))

pub loop-i-preserved : goal.loop-i-preserved
loop-i-preserved c =
    let s = c.args.bytes.now in
    let i = c.loop-i.i in
    let inside = c.loop-i-test.true in (
      omega (arith, inside),
      λ b long is.
          let n = length-append b (take i s) in
          let k = length-take-le i s c.loop-i.invariant.0 in
          let all : length (b ++ take i s) ≡ c.args.at + i = omega (arith, n, k, long) in
          subst (IsPart c.in-Some.next) (one_more b s i inside) (c.in-Some.ensures (b ++ take i s) all (c.loop-i.invariant.1 b long is)),
    )
