use Rattle.std.proofs.Common.{ℕ, ◌≤◌, List, [], ◌∷◌, length, refl, sym, ◌∙◌, ap, subst, arith}
use Rattle.foundation.specs.Bytes.{put}
use Rattle.spool_state.specs.Segment.{head_text}
use Rattle.spool_state.specs.Cells.{content_text, known_text, body_text}
use Rattle.spool_state.specs.Empty.{IsFront}
use Rattle.spool_log.proofs.Scans.Faults.{on_ok}
use Rattle.spool_log.proofs.Formats.Fronts.{come_start, come_more, front_written}
use Rattle.spool_log.proofs.making.steps.write_front.Goals as goal

pub returns-in_err-write_at-3-clause-any_moment : goal.returns-in_err-write_at-3-clause-any_moment
returns-in_err-write_at-3-clause-any_moment g c = λ tells.
    let one = come_more _ _ _ 8 _ (omega arith) (come_start _ (g.met.D.Disk.lawful c.args.disk.now tells)) (c.write_at.ensures.told tells) in
    let two = come_more _ _ _ 4096 32 (omega arith) one (c.write_at-2.ensures.told tells) in
    come_more _ _ _ 8192 1 (omega arith) two (c.write_at-3.ensures.told tells)

pub returns-clause-written : goal.returns-clause-written
unfolding content_text known_text body_text head_text
returns-clause-written g c =
    on_ok c.write_at-4.result _ _ c.write_at-4.ensures.written (λ four tells.
    let reads = (g.D.Disk.moment c.args.disk.now).reads in
    let cell : List ℕ = 1 ∷ 0 ∷ 0 ∷ 0 ∷ 0 ∷ 0 ∷ 0 ∷ 0 ∷ 1 ∷ 0 ∷ 0 ∷ 0 ∷ 19 ∷ 2 ∷ 0 ∷ 0 ∷ 0 ∷ 0 ∷ 0 ∷ 0 ∷ 0 ∷ 0 ∷ 0 ∷ 0 ∷ 0 ∷ 0 ∷ 0 ∷ 0 ∷ 0 ∷ 0 ∷ 0 ∷ 0 ∷ [] in
    let head : List ℕ = 1 ∷ 0 ∷ 0 ∷ 0 ∷ 0 ∷ 0 ∷ 0 ∷ 0 ∷ 1 ∷ 0 ∷ 0 ∷ 0 ∷ 0 ∷ 0 ∷ 0 ∷ 0 ∷ 0 ∷ 0 ∷ [] in
    let room : 16384 ≤ length reads = omega (arith, c.requires.room, (g.met.D.Disk.lawful c.args.disk.now tells).reads_size) in
    let one = c.in_ok-write_at.ensures.written tells in
    let two = c.in_ok-write_at-2.ensures.written tells ∙ ap (λ (b : List ℕ). put 4096 cell b) one in
    let three = c.in_ok-write_at-3.ensures.written tells ∙ ap (λ (b : List ℕ). put 8192 (0 ∷ []) b) two in
    let whole = four tells ∙ ap (λ (b : List ℕ). put 12288 head b) three in
    subst (IsFront c.args.slots c.args.size) (sym whole) (front_written c.args.slots c.args.size reads c.numbers.result cell head room c.numbers.ensures refl refl (ap length c.numbers.ensures) refl refl))

pub returns-clause-any_moment : goal.returns-clause-any_moment
returns-clause-any_moment g c = λ tells.
    let one = come_more _ _ _ 8 _ (omega arith) (come_start _ (g.met.D.Disk.lawful c.args.disk.now tells)) (c.write_at.ensures.told tells) in
    let two = come_more _ _ _ 4096 32 (omega arith) one (c.write_at-2.ensures.told tells) in
    let three = come_more _ _ _ 8192 1 (omega arith) two (c.write_at-3.ensures.told tells) in
    come_more _ _ _ 12288 18 (omega arith) three (c.write_at-4.ensures.told tells)
