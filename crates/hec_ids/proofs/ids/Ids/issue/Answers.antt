use Rattle.std.proofs.Common.{◌≡◌, ℕ, ◌+◌, ◌*◌, ◌^◌, None, [], ◌∷◌, ◌++◌, subst, sym, ◌∙◌, ap, arith}
use Rattle.hec_ids.specs.Table.{Table, AreRising}
use Rattle.hec_ids.specs.Rows.{refusal, unsettled}
use Rattle.hec_ids.specs.Kept.{held_of, table_of}
use Rattle.hec_ids.proofs.HeldLaws.{rising_from}
use Rattle.hec_ids.proofs.KeptLaws.{kept_issued}
use Rattle.hec_ids.proofs.ids.Ids.issue.Goals as goal

pub hold-requires-clause-above : goal.hold-requires-clause-above
hold-requires-clause-above c =
    let a = c.self.inside in
    let low = a.run * 2 ^ 32 in
    subst (λ (k : ℕ). AreRising 0 (k * 2 ^ 32 + a.used) (held_of a.issued.entries)) (sym c.from.ensures) (rising_from 0 low (low + a.used) (held_of a.issued.entries) (omega arith) c.self.invariant.sound.rising)

pub invariant_of-self-2 : goal.invariant_of-self-2
invariant_of-self-2 c =
    let a = c.self.inside in
    let free : refusal (table_of a.run a.used a.issued.entries) c.args.channel ≡ None = ap (λ (t : Table). refusal t c.args.channel) c.self.view_is ∙ sym c.in_default.ensures in
    kept_issued a.run a.used c.args.channel a.issued.entries c.hold.new.issued.entries a.counts c.hold.new.counts c.self.invariant free c.in_ok-hold.ensures.counted
    (c.in_ok-hold.ensures.held ∙ ap (λ (k : ℕ). held_of a.issued.entries ++ unsettled c.args.channel (k * 2 ^ 32 + a.used) ∷ []) c.from.ensures)
