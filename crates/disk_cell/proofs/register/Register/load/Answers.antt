use Rattle.std.proofs.Common.{◌∙◌, refl}
use Rattle.disk_cell.specs.declared.cell.Cell.TheVariants.{First, Second}
use Rattle.disk_cell.proofs.Choosing.{loaded, refused, none_breaks, read_before}
use Rattle.disk_cell.proofs.register.Register.load.Goals as goal

pub returns-then-outranks-clause-known : goal.returns-then-outranks-clause-known
returns-then-outranks-clause-known g c =
    loaded g.D.Disk.tells First c.is_open.result c.in_ok-first.first c.in_ok-second.second c.read_register.result _ _ c.in_ok-first.ensures.text (λ tells. read_before Second c.in_ok-second.second _ _ (c.in_ok-first.ensures.untouched tells) (c.in_ok-second.ensures.text tells)) c.in_ok-first.ensures.range c.in_ok-second.ensures.range (c.if-outranks.ensures.0 refl) c.is_open.ensures c.read_register.ensures.ok (λ tells. (c.in_ok-second.ensures.untouched tells).same ∙ (c.in_ok-first.ensures.untouched tells).same) c.read_register.ensures.known

pub returns-then-outranks-clause-broken : goal.returns-then-outranks-clause-broken
returns-then-outranks-clause-broken g c =
    refused g.D.Disk.tells First c.in_ok-first.first c.in_ok-second.second c.read_register.result _ c.in_ok-first.ensures.text (λ tells. read_before Second c.in_ok-second.second _ _ (c.in_ok-first.ensures.untouched tells) (c.in_ok-second.ensures.text tells)) c.in_ok-first.ensures.range c.in_ok-second.ensures.range (c.if-outranks.ensures.0 refl) c.read_register.ensures.bad

pub returns-then-outranks-2-clause-known : goal.returns-then-outranks-2-clause-known
returns-then-outranks-2-clause-known g c =
    loaded g.D.Disk.tells Second c.is_open-then-outranks-2.result c.in_ok-second.second c.in_ok-first.first c.read_register-then-outranks-2.result _ _ (λ tells. read_before Second c.in_ok-second.second _ _ (c.in_ok-first.ensures.untouched tells) (c.in_ok-second.ensures.text tells)) c.in_ok-first.ensures.text c.in_ok-second.ensures.range c.in_ok-first.ensures.range (c.if-outranks-2.ensures.0 refl) c.is_open-then-outranks-2.ensures c.read_register-then-outranks-2.ensures.ok (λ tells. (c.in_ok-second.ensures.untouched tells).same ∙ (c.in_ok-first.ensures.untouched tells).same) c.read_register-then-outranks-2.ensures.known

pub returns-then-outranks-2-clause-broken : goal.returns-then-outranks-2-clause-broken
returns-then-outranks-2-clause-broken g c =
    refused g.D.Disk.tells Second c.in_ok-second.second c.in_ok-first.first c.read_register-then-outranks-2.result _ (λ tells. read_before Second c.in_ok-second.second _ _ (c.in_ok-first.ensures.untouched tells) (c.in_ok-second.ensures.text tells)) c.in_ok-first.ensures.text c.in_ok-second.ensures.range c.in_ok-first.ensures.range (c.if-outranks-2.ensures.0 refl) c.read_register-then-outranks-2.ensures.bad

pub returns-clause-broken : goal.returns-clause-broken
returns-clause-broken g c = λ tells.
    none_breaks c.in_ok-first.first c.in_ok-second.second _ (c.in_ok-first.ensures.text tells) (read_before Second c.in_ok-second.second _ _ (c.in_ok-first.ensures.untouched tells) (c.in_ok-second.ensures.text tells)) c.in_ok-first.ensures.range c.in_ok-second.ensures.range (λ out. cc (c.if-outranks.ensures.1 out)) (λ out. cc (c.if-outranks-2.ensures.1 out)) c.offset.result c.offset.ensures
