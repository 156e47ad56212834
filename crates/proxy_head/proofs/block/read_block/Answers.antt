use Rattle.std.proofs.Common.{◌≡◌, ◌≤◌, true, false, length, arith, refl, sym, inl, inr}
use Rattle.proxy_head.specs.declared.limits.TheConstants.{SIGNATURE}
use Rattle.proxy_head.proofs.Cuts.{prefix_long}
use Rattle.proxy_head.proofs.BlockLaws.{signature_begins, command_begins, wrong_command, wrong_family}
use Rattle.proxy_head.proofs.block.read_block.Goals as goal

pub returns-then-bytes-lt13 : goal.returns-then-bytes-lt13
returns-then-bytes-lt13 c =
    let long : 12 ≤ length c.args.bytes.now = prefix_long c.args.bytes.now SIGNATURE c.requires in
    signature_begins c.args.bytes.now c.requires (omega arith)

pub returns-then-not-is_command : goal.returns-then-not-is_command
returns-then-not-is_command c = wrong_command c.args.bytes.now c.requires (omega arith) (λ e. let h : false ≡ true = c.if-not-is_command.ensures.1 (inl e) in cc) (λ e. let h : false ≡ true = c.if-not-is_command.ensures.1 (inr e) in cc)

pub returns-then-bytes-lt14 : goal.returns-then-bytes-lt14
returns-then-bytes-lt14 c = command_begins c.args.bytes.now c.requires (omega arith) (c.if-not-is_command.ensures.0 refl)

pub returns-in-None : goal.returns-in-None
returns-in-None c = wrong_family c.args.bytes.now c.requires (omega arith) (c.if-not-is_command.ensures.0 refl) (sym c.in-None.ensures)
