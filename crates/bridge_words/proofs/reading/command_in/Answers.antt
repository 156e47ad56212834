-- The command of a name.
use Rattle.std.proofs.Common.{◌≡◌}
use Rattle.words_faults.specs.declared.fault.WordsFault.TheVariants.{UnknownWord}
use Rattle.bridge_words.specs.Wrong.WrongBy.{no_name, in_format, in_list, in_replay, in_drain, in_load, in_serve}
use Rattle.bridge_words.proofs.Once.{same_text, named, unknown}
use Rattle.bridge_words.proofs.reading.command_in.Goals as goal

pub returns-then-eq-clause-command : goal.returns-then-eq-clause-command
returns-then-eq-clause-command c = named _ _ _ _ c.if-eq.ensures c.list_in.ensures.command

pub returns-then-eq-clause-wrong : goal.returns-then-eq-clause-wrong
returns-then-eq-clause-wrong c = λ fault is. in_list (same_text _ _ c.if-eq.ensures) (c.list_in.ensures.wrong fault is)

pub returns-then-eq-2-clause-command : goal.returns-then-eq-2-clause-command
returns-then-eq-2-clause-command c = named _ _ _ _ c.if-eq-2.ensures c.replay_in.ensures.command

pub returns-then-eq-2-clause-wrong : goal.returns-then-eq-2-clause-wrong
returns-then-eq-2-clause-wrong c = λ fault is. in_replay (same_text _ _ c.if-eq-2.ensures) (c.replay_in.ensures.wrong fault is)

pub returns-then-eq-3-clause-command : goal.returns-then-eq-3-clause-command
returns-then-eq-3-clause-command c = named _ _ _ _ c.if-eq-3.ensures c.drain_in.ensures.command

pub returns-then-eq-3-clause-wrong : goal.returns-then-eq-3-clause-wrong
returns-then-eq-3-clause-wrong c = λ fault is. in_drain (same_text _ _ c.if-eq-3.ensures) (c.drain_in.ensures.wrong fault is)

pub returns-then-eq-4-clause-command : goal.returns-then-eq-4-clause-command
returns-then-eq-4-clause-command c = named _ _ _ _ c.if-eq-4.ensures c.format_in.ensures.command

pub returns-then-eq-4-clause-wrong : goal.returns-then-eq-4-clause-wrong
returns-then-eq-4-clause-wrong c = λ fault is. in_format (same_text _ _ c.if-eq-4.ensures) (c.format_in.ensures.wrong fault is)

pub returns-then-eq-5-clause-command : goal.returns-then-eq-5-clause-command
returns-then-eq-5-clause-command c = named _ _ _ _ c.if-eq-5.ensures c.load_in.ensures.command

pub returns-then-eq-5-clause-wrong : goal.returns-then-eq-5-clause-wrong
returns-then-eq-5-clause-wrong c = λ fault is. in_load (same_text _ _ c.if-eq-5.ensures) (c.load_in.ensures.wrong fault is)

pub returns-then-eq-6-clause-command : goal.returns-then-eq-6-clause-command
returns-then-eq-6-clause-command c = named _ _ _ _ c.if-eq-6.ensures c.serve_in.ensures.command

pub returns-then-eq-6-clause-wrong : goal.returns-then-eq-6-clause-wrong
returns-then-eq-6-clause-wrong c = λ fault is. in_serve (same_text _ _ c.if-eq-6.ensures) (c.serve_in.ensures.wrong fault is)

pub returns-else-eq-6-clause-wrong : goal.returns-else-eq-6-clause-wrong
returns-else-eq-6-clause-wrong c = λ fault is.
    let same : fault ≡ UnknownWord = cc in
    no_name (unknown c.args.name.now c.if-eq.ensures c.if-eq-2.ensures c.if-eq-3.ensures c.if-eq-4.ensures c.if-eq-5.ensures c.if-eq-6.ensures) c.requires.other same
