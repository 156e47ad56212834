use Rattle.std.proofs.Common.{ap, inl, refl, map, string_bytes}
use Rattle.std.specs.Prelude.{Err}
use Rattle.bridge_words.proofs.Once.{sized}
use Rattle.bridge_words.proofs.Wrongs.{wrong_is_none, wrong_is_no_move}
use Rattle.bridge_words.proofs.need.need_of.Goals as goal

pub need-requires : goal.need-requires
need-requires c = λ slots size is. sized c.in-Ok-Command.command (map string_bytes c.args.words.now) (rw c.in-Ok-Command.field-0-is at c.in-Ok-Command.ensures.asked) slots size is

-- the words are neither
pub returns-in-Err-Wrong : goal.returns-in-Err-Wrong
returns-in-Err-Wrong c =
    let wrong = c.in-Err-Wrong.ensures.wrong c.in-Err-Wrong.field-0-0 (ap Err c.in-Err-Wrong.field-0-is) in
    inl (refl, wrong_is_none _ _ wrong, wrong_is_no_move _ _ wrong)
