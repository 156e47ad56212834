-- What stands in the field's bytes is what was read there.
use Rattle.std.proofs.Common.{◌≡◌, ◌∙◌, ◌++◌, drop, sym, ap, subst, w32}
use Rattle.std.specs.Int.{from_be_bytes}
use Rattle.lumber_frame.specs.declared.field.Field.TheVariants.{VersionByte, WindowSize, PairCount, PayloadLength, KeyLength, ValueLength}
use Rattle.lumber_frame.specs.Machine.{turn}
use Rattle.lumber_frame.specs.Places.{Stands}
use Rattle.lumber_frame.proofs.JoinedLaws.{first_of_range}
use Rattle.lumber_frame.proofs.turn.after_field.Goals as goal

pub returns-in-VersionByte-clause-turn : goal.returns-in-VersionByte-clause-turn
returns-in-VersionByte-clause-turn c = rw c.in-VersionByte.is (λ h b l m w.
    let at : c.args.at ≡ 0 = subst (λ f. Stands f c.args.at) c.in-VersionByte.is c.requires.stands in
    c.after_version.ensures.turn c.args.side h b (l ∙ at) m ∙ ap (turn c.args.side VersionByte (drop 10 h) b) (c.byte_at.ensures ∙ first_of_range (c.args.front.now ++ c.args.back.now) b c.args.from w))

pub returns-in-WindowSize-clause-turn : goal.returns-in-WindowSize-clause-turn
returns-in-WindowSize-clause-turn c = rw c.in-WindowSize.is (λ h b l m w.
    let at : c.args.at ≡ 2 = subst (λ f. Stands f c.args.at) c.in-WindowSize.is c.requires.stands in
    c.after_size.ensures.turn c.args.side h b (l ∙ at) m ∙ ap (turn c.args.side WindowSize (drop 10 h) b) (c.number_at.ensures ∙ ap (from_be_bytes w32) (sym w)))

pub returns-in-PairCount-clause-turn : goal.returns-in-PairCount-clause-turn
returns-in-PairCount-clause-turn c = rw c.in-PairCount.is (λ h b l m w.
    let at : c.args.at ≡ 6 = subst (λ f. Stands f c.args.at) c.in-PairCount.is c.requires.stands in
    c.after_count.ensures.turn c.args.side h b (l ∙ at) m ∙ ap (turn c.args.side (PairCount c.in-PairCount.seq) (drop 10 h) b) (c.number_at-in-PairCount.ensures ∙ ap (from_be_bytes w32) (sym w)))

pub returns-in-PayloadLength-clause-turn : goal.returns-in-PayloadLength-clause-turn
returns-in-PayloadLength-clause-turn c = rw c.in-PayloadLength.is (λ h b l m w.
    let at : c.args.at ≡ 6 = subst (λ f. Stands f c.args.at) c.in-PayloadLength.is c.requires.stands in
    c.after_payload_length.ensures.turn c.args.side h b (l ∙ at) m ∙ ap (turn c.args.side (PayloadLength c.in-PayloadLength.seq) (drop 10 h) b) (c.number_at-in-PayloadLength.ensures ∙ ap (from_be_bytes w32) (sym w)))

pub returns-in-KeyLength-clause-turn : goal.returns-in-KeyLength-clause-turn
returns-in-KeyLength-clause-turn c = rw c.in-KeyLength.is (λ h b l m w.
    c.after_key_length.ensures.turn c.args.side h b l m ∙ ap (turn c.args.side (KeyLength c.in-KeyLength.seq c.in-KeyLength.left) (drop 10 h) b) (c.number_at-in-KeyLength.ensures ∙ ap (from_be_bytes w32) (sym w)))

pub returns-in-ValueLength-clause-turn : goal.returns-in-ValueLength-clause-turn
returns-in-ValueLength-clause-turn c = rw c.in-ValueLength.is (λ h b l m w.
    c.after_value_length.ensures.turn c.args.side h b l m ∙ ap (turn c.args.side (ValueLength c.in-ValueLength.seq c.in-ValueLength.left) (drop 10 h) b) (c.number_at-in-ValueLength.ensures ∙ ap (from_be_bytes w32) (sym w)))
