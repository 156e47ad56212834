use Rattle.std.proofs.Common.{◌∙◌, ap, arith}
use Rattle.std.proofs.lemmas.List.{with_items_is}
use Rattle.foundation.specs.Bytes.{put}
use Rattle.edge_memory.proofs.Covers.{sound_write}
use Rattle.edge_memory.proofs.StoreSteps.{written}
use Rattle.edge_memory.proofs.store.Store.write.Goals as goal

pub returns-clause-ok : goal.returns-clause-ok
returns-clause-ok c =
    let now = with_items_is c.self.inside.bytes c.overwrite.new.bytes (omega (arith, c.overwrite.auto.bytes, c.deref_mut.ensures.len)) in
    let put_is = now ∙ c.overwrite.ensures ∙ ap (put c.args.at c.args.piece.now) c.deref_mut.ensures.value in
    written c.args.at c.args.len c.args.piece.now c.args.self.now _ _ _ _ _ _ c.requires.sound.no_ranges (c.self.view_is ∙ c.in_ok-note.ensures.ok) put_is

pub returns-clause-sound : goal.returns-clause-sound
returns-clause-sound c = sound_write c.args.at c.args.len c.args.piece.now c.args.self.now _ c.requires.range c.requires.piece c.requires.sound (returns-clause-ok c)
