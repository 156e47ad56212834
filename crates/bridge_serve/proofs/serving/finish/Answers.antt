use Rattle.bridge_serve.proofs.serving.finish.Goals as goal

pub returns-clause-printed : goal.returns-clause-printed
returns-clause-printed g c =
    rw (
      c.run_note.ensures,
      c.count_talks.ensures,
      c.confirmed.ensures,
      c.taken.ensures,
      c.of-now.ensures.left,
      c.of-now.ensures.end,
      c.deref.ensures.value,
      c.deref-2.ensures.value,
    ) at c.print_after-note.ensures.printed
