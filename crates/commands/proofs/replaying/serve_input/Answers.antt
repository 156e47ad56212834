use Rattle.commands.proofs.replaying.serve_input.Goals as goal

pub serve_link-requires-clause-answers : goal.serve_link-requires-clause-answers
serve_link-requires-clause-answers g c = λ now bytes calls text read kept carried link same.
    c.requires.answers now bytes calls text (read.0.source.now, read.1.0.1, read.2) kept carried link.sink.now same.1.1
