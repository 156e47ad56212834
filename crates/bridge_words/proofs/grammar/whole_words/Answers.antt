use Rattle.bridge_words.specs.Grammar.{format_app, list_app, replay_app, drain_app, load_app, serve_app, move_app}
use Rattle.bridge_words.proofs.grammar.whole_words.Goals as goal

pub returns : goal.returns
returns c =
    let format = c.with_command-bridge.ensures _ format_app c.top_words-bridge.ensures c.format_words.ensures in
    let list = c.with_command-bridge-2.ensures _ list_app format c.list_words.ensures in
    let replay = c.with_command-bridge-3.ensures _ replay_app list c.replay_words.ensures in
    let drain = c.with_command-bridge-4.ensures _ drain_app replay c.drain_words.ensures in
    let load = c.with_command-bridge-5.ensures _ load_app drain c.load_words.ensures in
    let serve = c.with_command-bridge-6.ensures _ serve_app load c.serve_words.ensures in
    c.with_command.ensures _ move_app serve c.move_words.ensures
