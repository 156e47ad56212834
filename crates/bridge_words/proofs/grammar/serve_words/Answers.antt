use Rattle.bridge_words.proofs.grammar.serve_words.Goals as goal

pub returns : goal.returns
returns c =
    let relp = c.with_option-serve.ensures _ c.command_named-serve.ensures in
    let lumberjack = c.with_option-serve-2.ensures _ relp in
    let hec = c.with_option-serve-3.ensures _ lumberjack in
    let status = c.with_option-serve-4.ensures _ hec in
    let workers = c.with_option-serve-5.ensures _ status in
    let connections = c.with_option-serve-6.ensures _ workers in
    let talks = c.with_option-serve-7.ensures _ connections in
    let token = c.with_option-serve-8.ensures _ talks in
    let ack_token = c.with_option-serve-9.ensures _ token in
    let tokens = c.with_option-serve-10.ensures _ ack_token in
    let group = c.with_flag-serve.ensures _ tokens in
    let forward = c.with_option-serve-11.ensures _ group in
    let to = c.with_option-serve-12.ensures _ forward in
    let out_token = c.with_option-serve-13.ensures _ to in
    let out_channel = c.with_option-serve-14.ensures _ out_token in
    c.with_option.ensures _ out_channel
