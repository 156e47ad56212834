use Rattle.std.proofs.Common.{◌≡◌, Global, map, string_bytes}
use Rattle.cli_parts.proofs.Options.{first_and_rest, next_flag, next_idle, next_idle_with, next_memory, next_memory_with, next_proxies, next_proxies_with, next_other, wrong_flag, wrong_idle, wrong_idle_with, wrong_memory, wrong_memory_with, wrong_proxies, wrong_proxies_with}
use Rattle.cli_parts.proofs.run_options.Taken.read.Goals as goal

-- `--idle=SECONDS`

pub returns-in-Ok-clause-read : goal.returns-in-Ok-clause-read
returns-in-Ok-clause-read c =
    rw c.in-Ok.ensures.words (next_idle_with c.args.name.now c.args.word.now c.in-IdleWith.value.now _ _ _ _ c.in-IdleWith.ensures c.in-Ok.ensures.idle)

pub returns-in-Err-clause-wrong : goal.returns-in-Err-clause-wrong
returns-in-Err-clause-wrong c = λ wrong is.
    let same : c.in-Err.wrong ≡ wrong = cc in
    rw (← same) (wrong_idle_with c.args.name.now c.args.word.now c.in-IdleWith.value.now (map (string_bytes {Z = Global}) c.args.more.now)
    c.args.self.now.options c.in-Err.wrong c.in-IdleWith.ensures c.in-Err.ensures.wrong)

-- `--idle SECONDS`

pub returns-in-Ok-take_idle-clause-read : goal.returns-in-Ok-take_idle-clause-read
returns-in-Ok-take_idle-clause-read c =
    let whole = first_and_rest (string_bytes {Z = Global}) c.args.more.now c.value-item.result c.as_str.result.now c.in-len1-up.len_at_least c.value-item.is c.as_str.ensures.value in
    rw c.in-Ok-take_idle.ensures.words (next_idle c.args.name.now c.args.word.now c.as_str.result.now _ _ _ _ _ whole c.in-Idle.ensures c.in-Ok-take_idle.ensures.idle)

pub returns-in-Err-take_idle-clause-wrong : goal.returns-in-Err-take_idle-clause-wrong
returns-in-Err-take_idle-clause-wrong c = λ wrong is.
    let same : c.in-Err-take_idle.wrong ≡ wrong = cc in
    let whole = first_and_rest (string_bytes {Z = Global}) c.args.more.now c.value-item.result c.as_str.result.now c.in-len1-up.len_at_least c.value-item.is c.as_str.ensures.value in
    rw (← same) (wrong_idle c.args.name.now c.args.word.now c.as_str.result.now (map (string_bytes {Z = Global}) c.args.more.now) _
    c.args.self.now.options c.in-Err-take_idle.wrong whole c.in-Idle.ensures c.in-Err-take_idle.ensures.wrong)

-- `--memory=BYTES`

pub returns-in-Ok-take_memory-clause-read : goal.returns-in-Ok-take_memory-clause-read
returns-in-Ok-take_memory-clause-read c =
    rw c.in-Ok-take_memory.ensures.words (next_memory_with c.args.name.now c.args.word.now c.in-MemoryWith.value.now _ _ _ _ c.in-MemoryWith.ensures c.in-Ok-take_memory.ensures.memory)

pub returns-in-Err-take_memory-clause-wrong : goal.returns-in-Err-take_memory-clause-wrong
returns-in-Err-take_memory-clause-wrong c = λ wrong is.
    let same : c.in-Err-take_memory.wrong ≡ wrong = cc in
    rw (← same) (wrong_memory_with c.args.name.now c.args.word.now c.in-MemoryWith.value.now (map (string_bytes {Z = Global}) c.args.more.now)
    c.args.self.now.options c.in-Err-take_memory.wrong c.in-MemoryWith.ensures c.in-Err-take_memory.ensures.wrong)

-- `--memory BYTES`

pub returns-in-Ok-take_memory-2-clause-read : goal.returns-in-Ok-take_memory-2-clause-read
returns-in-Ok-take_memory-2-clause-read c =
    let whole = first_and_rest (string_bytes {Z = Global}) c.args.more.now c.value-item-in-Memory.result c.as_str-in-Memory.result.now c.in-len1-up-more.len_at_least c.value-item-in-Memory.is c.as_str-in-Memory.ensures.value in
    rw c.in-Ok-take_memory-2.ensures.words (next_memory c.args.name.now c.args.word.now c.as_str-in-Memory.result.now _ _ _ _ _ whole c.in-Memory.ensures c.in-Ok-take_memory-2.ensures.memory)

pub returns-in-Err-take_memory-2-clause-wrong : goal.returns-in-Err-take_memory-2-clause-wrong
returns-in-Err-take_memory-2-clause-wrong c = λ wrong is.
    let same : c.in-Err-take_memory-2.wrong ≡ wrong = cc in
    let whole = first_and_rest (string_bytes {Z = Global}) c.args.more.now c.value-item-in-Memory.result c.as_str-in-Memory.result.now c.in-len1-up-more.len_at_least c.value-item-in-Memory.is c.as_str-in-Memory.ensures.value in
    rw (← same) (wrong_memory c.args.name.now c.args.word.now c.as_str-in-Memory.result.now (map (string_bytes {Z = Global}) c.args.more.now) _
    c.args.self.now.options c.in-Err-take_memory-2.wrong whole c.in-Memory.ensures c.in-Err-take_memory-2.ensures.wrong)

-- `--accept-proxy=IPS`

pub returns-in-Ok-take_proxies-clause-read : goal.returns-in-Ok-take_proxies-clause-read
returns-in-Ok-take_proxies-clause-read c =
    rw c.in-Ok-take_proxies.ensures.words (next_proxies_with c.args.name.now c.args.word.now c.in-ProxyWith.value.now _ _ _ _ c.in-ProxyWith.ensures c.in-Ok-take_proxies.ensures.proxies)

pub returns-in-Err-take_proxies-clause-wrong : goal.returns-in-Err-take_proxies-clause-wrong
returns-in-Err-take_proxies-clause-wrong c = λ wrong is.
    let same : c.in-Err-take_proxies.wrong ≡ wrong = cc in
    rw (← same) (wrong_proxies_with c.args.name.now c.args.word.now c.in-ProxyWith.value.now (map (string_bytes {Z = Global}) c.args.more.now)
    c.args.self.now.options c.in-Err-take_proxies.wrong c.in-ProxyWith.ensures c.in-Err-take_proxies.ensures.wrong)

-- `--accept-proxy IPS`

pub returns-in-Ok-take_proxies-2-clause-read : goal.returns-in-Ok-take_proxies-2-clause-read
returns-in-Ok-take_proxies-2-clause-read c =
    let whole = first_and_rest (string_bytes {Z = Global}) c.args.more.now c.value-item-in-Proxy.result c.as_str-in-Proxy.result.now c.in-len1-up-more-2.len_at_least c.value-item-in-Proxy.is c.as_str-in-Proxy.ensures.value in
    rw c.in-Ok-take_proxies-2.ensures.words (next_proxies c.args.name.now c.args.word.now c.as_str-in-Proxy.result.now _ _ _ _ _ whole c.in-Proxy.ensures c.in-Ok-take_proxies-2.ensures.proxies)

pub returns-in-Err-take_proxies-2-clause-wrong : goal.returns-in-Err-take_proxies-2-clause-wrong
returns-in-Err-take_proxies-2-clause-wrong c = λ wrong is.
    let same : c.in-Err-take_proxies-2.wrong ≡ wrong = cc in
    let whole = first_and_rest (string_bytes {Z = Global}) c.args.more.now c.value-item-in-Proxy.result c.as_str-in-Proxy.result.now c.in-len1-up-more-2.len_at_least c.value-item-in-Proxy.is c.as_str-in-Proxy.ensures.value in
    rw (← same) (wrong_proxies c.args.name.now c.args.word.now c.as_str-in-Proxy.result.now (map (string_bytes {Z = Global}) c.args.more.now) _
    c.args.self.now.options c.in-Err-take_proxies-2.wrong whole c.in-Proxy.ensures c.in-Err-take_proxies-2.ensures.wrong)

-- an option without a value

pub returns-in-Ok-take_flag-clause-read : goal.returns-in-Ok-take_flag-clause-read
returns-in-Ok-take_flag-clause-read c =
    rw c.in-Ok-take_flag.ensures.words (next_flag c.in-Flag.flag _ _ _ _ _ _ c.in-Flag.ensures c.in-Ok-take_flag.ensures.once c.in-Ok-take_flag.ensures.given)

pub returns-in-Err-take_flag-clause-wrong : goal.returns-in-Err-take_flag-clause-wrong
returns-in-Err-take_flag-clause-wrong c = λ wrong is.
    let same : c.in-Err-take_flag.wrong ≡ wrong = cc in
    rw (← same) (wrong_flag c.in-Flag.flag c.args.name.now c.args.word.now (map (string_bytes {Z = Global}) c.args.more.now)
    c.args.self.now.options c.in-Err-take_flag.wrong c.in-Flag.ensures c.in-Err-take_flag.ensures.wrong)

-- any other word
pub returns-in_ok-keep-in-Other-clause-read : goal.returns-in_ok-keep-in-Other-clause-read
returns-in_ok-keep-in-Other-clause-read c = next_other _ _ _ _ _ _ _ c.in-Other.ensures c.in_ok-keep-in-Other.ensures.options c.in_ok-keep-in-Other.ensures.kept
