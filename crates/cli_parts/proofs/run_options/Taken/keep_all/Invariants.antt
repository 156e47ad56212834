use Rattle.std.proofs.Common.{◌≡◌, ◌++◌, map, take, string_bytes}
use Rattle.cli_parts.proofs.run_options.Taken.keep_all.Given as goal

-- the words before this one were copied
abbrev pub invariant-loop-word : goal.invariant-loop-word
invariant-loop-word l = record {
  kept : map string_bytes l.self.words.items ≡ map string_bytes l.fn.self.words.items ++ map string_bytes (take l.word-index l.words);
  same : l.self.options ≡ l.fn.self.options;
}
