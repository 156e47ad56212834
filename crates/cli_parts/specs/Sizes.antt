-- A size with a unit, on the command line.
use Rattle.std.specs.Prelude.{◌≡◌, ◌⊎◌, ◌++◌, ◌-◌, ◌*◌, ◌<◌, ℕ, List, [], Option, None, Some, codes, get_or, length, nat_eq, nat_le, option_and_then, set, take, if◌then◌else◌}
use Rattle.std.specs.Fmt.{decimal}
use Rattle.std.specs.List.{ends_with}
use Rattle.bridge_words.specs.Values.{number}
use Rattle.cli_parts.specs.RunOptions.{Text}

-- so many bytes as the number, of at most 2^30, stands for with that unit
abbrev pub times : ℕ → Text → Option ℕ
times unit digits = option_and_then (λ n. if nat_le n 1073741824 then Some (n * unit) else None) (number digits)

-- the bytes that a number with K, M or G after it stands for
abbrev pub bytes_in : Text → Option ℕ
bytes_in word =
    if ends_with nat_eq word (codes "K") then times 1024 (take (length word - 1) word)
    else if ends_with nat_eq word (codes "M") then times 1048576 (take (length word - 1) word)
    else if ends_with nat_eq word (codes "G") then times 1073741824 (take (length word - 1) word)
    else None

-- the words stay, or the last of them has a unit, and its bytes, as decimal digits, take its place
abbrev pub HaveBytes : List Text → List Text → Type 0
HaveBytes words made =
    (made ≡ words) ⊎ ((bytes : ℕ) × (bytes_in (get_or words (length words - 1) []) ≡ Some bytes) × (made ≡ set words (length words - 1) (decimal bytes)))
