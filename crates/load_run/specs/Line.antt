-- The line of a load. Its numbers are decimal, and it ends with LF.
use Rattle.std.specs.Prelude.{ℕ, List, [], ◌∷◌, ◌++◌, codes}
use Rattle.std.specs.Fmt.{decimal}
use Rattle.load_run.specs.declared.loaded.Loaded.{Loaded}

abbrev pub load_line : Loaded → List ℕ
load_line loaded =
    decimal loaded.events ++ (codes " events, "
    ++ (decimal loaded.bytes_in ++ (codes " bytes in, "
    ++ (decimal loaded.bytes_out ++ (codes " bytes out, "
    ++ (decimal loaded.confirmed ++ (codes " confirmed, "
    ++ (decimal loaded.left ++ (codes " left" ++ 10 ∷ [])))))))))
