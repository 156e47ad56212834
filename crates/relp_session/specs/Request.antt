-- What a frame asks for. Command words are compared byte for byte.
use Rattle.std.specs.Prelude.{◌≡◌, ◌≢◌, ◌==◌, ℕ, Bool, true, false, ◌&&◌, nat_eq, List, find, codes}
use Rattle.std.specs.Cmp.Lexicographic.{pointwise}
use Rattle.std.specs.List.{slice_split, starts_with}
use Rattle.std.specs.Option.{option_map_or}
use Rattle.relp_frame.specs.declared.frame.Frame.{Frame}
use Rattle.relp_session.specs.declared.request.Request.{Request}
use Rattle.relp_session.specs.declared.request.Request.TheVariants.{Open, OpenOther, Syslog, Close, Other}

-- the bytes are this word
abbrev pub is_word : List ℕ → List ℕ → Bool
is_word word bytes = pointwise nat_eq bytes word

-- the lines of an offer are cut at LF
abbrev pub lines : List ℕ → List (List ℕ)
lines offer = slice_split (λ c. c == 10) offer

-- a line `relp_version=V`
abbrev pub states_version : List ℕ → Bool
states_version line = starts_with nat_eq line (codes "relp_version=")

-- the offer states no version, or the first that it states is 0
abbrev pub speaks : List ℕ → Bool
speaks offer = option_map_or (λ line. is_word (codes "relp_version=0") line) (find states_version (lines offer)) true

-- the frame is an `open` in the version that is spoken here
abbrev pub is_opening : Frame → Bool
is_opening f = is_word (codes "open") f.command && speaks f.body

-- the frame is a `close`
abbrev pub is_closing : Frame → Bool
is_closing f = is_word (codes "close") f.command

-- the frame asks for this
abbrev pub Asks : Frame → Request → Type 0
Asks f Open = (f.command ≡ codes "open") × (speaks f.body ≡ true)
Asks f OpenOther = (f.command ≡ codes "open") × (speaks f.body ≡ false)
Asks f Syslog = f.command ≡ codes "syslog"
Asks f Close = f.command ≡ codes "close"
Asks f Other = (f.command ≢ codes "open") × (f.command ≢ codes "syslog") × (f.command ≢ codes "close")
