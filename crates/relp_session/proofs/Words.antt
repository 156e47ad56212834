-- What a frame asks for, by its command word.
use Rattle.std.specs.Prelude.{◌≡◌, ◌≢◌, ℕ, Bool, true, false, ◌&&◌, List, bytes_eq, codes}
use Rattle.std.proofs.Common.{refl, ◌∙◌, ap}
use Rattle.std.proofs.lemmas.Slice.Eq.{bytes_eq-Decides}
use Rattle.relp_frame.specs.declared.frame.Frame.{Frame}
use Rattle.relp_session.specs.declared.request.Request.{Request}
use Rattle.relp_session.specs.declared.request.Request.TheVariants.{Open, OpenOther, Syslog, Close, Other}
use Rattle.relp_session.specs.Request.{Asks, is_word, speaks, is_opening, is_closing}

other_word : (word bytes : List ℕ) → bytes ≢ word → is_word word bytes ≡ false
other_word word bytes n = go (bytes_eq bytes word) refl
  where
    go : (b : Bool) → bytes_eq bytes word ≡ b → bytes_eq bytes word ≡ false
    go true e = absurd (n ((bytes_eq-Decides bytes word).0 e))
    go false e = e

-- whether it is an `open` that is accepted
abbrev pub opens : Request → Bool
opens Open = true
opens OpenOther = false
opens Syslog = false
opens Close = false
opens Other = false

-- whether it is a `close`
abbrev pub closes : Request → Bool
closes Open = false
closes OpenOther = false
closes Syslog = false
closes Close = true
closes Other = false

pub opening_asked : (f : Frame) (r : Request) → Asks f r → is_opening f ≡ opens r
opening_asked f Open a = ap (λ word. is_word (codes "open") word && speaks f.body) a.0 ∙ a.1
opening_asked f OpenOther a = ap (λ word. is_word (codes "open") word && speaks f.body) a.0 ∙ a.1
opening_asked f Syslog a = ap (λ word. is_word (codes "open") word && speaks f.body) a
opening_asked f Close a = ap (λ word. is_word (codes "open") word && speaks f.body) a
opening_asked f Other a = ap (λ b. b && speaks f.body) (other_word (codes "open") f.command a.0)

pub closing_asked : (f : Frame) (r : Request) → Asks f r → is_closing f ≡ closes r
closing_asked f Open a = ap (λ word. is_word (codes "close") word) a.0
closing_asked f OpenOther a = ap (λ word. is_word (codes "close") word) a.0
closing_asked f Syslog a = ap (λ word. is_word (codes "close") word) a
closing_asked f Close a = ap (λ word. is_word (codes "close") word) a
closing_asked f Other a = other_word (codes "close") f.command a.2
