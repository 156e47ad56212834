-- How the words of each command are spelt, whatever their values are.
use Rattle.std.specs.Prelude.{◌≡◌, ℕ, List, [], ◌∷◌, ◌++◌, Option, None, Some, false, codes}
use Rattle.clap.specs.Walk.{Text}
use Rattle.edge_io.specs.declared.proto.Proto.{Proto}
use Rattle.edge_io.specs.declared.proto.Proto.TheVariants.{Hec}
use Rattle.bridge_words.specs.declared.command.Command.TheVariants.{Format, List as ListCommand, Load, Serve}
use Rattle.bridge_words.specs.declared.command.ListForm.{ListForm}
use Rattle.bridge_words.specs.declared.command.Receiver.{Receiver}
use Rattle.bridge_words.specs.declared.command.Receiver.TheVariants.{Relp as ToRelp, Lumberjack as ToLumberjack, Hec as ToHec}
use Rattle.bridge_words.specs.declared.command.Server.{Server}
use Rattle.bridge_words.specs.Values.{form_at, guid, number_within, proto_at}
use Rattle.bridge_words.specs.Words.{IsCommand, IsNoCommand, relp_server}

-- ---- `format`, `list` and `load`

-- `format -- SLOTS SIZE`
abbrev pub format_words : Text → Text → List Text
format_words slots size = codes "format" ∷ codes "--" ∷ slots ∷ size ∷ []

-- Two words are taken, 1 to 1,024 and 4,096 to 1,073,741,824, and nothing else is.
pub record SpellsFormat : Type 0 where
  pub takes : (s t : Text) (slots size : ℕ) → number_within 1 1024 s ≡ Some slots → number_within 4096 1073741824 t ≡ Some size
      → IsCommand (Format slots size) (format_words s t)
  pub slots : (s t : Text) → number_within 1 1024 s ≡ None → IsNoCommand (format_words s t)
  pub size : (s t : Text) → number_within 4096 1073741824 t ≡ None → IsNoCommand (format_words s t)
  pub fewer : (s : Text) → IsNoCommand (codes "format" ∷ codes "--" ∷ s ∷ [])
  pub more : (s t u : Text) → IsNoCommand (codes "format" ∷ codes "--" ∷ s ∷ t ∷ u ∷ [])

-- `list --as=FORM`
abbrev pub list_words : Text → List Text
list_words form = codes "list" ∷ (codes "--as=" ++ form) ∷ []

-- No word is taken but `--as=`, once at most, with one of the forms.
pub record SpellsList (Plain : ListForm) : Type 0 where
  pub plain : IsCommand (ListCommand Plain) (codes "list" ∷ [])
  pub takes : (t : Text) (form : ListForm) → form_at t ≡ Some form → IsCommand (ListCommand form) (list_words t)
  pub form : (t : Text) → form_at t ≡ None → IsNoCommand (list_words t)
  pub once : (t u : Text) → IsNoCommand (codes "list" ∷ (codes "--as=" ++ t) ∷ (codes "--as=" ++ u) ∷ [])
  pub more : (t : Text) → IsNoCommand (codes "list" ∷ codes "--" ∷ t ∷ [])

-- `load -- PROTO NUMBER COUNT`
abbrev pub load_words : Text → Text → Text → List Text
load_words proto number count = codes "load" ∷ codes "--" ∷ proto ∷ number ∷ count ∷ []

-- Three words are taken, a protocol, 0 to 2,147,483,647 and 0 to 100,000, and nothing else is.
pub record SpellsLoad : Type 0 where
  pub takes : (p n c : Text) (proto : Proto) (number count : ℕ) → proto_at p ≡ Some proto → number_within 0 2147483647 n ≡ Some number
      → number_within 0 100000 c ≡ Some count → IsCommand (Load proto number count) (load_words p n c)
  pub proto : (p n c : Text) → proto_at p ≡ None → IsNoCommand (load_words p n c)
  pub number : (p n c : Text) → number_within 0 2147483647 n ≡ None → IsNoCommand (load_words p n c)
  pub count : (p n c : Text) → number_within 0 100000 c ≡ None → IsNoCommand (load_words p n c)
  pub fewer : (p n : Text) → IsNoCommand (codes "load" ∷ codes "--" ∷ p ∷ n ∷ [])
  pub more : (p n c d : Text) → IsNoCommand (codes "load" ∷ codes "--" ∷ p ∷ n ∷ c ∷ d ∷ [])

-- ---- `serve`

-- `serve --relp=PLACE` and more words, at any place
abbrev pub serve_words : ℕ → Text → List Text → List Text
serve_words x place more = codes "serve" ∷ (codes "--relp=" ++ x ∷ place) ∷ more

-- the server of those words where there are no more
abbrev pub plain_server : ℕ → Text → Server
plain_server x place = relp_server (x ∷ place) false

-- The option, as `--name=`, sets of the server what its value says; with a value that says nothing, and given twice, the words are none.
pub record SpellsOption {A : Type 0} (option : Text) (read : Text → Option A) (set : A → Server → Server) : Type 0 where
  pub takes : (x : ℕ) (place value : Text) (a : A) → read value ≡ Some a
      → IsCommand (Serve (set a (plain_server x place))) (serve_words x place ((option ++ value) ∷ []))
  pub value : (x : ℕ) (place value : Text) → read value ≡ None → IsNoCommand (serve_words x place ((option ++ value) ∷ []))
  pub once : (x : ℕ) (place v w : Text) → IsNoCommand (serve_words x place ((option ++ v) ∷ (option ++ w) ∷ []))

-- These two options don't stand together, in either order.
pub record StandApart (one other : Text) : Type 0 where
  pub first : (x : ℕ) (place v w : Text) → IsNoCommand (serve_words x place ((one ++ v) ∷ (other ++ w) ∷ []))
  pub second : (x : ℕ) (place v w : Text) → IsNoCommand (serve_words x place ((other ++ w) ∷ (one ++ v) ∷ []))

-- `--forward=PROTO --to=PLACE` and more words, at any place
abbrev pub forward_words : Text → ℕ → Text → List Text → List Text
forward_words proto y to more = (codes "--forward=" ++ proto) ∷ (codes "--to=" ++ y ∷ to) ∷ more

-- the server that forwards to this receiver there
abbrev pub to_receiver : Receiver → ℕ → Text → Server → Server
to_receiver receiver y to server = record server { forward = Some (record { receiver = receiver; place = y ∷ to }) }

-- The words of a receiver of the collector's: its token and its channel, and more words.
abbrev pub collector_words : Text → Text → List Text → List Text
collector_words token channel more = (codes "--out-token=" ++ token) ∷ (codes "--out-channel=" ++ channel) ∷ more

-- `--forward` and `--to` stand together, with a protocol and a place; for the collector with a token and a channel too. It is asked 60
-- times, or as often as `--polls` says.
pub record SpellsForward : Type 0 where
  pub relp : (x : ℕ) (place : Text) (y : ℕ) (to : Text)
      → IsCommand (Serve (to_receiver ToRelp y to (plain_server x place))) (serve_words x place (forward_words (codes "relp") y to []))
  pub lumberjack : (x : ℕ) (place : Text) (y : ℕ) (to : Text)
      → IsCommand (Serve (to_receiver ToLumberjack y to (plain_server x place)))
      (serve_words x place (forward_words (codes "lumberjack") y to []))
  pub hec : (x : ℕ) (place : Text) (y : ℕ) (to t c : Text) (token channel : ℕ) → guid t ≡ Some token → guid c ≡ Some channel
      → IsCommand (Serve (to_receiver (ToHec token channel 60) y to (plain_server x place)))
      (serve_words x place (forward_words (codes "hec") y to (collector_words t c [])))
  pub polls : (x : ℕ) (place : Text) (y : ℕ) (to t c n : Text) (token channel polls : ℕ) → guid t ≡ Some token → guid c ≡ Some channel
      → number_within 1 1000 n ≡ Some polls → IsCommand (Serve (to_receiver (ToHec token channel polls) y to (plain_server x place)))
      (serve_words x place (forward_words (codes "hec") y to (collector_words t c ((codes "--polls=" ++ n) ∷ []))))
  pub no_token : (x : ℕ) (place : Text) (y : ℕ) (to c : Text)
      → IsNoCommand (serve_words x place (forward_words (codes "hec") y to ((codes "--out-channel=" ++ c) ∷ [])))
  pub no_channel : (x : ℕ) (place : Text) (y : ℕ) (to t : Text)
      → IsNoCommand (serve_words x place (forward_words (codes "hec") y to ((codes "--out-token=" ++ t) ∷ [])))
  pub proto : (x : ℕ) (place p : Text) (y : ℕ) (to : Text) → proto_at p ≡ None
      → IsNoCommand (serve_words x place (forward_words p y to []))
  pub no_to : (x : ℕ) (place p : Text) → IsNoCommand (serve_words x place ((codes "--forward=" ++ p) ∷ []))
  pub no_forward : (x : ℕ) (place to : Text) → IsNoCommand (serve_words x place ((codes "--to=" ++ to) ∷ []))

-- A place at which connections come in is needed, by one of three options, and no word but options is taken.
pub record SpellsDoors : Type 0 where
  pub relp : (x : ℕ) (place : Text) → IsCommand (Serve (plain_server x place)) (serve_words x place [])
  pub lumberjack : (x : ℕ) (place : Text)
      → IsCommand (Serve (record (plain_server x place) { relp = None; lumberjack = Some (x ∷ place) }))
      (codes "serve" ∷ (codes "--lumberjack=" ++ x ∷ place) ∷ [])
  pub hec : (x : ℕ) (place : Text)
      → IsCommand (Serve (record (plain_server x place) { relp = None; hec = Some (x ∷ place) }))
      (codes "serve" ∷ (codes "--hec=" ++ x ∷ place) ∷ [])
  pub none : IsNoCommand (codes "serve" ∷ [])
  pub status_alone : (place : Text) → IsNoCommand (codes "serve" ∷ (codes "--status=" ++ place) ∷ [])
  pub more : (x : ℕ) (place t : Text) → IsNoCommand (serve_words x place (codes "--" ∷ t ∷ []))
