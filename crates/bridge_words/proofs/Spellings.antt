-- How the words of each command are spelt: computed, as the words of clap have it, for words of which the values are any.
use Rattle.std.proofs.Common.{◌≡◌, ℕ, List, [], ◌∷◌, ◌++◌, refl, ap, inl, inr, codes, arith}
use Rattle.std.specs.Prelude.{false, Option, None, Some, option_map, Result, Ok, Err}
use Rattle.std.specs.Option.{ok_or}
use Rattle.clap.specs.Walk.{Row, Text}
use Rattle.clap.specs.declared.error.kind.ErrorKind.TheVariants as kind
use Rattle.clap.proofs.OnLiterals.{clap_on_literals}
use Rattle.desk_access.specs.declared.division.Division.TheVariants.{Workers, Connections}
use Rattle.edge_io.specs.declared.proto.Proto.{Proto}
use Rattle.edge_io.specs.declared.proto.Proto.TheVariants.{Hec}
use Rattle.hec_tokens.specs.declared.list.ListedToken.{ListedToken}
use Rattle.bridge_words.specs.declared.command.Command.TheVariants.{Format, List as ListCommand, Load, Serve}
use Rattle.bridge_words.specs.declared.command.ListForm.{ListForm}
use Rattle.bridge_words.specs.declared.command.ListForm.TheVariants.{Plain}
use Rattle.bridge_words.specs.declared.command.Receiver.{Receiver}
use Rattle.bridge_words.specs.declared.command.Receiver.TheVariants.{Relp as ToRelp, Lumberjack as ToLumberjack, Hec as ToHec}
use Rattle.bridge_words.specs.declared.command.Relay.{Relay}
use Rattle.bridge_words.specs.declared.command.Server.{Server}
use Rattle.words_faults.specs.declared.fault.WordsFault.{WordsFault}
use Rattle.words_faults.specs.declared.fault.WordsFault.TheVariants as wrong
use Rattle.bridge_words.specs.Grammar.{named, refusals}
use Rattle.bridge_words.specs.Spellings.{SpellsDoors, SpellsFormat, SpellsForward, SpellsList, SpellsLoad, SpellsOption, StandApart}
use Rattle.bridge_words.specs.Spellings.{collector_words, format_words, forward_words, list_words, load_words, plain_server, serve_words, to_receiver}
use Rattle.bridge_words.specs.Tokens.{listed_in, tokens_at}
use Rattle.bridge_words.specs.Values.{ack_token_in, division_in, form_at, form_in, group_in, guid, hec_in, lumberjack_in, number_within, place_at}
use Rattle.bridge_words.specs.Values.{proto_at, relp_in, status_in, talks_in, token_in, value_of, workers_in}
use Rattle.bridge_words.specs.Words.{AreTokens, HasDoor, HasPolls, HasRelayPolls, IsCommand, IsCrew, IsNoCommand, IsServe, relay_by, relay_in}
use Rattle.bridge_words.specs.Wrong.IsWrong.{found}
use Rattle.bridge_words.specs.Wrong.WrongBy.{in_format, in_list, in_load, in_serve}
use Rattle.bridge_words.specs.Wrong.{WrongServe}
use Rattle.bridge_words.proofs.Numbers.{from_least, within}
use Rattle.bridge_words.proofs.Spelled.{refused, rows_of_words}
use Rattle.bridge_words.proofs.Wrongs.{wrong_is_none}

-- what is read of a word that must be right, and of one that may stand
abbrev right_or : {A : Type 0} → WordsFault → Option A → Result A WordsFault
right_or fault value = ok_or value fault

abbrev some_or : {A : Type 0} → WordsFault → Option A → Result (Option A) WordsFault
some_or fault value = ok_or (option_map Some value) fault

-- ---- `format`

pub spells_format : SpellsFormat
unfolding refusals named value_of clap_on_literals
spells_format = record {
  takes = λ s t slots size is size_is. record {
    rows = rows_of_words (format_words s t);
    taken = refl;
    found = refl;
    asks = record {
      slots_is = ap (right_or wrong.Slots) is;
      size_is = ap (right_or wrong.Size) size_is;
      in_range = record {
        some = from_least 1 1024 s slots is;
        few = within 1 1024 s slots is;
        large = from_least 4096 1073741824 t size size_is;
        small = within 4096 1073741824 t size size_is;
      };
    };
  };
  slots = λ s t none. wrong_is_none wrong.Slots (format_words s t)
      (found (codes "format") (rows_of_words (format_words s t)) refl (in_format refl (inl (ap (right_or wrong.Slots) none))));
  size = λ s t none. wrong_is_none wrong.Size (format_words s t)
      (found (codes "format") (rows_of_words (format_words s t)) refl (in_format refl (inr (ap (right_or wrong.Size) none))));
  fewer = λ s. refused _ kind.MissingRequiredArgument [] refl;
  more = λ s t u. refused _ kind.UnknownArgument [] refl;
}

-- ---- `list`

pub spells_list : SpellsList Plain
unfolding refusals named value_of clap_on_literals
spells_list = record {
  plain = record { rows = rows_of_words (codes "list" ∷ []); taken = refl; found = refl; asks = refl };
  takes = λ t form is. record { rows = rows_of_words (list_words t); taken = refl; found = refl; asks = ap (right_or wrong.Form) is };
  form = λ t none. wrong_is_none wrong.Form (list_words t)
      (found (codes "list") (rows_of_words (list_words t)) refl (in_list refl (ap (right_or wrong.Form) none)));
  once = λ t u. refused _ kind.ArgumentConflict [] refl;
  more = λ t. refused _ kind.UnknownArgument [] refl;
}

-- ---- `load`

pub spells_load : SpellsLoad
unfolding refusals named value_of clap_on_literals
spells_load = record {
  takes = λ p n c proto number count proto_is number_is count_is. record {
    rows = rows_of_words (load_words p n c);
    taken = refl;
    found = refl;
    asks = record {
      proto_is = ap (right_or wrong.Proto) proto_is;
      number_is = ap (right_or wrong.Number) number_is;
      count_is = ap (right_or wrong.Count) count_is;
      small = within 0 2147483647 n number number_is;
      few = within 0 100000 c count count_is;
    };
  };
  proto = λ p n c none. wrong_is_none wrong.Proto (load_words p n c)
      (found (codes "load") (rows_of_words (load_words p n c)) refl (in_load refl (inl (ap (right_or wrong.Proto) none))));
  number = λ p n c none. wrong_is_none wrong.Number (load_words p n c)
      (found (codes "load") (rows_of_words (load_words p n c)) refl (in_load refl (inr (inl (ap (right_or wrong.Number) none)))));
  count = λ p n c none. wrong_is_none wrong.Count (load_words p n c)
      (found (codes "load") (rows_of_words (load_words p n c)) refl (in_load refl (inr (inr (ap (right_or wrong.Count) none)))));
  fewer = λ p n. refused _ kind.MissingRequiredArgument [] refl;
  more = λ p n c d. refused _ kind.UnknownArgument [] refl;
}

-- ---- `serve`

asks_server : (server : Server) (rows : List Row) → relp_in rows ≡ Ok server.relp → lumberjack_in rows ≡ Ok server.lumberjack
    → hec_in rows ≡ Ok server.hec → HasDoor server.relp server.lumberjack server.hec → IsCrew server.division server.workers server.talks rows
    → AreTokens server.token server.ack_token server.listed rows → status_in rows ≡ Ok server.status → group_in rows ≡ server.group
    → relay_in rows ≡ Ok server.forward → HasRelayPolls server.forward → IsServe server rows
asks_server server rows relp lumberjack hec door crew tokens status group forward polls = record {
  doors_are = record { relp_is = relp; lumberjack_is = lumberjack; hec_is = hec; some_door = door };
  crew_is = crew;
  tokens_are = tokens;
  status_is = status;
  group_is = group;
  forward_is = forward;
  few_polls = polls;
}

-- four workers for each place, where nothing is said of them
four : (rows : List Row) → division_in rows ≡ Ok Workers → workers_in Workers rows ≡ Ok 4 → talks_in Workers rows ≡ Ok 67108864
    → IsCrew Workers 4 67108864 rows
four rows division workers talks = record {
  division_is = division;
  workers_is = workers;
  talks_is = talks;
  some_worker = omega arith;
  few_workers = omega arith;
  some_talk = omega arith;
  few_talks = omega arith;
}

-- no token
none_given : (rows : List Row) → token_in rows ≡ Ok None → ack_token_in rows ≡ Ok None → listed_in rows ≡ Ok [] → AreTokens None None [] rows
none_given rows token ack_token listed = record { token_is = token; ack_token_is = ack_token; listed_is = listed }

-- words that are found under `serve`, and of which one is wrong
no_server : (w : WordsFault) (words : List Text) (rows : List Row) → named words ≡ Some (codes "serve", rows) → WrongServe w rows → IsNoCommand words
no_server w words rows is h = wrong_is_none w words (found (codes "serve") rows is (in_serve refl h))

-- what is found of the words with one option more
abbrev option_rows : Text → ℕ → Text → Text → List Row
option_rows option x place value = rows_of_words (serve_words x place ((option ++ value) ∷ []))

-- ---- the options of `serve`, one by one

pub spells_lumberjack : SpellsOption (codes "--lumberjack=") place_at (λ place server. record server { lumberjack = Some place })
unfolding refusals named value_of clap_on_literals
spells_lumberjack = record {
  takes = λ x place value a is.
      let rows = option_rows (codes "--lumberjack=") x place value in
      record {
        rows = rows;
        taken = refl;
        found = refl;
        asks = asks_server _ rows refl (ap (some_or wrong.Place) is) refl (inl refl) (four rows refl refl refl) (none_given rows refl refl refl) refl refl refl tt;
      };
  value = λ x place value none.
      no_server wrong.Place (serve_words x place ((codes "--lumberjack=" ++ value) ∷ [])) (option_rows (codes "--lumberjack=") x place value) refl
      (inl (inr (inl (ap (some_or wrong.Place) none))));
  once = λ x place v w. refused _ kind.ArgumentConflict [] refl;
}

pub spells_hec : SpellsOption (codes "--hec=") place_at (λ place server. record server { hec = Some place })
unfolding refusals named value_of clap_on_literals
spells_hec = record {
  takes = λ x place value a is.
      let rows = option_rows (codes "--hec=") x place value in
      record {
        rows = rows;
        taken = refl;
        found = refl;
        asks = asks_server _ rows refl refl (ap (some_or wrong.Place) is) (inl refl) (four rows refl refl refl) (none_given rows refl refl refl) refl refl refl tt;
      };
  value = λ x place value none.
      no_server wrong.Place (serve_words x place ((codes "--hec=" ++ value) ∷ [])) (option_rows (codes "--hec=") x place value) refl
      (inl (inr (inr (inl (ap (some_or wrong.Place) none)))));
  once = λ x place v w. refused _ kind.ArgumentConflict [] refl;
}

pub spells_status : SpellsOption (codes "--status=") place_at (λ place server. record server { status = Some place })
unfolding refusals named value_of clap_on_literals
spells_status = record {
  takes = λ x place value a is.
      let rows = option_rows (codes "--status=") x place value in
      record {
        rows = rows;
        taken = refl;
        found = refl;
        asks = asks_server _ rows refl refl refl (inl refl) (four rows refl refl refl) (none_given rows refl refl refl) (ap (some_or wrong.Place) is) refl refl tt;
      };
  value = λ x place value none.
      no_server wrong.Place (serve_words x place ((codes "--status=" ++ value) ∷ [])) (option_rows (codes "--status=") x place value) refl
      (inr (inr (inr (inr (inr (ap (some_or wrong.Place) none))))));
  once = λ x place v w. refused _ kind.ArgumentConflict [] refl;
}

pub spells_workers : SpellsOption (codes "--workers=") (number_within 1 16) (λ n server. record server { workers = n })
unfolding refusals named value_of clap_on_literals
spells_workers = record {
  takes = λ x place value a is.
      let rows = option_rows (codes "--workers=") x place value in
      record {
        rows = rows;
        taken = refl;
        found = refl;
        asks = asks_server _ rows refl refl refl (inl refl) (record {
          division_is = refl;
          workers_is = ap (right_or wrong.Workers) is;
          talks_is = refl;
          some_worker = from_least 1 16 value a is;
          few_workers = within 1 16 value a is;
          some_talk = omega arith;
          few_talks = omega arith;
        }) (none_given rows refl refl refl) refl refl refl tt;
      };
  value = λ x place value none.
      no_server wrong.Workers (serve_words x place ((codes "--workers=" ++ value) ∷ [])) (option_rows (codes "--workers=") x place value) refl
      (inr (inr (inl (Workers, refl, inl (ap (right_or wrong.Workers) none)))));
  once = λ x place v w. refused _ kind.ArgumentConflict [] refl;
}

pub spells_connections : SpellsOption (codes "--connections=") (number_within 1 1024) (λ n server. record server { division = Connections; workers = n; talks = 1048576 })
unfolding refusals named value_of clap_on_literals
spells_connections = record {
  takes = λ x place value a is.
      let rows = option_rows (codes "--connections=") x place value in
      record {
        rows = rows;
        taken = refl;
        found = refl;
        asks = asks_server _ rows refl refl refl (inl refl) (record {
          division_is = refl;
          workers_is = ap (right_or wrong.Connections) is;
          talks_is = refl;
          some_worker = from_least 1 1024 value a is;
          few_workers = within 1 1024 value a is;
          some_talk = omega arith;
          few_talks = omega arith;
        }) (none_given rows refl refl refl) refl refl refl tt;
      };
  value = λ x place value none.
      no_server wrong.Connections (serve_words x place ((codes "--connections=" ++ value) ∷ [])) (option_rows (codes "--connections=") x place value) refl
      (inr (inr (inl (Connections, refl, inl (ap (right_or wrong.Connections) none)))));
  once = λ x place v w. refused _ kind.ArgumentConflict [] refl;
}

pub spells_talks : SpellsOption (codes "--talks=") (number_within 1 67108864) (λ n server. record server { talks = n })
unfolding refusals named value_of clap_on_literals
spells_talks = record {
  takes = λ x place value a is.
      let rows = option_rows (codes "--talks=") x place value in
      record {
        rows = rows;
        taken = refl;
        found = refl;
        asks = asks_server _ rows refl refl refl (inl refl) (record {
          division_is = refl;
          workers_is = refl;
          talks_is = ap (right_or wrong.Talks) is;
          some_worker = omega arith;
          few_workers = omega arith;
          some_talk = from_least 1 67108864 value a is;
          few_talks = within 1 67108864 value a is;
        }) (none_given rows refl refl refl) refl refl refl tt;
      };
  value = λ x place value none.
      no_server wrong.Talks (serve_words x place ((codes "--talks=" ++ value) ∷ [])) (option_rows (codes "--talks=") x place value) refl
      (inr (inr (inl (Workers, refl, inr (ap (right_or wrong.Talks) none)))));
  once = λ x place v w. refused _ kind.ArgumentConflict [] refl;
}

pub spells_token : SpellsOption (codes "--token=") guid (λ token server. record server { token = Some token })
unfolding refusals named value_of clap_on_literals
spells_token = record {
  takes = λ x place value a is.
      let rows = option_rows (codes "--token=") x place value in
      record {
        rows = rows;
        taken = refl;
        found = refl;
        asks = asks_server _ rows refl refl refl (inl refl) (four rows refl refl refl) (record { token_is = ap (some_or wrong.Token) is; ack_token_is = refl; listed_is = refl }) refl refl refl tt;
      };
  value = λ x place value none.
      no_server wrong.Token (serve_words x place ((codes "--token=" ++ value) ∷ [])) (option_rows (codes "--token=") x place value) refl
      (inr (inr (inr (inl (inl (ap (some_or wrong.Token) none))))));
  once = λ x place v w. refused _ kind.ArgumentConflict [] refl;
}

pub spells_ack_token : SpellsOption (codes "--ack-token=") guid (λ token server. record server { ack_token = Some token })
unfolding refusals named value_of clap_on_literals
spells_ack_token = record {
  takes = λ x place value a is.
      let rows = option_rows (codes "--ack-token=") x place value in
      record {
        rows = rows;
        taken = refl;
        found = refl;
        asks = asks_server _ rows refl refl refl (inl refl) (four rows refl refl refl) (record { token_is = refl; ack_token_is = ap (some_or wrong.AckToken) is; listed_is = refl }) refl refl refl tt;
      };
  value = λ x place value none.
      no_server wrong.AckToken (serve_words x place ((codes "--ack-token=" ++ value) ∷ [])) (option_rows (codes "--ack-token=") x place value) refl
      (inr (inr (inr (inl (inr (inl (ap (some_or wrong.AckToken) none)))))));
  once = λ x place v w. refused _ kind.ArgumentConflict [] refl;
}

pub spells_tokens : SpellsOption (codes "--tokens=") tokens_at (λ listed server. record server { listed = listed })
unfolding refusals named value_of clap_on_literals
spells_tokens = record {
  takes = λ x place value a is.
      let rows = option_rows (codes "--tokens=") x place value in
      record {
        rows = rows;
        taken = refl;
        found = refl;
        asks = asks_server _ rows refl refl refl (inl refl) (four rows refl refl refl) (record { token_is = refl; ack_token_is = refl; listed_is = ap (right_or wrong.Tokens) is }) refl refl refl tt;
      };
  value = λ x place value none.
      no_server wrong.Tokens (serve_words x place ((codes "--tokens=" ++ value) ∷ [])) (option_rows (codes "--tokens=") x place value) refl
      (inr (inr (inr (inl (inr (inr (ap (right_or wrong.Tokens) none)))))));
  once = λ x place v w. refused _ kind.ArgumentConflict [] refl;
}

-- what is said of a receiver where there is none
abbrev token_alone : Option ℕ → Result (Option Relay) WordsFault
token_alone value = relay_by (Ok None) (Ok None) (some_or wrong.OutToken value) (Ok None) (Ok 60)

abbrev channel_alone : Option ℕ → Result (Option Relay) WordsFault
channel_alone value = relay_by (Ok None) (Ok None) (Ok None) (some_or wrong.OutChannel value) (Ok 60)

abbrev polls_alone : Option ℕ → Result (Option Relay) WordsFault
polls_alone value = relay_by (Ok None) (Ok None) (Ok None) (Ok None) (right_or wrong.Polls value)

pub spells_out_token : SpellsOption (codes "--out-token=") guid (λ said server. server)
unfolding refusals named value_of clap_on_literals
spells_out_token = record {
  takes = λ x place value a is.
      let rows = option_rows (codes "--out-token=") x place value in
      record {
        rows = rows;
        taken = refl;
        found = refl;
        asks = asks_server _ rows refl refl refl (inl refl) (four rows refl refl refl) (none_given rows refl refl refl) refl refl
            (ap token_alone is) tt;
      };
  value = λ x place value none.
      no_server wrong.OutToken (serve_words x place ((codes "--out-token=" ++ value) ∷ [])) (option_rows (codes "--out-token=") x place value) refl
      (inr (inr (inr (inr (inl (ap token_alone none))))));
  once = λ x place v w. refused _ kind.ArgumentConflict [] refl;
}

pub spells_out_channel : SpellsOption (codes "--out-channel=") guid (λ said server. server)
unfolding refusals named value_of clap_on_literals
spells_out_channel = record {
  takes = λ x place value a is.
      let rows = option_rows (codes "--out-channel=") x place value in
      record {
        rows = rows;
        taken = refl;
        found = refl;
        asks = asks_server _ rows refl refl refl (inl refl) (four rows refl refl refl) (none_given rows refl refl refl) refl refl
            (ap channel_alone is) tt;
      };
  value = λ x place value none.
      no_server wrong.OutChannel (serve_words x place ((codes "--out-channel=" ++ value) ∷ [])) (option_rows (codes "--out-channel=") x place value) refl
      (inr (inr (inr (inr (inl (ap channel_alone none))))));
  once = λ x place v w. refused _ kind.ArgumentConflict [] refl;
}

pub spells_polls : SpellsOption (codes "--polls=") (number_within 1 1000) (λ said server. server)
unfolding refusals named value_of clap_on_literals
spells_polls = record {
  takes = λ x place value a is.
      let rows = option_rows (codes "--polls=") x place value in
      record {
        rows = rows;
        taken = refl;
        found = refl;
        asks = asks_server _ rows refl refl refl (inl refl) (four rows refl refl refl) (none_given rows refl refl refl) refl refl
            (ap polls_alone is) tt;
      };
  value = λ x place value none.
      no_server wrong.Polls (serve_words x place ((codes "--polls=" ++ value) ∷ [])) (option_rows (codes "--polls=") x place value) refl
      (inr (inr (inr (inr (inl (ap polls_alone none))))));
  once = λ x place v w. refused _ kind.ArgumentConflict [] refl;
}

-- ---- options that don't stand together

pub counts_apart : StandApart (codes "--connections=") (codes "--workers=")
unfolding refusals named value_of clap_on_literals
counts_apart = record {
  first = λ x place v w.
      let words = serve_words x place ((codes "--connections=" ++ v) ∷ (codes "--workers=" ++ w) ∷ []) in
      no_server wrong.BothCounts words (rows_of_words words) refl (inr (inl refl));
  second = λ x place v w.
      let words = serve_words x place ((codes "--workers=" ++ w) ∷ (codes "--connections=" ++ v) ∷ []) in
      no_server wrong.BothCounts words (rows_of_words words) refl (inr (inl refl));
}

pub token_apart : StandApart (codes "--tokens=") (codes "--token=")
unfolding refusals named value_of clap_on_literals
token_apart = record {
  first = λ x place v w.
      let words = serve_words x place ((codes "--tokens=" ++ v) ∷ (codes "--token=" ++ w) ∷ []) in
      no_server wrong.BothTokens words (rows_of_words words) refl (inr (inr (inr (inl (inr (inr refl))))));
  second = λ x place v w.
      let words = serve_words x place ((codes "--token=" ++ w) ∷ (codes "--tokens=" ++ v) ∷ []) in
      no_server wrong.BothTokens words (rows_of_words words) refl (inr (inr (inr (inl (inr (inr refl))))));
}

pub ack_token_apart : StandApart (codes "--tokens=") (codes "--ack-token=")
unfolding refusals named value_of clap_on_literals
ack_token_apart = record {
  first = λ x place v w.
      let words = serve_words x place ((codes "--tokens=" ++ v) ∷ (codes "--ack-token=" ++ w) ∷ []) in
      no_server wrong.BothTokens words (rows_of_words words) refl (inr (inr (inr (inl (inr (inr refl))))));
  second = λ x place v w.
      let words = serve_words x place ((codes "--ack-token=" ++ w) ∷ (codes "--tokens=" ++ v) ∷ []) in
      no_server wrong.BothTokens words (rows_of_words words) refl (inr (inr (inr (inl (inr (inr refl))))));
}

-- ---- a receiver

-- the server of words that say where to forward to
asks_forward : (receiver : Receiver) (x : ℕ) (place : Text) (y : ℕ) (to : Text) (rows : List Row) → relp_in rows ≡ Ok (Some (x ∷ place))
    → lumberjack_in rows ≡ Ok None → hec_in rows ≡ Ok None → IsCrew Workers 4 67108864 rows → AreTokens None None [] rows → status_in rows ≡ Ok None
    → group_in rows ≡ false → relay_in rows ≡ Ok (Some (record { receiver = receiver; place = y ∷ to })) → HasPolls receiver
    → IsServe (to_receiver receiver y to (plain_server x place)) rows
asks_forward receiver x place y to rows relp lumberjack hec crew tokens status group forward polls =
    asks_server (to_receiver receiver y to (plain_server x place)) rows relp lumberjack hec (inl refl) crew tokens status group forward polls

abbrev plain_forward : Text → ℕ → Text → ℕ → Text → List Text
plain_forward proto x place y to = serve_words x place (forward_words proto y to [])

to_relp : (x : ℕ) (place : Text) (y : ℕ) (to : Text)
    → IsCommand (Serve (to_receiver ToRelp y to (plain_server x place))) (plain_forward (codes "relp") x place y to)
unfolding refusals named value_of clap_on_literals
to_relp x place y to =
    let rows = rows_of_words (plain_forward (codes "relp") x place y to) in
    record {
      rows = rows;
      taken = refl;
      found = refl;
      asks = asks_forward ToRelp x place y to rows refl refl refl (four rows refl refl refl) (none_given rows refl refl refl) refl refl refl tt;
    }

to_lumberjack : (x : ℕ) (place : Text) (y : ℕ) (to : Text)
    → IsCommand (Serve (to_receiver ToLumberjack y to (plain_server x place))) (plain_forward (codes "lumberjack") x place y to)
unfolding refusals named value_of clap_on_literals
to_lumberjack x place y to =
    let rows = rows_of_words (plain_forward (codes "lumberjack") x place y to) in
    record {
      rows = rows;
      taken = refl;
      found = refl;
      asks =
          asks_forward ToLumberjack x place y to rows refl refl refl (four rows refl refl refl) (none_given rows refl refl refl) refl refl refl tt;
    }

-- what the words of a collector say together, by what its token, its channel and its polls are read as
abbrev collector_at : ℕ → Text → Result (Option ℕ) WordsFault → Result (Option ℕ) WordsFault → Result ℕ WordsFault → Result (Option Relay) WordsFault
collector_at y to token channel polls = relay_by (Ok (Some Hec)) (Ok (Some (y ∷ to))) token channel polls

abbrev hec_forward : ℕ → Text → ℕ → Text → List Text → List Text
hec_forward x place y to more = serve_words x place (forward_words (codes "hec") y to more)

to_collector : (x : ℕ) (place : Text) (y : ℕ) (to t c : Text) (token channel : ℕ) → guid t ≡ Some token → guid c ≡ Some channel
    → IsCommand (Serve (to_receiver (ToHec token channel 60) y to (plain_server x place))) (hec_forward x place y to (collector_words t c []))
unfolding refusals named value_of clap_on_literals
to_collector x place y to t c token channel is channel_is =
    let rows = rows_of_words (hec_forward x place y to (collector_words t c [])) in
    record {
      rows = rows;
      taken = refl;
      found = refl;
      asks =
          asks_forward (ToHec token channel 60) x place y to rows refl refl refl (four rows refl refl refl) (none_given rows refl refl refl)
          refl refl
          (λ i. collector_at y to (some_or wrong.OutToken (is i)) (some_or wrong.OutChannel (channel_is i)) (Ok 60))
          (omega arith, omega arith);
    }

to_polled : (x : ℕ) (place : Text) (y : ℕ) (to t c n : Text) (token channel polls : ℕ) → guid t ≡ Some token → guid c ≡ Some channel
    → number_within 1 1000 n ≡ Some polls → IsCommand (Serve (to_receiver (ToHec token channel polls) y to (plain_server x place)))
    (hec_forward x place y to (collector_words t c ((codes "--polls=" ++ n) ∷ [])))
unfolding refusals named value_of clap_on_literals
to_polled x place y to t c n token channel polls is channel_is polls_is =
    let rows = rows_of_words (hec_forward x place y to (collector_words t c ((codes "--polls=" ++ n) ∷ []))) in
    record {
      rows = rows;
      taken = refl;
      found = refl;
      asks =
          asks_forward (ToHec token channel polls) x place y to rows refl refl refl (four rows refl refl refl) (none_given rows refl refl refl)
          refl refl
          (λ i. collector_at y to (some_or wrong.OutToken (is i)) (some_or wrong.OutChannel (channel_is i)) (right_or wrong.Polls (polls_is i)))
          (from_least 1 1000 n polls polls_is, within 1 1000 n polls polls_is);
    }

-- the words of a receiver are wrong
no_relay : (w : WordsFault) (words : List Text) (rows : List Row) → named words ≡ Some (codes "serve", rows) → relay_in rows ≡ Err w → IsNoCommand words
no_relay w words rows is h = no_server w words rows is (inr (inr (inr (inr (inl h)))))

without_token : (x : ℕ) (place : Text) (y : ℕ) (to c : Text) (channel : Option ℕ) → guid c ≡ channel
    → IsNoCommand (hec_forward x place y to ((codes "--out-channel=" ++ c) ∷ []))
unfolding refusals named value_of clap_on_literals
without_token x place y to c None is =
    no_relay wrong.OutChannel (hec_forward x place y to ((codes "--out-channel=" ++ c) ∷ [])) _ refl
    (ap (λ (o : Option ℕ). collector_at y to (Ok None) (some_or wrong.OutChannel o) (Ok 60)) is)
without_token x place y to c (Some channel) is =
    no_relay wrong.NoOutToken (hec_forward x place y to ((codes "--out-channel=" ++ c) ∷ [])) _ refl
    (ap (λ (o : Option ℕ). collector_at y to (Ok None) (some_or wrong.OutChannel o) (Ok 60)) is)

without_channel : (x : ℕ) (place : Text) (y : ℕ) (to t : Text) (token : Option ℕ) → guid t ≡ token
    → IsNoCommand (hec_forward x place y to ((codes "--out-token=" ++ t) ∷ []))
unfolding refusals named value_of clap_on_literals
without_channel x place y to t None is =
    no_relay wrong.OutToken (hec_forward x place y to ((codes "--out-token=" ++ t) ∷ [])) _ refl
    (ap (λ (o : Option ℕ). collector_at y to (some_or wrong.OutToken o) (Ok None) (Ok 60)) is)
without_channel x place y to t (Some token) is =
    no_relay wrong.NoOutChannel (hec_forward x place y to ((codes "--out-token=" ++ t) ∷ [])) _ refl
    (ap (λ (o : Option ℕ). collector_at y to (some_or wrong.OutToken o) (Ok None) (Ok 60)) is)

of_no_proto : (x : ℕ) (place p : Text) (y : ℕ) (to : Text) → proto_at p ≡ None → IsNoCommand (plain_forward p x place y to)
unfolding refusals named value_of clap_on_literals
of_no_proto x place p y to none =
    no_relay wrong.Proto (plain_forward p x place y to) _ refl
    (ap (λ (o : Option Proto). relay_by (some_or wrong.Proto o) (Ok (Some (y ∷ to))) (Ok None) (Ok None) (Ok 60)) none)

without_to : (x : ℕ) (place p : Text) (proto : Option Proto) → proto_at p ≡ proto
    → IsNoCommand (serve_words x place ((codes "--forward=" ++ p) ∷ []))
unfolding refusals named value_of clap_on_literals
without_to x place p None is =
    no_relay wrong.Proto (serve_words x place ((codes "--forward=" ++ p) ∷ [])) _ refl
    (ap (λ (o : Option Proto). relay_by (some_or wrong.Proto o) (Ok None) (Ok None) (Ok None) (Ok 60)) is)
without_to x place p (Some proto) is =
    no_relay wrong.NoTo (serve_words x place ((codes "--forward=" ++ p) ∷ [])) _ refl
    (ap (λ (o : Option Proto). relay_by (some_or wrong.Proto o) (Ok None) (Ok None) (Ok None) (Ok 60)) is)

without_forward : (x : ℕ) (place to : Text) → IsNoCommand (serve_words x place ((codes "--to=" ++ to) ∷ []))
unfolding refusals named value_of clap_on_literals
without_forward x place [] = no_relay wrong.Place (serve_words x place ((codes "--to=" ++ []) ∷ [])) _ refl refl
without_forward x place (y ∷ to) = no_relay wrong.NoForward (serve_words x place ((codes "--to=" ++ y ∷ to) ∷ [])) _ refl refl

pub spells_forward : SpellsForward
spells_forward = record {
  relp = to_relp;
  lumberjack = to_lumberjack;
  hec = to_collector;
  polls = to_polled;
  no_token = λ x place y to c. without_token x place y to c (guid c) refl;
  no_channel = λ x place y to t. without_channel x place y to t (guid t) refl;
  proto = of_no_proto;
  no_to = λ x place p. without_to x place p (proto_at p) refl;
  no_forward = without_forward;
}

-- ---- the places at which connections come in

pub spells_doors : SpellsDoors
unfolding refusals named value_of clap_on_literals
spells_doors = record {
  relp = λ x place.
      let rows = rows_of_words (serve_words x place []) in
      record {
        rows = rows;
        taken = refl;
        found = refl;
        asks = asks_server _ rows refl refl refl (inl refl) (four rows refl refl refl) (none_given rows refl refl refl) refl refl refl tt;
      };
  lumberjack = λ x place.
      let rows = rows_of_words (codes "serve" ∷ (codes "--lumberjack=" ++ x ∷ place) ∷ []) in
      record {
        rows = rows;
        taken = refl;
        found = refl;
        asks = asks_server _ rows refl refl refl (inr (inl refl)) (four rows refl refl refl) (none_given rows refl refl refl) refl refl refl tt;
      };
  hec = λ x place.
      let rows = rows_of_words (codes "serve" ∷ (codes "--hec=" ++ x ∷ place) ∷ []) in
      record {
        rows = rows;
        taken = refl;
        found = refl;
        asks = asks_server _ rows refl refl refl (inr (inr refl)) (four rows refl refl refl) (none_given rows refl refl refl) refl refl refl tt;
      };
  none = no_server wrong.NoDoor (codes "serve" ∷ []) (rows_of_words (codes "serve" ∷ [])) refl
      (inl (inr (inr (inr (record { relp_is = refl; lumberjack_is = refl; hec_is = refl; says = refl })))));
  status_alone = λ place.
      let words = codes "serve" ∷ (codes "--status=" ++ place) ∷ [] in
      no_server wrong.NoDoor words (rows_of_words words) refl
      (inl (inr (inr (inr (record { relp_is = refl; lumberjack_is = refl; hec_is = refl; says = refl })))));
  more = λ x place t. refused _ kind.UnknownArgument [] refl;
}
