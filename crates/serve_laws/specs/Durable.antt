-- What the sender of a link may rely on once it has read an acknowledgment, where many callers share the desk.
use Rattle.std.specs.Prelude.{ℕ, List}
use Rattle.edge_io.specs.Door.{Talked}
use Rattle.edge_disk.specs.Disk.{Moment}
use Rattle.desk_access.specs.Call.{Record}
use Rattle.conn_serve.specs.declared.rules.Rules.{Rules}
use Rattle.conn_serve.specs.Acked.{Acknowledges}
use Rattle.conn_serve.specs.Durable.{AckedIsDurable, AnswersAreDurable, IsToldDurably}
use Rattle.conn_serve.specs.Terms.{terms_of}
use Rattle.serve_workers.specs.Served.{Served, IsServed, Tells}

-- The caller of that number served the link by the rules, and whatever the link's text acknowledges is durable: by numbers in whole
-- frames, or by replies.
pub record IsLinkDurable (log : List Record) (number : ℕ) (now : Moment) (rules : Rules) (one : Served) : Type 0 where
  pub served : IsServed rules one
  pub acked : (numbers : List ℕ) → Acknowledges rules.proto one.text numbers → AckedIsDurable rules.proto one.calls now numbers
  pub answers : (served : IsServed rules one)
      → AnswersAreDurable rules.proto (terms_of rules) one.conn one.left one.bytes one.calls one.text one.talk served now
      (IsToldDurably log number now)

-- So it is of a connection that a door reports, by what was written to it.
pub record IsTalkDurable (log : List Record) (number : ℕ) (now : Moment) (rules : Rules) (told : Talked) : Type 0 where
  pub one : Served
  pub tells : Tells rules one told
  pub link : IsLinkDurable log number now rules one
  pub acked : (numbers : List ℕ) → Acknowledges rules.proto told.written numbers → AckedIsDurable rules.proto one.calls now numbers
