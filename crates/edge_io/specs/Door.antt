-- What a door tells, and what its calls do to that.
use Rattle.std.specs.Prelude.{◌≡◌, ℕ, ◌+◌, List, [], Option, Some, None, Result, Ok, Err, length}
use Rattle.edge_io.specs.Told.{IsToldAs, IsOneMore}
use Rattle.edge_io.specs.declared.proto.Proto.{Proto}
use Rattle.edge_io.specs.declared.door.AcceptFault.{AcceptFault}

-- A connection that was served and given back: its protocol and its number, the bytes read from it and written to it,
-- the status of its ending, and how many bytes were left unread.
pub record Talked : Type 0 where
  pub proto : Proto
  pub conn : ℕ
  pub read : List ℕ
  pub written : List ℕ
  pub status : ℕ
  pub left : ℕ

-- What a door tells: the place at which it was bound, how many links wait and how many were accepted, and the connections
-- that were given back. Its counts of faults are of its accepts, and of the reads and the writes of the links given back.
pub record DoorState : Type 0 where
  pub place : Option (List ℕ)
  pub waiting : Option ℕ
  pub accepted : Option ℕ
  pub talks : Option (List Talked)
  pub accept_faults : ℕ
  pub read_faults : ℕ
  pub write_faults : ℕ

-- a link that waited was accepted
pub record TakesLink (old new : DoorState) : Type 0 where
  pub waiting : IsOneMore new.waiting old.waiting
  pub accepted : IsOneMore old.accepted new.accepted

-- none was
pub record SameLinks (old new : DoorState) : Type 0 where
  pub waiting : new.waiting ≡ old.waiting
  pub accepted : new.accepted ≡ old.accepted

-- what an accept leaves
pub record SameTalks (old new : DoorState) : Type 0 where
  pub place : new.place ≡ old.place
  pub talks : new.talks ≡ old.talks
  pub read_faults : new.read_faults ≡ old.read_faults
  pub write_faults : new.write_faults ≡ old.write_faults

-- what a link that is given back leaves
pub record SameDoor (old new : DoorState) : Type 0 where
  pub place : new.place ≡ old.place
  pub links : SameLinks old new
  pub accept_faults : new.accept_faults ≡ old.accept_faults

-- what is told of a link that is given back, by the bytes that it gave, took and has left, where it tells them
pub record IsTalk (proto : Proto) (conn status : ℕ) (given taken left : Option (List ℕ)) (one : Talked) : Type 0 where
  pub proto_is : one.proto ≡ proto
  pub conn_is : one.conn ≡ conn
  pub status_is : one.status ≡ status
  pub read : IsToldAs given one.read
  pub written : IsToldAs taken one.written
  pub left_is : (rest : List ℕ) → left ≡ Some rest → one.left ≡ length rest

-- a door that was just bound at that place: no link was accepted, and none given back, where it tells that
pub record IsNewDoor (at : List ℕ) (door : DoorState) : Type 0 where
  pub place : IsToldAs door.place at
  pub accepted : IsToldAs door.accepted 0
  pub talks : IsToldAs door.talks []

-- What may be written to the links to come stays so over an accept: the one that came after `k + 1` links comes after `k` once a link
-- was given.
abbrev pub StaysPermitted : {L : Type 0} → Result (Option L) AcceptFault → (ℕ → List ℕ → List ℕ → Type 0) → (ℕ → List ℕ → List ℕ → Type 0) → Type 0
StaysPermitted (Ok (Some link)) old new = (k : ℕ) (read text : List ℕ) → old (k + 1) read text → new k read text
StaysPermitted (Ok None) old new = (k : ℕ) (read text : List ℕ) → old k read text → new k read text
StaysPermitted (Err fault) old new = (k : ℕ) (read text : List ℕ) → old k read text → new k read text
