-- What a text acknowledges that a connection may write.
use Rattle.std.proofs.Common.{◌≡◌, ◌∙◌, List, [], ◌∷◌, ◌++◌, sym, ap, subst}
use Rattle.std.specs.List.{Contains}
use Rattle.desk_access.specs.Call.{Call, asks}
use Rattle.desk_access.specs.Groups.{Group}
use Rattle.conn_serve.specs.Sayable.{SayableIsTaken, SayableGroupIsTaken, SayableIdIsTaken, SayableIsSettled, SayableIsOfConn}
use Rattle.conn_serve.proofs.Acknowledged.{acked_is_taken}
use Rattle.conn_serve.proofs.HecAcks.{said_lies_whole, acknowledged_is_taken, settled_is_stored, settle_first, told_among}
use Rattle.conn_serve.proofs.Indexing.{calls_are_of_conn, of_first}
use Rattle.conn_serve.proofs.Late.{groups_late, acked_late, asks_late}

pub sayable_is_taken : SayableIsTaken
sayable_is_taken proto terms conn b calls text has numbers says =
    let all = acked_is_taken proto terms conn has.left b (calls ++ has.late) text has.talk has.carried numbers says in
    record { groups = all.groups; more = all.more; taken = sym (acked_late proto calls has.late has.nothing) ∙ all.taken; some = all.some; own = all.own }

pub sayable_group_is_taken : SayableGroupIsTaken
sayable_group_is_taken tokens conn b calls text has group says =
    subst (λ (l : List Group). Contains l group) (groups_late calls has.late has.nothing)
    (acknowledged_is_taken tokens conn has.left b (calls ++ has.late) text has.talk has.carried group says)

pub sayable_is_settled : SayableIsSettled
sayable_is_settled tokens conn b calls text has = settle_first [] calls has.late (settled_is_stored tokens conn has.left b (calls ++ has.late) text has.talk has.carried)

pub sayable_id_is_taken : SayableIdIsTaken
sayable_id_is_taken tokens conn b calls text has x z number records none goes by channel id (made, said, is_said, (ids, known, closing, k, asked, answered, short, is_id, told)) =
    let w = said_lies_whole tokens conn has.left b (calls ++ has.late) text has.talk has.carried made said is_said in
    let parts : calls ++ has.late ≡ w.first ++ asks channel ids known ∷ w.more = w.calls_are ∙ ap (λ (l : List Call). w.first ++ (l ++ w.more)) asked in
    let before = asks_late calls has.late w.first w.more channel ids known has.nothing parts in
    told_among calls (sayable_is_settled tokens conn b calls text has) x z number records none goes by w.first before.0 channel id ids known k before.1 short is_id told

pub sayable_is_of_conn : SayableIsOfConn
sayable_is_of_conn proto terms conn b calls text has =
    of_first conn 0 calls has.late (calls_are_of_conn proto terms conn has.left b (calls ++ has.late) text has.talk has.carried)
