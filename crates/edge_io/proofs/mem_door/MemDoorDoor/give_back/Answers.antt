use Rattle.std.proofs.Common.{◌≡◌, ◌∙◌, refl, sym, ap, length, Some}
use Rattle.edge_io.specs.MemLink.{source_of}
use Rattle.edge_io.specs.MemSource.{left_of}
use Rattle.edge_io.proofs.Telling.{talks_added}
use Rattle.edge_io.proofs.mem_door.MemDoorDoor.give_back.Goals as goal

pub returns-clause-adds : goal.returns-clause-adds
returns-clause-adds c =
    let used = c.used-used.result in
    let is = c.used-used.ensures in (
      record { proto = c.args.proto; conn = c.args.conn; read = used.read.items; written = used.written.items; status = c.args.status; left = used.left },
      record {
        proto_is = refl;
        conn_is = refl;
        status_is = refl;
        read = sym is.read;
        written = sym is.written;
        left_is = λ rest told. (let same : left_of (source_of c.args.link) ≡ rest = cc in is.left ∙ ap length same);
      },
      ap Some (talks_added c.args.self.now.talks.items c.push.new.self.items _ c.in_ok-push.ensures.items),
    )
