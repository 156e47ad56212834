use Rattle.std.proofs.Common.{◌≡◌, ◌≤◌, ◌∙◌, inl, inr, length, map, refl, sym, ap, subst, arith}
use Rattle.std.proofs.lemmas.List.{length-map}
use Rattle.edge_disk.specs.Calls.{Calls}
use Rattle.desk_access.proofs.Dividing.{callers_few}
use Rattle.conn_serve.proofs.Faults.{counts_none}
use Rattle.notes.specs.declared.note.Note.{Note}
use Rattle.bridge_parts.specs.Counted.{DiskRoseBy}
use Rattle.bridge_parts.specs.Run.{output_run}
use Rattle.bridge_serve.specs.Opened.{IsOpenedOnly}
use Rattle.bridge_serve.proofs.Ran.{known, disk_rose, read_rose, dials, writes_rose, ran_at, handed_on}
use Rattle.bridge_serve.proofs.serving.serve_posts.Goals as goal
use Rattle.desk_access.specs.Division.{callers_of}

pub finish-requires-clause-few : goal.finish-requires-clause-few
finish-requires-clause-few g c = omega (arith, c.in-Ok.ensures.many.1, c.requires.few, callers_few c.args.division)

pub returns-in-Ok-clause-known : goal.returns-in-Ok-clause-known
returns-in-Ok-clause-known g c = known _ _ _ _ _ c.in-Ok.ensures.over _ c.finish.ensures.note

pub returns-in-Ok-clause-calls : goal.returns-in-Ok-clause-calls
returns-in-Ok-clause-calls g c =
    subst (λ (d : _). DiskRoseBy (c.finish.result.note ≡ _) (g.D.Disk.moment c.args.before.value) (g.D.Disk.moment d)) (sym c.finish.ensures.disk)
    (disk_rose _ _ _ _ _ c.in-Ok.ensures.over _ c.finish.ensures.note)

pub returns-in-Ok-clause-reads : goal.returns-in-Ok-clause-reads
returns-in-Ok-clause-reads g c = read_rose _ _ _ _ _ c.in-Ok.ensures.over _ c.finish.ensures.note

pub returns-in-Ok-clause-writes : goal.returns-in-Ok-clause-writes
returns-in-Ok-clause-writes g c = writes_rose _ _ _ _ _ c.in-Ok.ensures.over _ c.finish.ensures.note _ _ c.finish.ensures.writes

pub returns-in-Ok-clause-dials : goal.returns-in-Ok-clause-dials
returns-in-Ok-clause-dials g c = dials _ _ _ _ _ c.in-Ok.ensures.over _ c.finish.ensures.note

pub returns-in-Ok-clause-ran : goal.returns-in-Ok-clause-ran
returns-in-Ok-clause-ran g c =
    let posts = c.args.posts.posts in
    let served = c.in-Ok.served in
    let many = c.in-Ok.ensures.many in
    let rules : length (map (λ (post : _). post.rules) posts.items) ≡ length served.reports.items =
    omega (arith, length-map posts.items (λ (post : _). post.rules), many.1, posts.ok.0, served.reports.ok.0) in
    let doors : length (map (λ (post : _). g.N.P.Door.told post.door) posts.items) ≡ length served.reports.items =
    omega (arith, length-map posts.items (λ (post : _). g.N.P.Door.told post.door), many.1, posts.ok.0, served.reports.ok.0) in
    let doors' : length (map (λ (door : _). g.N.P.Door.told door) served.doors.items) ≡ length served.reports.items =
    omega (arith, length-map served.doors.items (λ (door : _). g.N.P.Door.told door), many.0, many.1, served.doors.ok.0, served.reports.ok.0) in
    let few : length (map (λ (post : _). post.rules) posts.items) ≤ callers_of c.args.division =
    omega (arith, length-map posts.items (λ (post : _). post.rules), posts.ok.0, c.requires.few) in
    let over = rw c.as_ref.ensures.value at c.in-Ok.ensures.over in
    let output = output_run g.K.Sink.taken g.K.Sink.write_faults c.args.output.now c.finish.new.output in
    let ran = ran_at _ _ _ _ _ over _ c.finish.ensures.note _ c.of-opening.result.end c.of-opening.result.left output
    c.requires.opened c.of-opening.ensures.end c.of-opening.ensures.left rules doors doors' few c.requires.talks c.finish.ensures.printed in
    inr (handed_on g.D.Disk g.N.P.Door.told c.args.before.value c.finish.result served.desk.spool.disk served.doors _ _ output _ _ c.finish.ensures.disk c.finish.ensures.doors ran)

pub returns-clause-ran : goal.returns-clause-ran
returns-clause-ran g c =
    let err = c.in-Err.ensures.err in
    let told = ap (λ (n : _). g.N.Net.told n) err.1 in
    let disk = c.into_disk.ensures in
    inl (
      record {
        why = inl refl;
        opened = λ tells. subst (λ (d : _). IsOpenedOnly (g.D.Disk.moment c.args.before.value) (g.D.Disk.moment d)) (sym disk) (err.3 tells);
        calls = subst (λ (d : _). Calls ⊥ (g.D.Disk.moment c.args.before.value) (g.D.Disk.moment d)) (sym disk) err.2;
        hung = record {
          hung = ap (λ (n : _). n.hung) told;
          read_faults = ap (λ (n : _). n.read_faults) told;
          write_faults = ap (λ (n : _). n.write_faults) told;
        };
        binds = counts_none (Note.NoMemory ≡ Note.NetFault) _ _ (λ by. cc by) (ap (λ (n : _). n.net_faults) told);
        silent = refl;
      },
      err.1,
      c.into_doors.ensures ∙ ap (λ (l : _). map (λ (post : _). post.door) l.items) err.0,
    )
