use Rattle.std.proofs.Common.{◌≡◌, Some, sym, ◌∙◌, ap, refl, inl, inr}
use Rattle.std.specs.List.{find}
use Rattle.edge_io.specs.MemScript.{is_for}
use Rattle.edge_io.specs.MemNet.{script_at}
use Rattle.edge_io.proofs.mem_net.MemNetNet.dial.Goals as goal

pub returns-clause-exact : goal.returns-clause-exact
returns-clause-exact c =
    let found : script_at c.args.place.now c.args.self.now ≡ Some c.in-Some.script.now = ap (find (is_for c.args.place.now)) (sym c.deref.ensures.value) ∙ sym c.in-Some.ensures in record {
      fails = (λ e. cc, λ h. elim h [ inl f ↦ (let t = c.if-next_fails.ensures.fails.1 f in cc) | inr none ↦ cc ]);
      gives = (c.in-Some.script.now, found, c.in_ok-link.ensures);
      counts = refl;
      advances = c.next_fails.ensures.advances;
      places = refl;
      scripts = refl;
    }
