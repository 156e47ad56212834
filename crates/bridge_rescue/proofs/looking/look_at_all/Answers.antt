use Rattle.std.proofs.Common.{ℕ, List, inl, inr, subst, arith}
use Rattle.edge_disk.proofs.Calls.{calls_none, calls_then, calls_as}
use Rattle.edge_disk.proofs.Moments.{untouched_refl, untouched_then}
use Rattle.bridge_rescue.specs.Faults.{HasUnread}
use Rattle.bridge_rescue.specs.Looking.{IsUnreadSeen, IsReadable, IsSeen, KnowsAll}
use Rattle.bridge_rescue.proofs.Judging.{unread_some, knows_none}
use Rattle.bridge_rescue.proofs.looking.look_at_all.Goals as goal

pub loop-place-init : goal.loop-place-init
loop-place-init g c =
    let looked = c.args.looked.now in
    let m = g.D.Disk.moment c.args.disk.now in
    record {
      room = c.requires.room;
      calls = calls_as ⊥ (HasUnread looked.faults.items) m m (calls_none m) (λ has. unread_some looked.faults.items has c.requires.room.few_faults) (λ never. absurd never);
      told = λ tells. untouched_refl m;
      readable = λ k d lt. absurd (omega (arith, lt, c.requires.room.few_found));
      known = λ tells. knows_none c.args.layout.size m.reads looked c.requires.room.few_found c.requires.room.few_faults c.requires.room.few_sound;
    }

pub loop-place-preserved : goal.loop-place-preserved
loop-place-preserved g c =
    let inv = c.loop-place.invariant in
    let seen = c.look-seen.result in
    let look = c.look-seen.ensures in
    let add = c.add.ensures in
    let place = c.loop-place.place in
    record {
      room = add.room c.args.layout.slots place inv.room;
      calls = calls_then (HasUnread c.loop-place.looked.faults.items) (IsUnreadSeen seen) (HasUnread c.add.new.self.faults.items) _ _ _ inv.calls look.calls add.unread.0
          (λ none. ((λ before. none (add.unread.1 (inl before))), λ here. none (add.unread.1 (inr here))));
      told = λ tells. untouched_then _ _ _ (g.met.D.Disk.lawful c.args.disk.now tells) (inv.told tells) (look.told tells);
      readable = add.readable _ inv.readable (subst (λ (n : ℕ). IsReadable n seen) inv.calls.size look.readable);
      known = λ tells. add.known c.args.layout.size place _ (inv.known tells) (subst (λ (l : List ℕ). IsSeen c.args.layout.size place l seen) (inv.told tells).same (look.seen tells));
    }

pub returns-clause-known : goal.returns-clause-known
returns-clause-known g c = λ tells.
    subst (λ (n : ℕ). KnowsAll n c.args.layout.size (g.D.Disk.moment c.args.disk.now).reads c.loop-place.looked) (omega (arith, c.loop-place-test.false, c.loop-place.auto.place-end)) (c.loop-place.invariant.known tells)
