use Rattle.std.proofs.Common.{◌≡◌, length, ap, arith, rules}
use Rattle.std.proofs.lemmas.List.{length-map}
use Rattle.shred_run.proofs.Groups.{room-grown}
use Rattle.shred_run.proofs.entry.Group.push.Goals as goal

pub returns-clause-room : goal.returns-clause-room
returns-clause-room g c = room-grown c.args.self.now _ c.args.entry (search rules) (search rules) (search rules) c.requires.room

pub push-requires : goal.push-requires
push-requires g c =
    let long : length c.args.self.now.ids.items ≡ length c.args.self.now.entries.items = simp length-map at (ap length c.requires.ids) in
    let few = c.requires.few in (omega arith, omega arith)
