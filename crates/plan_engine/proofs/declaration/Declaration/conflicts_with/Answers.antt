use Rattle.std.proofs.Common.{inl, inr}
use Rattle.plan_engine.proofs.Declaring.{conflict-first, conflict-second, conflict-sides}
use Rattle.plan_engine.specs.Entries.{access_of}
use Rattle.plan_engine.proofs.declaration.Declaration.conflicts_with.Goals as goal

pub returns-then-writes_of : goal.returns-then-writes_of
returns-then-writes_of c =
    (λ writes. conflict-first (access_of c.args.self.now) (access_of c.args.other.now) (c.writes_of.ensures.0 writes), λ conflict. c.if-writes_of.true)

pub returns-else-writes_of : goal.returns-else-writes_of
returns-else-writes_of c = (
  λ writes. conflict-second (access_of c.args.self.now) (access_of c.args.other.now) (c.writes_of-else-writes_of.ensures.0 writes),
  λ conflict. elim (conflict-sides (access_of c.args.self.now) (access_of c.args.other.now) conflict) [
    | inl writes ↦ (let yes = c.writes_of.ensures.1 writes in let no = c.if-writes_of.false in cc)
    | inr writes ↦ c.writes_of-else-writes_of.ensures.1 writes
  ],
)
