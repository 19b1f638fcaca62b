use Rattle.std.proofs.Common.{[], refl}
use Rattle.shred.proofs.Changed.{passed}
use Rattle.shred.proofs.passed.writes.PassedUnitTypedSystem.run.Goals as goal

pub returns : goal.returns
returns g c =
    let W = g.W.ResourceTypes in
    passed g.V.ResourceValue.kind_of ([]) W.ids (λ none. []) (λ read. refl) W.moved g.met.W.ResourceTypes.same_ids
    g.E.From.from_gives (λ before none. g.T.TryWrites.step before) c.args._view.now c.requires.declared c.requires.out c.args.self.now c.args.written.now
    (record {}) c.run.result c.answered.result (record c.args.self.now { system = c.run.new.self }) c.run.new.written refl (record {}) c.answered.ensures c.run.ensures
