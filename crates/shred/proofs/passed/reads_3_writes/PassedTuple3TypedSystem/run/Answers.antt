use Rattle.std.proofs.Common.{[], ◌∷◌, refl}
use Rattle.shred_table.specs.Id.{id_of}
use Rattle.shred.specs.Passed.{named}
use Rattle.shred.proofs.Changed.{passed, unread}
use Rattle.shred.proofs.passed.reads_3_writes.PassedTuple3TypedSystem.run.Goals as goal

pub returns-in_err-first : goal.returns-in_err-first
returns-in_err-first g c =
    let W = g.W.ResourceTypes in
    unread g.V.ResourceValue.kind_of (id_of g.A.Resource.KIND 0 ∷ id_of g.B.Resource.KIND 0 ∷ id_of g.C.Resource.KIND 0 ∷ []) W.ids (λ read. named g.A.Resource.KIND g.A.Resource.wrapped read.0 ∷ named g.B.Resource.KIND g.B.Resource.wrapped read.1 ∷ named g.C.Resource.KIND g.C.Resource.wrapped read.2 ∷ []) (λ read. refl) W.moved g.met.W.ResourceTypes.same_ids
    g.E.From.from_gives g.T.TryReads3Writes.step c.args.view.now c.requires.declared c.requires.out c.args.self.now c.args.written.now
    c.in_err-first.field-0.0 c.from_residual.result c.in_err-first.ensures.refused c.from_residual.ensures

pub returns : goal.returns
returns g c =
    let W = g.W.ResourceTypes in
    passed g.V.ResourceValue.kind_of (id_of g.A.Resource.KIND 0 ∷ id_of g.B.Resource.KIND 0 ∷ id_of g.C.Resource.KIND 0 ∷ []) W.ids (λ read. named g.A.Resource.KIND g.A.Resource.wrapped read.0 ∷ named g.B.Resource.KIND g.B.Resource.wrapped read.1 ∷ named g.C.Resource.KIND g.C.Resource.wrapped read.2 ∷ []) (λ read. refl) W.moved g.met.W.ResourceTypes.same_ids
    g.E.From.from_gives g.T.TryReads3Writes.step c.args.view.now c.requires.declared c.requires.out c.args.self.now c.args.written.now
    (c.in_ok-first.first.now, c.in_ok-first.second.now, c.in_ok-first.third.now) c.run.result c.answered.result (record c.args.self.now { system = c.run.new.self }) c.run.new.written c.in_ok-first.ensures.refused c.in_ok-first.ensures.shown c.answered.ensures c.run.ensures
