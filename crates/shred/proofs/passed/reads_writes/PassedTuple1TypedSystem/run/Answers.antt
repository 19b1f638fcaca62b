use Rattle.std.proofs.Common.{Option, None, [], ◌∷◌, refl, ap}
use Rattle.shred_table.specs.Id.{id_of}
use Rattle.shred.specs.Passed.{named, or_else}
use Rattle.shred_world.specs.declared.world.view.DataError.{DataError}
use Rattle.shred.proofs.Changed.{passed, unread}
use Rattle.shred.proofs.passed.reads_writes.PassedTuple1TypedSystem.run.Goals as goal

pub returns-in_err-read : goal.returns-in_err-read
returns-in_err-read g c =
    let W = g.W.ResourceTypes in
    unread g.V.ResourceValue.kind_of (id_of g.R.Resource.KIND 0 ∷ []) W.ids (λ read. named g.R.Resource.KIND g.R.Resource.wrapped read ∷ []) (λ read. refl) W.moved g.met.W.ResourceTypes.same_ids
    g.E.From.from_gives g.T.TryReadsWrites.step c.args.view.now c.requires.declared c.requires.out c.args.self.now c.args.written.now
    c.in_err-read.field-0.0 c.from_residual.result (ap (λ (refused : Option DataError). or_else refused None) c.in_err-read.ensures.refused) c.from_residual.ensures

pub returns : goal.returns
returns g c =
    let W = g.W.ResourceTypes in
    passed g.V.ResourceValue.kind_of (id_of g.R.Resource.KIND 0 ∷ []) W.ids (λ read. named g.R.Resource.KIND g.R.Resource.wrapped read ∷ []) (λ read. refl) W.moved g.met.W.ResourceTypes.same_ids
    g.E.From.from_gives g.T.TryReadsWrites.step c.args.view.now c.requires.declared c.requires.out c.args.self.now c.args.written.now
    c.in_ok-read.read.now c.run.result c.answered.result (record c.args.self.now { system = c.run.new.self }) c.run.new.written (ap (λ (refused : Option DataError). or_else refused None) c.in_ok-read.ensures.refused) (c.in_ok-read.ensures.shown, record {}) c.answered.ensures c.run.ensures
