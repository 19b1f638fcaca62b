use Rattle.std.proofs.lemmas.Option.{IfSome_then}
use Rattle.example_systems.proofs.Copied.{eight-by-jobs}
use Rattle.example_systems.proofs.enum_of_systems.copied_by_jobs.Goals as goal

pub returns : goal.returns
returns c = IfSome_then c.left_at_two.result c.left_at_two.ensures eight-by-jobs
