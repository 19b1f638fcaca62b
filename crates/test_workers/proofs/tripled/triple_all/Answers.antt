use Rattle.test_workers.specs.Tripled.{tripled}
use Rattle.test_workers.proofs.Each.{as_values}
use Rattle.test_workers.proofs.tripled.triple_all.Goals as goal

pub returns : goal.returns
returns g c = as_values (λ n. n.value) (λ n. tripled n.value) c.args.numbers.now.items c.run.new.lanes.items c.run.ensures.ran
