use Rattle.std.proofs.Common.{rules, ◌≡◌, ◌+◌, ap, ◌∙◌, arith}
use Rattle.std.specs.Int.{w64, int_wrap}
use Rattle.std.proofs.lemmas.Int.{ints}
use Rattle.shred_world.specs.Worlds.{world_held}
use Rattle.shredmeasure.specs.Counts.{kind_of, sum_to}
use Rattle.shredmeasure.proofs.Worlds.{same_counts, sum-bits-next}
use Rattle.shredmeasure.proofs.sum_of.Goals as goal

pub loop-number-preserved : goal.loop-number-preserved
loop-number-preserved c = record {
  within = omega arith;
  sum = sum-bits-next (world_held kind_of c.args.world.now) c.loop-number.number (c.loop-number.number + 1) c.loop-number.sum-bits c.count_at-sum.result (λ i. c.loop-number.number + 1) c.loop-number.invariant.sum c.count_at-sum.ensures (record { sfits = c.count_at-sum.type_inv }) (search (rules, ints));
}

pub returns-clause-product : goal.returns-clause-product
returns-clause-product c times each =
    let held = world_held kind_of c.args.world.now in
    let all : c.loop-number.number ≡ c.args.systems = omega arith in
    c.loop-number.invariant.sum ∙ ap (λ n. int_wrap w64 (sum_to held n)) all ∙ same_counts held c.args.systems times each
