use Rattle.std.proofs.Common.{◌≡◌, ◌∷◌, [], get_or, Some, arith}
use Rattle.std.specs.List.{slice_get}
use Rattle.std.proofs.lemmas.Option.{slice_get-get_or}
use Rattle.shred_stage.specs.Printed.{cleaned}
use Rattle.shred_stage.proofs.Names.Sinks.{HasPut, put-stop, map-flat}
use Rattle.shred_stage.proofs.dispatch.printing.put_cleaned.Goals as goal

pub returns-in-Err : goal.returns-in-Err
returns-in-Err g c =
    let name = c.args.name.now in
    let i = c.loop-byte.byte-index in
    let at : slice_get name i ≡ Some (get_or name i 0) = slice_get-get_or name i 0 (omega (arith, c.loop-byte-test.true)) in
    let so_far : HasPut g.W.PlanSink.told g.W.PlanSink.failures (λ b. cleaned b ∷ []) name i c.args.sink.now c.loop-byte.sink = record { so_far = rw (map-flat cleaned _) at c.loop-byte.invariant.so_far; no_failure = c.loop-byte.invariant.no_failure } in
    rw (map-flat cleaned name) (put-stop so_far at c.put_all.new.sink c.in-Err.e c.in-Err.e (rw c.cleaned.ensures at c.in-Err.ensures))
