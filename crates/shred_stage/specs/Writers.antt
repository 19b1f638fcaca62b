-- Sinks over writers.
use Rattle.std.specs.Prelude.{ℕ}
use Rattle.shred_stage.specs.declared.dispatch.sink.ToWriter.{ToWriter}

-- the writer of such a sink
abbrev pub writer_of : {W : Type 0} → ToWriter W → W
writer_of sink = sink.writer

-- its count of failures
abbrev pub failures_of : {W : Type 0} → ToWriter W → ℕ
failures_of sink = sink.failures
