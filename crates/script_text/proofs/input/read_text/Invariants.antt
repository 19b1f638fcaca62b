use Rattle.std.proofs.Common.{◌≤◌, vec_len}
use Rattle.std.specs.Io.KnownBytes.{Consumes}
use Rattle.script_text.specs.declared.input.TheConstants.{MOST_BYTES}
use Rattle.script_text.proofs.input.read_text.Given as goal

abbrev pub invariant-loop : goal.invariant-loop
invariant-loop g l = record {
  length : vec_len l.text ≤ MOST_BYTES;
  text : Consumes (g.R.Read.remaining l.initial.reader) (g.R.Read.remaining l.reader) l.text.items;
}
