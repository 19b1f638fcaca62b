-- What is said where a result is Ok, or where it is an Err.
use Rattle.std.proofs.Common.{Result, Ok, Err}
use Rattle.std.specs.Prelude.{OnErr, OnOk}

pub OnOk-map : {A E P Q : Type 0} (result : Result A E) → (P → Q) → OnOk result P → OnOk result Q
OnOk-map (Ok a) f h = f h
OnOk-map (Err e) f h = tt

pub OnErr-map : {A E P Q : Type 0} (result : Result A E) → (P → Q) → OnErr result P → OnErr result Q
OnErr-map (Ok a) f h = tt
OnErr-map (Err e) f h = f h
