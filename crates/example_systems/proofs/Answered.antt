-- What is said of an answer, said of what follows from it.
use Rattle.std.proofs.Common.{◌≡◌, Option, Result, Ok, Err, IfOk, sym, subst}
use Rattle.std.specs.Prelude.{IfSome}
use Rattle.std.specs.Result.{result_ok}

-- what follows from what is said of an Ok
pub answered-then : {T E : Type 0} {P Q : T → Type 0} (result : Result T E) → ((value : T) → P value → Q value) → IfOk result P → IfOk result Q
answered-then (Ok value) follows told = follows value told
answered-then (Err error) follows told = told

-- what is said of an Ok, said of the value that is taken from it
pub taken-then : {T E : Type 0} {P Q : T → Type 0} (result : Result T E) (taken : Option T) → taken ≡ result_ok result → ((value : T) → P value → Q value) → IfOk result P → IfSome taken Q
taken-then {T} {E} {P} {Q} (Ok value) taken is follows told = subst (λ o. IfSome o Q) (sym is) (follows value told)
taken-then {T} {E} {P} {Q} (Err error) taken is follows told = subst (λ o. IfSome o Q) (sym is) tt
