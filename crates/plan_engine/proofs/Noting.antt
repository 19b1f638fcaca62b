-- What is said of an answer that is Ok.
use Rattle.std.proofs.Common.{OnOk, Result, Ok, Err}

-- what holds is said of it
pub ok-any : {X E : Type 0} (answer : Result X E) (P : Type 0) → P → OnOk answer P
ok-any (Ok x) P holds = holds
ok-any (Err e) P holds = tt

-- and so is what follows from it
pub ok-then : {X E : Type 0} (answer : Result X E) (P Q : Type 0) → (P → Q) → OnOk answer P → OnOk answer Q
ok-then (Ok x) P Q then holds = then holds
ok-then (Err e) P Q then holds = tt
