-- What is read, and shown or refused.
use Rattle.std.proofs.Common.{◌≡◌, ◌≤◌, arith, subst, vec_len, List, ℕ, Option, Result, Ok, Err, IfErr, IfOk, Vec, Global}
use Rattle.std.specs.Io.KnownBytes.{Consumes, IsAtEnd}
use Rattle.script_engine.specs.Runs.{IsReadAs}
use Rattle.script_text.specs.Scripts.{IsScriptOf}
use Rattle.script_text.specs.declared.error.ScriptError.{ScriptError}
use Rattle.script_text.specs.declared.input.TheConstants.{MOST_BYTES}
use Rattle.script_text.specs.declared.script.Script.{Script}
use Rattle.plan_engine.specs.Endings.{IsRefusedAsRead, IsRefusedByBuilders, IsScriptShown, IsShown}
use Rattle.plan_engine.specs.declared.wanted.Wanted.{Wanted}

-- a text that was read to its end says the script that it is parsed as
pub read-as : (script : Script) (read left : Option (List ℕ)) (text : Vec ℕ Global) (bytes : List ℕ) → vec_len text ≤ MOST_BYTES → Consumes read left text.items → IsAtEnd left → bytes ≡ text.items → IsScriptOf bytes script → IsReadAs script read left
read-as script read left text bytes few all end same says = (text.items, (let len = text.ok in omega (arith, few, len)), all, end, subst (λ t. IsScriptOf t script) same says)

-- the script that is shown is the one that was read
pub shown-read : (wanted : Wanted) (script : Script) (read left old new : Option (List ℕ)) → IsReadAs script read left → (answer : Result ℕ ScriptError) → IfOk answer (IsScriptShown wanted script old new) → IfOk answer (IsShown wanted read left old new)
shown-read wanted script read left old new says (Ok status) shown = (script, says, shown)
shown-read wanted script read left old new says (Err error) shown = tt

-- the script of which a line is refused is the one that was read
pub refused-read : (script : Script) (read left : Option (List ℕ)) → IsReadAs script read left → (answer : Result ℕ ScriptError) → IfErr answer (IsRefusedByBuilders script) → IfErr answer (IsRefusedAsRead read left)
refused-read script read left says (Ok status) refused = tt
refused-read script read left says (Err error) refused = λ line refusal is. (script, says, refused line refusal is)
