-- How the words of a line write the steps of a system, and the names that it depends on.
use Rattle.std.specs.Prelude.{◌≡◌, ◌≢◌, ℕ, ◌==◌, ◌⊎◌, Some, List, [], ◌++◌, slice_get, codes}
use Rattle.std.specs.List.{AllZip, slice_split}
use Rattle.script_text.specs.declared.step.Operand.{Operand}
use Rattle.script_text.specs.declared.step.Operand.TheVariants.{Number, Resource}
use Rattle.script_text.specs.declared.step.Operation.{Operation}
use Rattle.script_text.specs.declared.step.Operation.TheVariants.{Add, Multiply, Set}
use Rattle.script_text.specs.declared.step.Step.{Step}
use Rattle.script_text.specs.declared.step.Step.TheVariants.{Change, Declare, Refuse}
use Rattle.script_text.specs.declared.step.Use.TheVariants.{Read, Write}
use Rattle.script_text.specs.Forms.{NamesSystem, WritesCode, WritesInteger}

-- the sign of each operation
abbrev pub sign_of : Operation → List ℕ
sign_of Add = codes "+="
sign_of Multiply = codes "*="
sign_of Set = codes "="

-- this name stands at this place among the declared ones
abbrev pub IsNameAt : List (List ℕ) → ℕ → List ℕ → Type 0
IsNameAt declared place name = slice_get declared place ≡ Some name

-- the word writes this operand: a whole number, or the name of a declared resource
abbrev pub WritesOperand : List (List ℕ) → List ℕ → Operand → Type 0
WritesOperand declared word (Number number) = WritesInteger word number
WritesOperand declared word (Resource source) = IsNameAt declared source word

-- the word writes this change: the target's name, the operation's sign, and an operand
pub record WritesChange (declared : List (List ℕ)) (word : List ℕ) (target : ℕ) (operation : Operation) (operand : Operand) : Type 0 where
  pub name : List ℕ
  pub value : List ℕ
  pub is : word ≡ name ++ (sign_of operation ++ value)
  pub target_is : IsNameAt declared target name
  pub operand_is : WritesOperand declared value operand

-- the word writes this step: a change, the name of a declared resource behind `?` or `!`, or digits behind `refuse:`
abbrev pub WritesStep : List (List ℕ) → List ℕ → Step → Type 0
WritesStep declared word (Change target operation operand) = WritesChange declared word target operation operand
WritesStep declared word (Declare (Read place)) = (name : List ℕ) × (word ≡ codes "?" ++ name) × IsNameAt declared place name
WritesStep declared word (Declare (Write place)) = (name : List ℕ) × (word ≡ codes "!" ++ name) × IsNameAt declared place name
WritesStep declared word (Refuse code) = (digits : List ℕ) × (word ≡ codes "refuse:" ++ digits) × WritesCode digits code

-- the word writes these names: none where it is `-`, and else those that its parts between commas say
abbrev pub WritesNames : List ℕ → List (List ℕ) → Type 0
WritesNames word names = ((word ≡ codes "-") × (names ≡ [])) ⊎ ((word ≢ codes "-") × AllZip NamesSystem (slice_split (λ byte. byte == 44) word) names)
