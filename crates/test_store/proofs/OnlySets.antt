-- What is so of rules that only set values.
use Rattle.std.proofs.Common.{◌≡◌, ℕ, ℤ, zero, suc, List, [], ◌∷◌, Option, Some, None, Err, Result, slice_get}
use Rattle.std.proofs.Math.Logic.{∥∥₁_elim}
use Rattle.std.proofs.Props.{props}
use Rattle.shredstore.specs.declared.error.TickError.{TickError}
use Rattle.shredstore.specs.declared.error.TickError.TheVariants.{Overflow}
use Rattle.shredstore.specs.declared.rule.StoreRule.{StoreRule}
use Rattle.shredstore.specs.declared.rule.StoreRule.TheVariants.{Add, Set}
use Rattle.shredstore.specs.Meaning.{meaning_of}
use Rattle.shredstore.specs.Plans.{RulesOver}
use Rattle.shredstore.specs.Rows.{IsRefusedFor}
use Rattle.shredstore.specs.Ticks.{IsOverflowOf, IsTick}
use Rattle.test_store.specs.Sets.{AreSets, TellsNone}

-- no values are refused by a `Set`
never : (x : ℕ) (c : ℤ) (value more : Option ℤ) → IsRefusedFor (meaning_of (Set x c)) value more → ⊥
never x c (Some v) (Some m) refused = refused
never x c (Some v) None refused = refused
never x c None more refused = refused

-- a rule among them is refused for no values
of-rule : (rules : List StoreRule) → AreSets rules → (place : ℕ) (own : StoreRule) → slice_get rules place ≡ Some own → (value more : Option ℤ) → IsRefusedFor (meaning_of own) value more → ⊥
of-rule rules sets place (Add x y) at value more refused = sets place x y at
of-rule rules sets place (Set x c) at value more refused = never x c value more refused

-- a tick of such rules tells of no entity
pub tells-none : (rules : List StoreRule) → AreSets rules → (before after : RulesOver StoreRule) (result : Result (Unit {0}) TickError) → IsTick meaning_of rules before result after → TellsNone result
tells-none rules sets before after result ticked place entity is = ∥∥₁_elim (ticked.overflow place entity is) (Prim.hlevel props) (λ its. of-rule rules sets place its.own its.at _ _ its.first.here)

-- two such rules
pub two-sets : (x y : ℕ) (c d : ℤ) → AreSets (Set x c ∷ (Set y d ∷ []))
two-sets x y c d zero other from is = absurd (cc)
two-sets x y c d (suc zero) other from is = absurd (cc)
two-sets x y c d (suc (suc place)) other from is = absurd (cc)
