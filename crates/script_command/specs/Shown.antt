-- What the demo shows.
use Rattle.std.specs.Prelude.{◌≡◌, ◌⊎◌, ℕ, ℤ, List, [], ◌∷◌, ◌++◌, Option, Some, None, codes, pos}
use Rattle.std.specs.Fmt.{decimal, signed_decimal}
use Rattle.std.specs.Io.KnownBytes.{Appends, Keeps}
use Rattle.shred_stage.specs.Sinks.{AppendsBeginning}
use Rattle.script_text.specs.Texts.{line_of}
use Rattle.shredstore.specs.Contents.{Contents}
use Rattle.shredstore.specs.declared.rule.StoreRule.{StoreRule}
use Rattle.shredstore.specs.declared.rule.StoreRule.TheVariants.{Add, Set}

-- the rules of the store that is shown
abbrev pub demo_rules : List StoreRule
demo_rules = Add 0 1 ∷ Add 2 0 ∷ Set 1 (pos 5) ∷ []

-- The entity has these in the tables 0, 1 and 2.
pub record HasRow (contents : Contents) (entity : ℕ) (a b c : Option ℤ) : Type 0 where
  pub first : contents.facts.value entity 0 ≡ a
  pub second : contents.facts.value entity 1 ≡ b
  pub third : contents.facts.value entity 2 ≡ c

-- what is shown of a table: the value there, or `-`
abbrev pub cell_text : Option ℤ → List ℕ
cell_text (Some value) = signed_decimal value
cell_text None = codes "-"

-- an entity's number, and what it has in the tables 0, 1 and 2
abbrev pub row_text : ℕ → Option ℤ → Option ℤ → Option ℤ → List ℕ
row_text entity first second third = codes "e" ++ decimal entity ++ codes " " ++ cell_text first ++ codes " " ++ cell_text second ++ codes " " ++ cell_text third

-- the first entity has 1, 2 and 0
abbrev pub HasFirstBefore : Contents → Type 0
HasFirstBefore contents = HasRow contents 0 (Some (pos 1)) (Some (pos 2)) (Some (pos 0))

-- the second entity has 10, nothing and 7
abbrev pub HasSecondBefore : Contents → Type 0
HasSecondBefore contents = HasRow contents 1 (Some (pos 10)) None (Some (pos 7))

-- the first entity has 8, 5 and 11
abbrev pub HasFirstAfter : Contents → Type 0
HasFirstAfter contents = HasRow contents 0 (Some (pos 8)) (Some (pos 5)) (Some (pos 11))

-- the second entity has 10, nothing and 27
abbrev pub HasSecondAfter : Contents → Type 0
HasSecondAfter contents = HasRow contents 1 (Some (pos 10)) None (Some (pos 27))

-- what the demo prints: the two entities after two ticks, and that all is well
abbrev pub demo_text : List ℕ
demo_text = line_of (row_text 0 (Some (pos 8)) (Some (pos 5)) (Some (pos 11))) ++ (line_of (row_text 1 (Some (pos 10)) None (Some (pos 27))) ++ line_of (codes "ok"))

-- the demo has ended with this status: 0, where its text was printed and nothing was told; or 1, where a beginning of that was, and of the line that tells it
abbrev pub HasShown : ℕ → Option (List ℕ) → Option (List ℕ) → Option (List ℕ) → Option (List ℕ) → Type 0
HasShown status out out_after err err_after =
    ((status ≡ 0) × Appends out out_after demo_text × Keeps err err_after)
    ⊎ ((status ≡ 1) × AppendsBeginning out out_after demo_text × AppendsBeginning err err_after (line_of (codes "demo failed")))

-- the line of what the entity has in the tables 0, 1 and 2
abbrev pub row_line : Contents → ℕ → List ℕ
row_line contents entity = line_of (row_text entity (contents.facts.value entity 0) (contents.facts.value entity 1) (contents.facts.value entity 2))
