-- Lines of a report, one after another.
use Rattle.std.proofs.Common.{◌≡◌, ℕ, ◌+◌, List, ◌∷◌, ◌++◌, map, sym, ◌∙◌, ap, append_assoc}
use denote.Ref.{Bor}
use Rattle.shred_world.specs.Worked.{Held}
use Rattle.script_text.specs.declared.value.Value.{Value}
use Rattle.script_text.specs.Place.{number_at}
use Rattle.script_text.specs.Report.{value_line, value_lines}

-- with the line of the next name, the lines so far and those of the names left are still all lines
pub value_lines-more : (text all : List ℕ) (left rest : List (Bor (List ℕ))) (name : Bor (List ℕ)) (count place next : ℕ) (held : Held Value) → left ≡ name ∷ rest → place ≡ count → next ≡ count + 1
    → text ++ value_lines count (map (λ n. n.now) left) held ≡ all → (text ++ value_line name.now (number_at held place)) ++ value_lines next (map (λ n. n.now) rest) held ≡ all
value_lines-more text all left rest name count place next held first here then whole =
    append_assoc text (value_line name.now (number_at held place)) (value_lines next (map (λ n. n.now) rest) held)
    ∙ (λ i. text ++ (value_line name.now (number_at held (here i)) ++ value_lines (then i) (map (λ n. n.now) rest) held))
    ∙ ap (λ names. text ++ value_lines count (map (λ n. n.now) names) held) (sym first) ∙ whole
