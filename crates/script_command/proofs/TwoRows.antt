-- The rows of the two entities.
use Rattle.std.proofs.Common.{◌≡◌, ℕ, ℤ, ◌∙◌, ◌+◌, ◌+ℤ◌, ◌++◌, List, Option, Some, None, codes, pos, refl, ap, subst}
use Rattle.std.proofs.KnownBytes.{Appends-trans}
use Rattle.std.specs.Io.KnownBytes.{Appends}
use Rattle.script_text.specs.Texts.{line_of}
use Rattle.script_command.specs.Shown.{HasRow, demo_rules, demo_text, row_text}
use Rattle.shredstore.specs.Contents.{Contents, IsCreated, IsEmpty, IsValueSet}
use Rattle.shredstore.specs.Meaning.{meaning_of}
use Rattle.shredstore.specs.Rows.{made_beside}
use Rattle.shredstore.specs.Rules.{applied_all}
use Rattle.shredstore.specs.declared.rule.StoreRule.{StoreRule}
use Rattle.shredstore.specs.declared.rule.StoreRule.TheVariants.{Add, Set}

-- the sum, where both are there
abbrev pub summed : Option ℤ → Option ℤ → Option ℤ
summed (Some value) (Some more) = Some (value +ℤ more)
summed (Some value) None = Some value
summed None more = None

-- 5, where there is a value
abbrev pub fived : Option ℤ → Option ℤ
fived (Some value) = Some (pos 5)
fived None = None

sums : (x y : ℕ) (value more : Option ℤ) → made_beside (meaning_of (Add x y)) value more ≡ summed value more
sums x y (Some value) (Some more) = refl
sums x y (Some value) None = refl
sums x y None more = refl

fives : (x : ℕ) (value : Option ℤ) → made_beside (meaning_of (Set x (pos 5))) value value ≡ fived value
fives x (Some value) = refl
fives x None = refl

-- what the rules make of a row
pub ticked : (old new : Contents) (rules : List StoreRule) → rules ≡ demo_rules → ((entity table : ℕ) → new.facts.value entity table ≡ applied_all meaning_of rules old.facts.value entity table) → (entity : ℕ) (a b c : Option ℤ) → HasRow old entity a b c → HasRow new entity (summed a b) (fived b) (summed c (summed a b))
ticked old new rules same applies entity a b c row =
    let made : (table : ℕ) → new.facts.value entity table ≡ applied_all meaning_of demo_rules old.facts.value entity table = λ table. applies entity table ∙ (λ i. applied_all meaning_of (same i) old.facts.value entity table) in
    record {
      first = made 0 ∙ (λ i. made_beside (meaning_of (Add 0 1)) (row.first i) (row.second i)) ∙ sums 0 1 a b;
      second = made 1 ∙ (λ i. made_beside (meaning_of (Set 1 (pos 5))) (row.second i) (row.second i)) ∙ fives 1 b;
      third = made 2 ∙ (λ i. made_beside (meaning_of (Add 2 0)) (row.third i) (made_beside (meaning_of (Add 0 1)) (row.first i) (row.second i))) ∙ ap (made_beside (meaning_of (Add 2 0)) c) (sums 0 1 a b) ∙ sums 2 0 c (summed a b);
    }

-- two entities were made, and values were set
pub begun : (c0 c1 c2 c3 c4 c5 c6 c7 : Contents) (e f : ℕ) → IsEmpty 3 c0 → e ≡ c0.next → IsCreated c0 c1 → IsValueSet c1 c2 e 0 (pos 1) → IsValueSet c2 c3 e 1 (pos 2) → IsValueSet c3 c4 e 2 (pos 0)
    → f ≡ c4.next → IsCreated c4 c5 → IsValueSet c5 c6 f 0 (pos 10) → IsValueSet c6 c7 f 2 (pos 7)
    → HasRow c7 0 (Some (pos 1)) (Some (pos 2)) (Some (pos 0)) × HasRow c7 1 (Some (pos 10)) None (Some (pos 7))
begun c0 c1 c2 c3 c4 c5 c6 c7 e f none first made set0 set1 set2 second made_too set_too last =
    let zero_first : e ≡ 0 = first ∙ none.next in
    let one_second : f ≡ 1 = second ∙ set2.next ∙ set1.next ∙ set0.next ∙ made.next ∙ (λ i. none.next i + 1) in
    let s0 = subst (λ e. IsValueSet c1 c2 e 0 (pos 1)) zero_first set0 in
    let s1 = subst (λ e. IsValueSet c2 c3 e 1 (pos 2)) zero_first set1 in
    let s2 = subst (λ e. IsValueSet c3 c4 e 2 (pos 0)) zero_first set2 in
    let t0 = subst (λ f. IsValueSet c5 c6 f 0 (pos 10)) one_second set_too in
    let t2 = subst (λ f. IsValueSet c6 c7 f 2 (pos 7)) one_second last in (
      record {
        first = t2.value 0 0 ∙ t0.value 0 0 ∙ made_too.value 0 0 ∙ s2.value 0 0 ∙ s1.value 0 0 ∙ s0.value 0 0;
        second = t2.value 0 1 ∙ t0.value 0 1 ∙ made_too.value 0 1 ∙ s2.value 0 1 ∙ s1.value 0 1;
        third = t2.value 0 2 ∙ t0.value 0 2 ∙ made_too.value 0 2 ∙ s2.value 0 2;
      },
      record {
        first = t2.value 1 0 ∙ t0.value 1 0;
        second = t2.value 1 1 ∙ t0.value 1 1 ∙ made_too.value 1 1 ∙ s2.value 1 1 ∙ s1.value 1 1 ∙ s0.value 1 1 ∙ made.value 1 1 ∙ none.value 1 1;
        third = t2.value 1 2;
      },
    )

-- both rows were written, and that all is well
pub whole : (old mid later new : Option (List ℕ)) (contents : Contents) → HasRow contents 0 (Some (pos 8)) (Some (pos 5)) (Some (pos 11)) → HasRow contents 1 (Some (pos 10)) None (Some (pos 27)) → (let value = contents.facts.value in
    Appends old mid (line_of (row_text 0 (value 0 0) (value 0 1) (value 0 2))) → Appends mid later (line_of (row_text 1 (value 1 0) (value 1 1) (value 1 2))) → Appends later new (line_of (codes "ok")) → Appends old new demo_text)
whole old mid later new contents first second one two last =
    Appends-trans old mid new (line_of (row_text 0 (Some (pos 8)) (Some (pos 5)) (Some (pos 11)))) (line_of (row_text 1 (Some (pos 10)) None (Some (pos 27))) ++ line_of (codes "ok"))
    (subst (λ t. Appends old mid t) (λ i. line_of (row_text 0 (first.first i) (first.second i) (first.third i))) one)
    (Appends-trans mid later new (line_of (row_text 1 (Some (pos 10)) None (Some (pos 27)))) (line_of (codes "ok")) (subst (λ t. Appends mid later t) (λ i. line_of (row_text 1 (second.first i) (second.second i) (second.third i))) two) last)
