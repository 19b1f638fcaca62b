use Rattle.std.proofs.Common.{◌≡◌, length, Some, None, arith, lit<}
use Rattle.std.proofs.lemmas.Bool.Decides.{nat_tests}
use Rattle.std.proofs.lemmas.Str.Pattern.{split_once_first}
use Rattle.script_text.proofs.Trimmed.{none-left, word-cut, word-last}
use Rattle.script_text.proofs.words.WordsIterator.next.Goals as goal

pub returns-then-is_empty-clause-steps : goal.returns-then-is_empty-clause-steps
returns-then-is_empty-clause-steps c =
    let none : length c.trim_start_matches-rest.result.now ≡ 0 = grind (arith, nat_tests) in
    none-left c.args.self.now.rest.now c.trim_start_matches-rest.result.now c.trim_start_matches-rest.ensures.matches none

pub returns-in-Some-clause-steps : goal.returns-in-Some-clause-steps
returns-in-Some-clause-steps c =
    let full : length c.trim_start_matches-rest.result.now ≡ 0 → ⊥ = λ none. absurd (grind (arith, nat_tests)) in
    let cut = split_once_first 32 c.trim_start_matches-rest.result.now (Some (c.in-Some.word, c.in-Some.rest)) c.in-Some.ensures.cases (lit< tt) in
    word-cut c.args.self.now.rest.now c.trim_start_matches-rest.result.now c.in-Some.word.now c.in-Some.rest.now c.trim_start_matches-rest.ensures.matches full cut.1 cut.2

pub returns-in-None-clause-steps : goal.returns-in-None-clause-steps
returns-in-None-clause-steps c =
    let full : length c.trim_start_matches-rest.result.now ≡ 0 → ⊥ = λ none. absurd (grind (arith, nat_tests)) in
    word-last c.args.self.now.rest.now c.trim_start_matches-rest.result.now c.trim_start_matches-rest.ensures.matches full (split_once_first 32 c.trim_start_matches-rest.result.now None c.in-None.ensures.cases (lit< tt))
