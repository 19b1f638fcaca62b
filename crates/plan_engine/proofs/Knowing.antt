-- The ids of names that are known.
use Rattle.std.proofs.Common.{◌≡◌, ◌<◌, ◌≤◌, ◌+◌, ◌++◌, ℕ, List, [], ◌∷◌, Option, None, Some, All, IfSome, ap, append-nil, arith, get_or, length, map, option_map, sym, take, ◌∙◌}
use Rattle.std.proofs.lemmas.List.{map-append, take_more}
use Rattle.std.proofs.lemmas.List.Elements.{All-push, All-same, filter_map-append}
use Rattle.std.specs.List.{filter_map}
use Rattle.shred_run.specs.declared.entry.SystemId.{SystemId}
use Rattle.shred_stage.specs.Known.{Known, texts_of}
use Rattle.plan_engine.specs.Names.{numbers_in}
use denote.Ref.{Bor}

one-known : (known : Known) (name : List ℕ) (found : Option SystemId) → option_map (λ (id : SystemId). id.0) found ≡ known name → numbers_in found ≡ filter_map known (name ∷ [])
one-known known name None is = ap (λ (o : Option ℕ). filter_map (λ (x : Option ℕ). x) (o ∷ [])) is
one-known known name (Some id) is = ap (λ (o : Option ℕ). filter_map (λ (x : Option ℕ). x) (o ∷ [])) is

-- what one more name stands for goes behind what those before it do
pub known-more : (known : Known) (names : List (Bor (List ℕ))) (i : ℕ) (d : Bor (List ℕ)) (ids new : List ℕ) (found : Option SystemId) → i < length names
    → ids ≡ filter_map known (texts_of (take i names)) → option_map (λ (id : SystemId). id.0) found ≡ known (get_or names i d).now → new ≡ ids ++ numbers_in found → new ≡ filter_map known (texts_of (take (i + 1) names))
known-more known names i d ids new found within before is pushed =
    let name = get_or names i d in
    let split = map-append (λ (t : Bor (List ℕ)). t.now) (take i names) (name ∷ []) in
    let whole = ap (λ (some : List (Bor (List ℕ))). filter_map known (texts_of some)) (take_more names i d within) ∙ ap (filter_map known) split ∙ filter_map-append known (texts_of (take i names)) (name.now ∷ []) in
    pushed ∙ ap (λ (l : List ℕ). l ++ numbers_in found) before ∙ ap (λ (l : List ℕ). filter_map known (texts_of (take i names)) ++ l) (one-known known name.now found is) ∙ sym whole

-- and is below the end, where what is known is
pub below-more : (next end : ℕ) (ids new : List ℕ) (found : Option SystemId) → next ≤ end → All (λ id. id < end) ids → IfSome found (λ (id : SystemId). id.0 < next) → new ≡ ids ++ numbers_in found → All (λ id. id < end) new
below-more next end ids new None few all below pushed = All-same (λ id. id < end) new ids (pushed ∙ append-nil ids) all
below-more next end ids new (Some id) few all below pushed = All-same (λ id. id < end) new (ids ++ id.0 ∷ []) pushed (All-push (λ id. id < end) ids id.0 all (omega arith))
