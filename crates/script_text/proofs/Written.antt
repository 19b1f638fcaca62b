-- How far a text is written.
use Rattle.std.proofs.Common.{◌≡◌, ℕ, ◌+◌, ◌≤◌, List, [], ◌++◌, length, take, drop, take-add, take_all, Option, Result, Ok, Err, OnOk, OnErr, sym, ◌∙◌, ap, subst}
use Rattle.std.proofs.KnownBytes.{Appends-kept, Appends-trans}
use Rattle.std.proofs.lemmas.List.{append-nil, take-append-drop}
use Rattle.std.specs.Io.KnownBytes.{Appends, Keeps, WriteAppends}
use Rattle.shred_stage.specs.Sinks.{AppendsBeginning}

-- a piece of what is left was taken
pub written-more : (old mid new : Option (List ℕ)) (text piece : List ℕ) (done count next : ℕ) → Appends old mid (take done text) → piece ≡ drop done text → Appends mid new (take count piece) → next ≡ done + count → Appends old new (take next text)
written-more old mid new text piece done count next so_far left more is =
    subst (λ t. Appends old new t) (ap (λ p. take done text ++ take count p) left ∙ sym (take-add done count text) ∙ ap (λ n. take n text) (sym is)) (Appends-trans old mid new (take done text) (take count piece) so_far more)

-- nothing was taken
pub written-same : (old mid new : Option (List ℕ)) (text : List ℕ) (done next : ℕ) → Appends old mid (take done text) → Keeps mid new → next ≡ done → Appends old new (take next text)
written-same old mid new text done next so_far kept is = subst (λ n. Appends old new (take n text)) (sym is) (Appends-kept old mid new (take done text) so_far kept)

-- the writing ended within the text
pub written-beginning : (old mid new : Option (List ℕ)) (text : List ℕ) (done : ℕ) → Appends old mid (take done text) → Keeps mid new → AppendsBeginning old new text
written-beginning old mid new text done so_far kept = (take done text, drop done text, sym (take-append-drop done text), Appends-kept old mid new (take done text) so_far kept)

-- nothing of the piece was taken
pub written-none : {E : Type 0} (old mid new : Option (List ℕ)) (text piece : List ℕ) (done count : ℕ) (answer : Result ℕ E) → Appends old mid (take done text) → answer ≡ Ok count → count ≡ 0 → WriteAppends mid new answer piece
    → AppendsBeginning old new text
written-none old mid new text piece done count answer so_far is none wrote =
    let taken : Appends mid new [] = subst (λ n. Appends mid new (take n piece)) none (subst (λ a. WriteAppends mid new a piece) is wrote) in
    (take done text, drop done text, sym (take-append-drop done text), subst (λ t. Appends old new t) (append-nil (take done text)) (Appends-trans old mid new (take done text) [] so_far taken))

-- what was written of a text is a beginning of it, all of it among them
pub written-some : {E : Type 0} (old new : Option (List ℕ)) (text : List ℕ) (answer : Result (Unit {0}) E) → OnOk answer (Appends old new text) → OnErr answer (AppendsBeginning old new text) → AppendsBeginning old new text
written-some old new text (Ok done) whole begun = (text, [], sym (append-nil text), whole)
written-some old new text (Err e) whole begun = begun

-- all of the text is written
pub written-all : (old new : Option (List ℕ)) (text : List ℕ) (done : ℕ) → length text ≤ done → Appends old new (take done text) → Appends old new text
written-all old new text done past so_far = subst (λ t. Appends old new t) (take_all done text past) so_far
