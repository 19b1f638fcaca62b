use Rattle.std.proofs.Common.{◌≡◌, true, false, rules}
use Rattle.std.proofs.lemmas.Iterator.{cases_from_all}
use Rattle.std.proofs.lemmas.Iterator.Adapters.{YieldsList-from_bytes}
use Rattle.script_text.specs.Forms.{is_system_byte}
use Rattle.script_text.proofs.Parsing.Passing.{passing}
use Rattle.script_text.proofs.words.has_system_bytes.Goals as goal

pub returns : goal.returns
returns c =
    passing _ is_system_byte c.args.word.now c.all.result
    (cases_from_all _ _ c.all.result (λ byte. is_system_byte byte ≡ true) (λ byte. is_system_byte byte ≡ false) c.all.ensures.ran (YieldsList-from_bytes c.args.word.now c.bytes.ensures.rest) (λ x q called. search rules) (λ x q called. search rules))
