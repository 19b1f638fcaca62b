-- Steps of many parties on one cell, and how its word agrees with who holds it.
use Rattle.std.specs.Prelude.{◌≡◌, ⊤, ℕ, ◌<◌, ◌≤◌, ◌==◌, cond, List, [], ◌∷◌, length, is_some, unwrap_or, Contains}
use Rattle.shred_cell.specs.declared.word.Word.{Word}
use Rattle.shred_cell.specs.declared.word.Word.TheVariants.{Free, Readers, Writer}
use Rattle.shred_cell.specs.declared.word.Ask.{Ask}
use Rattle.shred_cell.specs.declared.word.Ask.TheVariants.{Read, Write, Copy, EndRead, EndWrite}
use Rattle.shred_cell.specs.Word.{most_readers, step}

-- one ask of one party
pub record PartyStep : Type 0 where
  pub party : ℕ
  pub ask : Ask

-- the parties that hold the cell: each stands in a list once for each hold that it has
pub record Holders : Type 0 where
  pub readers : List ℕ
  pub writers : List ℕ

-- no party holds the cell
abbrev pub nobody : Holders
nobody = record { readers = []; writers = [] }

-- only a party that reads asks for a copy or ends a read, and only one that writes ends a write
abbrev pub MayAsk : Holders → ℕ → Ask → Type 0
MayAsk h party Read = ⊤
MayAsk h party Write = ⊤
MayAsk h party Copy = Contains h.readers party
MayAsk h party EndRead = Contains h.readers party
MayAsk h party EndWrite = Contains h.writers party

-- the parties, with one hold less of this one
abbrev pub without_hold : ℕ → List ℕ → List ℕ
without_hold party [] = []
without_hold party (p ∷ ps) = cond (p == party) ps (p ∷ without_hold party ps)

-- the holders after an ask that is granted
abbrev pub granted : Holders → ℕ → Ask → Holders
granted h party Read = record { readers = party ∷ h.readers; writers = h.writers }
granted h party Write = record { readers = h.readers; writers = party ∷ h.writers }
granted h party Copy = record { readers = party ∷ h.readers; writers = h.writers }
granted h party EndRead = record { readers = without_hold party h.readers; writers = h.writers }
granted h party EndWrite = record { readers = h.readers; writers = without_hold party h.writers }

-- the word after a step, which is as before where the step is refused
abbrev pub word_after : Word → Ask → Word
word_after word ask = unwrap_or (step word ask) word

-- the holders after a step, who are as before where the step is refused
abbrev pub holders_after : Word → Holders → PartyStep → Holders
holders_after word h s = cond (is_some (step word s.ask)) (granted h s.party s.ask) h

-- the steps, each of which its party may ask, lead from a word and its holders to the last ones
abbrev pub AsksLead : Word → Holders → List PartyStep → Word → Holders → Type 0
AsksLead word h [] last holders = (last ≡ word) × (holders ≡ h)
AsksLead word h (s ∷ ss) last holders = MayAsk h s.party s.ask × AsksLead (word_after word s.ask) (holders_after word h s) ss last holders

-- the word is free just where nobody holds the cell, counts the reads just where some are out and no write is, and says that one writes just where one write is out and no read is
abbrev pub Agrees : Word → Holders → Type 0
Agrees Free h = (length h.readers ≡ 0) × (length h.writers ≡ 0)
Agrees (Readers n) h = (0 < n) × (n ≤ most_readers) × (length h.readers ≡ n) × (length h.writers ≡ 0)
Agrees Writer h = (length h.readers ≡ 0) × (length h.writers ≡ 1)
