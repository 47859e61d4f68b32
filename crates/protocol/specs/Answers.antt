-- The word and the value of every answer.
use Rattle.std.specs.Prelude.{ℕ, Bool, true, false, List, codes, Ok, Err, Result}
use Rattle.protocol.specs.declared.answer.Answer.{Answer}
use Rattle.protocol.specs.declared.answer.Answer.TheVariants.{Waits, Brought, Read, Wrote, Flushed, Committed}
use Rattle.protocol.specs.declared.answer.Word.{Word}
use Rattle.protocol.specs.declared.answer.Word.TheVariants.{Waits as WaitsWord, Brought as BroughtWord, Read as ReadWord, Wrote as WroteWord, Flushed as FlushedWord, Committed as CommittedWord, Refused as RefusedWord}
use Rattle.protocol.specs.declared.refusal.Refusal.{Refusal}
use Rattle.protocol.specs.Refusals.{refusal_number}

abbrev pub word_of : Result Answer Refusal → Word
word_of (Ok (Waits n)) = WaitsWord
word_of (Ok (Brought n)) = BroughtWord
word_of (Ok (Read s)) = ReadWord
word_of (Ok (Wrote s)) = WroteWord
word_of (Ok (Flushed n)) = FlushedWord
word_of (Ok (Committed b)) = CommittedWord
word_of (Err e) = RefusedWord

abbrev pub bit : Bool → ℕ
bit false = 0
bit true = 1

-- a block for waits, brought and flushed, a stamp for read and wrote, 0 or 1 for committed, a number for refused
abbrev pub value_of : Result Answer Refusal → ℕ
value_of (Ok (Waits n)) = n
value_of (Ok (Brought n)) = n
value_of (Ok (Read s)) = s
value_of (Ok (Wrote s)) = s
value_of (Ok (Flushed n)) = n
value_of (Ok (Committed b)) = bit b
value_of (Err e) = refusal_number e

-- each word in ASCII
abbrev pub spelling : Word → List ℕ
spelling WaitsWord = codes "waits"
spelling BroughtWord = codes "brought"
spelling ReadWord = codes "read"
spelling WroteWord = codes "wrote"
spelling FlushedWord = codes "flushed"
spelling CommittedWord = codes "committed"
spelling RefusedWord = codes "refused"
