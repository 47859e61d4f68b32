-- The book: what is known of each block from the calls and the words of their answers alone.
use Rattle.std.specs.Prelude.{◌≡◌, ℕ, ◌+◌, Bool, true, false, cond, ◌&&◌, List, [], ◌∷◌, Some, None, Option, Result, ◌==◌}
use Rattle.protocol.specs.declared.answer.Answer.{Answer}
use Rattle.protocol.specs.declared.answer.Word.{Word}
use Rattle.protocol.specs.declared.call.Call.{Call}
use Rattle.protocol.specs.declared.call.Call.TheVariants.{Read, Write, Resume}
use Rattle.protocol.specs.declared.refusal.Refusal.{Refusal}
use Rattle.protocol.specs.Answers.{word_of, value_of}
use Rattle.protocol.specs.Calls.{core_of}
use Rattle.study.specs.declared.turn.Turn.{Turn}
use Rattle.study.specs.Words.{is_accepted, is_read, is_wrote, answered}

-- a count of writes, a number for each block, and the block that each core last asked for
pub record Book : Type 0 where
  pub count : ℕ
  pub number : ℕ → ℕ
  pub asked : ℕ → ℕ

abbrev pub new_book : Book
new_book = record { count = 0; number = λ n. 0; asked = λ c. 0 }

-- f, but v at k
unfoldable pub but : (ℕ → ℕ) → ℕ → ℕ → ℕ → ℕ
but f k v x = cond (x == k) v (f x)

-- a read or a write asks for a block
abbrev pub asking : Call → (ℕ → ℕ) → ℕ → ℕ
asking (Read c n) f = but f c n
asking (Write c n) f = but f c n
asking _ f = f

-- an accepted read or write sets its core's block
abbrev pub heard : Book → Call → Word → Book
heard b k w = record { count = b.count; number = b.number; asked = cond (is_accepted w) (asking k b.asked) b.asked }

-- core c has written: one is added to the count, and the sum is the number of its block
abbrev pub entered : ℕ → Book → Book
entered c b = record { count = b.count + 1; number = but b.number (b.asked c) (b.count + 1); asked = b.asked }

-- the word wrote is credited to a write or a resume
abbrev pub may_write : Call → Bool
may_write (Write c n) = true
may_write (Resume c) = true
may_write _ = false

-- the book after a call and the word of its answer
abbrev pub noted : Book → Call → Word → Book
noted b k w = cond (is_wrote w && may_write k) (entered (core_of k) (heard b k w)) (heard b k w)

-- an answer to core c that says read shows the number that the book has for the core's block
abbrev pub Honest : Book → ℕ → Result Answer Refusal → Type 0
Honest b c a = is_read (word_of a) ≡ true → value_of a ≡ b.number (b.asked c)

-- the call k was answered, honestly as the book then is, and so is the rest
abbrev pub HonestTurn : Book → Call → Option (Result Answer Refusal) → (Book → Type 0) → Type 0
HonestTurn b k None rest = ⊥
HonestTurn b k (Some a) rest = Honest (noted b k (word_of a)) (core_of k) a × rest (noted b k (word_of a))

-- every call of a history was answered, and every read delivered shows the number that the book has for its block just then
unfoldable pub HonestFrom : Book → List Turn → Type 0
HonestFrom b [] = Unit {0}
HonestFrom b (t ∷ ts) = HonestTurn b t.call (answered t.played) (λ b'. HonestFrom b' ts)
