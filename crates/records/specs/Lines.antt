-- A line, as its word and its other fields.
use Rattle.std.specs.Prelude.{ℕ, ◌+◌, cond, List, [], ◌∷◌, length, Some, None, Ok, Err, Option, Result, ◌==◌, nat_lt}
use Rattle.fields.specs.Parts.{parts}
use Rattle.numeral.specs.declared.BadNumber.{BadNumber}
use Rattle.numeral.specs.Number.{number_of}
use Rattle.records.specs.declared.fault.Place.{Place}
use Rattle.records.specs.declared.fault.TextFault.{TextFault}
use Rattle.records.specs.declared.fault.TextFault.TheVariants.{Unended, Misplaced, Miscounted, NotANumber}
use Rattle.records.specs.declared.keyword.Keyword.{Keyword}
use Rattle.records.specs.declared.keyword.Keyword.TheVariants.{Weights, Ref, Step}
use Rattle.records.specs.declared.keyword.Verb.TheVariants as verb
use Rattle.records.specs.declared.keyword.Section.{Section}
use Rattle.records.specs.Keywords.{keyword_of, allows}
use Rattle.records.specs.declared.record.Field.{Field}
use Rattle.records.specs.declared.record.Record.{Record}
use Rattle.records.specs.declared.record.Record.TheVariants as a_record

-- a field: its bytes, and its place
abbrev pub Located : Type 0
Located = List ℕ × Place

abbrev pub located : Field → Located
located f = (f.bytes.now, f.place)

-- the number that a field writes
abbrev pub numbered : Place → Result ℕ BadNumber → Result ℕ TextFault
numbered p (Ok n) = Ok n
numbered p (Err e) = Err (NotANumber p)

abbrev pub number_in : Located → Result ℕ TextFault
number_in f = numbered f.1 (number_of f.0)

-- a record, as its word and its other fields
abbrev pub record_as : Record → Keyword × List Located
record_as (a_record.Weights a b c d e) = (Weights, located a ∷ located b ∷ located c ∷ located d ∷ located e ∷ [])
record_as (a_record.Ref a b) = (Ref, located a ∷ located b ∷ [])
record_as (a_record.Read a b) = (Step verb.Read, located a ∷ located b ∷ [])
record_as (a_record.Write a b) = (Step verb.Write, located a ∷ located b ∷ [])
record_as (a_record.Commit a b) = (Step verb.Commit, located a ∷ located b ∷ [])
record_as (a_record.Flush a b) = (Step verb.Flush, located a ∷ located b ∷ [])
record_as (a_record.Fetch a) = (Step verb.Fetch, located a ∷ [])
record_as (a_record.Resume a) = (Step verb.Resume, located a ∷ [])

abbrev pub recorded : Result Record TextFault → Result (Keyword × List Located) TextFault
recorded (Ok r) = Ok (record_as r)
recorded (Err e) = Err e

-- how many numbers follow a word
abbrev pub numbers_after : Keyword → ℕ
numbers_after Weights = 5
numbers_after Ref = 2
numbers_after (Step verb.Read) = 2
numbers_after (Step verb.Write) = 2
numbers_after (Step verb.Commit) = 2
numbers_after (Step verb.Flush) = 2
numbers_after (Step verb.Fetch) = 1
numbers_after (Step verb.Resume) = 1

-- the fields ps of a line, with their places, from field k on
abbrev pub places : ℕ → ℕ → List (List ℕ) → List Located
places line k [] = []
places line k (p ∷ ps) = (p, record { line = line; field = k }) ∷ places line (k + 1) ps

-- the fields after a word, if they are as many as it wants
abbrev pub counted : Keyword → ℕ → List (List ℕ) → Option (Keyword × List Located)
counted w line ps = cond (length ps == numbers_after w) (Some (w, places line 2 ps)) None

abbrev pub or_miscounted : ℕ → Option (Keyword × List Located) → Result (Keyword × List Located) TextFault
or_miscounted line (Some r) = Ok r
or_miscounted line None = Err (Miscounted line)

abbrev pub worded : Section → ℕ → Option Keyword → List (List ℕ) → Result (Keyword × List Located) TextFault
worded s line None ps = Err (Misplaced line)
worded s line (Some w) ps = cond (allows s w) (or_miscounted line (counted w line ps)) (Err (Misplaced line))

abbrev pub record_of : Section → ℕ → List (List ℕ) → Result (Keyword × List Located) TextFault
record_of s line [] = Err (Misplaced line)
record_of s line (p ∷ ps) = worded s line (keyword_of p) ps

-- a line without its line feed
abbrev pub line_of : Section → ℕ → List ℕ → Result (Keyword × List Located) TextFault
line_of s line bs = cond (nat_lt 80 (length bs)) (Err (Unended line)) (record_of s line (parts 9 bs))
