-- The words that lines begin with, and where they may stand.
use Rattle.std.specs.Prelude.{ℕ, Bool, true, false, cond, List, Some, None, Option, bytes_eq, codes}
use Rattle.records.specs.declared.keyword.Keyword.{Keyword}
use Rattle.records.specs.declared.keyword.Keyword.TheVariants.{Weights, Ref, Step}
use Rattle.records.specs.declared.keyword.Verb.TheVariants.{Read, Write, Commit, Flush, Fetch, Resume}
use Rattle.records.specs.declared.keyword.Section.{Section}
use Rattle.records.specs.declared.keyword.Section.TheVariants.{Scenario, Refs, Steps, Placement, Schedule}

-- byte for byte
abbrev pub keyword_of : List ℕ → Option Keyword
keyword_of bs =
    cond (bytes_eq bs (codes "weights")) (Some Weights)
    (cond (bytes_eq bs (codes "ref")) (Some Ref)
    (cond (bytes_eq bs (codes "read")) (Some (Step Read))
    (cond (bytes_eq bs (codes "write")) (Some (Step Write))
    (cond (bytes_eq bs (codes "commit")) (Some (Step Commit))
    (cond (bytes_eq bs (codes "flush")) (Some (Step Flush))
    (cond (bytes_eq bs (codes "fetch")) (Some (Step Fetch))
    (cond (bytes_eq bs (codes "resume")) (Some (Step Resume)) None)))))))

-- whether a line with this word may come next
abbrev pub allows : Section → Keyword → Bool
allows Scenario Weights = true
allows Refs Ref = true
allows Refs (Step v) = true
allows Steps (Step v) = true
allows Placement Ref = true
allows Schedule Weights = true
allows _ _ = false
