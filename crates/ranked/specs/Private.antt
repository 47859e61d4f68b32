-- Of private functions only: what an edit of the lines leaves, and where a block stands.
use Rattle.std.specs.Prelude.{◌≡◌, ℕ, ◌<◌, true, length, Some, None, vec_capacity, Option, slice_index_or, slice_set}
use Rattle.std.specs.List.{remove}
use Rattle.parts.specs.declared.line.Line.{Line}
use Rattle.parts.specs.declared.mark.Mark.TheVariants.{Shared}
use Rattle.tier.specs.Meaning.{line}
use Rattle.ranked.specs.declared.ranked.Ranked.{Ranked}
use Rattle.ranks.specs.Ranks.{Ranks, find, without, renewed, apart}

-- t has the policy, the ways and the capacity of s
pub record Alike {P : Type 0} (s t : Ranked P) : Type 0 where
  pub policy : t.policy ≡ s.policy
  pub ways : t.ways ≡ s.ways
  pub cap : vec_capacity t.held ≡ vec_capacity s.held

abbrev pub no_line : Line
no_line = line 0 Shared 0

-- block n stands at place i, or nowhere: what follows for ranks in which no block stands twice
pub record Stands (ls : Ranks) (n i : ℕ) : Type 0 where
  pub within : i < length ls
  pub is : find ls n ≡ Some (slice_index_or ls i no_line)
  pub own : (slice_index_or ls i no_line).block ≡ n
  pub cut : remove ls i ≡ without ls n
  pub cut_alone : apart (remove ls i) ≡ true
  pub cut_gone : find (remove ls i) n ≡ None
  pub new : (x : Line) → x.block ≡ n → slice_set ls i x ≡ renewed ls x
  pub new_alone : (x : Line) → x.block ≡ n → apart (slice_set ls i x) ≡ true

pub record Missing (ls : Ranks) (n : ℕ) : Type 0 where
  pub is : find ls n ≡ None
  pub cut : ls ≡ without ls n
  pub new : (x : Line) → x.block ≡ n → ls ≡ renewed ls x

abbrev pub Place : Ranks → ℕ → Option ℕ → Type 0
Place ls n None = Missing ls n
Place ls n (Some i) = Stands ls n i
