-- A fetch and a flush are accepted just where a run tells that they can be made.
use Rattle.std.proofs.Common.{◌≡◌, ℕ, Bool, ltb, is_some, Some, None, Option, refl, ap, ◌∙◌}
use Rattle.std.proofs.lemmas.Bool.{lt-ltb}
use Rattle.memory.specs.Meaning.{size_of}
use Rattle.protocol.specs.declared.access.Access.{Access}
use Rattle.protocol.specs.declared.access.CoreState.{CoreState}
use Rattle.protocol.specs.declared.access.CoreState.TheVariants.{Ready, Waiting, Due}
use Rattle.protocol.specs.declared.call.Call.TheVariants.{Fetch, Flush}
use Rattle.protocol.specs.declared.refusal.Refusal.TheVariants.{TooManySteps, NoSuchCore, NoSuchBlock}
use Rattle.protocol.specs.Accesses.{block_of}
use Rattle.protocol.specs.Answers.{word_of}
use Rattle.row.specs.Cores.{count_of, state_at}
use Rattle.study.specs.Run.{RunMeaning, most_steps, Outcome}
use Rattle.study.specs.Step.{valid, provided, fetchable_in, fetch_by, owed, flush_by, act, step}
use Rattle.study.specs.Words.{is_accepted}
use Rattle.study.specs.Foretold.{FetchForetold, FlushForetold}

abbrev says : Outcome → Bool
says o = is_accepted (word_of o.answer)

module _ (r : RunMeaning) (c : ℕ) where
  fetched : (a : Access) (o : Option ℕ) → says (fetch_by r c a o) ≡ is_some o
  fetched a None = refl
  fetched a (Some s) = refl

  fetches : (s : CoreState) → says (act r (Fetch c) s) ≡ is_some (fetchable_in r.memory s)
  fetches Ready = refl
  fetches (Waiting a) = fetched a (valid r.memory (block_of a))
  fetches (Due a) = refl

  pub fetch_foretold : FetchForetold r c
  unfolding step
  fetch_foretold room there =
      ap (λ x. says (provided x TooManySteps r (provided (ltb c (count_of r.cores)) NoSuchCore r (act r (Fetch c) (state_at r.cores c))))) (lt-ltb r.tally.steps most_steps room)
      ∙ ap (λ x. says (provided x NoSuchCore r (act r (Fetch c) (state_at r.cores c)))) (lt-ltb c (count_of r.cores) there)
      ∙ fetches (state_at r.cores c)

  module _ (n : ℕ) where
    flushed : (o : Option ℕ) → says (flush_by r c n o) ≡ is_some o
    flushed None = refl
    flushed (Some s) = refl

    flushes : (s : CoreState) → says (act r (Flush c n) s) ≡ is_some (owed r c n)
    flushes Ready = flushed (owed r c n)
    flushes (Waiting a) = flushed (owed r c n)
    flushes (Due a) = flushed (owed r c n)

    pub flush_foretold : FlushForetold r c n
    unfolding step
    flush_foretold room there within =
        ap (λ x. says (provided x TooManySteps r (provided (ltb c (count_of r.cores)) NoSuchCore r
        (provided (ltb n (size_of r.memory)) NoSuchBlock r (act r (Flush c n) (state_at r.cores c)))))) (lt-ltb r.tally.steps most_steps room)
        ∙ ap (λ x. says (provided x NoSuchCore r (provided (ltb n (size_of r.memory)) NoSuchBlock r (act r (Flush c n) (state_at r.cores c))))) (lt-ltb c (count_of r.cores) there)
        ∙ ap (λ x. says (provided x NoSuchBlock r (act r (Flush c n) (state_at r.cores c)))) (lt-ltb n (size_of r.memory) within)
        ∙ flushes (state_at r.cores c)
