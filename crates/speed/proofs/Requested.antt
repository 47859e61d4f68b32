-- Playing what is asked for, one request after another.
use Rattle.std.proofs.Common.{◌≡◌, ℕ, ◌+◌, ◌<◌, ◌≤◌, List, map, length, get_or, drop, sym, ap, ◌∙◌, drop_of_length-le}
use Rattle.std.proofs.lemmas.List.{drop_more}
use Rattle.protocol.specs.declared.call.Call.{Call}
use Rattle.study.specs.Run.{RunMeaning}
use Rattle.study.specs.Step.{step}
use Rattle.study.specs.Play.{played}

module _ {A : Type 0} (call : A → Call) (r : RunMeaning) (s : List A) (i : ℕ) where
  pub played-next : (r' : RunMeaning) (d : A) → i < length s → r' ≡ (step r (call (get_or s i d))).run → played r' (map call (drop (i + 1) s)) ≡ played r (map call (drop i s))
  unfolding played
  played-next r' d lt run = ap (λ x. played x (map call (drop (i + 1) s))) run ∙ sym (ap (λ ts. played r (map call ts)) (drop_more s i d lt))

  pub played_end : length s ≤ i → r ≡ played r (map call (drop i s))
  unfolding played
  played_end le = sym (ap (λ ts. played r (map call ts)) (drop_of_length-le s le))
