-- Playing a schedule, one call after another.
use Rattle.std.proofs.Common.{◌≡◌, ℕ, ◌+◌, ◌<◌, ◌≤◌, List, [], ◌∷◌, ◌++◌, length, Some, get_or, take, drop, set, sym, ap, ◌∙◌, append_assoc, append-nil, add-one, arith, drop_of_length-le, take_all, take-suc-set, drop-set-lt}
use Rattle.std.proofs.lemmas.List.{drop_more}
use Rattle.protocol.specs.declared.call.Call.{Call}
use Rattle.study.specs.declared.turn.Played.{Played}
use Rattle.study.specs.declared.turn.Turn.{Turn}
use Rattle.study.specs.Run.{RunMeaning}
use Rattle.study.specs.Step.{step}
use Rattle.study.specs.Play.{played_of, turn_of, played, history, calls_of}

abbrev with_answer : Call → Played → Turn
with_answer k p = record { call = k; played = Some p }

-- the call k of turn i was made, and what became of it stands beside it
module _ (r r' : RunMeaning) (s : List Turn) (i : ℕ) (d : Turn) (p : Played) (lt : i < length s)
    (run : r' ≡ (step r (get_or s i d).call).run) (told : p ≡ played_of r (get_or s i d).call) where
  abbrev x : Turn
  x = with_answer (get_or s i d).call p

  turn : x ≡ turn_of r (get_or s i d).call
  turn = ap (with_answer (get_or s i d).call) told

  rest : drop (i + 1) (set s i x) ≡ drop (i + 1) s
  rest = drop-set-lt (i + 1) s i x (omega arith)

  pub played-next : played r' (calls_of (drop (i + 1) (set s i x))) ≡ played r (calls_of (drop i s))
  unfolding played
  played-next =
      (λ j. played (run j) (calls_of (rest j)))
      ∙ sym (ap (λ ts. played r (calls_of ts)) (drop_more s i d lt))

  pub history-next : take (i + 1) (set s i x) ++ history r' (calls_of (drop (i + 1) (set s i x))) ≡ take i s ++ history r (calls_of (drop i s))
  unfolding history
  history-next =
      ap (λ j. take j (set s i x) ++ history r' (calls_of (drop (i + 1) (set s i x)))) (add-one i)
      ∙ ap (λ ts. ts ++ history r' (calls_of (drop (i + 1) (set s i x)))) (take-suc-set s i x lt)
      ∙ append_assoc (take i s) (x ∷ []) (history r' (calls_of (drop (i + 1) (set s i x))))
      ∙ (λ j. take i s ++ (turn j ∷ history (run j) (calls_of (rest j))))
      ∙ sym (ap (λ ts. take i s ++ history r (calls_of ts)) (drop_more s i d lt))

module _ (r : RunMeaning) (s : List Turn) (i : ℕ) (le : length s ≤ i) where
  pub played_end : r ≡ played r (calls_of (drop i s))
  unfolding played
  played_end = sym (ap (λ ts. played r (calls_of ts)) (drop_of_length-le s le))

  pub history_end : s ≡ take i s ++ history r (calls_of (drop i s))
  unfolding history
  history_end = sym (ap (λ ts. take i s ++ history r (calls_of ts)) (drop_of_length-le s le) ∙ append-nil (take i s) ∙ take_all i s le)
