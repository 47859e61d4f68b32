-- The weights of the code, as prices.
use Rattle.std.specs.Prelude.{Ok, Err, Result}
use Rattle.protocol.specs.declared.refusal.Refusal.{Refusal}
use Rattle.protocol.specs.declared.weights.Prices.{Prices}
use Rattle.protocol.specs.declared.weights.Weights.{Weights}

abbrev pub prices_of : Weights → Prices
prices_of w = w.prices

abbrev pub weighed : Result Weights Refusal → Result Prices Refusal
weighed (Ok w) = Ok (prices_of w)
weighed (Err e) = Err e
