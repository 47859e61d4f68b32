-- The room before the bytes of a line.
use Rattle.std.proofs.Common.{◌≡◌, ℕ, ◌+◌, ◌≤◌, ◌<◌, ◌^◌, List, length, drop, decimal, ap, arith, length-drop}
use Rattle.std.proofs.lemmas.Fmt.{length-decimal-le}

-- what begins at `start` has so many bytes before it
pub before : (start : ℕ) (bytes line : List ℕ) → drop start bytes ≡ line → start ≤ length bytes → start + length line ≡ length bytes
before start bytes line e l = omega (arith, ap length e, length-drop start bytes)

pub at_most_20 : (n : ℕ) → n < 2 ^ 64 → length (decimal n) ≤ 20
at_most_20 n h = length-decimal-le 20 n (omega arith) (omega arith) h
