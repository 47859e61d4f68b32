-- Powers of two, and their low bits.
use Rattle.std.proofs.Common.{◌≡◌, ℕ, zero, suc, ◌+◌, ◌*◌, ◌-◌, ◌/◌, ◌%◌, ◌≤◌, min, sym, ap, ◌∙◌, arith}
use Rattle.std.specs.Int.Bits.{bit_and, and_step, and_self}
use Rattle.std.specs.Int.{IsPowerOfTwo}
use Rattle.std.proofs.lemmas.Nat.{and_mask}

-- what is left of two numbers that have no bit in common, without their last bits
halves : (a b c d : ℕ) → a / 2 ≡ c → b / 2 ≡ d → bit_and a b ≡ 0 → bit_and c d ≡ 0
halves a b c d p q e =
    let s : bit_and a b ≡ bit_and (a / 2) (b / 2) * 2 + min (a % 2) (b % 2) = and_step a b in
    let z : bit_and (a / 2) (b / 2) ≡ 0 = omega arith in
    rw (p, q) at z

-- a number that has no bit in common with the one before it is a power of two
power : (fuel n : ℕ) → n ≤ fuel → 1 ≤ n → bit_and n (n - 1) ≡ 0 → IsPowerOfTwo n
power zero n h p e = absurd (omega arith)
power (suc fuel) n h p e = go (n / 2) (n % 2) (omega arith) (omega arith) (power fuel)
  where
    go : (m b : ℕ) → n ≡ m * 2 + b → b ≤ 1
        → ((i : ℕ) → i ≤ fuel → 1 ≤ i → bit_and i (i - 1) ≡ 0 → IsPowerOfTwo i) → IsPowerOfTwo n
    go m zero q l rest =
        let half = rest m (omega arith) (omega arith) (halves n (n - 1) m (m - 1) (omega arith) (omega arith) e) in
        (suc half.0, omega (arith, q, half.1))
    go m (suc zero) q l rest =
        let none : m ≡ 0 = sym (and_self m) ∙ halves n (n - 1) m m (omega arith) (omega arith) e in
        (0, omega (arith, q, none))
    go m (suc (suc b)) q l rest = absurd (omega arith)

-- so the bits of the number before it tell a remainder
pub low_bits : (b n low : ℕ) → low + 1 ≡ n → bit_and n low ≡ 0 → bit_and b low ≡ b % n
low_bits b n low q e =
    let before : low ≡ n - 1 = omega arith in
    let w = power n n (omega arith) (omega arith) (rw before at e) in
    ap (bit_and b) before ∙ ap (λ k. bit_and b (k - 1)) w.1 ∙ and_mask b w.0 ∙ ap (λ k. b % k) (sym w.1)
