-- Numbers of few digits do not overflow.
use Rattle.std.proofs.Common.{ℕ, suc, ◌+◌, ◌*◌, ◌^◌, ◌<◌, ◌≤◌, arith, lit<}
use Rattle.std.proofs.Math.Nat.{mul-le-mul_left, mul-le-mul_right, pow-le-pow_left, pow-le-pow_right, pow-succ'}

-- if a number has at most i digits, it has at most i + 1 after a digit is appended
pub more_digits : (radix n d i : ℕ) → n < radix ^ i → d < radix → radix * n + d < radix ^ suc i
more_digits radix n d i below digit =
    let whole : radix * suc n ≤ radix * radix ^ i = mul-le-mul_left radix below in
    omega (arith, whole, pow-succ' radix i)

-- bounds on the powers and products that occur while a number in a radix up to 16 is computed
pub digits_fit : (radix i most : ℕ) → 2 ≤ radix → radix ≤ 16 → i ≤ most → radix ^ i ≤ 16 ^ most
digits_fit radix i most low high few =
    let radix_up : radix ^ i ≤ 16 ^ i = pow-le-pow_left high i in
    let length_up : 16 ^ i ≤ 16 ^ most = pow-le-pow_right (lit< tt) few in
    omega (arith, radix_up, length_up)

pub product_fits : (radix n i : ℕ) → 2 ≤ radix → radix ≤ 16 → i ≤ 8 → n < radix ^ i → radix * n ≤ 16 * 16 ^ 8
product_fits radix n i low high few below =
    let fits = digits_fit radix i 8 low high few in
    let by_radix : radix * n ≤ 16 * n = mul-le-mul_right n high in
    omega (arith, fits, by_radix)
