-- ASCII letters in upper and in lower case.
use Rattle.std.proofs.Common.{◌≡◌, ◌+◌, ◌-◌, ◌&&◌, ℕ, Bool, true, false, nat_le, nat_lt, refl, arith}
use Rattle.std.specs.Prelude.{if◌then◌else◌}
use Rattle.std.specs.Char.{to_ascii_lowercase, to_ascii_uppercase}
use Rattle.std.proofs.lemmas.Bool.{leb-false, leb-true, ltb-false, ltb-true}
use Rattle.op_model.specs.Strings.{lower_ascii, upper_ascii}

-- two ways of telling whether a number is between two others
by : (low high c new : ℕ) (a b x y : Bool) → nat_lt c low ≡ a → nat_lt c (high + 1) ≡ b → nat_le low c ≡ x → nat_le c high ≡ y → (if a then c else (if b then new else c)) ≡ (if x && y then new else c)
by low high c new true b true y p q r s = absurd (let l = ltb-true c low p in let m = leb-true low c r in omega (arith, l, m))
by low high c new true b false y p q r s = refl
by low high c new false b false y p q r s = absurd (let l = ltb-false c low p in let m = leb-false low c r in omega (arith, l, m))
by low high c new false true true true p q r s = refl
by low high c new false true true false p q r s = absurd (let l = ltb-true c (high + 1) q in let m = leb-false c high s in omega (arith, l, m))
by low high c new false false true true p q r s = absurd (let l = ltb-false c (high + 1) q in let m = leb-true c high s in omega (arith, l, m))
by low high c new false false true false p q r s = refl

pub upper-same : (c : ℕ) → to_ascii_uppercase c ≡ upper_ascii c
upper-same c = by 97 122 c (c - 32) (nat_lt c 97) (nat_lt c 123) (nat_le 97 c) (nat_le c 122) refl refl refl refl

pub lower-same : (c : ℕ) → to_ascii_lowercase c ≡ lower_ascii c
lower-same c = by 65 90 c (c + 32) (nat_lt c 65) (nat_lt c 91) (nat_le 65 c) (nat_le c 90) refl refl refl refl
