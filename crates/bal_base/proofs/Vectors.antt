-- Vectors of any items, of which there are no more than one can hold.
use Rattle.std.proofs.Common.{◌≡◌, ◌<◌, ◌^◌, List, Vec, length, refl, arith}

-- a vector with these items, that stands where another one does
abbrev pub holding : {X Y H : Type 0} → Vec X H → (ys : List Y) → length ys < 2 ^ 63 → Vec Y H
holding d ys small = record { ptr = d.ptr; len = length ys; cap = length ys; alloc = d.alloc; items = ys; ok = (refl, omega arith); small = small }

pub length-small : {X H : Type 0} (d : Vec X H) → length d.items < 2 ^ 63
length-small d = let ok = d.ok in let small = d.small in omega (arith, ok.0, ok.1, small)
