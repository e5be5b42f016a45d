-- What the library does with ints and strings, on code points.
use Rattle.std.specs.Prelude.{◌≡◌, ◌≤◌, ◌+◌, ◌-◌, ◌*◌, ◌==◌, ◌&&◌, ◌||◌, ℕ, ℤ, pos, negsuc, Bool, true, false, List, [], ◌∷◌, Option, Some, None, drop, length, map, nat_le, neg_ℤ, option_map, reverse, take, if◌then◌else◌}

-- ---- characters

abbrev pub is_between : ℕ → ℕ → ℕ → Bool
is_between low high c = nat_le low c && nat_le c high

-- the characters 0x9 to 0xD and the space
abbrev pub is_blank : ℕ → Bool
is_blank c = is_between 9 13 c || (c == 32)

abbrev pub upper_ascii : ℕ → ℕ
upper_ascii c = if is_between 97 122 c then c - 32 else c

abbrev pub lower_ascii : ℕ → ℕ
lower_ascii c = if is_between 65 90 c then c + 32 else c

-- ---- parts of a text

abbrev pub without_front : List ℕ → List ℕ
without_front [] = []
without_front (c ∷ cs) = if is_blank c then without_front cs else c ∷ cs

-- without blanks at both ends
abbrev pub trimmed : List ℕ → List ℕ
trimmed t = reverse (without_front (reverse (without_front t)))

-- from a place to before another
abbrev pub part_of : {A : Type 0} → ℕ → ℕ → List A → List A
part_of i j xs = take (j - i) (drop i xs)

-- the two ints are places of a list of this length, the first one not behind the second
abbrev pub AreBounds : ℤ → ℤ → ℕ → Type 0
AreBounds (pos i) (pos j) n = (i ≤ j) × (j ≤ n)
AreBounds (pos i) (negsuc j) n = ⊥
AreBounds (negsuc i) j n = ⊥

-- ---- an int in a text

-- the number that the digits go on to
abbrev pub number_on : ℕ → List ℕ → Option ℕ
number_on n [] = Some n
number_on n (c ∷ cs) = if is_between 48 57 c then number_on (10 * n + (c - 48)) cs else None

-- the number of one or more digits
abbrev pub number_in : List ℕ → Option ℕ
number_in [] = None
number_in (c ∷ cs) = number_on 0 (c ∷ cs)

-- the int of a text that is digits, perhaps behind a sign
abbrev pub int_in : List ℕ → Option ℤ
int_in [] = None
int_in (c ∷ cs) =
    if c == 43 then option_map (λ n. pos n) (number_in cs)
    else if c == 45 then option_map (λ n. neg_ℤ (pos n)) (number_in cs)
    else option_map (λ n. pos n) (number_in (c ∷ cs))
