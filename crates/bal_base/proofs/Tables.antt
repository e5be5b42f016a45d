-- Tables of constants: one evaluation over the table shows what holds of each member.
use Rattle.std.proofs.Common.{◌≡◌, ℕ, zero, suc, Bool, true, false, cond, ◌&&◌, not, List, [], ◌∷◌, Some, Contains, find, sym, ap, ◌∙◌, arith}
use Rattle.std.specs.List.{list_all}
use Rattle.std.specs.Str.{bytes_eq}
use Rattle.std.proofs.lemmas.Bool.{and_parts, not-true}
use Rattle.std.proofs.lemmas.Option.{same_Some}
use Rattle.std.proofs.lemmas.Slice.Eq.{bytes_eq-Decides}

-- a test that all members of a list pass
pub list_all-at : {X : Type 0} (p : X → Bool) (xs : List X) (x : X) → list_all p xs ≡ true → Contains xs x → p x ≡ true
list_all-at p [] y all (k, lt, e) = absurd (omega arith)
list_all-at p (x ∷ xs) y all (zero, lt, e) = ap p (sym e) ∙ (and_parts (p x) (list_all p xs) all).0
list_all-at p (x ∷ xs) y all (suc k, lt, e) = list_all-at p xs y (and_parts (p x) (list_all p xs) all).1 (k, omega arith, e)

-- a test that all members of a table pass, where the table leaves nothing of the type out
pub every : {X : Type 0} (table : List X) → ((x : X) → Contains table x) → (p : X → Bool) → list_all p table ≡ true → (x : X) → p x ≡ true
every table complete p all x = list_all-at p table x all (complete x)

-- no two members are written alike
abbrev pub all_apart : {X : Type 0} → (X → List ℕ) → List X → Bool
all_apart text [] = true
all_apart text (x ∷ xs) = list_all (λ y. not (bytes_eq (text x) (text y))) xs && all_apart text xs

-- so the first that is written as a member is that member
pub find-written : {X : Type 0} (text : X → List ℕ) (xs : List X) (x : X) → all_apart text xs ≡ true → Contains xs x → find (λ y. bytes_eq (text y) (text x)) xs ≡ Some x
find-written text [] x apart (k, lt, e) = absurd (omega arith)
find-written text (z ∷ zs) x apart (zero, lt, e) =
    let same : bytes_eq (text z) (text x) ≡ true = (bytes_eq-Decides (text z) (text x)).1 (ap text e) in
    ap (λ b. cond b (Some z) (find (λ y. bytes_eq (text y) (text x)) zs)) same ∙ ap Some e
find-written text (z ∷ zs) x apart (suc k, lt, e) =
    let parts = and_parts (list_all (λ y. not (bytes_eq (text z) (text y))) zs) (all_apart text zs) apart in
    let there : Contains zs x = (k, omega arith, e) in
    let other : bytes_eq (text z) (text x) ≡ false = not-true (bytes_eq (text z) (text x)) (list_all-at (λ y. not (bytes_eq (text z) (text y))) zs x parts.0 there) in
    ap (λ b. cond b (Some z) (find (λ y. bytes_eq (text y) (text x)) zs)) other ∙ find-written text zs x parts.1 there

-- and members that are written alike are one
pub apart-same : {X : Type 0} (text : X → List ℕ) (xs : List X) (g h : X) → all_apart text xs ≡ true → Contains xs g → Contains xs h → text g ≡ text h → g ≡ h
apart-same text xs g h apart has_g has_h same =
    same_Some g h (sym (find-written text xs g apart has_g) ∙ ap (λ t. find (λ y. bytes_eq (text y) t) xs) same ∙ find-written text xs h apart has_h)
