-- Lines that a loop adds one behind the other.
use Rattle.std.proofs.Common.{◌≡◌, ℕ, ◌+◌, ◌<◌, ◌≤◌, List, [], ◌∷◌, ◌++◌, length, get_or, min, take, zip, flat_map, sym, ap, subst, ◌∙◌, append_assoc, arith}
use Rattle.std.proofs.lemmas.List.{append-nil, get_or_default, take_all, take_more}
use Rattle.std.proofs.lemmas.Slice.Zip.{get_or-zip, length-zip}
use Rattle.text_forms.specs.Forms.{Adds}
use Rattle.text_forms.proofs.Adding.{adds-one_more}

-- for search: texts one behind the other
pub ruleset in_a_row = (append_assoc, append-nil)

-- a step of a loop that adds a text for each
pub adds-read_more : {X : Type 0} (f : X → List ℕ) (xs : List X) (i : ℕ) (d : X) (a b c : List ℕ) → i < length xs → Adds a (flat_map f (take i xs)) b → Adds b (f (get_or xs i d)) c
    → Adds a (flat_map f (take (i + 1) xs)) c
adds-read_more f xs i d a b c lt before here =
    let x = get_or xs i d in
    subst (λ ys. Adds a (flat_map f ys) c) (sym (take_more xs i x lt ∙ ap (λ y. take i xs ++ y ∷ []) (get_or_default xs i x d lt)))
    (adds-one_more f (take i xs) x a b c before here)

-- the same where the list is made of two, member by member
pub adds-zipped_more : {X Y : Type 0} (f : X × Y → List ℕ) (xs : List X) (ys : List Y) (i : ℕ) (x : X) (y : Y) (a b c : List ℕ) → i < min (length xs) (length ys) → x ≡ get_or xs i x → y ≡ get_or ys i y
    → Adds a (flat_map f (take i (zip xs ys))) b → Adds b (f (x, y)) c → Adds a (flat_map f (take (i + 1) (zip xs ys))) c
adds-zipped_more f xs ys i x y a b c lt is is' before here =
    let pair : (x, y) ≡ get_or (zip xs ys) i (x, y) = (λ k. (is k, is' k)) ∙ sym (get_or-zip xs ys i (x, y) (omega (arith, lt)) (omega (arith, lt))) in
    adds-read_more f (zip xs ys) i (x, y) a b c (omega (arith, lt, length-zip xs ys)) before (subst (λ p. Adds b (f p) c) pair here)

pub adds-zipped_all : {X Y : Type 0} (f : X × Y → List ℕ) (xs : List X) (ys : List Y) (i : ℕ) (a b : List ℕ) → min (length xs) (length ys) ≤ i → Adds a (flat_map f (take i (zip xs ys))) b → Adds a (flat_map f (zip xs ys)) b
adds-zipped_all f xs ys i a b le before = subst (λ zs. Adds a (flat_map f zs) b) (take_all i (zip xs ys) (omega (arith, le, length-zip xs ys))) before
