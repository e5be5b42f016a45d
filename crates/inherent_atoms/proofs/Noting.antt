-- Atoms that are noted, one behind another, each once.
use Rattle.std.proofs.Common.{◌≡◌, ◌≢◌, ◌∙◌, ◌+◌, ◌<◌, ◌++◌, ◌⊎◌, ℕ, zero, suc, List, [], ◌∷◌, Some, refl, sym, subst, ap, map, take, get_or, length, true, false, inl, inr}
use Rattle.std.specs.Prelude.{◌==◌, ◌||◌, Bool, flat_map, if◌then◌else◌, slice_get, slice_set}
use Rattle.std.proofs.lemmas.Bool.{cases_Bool, eqb-true, eq-eqb, both_ways}
use Rattle.std.proofs.lemmas.List.{append-nil, take_more}
use Rattle.std.proofs.lemmas.List.Folds.{flat_map-map, list_any-append}
use Rattle.std.proofs.lemmas.Grind.{flat_map-append}
use Rattle.inherent_atoms.specs.declared.found.Found.{Found}
use Rattle.inherent_atoms.specs.Found.{AreMarked, Notes}
use Rattle.inherent_atoms.specs.Named.{all_noted, is_among, noted}
use Rattle.inherent_atoms.proofs.Members.{Distinct, HasOne, distinct-more, has-back, has-front, has-parts}

pub decided : (n k : ℕ) → (n ≡ k) ⊎ (n ≢ k)
decided n k = elim (cases_Bool (n == k)) [ inl e ↦ inl (eqb-true n k e) | inr e ↦ inr (λ is. both_ways (n == k) e (eq-eqb n k is)) ]

-- ---- lists

get-set-other : (xs : List Bool) (i j : ℕ) (x : Bool) → i ≢ j → slice_get (slice_set xs j x) i ≡ slice_get xs i
get-set-other [] i j x ne = refl
get-set-other (y ∷ xs) zero zero x ne = absurd (ne refl)
get-set-other (y ∷ xs) (suc i) zero x ne = refl
get-set-other (y ∷ xs) zero (suc j) x ne = refl
get-set-other (y ∷ xs) (suc i) (suc j) x ne = get-set-other xs i j x (λ e. ne (ap suc e))

get-set-same : (xs : List Bool) (i : ℕ) (x y : Bool) → slice_get xs i ≡ Some y → slice_get (slice_set xs i x) i ≡ Some x
get-set-same [] i x y e = absurd (let bad : ⊥ = cc in bad)
get-set-same (z ∷ xs) zero x y e = refl
get-set-same (z ∷ xs) (suc i) x y e = get-set-same xs i x y e

pub among-has : (a : ℕ) (xs : List ℕ) → is_among a xs ≡ true → HasOne xs a
among-has a [] e = absurd (let bad : ⊥ = cc in bad)
among-has a (x ∷ xs) e = elim (cases_Bool (x == a)) [ inl t ↦ inl (eqb-true x a t) | inr f ↦ inr (among-has a xs (ap (λ b. b || is_among a xs) (sym f) ∙ e)) ]

pub has-among : (a : ℕ) (xs : List ℕ) → HasOne xs a → is_among a xs ≡ true
has-among a [] h = absurd h
has-among a (x ∷ xs) (inl e) = ap (λ b. b || is_among a xs) (eq-eqb x a e)
has-among a (x ∷ xs) (inr h) = ap (λ b. (x == a) || b) (has-among a xs h) ∙ or-true (x == a)
  where
    or-true : (b : Bool) → (b || true) ≡ true
    or-true true = refl
    or-true false = refl

pub noted-there : (a : ℕ) (s : List ℕ) → is_among a s ≡ true → noted a s ≡ s
noted-there a s e = ap (λ b. if b then s else s ++ a ∷ []) e

pub noted-new : (a : ℕ) (s : List ℕ) → is_among a s ≡ false → noted a s ≡ s ++ a ∷ []
noted-new a s e = ap (λ b. if b then s else s ++ a ∷ []) e

pub noted-append : (xs ys s : List ℕ) → all_noted (xs ++ ys) s ≡ all_noted ys (all_noted xs s)
noted-append [] ys s = refl
noted-append (x ∷ xs) ys s = noted-append xs ys (noted x s)

-- what was there stays in front
pub noted-front : (names s : List ℕ) → (more : List ℕ) × (all_noted names s ≡ s ++ more)
noted-front [] s = ([], sym (append-nil s))
noted-front (a ∷ names) s =
    elim (cases_Bool (is_among a s)) [
      | inl t ↦ let (more, e) = noted-front names (noted a s) in (more, e ∙ ap (λ l. l ++ more) (noted-there a s t))
      | inr f ↦ let (more, e) = noted-front names (noted a s) in (a ∷ more, e ∙ ap (λ l. l ++ more) (noted-new a s f) ∙ assoc s more)
    ]
  where
    assoc : (s more : List ℕ) → (s ++ a ∷ []) ++ more ≡ s ++ a ∷ more
    assoc [] more = refl
    assoc (x ∷ s) more = ap (λ l. x ∷ l) (assoc s more)

pub noted-has : (names s : List ℕ) (b : ℕ) → HasOne (all_noted names s) b → HasOne s b ⊎ HasOne names b
noted-has [] s b h = inl h
noted-has (a ∷ names) s b h =
    elim (noted-has names (noted a s) b h) [ inl y ↦ elim (cases_Bool (is_among a s)) [ inl t ↦ inl (subst (λ l. HasOne l b) (noted-there a s t) y) | inr f ↦ last f y ] | inr z ↦ inr (inr z) ]
  where
    last : is_among a s ≡ false → HasOne (noted a s) b → HasOne s b ⊎ HasOne (a ∷ names) b
    last f y = elim (has-parts (λ x. x ≡ b) s (a ∷ []) (subst (λ l. HasOne l b) (noted-new a s f) y)) [ inl x ↦ inl x | inr x ↦ elim x [ inl e ↦ inr (inl e) | inr z ↦ absurd z ] ]

pub noted-keeps : (names s : List ℕ) (b : ℕ) → HasOne s b → HasOne (all_noted names s) b
noted-keeps names s b h = let (more, e) = noted-front names s in subst (λ l. HasOne l b) (sym e) (has-front (λ x. x ≡ b) s more h)

noted-one : (a : ℕ) (s : List ℕ) → HasOne (noted a s) a
noted-one a s =
    elim (cases_Bool (is_among a s)) [
      | inl t ↦ subst (λ l. HasOne l a) (sym (noted-there a s t)) (among-has a s t)
      | inr f ↦ subst (λ l. HasOne l a) (sym (noted-new a s f)) (has-back (λ x. x ≡ a) s (a ∷ []) (inl refl))
    ]

pub noted-gets : (names s : List ℕ) (b : ℕ) → HasOne names b → HasOne (all_noted names s) b
noted-gets [] s b h = absurd h
noted-gets (a ∷ names) s b (inl e) = noted-keeps names (noted a s) b (subst (λ x. HasOne (noted a s) x) e (noted-one a s))
noted-gets (a ∷ names) s b (inr h) = noted-gets names (noted a s) b h

pub noted-distinct : (names s : List ℕ) → Distinct s → Distinct (all_noted names s)
noted-distinct [] s d = d
noted-distinct (a ∷ names) s d =
    noted-distinct names (noted a s)
    (elim (cases_Bool (is_among a s)) [
      | inl t ↦ subst Distinct (sym (noted-there a s t)) d
      | inr f ↦ subst Distinct (sym (noted-new a s f)) (distinct-more s a d (λ h. both_ways (is_among a s) f (has-among a s h)))
    ])

-- ---- notes

pub notes-nothing : (f : Found) → Notes [] f f
notes-nothing f = record { marked = λ m. m; atoms = λ m. refl }

pub notes-then : {xs ys : List ℕ} {f g h : Found} → Notes xs f g → Notes ys g h → Notes (xs ++ ys) f h
notes-then {xs} {ys} {f} {g} {h} n o =
    record { marked = λ m. o.marked (n.marked m); atoms = λ m. o.atoms (n.marked m) ∙ ap (all_noted ys) (n.atoms m) ∙ sym (noted-append xs ys f.atoms.items) }

pub notes-cons : {a : ℕ} {ys : List ℕ} {f g h : Found} → Notes (a ∷ []) f g → Notes ys g h → Notes (a ∷ ys) f h
notes-cons n o = notes-then n o

pub notes-there : (f : Found) (a : ℕ) → slice_get f.marked.items a ≡ Some true → Notes (a ∷ []) f f
notes-there f a at = record { marked = λ m. m; atoms = λ m. sym (noted-there a f.atoms.items (m.each a true at)) }

same-bool : {b c : Bool} → Some b ≡ Some c → b ≡ c
same-bool e = cc

pub notes-new : (f g : Found) (a : ℕ) → slice_get f.marked.items a ≡ Some false → g.atoms.items ≡ f.atoms.items ++ a ∷ [] → g.marked.items ≡ slice_set f.marked.items a true → Notes (a ∷ []) f g
notes-new f g a at atoms marks =
    record { marked = λ m. record { each = each m }; atoms = λ m. atoms ∙ sym (noted-new a f.atoms.items (m.each a false at)) }
  where
    among : (k : ℕ) → is_among k g.atoms.items ≡ (is_among k f.atoms.items || ((a == k) || false))
    among k = ap (is_among k) atoms ∙ list_any-append (λ b. b == k) f.atoms.items (a ∷ [])

    or-false : (b c : Bool) → c ≡ false → (b || (c || false)) ≡ b
    or-false true c e = refl
    or-false false c e = ap (λ x. x || false) e

    or-true : (b c : Bool) → c ≡ true → (b || (c || false)) ≡ true
    or-true true c e = refl
    or-true false c e = ap (λ x. x || false) e

    each : AreMarked f → (k : ℕ) (b : Bool) → slice_get g.marked.items k ≡ Some b → is_among k g.atoms.items ≡ b
    each m k b e =
        elim (decided a k) [
          | inl is ↦ among k ∙ or-true (is_among k f.atoms.items) (a == k) (eq-eqb a k is)
              ∙ same-bool (sym (get-set-same f.marked.items a true false at) ∙ ap (λ l. slice_get l a) (sym marks) ∙ ap (slice_get g.marked.items) is ∙ e)
          | inr other ↦ among k ∙ or-false (is_among k f.atoms.items) (a == k) (not-same other)
              ∙ m.each k b (sym (get-set-other f.marked.items k a true (λ is. other (sym is))) ∙ ap (λ l. slice_get l k) (sym marks) ∙ e)
        ]
      where
        not-same : a ≢ k → (a == k) ≡ false
        not-same other = elim (cases_Bool (a == k)) [ inl t ↦ absurd (other (eqb-true a k t)) | inr f ↦ f ]

-- ---- at first

-- nothing is marked
abbrev pub AllFalse : List Bool → Type 0
AllFalse xs = (a : ℕ) (b : Bool) → slice_get xs a ≡ Some b → b ≡ false

false-append : (xs : List Bool) → AllFalse xs → AllFalse (xs ++ false ∷ [])
false-append [] all zero b e = same-bool (sym e)
false-append [] all (suc a) b e = absurd (let bad : ⊥ = cc in bad)
false-append (x ∷ xs) all zero b e = all 0 b e
false-append (x ∷ xs) all (suc a) b e = false-append xs (λ k c at. all (suc k) c at) a b e

pub false-next : (xs news : List Bool) → news ≡ xs ++ false ∷ [] → AllFalse xs → AllFalse news
false-next xs news pushed all = subst AllFalse (sym pushed) (false-append xs all)

pub none-false : AllFalse []
none-false a b e = absurd (let bad : ⊥ = cc in bad)

pub none-marked : (f : Found) → AllFalse f.marked.items → f.atoms.items ≡ [] → AreMarked f
none-marked f all none = record { each = λ a b at. ap (is_among a) none ∙ sym (all a b at) }

-- ---- in loops

-- one more of those that come one after another
pub notes-next : {X : Type 0} (name : X → List ℕ) (xs : List X) (i : ℕ) (x : X) (f g h : Found) → i < length xs → x ≡ get_or xs i x → Notes (flat_map name (take i xs)) f g → Notes (name x) g h → Notes (flat_map name (take (i + 1) xs)) f h
notes-next name xs i x f g h lt is n o =
    subst (λ l. Notes l f h) (sym (ap (flat_map name) (take_more xs i x lt ∙ ap (λ y. take i xs ++ y ∷ []) (sym is)) ∙ flat_map-append name (take i xs) (x ∷ []) ∙ ap (λ l. flat_map name (take i xs) ++ l) (append-nil (name x)))) (notes-then n o)

-- and so of what is made of each
pub mapped-next : {X Y : Type 0} (v : X → Y) (name : Y → List ℕ) (xs : List X) (i : ℕ) (x : X) (f g h : Found) → i < length xs → x ≡ get_or xs i x → Notes (flat_map name (map v (take i xs))) f g → Notes (name (v x)) g h → Notes (flat_map name (map v (take (i + 1) xs))) f h
mapped-next v name xs i x f g h lt is n o =
    subst (λ l. Notes l f h) (sym (flat_map-map name v (take (i + 1) xs))) (notes-next (λ x. name (v x)) xs i x f g h lt is (subst (λ l. Notes l f g) (flat_map-map name v (take i xs)) n) o)

pub ruleset noting = (notes-nothing, notes-there, notes-cons, notes-then, none-false, none-marked)
