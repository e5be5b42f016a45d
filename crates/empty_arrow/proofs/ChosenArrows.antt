-- Arrows of a path that are chosen by a test: a list of some of them asks what those that it has ask.
use Rattle.std.proofs.Common.{◌≡◌, ℕ, ◌==◌, List, [], ◌∷◌, ◌&&◌, ◌||◌, not, map, cond, Bool, true, false, All, Contains, refl, sym, ap, subst, ◌∙◌, eq-eqb}
use Rattle.std.specs.List.{filter, list_any, list_all}
use Rattle.std.proofs.lemmas.Bool.{false≢true, eqb-true}
use Rattle.std.proofs.lemmas.List.Folds.{list_all-map}
use Rattle.std.proofs.lemmas.List.Elements.{All-nil, All-cons, All-head, All-tail, All-contains}
use Rattle.type_model.specs.declared.atoms.AtomDef.{AtomDef}
use Rattle.type_diagrams.specs.Conditions.{Condition, AreOne, asks}
use Rattle.type_diagrams.specs.Members.{arguments_of}
use Rattle.type_diagrams.specs.Questions.{asks_arguments, lists, readonly}

-- ---- lists with the same members

module _ (xs : List ℕ) where
  -- whether a number is one of these
  abbrev pub is_in : ℕ → Bool
  is_in a = list_any (λ x. x == a) xs

pub is_in-here : (x : ℕ) (xs : List ℕ) → is_in (x ∷ xs) x ≡ true
is_in-here x xs = ap (λ b. b || is_in xs x) (eq-eqb x x refl)

or_right : (a b : Bool) → b ≡ true → (a || b) ≡ true
or_right true b h = refl
or_right false b h = h

is_in-all : (xs ys : List ℕ) → ((a : ℕ) → is_in xs a ≡ true → is_in ys a ≡ true) → All (λ a. is_in ys a ≡ true) xs
is_in-all [] ys f = All-nil _
is_in-all (x ∷ xs) ys f = All-cons (λ a. is_in ys a ≡ true) x xs (f x (is_in-here x xs)) (is_in-all xs ys (λ a h. f a (or_right (x == a) (is_in xs a) h)))

-- a test of all holds of each
module _ (test : ℕ → Bool) where
  all-each : (xs : List ℕ) (a : ℕ) → list_all test xs ≡ true → is_in xs a ≡ true → test a ≡ true
  all-each [] a h among = absurd (false≢true among)
  all-each (x ∷ xs) a h among = by (test x) (x == a) refl refl h among (λ r s. all-each xs a r s)
    where
      by : (b c : Bool) → test x ≡ b → (x == a) ≡ c → (b && list_all test xs) ≡ true → (c || is_in xs a) ≡ true → (list_all test xs ≡ true → is_in xs a ≡ true → test a ≡ true) → test a ≡ true
      by true true e f h s rest = subst (λ y. test y ≡ true) (eqb-true x a f) e
      by true false e f h s rest = rest h s
      by false c e f h s rest = absurd (false≢true h)

  each-all : (xs : List ℕ) → ((a : ℕ) → is_in xs a ≡ true → test a ≡ true) → list_all test xs ≡ true
  each-all [] f = refl
  each-all (x ∷ xs) f = by (test x) (f x (is_in-here x xs)) (each-all xs (λ a h. f a (or_right (x == a) (is_in xs a) h)))
    where
      by : (b : Bool) → b ≡ true → list_all test xs ≡ true → (b && list_all test xs) ≡ true
      by true e rest = rest
      by false e rest = absurd (false≢true e)

  by_both : (a b : Bool) → (a ≡ true → b ≡ true) → (b ≡ true → a ≡ true) → a ≡ b
  by_both true b f g = sym (f refl)
  by_both false true f g = g refl
  by_both false false f g = refl

  -- the test holds of all of one where it holds of all of the other
  pub same-members : (xs ys : List ℕ) → ((a : ℕ) → is_in xs a ≡ is_in ys a) → list_all test xs ≡ list_all test ys
  same-members xs ys same =
      by_both (list_all test xs) (list_all test ys)
      (λ h. each-all ys (λ a among. all-each xs a h (same a ∙ among)))
      (λ h. each-all xs (λ a among. all-each ys a h (sym (same a) ∙ among)))

-- ---- some of a list, chosen by a test

is_in-filter : (f : ℕ → Bool) (xs : List ℕ) (a : ℕ) → is_in (filter f xs) a ≡ (is_in xs a && f a)
is_in-filter f [] a = refl
is_in-filter f (x ∷ xs) a = by (f x) (x == a) refl refl (is_in-filter f xs a)
  where
    swallow : (b : Bool) → f a ≡ true → (b && f a) ≡ b
    swallow true e = e
    swallow false e = refl

    nothing : (b : Bool) → f a ≡ false → false ≡ (b && f a)
    nothing true e = sym e
    nothing false e = refl

    by : (b c : Bool) → f x ≡ b → (x == a) ≡ c → is_in (filter f xs) a ≡ (is_in xs a && f a) → is_in (cond b (x ∷ filter f xs) (filter f xs)) a ≡ ((c || is_in xs a) && f a)
    by true true e s rest = ap (λ d. d || is_in (filter f xs) a) s ∙ sym (ap f (sym (eqb-true x a s)) ∙ e)
    by true false e s rest = ap (λ d. d || is_in (filter f xs) a) s ∙ rest
    by false true e s rest = let out : f a ≡ false = ap f (sym (eqb-true x a s)) ∙ e in rest ∙ sym (nothing (is_in xs a) out) ∙ sym out
    by false false e s rest = rest

is_in-Contains : (xs : List ℕ) (a : ℕ) → Contains xs a → is_in xs a ≡ true
is_in-Contains xs a among = All-contains (λ b. is_in xs b ≡ true) xs a (is_in-all xs xs (λ b h. h)) among

subset : (wanted ys : List ℕ) → All (Contains wanted) ys → (c : ℕ) → is_in ys c ≡ true → is_in wanted c ≡ true
subset wanted ys h c s = all-each (is_in wanted) ys c (each-in ys h) s
  where
    each-in : (zs : List ℕ) → All (Contains wanted) zs → list_all (is_in wanted) zs ≡ true
    each-in [] h = refl
    each-in (z ∷ zs) h =
        ap (λ b. b && list_all (is_in wanted) zs) (is_in-Contains wanted z (All-head (Contains wanted) z zs h)) ∙ each-in zs (All-tail (Contains wanted) z zs h)

-- those of a list that are in another, all of which are in it, are the other's members
pub chosen-members : (wanted some : List ℕ) → All (Contains wanted) some → (a : ℕ) → is_in (filter (is_in some) wanted) a ≡ is_in some a
chosen-members wanted some among a = is_in-filter (is_in some) wanted a ∙ by (is_in some a) refl
  where
    and_false : (d : Bool) → (d && false) ≡ false
    and_false true = refl
    and_false false = refl

    by : (b : Bool) → is_in some a ≡ b → (is_in wanted a && is_in some a) ≡ is_in some a
    by true e = ap (λ d. d && is_in some a) (subset wanted some among a e)
    by false e = ap (λ d. is_in wanted a && d) e ∙ and_false (is_in wanted a) ∙ sym e

-- ---- questions about arguments

module _ (env : List AtomDef) (wanted left : List ℕ) (among : All (Contains wanted) left) (of : Condition) where
  module _ (p : Condition → Bool) where
    arguments-same : list_all (λ c. not (p c)) (map (arguments_of env) left) ≡ list_all (λ c. not (p c)) (map (arguments_of env) (filter (is_in left) wanted))
    arguments-same =
        list_all-map (λ c. not (p c)) (arguments_of env) left
        ∙ same-members (λ b. not (p (arguments_of env b))) left (filter (is_in left) wanted) (λ b. sym (chosen-members wanted left among b))
        ∙ sym (list_all-map (λ c. not (p c)) (arguments_of env) (filter (is_in left) wanted))

    regroup : (x r l : Bool) → (((x && (not r && true)) && true) && l) ≡ (x && (not r && l))
    regroup true true l = refl
    regroup true false l = refl
    regroup false r l = refl

    arguments-at : (x : Bool) → (((x && (not (p (readonly env)) && true)) && true) && list_all (λ c. not (p c)) (map (arguments_of env) left)) ≡ (x && (not (p (readonly env)) && list_all (λ c. not (p c)) (map (arguments_of env) (filter (is_in left) wanted))))
    arguments-at x = ap (λ l. ((x && (not (p (readonly env)) && true)) && true) && l) arguments-same ∙ regroup x (p (readonly env)) (list_all (λ c. not (p c)) (map (arguments_of env) (filter (is_in left) wanted)))

  pub arguments-question : AreOne (asks (asks (of ∷ lists env ∷ []) (readonly env ∷ []) ∷ []) (map (arguments_of env) left)) (asks_arguments env of (filter (is_in left) wanted))
  arguments-question = record {
    simple = λ x s v. arguments-at (λ c. c.simple x) (of.simple x && ((lists env).simple x && true));
    by_kind = λ k v. arguments-at (λ c. c.by_kind k v) (of.by_kind k v && ((lists env).by_kind k v && true));
  }
