-- Which strings a type has: texts that it doesn't name are all alike, and there is one that no list names.
use Rattle.std.proofs.Common.{◌≡◌, ◌≢◌, ◌<◌, ◌+◌, ◌↔◌, ◌⊎◌, ◌∙◌, ◌++◌, ◌||◌, ◌&&◌, ℕ, zero, suc, Bool, true, false, not, List, [], ◌∷◌, Option, Some, None, All, Any, IsSomeAnd, IsTrue, inl, inr, arith, ap, length, refl, slice_get, sym}
use Rattle.std.proofs.lemmas.Bool.{false≢true}
use Rattle.std.proofs.lemmas.List.Elements.{All-cons, All-head, All-nil, All-tail}
use Rattle.std.specs.Cmp.Lexicographic.{bytes_decides}
use Rattle.bal_base.specs.declared.shape.Shape.{Str}
use Rattle.bal_base.specs.declared.text.Text.{Text}
use Rattle.bal_base.specs.Valid.{IsText}
use Rattle.type_model.specs.declared.atoms.AtomDef.{AtomDef}
use Rattle.type_model.specs.declared.basic.BasicSet.{BasicSet}
use Rattle.type_model.specs.declared.basic.BasicSet.TheVariants.{Nil, Bool as BoolOne, IntRange, StringOne, StringAll, ListAll, MappingAll, ErrorAll, FunctionAll, FutureAll, Readonly, Never}
use Rattle.type_model.specs.declared.basic.SemType.{SemType, Basic, Atom, Or', And', Not'}
use Rattle.type_model.specs.Basic.{InBasic}
use Rattle.type_model.specs.Membership.{In}
use Rattle.type_model.specs.Places.{is_same_text}
use Rattle.pair_questions.specs.inner.Strings.{set_has, texts_of, type_has}

-- ---- Booleans

abbrev pub Says : Bool → Type 0 → Type 0
Says b P = IsTrue b ↔ P

never-so : (P : Type 0) → ¬ P → Says false P
never-so P n = ((λ e. absurd (false≢true e)), (λ p. absurd (n p)))

either-so : (a b : Bool) (P Q : Type 0) → Says a P → Says b Q → Says (a || b) (P ⊎ Q)
either-so true b P Q p q = ((λ e. inl (p.0 refl)), (λ h. refl))
either-so false b P Q p q = ((λ e. inr (q.0 e)), back)
  where
    back : P ⊎ Q → IsTrue b
    back (inl h) = absurd (false≢true (p.1 h))
    back (inr h) = q.1 h

both-so : (a b : Bool) (P Q : Type 0) → Says a P → Says b Q → Says (a && b) (P × Q)
both-so true b P Q p q = ((λ e. (p.0 refl, q.0 e)), (λ h. q.1 h.1))
both-so false b P Q p q = ((λ e. absurd (false≢true e)), (λ h. absurd (false≢true (p.1 h.0))))

not-so : (a : Bool) (P : Type 0) → Says a P → Says (not a) (¬ P)
not-so true P p = ((λ e. absurd (false≢true e)), (λ n. absurd (n (p.0 refl))))
not-so false P p = ((λ e h. false≢true (p.1 h)), (λ n. refl))

-- ---- what sets and types have

set-so : (x : Text) (b : BasicSet) → Says (set_has b (Some x)) (InBasic (Str x) b)
set-so x (StringOne own) = ((λ e. sym ((bytes_decides own x).0 e)), (λ e. (bytes_decides own x).1 (sym e)))
set-so x StringAll = ((λ e. tt), (λ h. refl))
set-so x Readonly = ((λ e. tt), (λ h. refl))
set-so x Nil = never-so ⊥ (λ h. h)
set-so x (BoolOne b) = never-so ⊥ (λ h. h)
set-so x (IntRange low high) = never-so ⊥ (λ h. h)
set-so x ListAll = never-so ⊥ (λ h. h)
set-so x MappingAll = never-so ⊥ (λ h. h)
set-so x ErrorAll = never-so ⊥ (λ h. h)
set-so x FunctionAll = never-so ⊥ (λ h. h)
set-so x FutureAll = never-so ⊥ (λ h. h)
set-so x Never = never-so ⊥ (λ h. h)

-- no atom has strings
no-string : (env : List AtomDef) (x : Text) (n : ℕ) → ¬ (In env (Str x) (Atom n))
no-string env x n h = none-of (slice_get env n) h
  where
    none-of : (o : Option AtomDef) → IsSomeAnd o (λ d. ⊥) → ⊥
    none-of None k = k
    none-of (Some d) k = k

pub type-so : (env : List AtomDef) (x : Text) (t : SemType) → Says (type_has t (Some x)) (In env (Str x) t)
type-so env x (Basic b) = set-so x b
type-so env x (Atom n) = never-so (In env (Str x) (Atom n)) (no-string env x n)
type-so env x (Or' _ s _ t) = either-so (type_has s (Some x)) (type_has t (Some x)) (In env (Str x) s) (In env (Str x) t) (type-so env x s) (type-so env x t)
type-so env x (And' _ s _ t) = both-so (type_has s (Some x)) (type_has t (Some x)) (In env (Str x) s) (In env (Str x) t) (type-so env x s) (type-so env x t)
type-so env x (Not' _ t) = not-so (type_has t (Some x)) (In env (Str x) t) (type-so env x t)

-- ---- texts that aren't named

abbrev pub IsApart : Text → List Text → Type 0
IsApart x ts = All (λ s. s ≢ x) ts

pub front-apart : (x : Text) (ss ts : List Text) → IsApart x (ss ++ ts) → IsApart x ss
front-apart x [] ts h = All-nil (λ s. s ≢ x)
front-apart x (s ∷ ss) ts h = All-cons (λ u. u ≢ x) s ss (All-head (λ u. u ≢ x) s (ss ++ ts) h) (front-apart x ss ts (All-tail (λ u. u ≢ x) s (ss ++ ts) h))

pub back-apart : (x : Text) (ss ts : List Text) → IsApart x (ss ++ ts) → IsApart x ts
back-apart x [] ts h = h
back-apart x (s ∷ ss) ts h = back-apart x ss ts (All-tail (λ u. u ≢ x) s (ss ++ ts) h)

pub other-text : (s x : Text) → s ≢ x → is_same_text s x ≡ false
other-text s x n = by (is_same_text s x) (bytes_decides s x).0
  where
    by : (b : Bool) → (b ≡ true → s ≡ x) → b ≡ false
    by true f = absurd (n (f refl))
    by false f = refl

set-other : (x : Text) (b : BasicSet) → IsApart x (texts_of (Basic b)) → set_has b (Some x) ≡ set_has b None
set-other x (StringOne own) h = other-text own x (All-head (λ s. s ≢ x) own [] h)
set-other x StringAll h = refl
set-other x Readonly h = refl
set-other x Nil h = refl
set-other x (BoolOne c) h = refl
set-other x (IntRange low high) h = refl
set-other x ListAll h = refl
set-other x MappingAll h = refl
set-other x ErrorAll h = refl
set-other x FunctionAll h = refl
set-other x FutureAll h = refl
set-other x Never h = refl

pub type-other : (x : Text) (t : SemType) → IsApart x (texts_of t) → type_has t (Some x) ≡ type_has t None
type-other x (Basic b) h = set-other x b h
type-other x (Atom n) h = refl
type-other x (Or' _ s _ t) h =
    let one = type-other x s (front-apart x (texts_of s) (texts_of t) h) in
    let two = type-other x t (back-apart x (texts_of s) (texts_of t) h) in
    ap (λ (b : Bool). b || type_has t (Some x)) one ∙ ap (λ (b : Bool). type_has s None || b) two
type-other x (And' _ s _ t) h =
    let one = type-other x s (front-apart x (texts_of s) (texts_of t) h) in
    let two = type-other x t (back-apart x (texts_of s) (texts_of t) h) in
    ap (λ (b : Bool). b && type_has t (Some x)) one ∙ ap (λ (b : Bool). type_has s None && b) two
type-other x (Not' _ t) h = ap not (type-other x t h)

-- one of them, or apart from all
pub among-or-apart : (ts : List Text) (x : Text) → Any (λ s. s ≡ x) ts ⊎ IsApart x ts
among-or-apart [] x = inr (All-nil (λ s. s ≢ x))
among-or-apart (t ∷ ts) x = by (is_same_text t x) (bytes_decides t x) (among-or-apart ts x)
  where
    behind : Any (λ s. s ≡ x) ts → Any (λ s. s ≡ x) (t ∷ ts)
    behind (i, s, lt, is, e) = (suc i, s, omega (arith, lt), is, e)

    by : (b : Bool) → ((b ≡ true → t ≡ x) × (t ≡ x → b ≡ true)) → Any (λ s. s ≡ x) ts ⊎ IsApart x ts → Any (λ s. s ≡ x) (t ∷ ts) ⊎ IsApart x (t ∷ ts)
    by true f r = inl (zero, t, omega arith, refl, f.0 refl)
    by false f (inl h) = inl (behind h)
    by false f (inr apart) = inr (All-cons (λ s. s ≢ x) t ts (λ e. false≢true (f.1 e)) apart)

-- ---- a text that none of them is

abbrev total : List Text → ℕ
total [] = zero
total (t ∷ ts) = length t + total ts

abbrev letters : ℕ → Text
letters zero = []
letters (suc n) = 97 ∷ letters n

letters-long : (n : ℕ) → length (letters n) ≡ n
letters-long zero = refl
letters-long (suc n) = ap suc (letters-long n)

letters-text : (n : ℕ) → IsText (letters n)
letters-text zero = refl
letters-text (suc n) = letters-text n

longer-apart : (ts : List Text) (n : ℕ) → total ts < n → IsApart (letters n) ts
longer-apart [] n lt = All-nil (λ s. s ≢ letters n)
longer-apart (t ∷ ts) n lt =
    All-cons (λ s. s ≢ letters n) t ts
    (λ e. let same : length t ≡ n = ap (λ (u : Text). length u) e ∙ letters-long n in absurd (omega (arith, lt, same)))
    (longer-apart ts n (omega (arith, lt)))

pub some-apart : (ts : List Text) → (x : Text) × IsText x × IsApart x ts
some-apart ts = let n = suc (total ts) in (letters n, letters-text n, longer-apart ts n (omega arith))
