-- Entries of definitions in text order, one of which is noted anew.
use Rattle.std.proofs.Common.{◌≡◌, ◌==◌, ◌&&◌, ℕ, zero, suc, Bool, true, false, List, [], ◌∷◌, ◌++◌, length, set, All, Option, None, Some, cond, refl, sym, ap, subst, ◌∙◌, arith}
use Rattle.std.specs.Prelude.{slice_get}
use Rattle.std.specs.Cmp.Lexicographic.{bytes_decides}
use Rattle.std.specs.Option.{is_some}
use Rattle.std.proofs.lemmas.Bool.{false≢true}
use Rattle.std.proofs.lemmas.List.Elements.{All-head, All-tail}
use Rattle.std.proofs.lemmas.Bool.Decides.{Decides-eqb}
use Rattle.bal_base.specs.declared.text.Name.{Name}
use Rattle.descriptors.specs.declared.names.Entry.{Entry}
use Rattle.type_builder.specs.Building.{first_entry}
use Rattle.name_resolution.specs.Definitions.{Placed, defines, name_of}
use Rattle.type_builder.specs.Passes.{AreApart}
use Rattle.type_model.specs.Places.{is_same_text}

pub both-true : (a b : Bool) → (a && b) ≡ true → (a ≡ true) × (b ≡ true)
both-true true true h = (refl, refl)
both-true true false h = absurd (false≢true h)
both-true false b h = absurd (false≢true h)

pub same-number : (a b : ℕ) → (a == b) ≡ true → a ≡ b
same-number a b = (Decides-eqb a b).0

-- two definitions of one name in one module
defined-twice : (m : ℕ) (name : Name) (p q : Placed) → defines m name p ≡ true → defines m name q ≡ true → defines q.«module» (name_of q.def) p ≡ true
defined-twice m name p q first second =
    let parts = both-true (m == q.«module») (is_same_text name (name_of q.def)) second in
    let home : m ≡ q.«module» = same-number m q.«module» parts.0 in
    let same : name ≡ name_of q.def = (bytes_decides name (name_of q.def)).0 parts.1 in
    subst (λ k. defines k (name_of q.def) p ≡ true) home (subst (λ x. defines m x p ≡ true) same first)

pub none-first : (m : ℕ) (name : Name) (ps : List Placed) → first_entry m name ps [] ≡ None
none-first m name [] = refl
none-first m name (p ∷ ps) = refl

module _ (m : ℕ) (name : Name) (e : Entry) where
  -- the name is that of a definition before
  elsewhere : (b c : Bool) (x : Entry) (old new : Option Entry) → (b ≡ true → c ≡ true → ⊥) → new ≡ cond c (Some e) old
      → cond b (Some x) new ≡ cond c (Some e) (cond b (Some x) old)
  elsewhere false c x old new apart h = h
  elsewhere true false x old new apart h = refl
  elsewhere true true x old new apart h = absurd (apart refl refl)

  here : (b : Bool) (x : Entry) (rest : Option Entry) → cond b (Some e) rest ≡ cond b (Some e) (cond b (Some x) rest)
  here true x rest = refl
  here false x rest = refl

  -- a definition of the name, and another one behind it
  twice : (p : Placed) (ps : List Placed) (n : ℕ) (q : Placed) → AreApart (p ∷ ps) → slice_get ps n ≡ Some q → defines m name p ≡ true → defines m name q ≡ true → ⊥
  twice p ps n q apart at first second =
      false≢true (sym (found ps n q (λ k d within. apart zero (suc k) d (omega arith) (omega (arith, within))) at) ∙ defined-twice m name p q first second)
    where
      found : (rest : List Placed) (k : ℕ) (r : Placed) → All (λ q. defines q.«module» (name_of q.def) p ≡ false) rest → slice_get rest k ≡ Some r → defines r.«module» (name_of r.def) p ≡ false
      found [] k r all is = absurd (false≢true (ap is_some is))
      found (y ∷ rest) zero r all is =
          let same : y ≡ r = cc in subst (λ z. defines z.«module» (name_of z.def) p ≡ false) same (All-head (λ q. defines q.«module» (name_of q.def) p ≡ false) y rest all)
      found (y ∷ rest) (suc k) r all is = found rest k r (All-tail (λ q. defines q.«module» (name_of q.def) p ≡ false) y rest all) is

  rest-apart : (p : Placed) (ps : List Placed) → AreApart (p ∷ ps) → AreApart ps
  rest-apart p ps apart i j d lt within = apart (suc i) (suc j) d (omega (arith, lt)) (omega (arith, within))

  -- one entry is another one: the name of its definition has it, and all others have what they had
  pub one-noted : (ps : List Placed) (es : List Entry) (n : ℕ) (q : Placed) → AreApart ps → length es ≡ length ps → slice_get ps n ≡ Some q
      → first_entry m name ps (set es n e) ≡ cond (defines m name q) (Some e) (first_entry m name ps es)
  one-noted [] es n q apart long at = absurd (false≢true (ap is_some at))
  one-noted (p ∷ ps) [] n q apart long at = absurd (omega (arith, long))
  one-noted (p ∷ ps) (x ∷ es) zero q apart long at =
      let same : p ≡ q = cc in
      subst (λ r. cond (defines m name p) (Some e) (first_entry m name ps es) ≡ cond (defines m name r) (Some e) (cond (defines m name p) (Some x) (first_entry m name ps es))) same
      (here (defines m name p) x (first_entry m name ps es))
  one-noted (p ∷ ps) (x ∷ es) (suc n) q apart long at =
      elsewhere (defines m name p) (defines m name q) x (first_entry m name ps es) (first_entry m name ps (set es n e))
      (twice p ps n q apart at) (one-noted ps es n q (rest-apart p ps apart) (omega (arith, long)) at)

  -- the entry of one definition more
  pub one-pushed : (ps : List Placed) (es : List Entry) (q : Placed) → AreApart ps → slice_get ps (length es) ≡ Some q
      → first_entry m name ps (es ++ e ∷ []) ≡ cond (defines m name q) (Some e) (first_entry m name ps es)
  one-pushed [] es q apart at = absurd (false≢true (ap is_some at))
  one-pushed (p ∷ ps) [] q apart at = let same : p ≡ q = cc in subst (λ r. cond (defines m name p) (Some e) (first_entry m name ps []) ≡ cond (defines m name r) (Some e) None) same
      (ap (cond (defines m name p) (Some e)) (none-first m name ps))
  one-pushed (p ∷ ps) (x ∷ es) q apart at =
      elsewhere (defines m name p) (defines m name q) x (first_entry m name ps es) (first_entry m name ps (es ++ e ∷ []))
      (twice p ps (length es) q apart at) (one-pushed ps es q (rest-apart p ps apart) at)
