-- Constructors that are open, as answers of calls, and that what stands still stands.
use Rattle.std.proofs.Common.{◌≡◌, ◌++◌, ◌∙◌, ℕ, Bool, true, false, List, [], ◌∷◌, length, All, Option, Some, None, Result, Ok, Err, OnOk, refl, sym, subst, ap}
use Rattle.std.proofs.lemmas.List.Elements.{All-nil}
use Rattle.std.specs.List.{list_any}
use Rattle.bal_base.specs.declared.fault.Fault.{Fault}
use Rattle.bal_base.specs.declared.fault.FaultCode.TheVariants.{Duplicate}
use Rattle.bal_base.specs.declared.place.Place.{Place}
use Rattle.bal_base.specs.declared.stop.Memory.{Memory as NoMemory}
use Rattle.bal_base.specs.declared.stop.Stop.{Stop}
use Rattle.bal_base.specs.declared.text.Text.{Text}
use Rattle.checks.specs.Checks.{Comes, either}
use Rattle.type_model.specs.Defined.{TyBelow}
use Rattle.check_words.specs.Constructors.{at_work, computes_key, is_key, takes_key, with_key}
use Rattle.check_words.specs.Stands.{ConstructorBelow, Stands}
use Rattle.check_words.specs.State.{ConstructorAtWork, IsLast, State}
use Rattle.check_words.specs.Words.{fails, opens_constructor, sets_constructor}
use Rattle.check_words.proofs.Coming.{became-this, given, next}
use Rattle.check_words.proofs.LastOnes.{kept-is}
use Rattle.check_words.proofs.Standing.{also-has, front-have, last-has, stands-constructors}
use Rattle.needs_of_structures.specs.Changed.{IsChanged}

-- ---- the last one

module _ {A : Type 0} where
  same-tail : (x y : A) (xs ys : List A) → x ∷ xs ≡ y ∷ ys → xs ≡ ys
  same-tail x y xs ys e = cc

  same-end : (kept : List A) (a b : A) → kept ++ a ∷ [] ≡ kept ++ b ∷ [] → a ≡ b
  same-end [] a b e = cc
  same-end (x ∷ kept) a b e = same-end kept a b (same-tail x x _ _ e)

  pub same-last : (xs : List A) (a b : A) → IsLast xs a → IsLast xs b → a ≡ b
  same-last xs a b l m =
      let kept : l.kept ≡ m.kept = sym (kept-is 1 xs l.kept (a ∷ []) l.is refl) ∙ kept-is 1 xs m.kept (b ∷ []) m.is refl in
      same-end m.kept a b (subst (λ ks. ks ++ a ∷ [] ≡ m.kept ++ b ∷ []) kept (sym l.is ∙ m.is))

-- what was made, and what follows from it
pub on-then : (P Q : Type 0) (m : Result (Unit {0}) NoMemory) → (P → Q) → OnOk m P → OnOk m Q
on-then P Q (Ok a) f h = f h
on-then P Q (Err e) f h = tt

-- ---- one more is open

pub opened-comes : (s : State) (c : ConstructorAtWork) (cs : List ConstructorAtWork) → cs ≡ s.constructors ++ c ∷ []
    → Comes (opens_constructor c) s (Ok tt) (record s { constructors = cs })
opened-comes s c cs more = became-this _ s (record s { constructors = cs }) (ap (λ xs. record s { constructors = xs }) more)

pub opened-stands : (s : State) → Stands s → (c : ConstructorAtWork) (cs : List ConstructorAtWork) → ConstructorBelow (length s.atoms) c → cs ≡ s.constructors ++ c ∷ []
    → Stands (record s { constructors = cs })
opened-stands s h c cs below more = let n : ℕ = length s.atoms in
    stands-constructors s h cs (subst (All (ConstructorBelow n)) (sym more) (also-has (ConstructorBelow n) s.constructors c h.constructors below))

pub empty-below : (n : ℕ) (immutable : Bool) → ConstructorBelow n (at_work None immutable)
empty-below n immutable = record { choice = tt; types = All-nil (TyBelow n) }

-- ---- the last one changes

module _ (s : State) (change : ConstructorAtWork → ConstructorAtWork) (cs : List ConstructorAtWork) (g : IsChanged change s.constructors cs) where
  pub last-is : IsLast s.constructors g.c
  last-is = record { kept = g.kept; is = g.is }

  pub changed-comes : Comes (sets_constructor (change g.c)) s (Ok tt) (record s { constructors = cs })
  changed-comes =
      became-this _ s (record s { constructors = cs })
      (ap (λ xs. record s { constructors = xs }) (g.after ∙ ap (λ ks. ks ++ change g.c ∷ []) (sym (kept-is 1 s.constructors g.kept (g.c ∷ []) g.is refl))))

  pub changed-stands : Stands s → (ConstructorBelow (length s.atoms) g.c → ConstructorBelow (length s.atoms) (change g.c)) → Stands (record s { constructors = cs })
  changed-stands h f = let n : ℕ = length s.atoms in
      stands-constructors s h cs
      (subst (All (ConstructorBelow n)) (sym g.after)
      (also-has (ConstructorBelow n) g.kept (change g.c) (front-have (ConstructorBelow n) g.kept (g.c ∷ []) (subst (All (ConstructorBelow n)) g.is h.constructors))
      (f (last-has (ConstructorBelow n) s.constructors g.c last-is h.constructors))))

-- ---- keys

pub keyed-stands : (s : State) (key : Option Text) (cs : List ConstructorAtWork) → IsChanged (with_key key) s.constructors cs → Stands s → Stands (record s { constructors = cs })
keyed-stands s key cs g h = changed-stands s (with_key key) cs g h (λ b. record { choice = b.choice; types = b.types })

pub computed-comes : (s : State) (cs : List ConstructorAtWork) → IsChanged (with_key None) s.constructors cs → Comes computes_key s (Ok tt) (record s { constructors = cs })
computed-comes s cs g = next _ _ _ _ _ g.c s (given _ s g.c (last-is s (with_key None) cs g)) (changed-comes s (with_key None) cs g)

module _ (s : State) (key : Text) (at : Place) (c : ConstructorAtWork) (l : IsLast s.constructors c) where
  pub taken-comes : list_any (is_key key) c.keys ≡ true → (r : Result (Unit {0}) (Stop Fault)) → Comes (fails Duplicate at) s r s → Comes (takes_key key at) s r s
  taken-comes e r h =
      next _ _ _ _ _ c s (given _ s c l) (subst (λ b. Comes (either b (fails Duplicate at) (sets_constructor (with_key (Some key) c))) s r s) (sym e) h)

  pub keyed-comes : list_any (is_key key) c.keys ≡ false → (k : Text) → k ≡ key → (cs : List ConstructorAtWork) → IsChanged (with_key (Some k)) s.constructors cs
      → Comes (takes_key key at) s (Ok tt) (record s { constructors = cs })
  keyed-comes e k is cs h =
      let g : IsChanged (with_key (Some key)) s.constructors cs = subst (λ (x : Text). IsChanged (with_key (Some x)) s.constructors cs) is h in
      let new : State = record s { constructors = cs } in
      let same : c ≡ g.c = same-last s.constructors c g.c l (last-is s (with_key (Some key)) cs g) in
      next _ _ _ _ _ c s (given _ s c l)
      (subst (λ b. Comes (either b (fails Duplicate at) (sets_constructor (with_key (Some key) c))) s (Ok tt) new) (sym e)
      (subst (λ d. Comes (sets_constructor (with_key (Some key) d)) s (Ok tt) new) (sym same) (changed-comes s (with_key (Some key)) cs g)))
