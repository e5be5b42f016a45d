-- Values of which one is chosen are what the needs mean.
use Rattle.std.proofs.Common.{◌≡◌, ◌++◌, ◌⊎◌, ℕ, All, List, [], ◌∷◌, length, None, Ok, refl, rules, sym, subst, ap}
use Rattle.std.proofs.lemmas.List.Elements.{All-head, All-tail}
use Rattle.bal_base.specs.declared.place.Place.{Place}
use Rattle.checks.specs.Checks.{Comes}
use Rattle.descriptors.specs.Described.{IsPlain}
use Rattle.operations.specs.Kinds.{IsNil}
use Rattle.type_model.specs.Membership.{In}
use Rattle.typed_tree.specs.declared.expr.TypedExpr.{TypedExpr}
use Rattle.typed_tree.specs.Exprs.{type_of}
use Rattle.typed_tree.specs.SharedTypes.{Shared}
use Rattle.typed_tree.specs.Views.{IsConditional, IsElvis}
use Rattle.typed_tree.proofs.ExprLayers.{expr_layers}
use Rattle.check_words.specs.Sharing.{SameShared}
use Rattle.check_words.specs.Stands.{SharedBelow, Stands, UnitBelow}
use Rattle.check_words.specs.State.{AreLast, State, UnitAtWork, all_but}
use Rattle.check_words.specs.Values.{chooses, fills_nil}
use Rattle.check_words.specs.Words.{UnionOf, closes_choice, sem, sets_flow}
use Rattle.check_words.proofs.Coming.{given, made, next, regroup}
use Rattle.check_words.proofs.Flowing.{slot-made}
use Rattle.check_words.proofs.Standing.{last-have, stands-units, unit-has, unit-replaced, unit-with-slot}
use Rattle.check_work.specs.Choices.{forgets_choice}
use Rattle.check_work.proofs.Making.{made-stands}
use Rattle.needs_of_values.proofs.Made.{with_found}

conditional-type : (c a b : TypedExpr) (t : Shared) (at : Place) (e : TypedExpr) → IsConditional c a b t at e → type_of e ≡ t
conditional-type c a b t at e (x, y, z, is, k, l, m) = search (rules, expr_layers)

elvis-type : (own : ℕ) (a b : TypedExpr) (t : Shared) (at : Place) (e : TypedExpr) → IsElvis own a b t at e → type_of e ≡ t
elvis-type own a b t at e (x, y, is, k, l) = search (rules, expr_layers)

-- ---- what holds of all parts holds of the last ones

module _ {A : Type 0} (P : A → Type 0) (xs : List A) (all : All P xs) where
  pub first-of-two : (a b : A) → AreLast xs 2 (a ∷ b ∷ []) → P a
  first-of-two a b last = All-head P a (b ∷ []) (last-have P 2 xs (a ∷ b ∷ []) last all)

  pub second-of-two : (a b : A) → AreLast xs 2 (a ∷ b ∷ []) → P b
  second-of-two a b last = All-head P b [] (All-tail P a (b ∷ []) (last-have P 2 xs (a ∷ b ∷ []) last all))

  pub second-of-three : (a b c : A) → AreLast xs 3 (a ∷ b ∷ c ∷ []) → P b
  second-of-three a b c last = All-head P b (c ∷ []) (All-tail P a (b ∷ c ∷ []) (last-have P 3 xs (a ∷ b ∷ c ∷ []) last all))

  pub third-of-three : (a b c : A) → AreLast xs 3 (a ∷ b ∷ c ∷ []) → P c
  third-of-three a b c last =
      All-head P c [] (All-tail P b (c ∷ []) (All-tail P a (b ∷ c ∷ []) (last-have P 3 xs (a ∷ b ∷ c ∷ []) last all)))

-- ---- conditional expressions

module _ (s mid : State) (at : Place) (c a b e : TypedExpr) (t : Shared) (es : List TypedExpr) (is : IsConditional c a b t at e) (more : es ≡ all_but 3 mid.found ++ e ∷ []) where
  pub chooses-come : Comes forgets_choice s (Ok tt) mid → AreLast mid.found 3 (c ∷ a ∷ b ∷ []) → UnionOf (sem a) (sem b) mid.atoms t.value → Comes (chooses at) s (Ok tt) (with_found mid es)
  chooses-come before last of =
      regroup closes_choice (λ d. sets_flow d.before) _ s mid (with_found mid es) tt (Ok tt) before
      (made 3 _ mid (with_found mid es) (c ∷ a ∷ b ∷ []) e last (c, a, b, refl, (t, of, is)) (ap (with_found mid) more))

  pub chooses-stand : Stands mid → SharedBelow (length mid.atoms) t → Stands (with_found mid es)
  chooses-stand h below = made-stands mid h 3 e t es (conditional-type c a b t at e is) below more

-- ---- what stands in the place of nil

module _ (s : State) (kept : List UnitAtWork) (u : UnitAtWork) (is : s.units ≡ kept ++ u ∷ []) (x : Shared) (us : List UnitAtWork)
    (slot : us ≡ kept ++ record u { slots = u.slots ++ x ∷ [] } ∷ []) where
  -- a slot more, and these parts
  abbrev pub with_slot : List TypedExpr → State
  with_slot es = record s { found = es; units = us; ways = None }

  pub slot-stands : Stands s → SharedBelow (length s.atoms) x → Stands (record s { units = us })
  slot-stands h below = let n : ℕ = length s.atoms in
      stands-units s h us
      (subst (All (UnitBelow n)) (sym slot) (unit-replaced n s.units kept u _ is h.units (unit-with-slot n u x (unit-has n s.units kept u is h.units) below)))

  module _ (at : Place) (a b e : TypedExpr) (t : Shared) (es : List TypedExpr) (own : ℕ) (made-of : IsElvis own a b t at e) (more : es ≡ all_but 2 s.found ++ e ∷ []) where
    pub fills-nil-come : own ≡ length u.slots → AreLast s.found 2 (a ∷ b ∷ []) → SameShared (type_of a) x
        → IsPlain (λ y. (In s.atoms y (sem a) × ¬ IsNil y) ⊎ In s.atoms y (sem b)) s.atoms t.value → Comes (fills_nil at) s (Ok tt) (with_slot es)
    fills-nil-come number last same of =
        let mid : State = record s { units = us } in
        next _ _ _ _ _ (a, b) s (given _ s (a, b) last)
        (next _ _ _ _ _ (length u.slots) mid (slot-made s kept u is (type_of a) x same mid (ap (λ vs. record s { units = vs }) slot))
        (made 2 _ mid (with_slot es) (a ∷ b ∷ []) e last (a, b, refl, (t, of, subst (λ n. IsElvis n a b t at e) number made-of)) (ap with_slot more)))

    pub fills-nil-stand : Stands s → SharedBelow (length s.atoms) x → SharedBelow (length s.atoms) t → Stands (with_slot es)
    fills-nil-stand h kept_below below = made-stands (record s { units = us }) (slot-stands h kept_below) 2 e t es (elvis-type own a b t at e made-of) below more
