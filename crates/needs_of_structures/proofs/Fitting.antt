-- Members that fit, and what is said of them by other handles.
use Rattle.std.proofs.Common.{◌≡◌, Bool, true, false, List, [], ◌∷◌, length, Option, Result, Ok, Err, inl, inr, refl, sym, subst, ap}
use Rattle.bal_base.specs.declared.fault.Fault.{Fault}
use Rattle.bal_base.specs.declared.place.Place.{Place}
use Rattle.bal_base.specs.declared.stop.Stop.{Stop}
use Rattle.bal_base.specs.declared.stop.Stop.TheVariants.{Memory, Fault as OwnFault}
use Rattle.checks.specs.Checks.{Check, Comes, Gives, Refuses, gives_some, ◌▷◌}
use Rattle.flow_narrowing.specs.Flows.{IfShared}
use Rattle.type_model.specs.declared.answers.TypeLimit.{TypeLimit}
use Rattle.type_model.specs.declared.atoms.AtomDef.{AtomDef}
use Rattle.type_model.specs.declared.basic.Ty.{Ty}
use Rattle.type_model.specs.Calls.{Asked}
use Rattle.type_model.specs.Defined.{TyBelow}
use Rattle.typed_tree.specs.declared.expr.TypedExpr.{TypedExpr}
use Rattle.typed_tree.specs.SharedTypes.{Shared, sem_of}
use Rattle.descriptors.specs.Described.{IsCopy}
use Rattle.expr_needs.specs.declared.kind.Kind.{Kind}
use Rattle.check_kinds.specs.Over.{ComesOver}
use Rattle.check_words.specs.Constructors.{is_detail, is_item, with_member}
use Rattle.check_words.specs.Stands.{Stands}
use Rattle.check_words.specs.State.{ConstructorAtWork, IsLast, State, all_but}
use Rattle.check_words.specs.Values.{widened, widens_to}
use Rattle.check_words.specs.Words.{Atoms, OfKind, sets_constructor, whether_within}
use Rattle.check_words.proofs.Coming.{became-this, given, next}
use Rattle.check_words.proofs.Standing.{also-has, others-have, stands-wants}
use Rattle.needs_of_structures.specs.Changed.{IsChanged}
use Rattle.needs_of_structures.specs.Fitting.{IsTaken, copied, fits_detail, fits_item, fits_so, frozen_so}
use Rattle.needs_of_structures.proofs.Opening.{changed-comes, changed-stands, last-is, same-last}
use Rattle.expr_needs.specs.declared.kind.Kind.TheVariants as kind

module _ (passes : List AtomDef → Asked → TypeLimit → Type 0) where
  -- ---- the last ones

  module _ (at : Place) (s : State) (c : ConstructorAtWork) (e : TypedExpr) (r : Result Ty (Stop Fault)) (new : State) (lc : IsLast s.constructors c) (le : IsLast s.found e) where
    pub item-fits : (w : Option Shared) → IsLast s.wants w → Comes (fits_so passes c e w at) s r new → Comes (fits_item passes at) s r new
    item-fits w lw h = next _ _ _ _ _ c s (given _ s c lc) (next _ _ _ _ _ e s (given _ s e le) (next _ _ _ _ _ w s (given _ s w lw) h))

    pub detail-fits : Comes (frozen_so passes e at) s r new → Comes (fits_detail passes at) s r new
    detail-fits h = next _ _ _ _ _ c s (given _ s c lc) (next _ _ _ _ _ e s (given _ s e le) h)

  -- ---- it is taken

  module _ (at : Place) (s : State) (n : Atoms) where
    -- the same over these atoms
    abbrev over : State
    over = record s { atoms = n }

    pub item-taken : (t : Ty) (new : State) → Comes (fits_item passes at) s (Ok t) over → IsTaken t over new → Comes (is_item passes at) s (Ok tt) new
    unfolding Comes ◌▷◌ gives_some
    item-taken t new (c, m1, (lc, x1), (e, m2, le, (w, m3, lw, (a, m4, below, (b, m5, may, (u, m6, added, copy)))))) g =
        let mid : State = record over { constructors = new.constructors } in
        let same : g.changed.c ≡ c = same-last s.constructors g.changed.c c (last-is over (with_member t) new.constructors g.changed) lc in (
          c,
          m1,
          (lc, x1),
          (
            e,
            m2,
            le,
            (
              w,
              m3,
              lw,
              (
                a,
                m4,
                below,
                (
                  b,
                  m5,
                  may,
                  (
                    tt,
                    mid,
                    (u, m6, added, (t, over, copy, subst (λ d. Comes (sets_constructor (with_member t d)) over (Ok tt) mid) same (changed-comes over (with_member t) new.constructors g.changed))),
                    became-this _ mid new g.after,
                  ),
                ),
              ),
            ),
          ),
        )

    pub item-refused : (stop : Stop Fault) (new : State) → Comes (fits_item passes at) s (Err stop) new → Comes (is_item passes at) s (Err stop) new
    unfolding Comes ◌▷◌ gives_some
    item-refused Memory new h = tt
    item-refused (OwnFault f) new (inl h) = absurd h
    item-refused (OwnFault f) new (inr (c, m1, lc, inl h)) = absurd h
    item-refused (OwnFault f) new (inr (c, m1, lc, inr (e, m2, le, inl h))) = absurd h
    item-refused (OwnFault f) new (inr (c, m1, lc, inr (e, m2, le, inr (w, m3, lw, inl below)))) = inr (c, m1, lc, inr (e, m2, le, inr (w, m3, lw, inl below)))
    item-refused (OwnFault f) new (inr (c, m1, lc, inr (e, m2, le, inr (w, m3, lw, inr (a, m4, below, inl may))))) =
        inr (c, m1, lc, inr (e, m2, le, inr (w, m3, lw, inr (a, m4, below, inl may))))
    item-refused (OwnFault f) new (inr (c, m1, lc, inr (e, m2, le, inr (w, m3, lw, inr (a, m4, below, inr (b, m5, may, inl added)))))) =
        inr (c, m1, lc, inr (e, m2, le, inr (w, m3, lw, inr (a, m4, below, inr (b, m5, may, inl (inl added))))))
    item-refused (OwnFault f) new (inr (c, m1, lc, inr (e, m2, le, inr (w, m3, lw, inr (a, m4, below, inr (b, m5, may, inr (u, m6, added, copy))))))) = absurd copy

    pub detail-taken : (t : Ty) (cs : List ConstructorAtWork) → Comes (fits_detail passes at) s (Ok t) over → IsChanged (with_member t) s.constructors cs
        → Comes (is_detail passes at) s (Ok tt) (record over { constructors = cs })
    unfolding Comes ◌▷◌ gives_some
    detail-taken t cs (c, m1, (lc, x1), (e, m2, le, (a, m3, frozen, copy))) g =
        let mid : State = record over { constructors = cs } in
        let same : g.c ≡ c = same-last s.constructors g.c c (last-is over (with_member t) cs g) lc in
        (c, m1, (lc, x1), (e, m2, le, (a, m3, frozen, (t, over, copy, subst (λ d. Comes (sets_constructor (with_member t d)) over (Ok tt) mid) same (changed-comes over (with_member t) cs g)))))

    pub detail-refused : (stop : Stop Fault) (new : State) → Comes (fits_detail passes at) s (Err stop) new → Comes (is_detail passes at) s (Err stop) new
    unfolding Comes ◌▷◌ gives_some
    detail-refused Memory new h = tt
    detail-refused (OwnFault f) new (inl h) = absurd h
    detail-refused (OwnFault f) new (inr (c, m1, lc, inl h)) = absurd h
    detail-refused (OwnFault f) new (inr (c, m1, lc, inr (e, m2, le, inl frozen))) = inr (c, m1, lc, inr (e, m2, le, inl frozen))
    detail-refused (OwnFault f) new (inr (c, m1, lc, inr (e, m2, le, inr (a, m3, frozen, copy)))) = absurd copy

-- what stands still stands
module _ (s : State) (h : Stands s) (t : Ty) (below : TyBelow (length s.atoms) t) where
  pub member-stands : (cs : List ConstructorAtWork) → IsChanged (with_member t) s.constructors cs → Stands (record s { constructors = cs })
  member-stands cs g =
      changed-stands s (with_member t) cs g h (λ b. record { choice = b.choice; types = also-has (TyBelow (length s.atoms)) g.c.types t b.types below })

  pub taken-stands : (new : State) → IsTaken t s new → Stands new
  taken-stands new g =
      subst Stands (sym g.after)
      (stands-wants (record s { constructors = new.constructors }) (member-stands new.constructors g.changed) (all_but 1 s.wants)
      (others-have (IfShared (TyBelow (length s.atoms))) 1 s.wants h.wants))

-- ---- other handles of a type

module _ (passes : List AtomDef → Asked → TypeLimit → Type 0) (t u : Shared) (same : t.value ≡ u.value) (at : Place) where
  same-question : (k : Kind) → whether_within passes (OfKind k) (sem_of t) at ≡ whether_within passes (OfKind k) (sem_of u) at
  same-question k = ap (λ (v : Ty). whether_within passes (OfKind k) v.sem at) same

  wide-given : (kinds : List Kind) (old new : State) (v : Shared) → widens_to passes kinds t at old (Gives v) new
      → (w : Shared) × widens_to passes kinds u at old (Gives w) new × (v.value ≡ w.value)
  unfolding ◌▷◌ gives_some
  wide-given [] old new v (is, e) = (u, (refl, e), subst (λ (x : Shared). x.value ≡ u.value) (sym is) same)
  wide-given (k ∷ kinds) old new v (true, mid, asked, found) =
      (v, (true, mid, subst (λ (q : Check State Bool). q old (Gives true) mid) (same-question k) asked, found), refl)
  wide-given (k ∷ kinds) old new v (false, mid, asked, rest) = let r = wide-given kinds mid new v rest in
      (r.0, (false, mid, subst (λ (q : Check State Bool). q old (Gives false) mid) (same-question k) asked, r.1), r.2)

  wide-refused : (kinds : List Kind) (old new : State) (f : Fault) → widens_to passes kinds t at old (Refuses f) new → widens_to passes kinds u at old (Refuses f) new
  unfolding ◌▷◌ gives_some
  wide-refused [] old new f h = absurd h
  wide-refused (k ∷ kinds) old new f (inl asked) = inl (subst (λ (q : Check State Bool). q old (Refuses f) new) (same-question k) asked)
  wide-refused (k ∷ kinds) old new f (inr (true, mid, asked, found)) = absurd found
  wide-refused (k ∷ kinds) old new f (inr (false, mid, asked, rest)) =
      inr (false, mid, subst (λ (q : Check State Bool). q old (Gives false) mid) (same-question k) asked, wide-refused kinds mid new f rest)

  pub wide-handle : (old : Atoms) (r : Result Ty (Stop Fault)) (new : Atoms) → ComesOver (copied (widened passes t at)) old r new → ComesOver (copied (widened passes u at)) old r new
  unfolding ComesOver Comes ◌▷◌ gives_some
  wide-handle old (Ok c) new h s e =
      let x = h s e in let w = wide-given (kind.Integer ∷ kind.Text ∷ kind.Truth ∷ []) s x.1 x.0 x.2 in (w.0, x.1, w.1, (subst (λ (v : Ty). IsCopy v c) w.2 x.3.0, x.3.1))
  wide-handle old (Err (OwnFault f)) new h s e = by (h s e)
    where
      by : copied (widened passes t at) s (Refuses f) (record s { atoms = new }) → copied (widened passes u at) s (Refuses f) (record s { atoms = new })
      by (inl x) = inl (wide-refused (kind.Integer ∷ kind.Text ∷ kind.Truth ∷ []) s (record s { atoms = new }) f x)
      by (inr (v, mid, x, y)) = absurd y
  wide-handle old (Err Memory) new h s e = tt
