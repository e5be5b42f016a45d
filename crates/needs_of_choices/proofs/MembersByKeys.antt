-- Members of mappings that fit, and are taken.
use Rattle.std.proofs.Common.{◌≡◌, List, Option, Result, Ok, Err, inl, inr, subst}
use Rattle.bal_base.specs.declared.fault.Fault.{Fault}
use Rattle.bal_base.specs.declared.place.Place.{Place}
use Rattle.bal_base.specs.declared.stop.Stop.{Stop}
use Rattle.bal_base.specs.declared.stop.Stop.TheVariants.{Memory, Fault as OwnFault}
use Rattle.checks.specs.Checks.{Comes, gives_some, ◌▷◌}
use Rattle.type_model.specs.declared.answers.TypeLimit.{TypeLimit}
use Rattle.type_model.specs.declared.atoms.AtomDef.{AtomDef}
use Rattle.type_model.specs.declared.basic.Ty.{Ty}
use Rattle.type_model.specs.Calls.{Asked}
use Rattle.typed_tree.specs.declared.expr.TypedExpr.{TypedExpr}
use Rattle.typed_tree.specs.SharedTypes.{Shared}
use Rattle.check_words.specs.Constructors.{is_member, with_member}
use Rattle.check_words.specs.State.{ConstructorAtWork, IsLast, State}
use Rattle.check_words.specs.Words.{Atoms, sets_constructor}
use Rattle.check_words.proofs.Coming.{became-this, given, next}
use Rattle.needs_of_structures.specs.Fitting.{IsTaken}
use Rattle.needs_of_structures.proofs.Opening.{changed-comes, last-is, same-last}
use Rattle.needs_of_choices.specs.ByKeys.{fits_member, member_so}

module _ (passes : List AtomDef → Asked → TypeLimit → Type 0) where
  module _ (at : Place) (s : State) (c : ConstructorAtWork) (e : TypedExpr) (r : Result Ty (Stop Fault)) (new : State) (lc : IsLast s.constructors c) (le : IsLast s.found e) where
    pub member-fits : (w : Option Shared) → IsLast s.wants w → Comes (member_so passes c e w at) s r new → Comes (fits_member passes at) s r new
    member-fits w lw h = next _ _ _ _ _ c s (given _ s c lc) (next _ _ _ _ _ e s (given _ s e le) (next _ _ _ _ _ w s (given _ s w lw) h))

  module _ (at : Place) (s : State) (n : Atoms) where
    -- the same over these atoms
    abbrev pub over : State
    over = record s { atoms = n }

    pub member-taken : (t : Ty) (new : State) → Comes (fits_member passes at) s (Ok t) over → IsTaken t over new → Comes (is_member passes at) s (Ok tt) new
    unfolding Comes ◌▷◌ gives_some
    member-taken t new (c, m1, (lc, x1), (e, m2, le, (w, m3, lw, (a, m4, below, (k, m7, key, (b, m5, may, (u, m6, added, copy))))))) g =
        let mid : State = record over { constructors = new.constructors } in
        let same : g.changed.c ≡ c = same-last s.constructors g.changed.c c (last-is over (with_member t) new.constructors g.changed) lc in (
          c,
          m1,
          (lc, x1),
          (
            e,
            m2,
            le,
            (
              w,
              m3,
              lw,
              (
                a,
                m4,
                below,
                (
                  k,
                  m7,
                  key,
                  (
                    b,
                    m5,
                    may,
                    (
                      tt,
                      mid,
                      (u, m6, added, (t, over, copy, subst (λ d. Comes (sets_constructor (with_member t d)) over (Ok tt) mid) same (changed-comes over (with_member t) new.constructors g.changed))),
                      became-this _ mid new g.after,
                    ),
                  ),
                ),
              ),
            ),
          ),
        )

    pub member-refused : (stop : Stop Fault) (new : State) → Comes (fits_member passes at) s (Err stop) new → Comes (is_member passes at) s (Err stop) new
    unfolding Comes ◌▷◌ gives_some
    member-refused Memory new h = tt
    member-refused (OwnFault f) new (inl h) = absurd h
    member-refused (OwnFault f) new (inr (c, m1, lc, inl h)) = absurd h
    member-refused (OwnFault f) new (inr (c, m1, lc, inr (e, m2, le, inl h))) = absurd h
    member-refused (OwnFault f) new (inr (c, m1, lc, inr (e, m2, le, inr (w, m3, lw, inl below)))) = inr (c, m1, lc, inr (e, m2, le, inr (w, m3, lw, inl below)))
    member-refused (OwnFault f) new (inr (c, m1, lc, inr (e, m2, le, inr (w, m3, lw, inr (a, m4, below, inl key))))) =
        inr (c, m1, lc, inr (e, m2, le, inr (w, m3, lw, inr (a, m4, below, inl key))))
    member-refused (OwnFault f) new (inr (c, m1, lc, inr (e, m2, le, inr (w, m3, lw, inr (a, m4, below, inr (k, m7, key, inl may)))))) =
        inr (c, m1, lc, inr (e, m2, le, inr (w, m3, lw, inr (a, m4, below, inr (k, m7, key, inl may)))))
    member-refused (OwnFault f) new (inr (c, m1, lc, inr (e, m2, le, inr (w, m3, lw, inr (a, m4, below, inr (k, m7, key, inr (b, m5, may, inl added))))))) =
        inr (c, m1, lc, inr (e, m2, le, inr (w, m3, lw, inr (a, m4, below, inr (k, m7, key, inr (b, m5, may, inl (inl added)))))))
    member-refused (OwnFault f) new (inr (c, m1, lc, inr (e, m2, le, inr (w, m3, lw, inr (a, m4, below, inr (k, m7, key, inr (b, m5, may, inr (u, m6, added, copy)))))))) = absurd copy
