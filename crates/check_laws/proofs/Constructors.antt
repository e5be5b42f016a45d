-- How many the needs of constructors leave.
use Rattle.std.proofs.Common.{◌+◌, ◌*◌, ℕ, List, [], ◌∷◌, Option, None, Some, sym, subst}
use Rattle.std.specs.List.{list_any}
use Rattle.bal_base.specs.declared.place.Place.{Place}
use Rattle.bal_base.specs.declared.text.Text.{Text}
use Rattle.type_model.specs.declared.answers.TypeLimit.{TypeLimit}
use Rattle.type_model.specs.declared.atoms.AtomDef.{AtomDef}
use Rattle.type_model.specs.declared.atoms.FieldDef.{FieldDef}
use Rattle.type_model.specs.declared.basic.Choice.{Choice}
use Rattle.type_model.specs.declared.basic.SemType.{SemType}
use Rattle.type_model.specs.declared.basic.Ty.{Ty}
use Rattle.type_model.specs.Calls.{Asked}
use Rattle.typed_tree.specs.declared.expr.TypedExpr.{TypedExpr}
use Rattle.typed_tree.specs.SharedTypes.{Shared}
use Rattle.expr_needs.specs.declared.expected.Expected.{Expected}
use Rattle.expr_needs.specs.declared.expected.Expected.TheVariants as expected
use Rattle.check_words.specs.Constructors.{added_type, adds_member, atom_of, begins_keys, chooses_by, chooses_constructor, chooses_for, computes_key, expects_item, expects_member, first_fit, fits_fields, fits_keys, gives_new_key, is_detail, is_key, is_frozen, is_item, is_member, lacks_cause, makes_error, makes_list, makes_mapping, may_stand, takes_key}
use Rattle.check_words.specs.State.{ConstructorAtWork, State}
use Rattle.check_words.specs.Words.{Atoms}
use Rattle.check_laws.specs.Heights.{Heights, ◌⊕◌, parts, wants, constructors}
use Rattle.check_laws.specs.Positions.{Above}
use Rattle.check_laws.proofs.Values.{goes-below-if, goes-key, goes-whether, goes-widened}
use Rattle.check_laws.proofs.Words.{Goes, goes-asking, goes-closes-constructor, goes-done, goes-either, goes-fails, goes-makes, goes-no-more, goes-opens-constructor, goes-sets-constructor, goes-some, goes-then, goes-unless, goes-wants}

module _ (s : State) where
  -- ---- keys, and what is expected of members

  pub goes-begins-keys : (r : Heights) → Goes s r begins_keys (r ⊕ constructors 1)
  goes-begins-keys r = goes-opens-constructor s r _

  pub goes-takes-key : (r : Heights) (text : Text) (at : Place) → Goes s (r ⊕ constructors 1) (takes_key text at) (r ⊕ constructors 1)
  goes-takes-key r text at =
      goes-then s _ _ (goes-some s (r ⊕ constructors 1) _) (λ c. goes-either s (list_any (is_key text) c.keys) _ _ (goes-fails s _ _ _ at) (goes-sets-constructor s r _))

  pub goes-new-key : (r : Heights) (text : Text) (at : Place)
      → Goes s (r ⊕ constructors 1) (gives_new_key text at) ((r ⊕ constructors 1) ⊕ parts 1)
  goes-new-key r text at = goes-then s _ _ (goes-takes-key r text at) (λ u. goes-key s (r ⊕ constructors 1) text at)

  pub goes-computes-key : (r : Heights) → Goes s (r ⊕ constructors 1) computes_key (r ⊕ constructors 1)
  goes-computes-key r = goes-then s _ _ (goes-some s (r ⊕ constructors 1) _) (λ c. goes-sets-constructor s r _)

  pub goes-expects-item : (r : Heights) → Goes s r expects_item (r ⊕ wants 1)
  goes-expects-item r = goes-then s _ _ (goes-some s r _) (λ c. goes-then s _ _ (goes-some s r _) (λ w. goes-wants s r w))

  pub goes-expects-member : (r : Heights) → Goes s r expects_member (r ⊕ wants 1)
  goes-expects-member r = goes-then s _ _ (goes-some s r _) (λ c. goes-then s _ _ (goes-some s r _) (λ w. goes-wants s r w))

  pub goes-lacks-cause : (r : Heights) (at : Place) → Goes s r (lacks_cause at) (r ⊕ parts 1)
  goes-lacks-cause r at = goes-makes s r 0 _

  -- ---- what members make

  goes-atom-of : (h : Heights) (choice : Option ℕ) (P : Atoms → List AtomDef → Type 0) (at : Place) → Goes s h (atom_of choice P at) h
  goes-atom-of h (Some atom) P at = goes-some s h _
  goes-atom-of h None P at = goes-asking s h _

  pub goes-makes-list : (r : Heights) (count : ℕ) (at : Place) → Goes s (r ⊕ (parts count ⊕ constructors 1)) (makes_list count at) (r ⊕ parts 1)
  goes-makes-list r count at =
      goes-then s _ _ (goes-closes-constructor s (r ⊕ parts count)) (λ c. goes-then s _ _ (goes-atom-of (r ⊕ parts count) c.choice _ at)
      (λ atom. goes-makes s r count _))

  pub goes-makes-mapping : (r : Heights) (count : ℕ) (at : Place)
      → Goes s (r ⊕ (parts (2 * count) ⊕ constructors 1)) (makes_mapping count at) (r ⊕ parts 1)
  goes-makes-mapping r count at =
      goes-then s _ _ (goes-closes-constructor s (r ⊕ parts (2 * count))) (λ c.
      goes-then s _ _ (goes-atom-of (r ⊕ parts (2 * count)) c.choice _ at) (λ atom. goes-makes s r (2 * count) _))

  pub goes-makes-error : (r : Heights) (count : ℕ) (at : Place)
      → Goes s (r ⊕ (parts (2 + 2 * count) ⊕ constructors 1)) (makes_error count at) (r ⊕ parts 1)
  goes-makes-error r count at =
      goes-then s _ _ (goes-closes-constructor s (r ⊕ parts (2 + 2 * count))) (λ c.
      goes-then s _ _ (goes-asking s (r ⊕ parts (2 + 2 * count)) _) (λ first. goes-makes s r (2 + 2 * count) _))

  -- `passes`: which questions pass a limit
  module _ (passes : List AtomDef → Asked → TypeLimit → Type 0) where
    -- ---- what is chosen

    module _ (own : Ty → List Choice) (Fits : Atoms → Choice → Type 0) where
      goes-first-fit : (h : Heights) (all : List Choice) (at : Place) → Goes s h (first_fit Fits all at) h
      unfolding first_fit
      goes-first-fit h all at old new a p (x, e) = subst (Above s h) (sym e) p

      goes-chooses-by : (r : Heights) (all : List Choice) (t : Ty) (at : Place)
          → Goes s r (chooses_by passes own Fits all t at) (r ⊕ constructors 1)
      goes-chooses-by r [] t at = goes-then s _ _ (goes-whether s passes r _ _ at) (λ b. goes-opens-constructor s r _)
      goes-chooses-by r (c ∷ cs) t at = goes-then s _ _ (goes-first-fit r _ at) (λ d. goes-opens-constructor s r _)

      goes-chooses-for : (r : Heights) (w : Option Shared) (at : Place) → Goes s r (chooses_for passes own Fits w at) (r ⊕ constructors 1)
      goes-chooses-for r None at = goes-opens-constructor s r _
      goes-chooses-for r (Some t) at = goes-chooses-by r _ t.value at

      pub goes-constructor : (r : Heights) (e : Expected) (at : Place) → Goes s r (chooses_constructor passes own Fits e at) (r ⊕ constructors 1)
      goes-constructor r expected.Nothing at = goes-opens-constructor s r _
      goes-constructor r expected.Immutable at = goes-opens-constructor s r _
      goes-constructor r expected.Wanted at = goes-then s _ _ (goes-some s r _) (λ w. goes-chooses-for r w at)

    -- ---- members

    goes-frozen : (h : Heights) (e : TypedExpr) (at : Place) → Goes s h (is_frozen passes e at) h
    goes-frozen h e at = goes-then s _ _ (goes-whether s passes h _ _ at) (λ b. goes-unless s h b _ at)

    goes-fits-fields : (h : Heights) (key : SemType) (e : TypedExpr) (at : Place) (fields : List FieldDef)
        → Goes s h (fits_fields passes key e at fields) h
    goes-fits-fields h key e at [] = goes-done s h
    goes-fits-fields h key e at (f ∷ fields) =
        goes-then s _ _ (goes-then s _ _ (goes-asking s h _) (λ b. goes-either s b _ _ (goes-then s _ _ (goes-some s h _) (λ t. goes-asking s h _)) (goes-done s h)))
        (λ u. goes-fits-fields h key e at fields)

    goes-fits-keys : (h : Heights) (choice : Option ℕ) (key : Option Text) (at : Place) → Goes s h (fits_keys passes choice key at) h
    goes-fits-keys h None key at = goes-done s h
    goes-fits-keys h (Some atom) (Some key) at = goes-done s h
    goes-fits-keys h (Some atom) None at =
        goes-then s _ _ (goes-some s h _) (λ p. goes-then s _ _ (goes-some s h _) (λ fields. goes-fits-fields h _ _ at fields))

    goes-may-stand : (h : Heights) (c : ConstructorAtWork) (e : TypedExpr) (at : Place) → Goes s h (may_stand passes c e at) h
    goes-may-stand h c e at = goes-either s c.immutable _ _ (goes-frozen h e at) (goes-done s h)

    goes-added-type : (h : Heights) (choice : Option ℕ) (e : TypedExpr) (at : Place) → Goes s h (added_type passes choice e at) h
    goes-added-type h None e at = goes-widened s passes h _ at
    goes-added-type h (Some atom) e at = goes-some s h _

    goes-adds-member : (r : Heights) (c : ConstructorAtWork) (e : TypedExpr) (at : Place)
        → Goes s (r ⊕ constructors 1) (adds_member passes c e at) (r ⊕ constructors 1)
    goes-adds-member r c e at =
        goes-then s _ _ (goes-added-type (r ⊕ constructors 1) c.choice e at) (λ t.
        goes-then s _ _ (goes-some s (r ⊕ constructors 1) _) (λ u. goes-sets-constructor s r _))

    pub goes-item : (r : Heights) (at : Place) → Goes s (r ⊕ (constructors 1 ⊕ wants 1)) (is_item passes at) (r ⊕ constructors 1)
    goes-item r at =
        let h : Heights = r ⊕ (constructors 1 ⊕ wants 1) in
        goes-then s _ _ (goes-some s h _) (λ c. goes-then s _ _ (goes-some s h _) (λ e. goes-then s _ _ (goes-some s h _) (λ w.
        goes-then s _ _ (goes-below-if s passes h w e at) (λ u. goes-then s _ _ (goes-may-stand h c e at) (λ v.
        goes-then s _ _ (goes-adds-member (r ⊕ wants 1) c e at) (λ x. goes-no-more s (r ⊕ constructors 1) 1))))))

    pub goes-member : (r : Heights) (at : Place) → Goes s (r ⊕ (constructors 1 ⊕ wants 1)) (is_member passes at) (r ⊕ constructors 1)
    goes-member r at =
        let h : Heights = r ⊕ (constructors 1 ⊕ wants 1) in
        goes-then s _ _ (goes-some s h _) (λ c. goes-then s _ _ (goes-some s h _) (λ e. goes-then s _ _ (goes-some s h _) (λ w.
        goes-then s _ _ (goes-below-if s passes h w e at) (λ u.
        goes-then s _ _ (goes-then s _ _ (goes-some s h _) (λ key. goes-fits-keys h c.choice key at)) (λ v.
        goes-then s _ _ (goes-may-stand h c e at) (λ x.
        goes-then s _ _ (goes-adds-member (r ⊕ wants 1) c e at) (λ y. goes-no-more s (r ⊕ constructors 1) 1)))))))

    pub goes-detail : (r : Heights) (at : Place) → Goes s (r ⊕ constructors 1) (is_detail passes at) (r ⊕ constructors 1)
    goes-detail r at =
        let h : Heights = r ⊕ constructors 1 in
        goes-then s _ _ (goes-some s h _) (λ c. goes-then s _ _ (goes-some s h _) (λ e. goes-then s _ _ (goes-frozen h e at) (λ u.
        goes-then s _ _ (goes-some s h _) (λ t. goes-sets-constructor s r _))))
