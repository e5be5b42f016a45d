-- Methods of a name, one after another.
use Rattle.std.proofs.Common.{◌≡◌, ◌+◌, ◌<◌, ◌≤◌, ℕ, Bool, true, false, List, [], ◌∷◌, Result, Ok, Err, Option, Some, None, drop, filter, get_or, length, map, refl, sym, subst, cond, add-one, drop-cons}
use Rattle.std.proofs.lemmas.List.{drop_all}
use Rattle.bal_base.specs.declared.fault.Fault.{Fault}
use Rattle.bal_base.specs.declared.place.Place.{Place}
use Rattle.bal_base.specs.declared.stop.Stop.{Stop}
use Rattle.bal_base.specs.declared.stop.Stop.TheVariants.{Memory, Fault as OwnFault}
use Rattle.bal_base.specs.declared.text.Name.{Name}
use Rattle.checks.specs.Checks.{Check, Comes, either, gives, gives_some, refuses}
use Rattle.operations.specs.declared.library.LibraryCall.{LibraryCall}
use Rattle.type_model.specs.declared.answers.TypeLimit.{TypeLimit}
use Rattle.type_model.specs.declared.atoms.AtomDef.{AtomDef}
use Rattle.type_model.specs.declared.basic.SemType.{SemType}
use Rattle.type_model.specs.Calls.{Asked}
use Rattle.typed_tree.specs.declared.expr.TypedExpr.{TypedExpr}
use Rattle.expr_needs.specs.declared.kind.Kind.{Kind}
use Rattle.check_words.specs.Calls.{is_receiver, picks}
use Rattle.check_words.specs.Library.{LibraryRow, calls_of_values, is_named, row_of}
use Rattle.check_words.specs.State.{State}
use Rattle.check_words.specs.Words.{Atoms, OfKind, sem, whether_within}
use Rattle.check_kinds.specs.Over.{ComesOver}
use Rattle.check_kinds.proofs.Over.{over-on, over-out, over-stops}
use Rattle.check_calls.specs.Picking.{IsNoMethod, picks_among, picks_methods}

pub ruleset outs = (over-out)

over-gives : {A : Type 0} (a : A) (env : Atoms) → ComesOver (gives a) env (Ok a) env
unfolding ComesOver Comes gives_some
over-gives a env s e = (refl, subst (λ (o : Atoms). record s { atoms = o } ≡ s) e refl)

module _ (passes : List AtomDef → Asked → TypeLimit → Type 0) (at : Place) where
  -- a method of any value
  pub any-receiver : (t : Option Kind) (e : TypedExpr) (env : Atoms) → t ≡ None → ComesOver (is_receiver passes t e at) env (Ok true) env
  any-receiver None e env is = over-gives true env
  any-receiver (Some k) e env is = absurd (cc)

  pub kind-receiver : (t : Option Kind) (k : Kind) (e : TypedExpr) (s : SemType) (old new : Atoms) (r : Result Bool (Stop Fault)) → t ≡ Some k → sem e ≡ s
      → ComesOver (whether_within passes (OfKind k) s at) old r new → ComesOver (is_receiver passes t e at) old r new
  kind-receiver t k e s old new r is same h =
      subst (λ (o : Option Kind). ComesOver (is_receiver passes o e at) old r new) (sym is)
      (subst (λ (u : SemType). ComesOver (whether_within passes (OfKind k) u at) old r new) (sym same) h)

  module _ (name : Name) (e : TypedExpr) where
    module _ (call : LibraryCall) (calls : List LibraryCall) where
      abbrev Where : Bool → Check State LibraryRow
      Where b = picks passes (cond b (row_of call ∷ filter (is_named name) (map row_of calls)) (filter (is_named name) (map row_of calls))) e at

      pub skipped : (old new : Atoms) (r : Result LibraryRow (Stop Fault)) → is_named name (row_of call) ≡ false → ComesOver (picks_among passes name calls e at) old r new
          → ComesOver (picks_among passes name (call ∷ calls) e at) old r new
      unfolding picks_among
      skipped old new r other h = subst (λ (b : Bool). ComesOver (Where b) old r new) (sym other) h

      pub taken : (old new : Atoms) → is_named name (row_of call) ≡ true → ComesOver (is_receiver passes (row_of call).receiver e at) old (Ok true) new
          → ComesOver (picks_among passes name (call ∷ calls) e at) old (Ok (row_of call)) new
      unfolding picks_among
      taken old new named h = subst (λ (b : Bool). ComesOver (Where b) old (Ok (row_of call)) new) (sym named)
          (over-on (is_receiver passes (row_of call).receiver e at) (λ b. either b (gives (row_of call)) (picks passes (filter (is_named name) (map row_of calls)) e at)) old new new true
          (Ok (row_of call)) h (over-gives (row_of call) new))

      pub passed : (old mid new : Atoms) (r : Result LibraryRow (Stop Fault)) → is_named name (row_of call) ≡ true
          → ComesOver (is_receiver passes (row_of call).receiver e at) old (Ok false) mid → ComesOver (picks_among passes name calls e at) mid r new
          → ComesOver (picks_among passes name (call ∷ calls) e at) old r new
      unfolding picks_among
      passed old mid new r named h k = subst (λ (b : Bool). ComesOver (Where b) old r new) (sym named)
          (over-on (is_receiver passes (row_of call).receiver e at) (λ b. either b (gives (row_of call)) (picks passes (filter (is_named name) (map row_of calls)) e at)) old mid new false r h k)

      pub stopped : (old new : Atoms) (stop : Stop Fault) → is_named name (row_of call) ≡ true → ComesOver (is_receiver passes (row_of call).receiver e at) old (Err stop) new
          → ComesOver (picks_among passes name (call ∷ calls) e at) old (Err stop) new
      unfolding picks_among
      stopped old new stop named h = subst (λ (b : Bool). ComesOver (Where b) old (Err stop) new) (sym named)
          (over-stops (is_receiver passes (row_of call).receiver e at) (λ b. either b (gives (row_of call)) (picks passes (filter (is_named name) (map row_of calls)) e at)) old new stop h)

    pub none-among : (env : Atoms) (stop : Stop Fault) → IsNoMethod at stop → ComesOver (picks_among passes name [] e at) env (Err stop) env
    unfolding picks_among ComesOver Comes refuses
    none-among env (OwnFault f) h s e2 = (h, subst (λ (o : Atoms). record s { atoms = o } ≡ s) e2 refl)
    none-among env Memory h s e2 = tt

    -- what comes of the rest comes of the whole, too
    abbrev pub GoesOn : Atoms → Atoms → List LibraryCall → List LibraryCall → Type 0
    GoesOn first now rest all = (r : Result LibraryRow (Stop Fault)) (new : Atoms) → ComesOver (picks_among passes name rest e at) now r new → ComesOver (picks_among passes name all e at) first r new

    -- all of them are the methods
    pub all-methods : (old new : Atoms) (r : Result LibraryRow (Stop Fault)) → ComesOver (picks_among passes name calls_of_values e at) old r new
        → ComesOver (picks_methods passes name e at) old r new
    unfolding picks_among picks_methods
    all-methods old new r h = h

-- the rest of a list from a place on
pub rest-at : {A : Type 0} (xs : List A) (i : ℕ) (d : A) → i < length xs → drop i xs ≡ get_or xs i d ∷ drop (i + 1) xs
rest-at xs i d lt = rw add-one (drop-cons xs i d lt)

pub rest-past : {A : Type 0} (xs : List A) (i : ℕ) → length xs ≤ i → drop i xs ≡ []
rest-past xs i le = drop_all i xs le
