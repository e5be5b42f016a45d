-- A function at its end: its unit is taken away, and a part stands in place of its value.
use Rattle.std.proofs.Common.{◌≡◌, ◌∙◌, ◌++◌, ◌+◌, ℕ, Bool, List, [], ◌∷◌, length, Option, None, append_assoc, refl, sym, subst, ap}
use Rattle.bal_base.specs.declared.place.Place.{Place}
use Rattle.checks.specs.Checks.{Gives, gives_some, ◌▷◌}
use Rattle.checks.specs.Questions.{adds}
use Rattle.needs.specs.Needs.{asks, does}
use Rattle.type_model.specs.declared.atoms.AtomDef.{AtomDef}
use Rattle.typed_tree.specs.declared.expr.AnonymousFunction.{AnonymousFunction}
use Rattle.typed_tree.specs.declared.expr.TypedExpr.{TypedExpr}
use Rattle.typed_tree.specs.SharedTypes.{Shared}
use Rattle.typed_tree.specs.Views.{IsFunctionOf}
use Rattle.check_words.specs.Calls.{makes_anonymous}
use Rattle.check_words.specs.State.{AreLast, IsLast, State, UnitAtWork, all_but}
use Rattle.typed_needs.proofs.Anonymous.{function_of}

pub record HasEnded (isolated : Bool) (at : Place) (old new : State) : Type 0 where
  pub unit : UnitAtWork
  pub at_hand : IsLast old.units unit
  pub first : ℕ
  pub number : first ≡ length old.atoms
  pub more : List AtomDef
  pub atoms : new.atoms ≡ old.atoms ++ more
  pub units : new.units ≡ all_but 1 old.units
  pub ways : new.ways ≡ None
  pub choices : new.choices ≡ old.choices
  pub value : TypedExpr
  pub last : IsLast old.found value
  pub part : TypedExpr
  pub found : new.found ≡ all_but 1 old.found ++ part ∷ []
  pub type : Shared
  pub view : IsFunctionOf (function_of isolated unit first) value type at part

pub ended : (isolated : Bool) (at : Place) (old new : State) → makes_anonymous isolated at old (Gives tt) new → HasEnded isolated at old new
unfolding ◌▷◌ gives_some does asks adds
ended isolated at old new (v, s1, e1, (u, s4, (w, s2, (last, e2), (x, s3, e3, (is, e4))), (first, s5, ((defs, own, number, atoms), e5), (parts, one, e, (value, these, t, type, view), made)))) =
    let to-4 : s4 ≡ record s2 { units = all_but 1 s2.units; ways = None } = e4 ∙ e3 in
    let same : u ≡ w = is in
    let hand : IsLast old.units u = subst (λ us. IsLast us u) (ap (λ (s : State). s.units) e1) (subst (λ (y : UnitAtWork). IsLast s1.units y) (sym same) last) in
    let atoms-4 : s4.atoms ≡ old.atoms = ap (λ (s : State). s.atoms) to-4 ∙ ap (λ (s : State). s.atoms) e2 ∙ ap (λ (s : State). s.atoms) e1 in
    let found-4 : s4.found ≡ old.found = ap (λ (s : State). s.found) to-4 ∙ ap (λ (s : State). s.found) e2 ∙ ap (λ (s : State). s.found) e1 in
    let units-4 : s4.units ≡ all_but 1 old.units =
    ap (λ (s : State). s.units) to-4 ∙ ap (λ (s : State). all_but 1 s.units) e2 ∙ ap (λ (s : State). all_but 1 s.units) e1 in
    let found-5 : s5.found ≡ old.found = ap (λ (s : State). s.found) e5 ∙ found-4 in
    let lasts : AreLast old.found 1 (value ∷ []) = subst (λ xs. AreLast xs 1 (value ∷ [])) found-5 (subst (λ ys. AreLast s5.found 1 ys) these one) in
    record {
      unit = u;
      at_hand = hand;
      first = first;
      number = number ∙ ap (λ (xs : List AtomDef). length xs) atoms-4;
      more = defs;
      atoms = ap (λ (s : State). s.atoms) made ∙ atoms ∙ ap (λ (xs : List AtomDef). xs ++ defs) atoms-4;
      units = ap (λ (s : State). s.units) made ∙ ap (λ (s : State). s.units) e5 ∙ units-4;
      ways = ap (λ (s : State). s.ways) made;
      choices = ap (λ (s : State). s.choices) made ∙ ap (λ (s : State). s.choices) e5 ∙ ap (λ (s : State). s.choices) to-4 ∙ ap (λ (s : State). s.choices) e2 ∙ ap (λ (s : State). s.choices) e1;
      value = value;
      last = record { kept = lasts.kept; is = lasts.is };
      part = e;
      found = ap (λ (s : State). s.found) made ∙ ap (λ xs. all_but 1 xs ++ e ∷ []) found-5;
      type = t;
      view = view;
    }
