-- Which atoms the types of a code name, as its record says it.
use Rattle.std.proofs.Common.{◌≡◌, ◌<◌, ◌↔◌, ℕ, Bool, true, IsTrue, zero, suc, List, [], ◌∷◌, All, Some, arith, get_or, length, refl, slice_get, subst}
use Rattle.std.proofs.lemmas.Option.{get_or_from_slice_get, slice_get_within}
use Rattle.type_model.specs.declared.atoms.AtomDef.{AtomDef}
use Rattle.type_model.specs.declared.atoms.AtomDef.TheVariants.{List as ListAtom, Mapping as MappingAtom, Arrow, Error as ErrorAtom, Future as FutureAtom}
use Rattle.type_model.specs.Defined.{IsClosed}
use Rattle.type_model.specs.Places.{HasDistinctFields}
use Rattle.type_model.proofs.Same.{itself}
use Rattle.stack_code.specs.declared.code.Code.{Code}
use Rattle.stack_code.specs.declared.code.Unit.{Unit as CodeUnit}
use Rattle.stack_code.specs.Tables.{EachUnit, HasTextNames, HasTypes}
use Rattle.code_numbers.specs.inner.Named.{HasTexts, OthersName, UnitNames}

get-there : {X : Type 0} (xs : List X) (i : ℕ) (d : X) → i < length xs → slice_get xs i ≡ Some (get_or xs i d)
get-there [] i d lt = absurd (omega (arith, lt))
get-there (x ∷ xs) zero d lt = refl
get-there (x ∷ xs) (suc i) d lt = get-there xs i d (omega (arith, lt))

module _ (code : Code) where
  texts-same : (d : AtomDef) → HasTexts d ↔ HasTextNames code d
  texts-same (MappingAtom fields rest) = itself
  texts-same (ListAtom fixed rest) = itself
  texts-same (Arrow args outcome alone) = itself
  texts-same (ErrorAtom detail) = itself
  texts-same (FutureAtom outcome) = itself

  -- of each unit, by its number
  pub of-units : (P : CodeUnit → Type 0) → All P code.units → EachUnit code (λ n u. P u)
  of-units P all n u there = subst P (get_or_from_slice_get code.units n u u there) (all n u (slice_get_within code.units n u there))

  pub to-units : (P : CodeUnit → Type 0) → EachUnit code (λ n u. P u) → All P code.units
  to-units P each k d lt = each k (get_or code.units k d) (get-there code.units k d lt)

  abbrev Closed : Type 0
  Closed = IsClosed code.atoms × All HasDistinctFields code.atoms × All HasTexts code.atoms

  types-of : Closed → OthersName (length code.atoms) code → HasTypes code
  types-of c o = record {
    definitions = c.0;
    fields = c.1;
    names = λ k d lt. (texts-same (get_or code.atoms k d)).0 (c.2 k d lt);
    tested = o.0;
    variables = o.1;
    units = of-units (UnitNames (length code.atoms)) o.2;
  }

  others-of : HasTypes code → OthersName (length code.atoms) code
  others-of h = (h.tested, h.variables, to-units (UnitNames (length code.atoms)) h.units)

  -- where definitions hold, what is asked of the others decides
  pub by-others : (defs : List AtomDef) → defs ≡ code.atoms → (a b : Bool) → a ≡ true → IsTrue a ↔ (IsClosed defs × All HasDistinctFields defs × All HasTexts defs) → IsTrue b ↔ OthersName (length defs) code → IsTrue b ↔ HasTypes code
  by-others defs is a b e c o =
      let own = subst (λ (ds : List AtomDef). IsTrue a ↔ (IsClosed ds × All HasDistinctFields ds × All HasTexts ds)) is c in
      let others = subst (λ (ds : List AtomDef). IsTrue b ↔ OthersName (length ds) code) is o in
      ((λ y. types-of (own.0 e) (others.0 y)), (λ h. others.1 (others-of h)))
