-- One more unit, and the code of all of them.
use Rattle.std.proofs.Common.{◌≡◌, ◌∙◌, ◌+◌, ◌<◌, ◌++◌, ℕ, List, [], ◌∷◌, length, map, take, get_or, refl, sym, ap, subst, Some}
use Rattle.std.specs.Prelude.{option_map, slice_get}
use Rattle.std.specs.List.{AllZip}
use Rattle.std.proofs.lemmas.List.{map-append, take_more}
use Rattle.std.proofs.lemmas.Simd.{map-map}
use Rattle.std.proofs.lemmas.Option.{slice_get-map}
use Rattle.typed_tree.specs.declared.package.TypedPackage.{TypedPackage}
use Rattle.typed_tree.specs.Units.{UnitBody, UnitTree, unit_at}
use Rattle.machine_model.specs.Machine.{words_of}
use Rattle.eval_model.specs.Trees.{unit_facts as tree_facts}
use Rattle.stack_code.specs.declared.code.Code.{Code}
use Rattle.stack_code.specs.CodeMachine.{unit_facts}
use Rattle.lower_model.specs.Assembled.{HasUnits, IsAssembled, bodies_of, made_of}
use Rattle.lower_model.specs.Laying.{Agrees}
use Rattle.lower_model.specs.Making.{Making, firsts_made, place_of, unit_made, units_made, unmade}
use Rattle.lower_model.specs.Whole.{IsLowered}
use Rattle.lower_model.proofs.Assembled.{assembled-is-lowered}
use Rattle.package_units.specs.declared.held.HeldUnit.{HeldUnit}
use Rattle.package_units.specs.Held.{tree_of}
use Rattle.code_assembly.specs.declared.units.LaidUnit.{LaidUnit}
use Rattle.code_assembly.specs.Unit.{IsUnitOf, tree_in}
use Rattle.code_assembly.proofs.Agreeing.{zip-map}

-- ---- one more unit

units-append : (us : List UnitBody) (u : UnitBody) (m : Making) → units_made (us ++ u ∷ []) m ≡ unit_made u (units_made us m)
units-append [] u m = refl
units-append (v ∷ us) u m = units-append us u (unit_made v m)

firsts-append : (us : List UnitBody) (u : UnitBody) (m : Making) → firsts_made (us ++ u ∷ []) m ≡ firsts_made us m ++ length (units_made us m).steps ∷ []
firsts-append [] u m = refl
firsts-append (v ∷ us) u m = ap (λ l. length m.steps ∷ l) (firsts-append us u (unit_made v m))

abbrev bodies : List HeldUnit → List UnitBody
bodies us = bodies_of (map tree_of us)

-- the state of the loop before a unit, and behind it
pub record Laid (us : List HeldUnit) (before now : Making) (ls : List LaidUnit) : Type 0 where
  pub made : now ≡ units_made (bodies us) before
  pub trees : map tree_in ls ≡ map tree_of us
  pub firsts : map (λ l. l.first) ls ≡ firsts_made (bodies us) before

pub laid-next : (us : List HeldUnit) (k : ℕ) (u : HeldUnit) (before mid new : Making) (ls news : List LaidUnit) (l : LaidUnit) → k < length us → u ≡ get_or us k u → news ≡ ls ++ l ∷ []
    → Laid (take k us) before mid ls → new ≡ unit_made (tree_of u).body mid → tree_in l ≡ tree_of u → l.first ≡ length mid.steps
    → Laid (take (k + 1) us) before new news
laid-next us k u before mid new ls news l lt at pushed is next tree first =
    subst (λ vs. Laid vs before new news) (sym (take_more us k u lt ∙ ap (λ y. take k us ++ y ∷ []) (sym at)))
    (record {
      made = next ∙ ap (unit_made (tree_of u).body) is.made ∙ sym (ap (λ bs. units_made bs before) more ∙ units-append (bodies (take k us)) (tree_of u).body before);
      trees = ap (map tree_in) pushed ∙ map-append tree_in ls (l ∷ []) ∙ ap (λ ts. ts ++ tree_in l ∷ []) is.trees ∙ ap (λ t. map tree_of (take k us) ++ t ∷ []) tree ∙ sym (map-append tree_of (take k us) (u ∷ []));
      firsts =
          ap (map (λ l. l.first)) pushed ∙ map-append (λ l. l.first) ls (l ∷ []) ∙ ap (λ ts. ts ++ l.first ∷ []) is.firsts
          ∙ ap (λ n. firsts_made (bodies (take k us)) before ++ n ∷ []) (first ∙ ap (λ m. length m.steps) is.made)
          ∙ sym (ap (λ bs. firsts_made bs before) more ∙ firsts-append (bodies (take k us)) (tree_of u).body before);
    })
  where
    more : bodies (take k us ++ u ∷ []) ≡ bodies (take k us) ++ (tree_of u).body ∷ []
    more = ap bodies_of (map-append tree_of (take k us) (u ∷ [])) ∙ map-append (λ t. t.body) (map tree_of (take k us)) (tree_of u ∷ [])

-- ---- the code of all

module _ (p : TypedPackage) (us : List UnitTree) (has : HasUnits p us) (m : Making) (made : m ≡ made_of us) (ls : List LaidUnit) (trees : map tree_in ls ≡ us) (firsts : map (λ l. l.first) ls ≡ firsts_made (bodies_of us) unmade) (code : Code) (agrees : Agrees code (place_of m) m) (units : AllZip IsUnitOf ls code.units) (variables : length code.variables ≡ length p.variables.items) (initialisers : code.initialisers ≡ map (λ i. i.unit.number) p.initialisers.items) (start : code.start ≡ p.start) (words : code.words ≡ p.words) where
  facts : map unit_facts code.units ≡ map (λ u. tree_facts (Some u)) us
  facts =
      zip-map IsUnitOf unit_facts (λ l. tree_facts (Some (tree_in l))) ls code.units (λ l v u. u.facts) units
      ∙ sym (map-map (λ u. tree_facts (Some u)) tree_in ls) ∙ ap (map (λ u. tree_facts (Some u))) trees

  slots : map (λ v. length v.slots) code.units ≡ map (λ u. length u.unit.slots) us
  slots =
      zip-map IsUnitOf (λ v. length v.slots) (λ l. length (tree_in l).unit.slots) ls code.units (λ l v u. u.count) units
      ∙ sym (map-map (λ u. length u.unit.slots) tree_in ls) ∙ ap (map (λ u. length u.unit.slots)) trees

  main-facts : option_map (λ u. tree_facts (Some u)) (unit_at p p.start) ≡ slice_get (map unit_facts code.units) code.start
  main-facts =
      ap (option_map (λ u. tree_facts (Some u))) (has.units p.start) ∙ sym (slice_get-map (λ u. tree_facts (Some u)) us p.start)
      ∙ ap (λ l. slice_get l p.start) (sym facts) ∙ ap (slice_get (map unit_facts code.units)) (sym start)

  pub is-assembled : IsAssembled p us code
  is-assembled =
      record {
        made = subst (λ x. Agrees code (place_of x) x) made agrees;
        firsts = zip-map IsUnitOf (λ v. v.first) (λ l. l.first) ls code.units (λ l v u. u.first) units ∙ firsts;
        slots = slots;
        facts = facts;
        initialisers = sym initialisers;
        launch = λ i. record { variables = sym variables i; main = sym start i; words = words_of (main-facts i) (sym words i) };
      }

  pub is-lowered : IsLowered code.atoms p code
  is-lowered = assembled-is-lowered p us code has is-assembled
