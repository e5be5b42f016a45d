-- Code that is put together of what is made for the units of a package is lowered from the package.
use Rattle.std.proofs.Common.{◌≡◌, ◌∙◌, ◌+◌, ℕ, zero, suc, List, [], ◌∷◌, Option, Some, refl, sym, subst, ap, arith, length, map}
use Rattle.std.specs.Prelude.{slice_get}
use Rattle.typed_tree.specs.Units.{UnitTree, unit_at}
use Rattle.op_model.specs.Levels.{numbers_from}
use Rattle.machine_model.specs.Following.{Both}
use Rattle.eval_model.specs.Trees.{unit_facts as tree_facts}
use Rattle.stack_code.specs.declared.code.Code.{Code}
use Rattle.stack_code.specs.declared.code.Unit.{Unit as CodeUnit}
use Rattle.stack_code.specs.CodeMachine.{unit_facts}
use Rattle.lower_model.specs.Assembled.{AssembledIsLowered, bodies_of}
use Rattle.lower_model.specs.Laying.{BodiesAt}
use Rattle.lower_model.specs.Lowered.{UnitAt}
use Rattle.lower_model.specs.Making.{unmade}
use Rattle.lower_model.proofs.Lists.{same-head, same-tail}
use Rattle.lower_model.proofs.Units.{units-laid}

module _ (code : Code) where
  abbrev Firsts : List CodeUnit → List ℕ
  Firsts vs = map (λ v. v.first) vs

  abbrev Slots : List CodeUnit → List ℕ
  Slots vs = map (λ v. length v.slots) vs

  units-stand : (us : List UnitTree) (vs : List CodeUnit) → BodiesAt code (bodies_of us) (Firsts vs) → Slots vs ≡ map (λ u. length u.unit.slots) us → (n : ℕ) → Both (UnitAt code) (slice_get us n) (slice_get vs n)
  units-stand [] [] at slots n = tt
  units-stand [] (v ∷ vs) at slots n = absurd at
  units-stand (u ∷ us) [] at slots n = absurd at
  units-stand (u ∷ us) (v ∷ vs) at slots zero =
      record { slots = same-head (length v.slots) (length u.unit.slots) (Slots vs) (map (λ u. length u.unit.slots) us) slots; body = at.0 }
  units-stand (u ∷ us) (v ∷ vs) at slots (suc n) =
      units-stand us vs at.1 (same-tail (length v.slots) (length u.unit.slots) (Slots vs) (map (λ u. length u.unit.slots) us) slots) n

-- what is known of units by their numbers is what is known of them one after another
facts-listed : (find : ℕ → Option UnitTree) (us : List UnitTree) (k : ℕ) → ((n : ℕ) → find (k + n) ≡ slice_get us n) → map (λ n. tree_facts (find n)) (numbers_from k (length us)) ≡ map (λ u. tree_facts (Some u)) us
facts-listed find [] k at = refl
facts-listed find (u ∷ us) k at =
    let here : find k ≡ Some u = ap find (omega arith) ∙ at 0 in
    let rest = facts-listed find us (k + 1) (λ n. ap find (omega arith) ∙ at (suc n)) in
    λ i. tree_facts (here i) ∷ rest i

pub assembled-is-lowered : AssembledIsLowered
assembled-is-lowered p us code has put =
    let bodies = units-laid code (bodies_of us) unmade put.made in
    record {
      atoms = refl;
      facts =
          subst (λ n. map (λ n. tree_facts (unit_at p n)) (numbers_from 0 n) ≡ map unit_facts code.units) has.count
          (facts-listed (unit_at p) us 0 (λ n. ap (λ k. unit_at p k) (omega arith) ∙ has.units n) ∙ sym put.facts);
      initialisers = put.initialisers;
      launch = put.launch;
      units = λ n.
          subst (λ u. Both (UnitAt code) u (slice_get code.units n)) (sym (has.units n))
          (units-stand code us code.units (subst (λ ps. BodiesAt code (bodies_of us) ps) (sym put.firsts) bodies) put.slots n);
    }
