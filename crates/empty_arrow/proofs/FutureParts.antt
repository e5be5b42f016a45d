-- What stands among the results of the futures of a path.
use Rattle.std.proofs.Common.{◌≡◌, ◌⊎◌, inl, inr, ℕ, suc, ◌+◌, ◌<◌, ◌≤◌, ◌^◌, List, [], ◌∷◌, map, length, Bool, true, false, All, Contains, Option, Vec, Global, refl, sym, ap, subst, ◌∙◌, arith}
use Rattle.std.proofs.lemmas.List.Elements.{All-nil, All-cons, All-head, All-tail, All-map, All-weaker, All-contains}
use Rattle.bal_base.specs.declared.shape.Shape.{Shape, Nil, Bool as BoolShape, Int, Str, List', Mapping', Error', Function, Future, Future'}
use Rattle.bal_base.specs.declared.shape.Shapes.{Shapes}
use Rattle.bal_base.specs.Valid.{IsValid}
use Rattle.bal_base.proofs.Vectors.{holding, length-small}
use Rattle.type_model.specs.declared.basic.SemType.{Atom}
use Rattle.type_model.specs.declared.atoms.AtomDef.{AtomDef}
use Rattle.type_model.specs.declared.answers.Keys.TheVariants.{Results}
use Rattle.type_model.specs.Membership.{In}
use Rattle.type_model.specs.Parts.{StandsIn}
use Rattle.type_diagrams.specs.declared.kind.Kind.TheVariants.{Future as Futures}
use Rattle.type_diagrams.specs.declared.path.Path.{Path}
use Rattle.type_diagrams.specs.Kinds.{the_mark}
use Rattle.type_diagrams.specs.Conditions.{Condition, AreOne, LooksAtKinds, Meets, IsShapeOf, condition_of, without, asks}
use Rattle.type_diagrams.specs.Members.{atoms_in, asked}
use Rattle.type_diagrams.specs.Paths.{IsOnPath}
use Rattle.type_diagrams.specs.Tables.{Table, condition}
use Rattle.type_diagrams.specs.Turns.{HasLower, IsShapeOn}
use Rattle.type_diagrams.specs.Whole.{Gives}
use Rattle.type_diagrams.specs.Projections.{AreParts}
use Rattle.type_diagrams.proofs.Elements.{All-where}
use Rattle.type_diagrams.proofs.Meeting.{Meets-asks, Meets-same, Meets-without}
use Rattle.type_diagrams.proofs.PathShapes.{IsAtomOf, has_mark, in_wanted}
use Rattle.type_diagrams.proofs.Reaching.{asked-Looks, asks-Looks, each, one-Looks, type-Looks}
use Rattle.type_diagrams.specs.Atoms.{parts_of}
use Rattle.empty_arrow.specs.Parts.{one_part, part_of}
use Rattle.empty_arrow.specs.Results.{AreResults}
use Rattle.empty_arrow.proofs.FutureResults.{In-results, results_in, results_in-Future, valid_results, future-on_path, no_marked_future, path-result}

-- what stands among the results
stands_among : (x y : Shape) → StandsIn Results x y → Contains (results_in x) y
stands_among (Future' _ row) y h = h
stands_among Nil y h = absurd h
stands_among (BoolShape b) y h = absurd h
stands_among (Int i) y h = absurd h
stands_among (Str t) y h = absurd h
stands_among (List' mark _ items) y h = absurd h
stands_among (Mapping' mark _ fields) y h = absurd h
stands_among (Error' _ detail) y h = absurd h
stands_among (Function isolated graph) y h = absurd h

first-stands : (results : Shapes) (y : Shape) (ys : List Shape) → results.items.items ≡ y ∷ ys → StandsIn Results (Future results) y
first-stands results y ys is = subst (λ xs. Contains xs y) (sym (results_in-Future results ∙ is)) (0, omega arith, refl)

module _ (env : List AtomDef) (all : Condition) where
  -- one result outside each of the atoms
  one_each : (atoms : List ℕ) → ((a : ℕ) → Contains atoms a → (y : Shape) × IsShapeOf env (without all (part_of env a)) y) → (xs : List Shape) × (length xs ≡ length atoms) × AreResults env all atoms xs
  one_each [] f = ([], refl, record { inside = All-nil (IsShapeOf env all); avoiding = All-nil (λ a. ¬ All (Meets env (part_of env a)) []) })
  one_each (a ∷ atoms) f =
      let rest = one_each atoms (λ b c. f b (suc c.0, omega (arith, c.1), c.2)) in
      let y = f a (0, omega arith, refl) in
      let met = (Meets-without env all (part_of env a) y.0).0 y.1.1 in
      let xs = y.0 ∷ rest.0 in (
        xs,
        ap suc rest.1,
        record {
          inside = All-cons (IsShapeOf env all) y.0 rest.0 (y.1.0, met.0) rest.2.inside;
          avoiding = All-cons (λ b. ¬ All (Meets env (part_of env b)) xs) a atoms
              (λ e. met.1 (All-head (Meets env (part_of env a)) y.0 rest.0 e))
              (All-weaker (λ b. ¬ All (Meets env (part_of env b)) rest.0) (λ b. ¬ All (Meets env (part_of env b)) xs) (λ b n e. n (All-tail (Meets env (part_of env b)) y.0 rest.0 e)) atoms rest.2.avoiding);
        },
      )

  -- and a further one
  further-AreResults : (atoms : List ℕ) (y : Shape) (xs : List Shape) → IsShapeOf env all y → AreResults env all atoms xs → AreResults env all atoms (y ∷ xs)
  further-AreResults atoms y xs is are = record {
    inside = All-cons (IsShapeOf env all) y xs is are.inside;
    avoiding = All-weaker (λ b. ¬ All (Meets env (part_of env b)) xs) (λ b. ¬ All (Meets env (part_of env b)) (y ∷ xs)) (λ b n e. n (All-tail (Meets env (part_of env b)) y xs e)) atoms are.avoiding;
  }

module _ (env : List AtomDef) (small : length env ≤ the_mark) (p : Path) (pos : All (IsAtomOf env Futures) (atoms_in p.pos)) (neg : All (IsAtomOf env Futures) (atoms_in p.neg)) (all : Condition) (is : AreOne all (asks (map (part_of env) (atoms_in p.pos)) [])) where
  plain : (x : Shape) → IsOnPath env Futures p x → has_mark p ≡ false
  plain x on = by (has_mark p) refl
    where
      by : (b : Bool) → has_mark p ≡ b → has_mark p ≡ false
      by false e = e
      by true e = absurd (no_marked_future env small p e x on)

  -- a future of the path with the result among its results
  with_result : (places : Vec ℕ Global) → length places.items ≡ length (atoms_in p.neg) + 1 → (x : Shape) → IsShapeOn env Futures p x → (y : Shape) → IsShapeOf env all y → (w : Shape) × IsShapeOn env Futures p w × StandsIn Results w y
  with_result places long x on y inside =
      let rest = one_each env all (atoms_in p.neg) (λ a c. let r = path-result env small p pos neg all is x on.0 on.1 a c in (r.0, r.1)) in
      let ys = y ∷ rest.0 in
      let holds : length ys < 2 ^ 63 = let limit = length-small places in let same = rest.1 in omega (arith, limit, long, same) in
      let results : Shapes = record { items = holding places ys holds } in
      let are = further-AreResults env all (atoms_in p.neg) y rest.0 inside rest.2 in
      (Future results, future-on_path env small p pos neg all is results (plain x on.1) are, first-stands results y rest.0 refl)

  -- each result is as all wanted atoms ask
  result-inside : (x y : Shape) → IsShapeOn env Futures p x → StandsIn Results x y → IsShapeOf env all y
  result-inside x y on stands =
      let among = stands_among x y stands in
      let valid = All-contains IsValid (results_in x) y (valid_results x on.1.kind on.0) among in
      let wanted = All-where (IsAtomOf env Futures) (λ b. In env x (Atom b)) (λ b. Meets env (part_of env b) y)
      (λ b d i. All-contains (Meets env (part_of env b)) (results_in x) y ((In-results env small x on.1.kind _ d).0 i) among) (atoms_in p.pos) pos (in_wanted env Futures p x on.1) in
      let met = (Meets-asks env (map (part_of env) (atoms_in p.pos)) [] y).1 (All-map (λ c. Meets env c y) (part_of env) (atoms_in p.pos) wanted, All-nil (λ d. ¬ Meets env d y)) in
      (valid, (Meets-same env all (asks (map (part_of env) (atoms_in p.pos)) []) y valid is).1 met)

  pub wanted-Looks : LooksAtKinds env all
  wanted-Looks = one-Looks env (asks (map (part_of env) (atoms_in p.pos)) []) all is
      (asks-Looks env (map (part_of env) (atoms_in p.pos)) [] (each env (part_of env) (atoms_in p.pos) (λ a. asked-Looks env (condition_of env) (λ t. type-Looks env t) (parts_of one_part env a))) (All-nil (LooksAtKinds env)))

-- a path with a shape
pub shape-AreParts : (env : List AtomDef) (small : length env ≤ the_mark) (p : Path) (pos : All (IsAtomOf env Futures) (atoms_in p.pos)) (neg : All (IsAtomOf env Futures) (atoms_in p.neg))
    (table : Table) (kept : List (ℕ × Option Shape)) (q : ℕ) (places : Vec ℕ Global) → length places.items ≡ length (atoms_in p.neg) + 1
    → Gives table (asks (map (part_of env) (atoms_in p.pos)) []) q → (x : Shape) → IsShapeOn env Futures p x → AreParts env table kept Futures p Results q
shape-AreParts env small p pos neg table kept q places long gives x on =
    let all = condition table q in record {
      diagram = gives.diagram;
      looks = wanted-Looks env small p pos neg all gives.condition;
      from = λ y inside. with_result env small p pos neg all gives.condition places long x on y inside;
      to = λ w y here stands. inl (result-inside env small p pos neg all gives.condition w y here stands);
    }
