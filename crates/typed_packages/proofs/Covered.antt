-- The placed units of a package are its units, in the same order.
use Rattle.std.proofs.Common.{List, [], map, refl, ℕ, ◌++◌, ◌∙◌, ◌∷◌, ◌≡◌}
use Rattle.std.proofs.lemmas.List.{map-append}
use Rattle.tree_promises.specs.Placed.{Placed, placed_units}
use Rattle.typed_tree.specs.Listed.{Listed, joined, members, nothing, one, ◌&◌}
use Rattle.typed_tree.specs.Units.{OfFunction, OfInitialiser, OfWorker, UnitTree, body_units, function_units, initial_units, initialiser_units, stmts_units, units_of, worker_units}
use Rattle.typed_tree.specs.declared.package.Initialiser.{Initialiser}
use Rattle.typed_tree.specs.declared.package.TypedPackage.{TypedPackage}
use Rattle.typed_tree.specs.declared.unit.TypedBody.TheVariants.{Block, Expr}
use Rattle.typed_tree.specs.declared.unit.TypedBody.{TypedBody}
use Rattle.typed_tree.specs.declared.unit.TypedFunction.{TypedFunction}
use Rattle.typed_tree.specs.declared.unit.TypedWorker.{TypedWorker}
use Rattle.unit_crews.specs.Crews.{Crewed, alone, body_crewed, crew_count, crewed, crewed_units, function_crewed, initialiser_crewed, worker_crewed}
use Rattle.unit_crews.specs.Laws.{PlacedUnitsAreCrewed}

abbrev mapped : {A B : Type 0} → (A → B) → Listed A → Listed B
mapped f nothing = nothing
mapped f (one a) = one (f a)
mapped f (p & q) = mapped f p & mapped f q

mapped-joined : {A B X : Type 0} (h : A → B) (f : X → Listed A) (g : X → Listed B) (xs : List X) → ((x : X) → mapped h (f x) ≡ g x) → mapped h (joined (map f xs)) ≡ joined (map g xs)
mapped-joined h f g [] same = refl
mapped-joined h f g (x ∷ xs) same = λ i. same x i & mapped-joined h f g xs same i

mapped-members : {A B : Type 0} (h : A → B) (l : Listed A) → map h (members l) ≡ members (mapped h l)
mapped-members h nothing = refl
mapped-members h (one a) = refl
mapped-members h (p & q) = map-append h (members p) (members q) ∙ (λ i. mapped-members h p i ++ mapped-members h q i)

abbrev tree : Crewed → UnitTree
tree c = c.tree

alone-trees : (u : Listed UnitTree) → mapped tree (alone u) ≡ u
alone-trees nothing = refl
alone-trees (one t) = refl
alone-trees (u & v) = λ i. alone-trees u i & alone-trees v i

worker-trees : (count : ℕ) (w : TypedWorker) → mapped tree (worker_crewed count w) ≡ worker_units w
worker-trees count w = λ i. one (record { unit = w.unit; body = OfWorker w.stmts.items w.ends }) & alone-trees (stmts_units w.stmts.items) i

body-trees : (count : ℕ) (body : TypedBody) → mapped tree (body_crewed count body) ≡ body_units body
body-trees count (Block initial workers rest ends close) =
    λ i. alone-trees (stmts_units initial.items) i & mapped-joined tree (worker_crewed count) worker_units workers.items (worker-trees count) i & alone-trees (stmts_units rest.items) i
body-trees count (Expr value) = alone-trees _

function-trees : (f : TypedFunction) → mapped tree (function_crewed f) ≡ function_units f
function-trees f = λ i. one (record { unit = f.unit; body = OfFunction f.body }) & body-trees (crew_count f.body) f.body i

initialiser-trees : (x : Initialiser) → mapped tree (initialiser_crewed x) ≡ initialiser_units x
initialiser-trees x = λ i. one (record { unit = x.unit; body = OfInitialiser x.values.items }) & alone-trees (joined (map initial_units x.values.items)) i

crewed-trees : (p : TypedPackage) → map tree (crewed_units p) ≡ units_of p
crewed-trees p =
    mapped-members tree (joined (map function_crewed p.functions.items) & joined (map initialiser_crewed p.initialisers.items))
    ∙ (λ i. members (mapped-joined tree function_crewed function_units p.functions.items function-trees i & mapped-joined tree initialiser_crewed initialiser_units p.initialisers.items initialiser-trees i))

placed-trees : (us : List Placed) → map (λ (u : Placed). u.tree) us ≡ map tree (map crewed us)
placed-trees [] = refl
placed-trees (u ∷ us) = λ i. u.tree ∷ placed-trees us i

pub all-covered : PlacedUnitsAreCrewed → (p : TypedPackage) → map (λ (u : Placed). u.tree) (placed_units p) ≡ units_of p
all-covered crews p = placed-trees (placed_units p) ∙ (λ i. map tree (crews p i)) ∙ crewed-trees p
