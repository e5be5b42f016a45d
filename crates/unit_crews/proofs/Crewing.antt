-- The placed units of a package, with their workers, are its units in the same order.
use Rattle.std.proofs.Common.{◌≡◌, ◌∙◌, ◌++◌, ℕ, suc, List, [], ◌∷◌, Option, Some, None, Bool, true, false, length, map, refl, sym, ap}
use Rattle.std.specs.Prelude.{◌==◌, find, if◌then◌else◌, option_map}
use Rattle.std.proofs.lemmas.List.{length-map, map-append}
use Rattle.type_model.specs.declared.basic.SemType.{SemType}
use Rattle.typed_tree.specs.declared.package.Initial.{Initial}
use Rattle.typed_tree.specs.declared.package.Initialiser.{Initialiser}
use Rattle.typed_tree.specs.declared.package.TypedPackage.{TypedPackage}
use Rattle.typed_tree.specs.declared.stmt.TypedStmt.{TypedStmt}
use Rattle.typed_tree.specs.declared.unit.TypedBody.{TypedBody}
use Rattle.typed_tree.specs.declared.unit.TypedBody.TheVariants.{Block, Expr}
use Rattle.typed_tree.specs.declared.unit.TypedFunction.{TypedFunction}
use Rattle.typed_tree.specs.declared.unit.TypedWorker.{TypedWorker}
use Rattle.typed_tree.specs.Listed.{Listed, nothing, one, ◌&◌, joined, members}
use Rattle.typed_tree.specs.SharedTypes.{sem_of}
use Rattle.typed_tree.specs.Units.{OfFunction, OfInitialiser, OfWorker, UnitTree, body_units, function_units, initial_units, initialiser_units, stmts_units, units_of, worker_units}
use Rattle.tree_promises.specs.Placed.{Placed, body_placed, crew_of, function_placed, initial_placed, initialiser_placed, named_workers, placed_at, placed_units, stmts_placed, worker_placed}
use Rattle.unit_crews.specs.Crews.{Crewed, alone, body_crewed, crew_count, crewed, crewed_units, function_crewed, initialiser_crewed, worker_crewed}
use Rattle.unit_crews.specs.Laws.{PlacedUnitsAreCrewed, PlacedUnitsAreUnits, PlacedUnitsHaveCrews}
use Rattle.unit_crews.proofs.Alone.{Alone, block-alone, expr-alone}

-- ---- listings, member by member

abbrev mapped : {A B : Type 0} → (A → B) → Listed A → Listed B
mapped f nothing = nothing
mapped f (one a) = one (f a)
mapped f (p & q) = mapped f p & mapped f q

mapped-joined : {A B X : Type 0} (h : A → B) (f : X → Listed A) (g : X → Listed B) (xs : List X) → ((x : X) → mapped h (f x) ≡ g x) → mapped h (joined (map f xs)) ≡ joined (map g xs)
mapped-joined h f g [] same = refl
mapped-joined h f g (x ∷ xs) same = λ i. same x i & mapped-joined h f g xs same i

mapped-members : {A B : Type 0} (h : A → B) (l : Listed A) → map h (members l) ≡ members (mapped h l)
mapped-members h nothing = refl
mapped-members h (one a) = refl
mapped-members h (p & q) = map-append h (members p) (members q) ∙ (λ i. mapped-members h p i ++ mapped-members h q i)

find-at : {A B : Type 0} (h : A → B) (test : B → Bool) (x : A) (xs : List A) (b : Bool) → option_map h (find (λ y. test (h y)) xs) ≡ find test (map h xs) → option_map h (if b then Some x else find (λ y. test (h y)) xs) ≡ (if b then Some (h x) else find test (map h xs))
find-at h test x xs true e = refl
find-at h test x xs false e = e

find-mapped : {A B : Type 0} (h : A → B) (test : B → Bool) (xs : List A) → option_map h (find (λ y. test (h y)) xs) ≡ find test (map h xs)
find-mapped h test [] = refl
find-mapped h test (x ∷ xs) = find-at h test x xs (test (h x)) (find-mapped h test xs)

-- ---- workers

alone-crewed : (p : Listed Placed) (u : Listed UnitTree) → Alone p u → mapped crewed p ≡ alone u
alone-crewed nothing nothing h = refl
alone-crewed nothing (one t) h = absurd h
alone-crewed nothing (u & v) h = absurd h
alone-crewed (one p) nothing h = absurd h
alone-crewed (one p) (one t) (tree, crew, is) = λ i. one (record { tree = tree i; workers = length (crew i) })
alone-crewed (one p) (u & v) h = absurd h
alone-crewed (p & q) nothing h = absurd h
alone-crewed (p & q) (one t) h = absurd h
alone-crewed (p & q) (u & v) (a, b) = λ i. alone-crewed p u a i & alone-crewed q v b i

block-crewed : (ss : List TypedStmt) → mapped crewed (stmts_placed ss) ≡ alone (stmts_units ss)
block-crewed ss = alone-crewed (stmts_placed ss) (stmts_units ss) (block-alone ss)

worker-crewed : (crew : List SemType) (count : ℕ) → length crew ≡ count → (w : TypedWorker) → mapped crewed (worker_placed crew w) ≡ worker_crewed count w
worker-crewed crew count e w = λ i. one (record { tree = record { unit = w.unit; body = OfWorker w.stmts.items w.ends }; workers = e i }) & block-crewed w.stmts.items i

body-crewed : (crew : List SemType) (count : ℕ) → length crew ≡ count → (body : TypedBody) → mapped crewed (body_placed crew body) ≡ body_crewed count body
body-crewed crew count e (Block initial workers rest ends close) =
    λ i. block-crewed initial.items i & mapped-joined crewed (worker_placed crew) (worker_crewed count) workers.items (worker-crewed crew count e) i & block-crewed rest.items i
body-crewed crew count e (Expr value) = alone-crewed _ _ (expr-alone value.value)

crew-counted : (f : TypedFunction) → length (crew_of f) ≡ crew_count f.body
crew-counted f = ap suc (length-map (named_workers f.body) (λ w. sem_of w.unit.result))

function-crewed : (f : TypedFunction) → mapped crewed (function_placed f) ≡ function_crewed f
function-crewed f =
    λ i. one (record { tree = record { unit = f.unit; body = OfFunction f.body }; workers = crew-counted f i }) & body-crewed (crew_of f) (crew_count f.body) (crew-counted f) f.body i

pub initials-alone : (is : List Initial) → Alone (joined (map initial_placed is)) (joined (map initial_units is))
initials-alone [] = tt
initials-alone (i ∷ is) = (expr-alone i.value.value, initials-alone is)

initialiser-crewed : (x : Initialiser) → mapped crewed (initialiser_placed x) ≡ initialiser_crewed x
initialiser-crewed x =
    λ i. one (record { tree = record { unit = x.unit; body = OfInitialiser x.values.items }; workers = 0 }) & alone-crewed (joined (map initial_placed x.values.items)) (joined (map initial_units x.values.items)) (initials-alone x.values.items) i

pub placed-crewed : PlacedUnitsAreCrewed
placed-crewed p =
    mapped-members crewed (joined (map function_placed p.functions.items) & joined (map initialiser_placed p.initialisers.items))
    ∙ (λ i. members (mapped-joined crewed function_placed function_crewed p.functions.items function-crewed i & mapped-joined crewed initialiser_placed initialiser_crewed p.initialisers.items initialiser-crewed i))

pub placed-have-crews : PlacedUnitsHaveCrews
placed-have-crews p n = find-mapped crewed (λ u. u.tree.unit.number == n) (placed_units p) ∙ ap (find (λ u. u.tree.unit.number == n)) (placed-crewed p)

-- ---- trees

abbrev tree : Crewed → UnitTree
tree c = c.tree

alone-trees : (u : Listed UnitTree) → mapped tree (alone u) ≡ u
alone-trees nothing = refl
alone-trees (one t) = refl
alone-trees (u & v) = λ i. alone-trees u i & alone-trees v i

worker-trees : (count : ℕ) (w : TypedWorker) → mapped tree (worker_crewed count w) ≡ worker_units w
worker-trees count w = λ i. one (record { unit = w.unit; body = OfWorker w.stmts.items w.ends }) & alone-trees (stmts_units w.stmts.items) i

body-trees : (count : ℕ) (body : TypedBody) → mapped tree (body_crewed count body) ≡ body_units body
body-trees count (Block initial workers rest ends close) =
    λ i. alone-trees (stmts_units initial.items) i & mapped-joined tree (worker_crewed count) worker_units workers.items (worker-trees count) i & alone-trees (stmts_units rest.items) i
body-trees count (Expr value) = alone-trees _

function-trees : (f : TypedFunction) → mapped tree (function_crewed f) ≡ function_units f
function-trees f = λ i. one (record { unit = f.unit; body = OfFunction f.body }) & body-trees (crew_count f.body) f.body i

initialiser-trees : (x : Initialiser) → mapped tree (initialiser_crewed x) ≡ initialiser_units x
initialiser-trees x = λ i. one (record { unit = x.unit; body = OfInitialiser x.values.items }) & alone-trees (joined (map initial_units x.values.items)) i

crewed-trees : (p : TypedPackage) → map tree (crewed_units p) ≡ units_of p
crewed-trees p =
    mapped-members tree (joined (map function_crewed p.functions.items) & joined (map initialiser_crewed p.initialisers.items))
    ∙ (λ i. members (mapped-joined tree function_crewed function_units p.functions.items function-trees i & mapped-joined tree initialiser_crewed initialiser_units p.initialisers.items initialiser-trees i))

option-trees : (o : Option Placed) → option_map tree (option_map crewed o) ≡ option_map (λ u. u.tree) o
option-trees (Some u) = refl
option-trees None = refl

pub placed-are-units : PlacedUnitsAreUnits
placed-are-units p n =
    sym (option-trees (placed_at p n)) ∙ ap (option_map tree) (placed-have-crews p n) ∙ find-mapped tree (λ u. u.unit.number == n) (crewed_units p) ∙ ap (find (λ u. u.unit.number == n)) (crewed-trees p)
