-- Futures and their results.
use Rattle.std.proofs.Common.{◌≡◌, ◌↔◌, ℕ, ◌+◌, ◌<◌, ◌≤◌, List, [], ◌∷◌, ◌++◌, map, take, length, get_or, true, false, All, Contains, Option, Some, None, IsSomeAnd, slice_get, option_and_then, refl, sym, subst, arith}
use Rattle.std.proofs.lemmas.Bool.{false≢true}
use Rattle.std.proofs.lemmas.List.Elements.{All-nil, All-cons, All-head, All-tail, All-push, All-more, All-map, All-weaker, All-contains, All-contains_itself, Contains-push, Contains-get_or}
use Rattle.bal_base.specs.declared.shape.Shape.{Shape, Nil, Bool as BoolShape, Int, Str, List', Mapping', Error', Function, Future, Future', Row_of-Shape, end_of-Shape, more_of-Shape, items-the_row-Shape as shapes_in, items_hidden-the_row-Shape-0}
use Rattle.bal_base.specs.declared.shape.Shapes.{Shapes}
use Rattle.bal_base.specs.Levels.{levels, greatest}
use Rattle.bal_base.specs.Shapes.{shapes_list}
use Rattle.bal_base.specs.Valid.{IsValid, AreValid}
use Rattle.bal_base.proofs.Rows.{IsValid-Future}
use Rattle.type_model.specs.declared.basic.SemType.{SemType, Atom}
use Rattle.type_model.specs.declared.atoms.AtomDef.{AtomDef}
use Rattle.type_model.specs.declared.atoms.AtomDef.TheVariants.{List as ListAtom, Mapping as MappingAtom, Arrow, Error as ErrorAtom, Future as FutureAtom}
use Rattle.type_model.specs.Membership.{In, Fits, AllIn}
use Rattle.type_diagrams.specs.declared.kind.Kind.TheVariants.{Future as Futures}
use Rattle.type_diagrams.specs.declared.path.Path.{Path}
use Rattle.type_diagrams.specs.Kinds.{IsOfKind, the_mark}
use Rattle.type_diagrams.specs.Conditions.{Condition, AreOne, Meets, IsShapeOf, is_def_of, condition_of, without, asks}
use Rattle.type_diagrams.specs.Members.{asked, atoms_in}
use Rattle.type_diagrams.specs.Paths.{IsOnPath}
use Rattle.type_diagrams.specs.Tables.{Table, IsDiagram, condition}
use Rattle.type_diagrams.specs.Whole.{Keeps, Gives}
use Rattle.type_diagrams.proofs.Meeting.{Meets-asks, In-condition, Meets-same, Meets-without}
use Rattle.empty_arrow.specs.Parts.{one_part, part_of}
use Rattle.empty_arrow.specs.Results.{AreResults, IsAvoidance}
use Rattle.type_diagrams.proofs.Asking.{Meets-decided}
use Rattle.type_diagrams.proofs.Elements.{All-parts, All-unmap, All-where, not_all}
use Rattle.type_diagrams.proofs.PathShapes.{IsAtomOf, has_mark, unmarked, on_path, in_wanted, in_no_unwanted, is_marked}

-- ---- results as a list

abbrev pub results_in : Shape → List Shape
results_in (Future' _ row) = shapes_in _ row
results_in x = []

pub results_in-Future : (results : Shapes) → results_in (Future results) ≡ shapes_list results
results_in-Future results = items_hidden-the_row-Shape-0 results.items

valid_row : (n : _) (row : Row_of-Shape n) → AreValid row → All IsValid (shapes_in n row)
valid_row n end_of-Shape h = All-nil IsValid
valid_row n (more_of-Shape x rest) h = All-cons IsValid x _ h.0 (valid_row _ rest h.1)

abbrev IsLower : ℕ → Shape → Type 0
IsLower n x = levels x < n

lower_row : (b n : _) (row : Row_of-Shape n) → greatest row < b → All (IsLower b) (shapes_in n row)
lower_row b n end_of-Shape h = All-nil (IsLower b)
lower_row b n (more_of-Shape x rest) h = All-cons (IsLower b) x _ (omega (arith, h)) (lower_row b _ rest (omega (arith, h)))

pub valid_results : (x : Shape) → IsOfKind Futures x → IsValid x → All IsValid (results_in x)
valid_results (Future' _ row) kind valid = valid_row _ row valid
valid_results Nil kind valid = cc
valid_results (BoolShape b) kind valid = cc
valid_results (Int i) kind valid = cc
valid_results (Str t) kind valid = cc
valid_results (List' mark _ items) kind valid = cc
valid_results (Mapping' mark _ fields) kind valid = cc
valid_results (Error' _ detail) kind valid = cc
valid_results (Function isolated graph) kind valid = cc

lower_results : (x : Shape) → IsOfKind Futures x → All (IsLower (levels x)) (results_in x)
lower_results (Future' _ row) kind = lower_row (greatest row + 1) _ row (omega arith)
lower_results Nil kind = cc
lower_results (BoolShape b) kind = cc
lower_results (Int i) kind = cc
lower_results (Str t) kind = cc
lower_results (List' mark _ items) kind = cc
lower_results (Mapping' mark _ fields) kind = cc
lower_results (Error' _ detail) kind = cc
lower_results (Function isolated graph) kind = cc

module _ (env : List AtomDef) (small : length env ≤ the_mark) where
  of_row : (t : SemType) (n : _) (row : Row_of-Shape n) → AllIn env row t → All (Meets env (condition_of env t)) (shapes_in n row)
  of_row t n end_of-Shape h = All-nil (Meets env (condition_of env t))
  of_row t n (more_of-Shape x rest) h = All-cons (Meets env (condition_of env t)) x _ ((In-condition env small x t).0 h.0) (of_row t _ rest h.1)

  to_row : (t : SemType) (n : _) (row : Row_of-Shape n) → All (Meets env (condition_of env t)) (shapes_in n row) → AllIn env row t
  to_row t n end_of-Shape h = tt
  to_row t n (more_of-Shape x rest) h =
      ((In-condition env small x t).1 (All-head (Meets env (condition_of env t)) x _ h), to_row t _ rest (All-tail (Meets env (condition_of env t)) x _ h))

  -- a future is in a future atom where all results meet what the atom asks
  pub In-results : (x : Shape) → IsOfKind Futures x → (o : Option AtomDef) → is_def_of Futures o ≡ true → IsSomeAnd o (Fits env x) ↔ All (Meets env (asked (condition_of env) (option_and_then one_part o))) (results_in x)
  In-results (Future' s row) kind o def = by o def
    where
      by : (o : Option AtomDef) → is_def_of Futures o ≡ true → IsSomeAnd o (Fits env (Future' s row)) ↔ All (Meets env (asked (condition_of env) (option_and_then one_part o))) (shapes_in _ row)
      by None h = absurd (false≢true h)
      by (Some (ListAtom fixed rest)) h = absurd (false≢true h)
      by (Some (MappingAtom fields rest)) h = absurd (false≢true h)
      by (Some (Arrow args outcome alone)) h = absurd (false≢true h)
      by (Some (ErrorAtom detail)) h = absurd (false≢true h)
      by (Some (FutureAtom t)) h = (of_row t _ row, to_row t _ row)
  In-results Nil kind o def = cc
  In-results (BoolShape b) kind o def = cc
  In-results (Int i) kind o def = cc
  In-results (Str t) kind o def = cc
  In-results (List' mark _ items) kind o def = cc
  In-results (Mapping' mark _ fields) kind o def = cc
  In-results (Error' _ detail) kind o def = cc
  In-results (Function isolated graph) kind o def = cc

  pub no_marked_future : (p : Path) → has_mark p ≡ true → (x : Shape) → ¬ IsOnPath env Futures p x
  no_marked_future p some x on = unmarked Futures x (λ e. cc) (λ e. cc) on.kind (is_marked env Futures p x on some)

  -- what a shape of the wanted question meets
  wanted_met : (atoms : List ℕ) (all : Condition) → AreOne all (asks (map (part_of env) atoms) []) → (y : Shape) → IsShapeOf env all y → (a : ℕ) → Contains atoms a → Meets env (part_of env a) y
  wanted_met atoms all is y h a among =
      let met = (Meets-asks env (map (part_of env) atoms) [] y).0 ((Meets-same env all (asks (map (part_of env) atoms) []) y h.0 is).0 h.1) in
      All-contains (λ b. Meets env (part_of env b) y) atoms a (All-unmap (λ c. Meets env c y) (part_of env) atoms met.0) among

  module _ (p : Path) (pos : All (IsAtomOf env Futures) (atoms_in p.pos)) (neg : All (IsAtomOf env Futures) (atoms_in p.neg)) (all : Condition) (is : AreOne all (asks (map (part_of env) (atoms_in p.pos)) [])) where
    -- a future with results that avoid the unwanted atoms is on the path
    pub future-on_path : (results : Shapes) → has_mark p ≡ false → AreResults env all (atoms_in p.neg) (shapes_list results) → IsValid (Future results) × IsOnPath env Futures p (Future results)
    future-on_path results none are =
        let x = Future results in
        let xs = shapes_list results in
        let each = λ (a : ℕ) (c : Contains (atoms_in p.pos) a). All-weaker (IsShapeOf env all) (Meets env (part_of env a)) (λ y h. wanted_met (atoms_in p.pos) all is y h a c) xs are.inside in
        let ins = All-where (IsAtomOf env Futures) (Contains (atoms_in p.pos)) (λ a. In env x (Atom a))
        (λ a d c. (In-results x refl (slice_get env a) d).1 (subst (All (Meets env (part_of env a))) (sym (results_in-Future results)) (each a c))) (atoms_in p.pos) pos (All-contains_itself (atoms_in p.pos)) in
        let outs = All-where (IsAtomOf env Futures) (λ a. ¬ All (Meets env (part_of env a)) xs) (λ a. ¬ In env x (Atom a))
        (λ a d n i. n (subst (All (Meets env (part_of env a))) (results_in-Future results) ((In-results x refl (slice_get env a) d).0 i))) (atoms_in p.neg) neg are.avoiding in (
          (IsValid-Future results).1 (All-weaker (IsShapeOf env all) IsValid (λ y h. h.0) xs are.inside),
          on_path env Futures p x refl none (λ m. m) ins outs,
        )

    -- a future of the path has a result that avoids an unwanted atom
    pub path-result : (x : Shape) → IsValid x → IsOnPath env Futures p x → (a : ℕ) → Contains (atoms_in p.neg) a → (y : Shape) × IsShapeOf env (without all (part_of env a)) y × (levels y < levels x)
    path-result x valid on a among =
        let xs = results_in x in
        let def = All-contains (IsAtomOf env Futures) (atoms_in p.neg) a neg among in
        let out = All-contains (λ b. ¬ In env x (Atom b)) (atoms_in p.neg) a (in_no_unwanted env Futures p x on) among in
        let found = not_all (Meets env (part_of env a)) (Meets-decided env (part_of env a)) xs (λ each. out ((In-results x on.kind (slice_get env a) def).1 each)) in
        let y = found.0 in
        let y_valid = All-contains IsValid xs y (valid_results x on.kind valid) found.1 in
        let wanted = All-where (IsAtomOf env Futures) (λ b. In env x (Atom b)) (λ b. Meets env (part_of env b) y)
        (λ b d i. All-contains (Meets env (part_of env b)) xs y ((In-results x on.kind (slice_get env b) d).0 i) found.1) (atoms_in p.pos) pos (in_wanted env Futures p x on) in
        let met = (Meets-asks env (map (part_of env) (atoms_in p.pos)) [] y).1 (All-map (λ c. Meets env c y) (part_of env) (atoms_in p.pos) wanted, All-nil (λ d. ¬ Meets env d y)) in
        let inside = (Meets-same env all (asks (map (part_of env) (atoms_in p.pos)) []) y y_valid is).1 met in
        (y, (y_valid, (Meets-without env all (part_of env a) y).1 (inside, found.2)), All-contains (IsLower (levels x)) xs y (lower_results x on.kind) found.1)

-- ---- one more result

pub avoidance-Gives : (env defs : List AtomDef) → defs ≡ env → (old mid new : Table) (all q a : ℕ) (t : SemType) → part_of defs a ≡ condition_of defs t
    → IsDiagram old all → Keeps old mid → Gives new (without (condition mid all) (condition_of env t)) q → Gives new (without (condition old all) (part_of env a)) q
avoidance-Gives env defs same old mid new all q a t asks is keeps made =
    let begun : Gives new (without (condition old all) (condition_of env t)) q = subst (λ c. Gives new (without c (condition_of env t)) q) (keeps.conditions all is) made in
    let here : part_of env a ≡ condition_of env t = subst (λ e. part_of e a ≡ condition_of e t) same asks in
    subst (λ d. Gives new (without (condition old all) d) q) (sym here) begun

module _ (env : List AtomDef) (all : Condition) (atoms : List ℕ) where
  pub no_results : AreResults env all (take 0 atoms) []
  no_results = record { inside = All-nil _; avoiding = All-nil _ }

  pub one_more_result : (i : ℕ) (xs : List Shape) (x : Shape) → i < length atoms → AreResults env all (take i atoms) xs → IsShapeOf env (without all (part_of env (get_or atoms i 0))) x → AreResults env all (take (i + 1) atoms) (xs ++ x ∷ [])
  one_more_result i xs x lt are h =
      let m = (Meets-without env all (part_of env (get_or atoms i 0)) x).0 h.1 in record {
        inside = All-push (IsShapeOf env all) xs x are.inside (h.0, m.0);
        avoiding = All-more (λ a. ¬ All (Meets env (part_of env a)) (xs ++ x ∷ [])) atoms i 0 lt
            (All-weaker (λ a. ¬ All (Meets env (part_of env a)) xs) (λ a. ¬ All (Meets env (part_of env a)) (xs ++ x ∷ [])) (λ a n each. n (All-parts (Meets env (part_of env a)) xs (x ∷ []) each).0) (take i atoms) are.avoiding)
            (λ each. m.1 (All-contains (Meets env (part_of env (get_or atoms i 0))) (xs ++ x ∷ []) x each (Contains-push xs x)));
      }

-- the question for a result that avoids the atom at a place
pub avoidance : (env defs : List AtomDef) → defs ≡ env → (old mid new : Table) (all q : ℕ) (atoms : List ℕ) (i : ℕ) (t : SemType) → i < length atoms → part_of defs (get_or atoms i 0) ≡ condition_of defs t
    → IsDiagram old all → Keeps old mid → Gives new (without (condition mid all) (condition_of env t)) q → IsAvoidance env new (condition old all) atoms q
avoidance env defs same old mid new all q atoms i t lt asks is keeps made = record {
  atom = get_or atoms i 0;
  among = Contains-get_or atoms i 0 lt;
  gives = avoidance-Gives env defs same old mid new all q (get_or atoms i 0) t asks is keeps made;
}
