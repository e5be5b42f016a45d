-- The parts of the diagrams of basic sets, of atoms and of all shapes.
use Rattle.std.proofs.Common.{◌≡◌, ℕ, List, Bool, true, false, ◌&&◌, if◌then◌else◌, Some, slice_get, refl, sym, subst, ◌∙◌, ap, arith}
use Rattle.std.proofs.lemmas.Option.{slice_get_within}
use Rattle.bal_base.specs.declared.shape.Shape.{Shape, Nil, Bool as BoolShape, Int, Str, List', Mapping', Error', Function, Future'}
use Rattle.type_model.specs.declared.basic.BasicSet.{BasicSet}
use Rattle.type_model.specs.declared.atoms.AtomDef.{AtomDef}
use Rattle.type_diagrams.specs.declared.kind.Kind.{Kind}
use Rattle.type_diagrams.specs.declared.node.Diagram.{Diagram}
use Rattle.type_diagrams.specs.declared.simple.SimpleSet.{SimpleSet}
use Rattle.type_diagrams.specs.Kinds.{IsSimple}
use Rattle.type_diagrams.specs.Simple.{by_simple}
use Rattle.type_diagrams.specs.Sets.{IsSetOf, set_of}
use Rattle.type_diagrams.specs.Conditions.{Condition, has_simple, is_kind, is_def_of, kind_of_def, everything, nothing, basic_condition, atom_condition}
use Rattle.type_diagrams.specs.Tables.{Table, root_of}
use Rattle.type_diagrams.specs.Decisions.{IsNumber, value_of}
use Rattle.type_diagrams.specs.Whole.{IsDiagramOver, HasParts, HasBasicRoots, IsLiteralIn}
use Rattle.type_diagrams.proofs.Combined.{by_kinds}

pub parts-over : (t : Table) (d : Diagram) (c : Condition) → HasParts t d c → IsDiagramOver t d
parts-over t d c parts = record { set = slice_get_within t.sets d.simple parts.set parts.set_is; roots = parts.roots }

-- one answer for all simple shapes
pub simple-all : (has : Bool) (x : Shape) → IsSimple x → by_simple has (λ b. has) (λ i. has) (λ t. has) x ≡ has
simple-all has Nil is = refl
simple-all has (BoolShape b) is = refl
simple-all has (Int i) is = refl
simple-all has (Str t) is = refl
simple-all has (List' mark _ items) is = cc
simple-all has (Mapping' mark _ fields) is = cc
simple-all has (Error' _ detail) is = cc
simple-all has (Function isolated graph) is = cc
simple-all has (Future' _ results) is = cc

module _ (t : Table) (s : SimpleSet) (n : ℕ) (at : slice_get t.sets n ≡ Some (set_of s)) where
  pub every-HasParts : IsSetOf (by_simple true (λ b. true) (λ i. true) (λ u. true)) s → HasParts t (record { simple = n; list = 1; mapping = 1; error = 1; function = 1; future = 1 }) everything
  every-HasParts set = record {
    set = set_of s;
    set_is = at;
    simple = λ x is v. set.same x v ∙ simple-all true x is;
    roots = by_kinds (λ k. IsNumber t.nodes (root_of (record { simple = n; list = 1; mapping = 1; error = 1; function = 1; future = 1 }) k)) (omega arith) (omega arith) (omega arith) (omega arith) (omega arith);
    by_kind = λ k v. by_kinds (λ k. value_of t.nodes (root_of (record { simple = n; list = 1; mapping = 1; error = 1; function = 1; future = 1 }) k) v ≡ true) refl refl refl refl refl k;
  }

  pub nothing-HasParts : (d : Diagram) → IsSetOf (by_simple false (λ b. false) (λ i. false) (λ u. false)) s → d ≡ record { simple = n; list = 0; mapping = 0; error = 0; function = 0; future = 0 } → HasParts t d nothing
  nothing-HasParts d set is = subst (λ e. HasParts t e nothing) (sym is) (record {
    set = set_of s;
    set_is = at;
    simple = λ x i v. set.same x v ∙ simple-all false x i;
    roots = by_kinds (λ k. IsNumber t.nodes (root_of (record { simple = n; list = 0; mapping = 0; error = 0; function = 0; future = 0 }) k)) (omega arith) (omega arith) (omega arith) (omega arith) (omega arith);
    by_kind = λ k v. by_kinds (λ k. value_of t.nodes (root_of (record { simple = n; list = 0; mapping = 0; error = 0; function = 0; future = 0 }) k) v ≡ false) refl refl refl refl refl k;
  })

  pub basic-HasParts : (b : BasicSet) (d : Diagram) → IsSetOf (λ x. has_simple x b) s → HasBasicRoots t n b d → HasParts t d (basic_condition b)
  basic-HasParts b d set roots = record {
    set = set_of s;
    set_is = ap (slice_get t.sets) roots.set ∙ at;
    simple = λ x is v. set.same x v;
    roots = roots.roots;
    by_kind = roots.by_kind;
  }

  module _ (env : List AtomDef) (a : ℕ) (def : AtomDef) (there : slice_get env a ≡ Some def) where
    atom-HasParts-by : (kind : Kind) (r : ℕ) (d : Diagram) → kind ≡ kind_of_def def → IsSetOf (by_simple false (λ b. false) (λ i. false) (λ u. false)) s → IsLiteralIn t a r
        → d.simple ≡ n → ((k : Kind) → root_of d k ≡ (if is_kind k kind then r else 0)) → HasParts t d (atom_condition env a)
    atom-HasParts-by kind r d is set literal simple roots = record {
      set = set_of s;
      set_is = ap (slice_get t.sets) simple ∙ at;
      simple = λ x is v. set.same x v ∙ simple-all false x is;
      roots = λ k. subst (IsNumber t.nodes) (sym (roots k)) (number (is_kind k kind));
      by_kind = λ k v. ap (λ m. value_of t.nodes m v) (roots k) ∙ value (is_kind k kind) v ∙ (λ i. is_kind k (is i) && v a) ∙ ap (λ o. is_def_of k o && v a) (sym there);
    }
      where
        number : (b : Bool) → IsNumber t.nodes (if b then r else 0)
        number true = literal.number
        number false = omega arith

        value : (b : Bool) (v : ℕ → Bool) → value_of t.nodes (if b then r else 0) v ≡ (b && v a)
        value true v = literal.value v
        value false v = refl

    pub atom-HasParts : (kind : Kind) (r : ℕ) (none d : Diagram) → kind ≡ kind_of_def def → IsSetOf (by_simple false (λ b. false) (λ i. false) (λ u. false)) s → IsLiteralIn t a r
        → none ≡ record { simple = n; list = 0; mapping = 0; error = 0; function = 0; future = 0 } → d.simple ≡ none.simple → ((k : Kind) → root_of d k ≡ (if is_kind k kind then r else root_of none k)) → HasParts t d (atom_condition env a)
    atom-HasParts kind r none d is set literal same simple roots =
        atom-HasParts-by kind r d is set literal (simple ∙ ap (λ x. x.simple) same)
        (λ k. roots k ∙ ap (λ x. if is_kind k kind then r else root_of x k) same ∙ ap (λ z. if is_kind k kind then r else z) (zero_root k))
      where
        zero_root : (k : Kind) → root_of (record { simple = n; list = 0; mapping = 0; error = 0; function = 0; future = 0 }) k ≡ 0
        zero_root = by_kinds (λ k. root_of (record { simple = n; list = 0; mapping = 0; error = 0; function = 0; future = 0 }) k ≡ 0) refl refl refl refl refl
