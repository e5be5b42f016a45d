-- Paths of the kinds that are never marked, by their atoms alone.
use Rattle.std.proofs.Common.{◌≡◌, ℕ, ◌==◌, List, Bool, true, false, All, Some, slice_get}
use Rattle.std.specs.List.{list_any}
use Rattle.bal_base.specs.declared.shape.Shape.{Shape, Nil, Bool as BoolShape, Int, Str, List', Mapping', Error', Function, Future'}
use Rattle.type_model.specs.declared.basic.SemType.{Atom}
use Rattle.type_model.specs.declared.atoms.AtomDef.{AtomDef}
use Rattle.type_model.specs.Membership.{In}
use Rattle.type_diagrams.specs.declared.kind.Kind.{Kind}
use Rattle.type_diagrams.specs.declared.kind.Kind.TheVariants.{List as Lists, Mapping as Mappings}
use Rattle.type_diagrams.specs.declared.path.Path.{Path}
use Rattle.type_diagrams.specs.Kinds.{IsOfKind, IsMarked, the_mark}
use Rattle.type_diagrams.specs.Conditions.{is_def_of, IsLiteralOf}
use Rattle.type_diagrams.specs.Members.{atoms_in}
use Rattle.type_diagrams.specs.Paths.{IsOnPath}
use Rattle.type_diagrams.proofs.MarkAndAtoms.{All-atoms, All-literals, mark-holds, None-atoms, None-literals, All-others}

-- only lists and mappings are marked
pub unmarked : (k : Kind) (x : Shape) → (k ≡ Lists → ⊥) → (k ≡ Mappings → ⊥) → IsOfKind k x → ¬ IsMarked x
unmarked k (List' mark _ items) no_list no_mapping kind marked = no_list (the_kind kind)
  where
    the_kind : Some Lists ≡ Some k → k ≡ Lists
    the_kind e = cc
unmarked k (Mapping' mark _ fields) no_list no_mapping kind marked = no_mapping (the_kind kind)
  where
    the_kind : Some Mappings ≡ Some k → k ≡ Mappings
    the_kind e = cc
unmarked k Nil no_list no_mapping kind marked = marked
unmarked k (BoolShape b) no_list no_mapping kind marked = marked
unmarked k (Int i) no_list no_mapping kind marked = marked
unmarked k (Str t) no_list no_mapping kind marked = marked
unmarked k (Error' _ detail) no_list no_mapping kind marked = marked
unmarked k (Function isolated graph) no_list no_mapping kind marked = marked
unmarked k (Future' _ results) no_list no_mapping kind marked = marked

abbrev pub has_mark : Path → Bool
has_mark p = list_any (λ l. l == the_mark) p.pos

module _ (env : List AtomDef) (k : Kind) where
  -- the definition of the atom is one of the kind
  abbrev pub IsAtomOf : ℕ → Type 0
  IsAtomOf a = is_def_of k (slice_get env a) ≡ true

  pub atoms-are : (ls : List ℕ) → All (IsLiteralOf env k) ls → All IsAtomOf (atoms_in ls)
  atoms-are ls h = All-others the_mark IsAtomOf ls h

  module _ (p : Path) (x : Shape) where
    pub on_path : IsOfKind k x → has_mark p ≡ false → ¬ IsMarked x → All (λ a. In env x (Atom a)) (atoms_in p.pos) → All (λ a. ¬ In env x (Atom a)) (atoms_in p.neg) → IsOnPath env k p x
    on_path kind none plain ins outs = record {
      kind = kind;
      holding = All-literals (λ l. l == the_mark) (IsMarked x) (λ a. In env x (Atom a)) p.pos none ins;
      failing = None-literals (λ l. l == the_mark) (IsMarked x) (λ a. In env x (Atom a)) p.neg plain outs;
    }

    pub in_wanted : IsOnPath env k p x → All (λ a. In env x (Atom a)) (atoms_in p.pos)
    in_wanted h = All-atoms (λ l. l == the_mark) (IsMarked x) (λ a. In env x (Atom a)) p.pos h.holding

    pub in_no_unwanted : IsOnPath env k p x → All (λ a. ¬ In env x (Atom a)) (atoms_in p.neg)
    in_no_unwanted h = None-atoms (λ l. l == the_mark) (IsMarked x) (λ a. In env x (Atom a)) p.neg h.failing

    pub is_marked : IsOnPath env k p x → has_mark p ≡ true → IsMarked x
    is_marked h some = mark-holds (λ l. l == the_mark) (IsMarked x) (λ a. In env x (Atom a)) p.pos some h.holding
