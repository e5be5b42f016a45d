-- How many the needs of names, literals, operators and members leave.
use Rattle.std.proofs.Common.{ℕ, Bool, true, false, List, [], ◌∷◌, Option, None, Some}
use Rattle.bal_base.specs.declared.place.Place.{Place}
use Rattle.bal_base.specs.declared.shape.Shape.{Shape}
use Rattle.bal_base.specs.declared.text.Text.{Text}
use Rattle.bal_tree.specs.declared.name.Literal.{Literal}
use Rattle.bal_tree.specs.declared.name.QualifiedName.{QualifiedName}
use Rattle.bal_tree.specs.declared.name.Word.{Word}
use Rattle.bal_tree.specs.declared.types.TypeTree.{TypeTree}
use Rattle.descriptors.specs.declared.names.Meaning.{Meaning}
use Rattle.descriptors.specs.declared.names.Meaning.TheVariants as meaning
use Rattle.descriptors.specs.declared.names.Names.{Names}
use Rattle.type_model.specs.declared.answers.Keys.{Keys}
use Rattle.type_model.specs.declared.answers.TypeLimit.{TypeLimit}
use Rattle.type_model.specs.declared.atoms.AtomDef.{AtomDef}
use Rattle.type_model.specs.declared.basic.SemType.{SemType}
use Rattle.type_model.specs.declared.basic.Ty.{Ty}
use Rattle.type_model.specs.Calls.{Asked}
use Rattle.typed_tree.specs.declared.expr.TypedExpr.{TypedExpr}
use Rattle.typed_tree.specs.declared.form.Operator.{Operator}
use Rattle.typed_tree.specs.SharedTypes.{Shared}
use Rattle.expr_needs.specs.declared.kind.Kind.{Kind}
use Rattle.expr_needs.specs.declared.kind.Kind.TheVariants as kind
use Rattle.check_words.specs.declared.access.Access.{Access}
use Rattle.check_words.specs.declared.access.Access.TheVariants.{Char, Item, Key}
use Rattle.check_words.specs.Members.{accesses as accessing, field_type, gives_key, has_part, is_accessed, is_accessed_as, is_index, is_structure, reads_accessed, reads_element, reads_field, reads_optional, some_member_at, takes_access}
use Rattle.check_words.specs.Seen.{Seen, SeenVariable, SeenWorker, SeenConstant, SeenLibrary, SeenMeaning, SeenNothing, looks_up}
use Rattle.flow_narrowing.specs.declared.flow.Variable.{Variable}
use Rattle.check_words.specs.State.{State}
use Rattle.check_words.specs.Values.{adds_up, casts, checked, checks, chooses, compares, conjoins, decided, decides, describes, disjoins, encloses, fills_nil, forms, gives_literal, gives_meaning, gives_named, gives_seen, is_of_sort, sorts as sorting, splits, switches, takes_sort, tests, traps, turns, wants_beside_error, wants_error_too, wants_result, ways_if, ways_of_test, widened, widens, widens_to}
use Rattle.check_words.specs.Words.{Atoms, below_if, is_of, is_wanted, is_within, whether_some, whether_within}
use Rattle.check_laws.specs.Heights.{Heights, ◌⊕◌, parts, wants, sorts, accesses, choices}
use Rattle.check_laws.proofs.Setting.{with-accesses, with-sorts}
use Rattle.check_laws.proofs.Stacks.{fewer-on, one-on}
use Rattle.check_laws.proofs.Words.{Goes, goes-asking, goes-becomes, goes-closes-choice, goes-done, goes-either, goes-fails, goes-flow-now, goes-makes, goes-new-slot, goes-no-more, goes-opens-choice, goes-sets-flow, goes-sets-ways, goes-some, goes-then, goes-unless, goes-wants, goes-wants-some, goes-ways-now}

module _ (s : State) where
  -- ---- names, literals and operators

  pub goes-literal : (r : Heights) (l : Literal) → Goes s r (gives_literal l) (r ⊕ parts 1)
  goes-literal r l = goes-makes s r 0 _

  goes-meaning : (r : Heights) (m : Meaning) (at : Place) → Goes s r (gives_meaning m at) (r ⊕ parts 1)
  goes-meaning r (meaning.TypeName t) at = goes-fails s r _ _ at
  goes-meaning r (meaning.Constant t) at = goes-then s _ _ (goes-some s r _) (λ c. goes-makes s r 0 _)
  goes-meaning r (meaning.Variable number final t) at = goes-makes s r 0 _
  goes-meaning r (meaning.Function f) at = goes-makes s r 0 _

  pub goes-seen : (r : Heights) (seen : Seen) (at : Place) → Goes s r (gives_seen seen at) (r ⊕ parts 1)
  goes-seen r (SeenVariable v) at = goes-then s _ _ (goes-unless s r _ _ at) (λ u. goes-makes s r 0 _)
  goes-seen r (SeenWorker w) at = goes-fails s r _ _ at
  goes-seen r (SeenConstant c) at = goes-makes s r 0 _
  goes-seen r (SeenLibrary call) at = goes-fails s r _ _ at
  goes-seen r (SeenMeaning m) at = goes-meaning r m at
  goes-seen r (SeenNothing code) at = goes-fails s r _ _ at

  pub goes-looks-up : (names : Names) (r : Heights) (q : QualifiedName) → Goes s r (looks_up names q) r
  goes-looks-up names r q = goes-then s _ _ (goes-some s r _) (λ u. goes-some s r _)

  pub goes-named : (names : Names) (r : Heights) (q : QualifiedName) → Goes s r (gives_named names q) (r ⊕ parts 1)
  goes-named names r q = goes-then s _ _ (goes-looks-up names r q) (λ seen. goes-seen r seen q.at)

  pub goes-describes : (names : Names) (r : Heights) (tree : TypeTree) → Goes s r (describes names tree) (r ⊕ wants 1)
  goes-describes names r tree =
      goes-then s _ _ (goes-some s r _) (λ scope. goes-then s _ _ (goes-asking s r _) (λ t. goes-wants-some s r _))

  pub goes-forms : (r : Heights) (op : Operator) (count : ℕ) (k : Kind) (at : Place) → Goes s (r ⊕ parts count) (forms op count k at) (r ⊕ parts 1)
  goes-forms r op count k at = goes-makes s r count _

  pub goes-sorts : (r : Heights) (ints : Bool) → Goes s r (sorting ints) (r ⊕ sorts 1)
  goes-sorts r ints =
      goes-becomes s r (r ⊕ sorts 1) _ (λ old p. with-sorts s old _ _ p (one-on ints p.sorts))

  pub goes-takes-sort : (r : Heights) → Goes s (r ⊕ sorts 1) takes_sort r
  goes-takes-sort r =
      goes-then s _ _ (goes-some s (r ⊕ sorts 1) _) (λ c. goes-then s _ _
      (goes-becomes s (r ⊕ sorts 1) r _ (λ old p. with-sorts s old _ _ p (fewer-on 1 r.sorts p.sorts)))
      (λ u. goes-some s r _))

  pub goes-adds : (r : Heights) (at : Place) → Goes s (r ⊕ (parts 2 ⊕ sorts 1)) (adds_up at) (r ⊕ parts 1)
  goes-adds r at = goes-then s _ _ (goes-takes-sort (r ⊕ parts 2)) (λ ints. goes-makes s r 2 _)

  pub goes-compares : (r : Heights) (op : Operator) (at : Place) → Goes s (r ⊕ (parts 2 ⊕ sorts 1)) (compares op at) (r ⊕ parts 1)
  goes-compares r op at = goes-then s _ _ (goes-takes-sort (r ⊕ parts 2)) (λ ints. goes-makes s r 2 _)

  -- ---- conditions

  pub goes-splits : (r : Heights) (way : Bool) → Goes s r (splits way) (r ⊕ choices 1)
  goes-splits r way =
      goes-then s _ _ (goes-flow-now s r) (λ f. goes-then s _ _ (goes-ways-now s r) (λ w.
      goes-then s _ _ (goes-opens-choice s r _) (λ u. goes-sets-flow s (r ⊕ choices 1) _)))

  pub goes-switches : (r : Heights) → Goes s (r ⊕ choices 1) switches (r ⊕ choices 1)
  goes-switches r =
      goes-then s _ _ (goes-flow-now s (r ⊕ choices 1)) (λ f. goes-then s _ _ (goes-closes-choice s r) (λ c.
      goes-then s _ _ (goes-opens-choice s r _) (λ u. goes-sets-flow s (r ⊕ choices 1) _)))

  pub goes-turns : (r : Heights) (at : Place) → Goes s (r ⊕ parts 1) (turns at) (r ⊕ parts 1)
  goes-turns r at =
      goes-then s _ _ (goes-ways-now s (r ⊕ parts 1)) (λ w. goes-then s _ _ (goes-makes s r 1 _) (λ u. goes-sets-ways s (r ⊕ parts 1) _))

  pub goes-conjoins : (r : Heights) (at : Place) → Goes s (r ⊕ (parts 2 ⊕ choices 1)) (conjoins at) (r ⊕ parts 1)
  goes-conjoins r at =
      goes-then s _ _ (goes-ways-now s (r ⊕ (parts 2 ⊕ choices 1))) (λ w. goes-then s _ _ (goes-closes-choice s (r ⊕ parts 2)) (λ c.
      goes-then s _ _ (goes-some s (r ⊕ parts 2) _) (λ no. goes-then s _ _ (goes-sets-flow s (r ⊕ parts 2) _) (λ u.
      goes-then s _ _ (goes-makes s r 2 _) (λ v. goes-sets-ways s (r ⊕ parts 1) _)))))

  pub goes-disjoins : (r : Heights) (at : Place) → Goes s (r ⊕ (parts 2 ⊕ choices 1)) (disjoins at) (r ⊕ parts 1)
  goes-disjoins r at =
      goes-then s _ _ (goes-ways-now s (r ⊕ (parts 2 ⊕ choices 1))) (λ w. goes-then s _ _ (goes-closes-choice s (r ⊕ parts 2)) (λ c.
      goes-then s _ _ (goes-some s (r ⊕ parts 2) _) (λ yes. goes-then s _ _ (goes-sets-flow s (r ⊕ parts 2) _) (λ u.
      goes-then s _ _ (goes-makes s r 2 _) (λ v. goes-sets-ways s (r ⊕ parts 1) _)))))

  pub goes-chooses : (r : Heights) (at : Place) → Goes s (r ⊕ (parts 3 ⊕ choices 1)) (chooses at) (r ⊕ parts 1)
  goes-chooses r at =
      goes-then s _ _ (goes-closes-choice s (r ⊕ parts 3)) (λ c. goes-then s _ _ (goes-sets-flow s (r ⊕ parts 3) _) (λ u. goes-makes s r 3 _))

  pub goes-fills : (r : Heights) (at : Place) → Goes s (r ⊕ parts 2) (fills_nil at) (r ⊕ parts 1)
  goes-fills r at =
      goes-then s _ _ (goes-some s (r ⊕ parts 2) _) (λ p. goes-then s _ _ (goes-new-slot s (r ⊕ parts 2) _) (λ own. goes-makes s r 2 _))

  pub goes-encloses : (r : Heights) (at : Place) → Goes s (r ⊕ parts 1) (encloses at) (r ⊕ parts 1)
  goes-encloses r at =
      goes-then s _ _ (goes-some s (r ⊕ parts 1) _) (λ w. goes-then s _ _ (goes-makes s r 1 _) (λ u. goes-sets-ways s (r ⊕ parts 1) _))

  -- ---- errors

  pub goes-checked : (r : Heights) (panics : Bool) (at : Place) → Goes s (r ⊕ parts 1) (checked panics at) (r ⊕ parts 1)
  goes-checked r panics at =
      goes-then s _ _ (goes-some s (r ⊕ parts 1) _) (λ a. goes-then s _ _ (goes-new-slot s (r ⊕ parts 1) _) (λ own. goes-makes s r 1 _))

  pub goes-traps : (r : Heights) (at : Place) → Goes s (r ⊕ parts 1) (traps at) (r ⊕ parts 1)
  goes-traps r at = goes-makes s r 1 _

  -- ---- what is wanted

  goes-beside-error : (r : Heights) (w : Option Shared) → Goes s r (wants_beside_error w) (r ⊕ wants 1)
  goes-beside-error r None = goes-wants s r None
  goes-beside-error r (Some t) = goes-wants-some s r _

  pub goes-error-too : (r : Heights) → Goes s r wants_error_too (r ⊕ wants 1)
  goes-error-too r = goes-then s _ _ (goes-some s r _) (λ w. goes-beside-error r w)

  pub goes-wants-result : (r : Heights) → Goes s r wants_result (r ⊕ wants 1)
  goes-wants-result r = goes-then s _ _ (goes-some s r _) (λ u. goes-wants s r _)

  pub goes-casts : (r : Heights) (at : Place) → Goes s (r ⊕ (parts 1 ⊕ wants 1)) (casts at) (r ⊕ parts 1)
  goes-casts r at =
      goes-then s _ _ (goes-some s (r ⊕ (parts 1 ⊕ wants 1)) _) (λ t. goes-then s _ _ (goes-no-more s (r ⊕ parts 1) 1) (λ u. goes-makes s r 1 _))

  -- ---- members

  pub goes-accesses : (r : Heights) (a : Access) → Goes s r (accessing a) (r ⊕ accesses 1)
  goes-accesses r a =
      goes-becomes s r (r ⊕ accesses 1) _ (λ old p. with-accesses s old _ _ p (one-on a p.accesses))

  pub goes-takes-access : (r : Heights) → Goes s (r ⊕ accesses 1) takes_access r
  goes-takes-access r =
      goes-then s _ _ (goes-some s (r ⊕ accesses 1) _) (λ c. goes-then s _ _
      (goes-becomes s (r ⊕ accesses 1) r _ (λ old p. with-accesses s old _ _ p (fewer-on 1 r.accesses p.accesses)))
      (λ u. goes-some s r _))

  pub goes-key : (r : Heights) (text : Text) (at : Place) → Goes s r (gives_key text at) (r ⊕ parts 1)
  goes-key r text at = goes-makes s r 0 _

  -- `passes`: which questions pass a limit
  module _ (passes : List AtomDef → Asked → TypeLimit → Type 0) where
    -- ---- questions

    pub goes-within : (h : Heights) (P : Atoms → Ty → Type 0) (t : SemType) (at : Place) → Goes s h (is_within passes P t at) h
    goes-within h P t at = goes-then s _ _ (goes-some s h _) (λ u. goes-asking s h _)

    pub goes-whether : (h : Heights) (P : Atoms → Ty → Type 0) (t : SemType) (at : Place) → Goes s h (whether_within passes P t at) h
    goes-whether h P t at = goes-then s _ _ (goes-some s h _) (λ u. goes-asking s h _)

    goes-whether-some : (h : Heights) (P : Atoms → Ty → Type 0) (at : Place) → Goes s h (whether_some passes P at) h
    goes-whether-some h P at = goes-then s _ _ (goes-some s h _) (λ t. goes-asking s h _)

    pub goes-is-of : (h : Heights) (k : Kind) (at : Place) → Goes s h (is_of passes k at) h
    goes-is-of h k at = goes-then s _ _ (goes-some s h _) (λ e. goes-within h _ _ at)

    pub goes-below-if : (h : Heights) (w : Option Shared) (e : TypedExpr) (at : Place) → Goes s h (below_if passes w e at) h
    goes-below-if h None e at = goes-done s h
    goes-below-if h (Some t) e at = goes-asking s h _

    pub goes-is-wanted : (h : Heights) (at : Place) → Goes s h (is_wanted passes at) h
    goes-is-wanted h at = goes-then s _ _ (goes-some s h _) (λ w. goes-then s _ _ (goes-some s h _) (λ e. goes-below-if h w e at))

    -- ---- operators

    goes-decided : (h : Heights) (ints : Bool) (e : SemType) (at : Place) → Goes s h (decided passes ints e at) h
    goes-decided h true e at = goes-done s h
    goes-decided h false e at = goes-within h _ e at

    pub goes-decides : (r : Heights) (at : Place) → Goes s r (decides passes at) (r ⊕ sorts 1)
    goes-decides r at =
        goes-then s _ _ (goes-some s r _) (λ e. goes-then s _ _ (goes-whether r _ _ at) (λ ints.
        goes-then s _ _ (goes-decided r ints _ at) (λ u. goes-sorts r ints)))

    pub goes-is-sort : (h : Heights) (at : Place) → Goes s h (is_of_sort passes at) h
    goes-is-sort h at = goes-then s _ _ (goes-some s h _) (λ ints. goes-is-of h _ at)

    -- ---- tests

    goes-ways-if : (h : Heights) (q : QualifiedName) (v : Option Variable) (t : Shared) (at : Place) → Goes s h (ways_if passes q v t at) h
    goes-ways-if h q None t at = goes-some s h _
    goes-ways-if h q (Some v) t at =
        goes-then s _ _ (goes-flow-now s h) (λ f. goes-then s _ _
        (goes-then s _ _ (goes-some s h _) (λ yes. goes-then s _ _ (goes-asking s h _) (λ no. goes-some s h _))) (λ types. goes-some s h _))

    goes-ways-of-test : (h : Heights) (name : Option QualifiedName) (t : Shared) (at : Place) → Goes s h (ways_of_test passes name t at) h
    goes-ways-of-test h None t at = goes-some s h _
    goes-ways-of-test h (Some q) t at = goes-then s _ _ (goes-flow-now s h) (λ f. goes-ways-if h q _ t at)

    pub goes-tests : (r : Heights) (name : Option QualifiedName) (at : Place) → Goes s (r ⊕ (parts 1 ⊕ wants 1)) (tests passes name at) (r ⊕ parts 1)
    goes-tests r name at =
        goes-then s _ _ (goes-some s (r ⊕ (parts 1 ⊕ wants 1)) _) (λ t. goes-then s _ _ (goes-no-more s (r ⊕ parts 1) 1) (λ u.
        goes-then s _ _ (goes-ways-of-test (r ⊕ parts 1) name t at) (λ w.
        goes-then s _ _ (goes-makes s r 1 _) (λ v. goes-sets-ways s (r ⊕ parts 1) w))))

    pub goes-checks : (r : Heights) (at : Place) → Goes s (r ⊕ parts 1) (checks passes at) (r ⊕ parts 1)
    goes-checks r at =
        goes-then s _ _ (goes-some s (r ⊕ parts 1) _) (λ a. goes-then s _ _ (goes-some s (r ⊕ parts 1) _) (λ u.
        goes-then s _ _ (goes-some s (r ⊕ parts 1) _) (λ errors. goes-then s _ _ (goes-asking s (r ⊕ parts 1) _) (λ v. goes-checked r false at))))

    goes-widens-to : (h : Heights) (kinds : List Kind) (t : Shared) (at : Place) → Goes s h (widens_to passes kinds t at) h
    goes-widens-to h [] t at = goes-some s h _
    goes-widens-to h (k ∷ kinds) t at =
        goes-then s _ _ (goes-whether h _ _ at) (λ b. goes-either s b _ _ (goes-some s h _) (goes-widens-to h kinds t at))

    pub goes-widened : (h : Heights) (t : Shared) (at : Place) → Goes s h (widened passes t at) h
    goes-widened h t at = goes-widens-to h (kind.Integer ∷ kind.Text ∷ kind.Truth ∷ []) t at

    pub goes-widens : (r : Heights) (at : Place) → Goes s r (widens passes at) (r ⊕ wants 1)
    goes-widens r at = goes-then s _ _ (goes-some s r _) (λ e. goes-then s _ _ (goes-widened r _ at) (λ t. goes-wants s r _))

    -- ---- members

    goes-accessed-as : (r : Heights) (a : Access) (at : Place) → Goes s r (is_accessed_as passes a at) (r ⊕ accesses 1)
    goes-accessed-as r a at = goes-then s _ _ (goes-is-of r _ at) (λ u. goes-accesses r a)

    goes-has-part : (h : Heights) (P : Shape → Type 0) (at : Place) → Goes s h (has_part passes P at) h
    goes-has-part h P at = goes-then s _ _ (goes-some s h _) (λ e. goes-whether-some h _ at)

    goes-structure : (r : Heights) (at : Place) → Goes s r (is_structure passes at) (r ⊕ accesses 1)
    goes-structure r at =
        goes-then s _ _ (goes-has-part r _ at) (λ b. goes-either s b _ _ (goes-accessed-as r Item at) (goes-accessed-as r Key at))

    pub goes-accessed : (r : Heights) (texts : Bool) (at : Place) → Goes s r (is_accessed passes texts at) (r ⊕ accesses 1)
    goes-accessed r true at =
        goes-then s _ _ (goes-has-part r _ at) (λ b. goes-either s b _ _ (goes-accessed-as r Char at) (goes-structure r at))
    goes-accessed r false at = goes-structure r at

    pub goes-is-index : (h : Heights) (at : Place) → Goes s h (is_index passes at) h
    goes-is-index h at = goes-then s _ _ (goes-some s h _) (λ a. goes-is-of h _ at)

    pub goes-some-member : (h : Heights) (t : SemType) (keys : Keys) (at : Place) → Goes s h (some_member_at passes t keys at) h
    goes-some-member h t keys at =
        goes-then s _ _ (goes-asking s h _) (λ m. goes-then s _ _ (goes-asking s h _) (λ b. goes-then s _ _ (goes-unless s h b _ at) (λ u. goes-some s h _)))

    goes-reads : (r : Heights) (a : Access) (at : Place) → Goes s (r ⊕ parts 2) (reads_element passes a at) (r ⊕ parts 1)
    goes-reads r Char at = goes-makes s r 2 _
    goes-reads r Item at =
        goes-then s _ _ (goes-some s (r ⊕ parts 2) _) (λ p. goes-then s _ _ (goes-asking s (r ⊕ parts 2) _) (λ keys.
        goes-then s _ _ (goes-some-member (r ⊕ parts 2) _ keys at) (λ m. goes-makes s r 2 _)))
    goes-reads r Key at =
        goes-then s _ _ (goes-some s (r ⊕ parts 2) _) (λ p. goes-then s _ _ (goes-asking s (r ⊕ parts 2) _) (λ keys.
        goes-then s _ _ (goes-asking s (r ⊕ parts 2) _) (λ m. goes-makes s r 2 _)))

    pub goes-reads-accessed : (r : Heights) (at : Place) → Goes s (r ⊕ (parts 2 ⊕ accesses 1)) (reads_accessed passes at) (r ⊕ parts 1)
    goes-reads-accessed r at = goes-then s _ _ (goes-takes-access (r ⊕ parts 2)) (λ a. goes-reads r a at)

    pub goes-field-type : (h : Heights) (name : Text) (t : SemType) (at : Place) → Goes s h (field_type passes name t at) h
    goes-field-type h name t at =
        goes-then s _ _ (goes-then s _ _ (goes-asking s h _) (λ atom. goes-then s _ _ (goes-asking s h _) (λ b. goes-unless s h b _ at)))
        (λ u. goes-asking s h _)

    pub goes-reads-field : (r : Heights) (w : Word) (at : Place) → Goes s (r ⊕ parts 1) (reads_field passes w at) (r ⊕ parts 1)
    goes-reads-field r w at =
        goes-then s _ _ (goes-some s (r ⊕ parts 1) _) (λ e. goes-then s _ _ (goes-field-type (r ⊕ parts 1) _ _ at) (λ m. goes-makes s r 1 _))

    pub goes-reads-optional : (r : Heights) (w : Word) (at : Place) → Goes s (r ⊕ parts 1) (reads_optional passes w at) (r ⊕ parts 1)
    goes-reads-optional r w at =
        goes-then s _ _ (goes-some s (r ⊕ parts 1) _) (λ e. goes-then s _ _ (goes-some-member (r ⊕ parts 1) _ _ at) (λ m. goes-makes s r 1 _))
