-- A diagram or a set that is put into a table behind the others.
use Rattle.std.proofs.Common.{◌≡◌, ℕ, ◌<◌, List, [], ◌∷◌, ◌++◌, map, length, false, Some, slice_get, refl, sym, subst, ◌∙◌, ap}
use Rattle.std.specs.List.{list_any}
use Rattle.indexmap.specs.IndexSet.{insert_key}
use Rattle.type_diagrams.specs.contracts.node.DiagramPartialEq.TheImpl as same_diagram
use Rattle.type_diagrams.specs.contracts.simple.SimpleSetPartialEq.TheImpl as same_set
use Rattle.type_diagrams.specs.declared.node.Diagram.{Diagram}
use Rattle.type_diagrams.specs.declared.node.TheConstants.{MOST_NODES}
use Rattle.type_diagrams.specs.declared.simple.SimpleSet.{SimpleSet}
use Rattle.type_diagrams.specs.Sets.{Simples, IsCanonical, set_of}
use Rattle.type_diagrams.specs.Tables.{Table, HasNoTwins}
use Rattle.type_diagrams.specs.Whole.{IsDiagramOver, IsTable, Extends}
use Rattle.type_diagrams.specs.Decisions.{Grows, AddBelow}
use Rattle.type_diagrams.specs.declared.node.Node.{Node}
use Rattle.type_diagrams.proofs.NodeTrees.{slice_get-last}
use Rattle.type_diagrams.proofs.Interning.{inserted, no_twins-push}
use Rattle.type_diagrams.proofs.Numbering.{same_diagram-Decides, same_set-Decides, numbered-pushed, numbered-no_twins, length-seen}
use Rattle.type_diagrams.proofs.Keeping.{extends-itself, with_nodes-Keeps, with_diagram-Keeps, with_diagram-IsTable, with_set-Keeps, with_set-IsTable}

module _ (t : Table) (is : IsTable t) (d : Diagram) (keys : List Diagram)
    (none : list_any (same_diagram.ghosts.eq d) t.diagrams ≡ false) (e : keys ≡ insert_key same_diagram.ghosts.eq t.diagrams d) where
  pushed : keys ≡ t.diagrams ++ d ∷ []
  pushed = e ∙ inserted same_diagram.ghosts.eq t.diagrams d none

  pub diagram_in-IsTable : IsDiagramOver t d → length t.diagrams < MOST_NODES → IsTable (record t { diagrams = keys })
  diagram_in-IsTable over room =
      subst (λ ks. IsTable (record t { diagrams = ks })) (sym pushed)
      (with_diagram-IsTable t is d over (no_twins-push (same_diagram.ghosts.eq d) t.diagrams d is.diagrams_apart none ((same_diagram-Decides d d).1 refl)) room)

  pub diagram_in-Extends : (before : Table) → t ≡ before → Extends 0 before (record t { diagrams = keys })
  diagram_in-Extends before view =
      subst (λ b. Extends 0 b (record t { diagrams = keys })) view (subst (λ ks. Extends 0 t (record t { diagrams = ks })) (sym pushed) (record { keeps = with_diagram-Keeps t is d; atoms = λ n le h. h }))

  pub diagram_in-made : (place : ℕ) → place ≡ length t.diagrams → slice_get keys place ≡ Some d
  diagram_in-made place at =
      ap (λ ks. slice_get ks place) pushed ∙ ap (λ k. slice_get (t.diagrams ++ d ∷ []) k) at ∙ slice_get-last t.diagrams [] d

module _ (t : Table) (is : IsTable t) (s : SimpleSet) (ks keys : List SimpleSet) (sets : t.sets ≡ map set_of ks)
    (none : list_any (same_set.ghosts.eq s) ks ≡ false) (e : keys ≡ insert_key same_set.ghosts.eq ks s) where
  seen : map set_of keys ≡ t.sets ++ set_of s ∷ []
  seen =
      ap (map set_of) e ∙ numbered-pushed same_set.ghosts.eq set_of same_set-Decides ks s none ∙ ap (λ l. l ++ set_of s ∷ []) (sym sets)

  pub set_in-IsTable : IsCanonical (set_of s) → length ks < MOST_NODES → IsTable (record t { sets = map set_of keys })
  set_in-IsTable canonical room =
      subst (λ l. IsTable (record t { sets = l })) (sym seen)
      (with_set-IsTable t is (set_of s) canonical
      (subst (λ l. HasNoTwins (l ++ set_of s ∷ [])) (sym sets) (numbered-no_twins same_set.ghosts.eq set_of same_set-Decides ks s none (subst (λ l. HasNoTwins l) sets is.sets_apart)))
      (subst (λ n. n < MOST_NODES) (sym (ap length sets ∙ length-seen same_set.ghosts.eq set_of same_set-Decides ks)) room))

  pub set_in-Extends : (before : Table) → t ≡ before → Extends 0 before (record t { sets = map set_of keys })
  set_in-Extends before view =
      subst (λ b. Extends 0 b (record t { sets = map set_of keys })) view (subst (λ l. Extends 0 t (record t { sets = l })) (sym seen) (record { keeps = with_set-Keeps t is (set_of s); atoms = λ n le h. h }))

  pub set_in-made : (place : ℕ) → place ≡ length ks → slice_get (map set_of keys) place ≡ Some (set_of s)
  set_in-made place at =
      ap (λ l. slice_get l place) seen
      ∙ ap (λ k. slice_get (t.sets ++ set_of s ∷ []) k) (at ∙ sym (ap length sets ∙ length-seen same_set.ghosts.eq set_of same_set-Decides ks))
      ∙ slice_get-last t.sets [] (set_of s)

-- nodes that have grown
pub nodes_in-Extends : (least : ℕ) (t : Table) (nodes : List Node) (before : Table) → IsTable t → Grows t.nodes nodes → AddBelow least t.nodes nodes → t ≡ before → Extends least before (record t { nodes = nodes })
nodes_in-Extends least t nodes before is grows atoms view =
    subst (λ b. Extends least b (record t { nodes = nodes })) view (record { keeps = with_nodes-Keeps t is nodes grows; atoms = atoms })

-- ---- nothing is put into it

pub diagrams-unchanged : (t : Table) (keys : List Diagram) (before : Table) → keys ≡ t.diagrams → t ≡ before → Extends 0 before (record t { diagrams = keys })
diagrams-unchanged t keys before e view =
    subst (λ ks. Extends 0 before (record t { diagrams = ks })) (sym e) (subst (λ b. Extends 0 b t) view (extends-itself t))

pub sets-unchanged : (t : Table) (sets : List Simples) (before : Table) → sets ≡ t.sets → t ≡ before → Extends 0 before (record t { sets = sets })
sets-unchanged t sets before e view =
    subst (λ ss. Extends 0 before (record t { sets = ss })) (sym e) (subst (λ b. Extends 0 b t) view (extends-itself t))
