-- What stays of a table that grows.
use Rattle.std.proofs.Common.{◌≡◌, ℕ, ◌<◌, ◌≤◌, List, [], ◌∷◌, ◌++◌, length, Some, slice_get, ⊎_elim, refl, sym, subst, ◌∙◌, ap, length-append, arith}
use Rattle.std.proofs.lemmas.Option.{slice_get_within}
use Rattle.type_diagrams.specs.declared.node.Node.{Node}
use Rattle.type_diagrams.specs.declared.node.Diagram.{Diagram}
use Rattle.type_diagrams.specs.declared.node.TheConstants.{MOST_NODES}
use Rattle.type_diagrams.specs.Sets.{Simples, IsCanonical}
use Rattle.type_diagrams.specs.Decisions.{Grows}
use Rattle.type_diagrams.specs.Tables.{Table, AreNodes, HasNoTwins, root_of, condition_at, is_in_set}
use Rattle.type_diagrams.specs.Whole.{IsDiagramOver, IsTable, Keeps, Extends}
use Rattle.type_diagrams.specs.Trees.{eval}
use Rattle.type_diagrams.proofs.NodeTrees.{slice_get-append, member_at}
use Rattle.type_diagrams.proofs.Interning.{at_or_last}
use Rattle.type_diagrams.proofs.Growing.{grows-itself, grows-by, grows-further, number-grows, tree-grows}

-- what stands at a place stays there
pub slice_get-grows : {X : Type 0} (old new : List X) (k : ℕ) (x : X) → Grows old new → slice_get old k ≡ Some x → slice_get new k ≡ Some x
slice_get-grows old new k x g e = ap (λ l. slice_get l k) g.1 ∙ slice_get-append old g.0 k (slice_get_within old k x e) ∙ e

pub length-grows : {X : Type 0} (old new : List X) (k : ℕ) → Grows old new → k < length old → k < length new
length-grows {X} old new k g lt = omega (arith, lt, ap (length {A = X}) g.1, length-append old g.0)

pub over-grows : (old new : Table) (d : Diagram) → Grows old.nodes new.nodes → Grows old.sets new.sets → IsDiagramOver old d → IsDiagramOver new d
over-grows old new d nodes sets o = record {
  set = length-grows old.sets new.sets d.simple sets o.set;
  roots = λ kind. number-grows old.nodes new.nodes nodes (root_of d kind) (o.roots kind);
}

pub over-keeps : (old new : Table) (d : Diagram) → Keeps old new → IsDiagramOver old d → IsDiagramOver new d
over-keeps old new d k = over-grows old new d k.nodes k.sets

-- a table that has grown keeps all
pub grown-Keeps : (old new : Table) → IsTable old → Grows old.nodes new.nodes → Grows old.sets new.sets → Grows old.diagrams new.diagrams → Keeps old new
grown-Keeps old new is nodes sets diagrams = record {
  nodes = nodes;
  sets = sets;
  diagrams = diagrams;
  conditions = λ a h.
      let d = member_at old.diagrams a h in
      let over = is.each a d.0 d.1 in
      let s = member_at old.sets d.0.simple over.set in
      let set = slice_get-grows old.sets new.sets d.0.simple s.0 sets s.1 ∙ sym s.1 in
      let same : condition_at new (Some d.0) ≡ condition_at old (Some d.0) = λ i. record {
        simple = is_in_set (set i);
        by_kind = λ k v. eval (tree-grows old.nodes new.nodes nodes (root_of d.0 k) (over.roots k) i) v;
      } in
      ap (condition_at new) (slice_get-grows old.diagrams new.diagrams a d.0 diagrams d.1) ∙ same ∙ ap (condition_at old) (sym d.1);
}

pub keeps-itself : (t : Table) → Keeps t t
keeps-itself t = record { nodes = grows-itself t.nodes; sets = grows-itself t.sets; diagrams = grows-itself t.diagrams; conditions = λ a h. refl }

pub keeps-further : (a b c : Table) → Keeps a b → Keeps b c → Keeps a c
keeps-further a b c k l = record {
  nodes = grows-further a.nodes b.nodes c.nodes k.nodes l.nodes;
  sets = grows-further a.sets b.sets c.sets k.sets l.sets;
  diagrams = grows-further a.diagrams b.diagrams c.diagrams k.diagrams l.diagrams;
  conditions = λ d h. l.conditions d (length-grows a.diagrams b.diagrams d k.diagrams h) ∙ k.conditions d h;
}

-- ---- one list grows

module _ (t : Table) (is : IsTable t) where
  pub with_nodes-Keeps : (nodes : List Node) → Grows t.nodes nodes → Keeps t (record t { nodes = nodes })
  with_nodes-Keeps nodes g = grown-Keeps t (record t { nodes = nodes }) is g (grows-itself t.sets) (grows-itself t.diagrams)

  pub with_nodes-IsTable : (nodes : List Node) → Grows t.nodes nodes → AreNodes nodes → IsTable (record t { nodes = nodes })
  with_nodes-IsTable nodes g are = record {
    nodes = are;
    canonical = is.canonical;
    sets_apart = is.sets_apart;
    each = λ k d e. over-keeps t (record t { nodes = nodes }) d (with_nodes-Keeps nodes g) (is.each k d e);
    diagrams_apart = is.diagrams_apart;
    few_sets = is.few_sets;
    few_diagrams = is.few_diagrams;
  }

  abbrev with_set : Simples → Table
  with_set s = record t { sets = t.sets ++ s ∷ [] }

  pub with_set-Keeps : (s : Simples) → Keeps t (with_set s)
  with_set-Keeps s = grown-Keeps t (with_set s) is (grows-itself t.nodes) (grows-by t.sets (s ∷ [])) (grows-itself t.diagrams)

  pub with_set-IsTable : (s : Simples) → IsCanonical s → HasNoTwins (t.sets ++ s ∷ []) → length t.sets < MOST_NODES → IsTable (with_set s)
  with_set-IsTable s canonical apart room = record {
    nodes = is.nodes;
    canonical = λ k x e. ⊎_elim (λ (o : slice_get t.sets k ≡ Some x). is.canonical k x o) (λ (o : (k ≡ length t.sets) × (s ≡ x)). subst IsCanonical o.1 canonical) (at_or_last t.sets s k x e);
    sets_apart = apart;
    each = λ k d e. over-keeps t (with_set s) d (with_set-Keeps s) (is.each k d e);
    diagrams_apart = is.diagrams_apart;
    few_sets = omega (arith, room, length-append t.sets (s ∷ []));
    few_diagrams = is.few_diagrams;
  }

  abbrev with_diagram : Diagram → Table
  with_diagram d = record t { diagrams = t.diagrams ++ d ∷ [] }

  pub with_diagram-Keeps : (d : Diagram) → Keeps t (with_diagram d)
  with_diagram-Keeps d = grown-Keeps t (with_diagram d) is (grows-itself t.nodes) (grows-itself t.sets) (grows-by t.diagrams (d ∷ []))

  pub with_diagram-IsTable : (d : Diagram) → IsDiagramOver t d → HasNoTwins (t.diagrams ++ d ∷ []) → length t.diagrams < MOST_NODES → IsTable (with_diagram d)
  with_diagram-IsTable d over apart room = record {
    nodes = is.nodes;
    canonical = is.canonical;
    sets_apart = is.sets_apart;
    each = λ k e at. over-keeps t (with_diagram d) e (with_diagram-Keeps d)
        (⊎_elim (λ (o : slice_get t.diagrams k ≡ Some e). is.each k e o) (λ (o : (k ≡ length t.diagrams) × (d ≡ e)). subst (IsDiagramOver t) o.1 over) (at_or_last t.diagrams d k e at));
    diagrams_apart = apart;
    few_sets = is.few_sets;
    few_diagrams = omega (arith, room, length-append t.diagrams (d ∷ []));
  }

-- ---- keeping all, with the atoms of new nodes bounded

pub extends-itself : (t : Table) → Extends 0 t t
extends-itself t = record { keeps = keeps-itself t; atoms = λ n le h. h }

pub extends-further : (l m n : ℕ) (a b c : Table) → l ≤ n → m ≤ n → Extends l a b → Extends m b c → Extends n a c
extends-further l m n a b c p q e f = record {
  keeps = keeps-further a b c e.keeps f.keeps;
  atoms = λ k le h. f.atoms k (omega (arith, q, le)) (e.atoms k (omega (arith, p, le)) h);
}

-- with no bound
pub extends-on : (a b c : Table) → Extends 0 a b → Extends 0 b c → Extends 0 a c
extends-on a b c = extends-further 0 0 0 a b c (omega arith) (omega arith)

pub extends-more : (n : ℕ) (a b : Table) → Extends 0 a b → Extends n a b
extends-more n a b e = record { keeps = e.keeps; atoms = λ k le h. e.atoms k (omega arith) h }

-- both within one bound
pub extends-within : (n : ℕ) (a b c : Table) → Extends n a b → Extends n b c → Extends n a c
extends-within n a b c = extends-further n n n a b c (omega arith) (omega arith)
