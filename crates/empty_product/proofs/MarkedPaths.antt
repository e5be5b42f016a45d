-- Paths of kinds that may be marked, by their mark and their atoms.
use Rattle.std.proofs.Common.{◌≡◌, ℕ, ◌==◌, List, [], ◌∷◌, ◌||◌, not, cond, Bool, true, false, MatchBool, All, refl, sym, subst}
use Rattle.std.specs.List.{filter, list_any}
use Rattle.std.proofs.lemmas.List.Elements.{All-nil, All-cons, All-head, All-tail}
use Rattle.bal_base.specs.declared.shape.Shape.{Shape}
use Rattle.type_model.specs.declared.basic.SemType.{Atom}
use Rattle.type_model.specs.declared.atoms.AtomDef.{AtomDef}
use Rattle.type_model.specs.Membership.{In}
use Rattle.type_diagrams.specs.declared.kind.Kind.{Kind}
use Rattle.type_diagrams.specs.declared.path.Path.{Path}
use Rattle.type_diagrams.specs.Kinds.{IsOfKind, IsMarked, the_mark}
use Rattle.type_diagrams.specs.Members.{atoms_in}
use Rattle.type_diagrams.specs.Paths.{IsOnPath}
use Rattle.type_diagrams.proofs.MarkAndAtoms.{Of}
use Rattle.type_diagrams.proofs.PathShapes.{has_mark}

module _ (is : ℕ → Bool) (A : Type 0) (P : ℕ → Type 0) where
  abbrev others : List ℕ → List ℕ
  others ls = filter (λ l. not (is l)) ls

  or_more : (a b : Bool) → b ≡ true → (a || b) ≡ true
  or_more true b e = refl
  or_more false b e = e

  -- what holds of the mark, where it is among the literals, and of each atom
  pub All-marked : (ls : List ℕ) → (list_any is ls ≡ true → A) → All P (others ls) → All (Of is A P) ls
  All-marked [] some h = All-nil (Of is A P)
  All-marked (l ∷ ls) some h = by (is l) refl some h (λ s r. All-marked ls s r)
    where
      by : (b : Bool) → is l ≡ b → ((b || list_any is ls) ≡ true → A) → All P (cond (not b) (l ∷ others ls) (others ls)) → ((list_any is ls ≡ true → A) → All P (others ls) → All (Of is A P) ls) → All (Of is A P) (l ∷ ls)
      by true e some h rest = All-cons (Of is A P) l ls (subst (λ b. MatchBool b A (P l)) (sym e) (some refl)) (rest (λ _. some refl) h)
      by false e some h rest =
          All-cons (Of is A P) l ls (subst (λ b. MatchBool b A (P l)) (sym e) (All-head P l (others ls) h)) (rest some (All-tail P l (others ls) h))

  pub None-marked : (ls : List ℕ) → (list_any is ls ≡ true → ¬ A) → All (λ l. ¬ P l) (others ls) → All (λ l. ¬ Of is A P l) ls
  None-marked [] none h = All-nil _
  None-marked (l ∷ ls) none h = by (is l) refl none h (λ s r. None-marked ls s r)
    where
      by : (b : Bool) → is l ≡ b → ((b || list_any is ls) ≡ true → ¬ A) → All (λ m. ¬ P m) (cond (not b) (l ∷ others ls) (others ls)) → ((list_any is ls ≡ true → ¬ A) → All (λ m. ¬ P m) (others ls) → All (λ m. ¬ Of is A P m) ls) → All (λ m. ¬ Of is A P m) (l ∷ ls)
      by true e none h rest = All-cons (λ m. ¬ Of is A P m) l ls (subst (λ b. ¬ MatchBool b A (P l)) (sym e) (none refl)) (rest (λ _. none refl) h)
      by false e none h rest =
          All-cons (λ m. ¬ Of is A P m) l ls (subst (λ b. ¬ MatchBool b A (P l)) (sym e) (All-head (λ m. ¬ P m) l (others ls) h)) (rest none (All-tail (λ m. ¬ P m) l (others ls) h))

module _ (env : List AtomDef) (k : Kind) (p : Path) (x : Shape) where
  -- a shape of the kind is on the path, where its mark is as the path says, it is in each wanted atom and in
  -- no unwanted one
  pub marked-on_path : IsOfKind k x → (has_mark p ≡ true → IsMarked x) → (list_any (λ l. l == the_mark) p.neg ≡ true → ¬ IsMarked x)
      → All (λ a. In env x (Atom a)) (atoms_in p.pos) → All (λ a. ¬ In env x (Atom a)) (atoms_in p.neg) → IsOnPath env k p x
  marked-on_path kind holds fails ins outs = record {
    kind = kind;
    holding = All-marked (λ l. l == the_mark) (IsMarked x) (λ a. In env x (Atom a)) p.pos holds ins;
    failing = None-marked (λ l. l == the_mark) (IsMarked x) (λ a. In env x (Atom a)) p.neg fails outs;
  }

  -- no shape is on a path with the mark among those that hold and among those that fail
  pub no_mark_both_ways : has_mark p ≡ true → list_any (λ l. l == the_mark) p.neg ≡ true → ¬ IsOnPath env k p x
  no_mark_both_ways holds fails on = unmarked p.neg fails on.failing (marks p.pos holds on.holding)
    where
      marks : (ls : List ℕ) → list_any (λ l. l == the_mark) ls ≡ true → All (Of (λ l. l == the_mark) (IsMarked x) (λ a. In env x (Atom a))) ls → IsMarked x
      marks [] some h = cc
      marks (l ∷ ls) some h = by (l == the_mark) some (All-head (Of (λ l. l == the_mark) (IsMarked x) (λ a. In env x (Atom a))) l ls h) (λ s. marks ls s (All-tail (Of (λ l. l == the_mark) (IsMarked x) (λ a. In env x (Atom a))) l ls h))
        where
          by : (b : Bool) → (b || list_any (λ l. l == the_mark) ls) ≡ true → MatchBool b (IsMarked x) (In env x (Atom l)) → (list_any (λ l. l == the_mark) ls ≡ true → IsMarked x) → IsMarked x
          by true some here rest = here
          by false some here rest = rest some

      unmarked : (ls : List ℕ) → list_any (λ l. l == the_mark) ls ≡ true → All (λ l. ¬ Of (λ l. l == the_mark) (IsMarked x) (λ a. In env x (Atom a)) l) ls → ¬ IsMarked x
      unmarked [] some h = cc
      unmarked (l ∷ ls) some h = by (l == the_mark) some (All-head (λ l. ¬ Of (λ l. l == the_mark) (IsMarked x) (λ a. In env x (Atom a)) l) l ls h) (λ s. unmarked ls s (All-tail (λ l. ¬ Of (λ l. l == the_mark) (IsMarked x) (λ a. In env x (Atom a)) l) l ls h))
        where
          by : (b : Bool) → (b || list_any (λ l. l == the_mark) ls) ≡ true → ¬ MatchBool b (IsMarked x) (In env x (Atom l)) → (list_any (λ l. l == the_mark) ls ≡ true → ¬ IsMarked x) → ¬ IsMarked x
          by true some here rest = here
          by false some here rest = rest some
