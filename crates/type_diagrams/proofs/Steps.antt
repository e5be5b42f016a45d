-- Steps: telling them apart, and putting a step together from those on the followers.
use Rattle.std.proofs.Common.{◌≡◌, ℕ, ◌+◌, ◌==◌, ◌&&◌, List, Bool, true, false, if◌then◌else◌, refl, sym, subst, ◌∙◌, ap, Some}
use Rattle.std.proofs.lemmas.Bool.{eqb-true, false≢true}
use denote.Enum.Bare.{same_true, sameb}
use Rattle.std.proofs.Common.{rules}
use Rattle.std.specs.HashMap.{get, Updates}
use Rattle.type_diagrams.specs.contracts.operation.Operation.{the_type}
use Rattle.type_diagrams.specs.contracts.operation.StepPartialEq.TheImpl as same_step
use Rattle.type_diagrams.specs.declared.node.Node.{Node}
use Rattle.type_diagrams.specs.declared.operation.Operation.{Operation}
use Rattle.type_diagrams.specs.declared.operation.Step.{Step}
use Rattle.type_diagrams.specs.Trees.{rank}
use Rattle.type_diagrams.specs.Tables.{tree_of}
use Rattle.type_diagrams.specs.Decisions.{Grows, value_of, CanFollow, IsNodeFor, IsSplit, IsFirstLiteral}
use Rattle.type_diagrams.specs.Operations.{meaning, CanStep, IsResultOf, Results, Remembers}
use Rattle.type_diagrams.proofs.NewNodes.{rises-weaken}
use Rattle.type_diagrams.proofs.Growing.{number-grows, value-grows, starts-grows}

-- ---- equal steps

and_parts : (a b : Bool) → (a && b) ≡ true → (a ≡ true) × (b ≡ true)
and_parts true b e = (refl, e)
and_parts false b e = absurd (false≢true e)

step_same : (s t : Step) → s.operation ≡ t.operation → s.left ≡ t.left → s.right ≡ t.right → s ≡ t
step_same s t e f g = λ i. record { operation = e i; left = f i; right = g i }

step_test : (s t : Step) → same_step.ghosts.eq s t ≡ true → s ≡ t
step_test s t e =
    let a = and_parts (sameb the_type s.operation t.operation) (s.left == t.left && s.right == t.right) e in
    let b = and_parts (s.left == t.left) (s.right == t.right) a.1 in
    step_same s t (same_true the_type (search rules) s.operation t.operation a.0) (eqb-true s.left t.left b.0) (eqb-true s.right t.right b.1)

-- one more result is remembered
pub remembers-more : (nodes : List Node) (old new : Results) (s : Step) (n : ℕ) → Remembers nodes old → CanStep nodes s → IsResultOf nodes s nodes n → Updates same_step.ghosts.eq old new s (Some n) → Remembers nodes new
remembers-more nodes old new s n h can r up t m e = by (same_step.ghosts.eq s t) refl
  where
    some_same : {x y : ℕ} → Some x ≡ Some y → x ≡ y
    some_same p = cc

    by : (b : Bool) → same_step.ghosts.eq s t ≡ b → CanStep nodes t × IsResultOf nodes t nodes m
    by true q =
        let same = step_test s t q in
        let found : n ≡ m = some_same (ap (λ b. if b then Some n else get same_step.ghosts.eq old t) (sym q) ∙ sym (up.0 t) ∙ e) in
        subst (λ u. CanStep nodes u × IsResultOf nodes u nodes m) same (can, subst (λ k. IsResultOf nodes s nodes k) found r)
    by false q = h t m (ap (λ b. if b then Some n else get same_step.ghosts.eq old t) (sym q) ∙ sym (up.0 t) ∙ e)

-- ---- a step by its followers

-- the same operation on other numbers
abbrev pub at : Step → ℕ → ℕ → Step
at s left right = record { operation = s.operation; left = left; right = right }

meaning-if : (o : Operation) (b p q r s : Bool) → meaning o (if b then p else q) (if b then r else s) ≡ (if b then meaning o p r else meaning o q s)
meaning-if o true p q r s = refl
meaning-if o false p q r s = refl

module _ (before after_yes after_no : List Node) (s : Step) (l ly ln ry rn y n : ℕ) where
  abbrev node : Node
  node = record { on = l; yes = y; no = n }

  module _ (first : IsFirstLiteral before s.left s.right l) (left : IsSplit before l s.left ly ln) (right : IsSplit before l s.right ry rn)
      (yes_grows : Grows before after_yes) (no_grows : Grows after_yes after_no)
      (yes : IsResultOf before (at s ly ry) after_yes y) (no : IsResultOf after_yes (at s ln rn) after_no n) where
    -- the results on the followers can follow
    pub CanFollow-results : CanFollow after_no node
    CanFollow-results = record {
      literal = first.literal;
      yes = number-grows after_yes after_no no_grows y yes.number;
      no = no.number;
      yes_after = starts-grows after_yes after_no no_grows (rank l + 1) y yes.number (yes.starts (rank l + 1) left.yes_starts right.yes_starts);
      no_after = no.starts (rank l + 1) (starts-grows before after_yes yes_grows (rank l + 1) ln left.no_number left.no_starts) (starts-grows before after_yes yes_grows (rank l + 1) rn right.no_number right.no_starts);
    }

    value : (v : ℕ → Bool) → (if v l then value_of after_no y v else value_of after_no n v) ≡ meaning s.operation (value_of before s.left v) (value_of before s.right v)
    value v =
        let yes_is = value-grows after_yes after_no no_grows y v yes.number ∙ yes.value v in
        let no_is = no.value v ∙ (λ i. meaning s.operation (value-grows before after_yes yes_grows ln v left.no_number i) (value-grows before after_yes yes_grows rn v right.no_number i)) in
        (λ i. if v l then yes_is i else no_is i)
        ∙ sym (meaning-if s.operation (v l) (value_of before ly v) (value_of before ln v) (value_of before ry v) (value_of before rn v))
        ∙ (λ i. meaning s.operation (sym (left.value v) i) (sym (right.value v) i))

    -- the node that they follow is the result
    pub node-IsResultOf : (after : List Node) (r : ℕ) → IsNodeFor after_no after node r → IsResultOf before s after r
    node-IsResultOf after r made = record {
      number = made.number;
      value = λ v. made.value v ∙ value v;
      starts = λ place a b. rises-weaken place (rank l) (tree_of after r) (first.last place a b) made.starts;
    }
