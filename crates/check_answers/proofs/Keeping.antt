-- Checks that leave the parts that were found as they are.
use Rattle.std.proofs.Common.{◌≡◌, List, refl, sym, subst, ◌∙◌}
use Rattle.std.specs.List.{AllZip}
use Rattle.checks.specs.Checks.{Check, Gives, Refuses, gives_some, ◌▷◌}
use Rattle.flow_narrowing.specs.declared.flow.Flow.{Flow}
use Rattle.needs.specs.Needs.{does}
use Rattle.type_model.specs.declared.basic.Ty.{Ty}
use Rattle.typed_tree.specs.declared.expr.TypedExpr.{TypedExpr}
use Rattle.check_words.specs.State.{State}
use Rattle.check_words.specs.Statements.{closes_block, takes_part}
use Rattle.check_words.specs.Words.{Atoms, becomes, by_handles, closes_choice, sets_flow}
use Rattle.check_answers.specs.TwinStates.{PartTwins}
use Rattle.check_answers.proofs.Leading.{Leads, Pairs, leads-from, leads-gives, leads-some, leads-then}
use Rattle.check_answers.proofs.Words.{At, takes-leads}
use Rattle.check_answers.proofs.Zips.{zip-last}

abbrev pub KeepsFound : {A : Type 0} → Check State A → Type 0
KeepsFound {A} c = (s new : State) (a : A) → c s (Gives a) new → new.found ≡ s.found

module _ {A B : Type 0} where
  keeps-then : (c : Check State A) (next : A → Check State B) → KeepsFound c → ((a : A) → KeepsFound (next a)) → KeepsFound (c ▷ next)
  unfolding ◌▷◌
  keeps-then c next f g s new b (a, mid, x, y) = g a mid new b y ∙ f s mid a x

module _ {A : Type 0} where
  keeps-some : (P : State → A → Type 0) → KeepsFound (gives_some P)
  unfolding gives_some
  keeps-some P s new a x = subst (λ (k : State). k.found ≡ s.found) (sym x.1) refl

  keeps-handles : (Same : A → A → Type 0) (a : A) → KeepsFound (by_handles Same a)
  unfolding by_handles
  keeps-handles Same a s new b x = subst (λ (k : State). k.found ≡ s.found) (sym x.1) refl

keeps-becomes : (change : State → State) → ((s : State) → (change s).found ≡ s.found) → KeepsFound (becomes change)
unfolding does
keeps-becomes change f s new u x = subst (λ (k : State). k.found ≡ s.found) (sym x) (f s)

pub keeps-flow : (f : Flow) → KeepsFound (sets_flow f)
keeps-flow f =
    keeps-then _ _ (keeps-then _ _ (keeps-some _) (λ u. keeps-then _ _ (keeps-handles _ _) (λ v. keeps-becomes _ (λ s. refl))))
    (λ u. keeps-becomes _ (λ s. refl))

pub keeps-block : KeepsFound closes_block
keeps-block = keeps-then _ _ (keeps-some _) (λ b. keeps-then _ _ (keeps-becomes _ (λ s. refl)) (λ u. keeps-some _))

pub keeps-choice : KeepsFound closes_choice
keeps-choice = keeps-then _ _ (keeps-some _) (λ c. keeps-then _ _ (keeps-becomes _ (λ s. refl)) (λ u. keeps-some _))

-- with these parts
abbrev pub WithParts : List TypedExpr → List TypedExpr → Pairs → Pairs
WithParts es fs F s t = F s t × (s.found ≡ es) × (t.found ≡ fs)

module _ {A B : Type 0} (es fs : List TypedExpr) where
  pub leads-parts : (F G : Pairs) (Q : A → B → Type 0) (c : Check State A) (d : Check State B) → KeepsFound c → KeepsFound d → Leads F G Q c d
      → Leads (WithParts es fs F) (WithParts es fs G) Q c d
  leads-parts F G Q c d kc kd f s t p (Gives a) (Gives b) m2 n2 x y =
      let r = f s t p.0 (Gives a) (Gives b) m2 n2 x y in ((r.0, kc s m2 a x ∙ p.1, kd t n2 b y ∙ p.2), r.1)
  leads-parts F G Q c d kc kd f s t p (Gives a) (Refuses g) m2 n2 x y = f s t p.0 (Gives a) (Refuses g) m2 n2 x y
  leads-parts F G Q c d kc kd f s t p (Refuses g) (Gives b) m2 n2 x y = f s t p.0 (Refuses g) (Gives b) m2 n2 x y
  leads-parts F G Q c d kc kd f s t p (Refuses g) (Refuses h) m2 n2 x y = f s t p.0 (Refuses g) (Refuses h) m2 n2 x y

-- a part that is settled, where other types may be wider
pub part-kept : (m n : Atoms) (E V : Ty → Ty → Type 0) (es fs : List TypedExpr) → AllZip (PartTwins E E) es fs
    → Leads (WithParts es fs (At m n E V)) (At m n E V) (PartTwins E E) takes_part takes_part
part-kept m n E V es fs h =
    let F = At m n E V in
    leads-then (WithParts es fs F) (WithParts es fs F) F (PartTwins E E) (PartTwins E E) _ _ _ _
    (leads-some (WithParts es fs F) (PartTwins E E) _ _
    (λ s t a b p x y. zip-last (PartTwins E E) s.found t.found a b
    (subst (λ k. AllZip (PartTwins E E) k t.found) (sym p.1) (subst (AllZip (PartTwins E E) es) (sym p.2) h)) x y))
    (λ e f k. leads-from (WithParts es fs F) F F (PartTwins E E) _ _ (λ s t p. p.0)
    (leads-then F F F _ (PartTwins E E) _ _ _ _ (takes-leads m n E V 1) (λ x y z. leads-gives F (PartTwins E E) e f k)))
