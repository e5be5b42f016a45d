-- Needs one behind another: where two runs of each agree, two runs of all do.
use Rattle.std.proofs.Common.{List, [], sym, subst}
use Rattle.std.proofs.lemmas.List.Elements.{All-head}
use Rattle.checks.specs.Agreement.{Alike}
use Rattle.checks.specs.Checks.{Gives, Refuses, gives, gives_some}
use Rattle.checks.proofs.Alike.{▷-alike}
use Rattle.descriptors.specs.declared.names.Names.{Names}
use Rattle.needs.specs.Agreement.{BehindTwins}
use Rattle.needs.specs.Needs.{all_met}
use Rattle.type_model.specs.declared.answers.TypeLimit.{TypeLimit}
use Rattle.type_model.specs.declared.atoms.AtomDef.{AtomDef}
use Rattle.type_model.specs.Calls.{Asked}
use Rattle.typed_tree.specs.Listed.{nothing, one, ◌&◌, members}
use Rattle.expr_needs.specs.Needs.{Need}
use Rattle.check_words.specs.Meets.{meets}
use Rattle.check_words.specs.State.{State}
use Rattle.check_words.specs.Words.{Step}
use Rattle.package_checks.specs.Checked.{standing}
use Rattle.check_words.proofs.Standing.{back-have, front-have}
use Rattle.check_answers.specs.Answers.{Agrees, Twins}
use Rattle.check_answers.specs.Laws.{LinesAgree}

module _ (passes : List AtomDef → Asked → TypeLimit → Type 0) (names : Names) where
  abbrev means : Need → Step
  means = standing names (meets passes names)

  given : (s t : State) → Twins names s t → Alike (BehindTwins (Twins names) means) s t (gives {S = State} tt) (gives {S = State} tt)
  unfolding gives_some
  given s t h (Gives u) (Gives v) m2 n2 x y = subst (λ k. Twins names k n2) (sym x.1) (subst (Twins names s) (sym y.1) h)
  given s t h (Gives u) (Refuses g) m2 n2 x y = absurd y
  given s t h (Refuses f) p m2 n2 x y = absurd x

  pub lines-agree : LinesAgree passes names
  lines-agree nothing all s t h = given s t h
  lines-agree (one need) all s t h = All-head (Agrees passes names) need [] all s t h
  lines-agree (p & q) all s t h =
      ▷-alike (BehindTwins (Twins names) means) (BehindTwins (Twins names) means) (all_met means p) (all_met means p) _ _ s t
      (lines-agree p (front-have (Agrees passes names) (members p) (members q) all) s t h)
      (λ u v mid mid2 r. lines-agree q (back-have (Agrees passes names) (members p) (members q) all) mid mid2 r)
