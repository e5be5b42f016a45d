-- Layers of expressions: a tree with something in place of each part, and what a step for each kind of tree makes of a whole one.
use Rattle.bal_tree.specs.declared.expr.Call.{Call, Call-F, fold-Call}
use Rattle.bal_tree.specs.declared.expr.Expr.{Expr, Expr-F, fold-Expr}
use Rattle.bal_tree.specs.declared.expr.Key.{Key, Key-F, fold-Key}
use Rattle.bal_tree.specs.declared.expr.Postfix.{Postfix, Postfix-F, fold-Postfix}
use Rattle.bal_tree.specs.declared.expr.Primary.{Primary, Primary-F, fold-Primary}
use Rattle.bal_tree.specs.declared.expr.Detail.{Detail, Detail-F, fold-Detail}
use Rattle.bal_tree.specs.declared.expr.Member.{Member, Member-F, fold-Member}

module _ (A : Type 0) where
  abbrev pub CallOf : Type 0
  CallOf = Call-F A A A A A A A

  abbrev pub ExprOf : Type 0
  ExprOf = Expr-F A A A A A A A

  abbrev pub KeyOf : Type 0
  KeyOf = Key-F A A A A A A A

  abbrev pub PostfixOf : Type 0
  PostfixOf = Postfix-F A A A A A A A

  abbrev pub PrimaryOf : Type 0
  PrimaryOf = Primary-F A A A A A A A

  abbrev pub DetailOf : Type 0
  DetailOf = Detail-F A A A A A A A

  abbrev pub MemberOf : Type 0
  MemberOf = Member-F A A A A A A A

  -- what is made of each kind of tree, from what was made of its parts
  pub record ExprSteps : Type 0 where
    pub call : CallOf → A
    pub expr : ExprOf → A
    pub key : KeyOf → A
    pub postfix : PostfixOf → A
    pub primary : PrimaryOf → A
    pub detail : DetailOf → A
    pub member : MemberOf → A

module _ {A : Type 0} (s : ExprSteps A) where
  abbrev pub of_call : Call → A
  of_call = fold-Call A A A A A A A s.call s.expr s.key s.postfix s.primary s.detail s.member

  abbrev pub of_expr : Expr → A
  of_expr = fold-Expr A A A A A A A s.call s.expr s.key s.postfix s.primary s.detail s.member

  abbrev pub of_key : Key → A
  of_key = fold-Key A A A A A A A s.call s.expr s.key s.postfix s.primary s.detail s.member

  abbrev pub of_postfix : Postfix → A
  of_postfix = fold-Postfix A A A A A A A s.call s.expr s.key s.postfix s.primary s.detail s.member

  abbrev pub of_primary : Primary → A
  of_primary = fold-Primary A A A A A A A s.call s.expr s.key s.postfix s.primary s.detail s.member

  abbrev pub of_detail : Detail → A
  of_detail = fold-Detail A A A A A A A s.call s.expr s.key s.postfix s.primary s.detail s.member

  abbrev pub of_member : Member → A
  of_member = fold-Member A A A A A A A s.call s.expr s.key s.postfix s.primary s.detail s.member
