-- Parts that stand for no expression: a part more, and that what stands still stands.
use Rattle.std.proofs.Common.{◌≡◌, ◌++◌, ◌-◌, ◌∙◌, ℕ, List, [], ◌∷◌, length, None, Ok, append-nil, arith, rules, refl, sym, ap}
use Rattle.std.proofs.lemmas.List.{take_all}
use Rattle.bal_base.specs.declared.place.Place.{Place}
use Rattle.checks.specs.Checks.{Comes}
use Rattle.operations.specs.declared.operation.Constant.{Constant}
use Rattle.typed_tree.specs.declared.expr.TypedExpr.{TypedExpr}
use Rattle.typed_tree.specs.Exprs.{type_of}
use Rattle.typed_tree.specs.SharedTypes.{Shared}
use Rattle.typed_tree.specs.Views.{IsImplied}
use Rattle.typed_tree.proofs.ExprLayers.{expr_layers}
use Rattle.check_words.specs.Stands.{SharedBelow, Stands}
use Rattle.check_words.specs.State.{AreLast, State, all_but}
use Rattle.check_words.specs.Values.{SingleOf}
use Rattle.check_words.specs.Words.{makes}
use Rattle.check_words.proofs.Coming.{made}
use Rattle.check_work.proofs.Making.{made-stands}

module _ {A : Type 0} where
  pub none-last : (xs : List A) → AreLast xs 0 []
  none-last xs = record { kept = xs; is = sym (append-nil xs); many = refl }

  pub all-but-none : (xs : List A) → all_but 0 xs ≡ xs
  all-but-none xs = take_all (length xs - 0) xs (omega arith)

implied-type : (value : Constant) (t : Shared) (at : Place) (e : TypedExpr) → IsImplied value t at e → type_of e ≡ t
implied-type value t at e is = search (rules, expr_layers)

module _ (s : State) (value : Constant) (t : Shared) (at : Place) (e : TypedExpr) (es : List TypedExpr) (is : IsImplied value t at e) (more : es ≡ s.found ++ e ∷ []) where
  behind-all : es ≡ all_but 0 s.found ++ e ∷ []
  behind-all = more ∙ ap (λ xs. xs ++ e ∷ []) (sym (all-but-none s.found))

  -- the value alone, at the place
  pub implied-comes : SingleOf value s.atoms t.value
      → Comes (makes 0 (λ env parts f. (u : Shared) × SingleOf value env u.value × IsImplied value u at f)) s (Ok tt) (record s { found = es; ways = None })
  implied-comes single = made 0 _ s (record s { found = es; ways = None }) [] e (none-last s.found) (t, single, is) (ap (λ xs. record s { found = xs; ways = None }) behind-all)

  pub implied-stands : Stands s → SharedBelow (length s.atoms) t → Stands (record s { found = es; ways = None })
  implied-stands h below = made-stands s h 0 e t es (implied-type value t at e is) below behind-all
