-- Operators and their operands: what is made is what the needs mean.
use Rattle.std.proofs.Common.{◌≡◌, ◌++◌, ◌∷◌, [], Bool, List, Result, Ok, Err, OnOk, subst}
use Rattle.bal_base.specs.declared.place.Place.{Place}
use Rattle.bal_base.specs.declared.stop.Memory.{Memory as NoMemory}
use Rattle.checks.specs.Checks.{Comes}
use Rattle.expr_needs.specs.declared.kind.Kind.{Kind}
use Rattle.expr_needs.specs.declared.kind.Kind.TheVariants as kind
use Rattle.typed_tree.specs.declared.form.Operator.{Operator}
use Rattle.check_words.specs.State.{State}
use Rattle.check_words.specs.Values.{adds_up, compares, forms, operator_of, sort_kind}
use Rattle.check_words.proofs.Coming.{next}
use Rattle.check_words.proofs.Flowing.{sort-taken}

module _ (s new : State) (kept : List Bool) (ints : Bool) (is : s.sorts ≡ kept ++ ints ∷ []) (at : Place) where
  pub adds-come : (op : Operator) (k : Kind) (r : Result (Unit {0}) NoMemory) → op ≡ operator_of ints → k ≡ sort_kind ints
      → OnOk r (Comes (forms op 2 k at) (record s { sorts = kept }) (Ok tt) new) → OnOk r (Comes (adds_up at) s (Ok tt) new)
  adds-come op k (Ok u) op-is k-is h = let mid : State = record s { sorts = kept } in
      next _ _ _ _ _ ints mid (sort-taken s kept ints is)
      (subst (λ o. Comes (forms o 2 (sort_kind ints) at) mid (Ok tt) new) op-is (subst (λ l. Comes (forms op 2 l at) mid (Ok tt) new) k-is h))
  adds-come op k (Err e) op-is k-is h = tt

  pub compares-come : (op : Operator) (r : Result (Unit {0}) NoMemory) → OnOk r (Comes (forms op 2 kind.Truth at) (record s { sorts = kept }) (Ok tt) new)
      → OnOk r (Comes (compares op at) s (Ok tt) new)
  compares-come op (Ok u) h = next _ _ _ _ _ ints (record s { sorts = kept }) (sort-taken s kept ints is) h
  compares-come op (Err e) h = tt
