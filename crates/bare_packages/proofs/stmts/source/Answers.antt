use Rattle.std.proofs.Common.{refl, subst, sym}
use Rattle.typed_tree.specs.declared.stmt.Source.TheVariants.{Range, List as ListSource}
use Rattle.declared_reads.specs.Declared.{IsBareSource}
use Rattle.bare_packages.proofs.Bare.{ok-one}
use Rattle.bare_packages.proofs.stmts.source.Goals as goal

pub returns-in_ok-boxed-in-Range : goal.returns-in_ok-boxed-in-Range
returns-in_ok-boxed-in-Range c =
    ok-one c.boxed-in-Range.result (λ x. subst (λ z. IsBareSource z (Range c.in-Range._own c.in-Range._end c.boxed.new.e c.boxed-in-Range.new.e)) (sym c.in-Range.is) (c.boxed.new.e, c.boxed-in-Range.new.e, c.in_ok-boxed-in-Range.ensures, x, refl)) c.boxed-in-Range.ensures

pub returns-in-List : goal.returns-in-List
returns-in-List c =
    ok-one c.boxed-in-List.result (λ x. subst (λ z. IsBareSource z (ListSource c.in-List._own c.boxed-in-List.new.e)) (sym c.in-List.is) (c.boxed-in-List.new.e, x, refl)) c.boxed-in-List.ensures
