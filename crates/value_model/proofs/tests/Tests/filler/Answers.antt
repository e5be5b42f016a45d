use Rattle.std.proofs.Common.{◌≡◌, ◌<◌, ◌-◌, ℕ, length, sym, subst, arith}
use Rattle.std.specs.Prelude.{IsSomeAnd, min, slice_get, slice_index_or}
use Rattle.value_model.specs.declared.filler.Filler.{Filler}
use Rattle.value_model.specs.Exact.{Fills}
use Rattle.value_model.specs.Table.{type_at}
use Rattle.value_model.proofs.Lookups.{filler_fills}
use Rattle.value_model.proofs.tests.Tests.filler.Goals as goal

pub overflow_sub-fillers : goal.overflow_sub-fillers
overflow_sub-fillers c =
    let h : 0 < length c.fillers-fillers.result.now = (filler_fills c.args.self.now c.args.atom c.args.place c.fillers-fillers.result.now c.fillers-fillers.ensures c.requires.allowed).0 in omega arith

pub bounds-fillers-at_most : goal.bounds-fillers-at_most
bounds-fillers-at_most c =
    let h : 0 < length c.fillers-fillers.result.now = (filler_fills c.args.self.now c.args.atom c.args.place c.fillers-fillers.result.now c.fillers-fillers.ensures c.requires.allowed).0 in
    let e : c.at_most.result ≡ min c.args.place (length c.fillers-fillers.result.now - 1) = c.at_most.ensures in
    let k : min c.args.place (length c.fillers-fillers.result.now - 1) < length c.fillers-fillers.result.now = omega arith in
    let P : ℕ → Type 0 = λ n. n < length c.fillers-fillers.result.now in subst P (sym e) k

pub returns : goal.returns
returns c =
    let h = (filler_fills c.args.self.now c.args.atom c.args.place c.fillers-fillers.result.now c.fillers-fillers.ensures c.requires.allowed).1 in
    let e : c.at_most.result ≡ min c.args.place (length c.fillers-fillers.result.now - 1) = c.at_most.ensures in
    let r = c.index-fillers-at_most.result in
    let P : ℕ → Type 0 = λ i. IsSomeAnd (slice_get c.args.self.now.atoms c.args.atom) (λ d. IsSomeAnd (type_at d c.args.place) (λ t. Fills c.args.self.now.atoms t (slice_index_or c.fillers-fillers.result.now i r))) in
    let Q : Filler → Type 0 = λ f. IsSomeAnd (slice_get c.args.self.now.atoms c.args.atom) (λ d. IsSomeAnd (type_at d c.args.place) (λ t. Fills c.args.self.now.atoms t f)) in
    subst Q (sym c.index-fillers-at_most.is) (subst P (sym e) (h r))
