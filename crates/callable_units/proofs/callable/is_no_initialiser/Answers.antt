use Rattle.std.proofs.Common.{◌∙◌, Bool, List, ap, false, get_or, length, refl, sym}
use Rattle.std.proofs.lemmas.Bool.{false≢true}
use Rattle.stack_code.specs.Tables.{IsInitialiser}
use Rattle.callable_units.proofs.Called.{is-not}
use Rattle.callable_units.proofs.callable.is_no_initialiser.Goals as goal

pub returns-in-true : goal.returns-in-true
returns-in-true c = λ code are lt.
    let told = is-not (length code.units) (IsInitialiser code) c.args.tables.now.initialisers.items c.args.number c.is_marked.result are.initialisers lt (c.is_marked.ensures ∙ ap (λ (l : List Bool). get_or l c.args.number false) c.as_slice.ensures.value) in
    ((λ t. absurd (false≢true t)), (λ n. absurd (n (told.0 c.in-true.is))))

pub returns-in-false : goal.returns-in-false
returns-in-false c = λ code are lt.
    let told = is-not (length code.units) (IsInitialiser code) c.args.tables.now.initialisers.items c.args.number c.is_marked.result are.initialisers lt (c.is_marked.ensures ∙ ap (λ (l : List Bool). get_or l c.args.number false) c.as_slice.ensures.value) in
    ((λ t h. false≢true (sym c.in-false.is ∙ told.1 h)), (λ n. refl))
