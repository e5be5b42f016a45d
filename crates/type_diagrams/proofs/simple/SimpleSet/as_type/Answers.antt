use Rattle.std.proofs.Common.{rules, ◌≡◌, [], List, ◌++◌, map, IfOk, sym, subst, ◌∙◌, ap}
use Rattle.std.proofs.lemmas.Bool.{eqb-true}
use Rattle.std.proofs.lemmas.List.{nil_from_length}
use Rattle.std.specs.Vec.{vec_len}
use Rattle.type_model.specs.declared.basic.BasicSet.{BasicSet}
use Rattle.type_model.specs.declared.basic.BasicSet.TheVariants.{StringOne}
use Rattle.type_diagrams.specs.Sets.{set_of}
use Rattle.type_diagrams.specs.Written.{IsUnionOfSets, IsUnionWithout}
use Rattle.type_diagrams.proofs.Shapes.{IfOk-map}
use Rattle.type_diagrams.proofs.WrittenSets.{few-IsSimpleType, rest-IsSimpleType, all-IsUnionWithout}
use Rattle.type_diagrams.proofs.simple.SimpleSet.as_type.Goals as goal

pub returns-then-not-self : goal.returns-then-not-self
returns-then-not-self c =
    let first = c.in_ok-sets.sets.items in
    let all = c.push_texts.new.sets.items in
    IfOk-map (IsUnionOfSets all) _
    (λ t. few-IsSimpleType (set_of c.args.self.now) c.requires first all c.in_ok-sets.ensures t c.if-not-self.true
    (c.in_ok-push_texts.ensures ∙ (λ i. first ++ map StringOne (c.deref.ensures.value i))))
    c.union.result (subst (λ (sets : List BasicSet). IfOk c.union.result (IsUnionOfSets sets)) c.deref-then-not-self.ensures.value c.union.ensures)

pub returns-then-is_empty : goal.returns-then-is_empty
returns-then-is_empty c =
    let all = c.push.new.self.items in
    let none : c.args.self.now.texts.items ≡ [] =
    nil_from_length c.args.self.now.texts.items (let empty = eqb-true (vec_len c.args.self.now.texts) 0 (sym c.if-is_empty.ensures) in search (rules, empty)) in
    IfOk-map (IsUnionOfSets all) _
    (λ t u. rest-IsSimpleType (set_of c.args.self.now) c.requires c.in_ok-sets.sets.items all c.in_ok-sets.ensures [] t c.if-not-self.false c.in_ok-push.ensures.items
    (ap (map StringOne) (sym none)) (all-IsUnionWithout all t u))
    c.union-then-is_empty.result (subst (λ (sets : List BasicSet). IfOk c.union-then-is_empty.result (IsUnionOfSets sets)) c.deref-then-is_empty.ensures.value c.union-then-is_empty.ensures)

pub returns : goal.returns
returns c =
    let all = c.push.new.self.items in
    let out = c.push_texts-2.new.sets.items in
    IfOk-map (IsUnionWithout all out) _
    (λ t. rest-IsSimpleType (set_of c.args.self.now) c.requires c.in_ok-sets.sets.items all c.in_ok-sets.ensures out t c.if-not-self.false c.in_ok-push.ensures.items
    (c.in_ok-push_texts-2.ensures ∙ (λ i. c.new-left_out.ensures.items i ++ map StringOne (c.deref-2.ensures.value i))))
    c.all_but.result
    (subst (λ (sets : List BasicSet). IfOk c.all_but.result (IsUnionWithout sets out)) c.deref-3.ensures.value
    (subst (λ (sets : List BasicSet). IfOk c.all_but.result (IsUnionWithout c.deref-3.result.now sets)) c.deref-4.ensures.value c.all_but.ensures))
