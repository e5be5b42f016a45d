use Rattle.std.proofs.Common.{Bool, ℕ, false, None, List, [], ◌∷◌, ◌++◌, ◌≡◌, ◌+◌, ◌<◌, length, arith, slice_get, Some, sym, subst, ◌∙◌}
use Rattle.std.specs.Option.{is_some}
use Rattle.type_diagrams.specs.declared.node.Node.{Node}
use Rattle.type_diagrams.specs.Tables.{AreNodes, DependBelow}
use Rattle.type_diagrams.specs.Decisions.{IsNodeFor, CanFollow}
use Rattle.type_diagrams.specs.Operations.{Results, AreKept}
use Rattle.type_diagrams.proofs.Growing.{remembers-grows, grows-by}
use Rattle.type_diagrams.proofs.Interning.{found, inserted}
use Rattle.type_diagrams.proofs.NewNodes.{is_same_node, node_test, follower-IsNodeFor, found-IsNodeFor, AreNodes-push, pushed-IsNodeFor, DependBelow-push}
use Rattle.type_diagrams.proofs.nodes.Nodes.number.Goals as goal

pub returns-then-node-clause-made : goal.returns-then-node-clause-made
returns-then-node-clause-made c = follower-IsNodeFor c.args.self.now c.args.node c.requires c.if-node.true

pub returns-in-Some-clause-made : goal.returns-in-Some-clause-made
returns-in-Some-clause-made c =
    let at : slice_get c.self.inside.table.keys c.in-Some.place ≡ Some c.args.node = found _ c.self.inside.table.keys c.in-Some.place c.args.node (λ y e. node_test c.args.node y e) (sym c.in-Some.ensures.index) in
    subst (λ nodes. IsNodeFor nodes nodes c.args.node (c.in-Some.place + 2)) c.self.view_is (found-IsNodeFor c.self.inside.table.keys c.self.invariant.are c.args.node (subst (λ nodes. CanFollow nodes c.args.node) (sym c.self.view_is) c.requires) c.in-Some.place at)

none_of : {b : Bool} → is_some {T = ℕ} None ≡ b → b ≡ false
none_of e = sym e

pushed_to : (m : Node) (inside before after : List Node) (place : ℕ) → inside ≡ before → after ≡ inside ++ m ∷ [] → place ≡ length inside → IsNodeFor inside (inside ++ m ∷ []) m (length inside + 2) → IsNodeFor before after m (place + 2)
pushed_to m inside before after place view keys same h =
    subst (λ n. IsNodeFor before after m (n + 2)) (sym same) (subst (λ a. IsNodeFor before a m (length inside + 2)) (sym keys) (subst (λ b. IsNodeFor b (inside ++ m ∷ []) m (length inside + 2)) view h))

sound : (m : Node) {old new : List Node} {results : Results} → old ++ m ∷ [] ≡ new → AreKept old results → AreNodes (old ++ m ∷ []) → AreKept new results
sound m {old} {new} {results} e is are =
    subst (λ nodes. AreKept nodes results) e (record { are = are; remembered = remembers-grows old (old ++ m ∷ []) (grows-by old (m ∷ [])) results is.remembered })

pub invariant_of-self-in-None : goal.invariant_of-self-in-None
invariant_of-self-in-None c =
    let old = c.self.inside.table.keys in
    let none = none_of c.in-None.ensures.found in
    let can = subst (λ nodes. CanFollow nodes c.args.node) (sym c.self.view_is) c.requires in
    let keys : c.insert.new.self.keys ≡ old ++ c.args.node ∷ [] = c.in_ok-insert-in-None.ensures.keys ∙ inserted (is_same_node) old c.args.node none in
    let room : length old < 4294967293 = omega arith in
    sound c.args.node (sym keys) c.self.invariant (AreNodes-push old c.self.invariant.are c.args.node can none c.if-node.false room)

pub returns-in_ok-insert-in-None-clause-made : goal.returns-in_ok-insert-in-None-clause-made
returns-in_ok-insert-in-None-clause-made c =
    let old = c.self.inside.table.keys in
    let none = none_of c.in-None.ensures.found in
    let can = subst (λ nodes. CanFollow nodes c.args.node) (sym c.self.view_is) c.requires in
    let keys : c.insert.new.self.keys ≡ old ++ c.args.node ∷ [] = c.in_ok-insert-in-None.ensures.keys ∙ inserted (is_same_node) old c.args.node none in
    let room : length old < 4294967293 = omega arith in
    pushed_to c.args.node old c.args.self.now c.insert.new.self.keys c.len-place.result c.self.view_is keys c.len-place.ensures.len (pushed-IsNodeFor old c.self.invariant.are c.args.node can none c.if-node.false room)

pub returns-in_ok-insert-in-None-clause-are : goal.returns-in_ok-insert-in-None-clause-are
returns-in_ok-insert-in-None-clause-are c =
    let old = c.self.inside.table.keys in
    let none = none_of c.in-None.ensures.found in
    let can = subst (λ nodes. CanFollow nodes c.args.node) (sym c.self.view_is) c.requires in
    let keys : c.insert.new.self.keys ≡ old ++ c.args.node ∷ [] = c.in_ok-insert-in-None.ensures.keys ∙ inserted (is_same_node) old c.args.node none in
    let room : length old < 4294967293 = omega arith in
    subst AreNodes (sym keys) (AreNodes-push old c.self.invariant.are c.args.node can none c.if-node.false room)

pub returns-in_ok-insert-in-None-clause-atoms : goal.returns-in_ok-insert-in-None-clause-atoms
returns-in_ok-insert-in-None-clause-atoms c n below h =
    let old = c.self.inside.table.keys in
    let keys : c.insert.new.self.keys ≡ old ++ c.args.node ∷ [] = c.in_ok-insert-in-None.ensures.keys ∙ inserted (is_same_node) old c.args.node (none_of c.in-None.ensures.found) in
    subst (DependBelow n) (sym keys) (DependBelow-push old c.args.node n below (subst (DependBelow n) (sym c.self.view_is) h))
