use Rattle.std.proofs.Common.{arith, rules, sym, subst, take, List, ◌≡◌, None}
use Rattle.std.specs.List.{AllZip}
use Rattle.std.specs.HashMap.{get_by}
use Rattle.std.proofs.lemmas.List.Elements.{All-push}
use Rattle.descriptors.specs.declared.names.ModuleNames.{ModuleNames}
use Rattle.type_builder.specs.Building.{IsFile, IsModule}
use Rattle.type_builder.specs.Passes.{AreEmpty}
use Rattle.type_model.specs.Places.{is_same_text}
use Rattle.type_builder.proofs.Noted.{zip-more}
use Rattle.type_builder.proofs.noting.modules.Goals as goal

pub loop-module-preserved : goal.loop-module-preserved
loop-module-preserved c =
    let made : ModuleNames = record { entries = c.new.result; files = c.in_ok-files.field-0 } in (
      subst (AllZip (IsModule c.args.home.now) (take _ c.args.modules.now)) (sym {A = List ModuleNames} c.in_ok-push.ensures.items)
          (zip-more (IsModule c.args.home.now) c.args.modules.now c.loop-module.out.items c.loop-module.module-index c.module-item.result made (grind (arith, c.loop-module-test.true)) c.module-item.is c.loop-module.invariant.0
          (subst (λ fs. AllZip (IsFile c.args.home.now) fs c.in_ok-files.field-0.items) c.as_slice.ensures c.in_ok-files.ensures)),
      subst AreEmpty (sym {A = List ModuleNames} c.in_ok-push.ensures.items)
          (All-push (λ m. (name : _) → get_by (is_same_text name) m.entries ≡ None) c.loop-module.out.items made c.loop-module.invariant.1 (λ name. search (rules, c.new.ensures.empty))),
    )
