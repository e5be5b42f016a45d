use Rattle.std.specs.Prelude.{⊤}
use Rattle.std.proofs.Common.{◌+◌, refl, rules}
use Rattle.module_loader.specs.declared.reading.Reading.{Reading}
use Rattle.module_loader.proofs.Nexts.{put-stops}
use Rattle.module_loader.proofs.reading.Reading.put.Goals as goal

pub returns-then-bytes-gt-MOST_PACKAGE_BYTES : goal.returns-then-bytes-gt-MOST_PACKAGE_BYTES
returns-then-bytes-gt-MOST_PACKAGE_BYTES c =
    let new : Reading = record { read = c.push.new.self; bytes = c.args.self.now.bytes + c.args.size } in
    put-stops ⊤ c.args.self.now new c.args.file c.args.size c.too_much.result (c.in_ok-push.ensures.items, refl) (search rules) c.too_much.ensures

pub returns : goal.returns
returns c = ((c.in_ok-push.ensures.items, refl), search rules)
