use Rattle.std.proofs.Common.{◌≡◌, ◌<◌, ◌^◌, ◌++◌, length, take, IfSome, ap, arith}
use Rattle.std.specs.Option.{option_map}
use Rattle.bal_io.proofs.Reading.{front-read, on_ok}
use Rattle.bal_io.proofs.dir_folder.read_front.Goals as goal

pub returns-clause-bytes : goal.returns-clause-bytes
returns-clause-bytes g c =
    let file = g.F.Read.remaining c.args.file in
    let known = g.F.Read.remaining c.take.result.inner in
    let limit = c.take.result.limit in
    let most = c.saturating_add-most.result in
    let old = c.new-bytes.result.items in
    let read = c.read_to_end.new.buf.items in
    let whole = on_ok (IfSome (option_map (λ all. take limit all) known) (λ all. read ≡ old ++ all)) c.read_to_end.result c.map_err.result c.in_ok-map_err.field-0 c.in_ok-map_err.was c.map_err.ensures.variant c.read_to_end.ensures.bytes in
    let small : length read < 2 ^ 63 = omega (arith, c.read_to_end.new.buf.ok.0, c.read_to_end.new.buf.small) in
    let same = ap (λ f. g.F.Read.remaining f) c.take.ensures.inner in
    rw c.truncate.ensures.items (front-read file known old read limit c.args.max most same c.new-bytes.ensures.items c.take.ensures.limit c.saturating_add-most.ensures small whole)
