use Rattle.std.proofs.Common.{◌<◌, Some, Err, sym, subst}
use Rattle.dynamo_record.proofs.Common.{err_from_is_err_and, read_entries, stops_before, IsLast}
use Rattle.dynamo_record.proofs.Common.{of_tagged, FromEntries}
use Rattle.dynamo_record.proofs.Answering.{goes_on}
use Rattle.dynamo_record.proofs.HeldEntries.{last_inside}
use Rattle.dynamo_record.proofs.TaggedRead.{tagged_by_source}
use Rattle.dynamo_record.proofs.tagged_enum.read_tagged.Goals as goal

pub returns-in_err-entries : goal.returns-in_err-entries
returns-in_err-entries g c =
    let a = of_tagged g.T.TaggedEnum.about g.T.Variants.TaggedList.about in
    let p = err_from_is_err_and c.from_residual.result c.from_residual.ensures.1 in
    rw (p.1, p.2) (tagged_by_source a g.D.Error.Error.fault (g.D.Reader.source c.args.deserializer) (Err c.in_err-entries.field-0.0) (stops_before g.D.Error.Error.fault g.D.Reader.entries (FromEntries a) _ c.in_err-entries.field-0.0 c.in_err-entries.ensures))

pub read_variant-requires-clause-inside : goal.read_variant-requires-clause-inside
read_variant-requires-clause-inside g c =
    let held = c.in_ok-held.held in
    let es = g.D.Reader.entries c.in_ok-entries.entries in
    let last = subst (IsLast c.tag.result.now es) c.in-Some.is c.in_ok-held.ensures.1 in
    subst (λ n. c.in-Some.place < n) (sym held.ok.0) (last_inside c.tag.result.now g.D.Reader.source held.items es c.in-Some.place c.in_ok-held.ensures.0 last)

pub returns-in-Some : goal.returns-in-Some
returns-in-Some g c =
    let a = of_tagged g.T.TaggedEnum.about g.T.Variants.TaggedList.about in
    let fault = g.D.Error.Error.fault in
    let es = g.D.Reader.entries c.in_ok-entries.entries in
    let last = subst (λ t. IsLast t es (Some c.in-Some.place)) c.tag.ensures (subst (IsLast c.tag.result.now es) c.in-Some.is c.in_ok-held.ensures.1) in
    tagged_by_source a fault (g.D.Reader.source c.args.deserializer) c.read_variant.result
    (goes_on fault g.D.Reader.entries (read_entries (g.D.Reader.source c.args.deserializer)) (FromEntries a) c.in_ok-entries.entries c.read_variant.result c.in_ok-entries.ensures (c.read_variant.ensures es c.in_ok-held.ensures.0 last))
